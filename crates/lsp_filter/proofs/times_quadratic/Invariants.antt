-- `lsp_filter::times_quadratic` meets its contract: the places above i are new and those up to i are old, so that
-- each new one is made of old ones. Assumes nothing.
use Rattle.lsp_filter.proofs.InPlace.{Lowered}
use Rattle.lsp_filter.proofs.times_quadratic.Given as goal

abbrev pub invariant-loop-i : goal.invariant-loop-i
invariant-loop-i l = Lowered l.d l.c l.initial.out l.i l.out
