-- `voice::weigh_frame` meets its contract: the subframes before s are done. Assumes nothing.
use Rattle.voice.proofs.Subframes.{So}
use Rattle.voice.proofs.weigh_frame.Given as goal

abbrev pub invariant-loop-s : goal.invariant-loop-s
invariant-loop-s l = So l.fn.x_mem l.fn.f_mem l.past l.windows l.x l.s l.x_mem l.f_mem l.speech
