-- `combined::arrays::Arrays::sixty_samples` meets its contract: after n turns the arrays are those of n steps from the first sample begun. Assumes nothing.
use Rattle.float.proofs.Loop.{Went}
use Rattle.combined.specs.inner.Made.{arrays_of, settings_of}
use Rattle.combined.specs.inner.Step.{stepped}
use Rattle.combined.proofs.arrays.Arrays.sixty_samples.Given as goal

abbrev pub invariant-loop-n : goal.invariant-loop-n
invariant-loop-n l = Went 0 59 (stepped (settings_of l.q) l.input) (arrays_of l.initial.self) l.n (arrays_of l.self)
