-- Harmonic noise shaping over all harmonic inputs at once, so that the history is moved once a subframe. Its law, that these are the
-- cascade's outputs: `out-shaped` in proofs/History.antt. Vocabulary of the code, for §2.12's last stage. Assumes nothing.
use Rattle.std.specs.Prelude.{ℕ, ◌+◌, ◌-◌, List, Float}
use Rattle.float.specs.Single.{◌⊖◌, ◌⊗◌}
use Rattle.float.specs.Vector.{at}

-- m values before a subframe with its harmonic inputs after them, shaped at sample n
abbrev pub shaped : ℕ → ℕ → Float → List Float → ℕ → Float
shaped m lag beta p n = at p (n + m) ⊖ beta ⊗ at p (n + m - lag)
