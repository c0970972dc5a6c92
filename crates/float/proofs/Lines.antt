-- What is read beside a refusal of ten lines: its number and ten zeros. Assumes nothing.
use mathlib.Core.Path.{◌≡◌, refl}
use Rattle.std.proofs.Common.{Err}
use Rattle.float.specs.declared.status.Refusal.{Refusal}
use Rattle.float.specs.Vector.{zeros}
use Rattle.float.specs.Answered.{number}
use Rattle.float.specs.Lines.{as_lines}

pub zeros_beside : (r : Refusal) → (as_lines (Err r)).lines ≡ zeros 10
zeros_beside r = refl

pub number_beside : (r : Refusal) → (as_lines (Err r)).status ≡ number r
number_beside r = refl
