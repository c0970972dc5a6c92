-- `frame::Coder::new` meets its contract: the resting set, its cosines, and zeros. Assumes nothing.
use mathlib.Core.Path.{◌≡◌, refl, ◌∙◌}
use mathlib.Core.List.{List}
use lib.Ieee.{Float, of_bits}
use Rattle.std.specs.Prelude.{Result, Ok, Err}
use Rattle.std.specs.Result.{result_unwrap_or}
use Rattle.float.specs.Vector.{zeros}
use Rattle.float.specs.Lines.{as_lines}
use Rattle.float.specs.declared.status.Refusal.{Refusal}
use Rattle.convert.specs.Convert.{freq_to_cosines}
use Rattle.spec_lsp.specs.Resting.{resting}
use Rattle.frame.specs.declared.Coder.{Coder}
use Rattle.frame.specs.Coder.{new_coder}
use Rattle.frame.proofs.Coder.new.Goals as goal

-- a refusal's lines are zeros
lines_else : (r : Result (List Float) Refusal) → result_unwrap_or r (zeros 10) ≡ (as_lines r).lines
lines_else (Ok x) = refl
lines_else (Err e) = refl

made : (set lines : List Float) (c : Result (List Float) Refusal) → set ≡ resting → as_lines c ≡ freq_to_cosines set →
    lines ≡ result_unwrap_or c (zeros 10) →
    ◌≡◌ {A = Coder} (record { set = set; lines = lines; x_mem = zeros 10; f_mem = zeros 10; weighted = zeros 145 }) new_coder
unfolding new_coder
made set lines c e f g = rw (g ∙ lines_else c, f, e)

pub returns : goal.returns
unfolding of_bits
returns c = search made
