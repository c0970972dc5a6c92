-- `correlation::window_in` meets its contract: each place holds its windowed sample. Assumes nothing.
use Rattle.std.proofs.Common.{◌≡◌, ℕ, List, get_or, ℤ, pos, ◌∙◌, rules}
use lib.Ieee.{Float, nan, binary32, of_int, of_bits, round}
use Rattle.float.specs.Single.{◌⊗◌, ◌⊘◌, single}
use Rattle.float.proofs.FromFn.{from_fn_table}
use Rattle.spec_tables.specs.Window.{hamming_window}
use Rattle.correlation.specs.Correlation.{windowed}
use Rattle.correlation.proofs.window_in.Goals as goal

place : (t : List ℤ) (x : List Float) (i : ℕ) (n v : Float) → t ≡ hamming_window → n ≡ of_int binary32 (get_or t i (pos 0)) →
    v ≡ get_or x i nan ⊗ (n ⊘ of_bits binary32 1191182336) → v ≡ windowed x i
unfolding windowed single round of_bits
place t x i n v e f g = g ∙ rw (f, e)

pub returns : goal.returns
returns c = from_fn_table _ (windowed c.args.x.now) _ 180 (λ i y q b k. search (place, rules)) _ nan c.from_fn.ensures.items
