-- What an answer says of the definition's, refused and done: of ten lines, and of a filter. Assumes nothing.
use Rattle.std.proofs.Common.{◌≡◌, ℕ, List, ap, sym}
use lib.Ieee.{Float}
use Rattle.float.specs.Lines.{Lines, refused_lines, done_lines}
use Rattle.lsp_filter.specs.Polynomial.{LpcCoefficients, refused_lpc}

pub number_of : {n : ℕ} (l : Lines) → refused_lines n ≡ l → n ≡ l.status
number_of l e = ap (λ (m : Lines). m.status) e

pub none_of : {xs : List Float} (l : Lines) → done_lines xs ≡ l → ◌≡◌ {A = ℕ} 0 l.status
none_of l e = ap (λ (m : Lines). m.status) e

pub lines_of : {xs : List Float} (l : Lines) → done_lines xs ≡ l → xs ≡ l.lines
lines_of l e = ap (λ (m : Lines). m.lines) e

pub filter_number : {n : ℕ} (f : LpcCoefficients) → refused_lpc n ≡ f → f.status ≡ n
unfolding refused_lpc
filter_number f e = sym (ap (λ (g : LpcCoefficients). g.status) e)

pub filter_none : {a : List Float} (f : LpcCoefficients) → ◌≡◌ {A = LpcCoefficients} (record { status = 0; a = a }) f → f.status ≡ 0
filter_none f e = sym (ap (λ (g : LpcCoefficients). g.status) e)

pub ruleset parts = (number_of, none_of, lines_of, filter_number, filter_none)
