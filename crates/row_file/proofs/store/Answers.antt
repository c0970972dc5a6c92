-- `row_file::store` meets its contract: after i turns the first i places hold the file's numbers. Assumes nothing.
use Rattle.std.proofs.Common.{rules, ◌≡◌, ◌∙◌, ℕ, ◌+◌, ◌<◌, ℤ, List, [], length}
use lib.ListN.{get_or, set}
use mir.Facts.{to_z-of_z}
use mir.Syntax.{w16}
use mir.Val.{SFits, to_z, of_z}
use Rattle.float.proofs.Mapped.{filled_map}
use Rattle.float.proofs.Table.{Filled, filled_none, filled_more}
use Rattle.row_file.specs.inner.Numbers.{number_of}
use Rattle.row_file.proofs.store.Goals as goal

-- a number more: what is stored of its sixteen bits is the number
more : (numbers : List (List ℕ)) (i : ℕ) (rows : List ℤ) {n : ℤ} → i < length numbers → SFits w16 n → n ≡ number_of (get_or numbers i []) →
    Filled (length numbers) (λ k. number_of (get_or numbers k [])) i rows →
    Filled (length numbers) (λ k. number_of (get_or numbers k [])) (i + 1) (set rows i (to_z w16 (of_z w16 n)))
more numbers i rows h f e r = filled_more (length numbers) _ i rows _ h (to_z-of_z {w = w16} f ∙ e) r

pub loop-i-init : goal.loop-i-init
loop-i-init c = filled_none _ _ _ (search rules)

pub loop-i-preserved : goal.loop-i-preserved
loop-i-preserved c = more _ _ _ (search rules) (search rules) c.number.ensures c.loop-i.invariant

pub returns : goal.returns
returns c = filled_map number_of _ _ _ _ _ (search rules) (search rules) c.loop-i.invariant
