-- Splitting and combining an index undo each other. Splitting takes exactly the words of 24 bits, so that a word that it takes is the only
-- one of its three rows: no other word decodes in its place. Assumes nothing.
use mathlib.Core.Path.{◌≡◌, refl, sym, ap, ◌∙◌}
use mathlib.Core.Bool.{Bool, true, false, cond}
use mathlib.Core.List.{[], ◌∷◌}
use Prim.Native.Nat.{ℕ, ◌+◌, ◌*◌, ◌/◌, ◌%◌, ◌≤◌, ◌<◌}
use native.Mathlib.Omega.{arith}
use borrow.Author.Tests.{lt-ltb, le-ltb}
use lib.Dec.{ltb→lt, nltb→le}
use Rattle.lsp_index.specs.Index.{combine, bytes, too_long, refused_split, split_as, split}

-- ---- the three bytes
combine_bytes : (index : ℕ) → index ≤ 16777215 → combine (bytes index) ≡ index
combine_bytes index h =
    let a : index / 65536 ≡ index / 256 / 256 = omega arith in
    omega arith

bytes_combine : (a b c : ℕ) → a < 256 → b < 256 → c < 256 → bytes (combine (a ∷ b ∷ c ∷ [])) ≡ a ∷ b ∷ c ∷ []
bytes_combine a b c h k l =
    let n = a * 65536 + b * 256 + c in
    let p : n / 65536 % 256 ≡ a = omega arith in
    let q : n / 256 % 256 ≡ b = omega arith in
    let r : n % 256 ≡ c = omega arith in
    rw (p, q, r)

pub combine_24 : (a b c : ℕ) → a < 256 → b < 256 → c < 256 → combine (a ∷ b ∷ c ∷ []) ≤ 16777215
combine_24 a b c h k l = omega arith

-- ---- what is taken, and what is refused
pub split_takes : (index : ℕ) → index ≤ 16777215 → split index ≡ split_as (bytes index)
unfolding split
split_takes index h = rw (le-ltb 16777215 index h)

pub split_refuses : (index : ℕ) → 16777215 < index → split index ≡ refused_split 9
unfolding split
split_refuses index h = rw (lt-ltb 16777215 index h)

-- the status tells which
by_length : (P : ℕ → Type 0) (index : ℕ) → (index ≤ 16777215 → P 0) → (16777215 < index → P 9) → P (split index).status
by_length P index f g = go (too_long index) refl
  where
    go : (b : Bool) → too_long index ≡ b → P (split index).status
    go true e =
        let h = ltb→lt 16777215 index (rw e tt) in
        rw (split_refuses index h) (g h)
    go false e =
        let h = nltb→le 16777215 index (rw e tt) in
        rw (split_takes index h) (f h)

pub split_status : (index : ℕ) → (split index).status ≡ cond (too_long index) 9 0
split_status index =
    by_length (λ n. n ≡ cond (too_long index) 9 0) index (λ h. rw (le-ltb 16777215 index h)) (λ h. rw (lt-ltb 16777215 index h))

pub taken_24 : (index : ℕ) → (split index).status ≡ 0 → index ≤ 16777215
taken_24 index = by_length (λ n. n ≡ 0 → index ≤ 16777215) index (λ h e. h) (λ h e. absurd (omega arith))

pub refused_above : (index : ℕ) → (split index).status ≡ 9 → 16777215 < index
refused_above index = by_length (λ n. n ≡ 9 → 16777215 < index) index (λ h e. absurd (omega arith)) (λ h e. h)

-- ---- each undoes the other
pub split_combine : (a b c : ℕ) → a < 256 → b < 256 → c < 256 →
    split (combine (a ∷ b ∷ c ∷ [])) ≡ split_as (a ∷ b ∷ c ∷ [])
split_combine a b c h k l =
    split_takes (combine (a ∷ b ∷ c ∷ [])) (combine_24 a b c h k l) ∙ ap split_as (bytes_combine a b c h k l)

pub combine_split : (index : ℕ) → (split index).status ≡ 0 → combine (split index).bands ≡ index
combine_split index h =
    let k = taken_24 index h in
    rw (split_takes index k) (combine_bytes index k)

pub only_word : (i j : ℕ) → (split i).status ≡ 0 → (split j).status ≡ 0 → (split i).bands ≡ (split j).bands → i ≡ j
only_word i j h k e = sym (combine_split i h) ∙ ap combine e ∙ combine_split j k
