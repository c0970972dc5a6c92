-- What the search finds, for any errors, infinities and NaN among them: no row's error is smaller than that of the row found, none before
-- it has an error that is no larger, and it is one of the rows. Assumes nothing.
use mathlib.Core.Path.{◌≡◌, refl, subst}
use mathlib.Core.Logic.{◌⊎◌, inl, inr}
use mathlib.Core.Bool.{Bool, true, false, cond}
use Prim.Native.Nat.{ℕ, zero, suc, ◌<◌}
use native.Mathlib.Nat.{not-suc-le-zero}
use native.Mathlib.Omega.{arith}
use lib.Dec.{T}
use lib.Ieee.{Float, nan, inf, fin, lt, le}
use Rattle.float.proofs.Loop.{one_more}
use Rattle.float.proofs.Strict.{lt_self, lt_trans_any, le_lt_trans}
use Rattle.row_search.specs.Search.{better, among, best}

-- the smallest so far and its index, after n errors
record Least (error : ℕ → Float) (n : ℕ) (found : Float × ℕ) : Type 0 where
  none_smaller : (k : ℕ) → k < n → T (lt (error k) found.0) → ⊥
  none_before : (k : ℕ) → k < found.1 → T (le (error k) found.0) → ⊥
  is : (found.0 ≡ error found.1) ⊎ ((found.0 ≡ inf false) × (found.1 ≡ 0))
  one : (found.1 ≡ 0) ⊎ (found.1 < n)

step : (error : ℕ → Float) (n : ℕ) (found : Float × ℕ) (b : Bool) → lt (error n) found.0 ≡ b →
    Least error n found → Least error (suc n) (cond b (error n, n) found)
step error n found true h r =
    let t : T (lt (error n) found.0) = rw h tt in
    record {
      none_smaller =
          one_more (λ (k : ℕ). T (lt (error k) (error n)) → ⊥) n
          (λ k l s. r.none_smaller k l (lt_trans_any (error k) (error n) found.0 s t)) (lt_self (error n));
      none_before = λ k l s. r.none_smaller k l (le_lt_trans (error k) (error n) found.0 s t);
      is = inl refl;
      one = inr (omega arith);
    }
step error n found false h r = record {
  none_smaller = one_more (λ (k : ℕ). T (lt (error k) found.0) → ⊥) n r.none_smaller (λ s. subst T h s);
  none_before = r.none_before;
  is = r.is;
  one = later r.one;
}
  where
    later : (found.1 ≡ 0) ⊎ (found.1 < n) → (found.1 ≡ 0) ⊎ (found.1 < suc n)
    later (inl e) = inl e
    later (inr l) = inr (omega arith)

least : (error : ℕ → Float) (n : ℕ) → Least error n (among error n)
unfolding among better
least error zero = record {
  none_smaller = λ k l s. not-suc-le-zero l;
  none_before = λ k l s. not-suc-le-zero l;
  is = inr (refl, refl);
  one = inl refl;
}
least error (suc n) = step error n (among error n) (lt (error n) (among error n).0) refl (least error n)

-- nothing is below a NaN, nor below what is not below infinity
top : (x y : Float) → (T (lt x (inf false)) → ⊥) → (T (lt y (inf false)) → ⊥) → T (lt y x) → ⊥
unfolding lt
top nan nan h k t = t
top nan (inf s) h k t = t
top nan (fin s m e) h k t = t
top (inf true) y h k t = h tt
top (inf false) y h k t = k t
top (fin s m e) y h k t = h tt

-- ---- the laws
-- no row has a smaller error
pub none_smaller : (error : ℕ → Float) (n k : ℕ) → k < n → T (lt (error k) (error (best error n))) → ⊥
none_smaller error n k l = go (least error n).is
  where
    r : Least error n (among error n)
    r = least error n

    go : ((among error n).0 ≡ error (best error n)) ⊎ (((among error n).0 ≡ inf false) × (best error n ≡ 0)) →
        T (lt (error k) (error (best error n))) → ⊥
    go (inl e) t = r.none_smaller k l (rw e t)
    go (inr p) t =
        top (error (best error n)) (error k)
        (λ s. r.none_smaller (best error n) (rw p.1 (omega arith)) (rw p.0 s))
        (λ s. r.none_smaller k l (rw p.0 s)) t

-- and none before it has one as small
pub none_before : (error : ℕ → Float) (n k : ℕ) → k < best error n → T (le (error k) (error (best error n))) → ⊥
none_before error n k l = go (least error n).is
  where
    go : ((among error n).0 ≡ error (best error n)) ⊎ (((among error n).0 ≡ inf false) × (best error n ≡ 0)) →
        T (le (error k) (error (best error n))) → ⊥
    go (inl e) t = (least error n).none_before k l (rw e t)
    go (inr p) t = absurd (not-suc-le-zero (subst (λ (b : ℕ). k < b) p.1 l))

-- it is one of the rows
pub best_lt : (error : ℕ → Float) (n : ℕ) → 0 < n → best error n < n
best_lt error n h = go (least error n).one
  where
    go : (best error n ≡ 0) ⊎ (best error n < n) → best error n < n
    go (inl e) = rw e h
    go (inr l) = l
