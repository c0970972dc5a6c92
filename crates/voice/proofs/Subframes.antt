-- The four subframes one after the other: before turn s those below s are done, the memories are what the last of them has left, and the
-- speech begins with the past and with what they made. Assumes nothing.
use mathlib.Core.Path.{◌≡◌, refl, sym, ap, subst, ◌∙◌}
use mathlib.Core.List.{List, [], ◌∷◌, ◌++◌}
use Prim.Native.Nat.{ℕ, zero, suc, ◌+◌, ◌-◌, ◌*◌, ◌≤◌, ◌<◌}
use native.Mathlib.Omega.{arith}
use lib.ListN.{length, take, drop, get_or}
use lib.Seq.{take_at, take_all}
use borrow.Rule.Slice.PartMut.{put_mid}
use Rattle.std.proofs.lemmas.Slice.{take-put_mid}
use Rattle.std.proofs.lemmas.List.{length-append, length-take, length-drop}
use Rattle.frame_parts.proofs.Told.{first_told, later_told}
use lib.Ieee.{Float}
use native.Mathlib.Nat.{eq-or-lt_of_le}
use mathlib.Core.Logic.{inl, inr}
use Rattle.float.specs.Answered.{number}
use Rattle.float.specs.Refusal.{first_of}
use Rattle.float.specs.declared.status.Refusal.{Refusal}
use Rattle.weighting.specs.Filter.{Weighted}
use Rattle.frame_parts.specs.Parts.{subframe}
use Rattle.frame_parts.specs.Four.{four_of}
use Rattle.voice.specs.Weighting.{weighed, next, weighting}

-- the part of subframe s, as the code takes it
pub part_is : (s : ℕ) (x : List Float) → take (60 + 60 * s + 60 - (60 + 60 * s)) (drop (60 + 60 * s) x) ≡ subframe x s
part_is s x =
    let n : 60 + 60 * s + 60 - (60 + 60 * s) ≡ 60 = omega arith in
    rw n

module _ (xs fs past : List Float) (w : List (List Float)) (x : List Float) where
  -- what subframe s answers
  pub subframe_at : ℕ → Weighted
  subframe_at zero = weighed (get_or w 0 []) (subframe x 0) xs fs
  subframe_at (suc s) = next (get_or w (suc s) []) (subframe x (suc s)) (subframe_at s)

  -- the memories before it, and the speech
  pub inputs : ℕ → List Float
  inputs zero = xs
  inputs (suc s) = (subframe_at s).x_mem

  pub outputs : ℕ → List Float
  outputs zero = fs
  outputs (suc s) = (subframe_at s).f_mem

  pub heard : ℕ → List Float
  heard zero = past
  heard (suc s) = heard s ++ (subframe_at s).out

  pub record So (s : ℕ) (xm fm speech : List Float) : Type 0 where
    pub done : (k : ℕ) → k < s → (subframe_at k).status ≡ 0
    pub in_memory : xm ≡ inputs s
    pub out_memory : fm ≡ outputs s
    pub long : length speech ≡ 385
    pub begins : take (145 + 60 * s) speech ≡ heard s

  -- what the code is answered for subframe s
  own : (s : ℕ) {xm fm speech : List Float} → So s xm fm speech → weighed (get_or w s []) (subframe x s) xm fm ≡ subframe_at s
  unfolding subframe_at inputs outputs
  own s r = rw (r.in_memory, r.out_memory) (go s)
    where
      go : (s : ℕ) → weighed (get_or w s []) (subframe x s) (inputs s) (outputs s) ≡ subframe_at s
      go zero = refl
      go (suc s) = refl

  pub start : (zeros : List Float) → length past ≡ 145 → length zeros ≡ 385 → So 0 xs fs (past ++ drop 145 zeros)
  unfolding inputs outputs heard
  start zeros l h = record {
    done = λ k b. absurd (omega arith);
    in_memory = refl;
    out_memory = refl;
    long = simp (length-append, length-drop) (omega arith);
    begins = take_at past (drop 145 zeros) 145 l;
  }

  -- turn s: y is the part of x, and the answer is a
  module _ (s : ℕ) (xm fm speech : List Float) (h : s < 4) (r : So s xm fm speech) (y : List Float) (p : y ≡ subframe x s) where
    pub answered_as : {a : Weighted} → a ≡ weighed (get_or w s []) y xm fm → a ≡ subframe_at s
    answered_as e = e ∙ rw p (own s r)

    pub turn : (a : Weighted) (k : ℕ) → a ≡ weighed (get_or w s []) y xm fm → a.status ≡ 0 → length a.out ≡ 60 → k ≡ 60 →
        So (s + 1) a.x_mem a.f_mem (put_mid (145 + 60 * s) k speech a.out)
    unfolding inputs outputs heard
    turn a k e z l q =
        let b : a ≡ subframe_at s = answered_as e in
        let room : 145 + 60 * s ≤ length speech = omega (arith, r.long) in
        let next : 145 + 60 * (s + 1) ≡ 145 + 60 * s + length a.out = omega arith in
        let n : s + 1 ≡ suc s = omega arith in
        record {
          done = λ j m. elim (eq-or-lt_of_le m) [
            | inl f ↦
                let o : s ≡ j = omega arith in
                subst (λ (i : ℕ). (subframe_at i).status ≡ 0) o (rw b at z)
            | inr f ↦ r.done j (omega arith)
          ];
          in_memory = rw n (ap (λ (v : Weighted). v.x_mem) b);
          out_memory = rw n (ap (λ (v : Weighted). v.f_mem) b);
          long = simp (length-append, length-take, length-drop) (omega (arith, r.long));
          begins = rw (next, take-put_mid (145 + 60 * s) k speech a.out (145 + 60 * s + length a.out) refl room, r.begins, n, b);
        }

  -- ---- the whole
  by_subframes : (s0 s1 s2 s3 : Weighted) → s0 ≡ weighed (get_or w 0 []) (subframe x 0) xs fs → s1 ≡ next (get_or w 1 []) (subframe x 1) s0 →
      s2 ≡ next (get_or w 2 []) (subframe x 2) s1 → s3 ≡ next (get_or w 3 []) (subframe x 3) s2 →
      weighting xs fs past (four_of w) x ≡ record {
        status = first_of (s0.status ∷ s1.status ∷ s2.status ∷ s3.status ∷ []);
        speech = past ++ s0.out ++ s1.out ++ s2.out ++ s3.out;
        x_mem = s3.x_mem;
        f_mem = s3.f_mem;
      }
  unfolding weighting
  by_subframes s0 s1 s2 s3 e0 e1 e2 e3 = rw (e3, e2, e1, e0)

  whole : weighting xs fs past (four_of w) x ≡ record {
    status = first_of ((subframe_at 0).status ∷ (subframe_at 1).status ∷ (subframe_at 2).status ∷ (subframe_at 3).status ∷ []);
    speech = heard 4;
    x_mem = inputs 4;
    f_mem = outputs 4;
  }
  unfolding subframe_at inputs outputs heard
  whole = by_subframes (subframe_at 0) (subframe_at 1) (subframe_at 2) (subframe_at 3) refl refl refl refl

  pub first_status : (s : ℕ) (e : Refusal) → s < 4 → ((k : ℕ) → k < s → (subframe_at k).status ≡ 0) →
      number e ≡ (subframe_at s).status → (weighting xs fs past (four_of w) x).status ≡ number e
  first_status s e h d f = rw whole (go s h d f)
    where
      go : (s : ℕ) → s < 4 → ((k : ℕ) → k < s → (subframe_at k).status ≡ 0) → number e ≡ (subframe_at s).status →
          first_of ((subframe_at 0).status ∷ (subframe_at 1).status ∷ (subframe_at 2).status ∷ (subframe_at 3).status ∷ []) ≡ number e
      go zero h d f = first_told e _ (sym f)
      go (suc zero) h d f = later_told (d 0 (omega arith)) (first_told e _ (sym f))
      go (suc (suc zero)) h d f = later_told (d 0 (omega arith)) (later_told (d 1 (omega arith)) (first_told e _ (sym f)))
      go (suc (suc (suc zero))) h d f =
          later_told (d 0 (omega arith)) (later_told (d 1 (omega arith)) (later_told (d 2 (omega arith)) (first_told e _ (sym f))))
      go (suc (suc (suc (suc s)))) h d f = absurd (omega arith)

  pub all : (s : ℕ) (xm fm speech : List Float) → 4 ≤ s → s ≤ 4 → So s xm fm speech →
      weighting xs fs past (four_of w) x ≡ record { status = 0; speech = speech; x_mem = xm; f_mem = fm }
  all s xm fm speech h l r =
      let four : s ≡ 4 = omega arith in
      let d = λ (k : ℕ) (b : k < 4). r.done k (omega arith) in
      let said : heard 4 ≡ speech = rw (← four, ← r.begins, four) (take_all 385 speech (omega (arith, r.long))) in
      whole ∙ rw (d 0 (omega arith), d 1 (omega arith), d 2 (omega arith), d 3 (omega arith), said, r.in_memory, r.out_memory, four)
