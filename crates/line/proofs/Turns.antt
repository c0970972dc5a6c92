-- A turn of the line between a coder with any rows and any choice of an index of 24 bits, and the decoder with the same rows: both ends go
-- on holding sets, and no set and no index is refused. Then runs of turns: equal ends stay equal while no index is lost, and other ends
-- come closer with each arrival. Assumes nothing.
use mathlib.Core.Path.{◌≡◌, refl, sym, ap, ◌∙◌, subst}
use mathlib.Core.Bool.{Bool, true, false, ◌&&◌, cond}
use mathlib.Core.List.{List, [], ◌∷◌}
use Prim.Native.Nat.{ℕ, suc, ◌+◌, ◌*◌, ◌^◌, ◌≤◌, ◌<◌}
use native.Mathlib.Nat.{le_refl}
use native.Mathlib.Omega.{arith}
use lib.Dec.{eqb→eq}
use lib.IntN.{ℤ}
use lib.Ieee.{Float}
use Rattle.float.specs.Difference.{difference}
use Rattle.float.specs.Vector.{at}
use Rattle.spec_lsp.specs.Decode.{decoded, decode_lsp_freq}
use Rattle.spec_lsp.specs.Quantise.{quantise_by}
use Rattle.spec_lsp.proofs.Refusals.{decode_done, quantised_set}
use Rattle.line.specs.declared.Turn.{Turn}
use Rattle.line.specs.declared.Ends.{Ends}
use Rattle.line.specs.Line.{sends, arrives, loses, received, step, run, tally, arrivals, losses}
use Rattle.line.specs.Claim.{Passing, Short}
use Rattle.line.proofs.Counts.{zero_sum, brought}
use Rattle.line.proofs.Held.{u, Held, held_decoded, held_finite, held_bounded, decoded_shrinks}
use Rattle.line.proofs.Powers.{none, more}

pub record Both (ends : Ends) : Type 0 where
  pub coder : Held ends.coder
  pub decoder : Held ends.decoder

module _ (rows : List ℤ) (R : Passing rows) (choice : List Float → List Float → ℕ) (C : Short choice) where
  -- ---- the decoder takes what arrives
  pub takes : (index : ℕ) (set : List Float) → index ≤ 16777215 → Held set →
      decode_lsp_freq rows index set ≡ record { status = 0; lines = decoded rows index set }
  takes index set l p = decode_done rows index set l (held_finite set p) (held_bounded set p)

  receives : (index : ℕ) (set : List Float) → index ≤ 16777215 → Held set →
      received (decode_lsp_freq rows) index set ≡ decoded rows index set
  receives index set l p = rw (takes index set l p)

  -- ---- one turn
  abbrev index : Ends → Turn → ℕ
  index ends t = choice t.given ends.coder

  -- what is sent and brought changes both sets alike
  abbrev after : Ends → Turn → Bool → Ends
  after ends t brought = record {
    coder = decoded rows (index ends t) ends.coder;
    decoder = cond brought (decoded rows (index ends t) ends.decoder) ends.decoder;
  }

  abbrev next : Ends → Turn → Ends
  next = step (quantise_by rows choice) (decode_lsp_freq rows)

  sent : (ends : Ends) (t : Turn) → Both ends → sends (quantise_by rows choice) ends t ≡ true →
      next ends t ≡ after ends t t.brings
  unfolding step
  sent ends t b h =
      let q = quantised_set rows choice t.given ends.coder (eqb→eq _ 0 (rw h tt)) in
      rw (q, receives (index ends t) ends.decoder (C t.given ends.coder) b.decoder)

  not_sent : (ends : Ends) (t : Turn) → sends (quantise_by rows choice) ends t ≡ false → next ends t ≡ ends
  unfolding step
  not_sent ends t h = rw h

  -- what holds of the ends where nothing is sent, and of both sets decoded, or the coder's alone, where something is, holds after the turn
  pub each_turn : (P : Ends → Type 0) (ends : Ends) (t : Turn) → Both ends →
      (sends (quantise_by rows choice) ends t ≡ false → P ends) →
      (sends (quantise_by rows choice) ends t ≡ true → P (after ends t t.brings)) → P (next ends t)
  each_turn P ends t b f g = go (sends (quantise_by rows choice) ends t) refl
    where
      go : (s : Bool) → sends (quantise_by rows choice) ends t ≡ s → P (next ends t)
      go false h = subst P (sym (not_sent ends t h)) (f h)
      go true h = subst P (sym (sent ends t b h)) (g h)

  pub kept : (ends : Ends) (t : Turn) → Both ends → Both (next ends t)
  kept ends t b =
      each_turn Both ends t b (λ h. b)
      (λ h. record { coder = held_decoded rows R (index ends t) ends.coder b.coder; decoder = either t.brings })
    where
      either : (brought : Bool) → Held (cond brought (decoded rows (index ends t) ends.decoder) ends.decoder)
      either true = held_decoded rows R (index ends t) ends.decoder b.decoder
      either false = b.decoder

  -- ---- a run of turns
  abbrev runs : Ends → List Turn → Ends
  runs = run (quantise_by rows choice) (decode_lsp_freq rows)

  pub run_kept : (ends : Ends) (ts : List Turn) → Both ends → Both (runs ends ts)
  unfolding run
  run_kept ends [] b = b
  run_kept ends (t ∷ ts) b = run_kept (next ends t) ts (kept ends t b)

  -- no loss in a run: none in its first turn, and none after it
  no_loss : (ends : Ends) (t : Turn) (ts : List Turn) →
      losses (quantise_by rows choice) (decode_lsp_freq rows) ends (t ∷ ts) ≡ 0 →
      (loses (quantise_by rows choice) ends t ≡ false) × (losses (quantise_by rows choice) (decode_lsp_freq rows) (next ends t) ts ≡ 0)
  unfolding tally
  no_loss ends t ts h = zero_sum (loses (quantise_by rows choice) ends t) (losses (quantise_by rows choice) (decode_lsp_freq rows) (next ends t) ts) h

  pub equal_run : (ends : Ends) (ts : List Turn) → Both ends →
      losses (quantise_by rows choice) (decode_lsp_freq rows) ends ts ≡ 0 → ends.coder ≡ ends.decoder →
      (runs ends ts).coder ≡ (runs ends ts).decoder
  unfolding run
  equal_run ends [] b l e = e
  equal_run ends (t ∷ ts) b l e =
      let n = no_loss ends t ts l in
      equal_run (next ends t) ts (kept ends t b) n.1
      (each_turn (λ (x : Ends). x.coder ≡ x.decoder) ends t b (λ h. e)
      (λ h.
      let comes : t.brings ≡ true = brought (sends (quantise_by rows choice) ends t) t.brings n.0 h in
      subst (λ (v : Bool). (after ends t v).coder ≡ (after ends t v).decoder) (sym comes) (ap (decoded rows (index ends t)) e)))

  -- ---- arrivals bring the ends closer
  abbrev apart : Ends → ℕ → ℕ
  apart ends i = difference (at ends.coder i) (at ends.decoder i)

  abbrev count : Ends → List Turn → ℕ
  count = arrivals (quantise_by rows choice) (decode_lsp_freq rows)

  abbrev Bounded : ℕ → ℕ → ℕ → Type 0
  Bounded n d D = 8 ^ n * d + 3 ^ n * (32 * u) ≤ 3 ^ n * D + 8 ^ n * (32 * u)

  not_counted : (ends : Ends) (t : Turn) (ts : List Turn) → arrives (quantise_by rows choice) ends t ≡ false →
      count ends (t ∷ ts) ≡ count (next ends t) ts
  unfolding tally
  not_counted ends t ts h = ap (λ (b : Bool). cond b 1 0 + count (next ends t) ts) h ∙ nothing (count (next ends t) ts)
    where
      nothing : (n : ℕ) → 0 + n ≡ n
      nothing n = omega arith

  counted : (ends : Ends) (t : Turn) (ts : List Turn) → arrives (quantise_by rows choice) ends t ≡ true →
      count ends (t ∷ ts) ≡ suc (count (next ends t) ts)
  unfolding tally
  counted ends t ts h = ap (λ (b : Bool). cond b 1 0 + count (next ends t) ts) h ∙ one (count (next ends t) ts)
    where
      one : (n : ℕ) → 1 + n ≡ suc n
      one n = omega arith

  Rest : Ends → List Turn → ℕ → Type 0
  Rest ends ts i = (D : ℕ) → apart ends i ≤ D → Bounded (count ends ts) (apart (runs ends ts) i) D

  -- a turn before a run
  turn_before : (ends : Ends) (t : Turn) (ts : List Turn) → Both ends →
      loses (quantise_by rows choice) ends t ≡ false → (i : ℕ) → i < 10 → Rest (next ends t) ts i →
      (D : ℕ) → apart ends i ≤ D → Bounded (count ends (t ∷ ts)) (apart (runs (next ends t) ts) i) D
  unfolding Rest
  turn_before ends t ts b l i h rest D d = go (sends (quantise_by rows choice) ends t) refl
    where
      wider : (x e D k : ℕ) → e ≤ D → x ≤ 3 * e + k → x ≤ 3 * D + k
      wider x e D k h l = omega arith

      go : (s : Bool) → sends (quantise_by rows choice) ends t ≡ s →
          Bounded (count ends (t ∷ ts)) (apart (runs (next ends t) ts) i) D
      go false e =
          subst (λ (m : ℕ). Bounded m (apart (runs (next ends t) ts) i) D) (sym (not_counted ends t ts (ap (λ (s : Bool). s && t.brings) e)))
          (rest D (subst (λ (x : Ends). apart x i ≤ D) (sym (not_sent ends t e)) d))
      go true e =
          let br : t.brings ≡ true = brought (sends (quantise_by rows choice) ends t) t.brings l e in
          let is : next ends t ≡ after ends t true = sent ends t b e ∙ ap (after ends t) br in
          let one : 8 * apart (after ends t true) i + 3 * (32 * u) ≤ 3 * apart ends i + 8 * (32 * u) =
          decoded_shrinks rows R (index ends t) ends.coder ends.decoder b.coder b.decoder i h in
          let two : 8 * apart (next ends t) i + 3 * (32 * u) ≤ 3 * D + 8 * (32 * u) =
          subst (λ (x : Ends). 8 * apart x i + 3 * (32 * u) ≤ 3 * D + 8 * (32 * u)) (sym is)
          (wider (8 * apart (after ends t true) i + 3 * (32 * u)) (apart ends i) D (8 * (32 * u)) d one) in
          subst (λ (m : ℕ). Bounded m (apart (runs (next ends t) ts) i) D) (sym (counted ends t ts (ap (λ (s : Bool). s && t.brings) e ∙ br)))
          (more (count (next ends t) ts) (apart (runs (next ends t) ts) i) (apart (next ends t) i) D (32 * u) two
          (rest (apart (next ends t) i) (le_refl (apart (next ends t) i))))

  pub closer_run : (ends : Ends) (ts : List Turn) → Both ends →
      losses (quantise_by rows choice) (decode_lsp_freq rows) ends ts ≡ 0 → (i : ℕ) → i < 10 → (D : ℕ) →
      apart ends i ≤ D → Bounded (count ends ts) (apart (runs ends ts) i) D
  unfolding run tally Rest
  closer_run ends [] b l i h D d = none (apart ends i) D (32 * u) d
  closer_run ends (t ∷ ts) b l i h D d =
      let n = no_loss ends t ts l in
      turn_before ends t ts b n.0 i h (λ E e. closer_run (next ends t) ts (kept ends t b) n.1 i h E e) D d
