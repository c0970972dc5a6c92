-- What the decoder and the quantiser answer where no refusal is due, and that the decoder gives back the quantiser's set. The decoder
-- passes on the splitting's refusal of an index, whatever the previous set holds. Assumes nothing.
use mathlib.Core.Path.{◌≡◌, refl}
use mathlib.Core.Bool.{true, false}
use mathlib.Core.List.{List}
use Prim.Native.Nat.{ℕ, zero, suc, ◌≤◌, ◌<◌}
use native.Mathlib.Omega.{arith}
use borrow.Author.Tests.{not-false, lt-ltb, le-ltb}
use lib.IntN.{ℤ}
use lib.Ieee.{Float}
use lib.Ieee.Scale.{finite}
use Rattle.float.specs.Refusal.{all, first, answer}
use Rattle.float.specs.Finite.{not_finite, any_exceeds}
use Rattle.float.specs.Lines.{refused_lines}
use Rattle.float.specs.Single.{single}
use Rattle.float.proofs.Refusal.{clear, or_clear, not_refused}
use Rattle.lsp_index.specs.Index.{split}
use Rattle.lsp_index.proofs.Bytes.{refused_above}
use Rattle.spec_lsp.specs.Decode.{decoded, decode_lsp_freq}
use Rattle.spec_lsp.specs.Quantise.{Quantised, refused_index, quantised_as, quantise_refusals, quantise_by}

module _ (rows : List ℤ) (index : ℕ) (prev : List Float) where
  pub decode_done : index ≤ 16777215 → all finite prev ≡ true → any_exceeds (single 65536 1) prev ≡ false →
      decode_lsp_freq rows index prev ≡ record { status = 0; lines = decoded rows index prev }
  unfolding decode_lsp_freq
  decode_done l h k = rw (le-ltb 16777215 index l, h, k)

  pub decode_nine_first : 16777215 < index → decode_lsp_freq rows index prev ≡ refused_lines 9
  unfolding decode_lsp_freq
  decode_nine_first l = rw (lt-ltb 16777215 index l)

  pub decode_passes_on : (split index).status ≡ 9 → decode_lsp_freq rows index prev ≡ refused_lines 9
  decode_passes_on h = decode_nine_first (refused_above index h)

module _ (rows : List ℤ) (choice : List Float → List Float → ℕ) (p prev : List Float) where
  pub quantise_done : all finite p ≡ true → all finite prev ≡ true → any_exceeds (single 65536 1) p ≡ false →
      any_exceeds (single 65536 1) prev ≡ false → quantise_by rows choice p prev ≡ quantised_as rows (choice p prev) prev
  unfolding quantise_by
  quantise_done h k l m = rw (h, k, l, m)

  -- where it is not refused, no refusal is due and the set is the decoder's
  not_refused_here : (quantise_by rows choice p prev).status ≡ 0 →
      (first (quantise_refusals p prev) ≡ 0) × (quantise_by rows choice p prev ≡ quantised_as rows (choice p prev) prev)
  unfolding quantise_by
  not_refused_here h =
      not_refused (λ (q : Quantised). q.status) (first (quantise_refusals p prev)) refused_index (quantised_as rows (choice p prev) prev)
      (λ k. refl) h

  pub quantised_set : (quantise_by rows choice p prev).status ≡ 0 →
      quantise_by rows choice p prev ≡ quantised_as rows (choice p prev) prev
  quantised_set h = (not_refused_here h).1

  -- its index, 0 where it is refused, is one of 24 bits where the choice is
  pub quantised_24 : choice p prev ≤ 16777215 → (quantise_by rows choice p prev).index ≤ 16777215
  unfolding quantise_by
  quantised_24 l = go (first (quantise_refusals p prev))
    where
      go : (n : ℕ) → (answer n refused_index (quantised_as rows (choice p prev) prev)).index ≤ 16777215
      go zero = l
      go (suc n) = omega arith

  -- and the decoder, given the index and the same previous set, answers that set, where the choice is one of 24 bits
  pub quantised_decoded : choice p prev ≤ 16777215 → (quantise_by rows choice p prev).status ≡ 0 →
      decode_lsp_freq rows (quantise_by rows choice p prev).index prev ≡ record { status = 0; lines = (quantise_by rows choice p prev).set }
  quantised_decoded l h =
      let z = clear (quantise_refusals p prev) tt refl (not_refused_here h).0 in
      let finite-prev = not-false _ (or_clear (not_finite p) (not_finite prev) z.0).1 in
      let bounded-prev = (or_clear (any_exceeds (single 65536 1) p) (any_exceeds (single 65536 1) prev) z.1.0).1 in
      rw (quantised_set h) (decode_done rows (choice p prev) prev l finite-prev bounded-prev)
