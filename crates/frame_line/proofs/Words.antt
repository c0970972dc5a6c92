-- The words between both ends. What a coder sends for a frame has 24 bits; a longer word refuses the decoder's frame with 9, as
-- `decode_lsp_freq` passes it on, and the decoder keeps what it has. Assumes nothing.
use mathlib.Core.Path.{◌≡◌}
use mathlib.Core.List.{List}
use Prim.Native.Nat.{ℕ, ◌≤◌, ◌<◌}
use lib.IntN.{ℤ}
use lib.Ieee.{Float}
use Rattle.spec_lsp.specs.Quantise.{index_of, quantise_lsp_freq}
use Rattle.spec_lsp.proofs.Choice.{index_24}
use Rattle.spec_lsp.proofs.Refusals.{decode_nine_first, quantised_24}
use Rattle.frame.specs.declared.Coder.{Coder}
use Rattle.frame.specs.Frame.{code_frame}
use Rattle.frame_line.specs.Decoder.{Decoder, refusal, decode_frame}
use Rattle.frame_line.proofs.Accepted.{accepted, lines_given}

module _ (rows : List ℤ) where
  quantiser_24 : (p set : List Float) → (quantise_lsp_freq rows p set).index ≤ 16777215
  unfolding quantise_lsp_freq
  quantiser_24 p set = quantised_24 rows (index_of rows) p set (index_24 rows p set)

  pub frame_24 : (coder : Coder) (samples : List ℤ) (hz : Float) →
      let frame = code_frame rows coder samples hz in frame.status ≡ 0 → frame.index ≤ 16777215
  frame_24 coder samples hz h =
      let c = accepted rows coder samples hz h in
      rw (c.index, lines_given rows _ coder.set c.lines_done) (quantiser_24 _ coder.set)

  pub frame_nine_first : (decoder : Decoder) (index : ℕ) (hz : Float) → 16777215 < index →
      decode_frame rows decoder index hz ≡ refusal decoder 9
  unfolding decode_frame
  frame_nine_first decoder index hz h = rw (decode_nine_first rows index decoder.set h)
