-- Sets that a run of the line's turns reaches. Neither end refuses one, which is what `Rejoin` says of them: the coder sends for every set
-- that is finite and bounded, the empty one among them, and the decoder takes what arrives. Assumes nothing.
use mathlib.Core.Path.{◌≡◌, refl, ap, ◌∙◌, subst}
use mathlib.Core.Bool.{true, false}
use mathlib.Core.List.{List, [], ◌∷◌, ◌++◌}
use Prim.Native.Nat.{ℕ}
use borrow.Author.Tests.{not-false}
use lib.Dec.{T}
use lib.IntN.{ℤ}
use lib.Ieee.{Float}
use lib.Ieee.Scale.{finite}
use Rattle.float.specs.Refusal.{all, first}
use Rattle.float.specs.Finite.{not_finite, any_exceeds}
use Rattle.float.specs.Lines.{Lines, refused_lines}
use Rattle.float.specs.Single.{single}
use Rattle.float.proofs.Refusal.{clear, or_clear, not_refused}
use Rattle.spec_tables.specs.Bounds.{rows_pass}
use Rattle.spec_lsp.specs.Decode.{decoded, decode_refusals, decode_lsp_freq}
use Rattle.spec_lsp.specs.Quantise.{Quantised, index_of, refused_index, quantised_as, quantise_refusals, quantise_by, quantise_lsp_freq}
use Rattle.line.specs.declared.Turn.{Turn}
use Rattle.line.specs.declared.Ends.{Ends}
use Rattle.line.specs.Line.{step, run}
use Rattle.line.specs.Claim.{start, Rejoin}
use Rattle.line.proofs.Rejoin.{line_of}
use Rattle.frame_line.proofs.Cosines.{Usable}

module _ (rows : List ℤ) where
  abbrev pub turn : Ends → Turn → Ends
  turn = step (quantise_lsp_freq rows) (decode_lsp_freq rows)

  abbrev pub turns : Ends → List Turn → Ends
  turns = run (quantise_lsp_freq rows) (decode_lsp_freq rows)

  -- ---- what neither operation refused is usable
  sent_status : Quantised → ℕ
  sent_status q = q.status

  quantised_usable : (p set : List Float) → (quantise_lsp_freq rows p set).status ≡ 0 →
      (all finite set ≡ true) × (any_exceeds (single 65536 1) set ≡ false)
  unfolding quantise_lsp_freq quantise_by sent_status
  quantised_usable p set h =
      let n = not_refused sent_status (first (quantise_refusals p set)) refused_index (quantised_as rows (index_of rows p set) set) (λ k. refl) h in
      let z = clear (quantise_refusals p set) tt refl n.0 in (
        not-false _ (or_clear (not_finite p) (not_finite set) z.0).1,
        (or_clear (any_exceeds (single 65536 1) p) (any_exceeds (single 65536 1) set) z.1.0).1,
      )

  got_status : Lines → ℕ
  got_status l = l.status

  decoded_usable : (index : ℕ) (set : List Float) → (decode_lsp_freq rows index set).status ≡ 0 →
      (all finite set ≡ true) × (any_exceeds (single 65536 1) set ≡ false)
  unfolding decode_lsp_freq got_status
  decoded_usable index set h =
      let n = not_refused got_status (first (decode_refusals index set)) refused_lines (record { status = 0; lines = decoded rows index set }) (λ k. refl) h in
      let z = clear (decode_refusals index set) tt refl n.0 in
      (not-false _ z.1.0, z.1.1.0)

  -- ---- a run of turns
  pub record Reached (ends : Ends) : Type 0 where
    pub by : List Turn
    pub are : turns start by ≡ ends

  one_more : (ends : Ends) (ts : List Turn) (t : Turn) → turns ends (ts ++ (t ∷ [])) ≡ turn (turns ends ts) t
  unfolding run
  one_more ends [] t = refl
  one_more ends (s ∷ ts) t = one_more (turn ends s) ts t

  pub reached_start : Reached start
  unfolding run
  reached_start = record { by = []; are = refl }

  pub reached_turn : (ends : Ends) (t : Turn) → Reached ends → Reached (turn ends t)
  reached_turn ends t r = record { by = r.by ++ (t ∷ []); are = one_more start r.by t ∙ ap (λ (e : Ends). turn e t) r.are }

  module _ (R : T (rows_pass rows)) where
    line : Rejoin (quantise_lsp_freq rows) (decode_lsp_freq rows)
    line = line_of rows R

    -- nothing but what the coder has can be refused of the empty set
    empty_sent : (ts : List Turn) → (quantise_lsp_freq rows [] (turns start ts).coder).status ≡ 0
    unfolding all
    empty_sent ts = line.sends ts [] refl refl

    coder_usable : (ts : List Turn) → Usable (turns start ts).coder
    coder_usable ts =
        let q = quantised_usable [] (turns start ts).coder (empty_sent ts) in
        record { ten = (line.stays ts).0.ten; finite_set = q.0; bounded = q.1 }

    decoder_usable : (ts : List Turn) → Usable (turns start ts).decoder
    decoder_usable ts =
        let d = decoded_usable _ (turns start ts).decoder (line.takes ts (record { given = []; brings = true }) (rw (empty_sent ts) tt)) in
        record { ten = (line.stays ts).1.ten; finite_set = d.0; bounded = d.1 }

    pub reached_coder : (ends : Ends) → Reached ends → Usable ends.coder
    reached_coder ends r = subst (λ (e : Ends). Usable e.coder) r.are (coder_usable r.by)

    pub reached_decoder : (ends : Ends) → Reached ends → Usable ends.decoder
    reached_decoder ends r = subst (λ (e : Ends). Usable e.decoder) r.are (decoder_usable r.by)
