-- The half of a frame that its spectrum is: lines, stability, filters. That both halves make a frame is proved in `frame`.
-- Added by design. Assumes nothing.
use Rattle.std.specs.Prelude.{ℕ, List, [], ◌∷◌, Float}
use Rattle.float.specs.Refusal.{first_of}
use Rattle.spec_lsp.specs.Quantise.{Quantised}
use Rattle.spectrum.specs.declared.Spectrum.{Spectrum as SpectrumMade}
use Rattle.spectrum.specs.Lines.{stabilised}
use Rattle.spectrum.specs.Filters.{filters, joined}

-- what the half gives, with its status
pub record Spectrum : Type 0 where
  pub status : ℕ
  pub index : ℕ
  pub set : List Float
  pub lines : List Float
  pub a : List Float

-- from the quantised lines, after the last frame's cosines
unfoldable pub spectrum : Quantised → List Float → Float → Spectrum
spectrum l last hz =
    let s = stabilised l.set hz in
    let f = filters last s.cosines in
    record {
      status = first_of (l.status ∷ s.status ∷ f.status ∷ []);
      index = l.index;
      set = l.set;
      lines = s.cosines;
      a = joined f;
    }

-- the answer of the code, where it is done
abbrev pub done_spectrum : SpectrumMade → Spectrum
done_spectrum s = record { status = 0; index = s.index; set = s.set; lines = s.lines; a = s.a }
