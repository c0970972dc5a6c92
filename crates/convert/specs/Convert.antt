-- Ten frequencies to cosines, as §2.6 goes on from them, and ten cosines to frequencies, as §2.5 needs them; the Rust names no equation
-- for either. The refusals and the cosine rule are added by design. Document 01, B20 to B22, B34 and B35, B34 with
-- request E1's rounding. Assumes nothing.
use Rattle.std.specs.Prelude.{List, [], ◌∷◌, map, Float}
use Rattle.float.specs.Refusal.{first, answer}
use Rattle.float.specs.Finite.{not_finite, any_exceeds}
use Rattle.float.specs.Single.{single}
use Rattle.float.specs.Lines.{Lines, refused_lines}
use Rattle.cosine.specs.Cosine.{cosine_single}
use Rattle.cosine.specs.Step.{held, step, step_of_frequency, frequency}

-- step = the whole number nearest to 512 × |f|, a half going to the even one; then its cosine
abbrev pub cosine_of : Float → Float
cosine_of f = cosine_single (step_of_frequency f)

unfoldable pub freq_to_cosines : List Float → Lines
freq_to_cosines freq =
    answer (first ((5, not_finite freq) ∷ (6, any_exceeds (single 65536 1) freq) ∷ [])) refused_lines
    (record { status = 0; lines = map cosine_of freq })

-- cosine held to −1..1; its step k, answered as k / 512
abbrev pub freq_of : Float → Float
freq_of c = frequency (step (held c))

unfoldable pub cosines_to_freq : List Float → Lines
cosines_to_freq cosines =
    answer (first ((5, not_finite cosines) ∷ [])) refused_lines
    (record { status = 0; lines = map freq_of cosines })
