-- The combined filter sample by sample: synthesis s[n] = x[n] − Σ aq[k+1] s[n−k−1], formant weighting of s, and harmonic noise shaping of
-- the weighted f: f[n] − beta f[n−lag]. Each stage hands its sample to the next before the sample after it is begun.
-- §2.12 (eq. 19); document 01, B59; document 02, E6.4. Assumes nothing.
use Rattle.std.specs.Prelude.{ℕ, suc, ◌-◌, List, [], ◌∷◌, ◌++◌, length, Float}
use Rattle.float.specs.Loop.{over}
use Rattle.float.specs.Single.{◌⊖◌, ◌⊗◌}
use Rattle.float.specs.Vector.{at}
use Rattle.weighting.specs.Filter.{weighted, later}
use Rattle.combined.specs.declared.CombinedMem.{CombinedMem}
use Rattle.combined.specs.Memory.{history}

-- predictor, weighting taps, and the lag and factor of harmonic noise shaping
pub record Settings : Type 0 where
  pub aq : List Float
  pub wz : List Float
  pub wp : List Float
  pub lag : ℕ
  pub beta : Float

abbrev pub settings : List Float → List Float → List Float → ℕ → Float → Settings
settings aq wz wp lag beta = record { aq = aq; wz = wz; wp = wp; lag = lag; beta = beta }

-- term k of the synthesis sum, after the outputs syn
unfoldable pub take_tap : List Float → List Float → ℕ → Float → Float
take_tap aq syn k s = s ⊖ at aq (suc k) ⊗ at syn k

unfoldable pub synthesised : List Float → Float → List Float → Float
synthesised aq x syn = over 0 10 (take_tap aq syn) x

-- the value `lag` places before the one to come
abbrev pub back : ℕ → List Float → Float
back lag xs = at xs (length xs - lag)

-- three memories, all harmonic inputs, those of the history first, and the outputs so far
pub record Cascade : Type 0 where
  pub syn : List Float
  pub wz : List Float
  pub wp : List Float
  pub harmonic : List Float
  pub out : List Float

-- one sample, synthesised as s and weighted as f
abbrev pub advance : Settings → Float → Float → Cascade → Cascade
advance q s f c = record { syn = later s c.syn; wz = later s c.wz; wp = later f c.wp; harmonic = c.harmonic ++ (f ∷ []); out = c.out ++ ((f ⊖ q.beta ⊗ back q.lag c.harmonic) ∷ []) }

abbrev pub weigh : Settings → Float → Cascade → Cascade
weigh q s c = advance q s (weighted q.wz q.wp s c.wz c.wp) c

unfoldable pub sample : Settings → List Float → ℕ → Cascade → Cascade
sample q input n c = weigh q (synthesised q.aq (at input n) c.syn) c

abbrev pub start : CombinedMem → Cascade
start mem = record { syn = mem.syn; wz = mem.wz; wp = mem.wp; harmonic = history mem; out = [] }

-- after the first n samples
abbrev pub cascaded : Settings → List Float → CombinedMem → ℕ → Cascade
cascaded q input mem n = over 0 n (sample q input) (start mem)
