-- One subframe through the combined filter: refusals, the cascade, and the memory afterwards.
-- §2.12, and as §2.13 and §2.19 use it; document 01, B59 to B62; document 02, E6.3, E6.4, E6.6, E6.9 and E6.10. Assumes nothing.
use Rattle.std.specs.Prelude.{ℕ, Bool, not, ◌||◌, List, [], ◌∷◌, ◌++◌, ltb, Float, Result}
use Rattle.float.specs.Finite.{not_finite}
use Rattle.float.specs.Refusal.{any, first, answer}
use Rattle.float.specs.Vector.{zeros}
use Rattle.float.specs.Answered.{answered as answered_by}
use Rattle.float.specs.declared.status.Refusal.{Refusal}
use Rattle.lag_limit.specs.Limit.{known, reach}
use Rattle.harmonic_history.specs.History.{last}
use Rattle.combined.specs.declared.CombinedMem.{CombinedMem}
use Rattle.combined.specs.declared.Combined.{Combined as CombinedMade}
use Rattle.combined.specs.Memory.{spare, floats}
use Rattle.combined.specs.Cascade.{Settings, Cascade, cascaded}

-- what is answered: a status, the samples, and the memory
pub record Combined : Type 0 where
  pub status : ℕ
  pub out : List Float
  pub mem : CombinedMem

-- and without the memory: where that is lent, or the filter starts from rest
pub record CombinedOut : Type 0 where
  pub status : ℕ
  pub out : List Float

-- the memory after a subframe: its history has the last harmonic inputs, what is not in use stays, and so does the limit
abbrev pub after : CombinedMem → Cascade → CombinedMem
after mem c = record {
  syn = c.syn;
  wz = c.wz;
  wp = c.wp;
  p_hist = last (reach mem.limit) c.harmonic ++ spare mem;
  limit = mem.limit;
}

abbrev pub done : CombinedMem → Cascade → Combined
done mem c = record { status = 0; out = c.out; mem = after mem c }

-- zeros, and the memory as given
abbrev pub refusal : CombinedMem → ℕ → Combined
refusal mem n = record { status = n; out = zeros 60; mem = mem }

-- a lag that the history does not reach, or below the shortest
abbrev pub wrong_lag : ℕ → ℕ → Bool
wrong_lag limit lag = ltb lag 18 || ltb (reach limit) lag

-- a float that is infinite or not a number, anywhere
abbrev pub wild : Settings → List Float → CombinedMem → Bool
wild q input mem = any not_finite (floats mem) || any not_finite (input ∷ q.aq ∷ q.wz ∷ q.wp ∷ (q.beta ∷ []) ∷ [])

-- 2 for another limit; 4 for a wrong lag; 5 for a float that is not finite
abbrev pub combined_refusals : Settings → List Float → CombinedMem → List (ℕ × Bool)
combined_refusals q input mem =
    (2, not (known mem.limit)) ∷ (4, wrong_lag mem.limit q.lag) ∷ (5, wild q input mem) ∷ []

unfoldable pub run_combined : Settings → List Float → CombinedMem → Combined
run_combined q input mem =
    answer (first (combined_refusals q input mem)) (refusal mem) (done mem (cascaded q input mem 60))

-- the answer without the memory
abbrev pub answered : Combined → CombinedOut
answered r = record { status = r.status; out = r.out }

-- the answer of the code: a refusal has no memory of its own, it is as given
abbrev pub made : CombinedMade → Combined
made r = record { status = 0; out = r.out; mem = r.mem }

abbrev pub as_combined : CombinedMem → Result CombinedMade Refusal → Combined
as_combined mem = answered_by (refusal mem) made

-- and where the memory is lent, or the filter starts from rest
abbrev pub as_out : Result (List Float) Refusal → CombinedOut
as_out = answered_by (λ n. record { status = n; out = zeros 60 }) (λ out. record { status = 0; out = out })
