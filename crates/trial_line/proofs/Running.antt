-- Both ends along the entries of a pattern. Where an index arrives both sets are decoded alike, so each frequency's difference shrinks to 3/8 of
-- what it was, and 20/2048; where one is lost the count of arrivals begins again, and the ends lie no further apart than two sets of the line can.
-- Assumes nothing.
use mathlib.Core.Path.{◌≡◌, refl, sym, ap, ◌∙◌, subst}
use mathlib.Core.Bool.{Bool, true, false}
use mathlib.Core.List.{List, [], ◌∷◌, ◌++◌}
use Prim.Native.Nat.{ℕ, suc, ◌+◌, ◌*◌, ◌^◌, ◌≤◌, ◌<◌}
use native.Mathlib.Nat.{le_refl}
use native.Mathlib.Numerals.{add-one}
use native.Mathlib.Omega.{arith}
use lib.ListN.{length}
use lib.Ieee.{Float}
use Rattle.float.specs.Difference.{difference}
use Rattle.float.specs.Vector.{at}
use Rattle.spec_tables.specs.Codebook.{lsp_rows}
use Rattle.spec_tables.proofs.BuiltIn.{rows_pass_lem}
use Rattle.spec_lsp.specs.Decode.{decoded}
use Rattle.line.specs.declared.Ends.{Ends}
use Rattle.line.proofs.Held.{u, decoded_shrinks, held_apart}
use Rattle.line.proofs.Powers.{none, more}
use Rattle.trial_text.specs.Pattern.{Entry}
use Rattle.trial.specs.declared.State.{State}
use Rattle.ends_apart.specs.Apart.{apart_at}
use Rattle.trial.specs.Losses.{after, follow, begin}
use Rattle.trial.proofs.Live.{Live, after_is, live_begin, live_follow}
use Rattle.trial_line.specs.Claim.{runs, Each, Short, Arrive}
use Rattle.trial_line.proofs.Arrived.{one_more}

pub runs_append : (s : State) (es later : List Entry) → runs s (es ++ later) ≡ runs (runs s es) later
unfolding runs
runs_append s [] later = refl
runs_append s (e ∷ es) later = runs_append (follow s e) es later

pub live_runs : (s : State) (es : List Entry) → Short es → Live s → Live (runs s es)
unfolding runs Each
live_runs s [] h p = p
live_runs s (e ∷ es) h p = live_runs (follow s e) es h.1 (live_follow s e h.0 p)

-- ---- one entry
-- an index that arrives is decoded at both ends
abbrev both : State → Entry → Ends
both s e = record { coder = decoded lsp_rows e.index s.ends.coder; decoder = decoded lsp_rows e.index s.ends.decoder }

arrived : (s : State) (e : Entry) → Live s → e.index ≤ 16777215 → e.arrives ≡ true → (follow s e).ends ≡ both s e
unfolding follow
arrived s e p l a =
    let x : after e.index s.ends.coder ≡ decoded lsp_rows e.index s.ends.coder = after_is _ _ l p.coder.held in
    let y : after e.index s.ends.decoder ≡ decoded lsp_rows e.index s.ends.decoder = after_is _ _ l p.decoder.held in
    rw (a, x, y)

shrinks : (s : State) (e : Entry) → Live s → e.index ≤ 16777215 → e.arrives ≡ true → (i : ℕ) → i < 10 →
    8 * apart_at (follow s e).ends i + 3 * (32 * u) ≤ 3 * apart_at s.ends i + 8 * (32 * u)
shrinks s e p l a i h =
    subst (λ (ends : Ends). 8 * apart_at ends i + 3 * (32 * u) ≤ 3 * apart_at s.ends i + 8 * (32 * u)) (sym (arrived s e p l a))
    (decoded_shrinks lsp_rows rows_pass_lem e.index s.ends.coder s.ends.decoder p.coder.held p.decoder.held i h)

counted : (s : State) (e : Entry) → e.arrives ≡ true → (follow s e).arrivals ≡ suc s.arrivals
unfolding follow
counted s e a = rw a (add-one s.arrivals)

not_counted : (s : State) (e : Entry) → e.arrives ≡ false → (follow s e).arrivals ≡ 0
unfolding follow
not_counted s e a = rw a

-- ---- after n arrivals in a row, what is left of a difference D
abbrev Bounded : ℕ → ℕ → ℕ → Type 0
Bounded n d D = 8 ^ n * d + 3 ^ n * (32 * u) ≤ 3 ^ n * D + 8 ^ n * (32 * u)

pub closer_runs : (s : State) (later : List Entry) → Live s → Short later → Arrive later → (i : ℕ) → i < 10 →
    Bounded (length later) (apart_at (runs s later).ends i) (apart_at s.ends i)
unfolding runs Each
closer_runs s [] p h a i l = none (apart_at s.ends i) (apart_at s.ends i) (32 * u) (le_refl (apart_at s.ends i))
closer_runs s (e ∷ es) p h a i l =
    let s' = follow s e in
    more (length es) (apart_at (runs s' es).ends i) (apart_at s'.ends i) (apart_at s.ends i) (32 * u) (shrinks s e p h.0 a.0 i l)
    (closer_runs s' es (live_follow s e h.0 p) h.1 a.1 i l)

-- ---- the arrivals that are counted
-- no two sets of the line lie further apart: 32,768
abbrev pub furthest : ℕ
furthest = 33554432 * u + 33554432 * u

pub live_apart : (s : State) → Live s → (i : ℕ) → i < 10 → apart_at s.ends i ≤ furthest
live_apart s p i h = held_apart s.ends.coder s.ends.decoder p.coder.held p.decoder.held i h

abbrev pub Settling : State → Type 0
Settling s = (i : ℕ) → i < 10 → Bounded s.arrivals (apart_at s.ends i) furthest

-- where none is counted
anew : (s : State) → Live s → s.arrivals ≡ 0 → Settling s
anew s p z i h =
    subst (λ (n : ℕ). Bounded n (apart_at s.ends i) furthest) (sym z) (none (apart_at s.ends i) furthest (32 * u) (live_apart s p i h))

settling_follow : (s : State) (e : Entry) → Live s → e.index ≤ 16777215 → Settling s → Settling (follow s e)
settling_follow s e p l b = go e.arrives refl
  where
    s' : State
    s' = follow s e

    go : (arrives : Bool) → e.arrives ≡ arrives → Settling s'
    go true a i h =
        subst (λ (n : ℕ). Bounded n (apart_at s'.ends i) furthest) (sym (counted s e a))
        (one_more s.arrivals (apart_at s.ends i) (apart_at s'.ends i) furthest (32 * u) (b i h) (shrinks s e p l a i h))
    go false a i h = anew s' (live_follow s e l p) (not_counted s e a) i h

pub settling_runs : (s : State) (es : List Entry) → Short es → Live s → Settling s → Settling (runs s es)
unfolding runs Each
settling_runs s [] h p b = b
settling_runs s (e ∷ es) h p b = settling_runs (follow s e) es h.1 (live_follow s e h.0 p) (settling_follow s e p h.0 b)

pub settling_begin : Settling begin
settling_begin = anew begin live_begin refl

-- ---- no loss at all
same_follow : (s : State) (e : Entry) → e.arrives ≡ true → s.ends.coder ≡ s.ends.decoder →
    (follow s e).ends.coder ≡ (follow s e).ends.decoder
unfolding follow
same_follow s e a q = rw a (ap (after e.index) q)

pub same_runs : (s : State) (es : List Entry) → Arrive es → s.ends.coder ≡ s.ends.decoder →
    (runs s es).ends.coder ≡ (runs s es).ends.decoder
unfolding runs Each
same_runs s [] a q = q
same_runs s (e ∷ es) a q = same_runs (follow s e) es a.1 (same_follow s e a.0 q)

nothing : (x : Float) → difference x x ≡ 0
unfolding difference
nothing x = omega arith

pub same_apart : (ends : Ends) → ends.coder ≡ ends.decoder → (i : ℕ) → apart_at ends i ≡ 0
same_apart ends q i = ap (λ (set : List Float). difference (at set i) (at ends.decoder i)) q ∙ nothing (at ends.decoder i)
