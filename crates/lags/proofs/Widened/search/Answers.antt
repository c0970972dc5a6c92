-- `lags::Widened::search` meets its contract: each turn offers up to eight lags more. Assumes nothing.
use native.Mathlib.Omega.{arith}
use mathlib.Core.Path.{◌≡◌, refl, ◌∙◌}
use Prim.Native.Nat.{ℕ, suc, ◌+◌, ◌-◌, ◌≤◌, ◌<◌, min}
use mathlib.Core.List.{List}
use lib.Ieee.{Float, nan}
use lib.ListN.{get_or}
use Rattle.float.specs.Table.{table}
use Rattle.float.specs.Loop.{over}
use Rattle.float.proofs.Loop.{Went, went_none, went_all}
use Rattle.lags.specs.declared.EightLags.{EightLags}
use Rattle.lags.specs.Lags.{cross, power}
use Rattle.lags.specs.Search.{Best, offered, winner, preferred, nothing}
use Rattle.lags.proofs.Turns.{offer, block, turn}
use Rattle.lags.proofs.Widened.search.Goals as goal

-- before the first lag
start : (step : ℕ → Best → Best) (s₀ : Best) (limit : ℕ) → 18 ≤ limit
    → Went 18 (suc limit) step s₀ (min 18 (suc limit)) s₀
start step s₀ limit h =
    let e : min 18 (suc limit) ≡ 18 = omega arith in
    rw e (went_none 18 (suc limit) step s₀ (omega arith))

-- one turn: the sums that `eight_lags` answered are the lags' own, so `compete` has offered each of them
eight_more : (x : List Float) (limit o lag first to : ℕ) (sums : EightLags) (best next : Best)
    → o ≡ limit + 3 → lag ≤ limit → first ≡ min lag (limit - 4) → to ≡ min (lag + 8) (limit + 1)
    → sums.cross ≡ table 8 (λ i. cross x o 120 (first + 7 - i)) → sums.power ≡ table 8 (λ i. power x o 120 (first + 7 - i))
    → next ≡ over lag to (λ j b. offered preferred b j (get_or sums.cross (first + 7 - j) nan) (get_or sums.power (first + 7 - j) nan)) best
    → Went 18 (suc limit) (offer preferred x (limit + 3) 120) nothing (min lag (suc limit)) best
    → Went 18 (suc limit) (offer preferred x (limit + 3) 120) nothing (min (lag + 8) (suc limit)) next
eight_more x limit o lag first to sums best next at inside f t c p n w =
    let offered-each = block preferred x sums.cross sums.power (limit + 3) 120 first lag to best (rw at at c) (rw at at p) (omega arith) (omega arith) in
    turn (offer preferred x (limit + 3) 120) nothing limit lag to best next inside t (n ∙ offered-each) w

-- after the last
end : (x : List Float) (limit lag : ℕ) (b : Best) → limit < lag
    → Went 18 (suc limit) (offer preferred x (limit + 3) 120) nothing (min lag (suc limit)) b → b ≡ winner preferred x (limit + 3) 120 18 (suc limit)
unfolding winner
end x limit lag b h r = went_all 18 (suc limit) (offer preferred x (limit + 3) 120) nothing (min lag (suc limit)) b (omega arith) r

pub loop-lag-init : goal.loop-lag-init
loop-lag-init c = start _ _ _ (omega (arith, c.requires.eight))

pub loop-lag-preserved : goal.loop-lag-preserved
loop-lag-preserved c =
    eight_more _ _ _ _ _ _ _ _ _ refl c.loop-lag-test.true c.min-first.ensures c.min-to.ensures c.eight_lags-sums.ensures.cross c.eight_lags-sums.ensures.power c.compete-best.ensures c.loop-lag.invariant

pub returns : goal.returns
returns c = end _ _ _ _ c.loop-lag-test.false c.loop-lag.invariant

pub returns-2 : goal.returns-2
returns-2 c =
    let turned = eight_more _ _ _ _ _ _ _ _ _ refl c.loop-lag-test.true c.min-first.ensures c.min-to.ensures c.eight_lags-sums.ensures.cross c.eight_lags-sums.ensures.power c.compete-best.ensures c.loop-lag.invariant in
    end _ _ _ _ (omega arith) turned
