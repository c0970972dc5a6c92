-- `lags::Widened::energy` meets its contract: the sum of the squares passed, at lag 0. Assumes nothing.
use borrow.Author.Rules.{rules}
use native.Mathlib.Omega.{arith}
use mathlib.Core.Path.{◌≡◌, ◌∙◌}
use mathlib.Core.List.{List, map}
use Prim.Native.Nat.{ℕ, ◌+◌, ◌-◌, ◌≤◌, ◌<◌}
use lib.Ieee.{Float, nan, binary64, add, of_bits}
use lib.ListN.{length, get_or, take, drop, length-drop, length-map}
use lib.Seq.{get_or-take, get_or-drop, length-take-le}
use Rattle.float.specs.Double.{◌⊠◌}
use Rattle.lags.specs.Lags.{power}
use Rattle.lags.specs.inner.Delayed.{delayed}
use Rattle.lags.proofs.Sums.{delayed_none, delayed_more, delayed_all}
use Rattle.lags.proofs.Turns.{power_kept}
use Rattle.lags.proofs.Widened.energy.Goals as goal

-- the squares that are added, as the code cuts them
module _ (x q : List Float) (o count : ℕ) (long : length x ≡ 265) (squared : q ≡ map (λ (y : Float). y ⊠ y) x) (within : o + count ≤ 265) where
  abbrev part : List Float
  part = take (o + count - o) (drop o q)

  part_length : length part ≡ count
  part_length =
      let squares : length q ≡ 265 = rw (squared, length-map) long in
      length-take-le (o + count - o) (drop o q) (simp length-drop (omega arith)) ∙ omega arith

  more : (i : ℕ) (sum : Float) → i < length part → sum ≡ delayed q o i 0 → add binary64 sum (get_or part i nan) ≡ delayed q o (i + 1) 0
  more i sum l e =
      let inside : i < o + count - o = omega (arith, part_length) in
      rw (get_or-take (o + count - o) (drop o q) i nan inside, get_or-drop o q i nan) (delayed_more q o i 0 (o + i) sum (omega arith) e)

  all : (i : ℕ) (sum : Float) → i ≤ length part → length part ≤ i → sum ≡ delayed q o i 0 → sum ≡ power x o count 0
  all i sum l h e =
      delayed_all q o i count 0 sum (omega (arith, part_length)) (omega (arith, part_length)) e
      ∙ power_kept x q o count 0 long squared within

pub loop-square-init : goal.loop-square-init
unfolding of_bits
loop-square-init c = delayed_none _ _ 0

pub loop-square-preserved : goal.loop-square-preserved
loop-square-preserved c =
    more c.args.self.now.samples _ _ _ (search rules) c.args.self.now.squared c.requires _ _ c.loop-square-test.true c.loop-square.invariant

pub returns : goal.returns
returns c =
    all _ _ _ _ (search rules) c.args.self.now.squared c.requires _ _ c.loop-square.auto.square-index-end c.loop-square-test.false c.loop-square.invariant
