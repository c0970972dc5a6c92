-- `lpc::reflect` meets its contract: up to j the sum is that of the definition. Assumes nothing.
use mathlib.Core.Path.{◌≡◌, refl, ap}
use mathlib.Core.List.{List}
use Prim.Native.Nat.{ℕ, ◌+◌, ◌-◌, ◌≤◌, ◌<◌}
use lib.Ieee.{Float, nan, neg}
use lib.ListN.{get_or}
use Rattle.float.specs.Double.{◌⊞◌, ◌⊠◌, ◌⧄◌}
use Rattle.float.proofs.Loop.{Went, went_none, went_more, went_all}
use Rattle.lpc.specs.Levinson.{reflection}
use Rattle.lpc.proofs.reflect.Invariants.{term}
use Rattle.lpc.proofs.reflect.Goals as goal

more : (r a : List Float) (i j : ℕ) (acc : Float) → j < i → Went 1 i (term r a i) (get_or r i nan) j acc →
    Went 1 i (term r a i) (get_or r i nan) (j + 1) (acc ⊞ get_or a j nan ⊠ get_or r (i - j) nan)
unfolding term
more r a i j acc h w = went_more 1 i (term r a i) (get_or r i nan) j acc (term r a i j acc) h refl w

all : (r a : List Float) (i j : ℕ) (acc e : Float) → i ≤ j → Went 1 i (term r a i) (get_or r i nan) j acc →
    neg acc ⧄ e ≡ reflection r i a e
unfolding term reflection
all r a i j acc e h w = ap (λ (x : Float). neg x ⧄ e) (went_all 1 i (term r a i) (get_or r i nan) j acc h w)

pub loop-j-init : goal.loop-j-init
loop-j-init c = search went_none

pub loop-j-preserved : goal.loop-j-preserved
loop-j-preserved c = search more

pub returns : goal.returns
returns c = search all
