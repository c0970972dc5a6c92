-- `float::narrow_magnitude` meets its contract: each return is its range's law of `proofs/Narrowing.antt`. Assumes nothing.
use native.Mathlib.Omega.{arith}
use Rattle.float.proofs.Narrowing.{over_range, normal_range, subnormal_range, zero_range}
use Rattle.float.proofs.narrow_magnitude.Goals as goal

pub returns-then-m-ge5183643171103440896 : goal.returns-then-m-ge5183643171103440896
returns-then-m-ge5183643171103440896 c = over_range c.args.m (omega arith) c.requires

pub returns-then-m-ge4039728865751334912 : goal.returns-then-m-ge4039728865751334912
returns-then-m-ge4039728865751334912 c = rw c.half_even.ensures (normal_range c.args.m (omega arith) (omega arith))

pub returns-then-m-ge3931642474694443008 : goal.returns-then-m-ge3931642474694443008
returns-then-m-ge3931642474694443008 c = rw c.half_even-then-m-ge3931642474694443008.ensures (subnormal_range c.args.m (omega arith) (omega arith))

pub returns : goal.returns
returns c = zero_range c.args.m (omega arith)
