-- `float::bits::same_bits` meets its contract: by whether the value differs from itself. Assumes nothing.
use mathlib.Core.Path.{sym, ◌∙◌}
use lib.Ieee.{binary32}
use Rattle.float.proofs.Signs.{nan_code, not_nan}
use Rattle.float.proofs.Pattern.{same_nan, same_other}
use Rattle.float.proofs.bits.same_bits.Goals as goal

pub returns-then-is_nan : goal.returns-then-is_nan
returns-then-is_nan c =
    let differs = sym (nan_code c.args.x) ∙ sym c.is_nan.ensures.value ∙ c.if-is_nan.true in
    c.nan_pattern.ensures ∙ same_nan binary32 _ _ differs

pub float_to_bits-result : goal.float_to_bits-result
float_to_bits-result c =
    let equals_itself = sym (nan_code c.args.x) ∙ sym c.is_nan.ensures.value ∙ c.if-is_nan.false in
    not_nan _ equals_itself

pub returns : goal.returns
returns c =
    let equals_itself = sym (nan_code c.args.x) ∙ sym c.is_nan.ensures.value ∙ c.if-is_nan.false in
    same_other binary32 _ _ equals_itself
