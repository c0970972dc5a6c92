-- `ends_apart::place` meets its contract: 8,192 times the frequency is whole, and so is what the cast takes out. Assumes nothing.
use Rattle.ends_apart.proofs.Counting.{cast_least, sum_fits, count_fits, count_is}
use Rattle.ends_apart.proofs.place.Goals as goal

pub truncating_f32_to_i64-steps-requires : goal.truncating_f32_to_i64-steps-requires
truncating_f32_to_i64-steps-requires c =
    let bounds = cast_least c.args.x c.requires in
    record { lower_bound = bounds.0; upper_bound = bounds.1 }

pub overflow_add-result : goal.overflow_add-result
overflow_add-result c = sum_fits c.args.x c.requires _ c.truncating_f32_to_i64-steps.ensures

pub overflow_cast-result : goal.overflow_cast-result
overflow_cast-result c = count_fits c.args.x c.requires _ c.truncating_f32_to_i64-steps.ensures

pub returns : goal.returns
returns c = count_is c.args.x c.requires _ c.truncating_f32_to_i64-steps.ensures
