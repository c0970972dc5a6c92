-- `own_rows::row_part` meets its contract: what stands at the row's place, and where that is. Assumes nothing.
use Rattle.own_rows.proofs.Places.{made_end, made_bytes, made_within, made_holds, made_none}
use Rattle.own_rows.proofs.row_part.Goals as goal

pub overflow_add-result : goal.overflow_add-result
overflow_add-result c = made_end _ _ _ c.in-Ok.ensures

pub offset_bounds-rows-place : goal.offset_bounds-rows-place
offset_bounds-rows-place c = made_bytes _ _ _ c.in-Ok.ensures

pub slice_bounds-result-end : goal.slice_bounds-result-end
slice_bounds-result-end c = made_within _ _ _ c.in-Ok.ensures

pub returns-in-Ok-clause-part : goal.returns-in-Ok-clause-part
returns-in-Ok-clause-part c = made_holds _ _ _ c.in-Ok.ensures

pub returns-in-Err-clause-part : goal.returns-in-Err-clause-part
returns-in-Err-clause-part c = made_none _ _ _ _ c.in-Err.ensures
