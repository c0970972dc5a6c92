-- `row_file::store` meets its contract: after i turns the first i places hold the file's numbers. Assumes nothing.
use Rattle.std.proofs.Common.{length, get_or, []}
use Rattle.float.proofs.Table.{Filled}
use Rattle.row_file.specs.inner.Numbers.{number_of}
use Rattle.row_file.proofs.store.Given as goal

abbrev pub invariant-loop-i : goal.invariant-loop-i
invariant-loop-i l = Filled (length l.numbers) (λ k. number_of (get_or l.numbers k [])) l.i l.rows
