-- `row_file::number` meets its contract: the machine's reading of two bytes is the definition's. Assumes nothing.
use Rattle.std.proofs.Common.{rules}
use Rattle.row_file.proofs.Signs.{read_bytes}
use Rattle.row_file.proofs.number.Goals as goal

pub returns : goal.returns
returns c = read_bytes c.args.bytes (search rules) _ c.from_le_bytes.ensures
