-- The resting set: the ten numbers of LSP_DC_PREDICTED_FREQ_Q15 as singles, with which both ends of a line begin.
-- §2.6, p_DC; as a start §2.21 and §3.11; document 01, B29. Assumes nothing.
use Rattle.std.specs.Prelude.{List, Float}
use Rattle.float.specs.Table.{table}
use Rattle.spec_tables.specs.Tables.{dc_freq}
use Rattle.row_search.specs.Error.{number}

unfoldable pub resting : List Float
resting = table 10 (number dc_freq)
