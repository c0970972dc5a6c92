-- `cosine::whole_below` meets its contract: up to 2^46 a double holds each whole number. Assumes nothing.
use Rattle.cosine.proofs.Below.{below_exact}
use Rattle.cosine.proofs.whole_below.Goals as goal

pub int_to_float-n : goal.int_to_float-n
int_to_float-n c = below_exact _ _ c.requires.within c.whole_part-n.ensures
