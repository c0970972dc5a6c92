-- The memories that a coder keeps between frames (`Coder` is the code's struct), and those of a new one: the resting set, its cosines as
-- the last stabilised ones, and zeros.
-- Document 02, E2.9, E2.10 and E2.14; the start of §2.21. Assumes nothing.
use Rattle.float.specs.Vector.{zeros}
use Rattle.convert.specs.Convert.{freq_to_cosines}
use Rattle.spec_lsp.specs.Resting.{resting}
use Rattle.frame.specs.declared.Coder.{Coder}

unfoldable pub new_coder : Coder
new_coder = record {
  set = resting;
  lines = (freq_to_cosines resting).lines;
  x_mem = zeros 10;
  f_mem = zeros 10;
  weighted = zeros 145;
}
