-- `convert::lsp_freq_to_cosines` meets its contract: each call gave the cosine of its frequency. Assumes nothing.
use Rattle.std.proofs.Common.{rules}
use Rattle.float.specs.Lines.{refused_lines}
use Rattle.float.proofs.Refusal.{went_on, lines_done}
use Rattle.cosine.proofs.Mapped.{mapped}
use Rattle.convert.specs.Convert.{freq_to_cosines, cosine_of}
use Rattle.convert.proofs.Bound.{bounded}
use Rattle.convert.proofs.lsp_freq_to_cosines.Goals as goal

pub returns : goal.returns
unfolding freq_to_cosines
returns c =
    went_on refused_lines (search (bounded, rules))
    (lines_done (mapped cosine_of (λ p q x y k. search rules) (search rules) c.map.ensures.items))
