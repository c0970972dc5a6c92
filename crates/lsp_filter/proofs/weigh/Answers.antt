-- `lsp_filter::weigh` meets its contract: each place holds its weighed cosine. Assumes nothing.
use Rattle.std.proofs.Common.{◌≡◌, ℕ, List, get_or, ap, ◌∙◌, rules}
use lib.Ieee.{Float, nan}
use Rattle.float.specs.Single.{◌⊕◌, ◌⊗◌}
use Rattle.float.proofs.FromFn.{from_fn_table}
use Rattle.lsp_filter.specs.Interpolate.{previous_weight, current_weight, weighed}
use Rattle.lsp_filter.proofs.weigh.Goals as goal

place : (choice : ℕ) (w : Float × Float) (prev cur : List Float) (i : ℕ) (y : Float) →
    w ≡ (previous_weight choice, current_weight choice) → y ≡ w.0 ⊗ get_or prev i nan ⊕ w.1 ⊗ get_or cur i nan →
    y ≡ weighed choice prev cur i
unfolding weighed
place choice w prev cur i y e f = f ∙ ap (λ (v : Float × Float). v.0 ⊗ get_or prev i nan ⊕ v.1 ⊗ get_or cur i nan) e

pub returns : goal.returns
returns c =
    from_fn_table _ (weighed c.args.choice c.args.prev.now c.args.cur.now) _ 10
    (λ i y q b h. search (place, rules)) _ nan c.from_fn.ensures.items
