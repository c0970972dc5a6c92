-- What the answer for a window says of the definition's, refused and done. Assumes nothing.
use Rattle.std.proofs.Common.{◌≡◌, ℕ, List, ap, sym}
use lib.Ieee.{Float}
use Rattle.lpc.specs.declared.LpcSet.{LpcSet}
use Rattle.lpc.specs.Analysis.{LpcAnalysis, refused_set, lpc_analysis}

pub window_number : {n : ℕ} (x : List Float) → refused_set n ≡ lpc_analysis x → (lpc_analysis x).status ≡ n
unfolding refused_set
window_number x e = sym (ap (λ (u : LpcAnalysis). u.status) e)

module _ {set : LpcSet} (x : List Float) (e : ◌≡◌ {A = LpcAnalysis} (record { status = 0; set = set }) (lpc_analysis x)) where
  pub window_none : (lpc_analysis x).status ≡ 0
  window_none = sym (ap (λ (u : LpcAnalysis). u.status) e)

  pub window_filter : (lpc_analysis x).set.a ≡ set.a
  window_filter = sym (ap (λ (u : LpcAnalysis). u.set.a) e)

pub ruleset analysed = (window_number, window_none, window_filter)
