-- `combined::run` meets its contract: the arrays hold the memory given, and after sixty samples what the cascade leaves. Assumes nothing.
use Rattle.std.proofs.Common.{◌≡◌, refl, ap, ◌∙◌, ◌+◌, ◌-◌, ◌≤◌, List, ◌++◌, drop, arith, rules}
use lib.Ieee.{Float}
use Rattle.float.specs.Loop.{over}
use Rattle.float.proofs.Table.{filled_none}
use Rattle.weighting.specs.inner.Delay.{behind}
use Rattle.lag_limit.specs.Limit.{reach}
use Rattle.lag_limit.specs.Choice.{lags_of}
use Rattle.lag_limit.specs.declared.LagLimit.{LagLimit}
use Rattle.lag_limit.proofs.Known.{lags_within}
use Rattle.harmonic_history.specs.History.{places, unused}
use Rattle.combined.specs.declared.CombinedMem.{CombinedMem}
use Rattle.combined.specs.Cascade.{Settings, start, cascaded}
use Rattle.combined.specs.inner.Step.{Arrays, sampled}
use Rattle.combined.specs.inner.Made.{arrays_of}
use Rattle.combined.specs.Run.{Combined, done}
use Rattle.combined.proofs.Stands.{Stands, held_first, answer, subframe}
use Rattle.combined.proofs.run.Goals as goal

-- sixty samples, and what is copied out
copied : (q : Settings) (input : List Float) (mem : CombinedMem) (limit : LagLimit) (held last : Arrays) {m₁ m₂ m₃ kept : List Float} →
    lags_of limit ≡ mem.limit → 18 ≤ q.lag → q.lag ≤ reach mem.limit →
    Stands (reach mem.limit) q 0 (start mem) held → last ≡ over 0 60 (sampled q input) held →
    m₁ ≡ behind 60 last.syn → m₂ ≡ behind 60 last.xs → m₃ ≡ behind 60 last.fs →
    kept ≡ drop (places + 60 - reach (lags_of limit)) last.p ++ unused (reach (lags_of limit)) mem.p_hist →
    ◌≡◌ {A = Combined}
    (record { status = 0; out = last.out; mem = record { syn = m₁; wz = m₂; wp = m₃; p_hist = kept; limit = mem.limit } })
    (done mem (cascaded q input mem 60))
copied q input mem limit held last own low high r e e₁ e₂ e₃ eh =
    let most = rw own at (lags_within limit).1 in
    rw (e₁, e₂, e₃, eh, own) (ap (answer mem) e ∙ subframe q input mem most (omega arith) high held r)

pub returns : goal.returns
returns c =
    copied _ _ _ _ _ (arrays_of c.sixty_samples.new.self) c.requires.own c.requires.low c.requires.high
    (record {
      syn = record { long = search rules; held = c.start_delay.ensures };
      wz = record { long = search rules; held = c.start_delay-2.ensures };
      wp = record { long = search rules; held = c.start_delay-3.ensures };
      long = search rules;
      harmonic = held_first (reach c.args.mem.now.limit) c.start.result (rw c.requires.own at c.start.ensures);
      out = filled_none 60 _ _ refl;
    })
    c.sixty_samples.ensures
    c.last_ten.ensures c.last_ten-2.ensures c.last_ten-3.ensures c.settle.ensures
