-- What the code answers, beside what the definitions do: the code names the three things that can become of a turn.
-- Added by design, for the code's own types. Assumes nothing.
use Rattle.std.specs.Prelude.{Bool, true, false}
use Rattle.line.specs.declared.Outcome.{Outcome}
use Rattle.line.specs.declared.Outcome.TheVariants.{Refused, Lost, Arrived}
use Rattle.line.specs.declared.Played.{Played as Made}
use Rattle.line.specs.Line.{Played}

abbrev pub was_sent : Outcome → Bool
was_sent Refused = false
was_sent Lost = true
was_sent Arrived = true

abbrev pub has_arrived : Outcome → Bool
has_arrived Refused = false
has_arrived Lost = false
has_arrived Arrived = true

abbrev pub as_played : Made → Played
as_played p = record { ends = p.ends; sent = was_sent p.outcome; arrived = has_arrived p.outcome }
