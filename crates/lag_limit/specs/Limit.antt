-- The limit of a caller's pitch lags: 142 for the loggers, 82 for the gateway. The harmonic filter reaches three further back.
-- Added by design: document 02, E6.3, E6.4, E6.6 and E6.10, for §2.9, §2.11 and §2.12. Assumes nothing.
use Rattle.std.specs.Prelude.{ℕ, ◌+◌, Bool, ◌||◌, eqb}

-- any other limit is refused with 2, before anything else is looked at
abbrev pub known : ℕ → Bool
known limit = eqb limit 142 || eqb limit 82

-- how far back the lags of a limit reach, and so how many places of a history are in use
abbrev pub reach : ℕ → ℕ
reach limit = limit + 3
