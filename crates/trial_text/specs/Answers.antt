-- What the code answers, beside what the definitions do: the code has no entry where a line is of another form.
-- Added by design, for the code's own types. Assumes nothing.
use Rattle.std.specs.Prelude.{true, Option, Some, None}
use Rattle.trial_text.specs.declared.Entry.{Entry as Made}
use Rattle.trial_text.specs.Pattern.{Entry, other}

abbrev pub taken : Made → Entry
taken e = record { right = true; index = e.index; arrives = e.arrives }

abbrev pub as_entry : Option Made → Entry
as_entry (Some e) = taken e
as_entry None = other
