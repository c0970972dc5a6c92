-- What the code has of its own for the settings of a filter and for the arrays of a subframe, in the definitions' words.
-- Vocabulary of the code, for §2.12's filter. Assumes nothing.
use Rattle.combined.specs.declared.arrays.Arrays.{Arrays as ArraysMade}
use Rattle.combined.specs.declared.settings.Settings.{Settings as SettingsMade}
use Rattle.combined.specs.Cascade.{Settings, settings}
use Rattle.combined.specs.inner.Step.{Arrays, arrays}

abbrev pub settings_of : SettingsMade → Settings
settings_of q = settings q.aq q.taps.wz q.taps.wp q.lag q.beta

abbrev pub arrays_of : ArraysMade → Arrays
arrays_of a = arrays a.syn a.xs a.fs a.p a.out
