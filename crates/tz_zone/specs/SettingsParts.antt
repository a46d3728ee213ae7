-- The parts of settings: their directories and their reader.
use Rattle.std.specs.Prelude.{ℕ, List}
use Rattle.tz_zone.specs.Settings.{texts_of}
use Rattle.tz_zone.specs.declared.timezone.settings.TimeZoneSettings.{TimeZoneSettings}

abbrev pub directories_of : {F : Type 0} → TimeZoneSettings F → List (List ℕ)
directories_of settings = texts_of settings.directories.now

abbrev pub reader_of : {F : Type 0} → TimeZoneSettings F → F
reader_of settings = settings.reader
