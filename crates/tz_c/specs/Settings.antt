-- What a setting asks for. (POSIX.1-2017, Base Definitions, 8.3: TZ; `localtime` as in tz-rs.)
use Rattle.std.specs.Prelude.{◌≡◌, ◌≢◌, ◌⊎◌, ℕ, List, [], length}
use Rattle.tz_zone.specs.Bytes.{colon}
use Rattle.tz_zone.specs.Settings.{local_time}
use Rattle.tz_zone.specs.TzText.{Begins}
use Rattle.tz_c.specs.declared.texts.SettingData.{SettingData}

-- the machine's local time, the file of the name after a colon, or a file of this name or this TZ
-- string
abbrev pub IsSetting : List ℕ → SettingData → Type 0
IsSetting text s =
    ((text ≡ local_time) × (s ≡ record { kind = 0; from = 0; until = 0 }))
    ⊎ (Begins colon text × (s ≡ record { kind = 1; from = 1; until = length text }))
    ⊎ ((text ≢ local_time) × ¬ Begins colon text
    × (s ≡ record { kind = 2; from = 0; until = length text }))

-- the empty text is refused
abbrev pub IsSettingAnswer : List ℕ → ℕ → SettingData → Type 0
IsSettingAnswer text code written = ((code ≡ 92) × (text ≡ []))
    ⊎ ((code ≡ 0) × (text ≢ []) × IsSetting text written)
