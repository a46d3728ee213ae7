-- A name is looked for in the directories, and any other text is refused at once.
use Rattle.tz_zone.proofs.Common.{refl, inr, Err, Ok, FnReturnsAt, own_zone_of, reader_of, FindsIn, directories_of, Failed, IsZoneNameAnswer}
use Rattle.tz_zone.proofs.Directories.{unseen_fault}
use Rattle.tz_zone.proofs.SettingsAnswers.{opened, opened_bytes}
use Rattle.tz_zone.proofs.timezone.settings.TimeZoneSettings.zone_of_name.Goals as goal

pub returns-in-Some : goal.returns-in-Some
returns-in-Some g c =
    let bytes = c.in-Some.bytes in
    let settings = c.args.self.now in
    opened own_zone_of (Ok bytes) c.zone_of_bytes.result (FindsIn (FnReturnsAt g.F.Fn (reader_of settings))
    (directories_of settings) c.args.name.now)
    (IsZoneNameAnswer (FnReturnsAt g.F.Fn (reader_of settings)) (directories_of settings) c.args.name.now)
    (inr (rw c.in-Some.is at c.in_ok-found.ensures))
    (opened_bytes own_zone_of c.zone_of_bytes.result (Ok bytes) bytes c.deref.result.now refl c.deref.ensures.value
    c.zone_of_bytes.ensures)
    (λ answer is opens. inr (c.if-not-is_zone_name.ensures.0 refl, Ok bytes, is, opens))

pub returns-in-None : goal.returns-in-None
returns-in-None g c =
    inr (inr (
      c.if-not-is_zone_name.ensures.0 refl,
      Err (Failed unseen_fault),
      (rw c.in-None.is at c.in_ok-found.ensures)
          unseen_fault,
      (c.no_such_zone.result, c.no_such_zone.ensures, refl),
    ))
