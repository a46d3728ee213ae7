-- What is found is opened, and where nothing is the text is read.
use Rattle.tz_zone.proofs.Common.{refl, inr, Ok, FnReturnsAt, own_zone_of, reader_of, directories_of, Finds, IsNamedOrTextAnswer}
use Rattle.tz_zone.proofs.SettingsAnswers.{opened, opened_bytes}
use Rattle.tz_zone.proofs.timezone.settings.TimeZoneSettings.parse_name_or_text.Goals as goal

pub returns-in-Some : goal.returns-in-Some
returns-in-Some g c =
    let bytes = c.in-Some.bytes in
    let settings = c.args.self.now in
    opened own_zone_of (Ok bytes) c.zone_of_bytes.result (Finds (FnReturnsAt g.F.Fn (reader_of settings))
    (directories_of settings) c.args.text.now)
    (IsNamedOrTextAnswer (FnReturnsAt g.F.Fn (reader_of settings)) (directories_of settings) c.args.text.now)
    (inr (rw c.in-Some.is at c.in_ok-found.ensures))
    (opened_bytes own_zone_of c.zone_of_bytes.result (Ok bytes) bytes c.deref.result.now refl c.deref.ensures.value
    c.zone_of_bytes.ensures)
    (λ answer is opens. (Ok bytes, is, opens))
