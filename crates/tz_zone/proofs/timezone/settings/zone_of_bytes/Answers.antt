use Rattle.tz_zone.proofs.Common.{refl, inr, inl, ap, Tz}
use Rattle.tz_zone.proofs.TzFileLaws.{file_holds}
use Rattle.tz_zone.proofs.timezone.settings.zone_of_bytes.Goals as goal

pub returns-in-Err : goal.returns-in-Err
returns-in-Err g c =
    elim c.in-Err.ensures.err [
      | inl memory ↦ inl (ap Tz memory)
      | inr fault ↦ inr (
        λ zone is. file_holds c.args.bytes.now zone c.in-Err.error is fault,
        c.in-Err.error,
        refl,
        fault,
      )
    ]
