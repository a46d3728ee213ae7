-- Fields with a second below 60 are the civil fields of their reading.
use Rattle.tz.proofs.Common.{refl, civil_unique}
use Rattle.tz.proofs.laws.utc_date_times_come_back.Goals as goal

pub returns-clause-ok : goal.returns-clause-ok
returns-clause-ok c f g utc below civil =
    civil_unique _ f.nanoseconds g f civil (record {
      valid = utc.valid;
      below_60 = below;
      reads = refl;
      nanoseconds_are = refl;
    })
