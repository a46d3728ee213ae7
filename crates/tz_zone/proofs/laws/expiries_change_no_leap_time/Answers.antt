-- The record before an expiry is reached before it, and has the same correction.
use Rattle.tz_zone.proofs.Expiries.{same_leap_time}
use Rattle.tz_zone.proofs.laws.expiries_change_no_leap_time.Goals as goal

pub returns : goal.returns
returns c = λ leaps expiry time are expires. same_leap_time leaps expiry time are expires
