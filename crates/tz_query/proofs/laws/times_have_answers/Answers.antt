-- What is shown has a text, and each error a name.
use Rattle.tz_query.proofs.Common.{to_z-of_z, w64, refl, inl, inr, ◌++◌, List, ℕ, ℤ, codes, IfOk, IfErr, Result, Ok, Err, Zone, DateTime, TzError, IsReading, reading, IsClockFault, moment_text, IsTimeAnswer, zone_of}
use Rattle.tz.specs.DateTimes.{ShowsByClock}
use Rattle.tz_query.proofs.AnswerLines.{clock_fault_text}
use Rattle.tz_query.proofs.laws.times_have_answers.Goals as goal

has_answer : (z : Zone) (u : ℤ) (n : ℕ) (r : Result DateTime TzError) → IfOk r (ShowsByClock z u n)
    → IfOk r (λ d. IsReading (reading d.fields)) → IfErr r (IsClockFault z u n)
    → (answer : List ℕ) × IsTimeAnswer z u n answer
has_answer z u n (Ok d) shows reads fault = (moment_text d, inl (d, shows, reads, refl))
has_answer z u n (Err e) shows reads fault =
    let (text, named) = clock_fault_text z u n e fault in
    (codes "E " ++ text, inr (e, text, fault, named, refl))

pub returns : goal.returns
returns c =
    let u = c.args.unix_time in
    let same = to_z-of_z w64 u c.ranges.unix_time in
    has_answer (zone_of c.args.zone.now) u c.args.nanoseconds c.from_timespec.result
    (rw same at c.from_timespec.ensures.ok) c.from_timespec.ensures.reads (rw same at c.from_timespec.ensures.err)
