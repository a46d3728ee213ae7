-- A day has one window, and the least instant of those that show it is one.
use Rattle.tz_civil.proofs.UniqueStarts.{fault_unique, skipped_or_fault, start_or_fault, start_or_skipped, start_unique}
use Rattle.tz_civil.proofs.laws.starts_are_unique.Goals as goal

pub returns : goal.returns
returns c = record {
  start = start_unique;
  skipped = start_or_skipped;
  refused = start_or_fault;
  either = skipped_or_fault;
  fault = fault_unique;
}
