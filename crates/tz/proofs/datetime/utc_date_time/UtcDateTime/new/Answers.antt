-- Valid fields that are not past the end make a UTC date time.
use Rattle.tz.proofs.Common.{rules, IsValid, valid_reading}
use Rattle.tz.proofs.datetime.utc_date_time.UtcDateTime.new.Goals as goal

pub of_fields-requires : goal.of_fields-requires
of_fields-requires c =
    let fields = c.new-fields.result in
    let valid : IsValid fields = search rules in
    record { valid = valid; reads = valid_reading fields valid (search rules) (search rules) }
