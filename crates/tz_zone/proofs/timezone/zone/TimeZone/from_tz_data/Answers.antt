-- A file denotes one zone, and is refused for memory alone.
use Rattle.tz_zone.proofs.Common.{◌≡◌, own_zone_of, IfErr-weaker, IsReadFault, alloc_error, IsTzFile, Memory, IfOk-weaker, MatchResult-from_both}
use Rattle.tz_zone.proofs.TzFileLaws.{denotes_one, refused_for_memory}
use Rattle.tz_zone.proofs.timezone.zone.TimeZone.from_tz_data.Goals as goal

pub returns-clause-only : goal.returns-clause-only
returns-clause-only g c = λ zone is.
    let bytes = c.args.bytes.now in
    MatchResult-from_both c.parse_tz_file.result (λ made. own_zone_of made ≡ zone) (λ e. e ≡ Memory alloc_error)
    (IfOk-weaker c.parse_tz_file.result (λ made. IsTzFile bytes (own_zone_of made)) (λ made. own_zone_of made ≡ zone)
    (λ made file. denotes_one bytes (own_zone_of made) zone file is) c.parse_tz_file.ensures.ok)
    (IfErr-weaker c.parse_tz_file.result (IsReadFault bytes) (λ e. e ≡ Memory alloc_error)
    (λ e fault. refused_for_memory bytes zone e is fault) c.parse_tz_file.ensures.err)
