use Rattle.tz_zone.proofs.Common.{◌≡◌, rules, length, take_while, YieldsList-from_slice, YieldsList-from_take_while, count_from_yields_List, tests, is_ascii_alphabetic}
use Rattle.tz_zone.proofs.TextRuns.{run_of_split}
use Rattle.tz_zone.proofs.parse.tz_string.split_letters.Goals as goal

pub returns : goal.returns
returns c =
    let text = c.args.text.now in
    let len : c.count-len.result ≡ length (take_while is_ascii_alphabetic text) =
    count_from_yields_List c.take_while.result _ c.count-len.ensures.ran
    (YieldsList-from_take_while _ is_ascii_alphabetic (YieldsList-from_slice text cc) c.take_while.ensures.closure
    c.take_while.ensures.done (λ x b q k. search (rules, tests))) in
    run_of_split is_ascii_alphabetic text _ _ c.count-len.result len c.split_at.ensures.front c.split_at.ensures.back
