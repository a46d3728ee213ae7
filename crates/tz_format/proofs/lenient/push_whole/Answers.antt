-- The line has the local time to its minutes, and then what follows them.
use Rattle.std.proofs.Common.{◌∙◌, ◌++◌, ◌-◌, ap, sym, take, drop, length}
use Rattle.tz_format.specs.Lenient.{whole_from, whole_seconds}
use Rattle.tz_format.proofs.Whole.{whole_cut}
use Rattle.tz_format.proofs.lenient.push_whole.Goals as goal

pub returns : goal.returns
returns c =
    let local = c.args.local.now in
    let end = c.min-end.result in
    let rest = take (length local - end) (drop end local) in
    let before = c.push_all-2.ensures.text ∙ ap (λ xs. xs ++ take end local) c.requires.empty in
    c.push_whole_seconds.ensures ∙ ap (λ xs. xs ++ whole_seconds rest) before
    ∙ whole_cut local c.in-Some.separator end c.min-end.ensures
    ∙ sym (ap (whole_from local) (sym c.first_separator.ensures.value ∙ c.in-Some.is))
