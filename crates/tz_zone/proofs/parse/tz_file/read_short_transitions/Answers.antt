-- The chunks of the times, each with its index, are the records of the transitions.
use Rattle.tz_zone.proofs.Common.{refl, rules, ap, sym, ◌∙◌, ◌*◌, block_view, length, ◌++◌, transitions_of}
use Rattle.std.proofs.Common.{map}
use Rattle.std.proofs.lemmas.Iterator.{YieldsList-from_map}
use Rattle.std.proofs.lemmas.Iterator.Adapters.{items_from_extend}
use Rattle.std.specs.Int.{w32}
use Rattle.std.specs.Iterator.Adapters.{map_source, map_callee}
use Rattle.std.specs.List.{range_with_len}
use Rattle.tz_zone.proofs.TzRecords.{at_ok, change_of_record, record_at, records_given, records_serve, transitions_of_records}
use Rattle.tz_zone.proofs.parse.tz_file.read_short_transitions.Goals as goal

pub extend-requires : goal.extend-requires
extend-requires g c = λ it e. (
  (
    (search rules, tt),
    records_serve 4 c.args.unit.now.block.times.now c.args.unit.now.block.indexes.now (search rules)
        {s = map_source it} (search rules) (search rules) (search rules)
        (rw c.requires.size at c.requires.sized.times ∙ ap (λ n. n * 4) (sym c.requires.sized.indexes))
        (λ x q k. search rules) (λ x long. search rules),
  ),
  search rules,
  search rules,
)

pub returns : goal.returns
returns g c =
    let w = w32 in
    let block = block_view c.args.unit.now.block in
    let made = items_from_extend c.extend.result c.extend.ensures.ran (YieldsList-from_map _ (change_of_record w)
    {f = map_callee c.map.result} (records_given 4 block.times block.indexes (search rules)
    {s = map_source c.map.result} (search rules) (search rules) (search rules)
    (rw c.requires.size at c.requires.sized.times ∙ ap (λ n. n * 4) (sym c.requires.sized.indexes))) refl
    (λ x r q k. search rules)) in
    rw c.requires.size ((at_ok c.extend.result c.in_ok-extend.field-0 c.in_ok-extend.was made).0
    ∙ ap (λ xs. xs ++ map (change_of_record w) (map (record_at 4 block.times block.indexes)
    (range_with_len 0 (length block.indexes)))) c.in_ok-transitions.ensures.items
    ∙ transitions_of_records w block (length block.indexes) ∙ ap (transitions_of w block) c.requires.sized.indexes)
