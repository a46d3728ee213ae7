use Rattle.tz_zone.proofs.Common.{refl, inr, inl, ap, TzString}
use Rattle.tz_zone.proofs.EmptyLists.{none_if_empty, some_unless_empty}
use Rattle.tz_zone.proofs.QuestionMarkExits.{exit}
use Rattle.tz_zone.proofs.parse.tz_string.read_daylight.Goals as goal

pub returns-then-is_empty : goal.returns-then-is_empty
returns-then-is_empty c =
    let name = c.in_ok-name in
    λ extended. inr (
      name.name.now,
      name.rest.now,
      name.ensures,
      inl (none_if_empty name.rest.now c.if-is_empty.ensures, refl),
    )

pub returns : goal.returns
returns c = (
  (c.in_ok-name.rest.now, c.in_ok-name.ensures, rw c.in_ok-switches.ensures at c.in_ok-offset.ensures.0),
  c.in_ok-offset.ensures.1,
)

pub returns-in_err-offset : goal.returns-in_err-offset
returns-in_err-offset c =
    let name = c.in_ok-name in
    let f = c.in_err-offset.field-0.0 in
    let fault = c.in_err-offset.ensures in
    exit _ _ f _ c.from_residual-in_err-offset.ensures.1
    (λ extended. inr (
      name.name.now,
      name.rest.now,
      name.ensures,
      inr
          (inl (some_unless_empty name.rest.now c.if-is_empty.ensures, fault.0, (f, refl, fault.1))),
    ))

pub returns-then-is_empty-2 : goal.returns-then-is_empty-2
returns-then-is_empty-2 c =
    let name = c.in_ok-name in
    let offset = c.in_ok-offset in
    λ extended. inr (
      name.name.now,
      name.rest.now,
      name.ensures,
      inr
          (inr (
            offset.offset,
            offset.rest.now,
            offset.ensures.0,
            inl
                (none_if_empty offset.rest.now c.if-is_empty-2.ensures, refl),
          )),
    )

pub returns-in_err-switches : goal.returns-in_err-switches
returns-in_err-switches c =
    let name = c.in_ok-name in
    let offset = c.in_ok-offset in
    let missing = c.in_err-switches.ensures in
    exit _ _ c.in_err-switches.field-0.0 _ c.from_residual-in_err-switches.ensures.1
    (λ extended. inr (
      name.name.now,
      name.rest.now,
      name.ensures,
      inr (inr (
        offset.offset,
        offset.rest.now,
        offset.ensures.0,
        inr (
          some_unless_empty offset.rest.now c.if-is_empty-2.ensures,
          inl
              (missing.0, ap TzString missing.1, missing.2),
        ),
      )),
    ))
