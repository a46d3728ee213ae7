-- Each option has its letter, and names the zone of its value, or a value that makes none.
use Rattle.tz_query.proofs.Common.{sym, subst, refl, arith, ◌≡◌, [], ap, ◌∷◌, ◌∙◌, length, rules, ℕ, inl, to_z-of_z, List, inr, ◌<◌, ℤ, Zone, get_or, ◌≤◌, w32, ◌≢◌, Err, Some, TzError, ◌⊎◌, IfSome, NamesZone, Option, Read, own_zone_of, IsOffset, IsRefusedOption, IsRefusedText, IsSettingsAnswer, IsZoneOfOption, Memory, NamesRefusedZone, alloc_error, err_from_is_err_and, fixed_zone, texts_of, usual_directories}
use Rattle.std.specs.Borrow.{Bor}
use Rattle.std.proofs.lemmas.Fn.{says_at}
use Rattle.tz_base.specs.declared.error.Error.{Error}
use Rattle.anyhow.specs.declared.error.Error.{Error as Failure}
use Rattle.tz_base.specs.declared.error.Error.TheVariants.{Io, Tz}
use Rattle.tz_zone.specs.TzFile.{IsTzFile}
use Rattle.tz_query.specs.declared.query.program.Fault.{Fault}
use Rattle.tz_query.specs.declared.query.program.Fault.TheVariants as faults
use Rattle.tz_query.proofs.query.program.zone_of_arguments.Goals as goal

-- two arguments are an option and its value
two_texts : (arguments : List (Bor (List ℕ))) (none : Bor (List ℕ)) → 2 ≤ length arguments → length arguments < 3 →
    texts_of arguments ≡ (get_or arguments 0 none).now ∷ (get_or arguments 1 none).now ∷ []
two_texts [] none least most = absurd (omega arith)
two_texts (option ∷ []) none least most = absurd (omega arith)
two_texts (option ∷ value ∷ []) none least most = refl
two_texts (option ∷ value ∷ other ∷ more) none least most = absurd (omega arith)

names : {reads : List ℕ → Read → Type 0} {zone : Zone} (arguments : List (Bor (List ℕ))) (none : Bor (List ℕ))
    → 2 ≤ length arguments → length arguments < 3 →
    IsZoneOfOption reads (get_or arguments 0 none).now (get_or arguments 1 none).now zone
    → NamesZone reads (texts_of arguments) zone
names arguments none least most is = (
  (get_or arguments 0 none).now,
  (get_or arguments 1 none).now,
  two_texts arguments none least most,
  is,
)

refuses : {reads : List ℕ → Read → Type 0} (arguments : List (Bor (List ℕ))) (none : Bor (List ℕ))
    → 2 ≤ length arguments → length arguments < 3 →
    IsRefusedOption reads (get_or arguments 0 none).now (get_or arguments 1 none).now
    → NamesRefusedZone reads (texts_of arguments)
refuses arguments none least most is = (
  (get_or arguments 0 none).now,
  (get_or arguments 1 none).now,
  two_texts arguments none least most,
  is,
)

value_in : {T : Type 0} (o : Option T) (x : T) (P : T → Type 0) → o ≡ Some x → IfSome o P → P x
value_in o x P is known = subst (λ v. IfSome v P) is known

-- an error other than out of memory is of the offset
offset_refused : {F : Type 0} (offset given : ℤ) (error e : TzError) → given ≡ offset → (F × ¬ IsOffset given)
    ⊎ ((error ≡ Memory alloc_error) × IsOffset given) →
    (error ≡ e) × (e ≢ Memory alloc_error) → ¬ IsOffset offset
offset_refused offset given error e same (inl (fault, not)) is = subst (λ v. ¬ IsOffset v) same not
offset_refused offset given error e same (inr (memory, fits)) (is, not) = absurd (not (sym is ∙ memory))

-- and of bytes that are no file
file_refused : (bytes : List ℕ) (error e : TzError) → ((zone : Zone) → IsTzFile bytes zone → error ≡ Memory alloc_error)
    → (error ≡ e) × (e ≢ Memory alloc_error) →
    (zone : Zone) → ¬ IsTzFile bytes zone
file_refused bytes error e only (is, not) = λ zone of. not (sym is ∙ only zone of)

-- and of a string that the settings refuse
text_refused : (reads : List ℕ → Read → Type 0) (text : List ℕ) (error : Error) (e : TzError)
    → (error ≡ Tz (Memory alloc_error)) ⊎ IsSettingsAnswer reads usual_directories text (Err error) →
    (error ≡ Tz e) × (e ≢ Memory alloc_error) → IsRefusedText reads text
text_refused reads text error e (inl memory) (is, not) = let same : e ≡ Memory alloc_error = cc in absurd (not same)
text_refused reads text error e (inr answer) (is, not) =
    (e, subst (λ x. IsSettingsAnswer reads usual_directories text (Err x)) is answer, not)

-- a failure to read is of a file that the settings ask for
text_unread : (reads : List ℕ → Read → Type 0) (text : List ℕ) (error : Error) (fault : Failure)
    → (error ≡ Tz (Memory alloc_error)) ⊎ IsSettingsAnswer reads usual_directories text (Err error)
    → error ≡ Io fault → (x : Failure) × IsSettingsAnswer reads usual_directories text (Err (Io x))
text_unread reads text error fault (inl memory) is =
    let both : Tz (Memory alloc_error) ≡ Io fault = sym memory ∙ is in absurd (cc)
text_unread reads text error fault (inr answer) is =
    (fault, subst (λ x. IsSettingsAnswer reads usual_directories text (Err x)) is answer)

-- what an error becomes
abbrev IsFaultOf : TzError → Fault → Type 0
IsFaultOf error fault = ((fault ≡ faults.Zone error) × (error ≢ Memory alloc_error)) ⊎ (fault ≡ faults.Memory)

refused_by : (error : TzError) (fault : Fault) → IsFaultOf error fault → (e : TzError) → fault ≡ faults.Zone e
    → (error ≡ e) × (e ≢ Memory alloc_error)
refused_by error fault (inl (zone, not)) e is =
    let both : faults.Zone error ≡ faults.Zone e = sym zone ∙ is in
    let same : error ≡ e = cc in (same, subst (λ x. x ≢ Memory alloc_error) same not)
refused_by error fault (inr memory) e is = let both : faults.Memory ≡ faults.Zone e = sym memory ∙ is in absurd (cc)

never_bad : (error : TzError) (fault : Fault) → IsFaultOf error fault → fault ≢ faults.Arguments
never_bad error fault (inl (zone, not)) is =
    let both : faults.Zone error ≡ faults.Arguments = sym zone ∙ is in absurd (cc)
never_bad error fault (inr memory) is = let both : faults.Memory ≡ faults.Arguments = sym memory ∙ is in absurd (cc)

never_unread : (error : TzError) (fault : Fault) → IsFaultOf error fault → fault ≢ faults.File
never_unread error fault (inl (zone, not)) is =
    let both : faults.Zone error ≡ faults.File = sym zone ∙ is in absurd (cc)
never_unread error fault (inr memory) is = let both : faults.Memory ≡ faults.File = sym memory ∙ is in absurd (cc)

pub returns-in-text-clause-ok : goal.returns-in-text-clause-ok
returns-in-text-clause-ok g c =
    let offset = c.in_ok-ut_offset-in-text.ut_offset in
    let number = value_in c.read_offset.result offset _ c.in_ok-ut_offset-in-text.ensures.ok_part
    c.read_offset.ensures.some in
    names c.args.arguments.now _ c.in-text.len_at_least c.in-text.len_below
    (inl (
      c.in-text.is-text,
      (
        offset,
        number.0,
        number.1,
        c.in_ok-fixed-in-text.ensures.ok.1
            ∙ ap fixed_zone (to_z-of_z w32 offset number.1),
      ),
    ))

pub returns-in_err-fixed-in-text-clause-refused : goal.returns-in_err-fixed-in-text-clause-refused
returns-in_err-fixed-in-text-clause-refused g c =
    let offset = c.in_ok-ut_offset-in-text.ut_offset in
    let number = value_in c.read_offset.result offset _ c.in_ok-ut_offset-in-text.ensures.ok_part
    c.read_offset.ensures.some in
    let p = err_from_is_err_and c.from_residual-in_err-fixed-in-text.result
    c.from_residual-in_err-fixed-in-text.ensures.1 in
    rw p.1 (λ e is. refuses c.args.arguments.now _ c.in-text.len_at_least c.in-text.len_below
    (inl (
      c.in-text.is-text,
      (
        offset,
        number.0,
        number.1,
        offset_refused offset _ _ e (to_z-of_z w32 offset number.1)
            c.in_err-fixed-in-text.ensures.err (refused_by _ _ p.2 e is),
      ),
    )))

pub returns-in-Ok-clause-ok : goal.returns-in-Ok-clause-ok
returns-in-Ok-clause-ok g c =
    let IsFile : List ℕ → Type 0 = λ bs. IsTzFile bs (own_zone_of c.in_ok-from_tz_data-in-Ok.field-0) in
    names c.args.arguments.now _ c.in-text-2.len_at_least c.in-text-2.len_below
    (inr (inl (
      c.in-text-2.is-text,
      (
        c.in-Ok.bytes,
        says_at g.F.Fn c.reader.ensures c.in-Ok.is,
        subst IsFile c.deref.ensures.value
            c.in_ok-from_tz_data-in-Ok.ensures.ok,
      ),
    )))

pub returns-in_err-from_tz_data-in-Ok-clause-refused : goal.returns-in_err-from_tz_data-in-Ok-clause-refused
returns-in_err-from_tz_data-in-Ok-clause-refused g c =
    let p = err_from_is_err_and c.from_residual-in_err-from_tz_data-in-Ok.result
    c.from_residual-in_err-from_tz_data-in-Ok.ensures.1 in
    let IsNone : List ℕ → Type 0 = λ bs. (zone : Zone) → ¬ IsTzFile bs zone in
    rw p.1 (λ e is. refuses c.args.arguments.now _ c.in-text-2.len_at_least c.in-text-2.len_below
    (inr (inl (
      c.in-text-2.is-text,
      (
        c.in-Ok.bytes,
        says_at g.F.Fn c.reader.ensures c.in-Ok.is,
        subst IsNone c.deref.ensures.value
            (file_refused _ _ e c.in_err-from_tz_data-in-Ok.ensures.only (refused_by _ _ p.2 e is)),
      ),
    ))))

pub returns-in-Ok-from_posix_tz-clause-ok : goal.returns-in-Ok-from_posix_tz-clause-ok
returns-in-Ok-from_posix_tz-clause-ok g c =
    names c.args.arguments.now _ c.in-text-3.len_at_least c.in-text-3.len_below
    (inr (inr (c.in-text-3.is-text, c.in-Ok-from_posix_tz.ensures)))

pub returns-in_err-fixed-in-text-clause-bad : goal.returns-in_err-fixed-in-text-clause-bad
returns-in_err-fixed-in-text-clause-bad g c =
    let step = c.from_residual-in_err-fixed-in-text in
    let p = err_from_is_err_and step.result step.ensures.1 in
    rw p.1 (λ is. absurd (never_bad _ _ p.2 is))

pub returns-in_err-fixed-in-text-clause-starved : goal.returns-in_err-fixed-in-text-clause-starved
returns-in_err-fixed-in-text-clause-starved g c =
    let offset = c.in_ok-ut_offset-in-text.ut_offset in
    let number = value_in c.read_offset.result offset _ c.in_ok-ut_offset-in-text.ensures.ok_part
    c.read_offset.ensures.some in
    let step = c.from_residual-in_err-fixed-in-text in
    let p = err_from_is_err_and step.result step.ensures.1 in
    let two = two_texts c.args.arguments.now _ c.in-text.len_at_least c.in-text.len_below in
    rw p.1 (λ is. (_, _, two, inl (c.in-text.is-text, (offset, number.0, number.1))))

pub returns-in_err-fixed-in-text-clause-unread : goal.returns-in_err-fixed-in-text-clause-unread
returns-in_err-fixed-in-text-clause-unread g c =
    let step = c.from_residual-in_err-fixed-in-text in
    let p = err_from_is_err_and step.result step.ensures.1 in
    rw p.1 (λ is. absurd (never_unread _ _ p.2 is))

pub returns-in_err-from_tz_data-in-Ok-clause-bad : goal.returns-in_err-from_tz_data-in-Ok-clause-bad
returns-in_err-from_tz_data-in-Ok-clause-bad g c =
    let step = c.from_residual-in_err-from_tz_data-in-Ok in
    let p = err_from_is_err_and step.result step.ensures.1 in
    rw p.1 (λ is. absurd (never_bad _ _ p.2 is))

pub returns-in_err-from_tz_data-in-Ok-clause-starved : goal.returns-in_err-from_tz_data-in-Ok-clause-starved
returns-in_err-from_tz_data-in-Ok-clause-starved g c =
    let step = c.from_residual-in_err-from_tz_data-in-Ok in
    let p = err_from_is_err_and step.result step.ensures.1 in
    let two = two_texts c.args.arguments.now _ c.in-text-2.len_at_least c.in-text-2.len_below in
    let read = says_at g.F.Fn c.reader.ensures c.in-Ok.is in
    rw p.1 (λ is. (_, _, two, inr (inl (c.in-text-2.is-text, inr (c.in-Ok.bytes, read)))))

pub returns-in_err-from_tz_data-in-Ok-clause-unread : goal.returns-in_err-from_tz_data-in-Ok-clause-unread
returns-in_err-from_tz_data-in-Ok-clause-unread g c =
    let step = c.from_residual-in_err-from_tz_data-in-Ok in
    let p = err_from_is_err_and step.result step.ensures.1 in
    rw p.1 (λ is. absurd (never_unread _ _ p.2 is))

pub returns-in-text-2-clause-unread : goal.returns-in-text-2-clause-unread
returns-in-text-2-clause-unread g c = λ is.
    let two = two_texts c.args.arguments.now _ c.in-text-2.len_at_least c.in-text-2.len_below in
    let failed = says_at g.F.Fn c.reader.ensures (c.in-Err-Failed.is ∙ ap Err c.in-Err-Failed.field-0-is) in
    (_, _, two, inl (c.in-text-2.is-text, (c.in-Err-Failed.field-0-0, failed)))

pub returns-in-Err-Memory-clause-starved : goal.returns-in-Err-Memory-clause-starved
returns-in-Err-Memory-clause-starved g c = λ is.
    let two = two_texts c.args.arguments.now _ c.in-text-2.len_at_least c.in-text-2.len_below in
    let lacked = says_at g.F.Fn c.reader.ensures (c.in-Err-Memory.is ∙ ap Err c.in-Err-Memory.field-0-is) in
    (_, _, two, inr (inl (c.in-text-2.is-text, inl lacked)))

pub returns-in-Err-Io-clause-unread : goal.returns-in-Err-Io-clause-unread
returns-in-Err-Io-clause-unread g c = λ is.
    let two = two_texts c.args.arguments.now _ c.in-text-3.len_at_least c.in-text-3.len_below in
    let unread = text_unread _ _ c.in-Err-Io.field-0 c.in-Err-Io.field-0-0 c.in-Err-Io.ensures c.in-Err-Io.field-0-is in
    (_, _, two, inr (c.in-text-3.is-text, unread))

pub returns-in-text-3 : goal.returns-in-text-3
returns-in-text-3 g c =
    record {
      ok = search rules;
      bad = λ is. absurd (never_bad _ _ c.from.ensures is);
      unread = λ is. absurd (never_unread _ _ c.from.ensures is);
      starved = λ is. (
        _,
        _,
        two_texts c.args.arguments.now _ c.in-text-3.len_at_least c.in-text-3.len_below,
        inr (inr c.in-text-3.is-text),
      );
      refused = λ e is.
          let (same, other) = refused_by _ _ c.from.ensures e is in
          refuses c.args.arguments.now _ c.in-text-3.len_at_least c.in-text-3.len_below
          (inr (inr (
            c.in-text-3.is-text,
            text_refused _ _ _ e c.in-Err-Tz.ensures ((search rules) ∙ ap Tz same, other),
          )));
    }
