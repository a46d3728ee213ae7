-- The lines of what is found, and its nanoseconds.
use Rattle.tz_query.proofs.Common.{sym, subst, refl, arith, ◌≡◌, [], ap, ◌∷◌, ◌∙◌, ◌++◌, ℕ, inl, List, ◌<◌, append_assoc, zone_of, ℤ, ended, Fields, codes, number_of, Zone, get_or, IsClock, Search, moment_text, Adds, DateTime, with_nanoseconds, All, IsSearchAnswer, decimal, moment_of, FoundDateTimeKind, found_lines, AllZip, AreEntries, HasNanoseconds, LocalTimeType, Normal, Shown, Skipped, reading, Answers, Clock, Entry, IsAnswered, IsFoundBy, IsValid, IsFound}
use Rattle.std.proofs.lemmas.Fmt.{decimal_digit}
use Rattle.tz.specs.EntryDateTimes.{IsMadeOf}
use Rattle.tz.proofs.DatedEntries.{found_from_entries, made_from_entries}
use Rattle.tz_query.specs.declared.query.read_query.Nanoseconds.{Nanoseconds}
use Rattle.tz_query.proofs.AddedText.{with_text}
use Rattle.tz_query.proofs.OtherNanoseconds.{same_fields, valid_with}

-- the lines of one date time, of two, and of a jump
pub lines_of_one : (text : List ℕ) → ended ((codes "F " ++ decimal 1) ∷ (codes "N " ++ text) ∷ []) ≡ 70 ∷ 32 ∷ 49 ∷ 10
    ∷ 78 ∷ 32 ∷ (text ++ 10 ∷ [])
lines_of_one text = ap (λ count. ended ((codes "F " ++ count) ∷ (codes "N " ++ text) ∷ []))
    (decimal_digit 1 (omega arith))

pub lines_of_two : (x y : List ℕ) → ended ((codes "F " ++ decimal 2) ∷ (codes "N " ++ x) ∷ (codes "N " ++ y) ∷ [])
    ≡ 70 ∷ 32 ∷ 50 ∷ 10 ∷ 78 ∷ 32 ∷ ((x ++ 10 ∷ []) ++ 78 ∷ 32 ∷ (y ++ 10 ∷ []))
lines_of_two x y =
    ap (λ count. ended ((codes "F " ++ count) ∷ (codes "N " ++ x) ∷ (codes "N " ++ y) ∷ []))
    (decimal_digit 2 (omega arith))
    ∙ ap (λ bytes. 70 ∷ 32 ∷ 50 ∷ 10 ∷ 78 ∷ 32 ∷ bytes) (sym (append_assoc x (10 ∷ []) (78 ∷ 32 ∷ (y ++ 10 ∷ []))))

pub lines_of_jump : (x y : List ℕ) → ended ((codes "F " ++ decimal 1) ∷ (codes "S " ++ (x ++ 32 ∷ y)) ∷ [])
    ≡ 70 ∷ 32 ∷ 49 ∷ 10 ∷ 83 ∷ 32 ∷ (x ++ 32 ∷ (y ++ 10 ∷ []))
lines_of_jump x y =
    ap (λ count. ended ((codes "F " ++ count) ∷ (codes "S " ++ (x ++ 32 ∷ y)) ∷ [])) (decimal_digit 1 (omega arith))
    ∙ ap (λ bytes. 70 ∷ 32 ∷ 49 ∷ 10 ∷ 83 ∷ 32 ∷ bytes) (append_assoc x (32 ∷ y) (10 ∷ []))

-- a date time is made of its parts, its nanoseconds put in once more
pub made_again : (d : DateTime) (f : Fields) (t : LocalTimeType) (n : ℕ) → f ≡ d.fields → t ≡ d.local_time_type
    → d.fields.nanoseconds ≡ n → moment_of (record f { nanoseconds = n }) t d.unix_time ≡ d
made_again d f t n fields_are type_is few =
    ap (λ (g : Fields). moment_of (record g { nanoseconds = n }) t d.unix_time) fields_are
    ∙ ap (λ (g : Fields). moment_of g t d.unix_time) (same_fields d.fields n few)
    ∙ ap (λ (s : LocalTimeType). moment_of d.fields s d.unix_time) type_is

-- what is found has the nanoseconds of the fields
each_has : (clock : Clock) (f : Fields) (e : FoundDateTimeKind) → IsFoundBy clock f e → HasNanoseconds f.nanoseconds e
each_has clock f (Normal d) (fields_are, shows) = ap (λ (g : Fields). g.nanoseconds) fields_are
each_has clock f (Skipped before after) (u, a, b, passes, first, second) =
    (first.civil.nanoseconds_are, second.civil.nanoseconds_are)

pub found_nanoseconds : (clock : Clock) (f : Fields) (found : List FoundDateTimeKind) → IsFound clock f found
    → All (HasNanoseconds f.nanoseconds) found
found_nanoseconds clock f found is = λ k e within. each_has clock f (get_or found k e) (is.sound k e within)

-- the lines of the date times of all entries are the answer
pub answered_by : (z : Zone) (f : Fields) (n : ℕ) (r : ℤ) (es : List Entry) (found : List FoundDateTimeKind)
    → n < 1000000000 → IsValid f → reading f ≡ r → AreEntries (IsClock z) r es →
    AllZip (IsMadeOf (record f { nanoseconds = n })) es found
    → IsSearchAnswer z (record f { nanoseconds = n }) (found_lines found)
answered_by z f n r es found few valid is are made =
    let g : Fields = record f { nanoseconds = n } in
    let all : AreEntries (IsClock z) (reading g) es = subst (λ (x : ℤ). AreEntries (IsClock z) x es) (sym is) are in
    inl (
      found,
      valid_with f n few valid,
      found_from_entries (IsClock z) g es found all made,
      made_from_entries
          (IsClock z) g es found all made,
      refl,
    )

-- the line of the one date time that the fields mean is the answer
pub shown_once : {A : Type 0} {a b : Answers A} (f : Fields) (nanoseconds : Nanoseconds) (r : ℤ) (t : LocalTimeType)
    (u : ℤ) → IsValid f → reading f ≡ r → AreEntries (IsClock (zone_of a.zone)) r (Shown u t ∷ []) →
    Adds a b (codes "F 1" ++ 10 ∷ (codes "N " ++ (moment_text (moment_of (with_nanoseconds f nanoseconds) t u) ++ 10
    ∷ []))) → IsAnswered (Search (with_nanoseconds f nanoseconds)) a b
shown_once {a} f nanoseconds r t u valid is all adds =
    let d = moment_of (with_nanoseconds f nanoseconds) t u in (
      found_lines (Normal d ∷ []),
      answered_by (zone_of a.zone) f (number_of nanoseconds) r (Shown u t ∷ []) (Normal d ∷ []) nanoseconds.below valid
          is all ((refl, tt), tt),
      with_text (sym (lines_of_one (moment_text d))) adds,
    )
