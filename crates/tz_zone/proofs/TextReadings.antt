-- Each part of the grammar of TZ strings reads one thing at the front of a text.
use Rattle.tz_zone.proofs.Common.{◌≡◌, arith, ℕ, refl, sym, inr, inl, ◌∙◌, ap, List, Some, [], Option, ◌≢◌, None, false, ◌∷◌, true, Bool, false≢true, ◌++◌, take_while, cond, IsNumber, AlternateText, IsAlternateText, IsRuleText, IsRun, IsDaylightOffset, IsMonthWeekText, IsName, IsSignedTime, WrittenTime, comma, dot, is_ascii_digit, month_week, take_while-cons, DayAndTime, IsDay, IsDayTime, IsDayTimeSign, IsHms, IsNameAndOffset, IsPart, IsSign, Julian0WithLeap, Julian1WithoutLeap, MonthWeekDay, RuleDay, capital_j, capital_m, digits_value, IsTimeOfRule, append_cancel_left}

abbrev pub IsOne : {A : Type 0} → (List ℕ → A → List ℕ → Type 0) → Type 0
IsOne {A} reads = (text : List ℕ) (x y : A) (rest more : List ℕ) → reads text x rest → reads text y more
    → (x ≡ y) × (rest ≡ more)

-- the byte at the front, and the bytes after it, are those of the text
pub same_byte : {a b : ℕ} {text xs ys : List ℕ} → text ≡ a ∷ xs → text ≡ b ∷ ys → a ≡ b
same_byte e f = cc

pub same_rest : {a b : ℕ} {text xs ys : List ℕ} → text ≡ a ∷ xs → text ≡ b ∷ ys → xs ≡ ys
same_rest e f = cc

pub same_tail : {a b : ℕ} {xs ys : List ℕ} → a ∷ xs ≡ b ∷ ys → xs ≡ ys
same_tail e = cc

pub run_is_one : {test : ℕ → Bool} {text run other rest more : List ℕ} → IsRun test text run rest
    → IsRun test text other more → (run ≡ other) × (rest ≡ more)
run_is_one {run = run} {other = other} {rest = rest} {more = more} a b =
    let same : run ≡ other = a.longest ∙ sym b.longest in
    (same, append_cancel_left run rest more (sym a.parts ∙ b.parts ∙ ap (λ x. x ++ more) (sym same)))

pub number_is_one : IsOne IsNumber
number_is_one text n m rest more a b =
    let same = run_is_one a.run b.run in
    (a.value ∙ ap (digits_value 10) same.0 ∙ sym b.value, same.1)

-- two numbers after the same byte
pub number_after_is_one : {b : ℕ} {text xs ys : List ℕ} (n m : ℕ) (rest more : List ℕ) → text ≡ b ∷ xs → text ≡ b ∷ ys
    → IsNumber xs n rest → IsNumber ys m more → (n ≡ m) × (rest ≡ more)
number_after_is_one {xs = xs} {ys = ys} n m rest more e f a b =
    number_is_one ys n m rest more (rw (same_rest e f) at a) b

begins_with_digit : (digit : Bool) (b : ℕ) (bs run : List ℕ) → is_ascii_digit b ≡ digit → run ≡ cond digit (b ∷ bs) []
    → run ≢ [] → is_ascii_digit b ≡ true
begins_with_digit true b bs run e longest some = e
begins_with_digit false b bs run e longest some = absurd (some longest)

pub number_begins : (text : List ℕ) (b : ℕ) (bs : List ℕ) (n : ℕ) (rest : List ℕ) → text ≡ b ∷ bs → IsNumber text n rest
    → is_ascii_digit b ≡ true
number_begins text b bs n rest e number =
    begins_with_digit (is_ascii_digit b) b (take_while is_ascii_digit bs) number.digits refl
    (number.run.longest ∙ ap (take_while is_ascii_digit) e ∙ take_while-cons is_ascii_digit b bs) number.some

pub part_is_one : IsOne IsPart
part_is_one text n m rest more a b = elim a [
  | inl x ↦ elim b [ inl y ↦ number_after_is_one n m rest more x.1 y.1 x.2 y.2 | inr y ↦ absurd (y.0 (x.0, x.1)) ]
  | inr x ↦ elim b [ inl y ↦ absurd (x.0 (y.0, y.1)) | inr y ↦ (x.1 ∙ sym y.1, x.2 ∙ sym y.2) ]
]

pub sign_is_one : IsOne IsSign
sign_is_one text x y rest more a b = elim a [
  | inl p ↦ elim b [
    | inl q ↦ (p.1 ∙ sym q.1, same_rest p.0 q.0)
    | inr (inl q) ↦ let clash = same_byte p.0 q.0 in absurd (omega arith)
    | inr (inr q) ↦ absurd (q.0 (rest, p.0))
  ]
  | inr (inl p) ↦ elim b [
    | inl q ↦ let clash = same_byte p.0 q.0 in absurd (omega arith)
    | inr (inl q) ↦ (p.1 ∙ sym q.1, same_rest p.0 q.0)
    | inr (inr q) ↦ absurd (q.1 (rest, p.0))
  ]
  | inr (inr p) ↦ elim b [
    | inl q ↦ absurd (p.0 (more, q.0))
    | inr (inl q) ↦ absurd (p.1 (more, q.0))
    | inr (inr q) ↦ (p.3 ∙ sym q.3, p.2 ∙ sym q.2)
  ]
]

pub day_time_sign_is_one : (extended : Bool) → IsOne (IsDayTimeSign extended)
day_time_sign_is_one true = sign_is_one
day_time_sign_is_one false = λ text x y rest more a b. (a.0 ∙ sym b.0, a.1 ∙ sym b.1)

time_of : Bool → ℕ → ℕ → ℕ → WrittenTime
time_of minus hours minutes seconds = record { minus = minus; hours = hours; minutes = minutes; seconds = seconds }

pub same_time : (t u : WrittenTime) → t.minus ≡ u.minus → t.hours ≡ u.hours → t.minutes ≡ u.minutes
    → t.seconds ≡ u.seconds → t ≡ u
unfolding time_of
same_time t u a b c d =
    let same : time_of t.minus t.hours t.minutes t.seconds ≡ time_of u.minus u.hours u.minutes u.seconds = cc in same

-- the numbers of a time are read in one way, whatever its sign
pub times_are_one : (text : List ℕ) (t u : WrittenTime) (rest more : List ℕ) → IsHms text t rest → IsHms text u more
    → (t.hours ≡ u.hours) × (t.minutes ≡ u.minutes) × (t.seconds ≡ u.seconds) × (rest ≡ more)
times_are_one text t u rest more a b =
    let hours = number_is_one text t.hours u.hours a.after_hours b.after_hours a.hours_are b.hours_are in
    let minutes = part_is_one b.after_hours t.minutes u.minutes a.after_minutes b.after_minutes
    (rw hours.1 at a.minutes_are) b.minutes_are in
    let seconds = part_is_one b.after_minutes t.seconds u.seconds rest more (rw minutes.1 at a.seconds_are)
    b.seconds_are in
    (hours.0, minutes.0, seconds.0, seconds.1)

pub hms_is_one : (text : List ℕ) (t u : WrittenTime) (rest more : List ℕ) → t.minus ≡ u.minus → IsHms text t rest
    → IsHms text u more → (t ≡ u) × (rest ≡ more)
hms_is_one text t u rest more sign a b =
    let one = times_are_one text t u rest more a b in
    (same_time t u sign one.0 one.1 one.2, one.3)

-- a sign, and the time after it
pub after_sign_is_one : (text : List ℕ) (signs : List ℕ → Bool → List ℕ → Type 0) → IsOne signs
    → (t u : WrittenTime) (rest more : List ℕ)
    → (unsigned : List ℕ) × signs text t.minus unsigned × IsHms unsigned t rest
    → (unsigned : List ℕ) × signs text u.minus unsigned × IsHms unsigned u more → (t ≡ u) × (rest ≡ more)
after_sign_is_one text signs one t u rest more a b =
    let sign = one text t.minus u.minus a.0 b.0 a.1 b.1 in
    hms_is_one b.0 t u rest more sign.0 (rw sign.1 at a.2) b.2

pub signed_time_is_one : IsOne IsSignedTime
signed_time_is_one text t u rest more a b = after_sign_is_one text IsSign sign_is_one t u rest more a b

pub day_time_is_one : (extended : Bool) → IsOne (IsDayTime extended)
day_time_is_one extended text t u rest more a b =
    after_sign_is_one text (IsDayTimeSign extended) (day_time_sign_is_one extended) t u rest more a b

pub month_week_is_one : IsOne IsMonthWeekText
month_week_is_one text d e rest more a b =
    let month = number_is_one text d.month e.month (dot ∷ a.0) (dot ∷ b.0) a.2 b.2 in
    let week = number_is_one b.0 d.week e.week (dot ∷ a.1) (dot ∷ b.1) (rw (same_tail month.1) at a.3) b.3 in
    let day = number_is_one b.1 d.week_day e.week_day rest more (rw (same_tail week.1) at a.4) b.4 in
    let same : month_week d.month d.week d.week_day ≡ month_week e.month e.week e.week_day =
    ap (λ x. month_week x d.week d.week_day) month.0 ∙ ap (λ x. month_week e.month x d.week_day) week.0
    ∙ ap (λ x. month_week e.month e.week x) day.0
    in (same, day.1)

pub no_digit : {P : Type 0} (text : List ℕ) (b : ℕ) (bs : List ℕ) (n : ℕ) (rest : List ℕ) → is_ascii_digit b ≡ false
    → text ≡ b ∷ bs → IsNumber text n rest → P
no_digit text b bs n rest none e number = absurd (false≢true (sym none ∙ number_begins text b bs n rest e number))

pub day_is_one : IsOne IsDay
day_is_one text (Julian1WithoutLeap n) (Julian1WithoutLeap m) rest more a b =
    let same = number_after_is_one n m rest more a.1 b.1 a.2 b.2 in (ap Julian1WithoutLeap same.0, same.1)
day_is_one text (Julian1WithoutLeap n) (Julian0WithLeap m) rest more a b = no_digit text capital_j a.0 m more refl a.1 b
day_is_one text (Julian1WithoutLeap n) (MonthWeekDay d) rest more a b = let clash = same_byte a.1 b.1 in
    absurd (omega arith)
day_is_one text (Julian0WithLeap n) (Julian1WithoutLeap m) rest more a b = no_digit text capital_j b.0 n rest refl b.1 a
day_is_one text (Julian0WithLeap n) (Julian0WithLeap m) rest more a b =
    let same = number_is_one text n m rest more a b in (ap Julian0WithLeap same.0, same.1)
day_is_one text (Julian0WithLeap n) (MonthWeekDay d) rest more a b = no_digit text capital_m b.0 n rest refl b.1 a
day_is_one text (MonthWeekDay d) (Julian1WithoutLeap m) rest more a b = let clash = same_byte a.1 b.1 in
    absurd (omega arith)
day_is_one text (MonthWeekDay d) (Julian0WithLeap m) rest more a b = no_digit text capital_m a.0 m more refl a.1 b
day_is_one text (MonthWeekDay d) (MonthWeekDay e) rest more a b =
    let same = month_week_is_one b.0 d e rest more (rw (same_rest a.1 b.1) at a.2) b.2 in
    (ap MonthWeekDay same.0, same.1)

pub time_of_rule_is_one : (extended : Bool) → IsOne (IsTimeOfRule extended)
time_of_rule_is_one extended text t u rest more a b = elim a [
  | inl x ↦ elim b [
    | inl y ↦ day_time_is_one extended y.0 t u rest more (rw (same_rest x.1 y.1) at x.2) y.2
    | inr y ↦ absurd (y.0 (x.0, x.1))
  ]
  | inr x ↦ elim b [ inl y ↦ absurd (x.0 (y.0, y.1)) | inr y ↦ (x.1 ∙ sym y.1, x.2 ∙ sym y.2) ]
]

rule_at : RuleDay → WrittenTime → DayAndTime
rule_at day time = record { day = day; time = time }

pub rule_text_is_one : (extended : Bool) → IsOne (IsRuleText extended)
unfolding rule_at
rule_text_is_one extended text r s rest more a b =
    let day = day_is_one text r.day s.day a.0 b.0 a.1 b.1 in
    let time = time_of_rule_is_one extended b.0 r.time s.time rest more (rw day.1 at a.2) b.2 in
    ((ap (λ x. rule_at x r.time) day.0 ∙ ap (λ x. rule_at s.day x) time.0), time.1)

pub name_is_one : IsOne IsName
name_is_one text x y rest more a b = elim a [
  | inl p ↦ elim b [
    | inl q ↦ (let same = run_is_one (rw (same_rest p.1 q.1) at p.2) q.2 in (same.0, same_tail same.1))
    | inr q ↦ absurd (q.0 (p.0, p.1))
  ]
  | inr p ↦ elim b [ inl q ↦ absurd (p.0 (q.0, q.1)) | inr q ↦ run_is_one p.1 q.1 ]
]

pub daylight_offset_is_one : IsOne IsDaylightOffset
daylight_offset_is_one text None None rest more a b = (refl, a.1 ∙ sym b.1)
daylight_offset_is_one text None (Some u) rest more a b = absurd (b.0 a.0)
daylight_offset_is_one text (Some t) None rest more a b = absurd (a.0 b.0)
daylight_offset_is_one text (Some t) (Some u) rest more a b =
    let same = signed_time_is_one text t u rest more a.1 b.1 in (ap Some same.0, same.1)

-- what a text says, of its parts
abbrev text_of : List ℕ → WrittenTime → List ℕ → Option WrittenTime → DayAndTime → DayAndTime → AlternateText
text_of std_name std_offset dst_name dst_offset start end =
    record {
      std_name = std_name;
      std_offset = std_offset;
      dst_name = dst_name;
      dst_offset = dst_offset;
      start = start;
      end = end;
    }

pub name_and_offset_is_one : (text x y : List ℕ) (t u : WrittenTime) (rest more : List ℕ)
    → IsNameAndOffset text x t rest → IsNameAndOffset text y u more → (x ≡ y) × (t ≡ u) × (rest ≡ more)
name_and_offset_is_one text x y t u rest more a b =
    let name = name_is_one text x y a.after_name b.after_name a.name_is b.name_is in
    let offset = signed_time_is_one b.after_name t u rest more (rw name.1 at a.offset_is) b.offset_is in
    (name.0, offset.0, offset.1)

pub alternate_text_is_one : (extended : Bool) (text : List ℕ) (a b : AlternateText) → IsAlternateText extended text a
    → IsAlternateText extended text b → a ≡ b
alternate_text_is_one extended text a b x y =
    let std = name_and_offset_is_one text a.std_name b.std_name a.std_offset b.std_offset x.after_std y.after_std
    x.std_is y.std_is in
    let name = name_is_one y.after_std a.dst_name b.dst_name x.after_dst_name y.after_dst_name
    (rw std.2 at x.dst_name_is) y.dst_name_is in
    let offset = daylight_offset_is_one y.after_dst_name a.dst_offset b.dst_offset (comma ∷ x.start_text)
    (comma ∷ y.start_text) (rw name.1 at x.dst_offset_is) y.dst_offset_is in
    let start = rule_text_is_one extended y.start_text a.start b.start (comma ∷ x.end_text) (comma ∷ y.end_text)
    (rw (same_tail offset.1) at x.start_is) y.start_is in
    let end = rule_text_is_one extended y.end_text a.end b.end [] [] (rw (same_tail start.1) at x.end_is) y.end_is in
    let same : text_of a.std_name a.std_offset a.dst_name a.dst_offset a.start a.end
    ≡ text_of b.std_name b.std_offset b.dst_name b.dst_offset b.start b.end =
    grind (arith, std.0, std.1, name.0, offset.0, start.0, end.0) in same
