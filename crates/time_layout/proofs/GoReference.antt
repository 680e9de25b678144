-- A layout reads its own text as the reference time.
use Rattle.std.proofs.Common.{◌≡◌, ◌∙◌, sym, ap, refl, subst, ℕ, ◌+◌, List, [], ◌∷◌, ◌++◌, length, take, drop, get_or, codes, Bool, true, false, not, cond, ◌==◌, ◌&&◌, Option, Some, None, Ok, ℤ, pos, neg_ℤ, inl, inr, arith, append-nil}
use Rattle.std.proofs.Math.Seq.{take-append_seam, drop-append_seam}
use Rattle.std.proofs.lemmas.Bool.{eqb-true, false≢true}
use Rattle.std.specs.Char.{is_ascii_digit}
use Rattle.case_table.specs.Rows.{Named}
use Rattle.case_table.specs.Tables.{gotime_table}
use Rattle.time_layout.specs.declared.directives.Given.{Given}
use Rattle.time_layout.specs.declared.go_layouts.Symbol.{Symbol}
use Rattle.time_layout.specs.declared.parts.Clock.TheVariants.{Full, Pm}
use Rattle.time_layout.specs.declared.parts.Colon.TheVariants.{Required, Missing}
use Rattle.time_layout.specs.declared.parts.Part.{Part}
use Rattle.time_layout.specs.declared.parts.Part.TheVariants.{Literal, Year, ShortYear, Month, MonthName, Day, WeekdayName, Hour, TwelveHour, Meridiem, Minute, Second, PointFraction, FullMonthName, FullWeekdayName, FixedFraction, FractionPoint, Offset}
use Rattle.time_layout.specs.declared.parts.Said.{Said}
use Rattle.time_layout.specs.Atoms.{stands}
use Rattle.time_layout.specs.GoGrammar.{IsGoName, IsLongest, NamePiece, IsNamePiece, name_bytes, named_parts, AreNamePieces, names_give, IsGoText, IsGoOutcome, IsPlain, ArePlain, IsReferenceTime}
use Rattle.time_layout.specs.GoLayouts.{part_named, longest_name, is_fraction, second_before, named_symbol, symbol_with, symbol_in, symbol_at, parts_with, NameDraft, go_draft}
use Rattle.time_layout.specs.Instant.{clock_hour}
use Rattle.time_layout.specs.LayoutText.{with_part, once, nothing_given, is_complete}
use Rattle.time_layout.specs.Parts.{layout_read, nothing_said}
use Rattle.time_layout.specs.Texts.{Spells, IsTextOf}
use Rattle.time_layout.proofs.CompleteParts.{layout_reads}
use Rattle.time_layout.proofs.Completes.{stands_is}
use Rattle.time_layout.proofs.GoTexts.{AllRows, row_has, longest_is, next_cases, go_texts_are_read}

-- what is said where this is given
abbrev pub said_of : Given → ℤ → Said
said_of given location = record {
  year = cond given.year 2006 0;
  month = cond given.month 1 0;
  day = cond given.day 2 0;
  clock = cond given.meridiem Pm Full;
  hour = cond given.hour (cond given.twelve 3 15) 0;
  minute = cond given.minute 4 0;
  second = cond given.second 5 0;
  nanosecond = 0;
  offset = cond given.zone (neg_ℤ (pos 25_200)) location;
}

-- a clock of twelve hours is one of hours
abbrev IsSane : Given → Type 0
IsSane given = given.hour ≡ false → given.twelve ≡ false

given_or : Given → Option Given → Given
given_or given None = given
given_or given (Some other) = other

same_given : (one other : Given) → Some one ≡ Some other → one ≡ other
unfolding given_or
same_given one other is = ap (given_or one) is

first_time : (twice : Bool) (given after : Given) → once twice given ≡ Some after → (twice ≡ false) × (given ≡ after)
first_time true given after is = cc
first_time false given after is = (refl, same_given given after is)

-- the bytes are the part's text for what is given, and say what is given then
abbrev Tells : List ℕ → Part → Type 0
Tells own part = (given after : Given) (location : ℤ) (rest : List ℕ) → with_part part given ≡ Some after → IsSane given
    → Spells part own rest (said_of given location) (said_of after location) × IsSane after

abbrev RowTells : Named → Type 0
RowTells row = IsPlain (part_named row.1) → Tells row.0 (part_named row.1)

year_tells : Tells (codes "2006") Year
year_tells given after location rest gives sane =
    let t = first_time given.year (record given { year = true }) after gives in
    ((2006, record { all = refl; size = refl; value_is = refl; least = omega arith; greatest = omega arith }, ap (λ g. said_of g location) (sym t.1)), subst IsSane t.1 sane)

short_year_tells : Tells (codes "06") ShortYear
short_year_tells given after location rest gives sane =
    let t = first_time given.year (record given { year = true }) after gives in
    ((6, record { all = refl; size = refl; value_is = refl; least = omega arith; greatest = omega arith }, ap (λ g. said_of g location) (sym t.1)), subst IsSane t.1 sane)

month_tells : Tells (codes "01") Month
month_tells given after location rest gives sane =
    let t = first_time given.month (record given { month = true }) after gives in
    ((1, record { all = refl; size = refl; value_is = refl; least = omega arith; greatest = omega arith }, ap (λ g. said_of g location) (sym t.1)), subst IsSane t.1 sane)

month_name_tells : Tells (codes "Jan") MonthName
month_name_tells given after location rest gives sane =
    let t = first_time given.month (record given { month = true }) after gives in
    ((1, record { size_is = refl; named = refl }, ap (λ g. said_of g location) (sym t.1)), subst IsSane t.1 sane)

full_month_name_tells : Tells (codes "January") FullMonthName
full_month_name_tells given after location rest gives sane =
    let t = first_time given.month (record given { month = true }) after gives in
    ((1, refl, ap (λ g. said_of g location) (sym t.1)), subst IsSane t.1 sane)

day_tells : Tells (codes "02") Day
day_tells given after location rest gives sane =
    let t = first_time given.day (record given { day = true }) after gives in
    ((2, record { all = refl; size = refl; value_is = refl; least = omega arith; greatest = omega arith }, ap (λ g. said_of g location) (sym t.1)), subst IsSane t.1 sane)

weekday_tells : Tells (codes "Mon") WeekdayName
weekday_tells given after location rest gives sane =
    let t = first_time given.weekday (record given { weekday = true }) after gives in
    ((1, record { size_is = refl; named = refl }, ap (λ g. said_of g location) (sym t.1)), subst IsSane t.1 sane)

full_weekday_tells : Tells (codes "Monday") FullWeekdayName
full_weekday_tells given after location rest gives sane =
    let t = first_time given.weekday (record given { weekday = true }) after gives in
    ((1, refl, ap (λ g. said_of g location) (sym t.1)), subst IsSane t.1 sane)

minute_tells : Tells (codes "04") Minute
minute_tells given after location rest gives sane =
    let t = first_time given.minute (record given { minute = true }) after gives in
    ((4, record { all = refl; size = refl; value_is = refl; least = omega arith; greatest = omega arith }, ap (λ g. said_of g location) (sym t.1)), subst IsSane t.1 sane)

second_tells : Tells (codes "05") Second
second_tells given after location rest gives sane =
    let t = first_time given.second (record given { second = true }) after gives in
    ((5, record { all = refl; size = refl; value_is = refl; least = omega arith; greatest = omega arith }, ap (λ g. said_of g location) (sym t.1)), subst IsSane t.1 sane)

meridiem_tells : Tells (codes "PM") Meridiem
meridiem_tells given after location rest gives sane =
    let t = first_time given.meridiem (record given { meridiem = true }) after gives in
    ((2, record { size_is = refl; named = refl }, ap (λ g. said_of g location) (sym t.1)), subst IsSane t.1 sane)

millis_tell : Tells (codes ".000") (FixedFraction 3)
millis_tell given after location rest gives sane =
    let t = first_time given.fraction (record given { fraction = true }) after gives in
    ((0, record { behind = codes "000"; value = 0; is = refl; number = record { all = refl; size = refl; value_is = refl; least = omega arith; greatest = omega arith }; nanos_are = refl }, ap (λ g. said_of g location) (sym t.1)), subst IsSane t.1 sane)

micros_tell : Tells (codes ".000000") (FixedFraction 6)
micros_tell given after location rest gives sane =
    let t = first_time given.fraction (record given { fraction = true }) after gives in
    ((0, record { behind = codes "000000"; value = 0; is = refl; number = record { all = refl; size = refl; value_is = refl; least = omega arith; greatest = omega arith }; nanos_are = refl }, ap (λ g. said_of g location) (sym t.1)), subst IsSane t.1 sane)

nanos_tell : Tells (codes ".000000000") (FixedFraction 9)
nanos_tell given after location rest gives sane =
    let t = first_time given.fraction (record given { fraction = true }) after gives in
    ((0, record { behind = codes "000000000"; value = 0; is = refl; number = record { all = refl; size = refl; value_is = refl; least = omega arith; greatest = omega arith }; nanos_are = refl }, ap (λ g. said_of g location) (sym t.1)), subst IsSane t.1 sane)

offset_tells : Tells (codes "-0700") (Offset Missing)
offset_tells given after location rest gives sane =
    let t = first_time given.zone (record given { zone = true }) after gives in (
      (
        neg_ℤ (pos 25_200),
        inr (
          codes "0700",
          25_200,
          refl,
          refl,
          record {
            hours_text = codes "07";
            minutes_text = codes "00";
            hours = 7;
            minutes = 0;
            is = refl;
            are_hours = record { all = refl; size = refl; value_is = refl; least = omega arith; greatest = omega arith };
            are_minutes = record { all = refl; size = refl; value_is = refl; least = omega arith; greatest = omega arith };
            seconds_are = refl;
          },
        ),
        ap (λ g. said_of g location) (sym t.1),
      ),
      subst IsSane t.1 sane,
    )

colon_offset_tells : Tells (codes "-07:00") (Offset Required)
colon_offset_tells given after location rest gives sane =
    let t = first_time given.zone (record given { zone = true }) after gives in (
      (
        neg_ℤ (pos 25_200),
        inr (
          codes "07:00",
          25_200,
          refl,
          refl,
          record {
            hours_text = codes "07";
            minutes_text = codes ":00";
            hours = 7;
            minutes = 0;
            is = refl;
            are_hours = record { all = refl; size = refl; value_is = refl; least = omega arith; greatest = omega arith };
            are_minutes = (codes "00", refl, record { all = refl; size = refl; value_is = refl; least = omega arith; greatest = omega arith });
            seconds_are = refl;
          },
        ),
        ap (λ g. said_of g location) (sym t.1),
      ),
      subst IsSane t.1 sane,
    )

hour_tells : Tells (codes "15") Hour
hour_tells given after location rest gives sane =
    let t = first_time given.hour (record given { hour = true }) after gives in
    let said : said_of after location ≡ record (said_of given location) { hour = 15 } =
    ap (λ g. said_of g location) (sym t.1) ∙ ap (λ twelve. record (said_of given location) { hour = cond twelve 3 15 }) (sane t.0) in
    ((15, record { all = refl; size = refl; value_is = refl; least = omega arith; greatest = omega arith }, said), subst IsSane t.1 (λ none. absurd (false≢true (sym none))))

twelve_hour_tells : Tells (codes "03") TwelveHour
twelve_hour_tells given after location rest gives sane =
    let t = first_time given.hour (record given { hour = true; twelve = true }) after gives in
    ((3, record { all = refl; size = refl; value_is = refl; least = omega arith; greatest = omega arith }, ap (λ g. said_of g location) (sym t.1)), subst IsSane t.1 (λ none. absurd (false≢true (sym none))))

-- each name that is plain tells the reference time
rows_tell : AllRows RowTells gotime_table
rows_tell = (
  (λ plain. offset_tells),
  (
    (λ plain. colon_offset_tells),
    (
      (λ plain. millis_tell),
      (
        (λ plain. micros_tell),
        (
          (λ plain. nanos_tell),
          (
            (λ plain. month_tells),
            (
              (λ plain. day_tells),
              (
                (λ plain. twelve_hour_tells),
                (
                  (λ plain. minute_tells),
                  (
                    (λ plain. second_tells),
                    (
                      (λ plain. short_year_tells),
                      (
                        (λ plain. absurd plain),
                        (
                          (λ plain. hour_tells),
                          (
                            (λ plain. absurd plain),
                            (
                              (λ plain. year_tells),
                              (
                                (λ plain. absurd plain),
                                (
                                  (λ plain. month_name_tells),
                                  (
                                    (λ plain. full_month_name_tells),
                                    (
                                      (λ plain. absurd plain),
                                      (
                                        (λ plain. weekday_tells),
                                        (
                                          (λ plain. full_weekday_tells),
                                          (
                                            (λ plain. meridiem_tells),
                                            (
                                              (λ plain. absurd plain),
                                              (
                                                (λ plain. absurd plain),
                                                (
                                                  (λ plain. absurd plain),
                                                  tt,
                                                ),
                                              ),
                                            ),
                                          ),
                                        ),
                                      ),
                                    ),
                                  ),
                                ),
                              ),
                            ),
                          ),
                        ),
                      ),
                    ),
                  ),
                ),
              ),
            ),
          ),
        ),
      ),
    ),
  ),
)

symbol_or : Symbol → Option Symbol → Symbol
symbol_or found None = found
symbol_or found (Some other) = other

same_symbol : (one other : Symbol) → Some one ≡ Some other → one ≡ other
unfolding symbol_or
same_symbol one other is = ap (symbol_or one) is

-- the bytes are the text of the parts for which they stand, where rest follows
abbrev PieceTells : List ℕ → List ℕ → Symbol → Type 0
PieceTells own rest found = (given after : Given) (location : ℤ) → with_part found.part given ≡ Some after → IsSane given
    → ((parts : List Part) (said : Said) → IsTextOf parts rest (said_of after location) said
    → IsTextOf (parts_with found.part found.more ++ parts) (own ++ rest) (said_of given location) said) × IsSane after

literal_tells : (byte : ℕ) (rest : List ℕ) → PieceTells (byte ∷ []) rest (symbol_with (Literal byte) None 1)
literal_tells byte rest given after location gives sane =
    let same : given ≡ after = same_given given after gives in
    ((λ parts said made. (byte ∷ [], rest, said_of after location, refl, (refl, ap (λ g. said_of g location) (sym same)), made)), subst IsSane same sane)

byte_tells : (own rest : List ℕ) (digit : Bool) (found : Symbol) → cond {A = Option Symbol} digit None (Some (symbol_with (Literal (get_or (own ++ rest) 0 0)) None 1)) ≡ Some found
    → length own ≡ found.size → PieceTells own rest found
byte_tells own rest true found is size = cc
byte_tells [] rest false found is size = absurd (omega (arith, size, ap (λ f. f.size) (same_symbol (symbol_with (Literal (get_or rest 0 0)) None 1) found is)))
byte_tells (byte ∷ []) rest false found is size = subst (PieceTells (byte ∷ []) rest) (same_symbol (symbol_with (Literal byte) None 1) found is) (literal_tells byte rest)
byte_tells (byte ∷ other ∷ own) rest false found is size =
    absurd (omega (arith, size, ap (λ f. f.size) (same_symbol (symbol_with (Literal byte) None 1) found is)))

-- a name
name_tells : (own rest : List ℕ) (code size : ℕ) → IsGoName own code → IsPlain (part_named code) → PieceTells own rest (symbol_with (part_named code) None size)
name_tells own rest code size named plain given after location gives sane =
    let t = row_has RowTells gotime_table own code rows_tell named plain given after location rest gives sane in
    ((λ parts said made. (own, rest, said_of after location, refl, t.0, made)), t.1)

-- `05`, behind which a time may have a fraction
loose_tells : (own rest : List ℕ) (size : ℕ) → IsGoName own 10 → stands 46 rest 0 ≡ false → PieceTells own rest (symbol_with Second (Some (PointFraction 9)) size)
loose_tells own rest size named none given after location gives sane =
    let t = row_has RowTells gotime_table own 10 rows_tell named tt given after location rest gives sane in (
      (λ parts said made. (
        own,
        rest,
        said_of after location,
        refl,
        t.0,
        ([], rest, said_of after location, refl, inl (refl, (λ more begins. false≢true (sym none ∙ stands_is 46 0 rest 46 more begins)), refl), made),
      )),
      t.1,
    )

second_tells_more : (fraction point : Bool) (own rest : List ℕ) (size : ℕ) (found : Symbol) → IsGoName own 10 → stands 46 rest 0 ≡ point
    → cond {A = Symbol} fraction (symbol_with Second None size) (cond {A = Symbol} point (symbol_with Second (Some FractionPoint) (size + 1)) (symbol_with Second (Some (PointFraction 9)) size)) ≡ found
    → ArePlain (parts_with found.part found.more) → PieceTells own rest found
second_tells_more true point own rest size found named there is plain = subst (PieceTells own rest) is (name_tells own rest 10 size named tt)
second_tells_more false true own rest size found named there is plain =
    absurd (subst (λ f. ArePlain (parts_with f.part f.more)) (sym is) plain).1.0
second_tells_more false false own rest size found named there is plain = subst (PieceTells own rest) is (loose_tells own rest size named there)

-- the bytes of a symbol are no more than those of its name, but for a point
size_cases : (second fraction point : Bool) (part : Part) (size own : ℕ) (found : Symbol)
    → cond {A = Symbol} second (cond {A = Symbol} fraction (symbol_with Second None size) (cond {A = Symbol} point (symbol_with Second (Some FractionPoint) (size + 1)) (symbol_with Second (Some (PointFraction 9)) size))) (symbol_with part None size) ≡ found
    → ArePlain (parts_with found.part found.more) → own ≡ found.size → own ≡ size
size_cases true true point part size own found is plain size_is = size_is ∙ ap (λ f. f.size) (sym is)
size_cases true false true part size own found is plain size_is = absurd (subst (λ f. ArePlain (parts_with f.part f.more)) (sym is) plain).1.0
size_cases true false false part size own found is plain size_is = size_is ∙ ap (λ f. f.size) (sym is)
size_cases false fraction point part size own found is plain size_is = size_is ∙ ap (λ f. f.size) (sym is)

named_tells : (second : Bool) (own rest : List ℕ) (code size : ℕ) (found : Symbol) → (code == 10) ≡ second → IsGoName own code
    → cond {A = Symbol} second (second_before rest size) (symbol_with (part_named code) None size) ≡ found
    → ArePlain (parts_with found.part found.more) → PieceTells own rest found
named_tells true own rest code size found ten named is plain =
    second_tells_more (is_fraction (longest_name rest)) (stands 46 rest 0) own rest size found (subst (IsGoName own) (eqb-true code 10 ten) named) refl is plain
named_tells false own rest code size found ten named is plain =
    subst (PieceTells own rest) is (name_tells own rest code size named (subst (λ f. ArePlain (parts_with f.part f.more)) (sym is) plain).0)

found_tells : (name : Option (ℕ × ℕ)) (own rest : List ℕ) (found : Symbol) → IsLongest (own ++ rest) name → symbol_in name (own ++ rest) ≡ Some found
    → length own ≡ found.size → ArePlain (parts_with found.part found.more) → PieceTells own rest found
found_tells None own rest found longest is size plain = byte_tells own rest (is_ascii_digit (get_or (own ++ rest) 0 0)) found is size
found_tells (Some name) own rest found longest is size plain =
    let found_is : named_symbol (own ++ rest) name.0 name.1 ≡ found = same_symbol (named_symbol (own ++ rest) name.0 name.1) found is in
    let behind : List ℕ = drop name.1 (own ++ rest) in
    let long : length own ≡ name.1 =
    size_cases (name.0 == 10) (is_fraction (longest_name behind)) (stands 46 behind 0) (part_named name.0) name.1 (length own) found found_is plain size in
    let named : IsGoName own name.0 =
    subst (λ o. IsGoName o name.0) (ap (λ n. take n (own ++ rest)) (sym long) ∙ take-append_seam own rest) longest.2 in
    let behind_is : behind ≡ rest = ap (λ n. drop n (own ++ rest)) (sym long) ∙ drop-append_seam own rest in
    named_tells (name.0 == 10) own rest name.0 name.1 found refl named
    (ap (λ b. cond {A = Symbol} (name.0 == 10) (second_before b name.1) (symbol_with (part_named name.0) None name.1)) (sym behind_is) ∙ found_is) plain

piece_tells : (own rest : List ℕ) (found : Symbol) → IsNamePiece (own, found) rest → ArePlain (parts_with found.part found.more) → PieceTells own rest found
unfolding symbol_at
piece_tells own rest found piece plain =
    found_tells (longest_name (own ++ rest)) own rest found (longest_is (own ++ rest)) piece.0 piece.1 plain

plain_parts : (parts more : List Part) → ArePlain (parts ++ more) → ArePlain parts × ArePlain more
plain_parts [] more plain = (tt, plain)
plain_parts (part ∷ parts) more plain = let rest = plain_parts parts more plain.1 in ((plain.0, rest.0), rest.1)

pieces_tell : (pieces : List NamePiece) (given after : Given) (location : ℤ) → AreNamePieces pieces [] → names_give pieces given ≡ Some after → IsSane given
    → ArePlain (named_parts pieces) → IsTextOf (named_parts pieces) (name_bytes pieces) (said_of given location) (said_of after location) × IsSane after
pieces_tell [] given after location are gives sane plain =
    let same : given ≡ after = same_given given after gives in ((refl, ap (λ g. said_of g location) (sym same)), subst IsSane same sane)
pieces_tell (piece ∷ pieces) given after location are gives sane plain =
    let next = next_cases pieces given after (with_part piece.1.part given) gives in
    let plains = plain_parts (parts_with piece.1.part piece.1.more) (named_parts pieces) plain in
    let mine : IsNamePiece (piece.0, piece.1) (name_bytes pieces) = subst (λ b. IsNamePiece piece b) (append-nil (name_bytes pieces)) are.0 in
    let first = piece_tells piece.0 (name_bytes pieces) piece.1 mine plains.0 given next.0 location next.1 sane in
    let rest = pieces_tell pieces next.0 after location are.1 next.2 first.1 plains.1 in
    (first.0 (named_parts pieces) (said_of after location) rest.0, rest.1)

if_true : {A : Type 0} (test : Bool) (a b : A) → test ≡ true → cond test a b ≡ a
if_true test a b is = rw is refl

complete_says : (y m d t p : Bool) → y && m && d && cond t p (not p) ≡ true → (y ≡ true) × (m ≡ true) × (d ≡ true) × (cond t p (not p) ≡ true)
complete_says true true true t p is = (refl, refl, refl, is)
complete_says true true false t p is = cc
complete_says true false d t p is = cc
complete_says false m d t p is = cc

hour_is : (hour twelve half : Bool) → cond twelve half (not half) ≡ true → (hour ≡ false → twelve ≡ false)
    → clock_hour (cond half Pm Full) (cond hour (cond twelve 3 15) 0) ≡ cond hour 15 0
hour_is true true true is sane = refl
hour_is true true false is sane = cc
hour_is true false true is sane = cc
hour_is true false false is sane = refl
hour_is false true half is sane = absurd (false≢true (sym (sane refl)))
hour_is false false true is sane = cc
hour_is false false false is sane = refl

reference : (given : Given) (location : ℤ) → is_complete given ≡ true → IsSane given → IsReferenceTime given location (said_of given location)
reference given location complete sane =
    let all = complete_says given.year given.month given.day given.twelve given.meridiem complete in
    record {
      year = if_true given.year 2006 0 all.0;
      month = if_true given.month 1 0 all.1;
      day = if_true given.day 2 0 all.2;
      hour = hour_is given.hour given.twelve given.meridiem all.3 sane;
      minute = refl;
      second = refl;
      nanosecond = refl;
      offset = refl;
    }

-- a layout of plain names reads its own text
pub reads_own_text : (text : List ℕ) (s : NameDraft) (location : ℤ) → go_draft text ≡ Ok s → ArePlain s.parts
    → (said : Said) × (layout_read s.parts location text ≡ Ok (said, length text)) × IsReferenceTime s.given location said
reads_own_text text s location is plain =
    let t : IsGoText text s.parts s.given = subst (IsGoOutcome text) is (go_texts_are_read text) in
    let made = pieces_tell t.pieces nothing_given s.given location t.are t.once (λ none. refl) (subst ArePlain t.parts_are plain) in
    let whole : IsTextOf s.parts text (nothing_said location) (said_of s.given location) =
    subst (λ p. IsTextOf p text (nothing_said location) (said_of s.given location)) (sym t.parts_are)
    (subst (λ b. IsTextOf (named_parts t.pieces) b (nothing_said location) (said_of s.given location)) (sym t.is) made.0) in
    (said_of s.given location, layout_reads s.parts location text (said_of s.given location) whole, reference s.given location t.complete made.1)
