-- When a row holds.
use Rattle.std.proofs.Common.{◌≡◌, ℕ, zero, suc, ◌+◌, ◌<◌, ◌≤◌, ◌⊎◌, inl, inr, List, [], ◌∷◌, Bool, true, false, true≢false, None, length, map, take, refl, sym, ap, ◌∙◌, subst, arith}
use Rattle.std.specs.Prelude.{MatchBool}
use Rattle.std.proofs.lemmas.Bool.{cases_order}
use Rattle.std.proofs.lemmas.List.{take_all, take-take, take-map, length-map}
use Rattle.std.proofs.lemmas.List.Elements.{All-take}
use Rattle.entry_model.specs.LogRecord.{LogRecord}
use Rattle.kept_lines.specs.Lines.{whole_lines}
use Rattle.kept_lines.specs.OwnLines.{AreOf, none, taken, passed}
use Rattle.otlp_json.specs.IsOf64Bits.{IsTime}
use Rattle.standing.proofs.MarkLemmas.{untimed-length, without_time}
use Rattle.standing.specs.Closed.{Made, all_made, entries_in, flags_in}
use Rattle.standing.specs.Eras.{Eras, last_era}
use Rattle.standing.specs.Marks.{Mark, numbered}
use Rattle.standing.specs.Part.{first_point}
use Rattle.standing.specs.Rows.{Row}
use Rattle.standing.specs.Rules.{Rules}
use Rattle.standing.specs.Times.{HaveTimes, IsNotBefore, NeverFall, AreTimed}
use Rattle.auditor.specs.Asked.{asked}
use Rattle.auditor.specs.Inner.Compared.{mark_line}
use Rattle.auditor.specs.RowHolds.{RowHolds}
use Rattle.auditor.specs.Verdicts.{Agree, IsFirstOther, IsSaid, IsVerdict}
use Rattle.auditor.specs.declared.Verdict.{Verdict}
use Rattle.auditor.specs.declared.Verdict.TheVariants.{Same, Differs}
use Rattle.auditor.specs.Inner.Whole.{AreWhole}
use Rattle.auditor.proofs.Standing.{AreRulesFrom, PartsAre, PartsFound, parts_are, parts_found}

-- ---- the lines of a file are one list

pub one_own : (id : ℕ) {lines own other : List (List ℕ)} → AreOf id lines own → AreOf id lines other → own ≡ other
one_own id none none = refl
one_own id (taken {line = line} is rest) (taken _ others) = ap (λ (ls : List (List ℕ)). line ∷ ls) (one_own id rest others)
one_own id (taken is rest) (passed not others) = absurd (not is)
one_own id (passed not rest) (taken is others) = absurd (not is)
one_own id (passed _ rest) (passed _ others) = one_own id rest others

-- ---- where some agree, fewer do

take_numbered : (m id n : ℕ) (entries : List LogRecord) → take m (numbered id n None entries) ≡ numbered id n None (take m entries)
take_numbered zero id n entries = refl
take_numbered (suc m) id n [] = refl
take_numbered (suc m) id n (entry ∷ entries) =
    ap (λ (ms : List Mark). record { id = id; number = n; observed = None; entry = entry } ∷ ms) (take_numbered m id (n + 1) entries)

take_times : (m : ℕ) (flags : List Bool) (marks : List Mark) → HaveTimes flags marks → HaveTimes (take m flags) (take m marks)
take_times zero flags marks have = tt
take_times (suc m) [] [] have = tt
take_times (suc m) [] (mark ∷ marks) have = absurd have
take_times (suc m) (flag ∷ flags) [] have = absurd have
take_times (suc m) (flag ∷ flags) (mark ∷ marks) have = (have.0, take_times m flags marks have.1)

take_never : (m : ℕ) (marks : List Mark) → NeverFall marks → NeverFall (take m marks)
take_never zero marks never = tt
take_never (suc m) [] never = tt
take_never (suc m) (mark ∷ marks) never = (All-take (λ (later : Mark). IsNotBefore mark.observed later.observed) m marks never.0, take_never m marks never.1)

pub fewer_agree : (line : Mark → List ℕ) (id : ℕ) (made : List Made) (own : List (List ℕ)) (m n : ℕ) → m ≤ n → Agree line id made own n → Agree line id made own m
fewer_agree line id made own m n less a =
    let entries : entries_in (take m made) ≡ take m (entries_in (take n made)) =
    sym (ap entries_in (take-take m n made less)) ∙ sym (take-map (λ (one : Made). one.entry) m (take n made)) in
    let flags : flags_in (take m made) ≡ take m (flags_in (take n made)) =
    sym (ap flags_in (take-take m n made less)) ∙ sym (take-map (λ (one : Made). one.stamped) m (take n made)) in
    record {
      asked = omega (arith, less, a.asked);
      there = omega (arith, less, a.there);
      lines = take m a.lines;
      spelled = sym (take-take m n own less) ∙ ap (take m) a.spelled ∙ take-map line m a.lines;
      all_lines =
          sym (take-map without_time m a.lines) ∙ ap (take m) a.all_lines ∙ take_numbered m id 1 (entries_in (take n made))
          ∙ ap (numbered id 1 None) (sym entries);
      times = record {
        have = subst (λ (fs : List Bool). HaveTimes fs (take m a.lines)) (sym flags) (take_times m (flags_in (take n made)) a.lines a.times.have);
        never_fall = take_never m a.lines a.times.never_fall;
      };
      of_64_bits = All-take (λ (mark : Mark). IsTime mark.observed) m a.lines a.of_64_bits;
    }

-- ---- the row

at_or_below : (n m : ℕ) → n ≤ m → (n ≡ m) ⊎ (n < m)
at_or_below n m within = elim (cases_order n m) [
  | inl e ↦ inl e
  | inr o ↦ elim o [ inl less ↦ inr less | inr more ↦ absurd (omega (arith, more, within)) ]
]

numbered_length : (id n : ℕ) (entries : List LogRecord) → length (numbered id n None entries) ≡ length entries
numbered_length id n [] = refl
numbered_length id n (entry ∷ entries) = ap suc (numbered_length id (n + 1) entries)

module _ (eras : Eras) (content : List ℕ) (row : Row) (kept : List ℕ) (all : List Rules) (are : AreRulesFrom eras row.born all) (many : length all ≡ length row.ends + 1)
    (own : List (List ℕ)) (are_own : AreOf row.id (whole_lines kept) own) (line_is : (last_era eras).line ≡ mark_line) where
  abbrev its_made : List Made
  its_made = asked all content row

  abbrev its_whole : Type 0
  its_whole = AreWhole all content row (first_point row) row.ends

  pub holds : its_whole → (n : ℕ) → Agree mark_line row.id its_made own n → n ≡ length its_made → n ≡ length own → RowHolds eras content row kept
  holds whole n agree all_made_there all_own =
      let found : PartsFound eras content row row.born (first_point row) row.ends = parts_found eras content row all row.born (first_point row) row.ends are many whole in
      let its : PartsAre eras content row all (first_point row) row.ends found.earlier found.tokens =
      parts_are eras content row all row.born (first_point row) row.ends found.earlier found.tokens are many found.closed found.taken in
      let made : take n its_made ≡ all_made eras row found.earlier found.tokens = take_all n its_made (omega (arith, all_made_there)) ∙ sym its.made in
      record {
        earlier = found.earlier;
        closed = found.closed;
        tokens = found.tokens;
        taken = found.taken;
        own = own;
        are_own = are_own;
        lines = agree.lines;
        spelled = sym (take_all n own (omega (arith, all_own))) ∙ agree.spelled ∙ ap (λ (line : Mark → List ℕ). map line agree.lines) (sym line_is);
        all_lines = agree.all_lines ∙ ap (λ (ms : List Made). numbered row.id 1 None (entries_in ms)) made;
        times = subst (λ (ms : List Made). AreTimed (flags_in ms) agree.lines) made agree.times;
        of_64_bits = agree.of_64_bits;
      }

  record HeldSo : Type 0 where
    whole : its_whole
    agree : Agree mark_line row.id its_made own (length its_made)
    as_many : length its_made ≡ length own

  held : RowHolds eras content row kept → HeldSo
  held h =
      let its : PartsAre eras content row all (first_point row) row.ends h.earlier h.tokens =
      parts_are eras content row all row.born (first_point row) row.ends h.earlier h.tokens are many h.closed h.taken in
      let same : h.own ≡ own = one_own row.id h.are_own are_own in
      let spelled : own ≡ map mark_line h.lines = sym same ∙ h.spelled ∙ ap (λ (line : Mark → List ℕ). map line h.lines) line_is in
      let made : all_made eras row h.earlier h.tokens ≡ its_made = its.made in
      let lines : length h.lines ≡ length its_made =
      sym (untimed-length h.lines) ∙ ap length h.all_lines ∙ numbered_length row.id 1 (entries_in (all_made eras row h.earlier h.tokens))
      ∙ length-map (all_made eras row h.earlier h.tokens) (λ (one : Made). one.entry) ∙ ap length made in
      let as_many : length its_made ≡ length own = sym lines ∙ sym (length-map h.lines mark_line) ∙ sym (ap length spelled) in
      let front : all_made eras row h.earlier h.tokens ≡ take (length its_made) its_made = made ∙ sym (take_all (length its_made) its_made (omega arith)) in
      record {
        whole = its.whole;
        agree = record {
          asked = omega arith;
          there = omega (arith, as_many);
          lines = h.lines;
          spelled = take_all (length its_made) own (omega (arith, as_many)) ∙ spelled;
          all_lines = h.all_lines ∙ ap (λ (ms : List Made). numbered row.id 1 None (entries_in ms)) front;
          times = subst (λ (ms : List Made). AreTimed (flags_in ms) h.lines) front h.times;
          of_64_bits = h.of_64_bits;
        };
        as_many = as_many;
      }

  -- else it doesn't hold
  pub differs : (n : ℕ) → Agree mark_line row.id its_made own n → (Agree mark_line row.id its_made own (n + 1) → ⊥)
      → (its_whole → n ≡ length its_made → n ≡ length own → ⊥) → RowHolds eras content row kept → ⊥
  differs n agree no_more other h =
      let so = held h in
      let all : n ≡ length its_made = at_end in
      other so.whole all (all ∙ so.as_many)
    where
      at_end : n ≡ length its_made
      at_end = elim (at_or_below n (length its_made) agree.asked) [
        | inl e ↦ e
        | inr less ↦ absurd (no_more (fewer_agree mark_line row.id its_made own (n + 1) (length its_made) (omega (arith, less)) (held h).agree))
      ]

  match_true : (b : Bool) (P : Type 0) → MatchBool b P (P → ⊥) → b ≡ true → P
  match_true true P is e = is
  match_true false P is e = absurd (true≢false (sym e))

  match_holds : (b : Bool) (P : Type 0) → MatchBool b P (P → ⊥) → P → b ≡ true
  match_holds true P is p = refl
  match_holds false P is p = absurd (is p)

  -- so the verdict says what it is to say
  pub judged : (is_whole : Bool) (agreed asked_for there : ℕ) (verdict : Verdict) → MatchBool is_whole its_whole (its_whole → ⊥) → Agree mark_line row.id its_made own agreed
      → (Agree mark_line row.id its_made own (agreed + 1) → ⊥) → asked_for ≡ length its_made → there ≡ length own → IsSaid is_whole agreed asked_for there verdict
      → IsVerdict eras all content row kept verdict
  judged is_whole agreed asked_for there Same whole agree no_more a t said =
      holds (match_true is_whole its_whole whole said.0) agreed agree (said.1 ∙ a) (said.2 ∙ t)
  judged is_whole agreed asked_for there (Differs number) whole agree no_more a t said = (
    differs agreed agree no_more (λ w e f. said.1 (match_holds is_whole its_whole whole w) (e ∙ sym a) (f ∙ sym t)),
    (
      own,
      are_own,
      record {
        before = agreed;
        is = said.0;
        agree = subst (λ (line : Mark → List ℕ). Agree line row.id its_made own agreed) (sym line_is) agree;
        no_more = λ more. no_more (subst (λ (line : Mark → List ℕ). Agree line row.id its_made own (agreed + 1)) line_is more);
      },
    ),
  )

-- ---- one verdict

one_first : (line : Mark → List ℕ) (id : ℕ) (made : List Made) (own : List (List ℕ)) (number other : ℕ) → IsFirstOther line id made own number → IsFirstOther line id made own other → number ≡ other
one_first line id made own number other first again =
    elim (cases_order first.before again.before) [
      | inl same ↦ omega (arith, same, first.is, again.is)
      | inr differ ↦ elim differ [
        | inl less ↦ absurd (first.no_more (fewer_agree line id made own (first.before + 1) again.before (omega (arith, less)) again.agree))
        | inr more ↦ absurd (again.no_more (fewer_agree line id made own (again.before + 1) first.before (omega (arith, more)) first.agree))
      ]
    ]

pub one_verdict : (eras : Eras) (rules : List Rules) (content : List ℕ) (row : Row) (kept : List ℕ) (verdict other : Verdict) → IsVerdict eras rules content row kept verdict
    → IsVerdict eras rules content row kept other → verdict ≡ other
one_verdict eras rules content row kept Same Same is again = refl
one_verdict eras rules content row kept Same (Differs number) is again = absurd (again.0 is)
one_verdict eras rules content row kept (Differs number) Same is again = absurd (is.0 again)
one_verdict eras rules content row kept (Differs number) (Differs other) is again =
    let same : again.1.0 ≡ is.1.0 = one_own row.id again.1.1 is.1.1 in
    let its = subst (λ (own : List (List ℕ)). IsFirstOther (last_era eras).line row.id (asked rules content row) own other) same again.1.2 in
    ap (λ n. Differs n) (one_first (last_era eras).line row.id (asked rules content row) is.1.0 number other is.1.2 its)
