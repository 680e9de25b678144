-- Lines against entries, one more at a time.
use Rattle.std.proofs.Common.{◌≡◌, ℕ, suc, ◌+◌, ◌<◌, ◌≤◌, ◌^◌, List, [], ◌∷◌, ◌++◌, Bool, true, None, Some, length, map, take, drop, get_or, decimal, refl, sym, ap, subst, ◌∙◌, arith, append_assoc}
use Rattle.std.specs.Prelude.{Option, is_some, All, codes}
use Rattle.std.proofs.lemmas.List.{map-append, length-map, length-take-le, length_push, take-map, take_more}
use Rattle.std.proofs.lemmas.List.Elements.{All-nil, All-cons, All-push, All-head, All-tail}
use Rattle.entry_model.specs.LogRecord.{LogRecord}
use Rattle.kept_lines.specs.Made.{IsMade}
use Rattle.otlp_json.proofs.Splits.{goes_on, number_splits}
use Rattle.otlp_json.specs.IsOf64Bits.{IsTime}
use Rattle.otlp_json.specs.ObservedTime.{HasOneTime, HasObservedTime}
use Rattle.otlp_json.specs.OutputLine.{output_line}
use Rattle.otlp_json.specs.RecordText.{observed_opening}
use Rattle.standing.proofs.MarkLemmas.{numbered-append, untimed-append, untimed-length, without_time}
use Rattle.standing.specs.Closed.{Made, entries_in, flags_in}
use Rattle.standing.specs.Marks.{Mark, numbered, untimed}
use Rattle.standing.specs.Times.{HaveTimes, IsNotBefore, NeverFall}
use Rattle.auditor.specs.Inner.Compared.{mark_line, Continues, last_behind}
use Rattle.auditor.specs.Verdicts.{Agree}

-- ---- a line has one time

one_time : (line : List ℕ) (time other : ℕ) → time < 2 ^ 64 → other < 2 ^ 64 → HasOneTime time line → HasOneTime other line → time ≡ other
one_time line time other small less h k =
    let split : line ≡ (k.before ++ observed_opening) ++ (decimal other ++ (34 ∷ k.after)) =
    k.stands ∙ append_assoc (k.before ++ observed_opening ++ decimal other) (codes "\"") k.after ∙ append_assoc (k.before ++ observed_opening) (decimal other) (34 ∷ k.after) in
    let own : line ≡ (h.before ++ observed_opening) ++ (decimal time ++ (34 ∷ h.after)) =
    h.stands ∙ append_assoc (h.before ++ observed_opening ++ decimal time) (codes "\"") h.after ∙ append_assoc (h.before ++ observed_opening) (decimal time) (34 ∷ h.after) in
    let same : k.before ≡ h.before = h.only k.before (decimal other ++ (34 ∷ k.after)) split in
    let both : (h.before ++ observed_opening) ++ (decimal time ++ (34 ∷ h.after)) ≡ (h.before ++ observed_opening) ++ (decimal other ++ (34 ∷ k.after)) =
    sym own ∙ split ∙ ap (λ (b : List ℕ). (b ++ observed_opening) ++ (decimal other ++ (34 ∷ k.after))) same in
    (number_splits time other (34 ∷ h.after) (34 ∷ k.after) small less (goes_on 34 h.after refl) (goes_on 34 k.after refl)
    (cancel (h.before ++ observed_opening) (decimal time ++ (34 ∷ h.after)) (decimal other ++ (34 ∷ k.after)) both)).0
  where
    cancel : (front one two : List ℕ) → front ++ one ≡ front ++ two → one ≡ two
    cancel [] one two e = e
    cancel (x ∷ front) one two e = cancel front one two (ap (drop 1) e)

no_time : (line : List ℕ) (time : ℕ) → HasObservedTime None line → HasOneTime time line → ⊥
no_time line time none h =
    none h.before (decimal time ++ (34 ∷ h.after))
    (h.stands ∙ append_assoc (h.before ++ observed_opening ++ decimal time) (codes "\"") h.after ∙ append_assoc (h.before ++ observed_opening) (decimal time) (34 ∷ h.after))

same_time : (line : List ℕ) (time other : Option ℕ) → IsTime time → IsTime other → HasObservedTime time line → HasObservedTime other line → time ≡ other
same_time line None None small less h k = refl
same_time line None (Some other) small less h k = absurd (no_time line other h k)
same_time line (Some time) None small less h k = absurd (no_time line time k h)
same_time line (Some time) (Some other) small less h k = ap Some (one_time line time other small less h k)

-- the law of lines and their times, as the crate that makes them states it
abbrev pub TellTimes : Type 0
TellTimes = (id number : ℕ) (observed : Option ℕ) (entry : LogRecord) → HasObservedTime observed (output_line id number observed entry)

pub made_once : TellTimes → (id number : ℕ) (stamped : Bool) (entry : LogRecord) (line : List ℕ) (time other : Option ℕ) → IsTime time → IsTime other
    → IsMade id number stamped entry time line → IsMade id number stamped entry other line → time ≡ other
made_once tell id number stamped entry line time other small less made again =
    same_time line time other small less (subst (HasObservedTime time) (sym made.is) (tell id number time entry)) (subst (HasObservedTime other) (sym again.is) (tell id number other entry))

one_mark : TellTimes → (mark other : Mark) → without_time mark ≡ without_time other → mark_line mark ≡ mark_line other → IsTime mark.observed → IsTime other.observed → mark ≡ other
one_mark tell mark other same line small less =
    let own : HasObservedTime mark.observed (mark_line mark) = tell mark.id mark.number mark.observed mark.entry in
    let its : HasObservedTime other.observed (mark_line other) = tell other.id other.number other.observed other.entry in
    let times : mark.observed ≡ other.observed = same_time (mark_line other) mark.observed other.observed small less (subst (HasObservedTime mark.observed) line own) its in
    ap (λ (t : Option ℕ). let m : Mark = record mark { observed = t } in m) times
    ∙ ap (λ (m : Mark). let r : Mark = record m { observed = other.observed } in r) same

same_marks : TellTimes → (marks others : List Mark) → untimed marks ≡ untimed others → map mark_line marks ≡ map mark_line others
    → All (λ (mark : Mark). IsTime mark.observed) marks → All (λ (mark : Mark). IsTime mark.observed) others → marks ≡ others
same_marks tell [] [] same lines small less = refl
same_marks tell [] (other ∷ others) same lines small less = absurd (cc same)
same_marks tell (mark ∷ marks) [] same lines small less = absurd (cc same)
same_marks tell (mark ∷ marks) (other ∷ others) same lines small less =
    let first : without_time mark ≡ without_time other = cc same in
    let rest : untimed marks ≡ untimed others = cc same in
    let line : mark_line mark ≡ mark_line other = cc lines in
    let more : map mark_line marks ≡ map mark_line others = cc lines in
    let one = one_mark tell mark other first line (All-head (λ (m : Mark). IsTime m.observed) mark marks small) (All-head (λ (m : Mark). IsTime m.observed) other others less) in
    let all = same_marks tell marks others rest more (All-tail (λ (m : Mark). IsTime m.observed) mark marks small) (All-tail (λ (m : Mark). IsTime m.observed) other others less) in
    ap (λ (m : Mark). m ∷ marks) one ∙ ap (λ (ms : List Mark). other ∷ ms) all

-- ---- one behind others

pub push_tells : {X : Type 0} (xs ys : List X) (x y : X) → xs ++ x ∷ [] ≡ ys ++ y ∷ [] → (xs ≡ ys) × (x ≡ y)
push_tells [] [] x y e = (refl, cc e)
push_tells [] (z ∷ ys) x y e = absurd (let n : length (x ∷ []) ≡ length ((z ∷ ys) ++ y ∷ []) = ap length e in omega (arith, n, length_push (z ∷ ys) y))
push_tells (z ∷ xs) [] x y e = absurd (let n : length ((z ∷ xs) ++ x ∷ []) ≡ length (y ∷ []) = ap length e in omega (arith, n, length_push (z ∷ xs) x))
push_tells (z ∷ xs) (w ∷ ys) x y e =
    let first : z ≡ w = cc e in
    let rest = push_tells xs ys x y (ap (drop 1) e) in
    (ap (λ v. v ∷ xs) first ∙ ap (λ vs. w ∷ vs) rest.0, rest.1)

-- some and then one
record Pushed {X : Type 0} (xs : List X) : Type 0 where
  front : List X
  last : X
  is : xs ≡ front ++ last ∷ []

pushed : {X : Type 0} (xs : List X) → 0 < length xs → Pushed xs
pushed [] some = absurd (omega arith)
pushed (x ∷ []) some = record { front = []; last = x; is = refl }
pushed (x ∷ y ∷ xs) some =
    let rest = pushed (y ∷ xs) (omega arith) in
    record { front = x ∷ rest.front; last = rest.last; is = ap (λ zs. x ∷ zs) rest.is }

have_push : (flags : List Bool) (flag : Bool) (marks : List Mark) (mark : Mark) → HaveTimes flags marks → is_some mark.observed ≡ flag → HaveTimes (flags ++ flag ∷ []) (marks ++ mark ∷ [])
have_push [] flag [] mark have is = (is, tt)
have_push [] flag (other ∷ marks) mark have is = absurd have
have_push (first ∷ flags) flag [] mark have is = absurd have
have_push (first ∷ flags) flag (other ∷ marks) mark have is = (have.0, have_push flags flag marks mark have.1 is)

have_last : (flags : List Bool) (flag : Bool) (marks : List Mark) (mark : Mark) → length flags ≡ length marks → HaveTimes (flags ++ flag ∷ []) (marks ++ mark ∷ []) → is_some mark.observed ≡ flag
have_last [] flag [] mark e have = have.0
have_last [] flag (other ∷ marks) mark e have = absurd (omega (arith, e))
have_last (first ∷ flags) flag [] mark e have = absurd (omega (arith, e))
have_last (first ∷ flags) flag (other ∷ marks) mark e have = have_last flags flag marks mark (omega (arith, e)) have.1

abbrev pub NotAfter : Option ℕ → Mark → Type 0
NotAfter time mark = IsNotBefore mark.observed time

fall_push : (marks : List Mark) (mark : Mark) → NeverFall marks → All (NotAfter mark.observed) marks → NeverFall (marks ++ mark ∷ [])
fall_push [] mark never before = (All-nil (λ (later : Mark). IsNotBefore mark.observed later.observed), tt)
fall_push (first ∷ marks) mark never before = (
  All-push (λ (later : Mark). IsNotBefore first.observed later.observed) marks mark never.0 (All-head (NotAfter mark.observed) first marks before),
  fall_push marks mark never.1 (All-tail (NotAfter mark.observed) first marks before),
)

all_last : (P : Mark → Type 0) (marks : List Mark) (mark : Mark) → All P (marks ++ mark ∷ []) → P mark
all_last P [] mark all = All-head P mark [] all
all_last P (first ∷ marks) mark all = all_last P marks mark (All-tail P first (marks ++ mark ∷ []) all)

all_front : (P : Mark → Type 0) (marks : List Mark) (mark : Mark) → All P (marks ++ mark ∷ []) → All P marks
all_front P [] mark all = All-nil P
all_front P (first ∷ marks) mark all = all_cons (All-head P first (marks ++ mark ∷ []) all) (all_front P marks mark (All-tail P first (marks ++ mark ∷ []) all))
  where
    all_cons : P first → All P marks → All P (first ∷ marks)
    all_cons p ps = All-cons P first marks p ps

fall_last : (marks : List Mark) (mark : Mark) → NeverFall (marks ++ mark ∷ []) → All (NotAfter mark.observed) marks
fall_last [] mark never = All-nil (NotAfter mark.observed)
fall_last (first ∷ marks) mark never =
    All-cons (NotAfter mark.observed) first marks
    (all_last (λ (later : Mark). IsNotBefore first.observed later.observed) marks mark never.0) (fall_last marks mark never.1)

-- ---- the last time

-- what isn't before this time isn't before any of the lines, and the other way round
pub record IsLatest (last : Option ℕ) (marks : List Mark) : Type 0 where
  pub bounds : (time : Option ℕ) → IsNotBefore last time → All (NotAfter time) marks
  pub reached : (time : Option ℕ) → All (NotAfter time) marks → IsNotBefore last time

first_latest : IsLatest None []
first_latest = record { bounds = λ time is. All-nil (NotAfter time); reached = λ time all. tt }

passed_on : (last later time : Option ℕ) → IsNotBefore last later → IsNotBefore later time → is_some later ≡ true → IsNotBefore last time
passed_on None later time first next some = tt
passed_on (Some last) later None first next some = tt
passed_on (Some last) None (Some time) first next some = absurd (cc some)
passed_on (Some last) (Some later) (Some time) first next some = omega (arith, first, next)

next_latest : (last : Option ℕ) (marks : List Mark) (mark : Mark) (time : Option ℕ) → mark.observed ≡ time → IsNotBefore last time → IsLatest last marks → IsLatest (last_behind last time) (marks ++ mark ∷ [])
next_latest last marks mark None is not_before latest = record {
  bounds = λ t later. All-push (NotAfter t) marks mark (latest.bounds t later) (subst (λ (o : Option ℕ). IsNotBefore o t) (sym is) tt);
  reached = λ t all. latest.reached t (all_front (NotAfter t) marks mark all);
}
next_latest last marks mark (Some time) is not_before latest = record {
  bounds = λ t later. All-push (NotAfter t) marks mark (latest.bounds t (passed_on last (Some time) t not_before later refl)) (subst (λ (o : Option ℕ). IsNotBefore o t) (sym is) later);
  reached = λ t all. subst (λ (o : Option ℕ). IsNotBefore o t) is (all_last (NotAfter t) marks mark all);
}

-- ---- agreement

-- the first n agree, and the last time of theirs is known
pub record AgreeTo (id : ℕ) (made : List Made) (own : List (List ℕ)) (n : ℕ) (last : Option ℕ) : Type 0 where
  pub agree : Agree mark_line id made own n
  pub latest : IsLatest last agree.lines

pub none_agree : (id : ℕ) (made : List Made) (own : List (List ℕ)) → AgreeTo id made own 0 None
none_agree id made own = record {
  agree = record {
    asked = omega arith;
    there = omega arith;
    lines = [];
    spelled = refl;
    all_lines = refl;
    times = record { have = tt; never_fall = tt };
    of_64_bits = All-nil (λ (mark : Mark). IsTime mark.observed);
  };
  latest = first_latest;
}

abbrev mark_of : ℕ → ℕ → Option ℕ → LogRecord → Mark
mark_of id number time entry = record { id = id; number = number; observed = time; entry = entry }

module _ (id : ℕ) (made : List Made) (own : List (List ℕ)) (n : ℕ) (one : Made) (line : List ℕ)
    (made_next : take (n + 1) made ≡ take n made ++ one ∷ []) (own_next : take (n + 1) own ≡ take n own ++ line ∷ []) where
  entries_next : entries_in (take (n + 1) made) ≡ entries_in (take n made) ++ one.entry ∷ []
  entries_next = ap entries_in made_next ∙ map-append (λ (m : Made). m.entry) (take n made) (one ∷ [])

  flags_next : flags_in (take (n + 1) made) ≡ flags_in (take n made) ++ one.stamped ∷ []
  flags_next = ap flags_in made_next ∙ map-append (λ (m : Made). m.stamped) (take n made) (one ∷ [])

  count : n ≤ length made → length (entries_in (take n made)) ≡ n
  count within = length-map (take n made) (λ (m : Made). m.entry) ∙ length-take-le n made within

  all_next : n ≤ length made → numbered id 1 None (entries_in (take (n + 1) made)) ≡ numbered id 1 None (entries_in (take n made)) ++ mark_of id (n + 1) None one.entry ∷ []
  all_next within =
      ap (numbered id 1 None) entries_next ∙ numbered-append id 1 None (entries_in (take n made)) (one.entry ∷ [])
      ∙ ap (λ k. numbered id 1 None (entries_in (take n made)) ++ mark_of id k None one.entry ∷ []) (omega (arith, count within))

  pub one_more : (last time : Option ℕ) → n < length made → n < length own → AgreeTo id made own n last → Continues id (n + 1) one line last time → AgreeTo id made own (n + 1) (last_behind last time)
  one_more last time in_made in_own so_far next =
      let a = so_far.agree in
      let mark = mark_of id (n + 1) time one.entry in
      record {
        agree = record {
          asked = omega (arith, in_made);
          there = omega (arith, in_own);
          lines = a.lines ++ mark ∷ [];
          spelled = own_next ∙ ap (λ (ls : List (List ℕ)). ls ++ line ∷ []) a.spelled ∙ ap (λ (l : List ℕ). map mark_line a.lines ++ l ∷ []) next.is_made.is ∙ sym (map-append mark_line a.lines (mark ∷ []));
          all_lines = untimed-append a.lines (mark ∷ []) ∙ ap (λ (ms : List Mark). ms ++ mark_of id (n + 1) None one.entry ∷ []) a.all_lines ∙ sym (all_next (omega (arith, in_made)));
          times = record {
            have = subst (λ (fs : List Bool). HaveTimes fs (a.lines ++ mark ∷ [])) (sym flags_next) (have_push (flags_in (take n made)) one.stamped a.lines mark a.times.have next.is_made.has_time);
            never_fall = fall_push a.lines mark a.times.never_fall (so_far.latest.bounds time next.not_before);
          };
          of_64_bits = All-push (λ (m : Mark). IsTime m.observed) a.lines mark a.of_64_bits next.is_time;
        };
        latest = next_latest last a.lines mark time refl next.not_before so_far.latest;
      }

  pub no_more : TellTimes → (last : Option ℕ) → AgreeTo id made own n last → ((time : Option ℕ) → Continues id (n + 1) one line last time → ⊥) → Agree mark_line id made own (n + 1) → ⊥
  no_more tell last so_far never b =
      let a = so_far.agree in
      let long : length b.lines ≡ length (take (n + 1) own) = sym (length-map b.lines mark_line) ∙ sym (ap length b.spelled) in
      let some : 0 < length b.lines = omega (arith, long, length-take-le (n + 1) own b.there) in
      let p = pushed b.lines some in
      let mark = p.last in
      let spelled : take n own ++ line ∷ [] ≡ map mark_line p.front ++ mark_line mark ∷ [] =
      sym own_next ∙ b.spelled ∙ ap (map mark_line) p.is ∙ map-append mark_line p.front (mark ∷ []) in
      let texts = push_tells (take n own) (map mark_line p.front) line (mark_line mark) spelled in
      let whole : untimed p.front ++ without_time mark ∷ [] ≡ numbered id 1 None (entries_in (take n made)) ++ mark_of id (n + 1) None one.entry ∷ [] =
      sym (untimed-append p.front (mark ∷ [])) ∙ ap untimed (sym p.is) ∙ b.all_lines ∙ all_next (omega (arith, b.asked)) in
      let marks = push_tells (untimed p.front) (numbered id 1 None (entries_in (take n made))) (without_time mark) (mark_of id (n + 1) None one.entry) whole in
      let small : All (λ (m : Mark). IsTime m.observed) (p.front ++ mark ∷ []) = subst (All (λ (m : Mark). IsTime m.observed)) p.is b.of_64_bits in
      let front : p.front ≡ a.lines = same_marks tell p.front a.lines (marks.0 ∙ sym a.all_lines) (sym texts.0 ∙ a.spelled) (all_front (λ (m : Mark). IsTime m.observed) p.front mark small) a.of_64_bits in
      let have : HaveTimes (flags_in (take n made) ++ one.stamped ∷ []) (p.front ++ mark ∷ []) =
      subst (λ (ms : List Mark). HaveTimes (flags_in (take n made) ++ one.stamped ∷ []) ms) p.is (subst (λ (fs : List Bool). HaveTimes fs b.lines) flags_next b.times.have) in
      let flags : length (flags_in (take n made)) ≡ length p.front =
      length-map (take n made) (λ (m : Made). m.stamped) ∙ sym (length-map (take n made) (λ (m : Made). m.entry)) ∙ sym (numbered_length id 1 (entries_in (take n made)))
      ∙ sym (ap length marks.0) ∙ untimed-length p.front in
      let fall : All (NotAfter mark.observed) p.front = fall_last p.front mark (subst NeverFall p.is b.times.never_fall) in
      never mark.observed (record {
        is_made = record {
          is = texts.1 ∙ ap (λ (m : Mark). output_line m.id m.number mark.observed m.entry) marks.1;
          has_time = have_last (flags_in (take n made)) one.stamped p.front mark flags have;
        };
        is_time = all_last (λ (m : Mark). IsTime m.observed) p.front mark small;
        not_before = so_far.latest.reached mark.observed (subst (All (NotAfter mark.observed)) front fall);
      })
    where
      numbered_length : (i k : ℕ) (entries : List LogRecord) → length (numbered i k None entries) ≡ length entries
      numbered_length i k [] = refl
      numbered_length i k (entry ∷ entries) = ap suc (numbered_length i (k + 1) entries)

pub mapped_next : {X Y : Type 0} (f : X → Y) (xs : List X) (n : ℕ) (x : X) → n < length xs → x ≡ get_or xs n x → take (n + 1) (map f xs) ≡ take n (map f xs) ++ f x ∷ []
mapped_next f xs n x less e =
    take-map f (n + 1) xs ∙ ap (map f) (take_more xs n x less) ∙ map-append f (take n xs) (get_or xs n x ∷ [])
    ∙ ap (λ y. map f (take n xs) ++ f y ∷ []) (sym e) ∙ ap (λ ys. ys ++ f x ∷ []) (sym (take-map f n xs))

pub mapped_at : {X Y : Type 0} (f : X → Y) (xs : List X) (n : ℕ) (d : X) → n < length xs → take (n + 1) (map f xs) ≡ take n (map f xs) ++ f (get_or xs n d) ∷ []
mapped_at f xs n d less =
    take-map f (n + 1) xs ∙ ap (map f) (take_more xs n d less) ∙ map-append f (take n xs) (get_or xs n d ∷ [])
    ∙ ap (λ ys. ys ++ f (get_or xs n d) ∷ []) (sym (take-map f n xs))
