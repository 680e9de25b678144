-- Groups that are read are those that are spelled there, and what is spelled is read again.
use Rattle.std.proofs.Common.{◌≡◌, ℕ, zero, suc, ◌-◌, ◌^◌, ◌<◌, ◌≤◌, Bool, true, false, true≢false, cond, leb, List, [], ◌∷◌, ◌++◌, length, take, drop, Ok, Err, refl, sym, ap, subst, ◌∙◌, append_assoc, arith, inl, inr}
use Rattle.std.specs.Prelude.{◌&&◌, ◌||◌, not, flat_map, Result, OnOk, is_err}
use Rattle.std.specs.List.{list_any}
use Rattle.std.specs.Int.{w32, to_be_bytes}
use Rattle.std.proofs.lemmas.Bool.{leb-true, le-leb, and_parts, and_from, or_parts, or_from, or_right, not-true}
use Rattle.std.proofs.lemmas.List.{append-nil, length-append, length-drop, take_all}
use Rattle.entry_model.specs.LogRecord.{LogRecord}
use Rattle.state_codec.specs.Reading.{Reading, ◌>>=◌, number_at, text_at, entry_at}
use Rattle.state_codec.specs.Rules.{IsShortText}
use Rattle.state_codec.specs.Spelling.{bytes_spelling, entry_spelling}
use Rattle.state_codec.specs.DeadEnds.{IsUnit}
use Rattle.state_codec.specs.Reads.{StandsAt, Reads}
use Rattle.state_codec.specs.declared.CodecFault.{CodecFault}
use Rattle.state_codec.specs.declared.CodecFault.TheVariants.{Malformed, Memory}
use Rattle.state_codec.proofs.Numbers.{IsBytes, bytes_after, Takes, takes_both, bind_ok, ok_is, err_or_ok, test_ok, wide32}
use Rattle.state_codec.proofs.GetLemmas.{IsReader, reads_ok, told_apart}
use Rattle.state_codec.proofs.Readers.{u32_reader, text_reader, entry_reader}
use Rattle.state_codec.proofs.Fair.{Local, Blame, Fair, err_is, fair_wider, fair_bind, fair_ok}
use Rattle.state_codec.proofs.FairReaders.{fair_u32, fair_text_byte, fair_entry_at}
use Rattle.state_codec.proofs.TextEnds.{IsByte}
use Rattle.recombine.specs.Limits.{group_limit, batch_limit}
use Rattle.recombine.specs.Group.{Group}
use Rattle.recombine.specs.Reading.{such_that, number_within, source_at, group_at, groups_behind, groups_at}
use Rattle.recombine.specs.Restores.{IsPart, IsDeadEnd, FailsAt, Restores}
use Rattle.recombine.specs.Inner.Told.{IsRead, IsRefused, Finds}
use Rattle.recombine.specs.Table.{Held, IsAt, IsOpen, AreOpen, groups_seen}
use Rattle.recombine.specs.Rules.{KeepsRules, KeepRules, AreSpellable}
use Rattle.recombine.specs.Sources.{is_of, AreOfOthers}
use Rattle.recombine.specs.Spelling.{group_spelling, groups_spelling}
use Rattle.recombine.proofs.TableLemmas.{other_source, others_append, others_back}

-- ---- what is read and passes

such_is : {A : Type 0} (r : List ℕ → Reading A) (p : A → Bool) (bytes : List ℕ) (x : A × List ℕ) → r bytes ≡ Ok x → such_that r p bytes ≡ cond (p x.0) (Ok x) (Err (length bytes))
unfolding such_that
such_is r p bytes x e = rw e refl

such_ends : {A : Type 0} (r : List ℕ → Reading A) (p : A → Bool) (bytes : List ℕ) (left : ℕ) → r bytes ≡ Err left → such_that r p bytes ≡ Err left
unfolding such_that
such_ends r p bytes left e = rw e refl

such_parts : {A : Type 0} (r : List ℕ → Reading A) (p : A → Bool) (bytes : List ℕ) (x : A × List ℕ) → such_that r p bytes ≡ Ok x → (r bytes ≡ Ok x) × (p x.0 ≡ true)
unfolding such_that
such_parts {A} r p bytes x e =
    let b = bind_ok (r bytes) (λ y. cond (p y.0) (Ok y) (Err (length bytes))) x e in
    let t = test_ok (p b.0.0) (length bytes) b.0 x b.2 in
    (b.1 ∙ ap (λ (y : A × List ℕ). Ok y) t.1, ap (λ (y : A × List ℕ). p y.0) (sym t.1) ∙ t.0)

pub such_again : {A : Type 0} (spelling : A → List ℕ) (Keeps : A → Type 0) (r : List ℕ → Reading A) → IsReader spelling Keeps r → (p : A → Bool) (a : A) (rest : List ℕ) → Keeps a → p a ≡ true → such_that r p (spelling a ++ rest) ≡ Ok (a, rest)
such_again {A} spelling Keeps r reader p a rest keeps passes =
    such_is r p (spelling a ++ rest) (a, rest) (reader.again a rest keeps) ∙ ap (λ (b : Bool). cond b (Ok (a, rest)) (Err (length (spelling a ++ rest)))) passes

such_takes : {A : Type 0} (spelling : A → List ℕ) (Keeps : A → Type 0) (r : List ℕ → Reading A) → IsReader spelling Keeps r → (p : A → Bool) (bytes : List ℕ) (x : A × List ℕ) → IsBytes bytes → such_that r p bytes ≡ Ok x
    → (Takes bytes (spelling x.0) x.1 × Keeps x.0) × (p x.0 ≡ true)
such_takes spelling Keeps r reader p bytes x fits e = let parts = such_parts r p bytes x e in (reader.takes bytes x fits parts.0, parts.1)

fair_such : {A : Type 0} (spelling : A → List ℕ) (Keeps : A → Type 0) (r : List ℕ → Reading A) → IsReader spelling Keeps r → Fair IsPart r → ((a : A) → Keeps a → IsPart (spelling a)) → (p : A → Bool)
    → Fair IsPart (λ (bytes : List ℕ). such_that r p bytes)
fair_such {A} spelling Keeps r reader fair part p = record { reads = reads; blames = λ bytes left fits e some. by_read bytes left fits e some (r bytes) refl }
  where
    reads : (bytes : List ℕ) (x : A × List ℕ) → IsBytes bytes → such_that r p bytes ≡ Ok x → Local (λ (b : List ℕ). such_that r p b) bytes x
    reads bytes x fits e =
        let t = such_takes spelling Keeps r reader p bytes x fits e in
        record { front = spelling x.0; parts = t.0.0.parts; left = t.0.0.left; again = λ more. such_again spelling Keeps r reader p x.0 more t.0.1 t.1 }

    by_test : (bytes : List ℕ) (left : ℕ) (x : A × List ℕ) → IsBytes bytes → such_that r p bytes ≡ Err left → r bytes ≡ Ok x → (b : Bool) → p x.0 ≡ b → Blame IsPart (λ (c : List ℕ). such_that r p c) bytes left
    by_test bytes left x fits e is true passes = absurd (err_or_ok (such_that r p bytes) left x e (such_is r p bytes x is ∙ ap (λ (b : Bool). cond b (Ok x) (Err (length bytes))) passes))
    by_test bytes left x fits e is false fails =
        let t = reader.takes bytes x fits is in
        let refused : (b : List ℕ) (more : List ℕ) → r b ≡ Ok (x.0, more) → such_that r p b ≡ Err (length b) = λ b more read. such_is r p b (x.0, more) read ∙ ap (λ (c : Bool). cond c (Ok (x.0, more)) (Err (length b))) fails in
        record {
          before = [];
          unit = spelling x.0;
          after = x.1;
          parts = t.0.parts;
          left_is = err_is {A = A} left (length bytes) (sym e ∙ refused bytes x.1 is) ∙ ap (λ (l : List ℕ). length l) t.0.parts;
          whole = part x.0 t.1;
          stops = λ more y h.
              err_or_ok (such_that r p (spelling x.0 ++ more)) (length (spelling x.0 ++ more)) y (refused (spelling x.0 ++ more) more (reader.again x.0 more t.1)) h;
        }

    by_read : (bytes : List ℕ) (left : ℕ) → IsBytes bytes → such_that r p bytes ≡ Err left → 0 < left → (s : Reading A) → r bytes ≡ s → Blame IsPart (λ (b : List ℕ). such_that r p b) bytes left
    by_read bytes left fits e some (Ok x) is = by_test bytes left x fits e is (p x.0) refl
    by_read bytes left fits e some (Err l) is =
        let same : l ≡ left = err_is {A = A} l left (sym (such_ends r p bytes l is) ∙ e) in
        let b = fair.blames bytes left fits (is ∙ ap (λ (k : ℕ). Err k) same) some in
        record {
          before = b.before;
          unit = b.unit;
          after = b.after;
          parts = b.parts;
          left_is = b.left_is;
          whole = b.whole;
          stops = λ more y h. (let parts = such_parts r p (b.before ++ (b.unit ++ more)) y h in b.stops more y parts.0);
        }

-- ---- numbers and sources

pub fair_number : (low high : ℕ) → Fair IsPart (λ (bytes : List ℕ). number_within low high bytes)
fair_number low high =
    fair_such (to_be_bytes w32) (λ n. n < 2 ^ 32) (number_at w32) u32_reader fair_u32 (λ n small. inr (inl (wide32.size n))) (λ n. leb low n && leb n high)

fair_short : Fair IsPart text_at
fair_short = fair_wider IsByte IsPart (λ part is. inl is) text_at fair_text_byte

pub fair_source : (before : List Group) → Fair IsPart (λ (bytes : List ℕ). source_at before bytes)
fair_source before =
    fair_such bytes_spelling IsShortText text_at text_reader fair_short (λ text short. inr (inr (text, short, refl))) (λ source. not (list_any (is_of source) before))

-- none before is of the source
pub among_none : (source : List ℕ) (before : List Group) → AreOfOthers source before → list_any (is_of source) before ≡ false
among_none source [] are = refl
among_none source (g ∷ before) are = or_from (is_of source g) (list_any (is_of source) before) are.0 (among_none source before are.1)

pub none_among : (source : List ℕ) (before : List Group) → list_any (is_of source) before ≡ false → AreOfOthers source before
none_among source [] none = tt
none_among source (g ∷ before) none = let parts = or_parts (is_of source g) (list_any (is_of source) before) none in (parts.0, none_among source before parts.1)

wider : (unit : List ℕ) → IsUnit unit → IsPart unit
wider unit (inl one) = inl one
wider unit (inr text) = inr (inr text)

fair_base : Fair IsPart entry_at
fair_base = fair_wider IsUnit IsPart wider entry_at fair_entry_at

-- ---- a group

abbrev last_part : List ℕ → ℕ → List ℕ → List ℕ → Reading Group
last_part source entries text bytes = entry_at bytes >>= λ base. Ok (record { source = source; entries = entries; text = text; base = base.0 }, base.1)

abbrev last_two : List ℕ → ℕ → List ℕ → Reading Group
last_two source entries bytes = text_at bytes >>= λ text. last_part source entries text.0 text.1

abbrev last_three : List ℕ → List ℕ → Reading Group
last_three source bytes = number_within 1 batch_limit bytes >>= λ entries. last_two source entries.0 entries.1

group_is : (before : List Group) (bytes : List ℕ) → group_at before bytes ≡ (source_at before bytes >>= λ source. last_three source.0 source.1)
unfolding group_at
group_is before bytes = refl

pub fair_group : (before : List Group) → Fair IsPart (λ (bytes : List ℕ). group_at before bytes)
unfolding group_at
fair_group before =
    fair_bind (λ (bytes : List ℕ). source_at before bytes) (λ source. last_three source.0 source.1) (fair_source before)
    (λ source. fair_bind (λ (bytes : List ℕ). number_within 1 batch_limit bytes) (λ entries. last_two source entries.0 entries.1) (fair_number 1 batch_limit)
    (λ entries. fair_bind text_at (λ text. last_part source entries text.0 text.1) fair_short
    (λ text. fair_bind entry_at (λ base. Ok (record { source = source; entries = entries; text = text; base = base.0 }, base.1)) fair_base
    (λ base. fair_ok (record { source = source; entries = entries; text = text; base = base })))))

-- a group that was read keeps the rules, and none before is of its source
record GroupTaken (before : List Group) (bytes : List ℕ) (group : Group) (rest : List ℕ) : Type 0 where
  takes : Takes bytes (group_spelling group) rest
  keeps : KeepsRules group
  new : AreOfOthers group.source before

group_takes : (before : List Group) (bytes : List ℕ) (x : Group × List ℕ) → IsBytes bytes → group_at before bytes ≡ Ok x → GroupTaken before bytes x.0 x.1
group_takes before bytes x fits e =
    let source = bind_ok (source_at before bytes) (λ s. last_three s.0 s.1) x (sym (group_is before bytes) ∙ e) in
    let t1 = such_takes bytes_spelling IsShortText text_at text_reader (λ s. not (list_any (is_of s) before)) bytes source.0 fits source.1 in
    let entries = bind_ok (number_within 1 batch_limit source.0.1) (λ n. last_two source.0.0 n.0 n.1) x source.2 in
    let t2 = such_takes (to_be_bytes w32) (λ n. n < 2 ^ 32) (number_at w32) u32_reader (λ n. leb 1 n && leb n batch_limit) source.0.1 entries.0 t1.0.0.left entries.1 in
    let text = bind_ok (text_at entries.0.1) (λ t. last_part source.0.0 entries.0.0 t.0 t.1) x entries.2 in
    let t3 = text_reader.takes entries.0.1 text.0 t2.0.0.left text.1 in
    let base = bind_ok (entry_at text.0.1) (λ b. Ok (record { source = source.0.0; entries = entries.0.0; text = text.0.0; base = b.0 }, b.1)) x text.2 in
    let t4 = entry_reader.takes text.0.1 base.0 t3.0.left base.1 in
    let between = and_parts (leb 1 entries.0.0) (leb entries.0.0 batch_limit) t2.1 in
    subst (λ (p : Group × List ℕ). GroupTaken before bytes p.0 p.1)
    (ok_is (record { source = source.0.0; entries = entries.0.0; text = text.0.0; base = base.0.0 }, base.0.1) x base.2)
    (record {
      takes = takes_both bytes (bytes_spelling source.0.0) source.0.1 (to_be_bytes w32 entries.0.0 ++ (bytes_spelling text.0.0 ++ entry_spelling base.0.0)) base.0.1 t1.0.0
          (takes_both source.0.1 (to_be_bytes w32 entries.0.0) entries.0.1 (bytes_spelling text.0.0 ++ entry_spelling base.0.0) base.0.1 t2.0.0
          (takes_both entries.0.1 (bytes_spelling text.0.0) text.0.1 (entry_spelling base.0.0) base.0.1 t3.0 t4.0));
      keeps = record { source = t1.0.1; some = leb-true 1 entries.0.0 between.0; most = leb-true entries.0.0 batch_limit between.1; text = t3.1; base = t4.1 };
      new = none_among source.0.0 before (not-true (list_any (is_of source.0.0) before) t1.1);
    })

-- what is read part by part is read whole
pub group_step : (before : List Group) (bytes : List ℕ) (source : List ℕ) (a : List ℕ) (entries : ℕ) (b : List ℕ) (text : List ℕ) (c : List ℕ) (base : LogRecord) (d : List ℕ)
    → source_at before bytes ≡ Ok (source, a) → number_within 1 batch_limit a ≡ Ok (entries, b) → text_at b ≡ Ok (text, c) → entry_at c ≡ Ok (base, d)
    → group_at before bytes ≡ Ok (record { source = source; entries = entries; text = text; base = base }, d)
group_step before bytes source a entries b text c base d one two three four =
    group_is before bytes ∙ ap (λ (r : Reading (List ℕ)). r >>= λ s. last_three s.0 s.1) one ∙ ap (λ (r : Reading ℕ). r >>= λ n. last_two source n.0 n.1) two
    ∙ ap (λ (r : Reading (List ℕ)). r >>= λ t. last_part source entries t.0 t.1) three
    ∙ ap (λ (r : Reading LogRecord). r >>= λ e. Ok (record { source = source; entries = entries; text = text; base = e.0 }, e.1)) four

group_again : (before : List Group) (g : Group) (rest : List ℕ) → KeepsRules g → AreOfOthers g.source before → group_at before (group_spelling g ++ rest) ≡ Ok (g, rest)
group_again before g rest keeps new =
    let last : List ℕ = entry_spelling g.base ++ rest in
    let parts : group_spelling g ++ rest ≡ bytes_spelling g.source ++ (to_be_bytes w32 g.entries ++ (bytes_spelling g.text ++ (entry_spelling g.base ++ rest))) =
    append_assoc (bytes_spelling g.source) (to_be_bytes w32 g.entries ++ (bytes_spelling g.text ++ entry_spelling g.base)) rest
    ∙ ap (λ (l : List ℕ). bytes_spelling g.source ++ l)
    (append_assoc (to_be_bytes w32 g.entries) (bytes_spelling g.text ++ entry_spelling g.base) rest
    ∙ ap (λ (l : List ℕ). to_be_bytes w32 g.entries ++ l) (append_assoc (bytes_spelling g.text) (entry_spelling g.base) rest)) in
    ap (group_at before) parts
    ∙ group_step before (bytes_spelling g.source ++ (to_be_bytes w32 g.entries ++ (bytes_spelling g.text ++ (entry_spelling g.base ++ rest)))) g.source
    (to_be_bytes w32 g.entries ++ (bytes_spelling g.text ++ (entry_spelling g.base ++ rest))) g.entries (bytes_spelling g.text ++ (entry_spelling g.base ++ rest)) g.text (entry_spelling g.base ++ rest) g.base rest
    (such_again bytes_spelling IsShortText text_at text_reader (λ s. not (list_any (is_of s) before)) g.source (to_be_bytes w32 g.entries ++ (bytes_spelling g.text ++ (entry_spelling g.base ++ rest))) keeps.source (ap not (among_none g.source before new)))
    (such_again (to_be_bytes w32) (λ n. n < 2 ^ 32) (number_at w32) u32_reader (λ n. leb 1 n && leb n batch_limit) g.entries (bytes_spelling g.text ++ (entry_spelling g.base ++ rest)) (omega (arith, keeps.most))
    (and_from (leb 1 g.entries) (leb g.entries batch_limit) (le-leb 1 g.entries keeps.some) (le-leb g.entries batch_limit keeps.most)))
    (text_reader.again g.text (entry_spelling g.base ++ rest) keeps.text) (entry_reader.again g.base rest keeps.base)

-- ---- so many groups

keep_push : (xs : List Group) (g : Group) → KeepRules xs → AreOfOthers g.source xs → KeepsRules g → KeepRules (xs ++ g ∷ [])
keep_push [] g all new one = (one, (tt, tt))
keep_push (x ∷ xs) g all new one = (all.0, (others_append x.source xs (g ∷ []) all.1.0 (other_source g.source x.source new.0, tt), keep_push xs g all.1.1 new.1 one))

-- the groups in front of one are of other sources
others_before : (xs ys : List Group) (g : Group) → KeepRules (xs ++ g ∷ ys) → AreOfOthers g.source xs
others_before [] ys g all = tt
others_before (x ∷ xs) ys g all = (other_source x.source g.source (others_back x.source xs (g ∷ ys) all.1.0).0, others_before xs ys g all.1.1)

keeps_at : (xs ys : List Group) (g : Group) → KeepRules (xs ++ g ∷ ys) → KeepsRules g
keeps_at [] ys g all = all.0
keeps_at (x ∷ xs) ys g all = keeps_at xs ys g all.1.1

pub fair_behind : (n : ℕ) (before : List Group) → Fair IsPart (λ (bytes : List ℕ). groups_behind before n bytes)
fair_behind zero before = fair_ok []
fair_behind (suc n) before =
    fair_bind (λ (bytes : List ℕ). group_at before bytes) (λ g. groups_behind (before ++ g.0 ∷ []) n g.1 >>= λ gs. Ok (g.0 ∷ gs.0, gs.1)) (fair_group before)
    (λ g. fair_bind (λ (bytes : List ℕ). groups_behind (before ++ g ∷ []) n bytes) (λ gs. Ok (g ∷ gs.0, gs.1)) (fair_behind n (before ++ g ∷ [])) (λ gs. fair_ok (g ∷ gs)))

record GroupsTaken (before : List Group) (n : ℕ) (bytes : List ℕ) (groups : List Group) (rest : List ℕ) : Type 0 where
  takes : Takes bytes (flat_map group_spelling groups) rest
  count : length groups ≡ n
  keep : KeepRules (before ++ groups)

behind_takes : (n : ℕ) (before : List Group) (bytes : List ℕ) (x : List Group × List ℕ) → IsBytes bytes → KeepRules before → groups_behind before n bytes ≡ Ok x → GroupsTaken before n bytes x.0 x.1
behind_takes zero before bytes x fits keep e =
    subst (λ (p : List Group × List ℕ). GroupsTaken before 0 bytes p.0 p.1) (ok_is ([], bytes) x e)
    (record { takes = record { parts = refl; left = fits }; count = refl; keep = subst KeepRules (sym (append-nil before)) keep })
behind_takes (suc n) before bytes x fits keep e =
    let group = bind_ok (group_at before bytes) (λ g. groups_behind (before ++ g.0 ∷ []) n g.1 >>= λ gs. Ok (g.0 ∷ gs.0, gs.1)) x e in
    let others = bind_ok (groups_behind (before ++ group.0.0 ∷ []) n group.0.1) (λ gs. Ok (group.0.0 ∷ gs.0, gs.1)) x group.2 in
    let one = group_takes before bytes group.0 fits group.1 in
    let more = behind_takes n (before ++ group.0.0 ∷ []) group.0.1 others.0 one.takes.left (keep_push before group.0.0 keep one.new one.keeps) others.1 in
    subst (λ (p : List Group × List ℕ). GroupsTaken before (suc n) bytes p.0 p.1) (ok_is (group.0.0 ∷ others.0.0, others.0.1) x others.2)
    (record {
      takes = takes_both bytes (group_spelling group.0.0) group.0.1 (flat_map group_spelling others.0.0) others.0.1 one.takes more.takes;
      count = ap (λ k. suc k) more.count;
      keep = subst KeepRules (append_assoc before (group.0.0 ∷ []) others.0.0) more.keep;
    })

behind_step : (before : List Group) (n : ℕ) (bytes : List ℕ) (g : Group) (a : List ℕ) (gs : List Group) (b : List ℕ) → group_at before bytes ≡ Ok (g, a) → groups_behind (before ++ g ∷ []) n a ≡ Ok (gs, b)
    → groups_behind before (suc n) bytes ≡ Ok (g ∷ gs, b)
behind_step before n bytes g a gs b one more =
    ap (λ (r : Reading Group). r >>= λ x. groups_behind (before ++ x.0 ∷ []) n x.1 >>= λ xs. Ok (x.0 ∷ xs.0, xs.1)) one ∙ ap (λ (r : Reading (List Group)). r >>= λ xs. Ok (g ∷ xs.0, xs.1)) more

behind_again : (before gs : List Group) (rest : List ℕ) → KeepRules (before ++ gs) → groups_behind before (length gs) (flat_map group_spelling gs ++ rest) ≡ Ok (gs, rest)
behind_again before [] rest keep = refl
behind_again before (g ∷ gs) rest keep =
    ap (groups_behind before (suc (length gs))) (append_assoc (group_spelling g) (flat_map group_spelling gs) rest)
    ∙ behind_step before (length gs) (group_spelling g ++ (flat_map group_spelling gs ++ rest)) g (flat_map group_spelling gs ++ rest) gs rest
    (group_again before g (flat_map group_spelling gs ++ rest) (keeps_at before gs g keep) (others_before before gs g keep))
    (behind_again (before ++ g ∷ []) gs rest (subst KeepRules (sym (append_assoc before (g ∷ []) gs)) keep))

-- ---- all groups

groups_is : (bytes : List ℕ) → groups_at bytes ≡ (number_within 0 group_limit bytes >>= λ count. groups_behind [] count.0 count.1)
unfolding groups_at
groups_is bytes = refl

pub fair_groups : Fair IsPart (λ (bytes : List ℕ). groups_at bytes)
unfolding groups_at
fair_groups = fair_bind (λ (bytes : List ℕ). number_within 0 group_limit bytes) (λ count. groups_behind [] count.0 count.1) (fair_number 0 group_limit) (λ count. fair_behind count [])

groups_take : (bytes : List ℕ) (x : List Group × List ℕ) → IsBytes bytes → groups_at bytes ≡ Ok x → Takes bytes (groups_spelling x.0) x.1 × AreSpellable x.0
groups_take bytes x fits e =
    let count = bind_ok (number_within 0 group_limit bytes) (λ n. groups_behind [] n.0 n.1) x (sym (groups_is bytes) ∙ e) in
    let t = such_takes (to_be_bytes w32) (λ n. n < 2 ^ 32) (number_at w32) u32_reader (λ n. leb 0 n && leb n group_limit) bytes count.0 fits count.1 in
    let between = and_parts (leb 0 count.0.0) (leb count.0.0 group_limit) t.1 in
    let more = behind_takes count.0.0 [] count.0.1 x t.0.0.left tt count.2 in (
      subst (λ (n : ℕ). Takes bytes (to_be_bytes w32 n ++ flat_map group_spelling x.0) x.1) (sym more.count)
          (takes_both bytes (to_be_bytes w32 count.0.0) count.0.1 (flat_map group_spelling x.0) x.1 t.0.0 more.takes),
      record { few = omega (arith, more.count, leb-true count.0.0 group_limit between.1); each = more.keep },
    )

groups_again : (gs : List Group) (rest : List ℕ) → AreSpellable gs → groups_at (groups_spelling gs ++ rest) ≡ Ok (gs, rest)
groups_again gs rest spellable =
    ap groups_at (append_assoc (to_be_bytes w32 (length gs)) (flat_map group_spelling gs) rest)
    ∙ groups_is (to_be_bytes w32 (length gs) ++ (flat_map group_spelling gs ++ rest))
    ∙ ap (λ (r : Reading ℕ). r >>= λ count. groups_behind [] count.0 count.1)
    (such_again (to_be_bytes w32) (λ n. n < 2 ^ 32) (number_at w32) u32_reader (λ n. leb 0 n && leb n group_limit) (length gs) (flat_map group_spelling gs ++ rest) (omega (arith, spellable.few))
    (and_from (leb 0 (length gs)) (leb (length gs) group_limit) (le-leb 0 (length gs) (omega arith)) (le-leb (length gs) group_limit spellable.few)))
    ∙ behind_again [] gs rest spellable.each

pub groups_reader : IsReader groups_spelling AreSpellable (λ (bytes : List ℕ). groups_at bytes)
groups_reader = record { takes = groups_take; again = groups_again; some = λ gs. omega (arith, wide32.size (length gs), length-append (to_be_bytes w32 (length gs)) (flat_map group_spelling gs)) }

-- ---- what restoring answers

pub restores_ok : (bytes : List ℕ) (at next : ℕ) (gs : List Group) → IsBytes bytes → next ≤ length bytes → groups_at (drop at bytes) ≡ Ok (gs, drop next bytes) → StandsAt groups_spelling AreSpellable bytes at gs next
restores_ok bytes at next gs fits within e =
    let r = reads_ok groups_spelling AreSpellable (λ (b : List ℕ). groups_at b) groups_reader bytes at gs (drop next bytes) fits e in
    let same : length bytes - length (drop next bytes) ≡ next = omega (arith, length-drop next bytes, within) in
    subst (λ (n : ℕ). StandsAt groups_spelling AreSpellable bytes at gs n) same r.0

pub restores_err : (bytes : List ℕ) (at left fault : ℕ) → IsBytes bytes → groups_at (drop at bytes) ≡ Err left → fault ≡ length bytes - left → FailsAt bytes at fault
restores_err bytes at left fault fits e is = record {
  none = λ gs rest keeps spelled. err_or_ok (groups_at (drop at bytes)) left (gs, rest) e (ap groups_at spelled ∙ groups_again gs rest keeps);
  place = (left, e, is);
  stops = λ inside. ends inside (fair_groups.blames (drop at bytes) left (bytes_after at bytes fits) e (omega (arith, is, inside)));
}
  where
    ends : fault < length bytes → Blame IsPart (λ (b : List ℕ). groups_at b) (drop at bytes) left → IsDeadEnd bytes at fault
    ends inside b = record {
      before = b.before;
      part = b.unit;
      after = b.after;
      parts = b.parts;
      place = omega (arith, is, inside, b.left_is, length-drop at bytes, ap (λ (l : List ℕ). length l) b.parts, length-append b.before (b.unit ++ b.after));
      whole = b.whole;
      none = λ gs more rest keeps same. b.stops more (gs, rest) (ap groups_at same ∙ groups_again gs rest keeps);
    }

pub groups_told : (one other : List Group) (x y : List ℕ) → AreSpellable one → AreSpellable other → groups_spelling one ++ x ≡ groups_spelling other ++ y → (one ≡ other) × (x ≡ y)
groups_told one other x y first second e = told_apart groups_spelling AreSpellable (λ (b : List ℕ). groups_at b) groups_reader one other x y first second e

-- ---- from place to place

pub reads_found : {X Y : Type 0} (view : X → Y) (spelling : Y → List ℕ) (Keeps : Y → Type 0) (reading : List ℕ → Reading Y) → IsReader spelling Keeps reading → (bytes : List ℕ) (at : ℕ) (r : Result (X × ℕ) CodecFault)
    → Reads view spelling Keeps reading bytes at r → Finds view reading bytes at r
reads_found view spelling Keeps reading reader bytes at (Ok x) s = record { given = ap reading s.spelled ∙ reader.again (view x.0) (drop x.1 bytes) s.lawful; within = s.within }
reads_found view spelling Keeps reading reader bytes at (Err (Malformed fault)) f = record { left = f.place.0; given = f.place.1; place = f.place.2 }
reads_found view spelling Keeps reading reader bytes at (Err Memory) f = tt

pub at_within : {Y : Type 0} (spelling : Y → List ℕ) (Keeps : Y → Type 0) (bytes : List ℕ) (at : ℕ) (value : Y) (next : ℕ) → StandsAt spelling Keeps bytes at value next → at ≤ length bytes
at_within spelling Keeps bytes at value next s = omega (arith, s.next_is, s.within)

pub such_found : {Y : Type 0} (reading : List ℕ → Reading Y) (p : Y → Bool) (bytes : List ℕ) (at : ℕ) (value : Y) (next : ℕ) → IsRead reading bytes at value next → p value ≡ true → IsRead (such_that reading p) bytes at value next
such_found reading p bytes at value next r passes = record {
  given = such_is reading p (drop at bytes) (value, drop next bytes) r.given ∙ ap (λ (b : Bool). cond b (Ok (value, drop next bytes)) (Err (length (drop at bytes)))) passes;
  within = r.within;
}

pub such_refused : {Y : Type 0} (reading : List ℕ → Reading Y) (p : Y → Bool) (bytes : List ℕ) (at : ℕ) (value : Y) (next : ℕ) → IsRead reading bytes at value next → at ≤ length bytes → p value ≡ false → IsRefused (such_that reading p) bytes at at
such_refused reading p bytes at value next r within fails = record {
  left = length (drop at bytes);
  given = such_is reading p (drop at bytes) (value, drop next bytes) r.given ∙ ap (λ (b : Bool). cond b (Ok (value, drop next bytes)) (Err (length (drop at bytes)))) fails;
  place = omega (arith, within, length-drop at bytes);
}

pub such_fails : {X Y : Type 0} (view : X → Y) (reading : List ℕ → Reading Y) (p : Y → Bool) (bytes : List ℕ) (at : ℕ) (fault : CodecFault) → Finds {X = X} view reading bytes at (Err fault) → Finds {X = X} view (such_that reading p) bytes at (Err fault)
such_fails view reading p bytes at (Malformed fault) r = record { left = r.left; given = such_ends reading p (drop at bytes) r.left r.given; place = r.place }
such_fails view reading p bytes at Memory r = tt

pub among_at : (source : List ℕ) (groups : List Group) (place : ℕ) → IsAt source groups place → list_any (is_of source) groups ≡ true
among_at source groups place a = ap (list_any (is_of source)) a.parts ∙ among source a.before a.group a.behind a.its_own
  where
    among : (s : List ℕ) (before : List Group) (g : Group) (behind : List Group) → is_of s g ≡ true → list_any (is_of s) (before ++ g ∷ behind) ≡ true
    among s [] g behind is = ap (λ (b : Bool). b || list_any (is_of s) behind) is
    among s (h ∷ before) g behind is = or_right (is_of s h) (list_any (is_of s) (before ++ g ∷ behind)) (among s before g behind is)

-- ---- a group from place to place

module _ (before : List Group) (bytes : List ℕ) (at : ℕ) where
  pub source_fails : {X Y : Type 0} (view : X → Group) (seen : Y → List ℕ) (fault : CodecFault) → Finds {X = Y} seen (source_at before) bytes at (Err fault) → Finds {X = X} view (group_at before) bytes at (Err fault)
  source_fails view seen (Malformed fault) r =
      record { left = r.left; given = group_is before (drop at bytes) ∙ ap (λ (s : Reading (List ℕ)). s >>= λ x. last_three x.0 x.1) r.given; place = r.place }
  source_fails view seen Memory r = tt

  pub entries_fail : {X Y : Type 0} (view : X → Group) (seen : Y → ℕ) (source : List ℕ) (next : ℕ) (fault : CodecFault) → IsRead (source_at before) bytes at source next
      → Finds {X = Y} seen (number_within 1 batch_limit) bytes next (Err fault) → Finds {X = X} view (group_at before) bytes at (Err fault)
  entries_fail view seen source next (Malformed fault) one r = record {
    left = r.left;
    given = group_is before (drop at bytes) ∙ ap (λ (s : Reading (List ℕ)). s >>= λ x. last_three x.0 x.1) one.given ∙ ap (λ (s : Reading ℕ). s >>= λ x. last_two source x.0 x.1) r.given;
    place = r.place;
  }
  entries_fail view seen source next Memory one r = tt

  pub text_fails : {X Y : Type 0} (view : X → Group) (seen : Y → List ℕ) (source : List ℕ) (next : ℕ) (entries : ℕ) (over : ℕ) (fault : CodecFault) → IsRead (source_at before) bytes at source next
      → IsRead (number_within 1 batch_limit) bytes next entries over → Finds {X = Y} seen text_at bytes over (Err fault) → Finds {X = X} view (group_at before) bytes at (Err fault)
  text_fails view seen source next entries over (Malformed fault) one two r = record {
    left = r.left;
    given = group_is before (drop at bytes) ∙ ap (λ (s : Reading (List ℕ)). s >>= λ x. last_three x.0 x.1) one.given ∙ ap (λ (s : Reading ℕ). s >>= λ x. last_two source x.0 x.1) two.given
        ∙ ap (λ (s : Reading (List ℕ)). s >>= λ x. last_part source entries x.0 x.1) r.given;
    place = r.place;
  }
  text_fails view seen source next entries over Memory one two r = tt

  pub base_fails : {X Y : Type 0} (view : X → Group) (seen : Y → LogRecord) (source : List ℕ) (next : ℕ) (entries : ℕ) (over : ℕ) (text : List ℕ) (last : ℕ) (fault : CodecFault) → IsRead (source_at before) bytes at source next
      → IsRead (number_within 1 batch_limit) bytes next entries over → IsRead text_at bytes over text last → Finds {X = Y} seen entry_at bytes last (Err fault) → Finds {X = X} view (group_at before) bytes at (Err fault)
  base_fails view seen source next entries over text last (Malformed fault) one two three r = record {
    left = r.left;
    given = group_is before (drop at bytes) ∙ ap (λ (s : Reading (List ℕ)). s >>= λ x. last_three x.0 x.1) one.given ∙ ap (λ (s : Reading ℕ). s >>= λ x. last_two source x.0 x.1) two.given
        ∙ ap (λ (s : Reading (List ℕ)). s >>= λ x. last_part source entries x.0 x.1) three.given
        ∙ ap (λ (s : Reading LogRecord). s >>= λ x. Ok (record { source = source; entries = entries; text = text; base = x.0 }, x.1)) r.given;
    place = r.place;
  }
  base_fails view seen source next entries over text last Memory one two three r = tt

  pub group_found : (source : List ℕ) (next : ℕ) (entries : ℕ) (over : ℕ) (text : List ℕ) (last : ℕ) (base : LogRecord) (end : ℕ) → IsRead (source_at before) bytes at source next → IsRead (number_within 1 batch_limit) bytes next entries over
      → IsRead text_at bytes over text last → IsRead entry_at bytes last base end → IsRead (group_at before) bytes at (record { source = source; entries = entries; text = text; base = base }) end
  group_found source next entries over text last base end one two three four = record {
    given = group_step before (drop at bytes) source (drop next bytes) entries (drop over bytes) text (drop last bytes) base (drop end bytes) one.given two.given three.given four.given;
    within = four.within;
  }

-- ---- groups one by one

-- what is read behind some groups, with them
abbrev pub with_front : List Group → Reading (List Group) → Reading (List Group)
with_front front r = r >>= λ x. Ok (front ++ x.0, x.1)

with_one : (front : List Group) (g : Group) (r : Reading (List Group)) → with_front front (r >>= λ gs. Ok (g ∷ gs.0, gs.1)) ≡ with_front (front ++ g ∷ []) r
with_one front g (Ok x) = ap (λ (gs : List Group). Ok (gs, x.1)) (sym (append_assoc front (g ∷ []) x.0))
with_one front g (Err left) = refl

pub front_step : (front : List Group) (n : ℕ) (b a : List ℕ) (g : Group) → group_at front b ≡ Ok (g, a) → with_front front (groups_behind front (suc n) b) ≡ with_front (front ++ g ∷ []) (groups_behind (front ++ g ∷ []) n a)
front_step front n b a g e =
    ap (λ (r : Reading Group). with_front front (r >>= λ x. groups_behind (front ++ x.0 ∷ []) n x.1 >>= λ xs. Ok (x.0 ∷ xs.0, xs.1))) e ∙ with_one front g (groups_behind (front ++ g ∷ []) n a)

pub front_fails : (front : List Group) (n : ℕ) (b : List ℕ) (left : ℕ) → group_at front b ≡ Err left → with_front front (groups_behind front (suc n) b) ≡ Err left
front_fails front n b left e = ap (λ (r : Reading Group). with_front front (r >>= λ x. groups_behind (front ++ x.0 ∷ []) n x.1 >>= λ xs. Ok (x.0 ∷ xs.0, xs.1))) e

pub front_ends : (front : List Group) (b : List ℕ) → with_front front (groups_behind front 0 b) ≡ Ok (front, b)
front_ends front b = ap (λ (gs : List Group). Ok (gs, b)) (append-nil front)

with_none : (r : Reading (List Group)) → with_front [] r ≡ r
with_none (Ok x) = refl
with_none (Err left) = refl

-- what the groups read so far, and those that are still to be read, come to
pub record SoFar (bytes : List ℕ) (at : ℕ) (groups : List Group) (todo place : ℕ) : Type 0 where
  pub within : place ≤ length bytes
  pub given : groups_at (drop at bytes) ≡ with_front groups (groups_behind groups todo (drop place bytes))

pub first_so_far : (bytes : List ℕ) (at count first : ℕ) → IsRead (number_within 0 group_limit) bytes at count first → SoFar bytes at [] count first
first_so_far bytes at count first r = record {
  within = r.within;
  given = groups_is (drop at bytes) ∙ ap (λ (s : Reading ℕ). s >>= λ n. groups_behind [] n.0 n.1) r.given ∙ sym (with_none (groups_behind [] count (drop first bytes)));
}

pub next_so_far : (bytes : List ℕ) (at : ℕ) (groups : List Group) (todo over place : ℕ) (g : Group) (next : ℕ) → todo ≡ suc over → SoFar bytes at groups todo place → IsRead (group_at groups) bytes place g next → SoFar bytes at (groups ++ g ∷ []) over next
next_so_far bytes at groups todo over place g next is so r = record {
  within = r.within;
  given = so.given ∙ ap (λ (n : ℕ). with_front groups (groups_behind groups n (drop place bytes))) is ∙ front_step groups over (drop place bytes) (drop next bytes) g r.given;
}

pub all_so_far : (bytes : List ℕ) (at : ℕ) (groups : List Group) (todo place : ℕ) → IsBytes bytes → todo ≡ 0 → SoFar bytes at groups todo place → StandsAt groups_spelling AreSpellable bytes at groups place
all_so_far bytes at groups todo place fits none so =
    restores_ok bytes at place groups fits so.within (so.given ∙ ap (λ (n : ℕ). with_front groups (groups_behind groups n (drop place bytes))) none ∙ front_ends groups (drop place bytes))

pub count_refused : {X : Type 0} (view : X → ℕ) (bytes : List ℕ) (at : ℕ) (fault : CodecFault) → IsBytes bytes → Finds {X = X} view (number_within 0 group_limit) bytes at (Err fault) → Restores bytes at (Err fault)
count_refused view bytes at (Malformed fault) fits r =
    restores_err bytes at r.left fault fits (groups_is (drop at bytes) ∙ ap (λ (s : Reading ℕ). s >>= λ n. groups_behind [] n.0 n.1) r.given) r.place
count_refused view bytes at Memory fits r = tt

pub group_refused : {X : Type 0} (view : X → Group) (bytes : List ℕ) (at : ℕ) (groups : List Group) (todo over place : ℕ) (fault : CodecFault) → IsBytes bytes → todo ≡ suc over → SoFar bytes at groups todo place
    → Finds {X = X} view (group_at groups) bytes place (Err fault) → Restores bytes at (Err fault)
group_refused view bytes at groups todo over place (Malformed fault) fits is so r =
    restores_err bytes at r.left fault fits
    (so.given ∙ ap (λ (n : ℕ). with_front groups (groups_behind groups n (drop place bytes))) is ∙ front_fails groups over (drop place bytes) r.left r.given) r.place
group_refused view bytes at groups todo over place Memory fits is so r = tt

-- what is known of a group that was read
pub record Known (before : List Group) (g : Group) : Type 0 where
  pub new : AreOfOthers g.source before
  pub is_open : IsOpen g
  pub short : length g.text < 2 ^ 32

pub group_known : (before : List Group) (bytes : List ℕ) (at : ℕ) (g : Group) (next : ℕ) → IsBytes bytes → IsRead (group_at before) bytes at g next → Known before g
group_known before bytes at g next fits r =
    let t = group_takes before (drop at bytes) (g, drop next bytes) (bytes_after at bytes fits) r.given in
    record { new = t.new; is_open = record { some = t.keeps.some; most = t.keeps.most; shallow = t.keeps.base.shallow }; short = t.keeps.text.short }

-- ---- what is put

abbrev pub EachKeeps : List Group → Type 0
EachKeeps [] = Unit {0}
EachKeeps (g ∷ gs) = KeepsRules g × EachKeeps gs

pub each_push : (gs : List Group) (g : Group) → EachKeeps gs → KeepsRules g → EachKeeps (gs ++ g ∷ [])
each_push [] g each one = (one, tt)
each_push (h ∷ gs) g each one = (each.0, each_push gs g each.1 one)

pub keep_all : (gs : List Group) → AreOpen gs → EachKeeps gs → KeepRules gs
keep_all [] are each = tt
keep_all (g ∷ gs) are each = (each.0, (are.1.0, keep_all gs are.1.1 each.1))

pub each_all : (items : List Held) (gs : List Group) (n : ℕ) → length items ≤ n → groups_seen items ≡ gs → EachKeeps (groups_seen (take n items)) → EachKeeps gs
each_all items gs n all seen each = subst EachKeeps (ap groups_seen (take_all n items all) ∙ seen) each

pub start_so_far : (bytes : List ℕ) (at count first todo : ℕ) (gs : List Group) → gs ≡ [] → todo ≡ count → IsRead (number_within 0 group_limit) bytes at count first → SoFar bytes at gs todo first
start_so_far bytes at count first todo gs none all r =
    subst (λ (hs : List Group). SoFar bytes at hs todo first) (sym none) (subst (λ (n : ℕ). SoFar bytes at [] n first) (sym all) (first_so_far bytes at count first r))

pub not_err : {A E : Type 0} (r : Result A E) (P : Type 0) → is_err r ≡ false → OnOk r P → P
not_err (Ok x) P isnt p = p
not_err (Err e) P isnt p = absurd (true≢false isnt)
