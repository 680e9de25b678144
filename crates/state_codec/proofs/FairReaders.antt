-- The readers of values and entries are fair.
use Rattle.std.proofs.Common.{◌≡◌, ℕ, zero, suc, ◌-◌, ◌<◌, ◌^◌, Bool, true, false, cond, eqb, leb, ltb, List, [], ◌∷◌, ◌++◌, length, take, drop, Option, Some, None, Ok, Err, refl, sym, ap, ◌∙◌, append_assoc, arith, inl, inr}
use Rattle.std.specs.Int.{w32, w64, to_be_bytes, cast_signed}
use Rattle.entry_model.specs.Datum.{Datum, null, boolean, int, text, list, fields, items_of, members_of}
use Rattle.entry_model.specs.LogRecord.{LogRecord}
use Rattle.state_codec.specs.DeadEnds.{IsUnit}
use Rattle.state_codec.specs.Spelling.{bytes_spelling}
use Rattle.state_codec.specs.Rules.{IsShortText}
use Rattle.state_codec.specs.Reading.{Reading, DatumReader, ◌>>=◌, number_at, bytes_at, text_at, items_at, members_at, is_behind, list_at, map_at, leaf_at, value_at, fields_at, severity_at, time_at, entry_within, entry_at}
use Rattle.state_codec.specs.Limits.{levels}
use Rattle.state_codec.proofs.Numbers.{IsBytes, bind_ok, err_or_ok, text_takes, text_again}
use Rattle.state_codec.proofs.ValueLaws.{leaf_other, value_behind}
use Rattle.state_codec.proofs.EntryLaws.{time_other}
use Rattle.state_codec.proofs.GetLemmas.{IsReader}
use Rattle.state_codec.proofs.Readers.{u32_reader, u64_reader, bytes_reader, text_reader}
use Rattle.state_codec.proofs.Fair.{Local, Blame, Fair, err_is, moved, fair_bind, fair_ok, fair_alone, IsBranch, chosen_branch, fair_tagged, fair_wider}
use Rattle.state_codec.proofs.TextEnds.{number_ends, IsByte, text_blames}

-- ---- numbers, bytes and texts

local_from : {Y : Type 0} (spelling : Y → List ℕ) (Keeps : Y → Type 0) (reading : List ℕ → Reading Y) → IsReader spelling Keeps reading → (bytes : List ℕ) (x : Y × List ℕ) → IsBytes bytes → reading bytes ≡ Ok x → Local reading bytes x
local_from spelling Keeps reading reader bytes x fits e =
    let t = reader.takes bytes x fits e in
    record { front = spelling x.0; parts = t.0.parts; left = t.0.left; again = λ more. reader.again x.0 more t.1 }

by_test : {Y : Type 0} (b : Bool) (y : Y) (left : ℕ) → cond b (Err 0) (Ok y) ≡ Err left → left ≡ 0
by_test true y left e = cc
by_test false y left e = absurd cc

abbrev behind_size : ℕ × List ℕ → Reading (List ℕ)
behind_size n = cond (ltb (length n.1) n.0) (Err 0) (Ok (take n.0 n.1, drop n.0 n.1))

pub bytes_end : (bytes : List ℕ) (left : ℕ) → bytes_at bytes ≡ Err left → left ≡ 0
unfolding bytes_at
bytes_end bytes left e = by_case (number_at w32 bytes) refl e
  where
    by_case : (s : Reading ℕ) → number_at w32 bytes ≡ s → (s >>= behind_size) ≡ Err left → left ≡ 0
    by_case (Ok n) is h = by_test (ltb (length n.1) n.0) (take n.0 n.1, drop n.0 n.1) left h
    by_case (Err l) is h = sym (err_is {A = List ℕ} l left h) ∙ number_ends w32 bytes l is

pub fair_u32 : {Part : List ℕ → Type 0} → Fair Part (number_at w32)
fair_u32 = fair_alone (number_at w32) (local_from (to_be_bytes w32) (λ n. n < 2 ^ 32) (number_at w32) u32_reader) (number_ends w32)

pub fair_u64 : {Part : List ℕ → Type 0} → Fair Part (number_at w64)
fair_u64 = fair_alone (number_at w64) (local_from (to_be_bytes w64) (λ n. n < 2 ^ 64) (number_at w64) u64_reader) (number_ends w64)

pub fair_bytes : {Part : List ℕ → Type 0} → Fair Part bytes_at
fair_bytes = fair_alone bytes_at (local_from bytes_spelling (λ (bytes : List ℕ). length bytes < 2 ^ 32) bytes_at bytes_reader) bytes_end

pub fair_text_byte : Fair IsByte text_at
fair_text_byte = record { reads = local_from bytes_spelling IsShortText text_at text_reader; blames = text_blames }

pub fair_text : Fair IsUnit text_at
fair_text = fair_wider IsByte IsUnit (λ unit is. inl is) text_at fair_text_byte

-- ---- lists and maps

pub fair_items : (read : DatumReader) → Fair IsUnit read → (n : ℕ) → Fair IsUnit (λ (bytes : List ℕ). items_at read n bytes)
fair_items read fair zero = fair_ok []
fair_items read fair (suc n) =
    fair_bind read (λ first. items_at read n first.1 >>= λ rest. Ok (first.0 ∷ rest.0, rest.1)) fair
    (λ first. fair_bind (λ (bytes : List ℕ). items_at read n bytes) (λ rest. Ok (first ∷ rest.0, rest.1)) (fair_items read fair n) (λ rest. fair_ok (first ∷ rest)))

abbrev Member : Type 0
Member = List ℕ × Datum

-- what is read behind a key
abbrev behind_key : DatumReader → ℕ → List ℕ → List ℕ → Reading (List Member)
behind_key read n key bytes = read bytes >>= λ value. members_at read (Some key) n value.1 >>= λ rest. Ok ((key, value.0) ∷ rest.0, rest.1)

key_stands : (read : DatumReader) (n : ℕ) (before : Option (List ℕ)) (bytes key rest : List ℕ) → text_at bytes ≡ Ok (key, rest) → is_behind before key ≡ true
    → members_at read before (suc n) bytes ≡ behind_key read n key rest
key_stands read n before bytes key rest name test = rw (name, test) refl

key_fails : (read : DatumReader) (n : ℕ) (before : Option (List ℕ)) (bytes key rest : List ℕ) → text_at bytes ≡ Ok (key, rest) → is_behind before key ≡ false
    → members_at read before (suc n) bytes ≡ Err (length bytes)
key_fails read n before bytes key rest name test = rw (name, test) refl

no_key : (read : DatumReader) (n : ℕ) (before : Option (List ℕ)) (bytes : List ℕ) (left : ℕ) → text_at bytes ≡ Err left → members_at read before (suc n) bytes ≡ Err left
no_key read n before bytes left name = rw name refl

fair_member : (read : DatumReader) (n : ℕ) (before : Option (List ℕ)) → ((key : List ℕ) → Fair IsUnit (λ (bytes : List ℕ). behind_key read n key bytes)) → Fair IsUnit (λ (bytes : List ℕ). members_at read before (suc n) bytes)
fair_member read n before fair = record { reads = reads; blames = λ bytes left fits e some. blamed bytes left fits e some (text_at bytes) refl }
  where
    reads : (bytes : List ℕ) (x : List Member × List ℕ) → IsBytes bytes → members_at read before (suc n) bytes ≡ Ok x → Local (λ (b : List ℕ). members_at read before (suc n) b) bytes x
    reads bytes x fits e =
        let key = bind_ok (text_at bytes) (λ k. (cond (is_behind before k.0) (read k.1) (Err (length bytes))) >>= λ d. members_at read (Some k.0) n d.1 >>= λ r. Ok ((k.0, d.0) ∷ r.0, r.1)) x e in
        let value = bind_ok (cond (is_behind before key.0.0) (read key.0.1) (Err (length bytes))) (λ d. members_at read (Some key.0.0) n d.1 >>= λ r. Ok ((key.0.0, d.0) ∷ r.0, r.1)) x key.2 in
        let test = (value_behind (is_behind before key.0.0) (read key.0.1) (length bytes) value.0 value.1).0 in
        let one = fair_text.reads bytes key.0 fits key.1 in
        let two = (fair key.0.0).reads key.0.1 x one.left (sym (key_stands read n before bytes key.0.0 key.0.1 key.1 test) ∙ e) in
        record {
          front = one.front ++ two.front;
          parts = moved bytes one.front key.0.1 two.front x.1 one.parts two.parts;
          left = two.left;
          again = λ more.
              ap (members_at read before (suc n)) (append_assoc one.front two.front more)
              ∙ key_stands read n before (one.front ++ (two.front ++ more)) key.0.0 (two.front ++ more) (one.again (two.front ++ more)) test ∙ two.again more;
        }

    tested : (bytes : List ℕ) (left : ℕ) (key rest : List ℕ) → IsBytes bytes → members_at read before (suc n) bytes ≡ Err left → 0 < left → text_at bytes ≡ Ok (key, rest) → (t : Bool) → is_behind before key ≡ t → Blame IsUnit (λ (b : List ℕ). members_at read before (suc n) b) bytes left
    tested bytes left key rest fits e some name true test =
        let one = fair_text.reads bytes (key, rest) fits name in
        let b = (fair key).blames rest left one.left (sym (key_stands read n before bytes key rest name test) ∙ e) some in
        record {
          before = one.front ++ b.before;
          unit = b.unit;
          after = b.after;
          parts = moved bytes one.front rest b.before (b.unit ++ b.after) one.parts b.parts;
          left_is = b.left_is;
          whole = b.whole;
          stops = λ more y h.
              b.stops more y
              (sym (key_stands read n before (one.front ++ (b.before ++ (b.unit ++ more))) key (b.before ++ (b.unit ++ more)) (one.again (b.before ++ (b.unit ++ more))) test)
              ∙ ap (members_at read before (suc n)) (sym (append_assoc one.front b.before (b.unit ++ more))) ∙ h);
        }
    tested bytes left key rest fits e some name false test =
        let t = text_takes bytes (key, rest) fits name in
        record {
          before = [];
          unit = bytes_spelling key;
          after = rest;
          parts = t.0.parts;
          left_is = sym (err_is {A = List Member} (length bytes) left (sym (key_fails read n before bytes key rest name test) ∙ e)) ∙ ap (λ (l : List ℕ). length l) t.0.parts;
          whole = inr (key, t.1, refl);
          stops = λ more y h.
              err_or_ok (members_at read before (suc n) (bytes_spelling key ++ more)) (length (bytes_spelling key ++ more)) y
              (key_fails read n before (bytes_spelling key ++ more) key more (text_again key more t.1) test) h;
        }

    named : (bytes : List ℕ) (y : List Member × List ℕ) → members_at read before (suc n) bytes ≡ Ok y → ((x : List ℕ × List ℕ) → text_at bytes ≡ Ok x → ⊥) → ⊥
    named bytes y h none =
        let key = bind_ok (text_at bytes) (λ k. (cond (is_behind before k.0) (read k.1) (Err (length bytes))) >>= λ d. members_at read (Some k.0) n d.1 >>= λ r. Ok ((k.0, d.0) ∷ r.0, r.1)) y h in
        none key.0 key.1

    blamed : (bytes : List ℕ) (left : ℕ) → IsBytes bytes → members_at read before (suc n) bytes ≡ Err left → 0 < left → (s : Reading (List ℕ)) → text_at bytes ≡ s → Blame IsUnit (λ (b : List ℕ). members_at read before (suc n) b) bytes left
    blamed bytes left fits e some (Ok x) name = tested bytes left x.0 x.1 fits e some name (is_behind before x.0) refl
    blamed bytes left fits e some (Err l) name =
        let same : l ≡ left = err_is {A = List Member} l left (sym (no_key read n before bytes l name) ∙ e) in
        let b = fair_text.blames bytes left fits (name ∙ ap (λ (k : ℕ). Err k) same) some in
        record {
          before = b.before;
          unit = b.unit;
          after = b.after;
          parts = b.parts;
          left_is = b.left_is;
          whole = b.whole;
          stops = λ more y h. named (b.before ++ (b.unit ++ more)) y h (λ x name. b.stops more x name);
        }

pub fair_members : (read : DatumReader) → Fair IsUnit read → (n : ℕ) (before : Option (List ℕ)) → Fair IsUnit (λ (bytes : List ℕ). members_at read before n bytes)
fair_members read fair zero before = fair_ok []
fair_members read fair (suc n) before =
    fair_member read n before
    (λ key. fair_bind read (λ value. members_at read (Some key) n value.1 >>= λ rest. Ok ((key, value.0) ∷ rest.0, rest.1)) fair
    (λ value. fair_bind (λ (bytes : List ℕ). members_at read (Some key) n bytes) (λ rest. Ok ((key, value) ∷ rest.0, rest.1)) (fair_members read fair n (Some key)) (λ rest. fair_ok ((key, value) ∷ rest))))

fair_list : (read : DatumReader) → Fair IsUnit read → Fair IsUnit (λ (bytes : List ℕ). list_at read bytes)
unfolding list_at
fair_list read fair = fair_bind (number_at w32) (λ n. items_at read n.0 n.1) fair_u32 (λ n. fair_items read fair n)

fair_map : (read : DatumReader) → Fair IsUnit read → Fair IsUnit (λ (bytes : List ℕ). map_at read bytes)
unfolding map_at
fair_map read fair = fair_bind (number_at w32) (λ n. members_at read None n.0 n.1) fair_u32 (λ n. fair_members read fair n None)

-- ---- values

leaf_branch : (tag : ℕ) → IsBranch IsUnit (λ (rest : List ℕ). leaf_at tag rest)
unfolding leaf_at
leaf_branch zero = inl (fair_ok null)
leaf_branch (suc zero) = inl (fair_ok (boolean false))
leaf_branch (suc (suc zero)) = inl (fair_ok (boolean true))
leaf_branch (suc (suc (suc zero))) = inl (fair_bind (number_at w64) (λ n. Ok (int (cast_signed w64 n.0), n.1)) fair_u64 (λ n. fair_ok (int (cast_signed w64 n))))
leaf_branch (suc (suc (suc (suc zero)))) = inl (fair_bind text_at (λ t. Ok (text t.0, t.1)) fair_text (λ t. fair_ok (text t)))
leaf_branch (suc (suc (suc (suc (suc tag))))) = inr (λ rest. leaf_other (suc (suc (suc (suc (suc tag))))) rest (omega arith))

abbrev value_branch : ℕ → ℕ → List ℕ → Reading Datum
value_branch room tag rest =
    cond (eqb tag 5) (list_at (λ bytes. value_at room bytes) rest >>= λ x. Ok (list (items_of x.0), x.1))
    (cond (eqb tag 6) (map_at (λ bytes. value_at room bytes) rest >>= λ x. Ok (fields (members_of x.0), x.1)) (leaf_at tag rest))

pub fair_value : (room : ℕ) → Fair IsUnit (λ (bytes : List ℕ). value_at room bytes)
unfolding value_at
fair_value zero = fair_tagged IsUnit (λ byte. inl refl) (λ (bytes : List ℕ). value_at 0 bytes) (λ (tag : ℕ) (rest : List ℕ). leaf_at tag rest) refl (λ tag rest. refl) leaf_branch
fair_value (suc room) =
    let read : DatumReader = λ bytes. value_at room bytes in
    fair_tagged IsUnit (λ byte. inl refl) (λ (bytes : List ℕ). value_at (suc room) bytes) (value_branch room) refl (λ tag rest. refl)
    (λ tag. chosen_branch (eqb tag 5) (λ rest. list_at read rest >>= λ x. Ok (list (items_of x.0), x.1))
    (λ rest. cond (eqb tag 6) (map_at read rest >>= λ x. Ok (fields (members_of x.0), x.1)) (leaf_at tag rest))
    (inl (fair_bind (λ bytes. list_at read bytes) (λ x. Ok (list (items_of x.0), x.1)) (fair_list read (fair_value room)) (λ x. fair_ok (list (items_of x)))))
    (chosen_branch (eqb tag 6) (λ rest. map_at read rest >>= λ x. Ok (fields (members_of x.0), x.1)) (λ rest. leaf_at tag rest)
    (inl (fair_bind (λ bytes. map_at read bytes) (λ x. Ok (fields (members_of x.0), x.1)) (fair_map read (fair_value room)) (λ x. fair_ok (fields (members_of x)))))
    (leaf_branch tag)))

fair_fields : (room : ℕ) → Fair IsUnit (λ (bytes : List ℕ). fields_at room bytes)
unfolding fields_at
fair_fields room =
    fair_tagged IsUnit (λ byte. inl refl) (λ (bytes : List ℕ). fields_at room bytes) (λ (tag : ℕ) (rest : List ℕ). cond (eqb tag 6) (map_at (value_at room) rest) (Err (suc (length rest)))) refl (λ tag rest. refl)
    (λ tag. chosen_branch (eqb tag 6) (λ rest. map_at (value_at room) rest) (λ rest. Err (suc (length rest))) (inl (fair_map (value_at room) (fair_value room))) (inr (λ rest. refl)))

-- ---- entries

fair_severity : Fair IsUnit (λ (bytes : List ℕ). severity_at bytes)
unfolding severity_at
fair_severity =
    fair_tagged IsUnit (λ byte. inl refl) (λ (bytes : List ℕ). severity_at bytes) (λ (n : ℕ) (rest : List ℕ). cond (leb n 24) (Ok (n, rest)) (Err (suc (length rest)))) refl (λ n rest. refl)
    (λ n. chosen_branch (leb n 24) (λ rest. Ok (n, rest)) (λ rest. Err (suc (length rest))) (inl (fair_ok n)) (inr (λ rest. refl)))

time_branch : (flag : ℕ) → IsBranch IsUnit (λ (rest : List ℕ). time_at (flag ∷ rest))
unfolding time_at
time_branch zero = inl (fair_ok None)
time_branch (suc zero) = inl (fair_bind (number_at w64) (λ n. Ok (Some n.0, n.1)) fair_u64 (λ n. fair_ok (Some n)))
time_branch (suc (suc flag)) = inr (λ rest. time_other (suc (suc flag)) rest (omega arith))

fair_time : Fair IsUnit (λ (bytes : List ℕ). time_at bytes)
unfolding time_at
fair_time = fair_tagged IsUnit (λ byte. inl refl) (λ (bytes : List ℕ). time_at bytes) (λ (flag : ℕ) (rest : List ℕ). time_at (flag ∷ rest)) refl (λ flag rest. refl) time_branch

abbrev made : Datum → List Member → List Member → ℕ → List ℕ → Option ℕ → LogRecord
made body attributes resource severity name time =
    record { body = body; attributes = members_of attributes; resource = members_of resource; timestamp = time; severity = severity; severity_text = name }

pub fair_entry : (levels inside : ℕ) → Fair IsUnit (λ (bytes : List ℕ). entry_within levels inside bytes)
unfolding entry_within
fair_entry levels inside =
    fair_bind (λ bytes. value_at levels bytes) _ (fair_value levels)
    (λ body. fair_bind (λ bytes. fields_at inside bytes) _ (fair_fields inside)
    (λ attributes. fair_bind (λ bytes. fields_at inside bytes) _ (fair_fields inside)
    (λ resource. fair_bind (λ bytes. severity_at bytes) _ fair_severity
    (λ severity. fair_bind text_at _ fair_text
    (λ name. fair_bind (λ bytes. time_at bytes) (λ time. Ok (made body attributes resource severity name time.0, time.1)) fair_time
    (λ time. fair_ok (made body attributes resource severity name time)))))))

pub fair_entry_at : Fair IsUnit entry_at
fair_entry_at = fair_entry levels (levels - 1)
