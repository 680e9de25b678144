-- A list that is read from its front on, and readings that fail.
use Rattle.std.proofs.Common.{◌≡◌, ℕ, zero, suc, ◌+◌, ◌-◌, List, [], ◌∷◌, ◌++◌, Option, Some, true, false, Ok, Err, Result, refl, sym, ap, ◌∙◌, append_assoc, length, arith}
use Rattle.std.proofs.lemmas.List.{append-nil, length_push}
use Rattle.std.proofs.lemmas.Option.{slice_get-get_or}
use Rattle.std.proofs.lemmas.List.{get_or_push}
use Rattle.std.proofs.lemmas.List.Elements.{All-head, All-tail}
use Rattle.std.specs.List.{All}
use Rattle.std.specs.Map.{keys_of}
use Rattle.std.specs.BTreeMap.{insert_entry}
use Rattle.std.specs.Ordering.{match_ordering, nat_cmp}
use Rattle.std.specs.Cmp.Lexicographic.{slice_cmp}
use Rattle.std.specs.declared.cmp.Ordering.{Ordering}
use Rattle.std.specs.declared.cmp.Ordering.TheVariants.{Greater}
use Rattle.std.specs.Prelude.{option_map}
use Rattle.entry_model.specs.Datum.{Datum, datum}
use Rattle.entry_model.specs.Seen.{seen}
use Rattle.entry_model.specs.declared.value.Value.{Value}
use Rattle.state_codec.specs.declared.cursor.Fault.{Fault}
use Rattle.state_codec.specs.declared.cursor.Fault.TheVariants.{Malformed, Memory}
use Rattle.state_codec.specs.Gives.{FailsAs}
use Rattle.state_codec.specs.Reading.{Reading, DatumReader, ◌>>=◌, items_at, members_at, text_at, is_behind, last_key}

-- what is read, behind what was read before
abbrev pub with_front : {X : Type 0} → List X → Reading (List X) → Reading (List X)
with_front front reading = reading >>= λ x. Ok (front ++ x.0, x.1)

-- what fails goes on to fail
pub fails_through : {A B : Type 0} (fault : Fault) (r : Result A ℕ) (f : A → Result B ℕ) → FailsAs fault r → FailsAs fault (r >>= f)
fails_through (Malformed left) r f e = rw e refl
fails_through Memory r f e = tt

pub fails_at : {A : Type 0} (fault : Fault) (r s : Result A ℕ) → r ≡ s → FailsAs fault r → FailsAs fault s
fails_at (Malformed left) r s e h = sym e ∙ h
fails_at Memory r s e h = tt

joined : {X : Type 0} (front : List X) (x : X) (r : Reading (List X)) → with_front front (r >>= λ rest. Ok (x ∷ rest.0, rest.1)) ≡ with_front (front ++ x ∷ []) r
joined {X = X} front x (Ok rest) = ap (λ (xs : List X). Ok (xs, rest.1)) (sym (append_assoc front (x ∷ []) rest.0))
joined front x (Err left) = refl

pub items_step : (read : DatumReader) (front : List Datum) (n : ℕ) (bytes after : List ℕ) (d : Datum) → read bytes ≡ Ok (d, after)
    → with_front front (items_at read (suc n) bytes) ≡ with_front (front ++ d ∷ []) (items_at read n after)
items_step read front n bytes after d e = rw e (joined front d (items_at read n after))

pub items_stop : (read : DatumReader) (front : List Datum) (bytes : List ℕ) → with_front front (items_at read zero bytes) ≡ Ok (front, bytes)
items_stop read front bytes = rw append-nil refl

pub items_fail : (read : DatumReader) (front : List Datum) (n : ℕ) (bytes : List ℕ) (fault : Fault) → FailsAs fault (read bytes) → FailsAs fault (with_front front (items_at read (suc n) bytes))
items_fail read front n bytes (Malformed left) e = rw e refl
items_fail read front n bytes Memory e = tt

pub members_step : (read : DatumReader) (front : List (List ℕ × Datum)) (before : Option (List ℕ)) (n : ℕ) (bytes behind after : List ℕ) (key : List ℕ) (d : Datum)
    → text_at bytes ≡ Ok (key, behind) → is_behind before key ≡ true → read behind ≡ Ok (d, after)
    → with_front front (members_at read before (suc n) bytes) ≡ with_front (front ++ (key, d) ∷ []) (members_at read (Some key) n after)
members_step read front before n bytes behind after key d text is e = rw (text, is, e) (joined front (key, d) (members_at read (Some key) n after))

pub members_stop : (read : DatumReader) (front : List (List ℕ × Datum)) (before : Option (List ℕ)) (bytes : List ℕ) → with_front front (members_at read before zero bytes) ≡ Ok (front, bytes)
members_stop read front before bytes = rw append-nil refl

pub members_no_key : (read : DatumReader) (front : List (List ℕ × Datum)) (before : Option (List ℕ)) (n : ℕ) (bytes : List ℕ) (fault : Fault) → FailsAs fault (text_at bytes)
    → FailsAs fault (with_front front (members_at read before (suc n) bytes))
members_no_key read front before n bytes (Malformed left) e = rw e refl
members_no_key read front before n bytes Memory e = tt

pub members_not_behind : (read : DatumReader) (front : List (List ℕ × Datum)) (before : Option (List ℕ)) (n : ℕ) (bytes behind key : List ℕ)
    → text_at bytes ≡ Ok (key, behind) → is_behind before key ≡ false → with_front front (members_at read before (suc n) bytes) ≡ Err (length bytes)
members_not_behind read front before n bytes behind key text is = rw (text, is) refl

pub members_no_value : (read : DatumReader) (front : List (List ℕ × Datum)) (before : Option (List ℕ)) (n : ℕ) (bytes behind key : List ℕ) (fault : Fault)
    → text_at bytes ≡ Ok (key, behind) → is_behind before key ≡ true → FailsAs fault (read behind) → FailsAs fault (with_front front (members_at read before (suc n) bytes))
members_no_value read front before n bytes behind key (Malformed left) text is e = rw (text, is, e) refl
members_no_value read front before n bytes behind key Memory text is e = tt

-- ---- keys

pub last_key_push : {X : Type 0} (front : List (List ℕ × X)) (key : List ℕ) (x : X) → last_key (front ++ (key, x) ∷ []) ≡ Some key
last_key_push {X = X} front key x =
    let P : Type 0 = List ℕ × X in
    let last : P = (key, x) in
    let size : length (front ++ last ∷ []) ≡ length front + 1 = length_push front last in
    let at : length (front ++ last ∷ []) - 1 ≡ length front = omega (arith, size) in
    rw at
    (ap (option_map (λ (m : P). m.0))
    (slice_get-get_or (front ++ last ∷ []) (length front) last (omega (arith, size)) ∙ ap Some (get_or_push front last last (length front) refl)))

-- a key above all others goes to the end
pub inserted_last : (es : List (List ℕ × Value)) (key : List ℕ) (value : Value) → All (λ (k : List ℕ). slice_cmp nat_cmp key k ≡ Greater) (keys_of es)
    → insert_entry (slice_cmp nat_cmp) es key value ≡ es ++ (key, value) ∷ []
inserted_last [] key value above = refl
inserted_last (e ∷ es) key value above =
    let P : List ℕ → Type 0 = λ k. slice_cmp nat_cmp key k ≡ Greater in
    ap (λ (o : Ordering). match_ordering o ((key, value) ∷ e ∷ es) ((e.0, value) ∷ es) (e ∷ insert_entry (slice_cmp nat_cmp) es key value)) (All-head P e.0 (keys_of es) above)
    ∙ ap (λ (l : List (List ℕ × Value)). e ∷ l) (inserted_last es key value (All-tail P e.0 (keys_of es) above))

pub seen_push : (es : List (List ℕ × Value)) (key : List ℕ) (value : Value) → seen (es ++ (key, value) ∷ []) ≡ seen es ++ (key, datum value) ∷ []
seen_push [] key value = refl
seen_push (e ∷ es) key value = ap (λ (l : List (List ℕ × Datum)). (e.0, datum e.1) ∷ l) (seen_push es key value)
