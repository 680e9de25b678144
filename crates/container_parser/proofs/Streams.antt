-- The stream that a text names.
use Rattle.std.proofs.Common.{◌≡◌, ◌≢◌, ℕ, suc, ◌+◌, ◌<◌, ◌≤◌, max, List, [], ◌∷◌, ◌++◌, length, take, drop, get_or, ap, ap₂, sym, refl, subst, ◌∙◌, false, not, ◌==◌, ◌⊎◌, inl, inr, append_assoc, length-append, arith}
use Rattle.std.proofs.lemmas.Bool.{cases_lt}
use Rattle.std.proofs.lemmas.List.{get_or_default, take_all, get_or-take, get_or_at, get_or_append_left, length-take-le, same_lists, take-append-drop}
use Rattle.std.proofs.Math.Seq.{take-append-add}
use Rattle.std.proofs.lemmas.Str.{IsCharBoundary-after_ascii}
use Rattle.std.specs.List.{after_first}
use Rattle.std.specs.Str.{IsUtf8, IsCharBoundary}
use Rattle.std.specs.Prelude.{codes}
use Rattle.json_text.specs.Leftmost.{Begins, IsLeftmostFault}
use Rattle.container_parser.specs.Inner.Common.{IsCommon}
use Rattle.container_parser.specs.CriLines.{Content, Said, IsContent, IsSaid, IsStream}
use Rattle.container_parser.specs.Words.{is_space, Lacks}
use Rattle.container_parser.proofs.Contents.{one_content}
use Rattle.container_parser.proofs.Splits.{all_lack, first_split}

abbrev out_word : List ℕ
out_word = codes "stdout "

abbrev err_word : List ℕ
err_word = codes "stderr "

abbrev said : List ℕ → Content → Said
said stream content = record { stream = stream; content = content }

-- ---- a word that the text goes along with

common_front : (word bytes : List ℕ) (n : ℕ) → IsCommon word bytes n → take n bytes ≡ take n word
common_front word bytes n c =
    let w = c.in_word in let b = c.in_bytes in
    let left : length (take n bytes) ≡ n = length-take-le n bytes b in
    let right : length (take n word) ≡ n = length-take-le n word w in
    same_lists (take n bytes) (take n word) (left ∙ sym right) (λ k d h.
    let low : k < n = omega arith in
    let inside : k < length bytes = omega arith in
    let within : k < length word = omega arith in
    get_or-take n bytes k d low ∙ get_or_default bytes k d 0 inside ∙ c.same k low ∙ get_or_default word k 0 d within ∙ sym (get_or-take n word k d low))

whole_front : (word bytes : List ℕ) → IsCommon word bytes (length word) → bytes ≡ word ++ drop (length word) bytes
whole_front word bytes c =
    let all : take (length word) word ≡ word = take_all (length word) word (omega arith) in
    sym (take-append-drop (length word) bytes) ∙ ap (λ (t : List ℕ). t ++ drop (length word) bytes) (common_front word bytes (length word) c ∙ all)

pub out_found : (bytes : List ℕ) → IsCommon out_word bytes 7 → bytes ≡ codes "stdout" ++ 32 ∷ after_first is_space bytes
out_found bytes c =
    let is : bytes ≡ out_word ++ drop 7 bytes = whole_front out_word bytes c in
    let behind : after_first is_space bytes ≡ drop 7 bytes = ap (after_first is_space) is in
    is ∙ ap (λ (t : List ℕ). out_word ++ t) (sym behind)

pub err_found : (bytes : List ℕ) → IsCommon err_word bytes 7 → bytes ≡ codes "stderr" ++ 32 ∷ after_first is_space bytes
err_found bytes c =
    let is : bytes ≡ err_word ++ drop 7 bytes = whole_front err_word bytes c in
    let behind : after_first is_space bytes ≡ drop 7 bytes = ap (after_first is_space) is in
    is ∙ ap (λ (t : List ℕ). err_word ++ t) (sym behind)

-- ---- a word that it leaves

-- where text and word part, no text that has these bytes begins with the word
stuck : (word bytes front more rest : List ℕ) (n : ℕ) → IsCommon word bytes n → n < length word → n < length bytes → n < length front
    → get_or front n 0 ≡ get_or bytes n 0 → front ++ more ≡ word ++ rest → ⊥
stuck word bytes front more rest n c low inside taken same e =
    c.differs low inside
    (sym same ∙ sym (get_or_append_left front more 0 n taken) ∙ ap (λ (t : List ℕ). get_or t n 0) e ∙ get_or_append_left word rest 0 n low)

no_front : (word bytes more rest : List ℕ) (n m : ℕ) → IsCommon word bytes n → n < length word → n ≤ m → m < length bytes → take (m + 1) bytes ++ more ≡ word ++ rest → ⊥
no_front word bytes more rest n m c low le inside e =
    let len : length (take (m + 1) bytes) ≡ m + 1 = length-take-le (m + 1) bytes (omega arith) in
    let here : n < m + 1 = omega arith in
    stuck word bytes (take (m + 1) bytes) more rest n c low (omega arith) (omega arith) (get_or-take (m + 1) bytes n 0 here) e

no_word : (word bytes rest : List ℕ) (n : ℕ) → IsCommon word bytes n → n < length word → bytes ≡ word ++ rest → ⊥
no_word word bytes rest n c low e =
    let len : length (word ++ rest) ≡ length word + length rest = length-append word rest in
    let size : length bytes ≡ length (word ++ rest) = ap length e in
    c.differs low (omega arith) (ap (λ (t : List ℕ). get_or t n 0) e ∙ get_or_append_left word rest 0 n low)

-- a text that says something begins with one of the two words
abbrev HasWord : List ℕ → Content → List ℕ → Type 0
HasWord word content bytes = (rest : List ℕ) × (bytes ≡ word ++ rest) × IsContent rest content

has_word : (bytes : List ℕ) (s : Said) → IsSaid bytes s → HasWord out_word s.content bytes ⊎ HasWord err_word s.content bytes
has_word bytes s is = by is.stream
  where
    by : IsStream s.stream → HasWord out_word s.content bytes ⊎ HasWord err_word s.content bytes
    by (inl e) = inl (is.rest, is.is ∙ ap (λ (t : List ℕ). t ++ 32 ∷ is.rest) e, is.content)
    by (inr e) = inr (is.rest, is.is ∙ ap (λ (t : List ℕ). t ++ 32 ∷ is.rest) e, is.content)

-- what begins a word can go on with it, and with `F`
goes_on : (word bytes : List ℕ) (n : ℕ) → IsCommon word bytes n → take n bytes ++ (drop n word ++ 70 ∷ []) ≡ word ++ 70 ∷ []
goes_on word bytes n c =
    ap (λ (t : List ℕ). t ++ (drop n word ++ 70 ∷ [])) (common_front word bytes n c)
    ∙ sym (append_assoc (take n word) (drop n word) (70 ∷ []))
    ∙ ap (λ (t : List ℕ). t ++ 70 ∷ []) (take-append-drop n word)

abbrev line_end : Content
line_end = record { partial = false; text = [] }

out_begins : (bytes : List ℕ) (n : ℕ) → IsCommon out_word bytes n → Begins IsSaid (take n bytes)
out_begins bytes n c = record {
  more = drop n out_word ++ 70 ∷ [];
  value = said (codes "stdout") line_end;
  goes_on = record { stream = inl refl; rest = 70 ∷ []; is = goes_on out_word bytes n c; content = record { tag = refl; text = refl } };
}

err_begins : (bytes : List ℕ) (n : ℕ) → IsCommon err_word bytes n → Begins IsSaid (take n bytes)
err_begins bytes n c = record {
  more = drop n err_word ++ 70 ∷ [];
  value = said (codes "stderr") line_end;
  goes_on = record { stream = inr refl; rest = 70 ∷ []; is = goes_on err_word bytes n c; content = record { tag = refl; text = refl } };
}

-- a text that goes along with neither word to its end goes wrong where it leaves the second of them
module _ (bytes : List ℕ) (n m : ℕ) (out : IsCommon out_word bytes n) (err : IsCommon err_word bytes m) (low : n < 7) (less : m < 7) where
  neither : (s : Said) → IsSaid bytes s → ⊥
  neither s is = by (has_word bytes s is)
    where
      by : HasWord out_word s.content bytes ⊎ HasWord err_word s.content bytes → ⊥
      by (inl w) = no_word out_word bytes w.0 n out low w.1
      by (inr w) = no_word err_word bytes w.0 m err less w.1

  stops_at : (at : ℕ) → n ≤ at → m ≤ at → at < length bytes → Begins IsSaid (take (at + 1) bytes) → ⊥
  stops_at at above over inside begun = by (has_word (take (at + 1) bytes ++ begun.more) begun.value begun.goes_on)
    where
      by : HasWord out_word begun.value.content (take (at + 1) bytes ++ begun.more) ⊎ HasWord err_word begun.value.content (take (at + 1) bytes ++ begun.more) → ⊥
      by (inl w) = no_front out_word bytes begun.more w.0 n at out low above inside w.1
      by (inr w) = no_front err_word bytes begun.more w.0 m at err less over inside w.1

  faulty : (at : ℕ) → n ≤ at → m ≤ at → at ≤ length bytes → Begins IsSaid (take at bytes) → IsLeftmostFault IsSaid bytes at
  faulty at above over within begins = record { within = within; begins = begins; stops = stops_at at above over; none = neither }

  pub stream_fault : IsLeftmostFault IsSaid bytes (max n m)
  stream_fault = let w = out.in_bytes in let v = err.in_bytes in by (cases_lt n m)
    where
      by : (n < m) ⊎ (m ≤ n) → IsLeftmostFault IsSaid bytes (max n m)
      by (inl le) = let is : m ≡ max n m = omega arith in subst (λ (k : ℕ). IsLeftmostFault IsSaid bytes k) is (faulty m (omega arith) (omega arith) err.in_bytes (err_begins bytes m err))
      by (inr le) = let is : n ≡ max n m = omega arith in subst (λ (k : ℕ). IsLeftmostFault IsSaid bytes k) is (faulty n (omega arith) le out.in_bytes (out_begins bytes n out))

-- the same, of a text whose bytes these are
pub out_is : (text bytes : List ℕ) (n : ℕ) → bytes ≡ text → IsCommon out_word bytes n → n ≡ 7 → text ≡ codes "stdout" ++ 32 ∷ after_first is_space text
out_is text bytes n e c whole =
    out_found text (subst (λ (t : List ℕ). IsCommon out_word t 7) e (subst (λ (k : ℕ). IsCommon out_word bytes k) whole c))

pub err_is : (text bytes : List ℕ) (n : ℕ) → bytes ≡ text → IsCommon err_word bytes n → n ≡ 7 → text ≡ codes "stderr" ++ 32 ∷ after_first is_space text
err_is text bytes n e c whole =
    err_found text (subst (λ (t : List ℕ). IsCommon err_word t 7) e (subst (λ (k : ℕ). IsCommon err_word bytes k) whole c))

-- the sixth byte is the space
cut : (text stream rest : List ℕ) → IsUtf8 text → length stream ≡ 6 → text ≡ stream ++ 32 ∷ rest → IsCharBoundary text 7
cut text stream rest utf8 six e =
    let space : get_or text 6 0 ≡ 32 = ap (λ (t : List ℕ). get_or t 6 0) e ∙ get_or_at stream 32 rest 0 6 six in
    let size : length text ≡ 6 + suc (length rest) = ap length e ∙ length-append stream (32 ∷ rest) ∙ ap (λ (n : ℕ). n + suc (length rest)) six in
    IsCharBoundary-after_ascii text 6 utf8 (omega arith) (omega arith)

pub out_cut : (text bytes : List ℕ) (n : ℕ) → IsUtf8 text → bytes ≡ text → IsCommon out_word bytes n → n ≡ 7 → IsCharBoundary text 7
out_cut text bytes n utf8 e c whole = cut text (codes "stdout") (after_first is_space text) utf8 refl (out_is text bytes n e c whole)

pub err_cut : (text bytes : List ℕ) (n : ℕ) → IsUtf8 text → bytes ≡ text → IsCommon err_word bytes n → n ≡ 7 → IsCharBoundary text 7
err_cut text bytes n utf8 e c whole = cut text (codes "stderr") (after_first is_space text) utf8 refl (err_is text bytes n e c whole)

pub out_behind : (text bytes : List ℕ) (n : ℕ) → bytes ≡ text → IsCommon out_word bytes n → n ≡ 7 → drop 7 text ≡ after_first is_space text
out_behind text bytes n e c whole = ap (drop 7) (out_is text bytes n e c whole)

pub err_behind : (text bytes : List ℕ) (n : ℕ) → bytes ≡ text → IsCommon err_word bytes n → n ≡ 7 → drop 7 text ≡ after_first is_space text
err_behind text bytes n e c whole = ap (drop 7) (err_is text bytes n e c whole)

pub neither_is : (text bytes : List ℕ) (n m k : ℕ) → bytes ≡ text → IsCommon out_word bytes n → IsCommon err_word bytes m → n ≢ 7 → m ≢ 7 → k ≡ max n m
    → IsLeftmostFault IsSaid text k
neither_is text bytes n m k e out err part also is =
    let low : n < 7 = let w : n ≤ 7 = out.in_word in omega arith in
    let less : m < 7 = let w : m ≤ 7 = err.in_word in omega arith in
    subst (λ (i : ℕ). IsLeftmostFault IsSaid text i) (sym is)
    (subst (λ (t : List ℕ). IsLeftmostFault IsSaid t (max n m)) e (stream_fault bytes n m out err low less))

-- ---- what stands behind the stream

stream_lacks : (stream : List ℕ) → IsStream stream → Lacks 32 stream
stream_lacks stream (inl e) = subst (λ (t : List ℕ). Lacks 32 t) (sym e) (all_lack (λ (b : ℕ). not (b == 32)) 32 (codes "stdout") refl refl)
stream_lacks stream (inr e) = subst (λ (t : List ℕ). Lacks 32 t) (sym e) (all_lack (λ (b : ℕ). not (b == 32)) 32 (codes "stderr") refl refl)

said_behind : (stream rest : List ℕ) (s : Said) → IsStream stream → IsSaid (stream ++ 32 ∷ rest) s → (stream ≡ s.stream) × IsContent rest s.content
said_behind stream rest s is saying =
    let parts = first_split 32 stream rest s.stream saying.rest (stream_lacks stream is) (stream_lacks s.stream saying.stream) saying.is in
    (parts.0, subst (λ (t : List ℕ). IsContent t s.content) (sym parts.1) saying.content)

said_with : (stream rest : List ℕ) (content : Content) → IsStream stream → IsContent rest content → IsSaid (stream ++ 32 ∷ rest) (said stream content)
said_with stream rest content is c = record { stream = is; rest = rest; is = refl; content = c }

pub one_said : (bytes : List ℕ) (s t : Said) → IsSaid bytes s → IsSaid bytes t → s ≡ t
one_said bytes s t one two =
    let behind = said_behind s.stream one.rest t one.stream (subst (λ (l : List ℕ). IsSaid l t) one.is two) in
    ap₂ said behind.0 (one_content one.rest s.content t.content one.content behind.1)

module _ (stream rest : List ℕ) (is : IsStream stream) where
  size : (k : ℕ) → length (stream ++ 32 ∷ []) + k ≡ length stream + 1 + k
  size k = let len : length (stream ++ 32 ∷ []) ≡ length stream + 1 = length-append stream (32 ∷ []) in omega arith

  assoc : (more : List ℕ) → (stream ++ 32 ∷ []) ++ more ≡ stream ++ 32 ∷ more
  assoc more = append_assoc stream (32 ∷ []) more

  front : (k : ℕ) → take (length stream + 1 + k) (stream ++ 32 ∷ rest) ≡ stream ++ 32 ∷ take k rest
  front k =
      ap₂ (λ (n : ℕ) (l : List ℕ). take n l) (sym (size k)) (sym (assoc rest))
      ∙ take-append-add (stream ++ 32 ∷ []) rest k ∙ assoc (take k rest)

  joined : (k : ℕ) (more : List ℕ) → take (length stream + 1 + k) (stream ++ 32 ∷ rest) ++ more ≡ stream ++ 32 ∷ (take k rest ++ more)
  joined k more = ap (λ (l : List ℕ). l ++ more) (front k) ∙ append_assoc stream (32 ∷ take k rest) more

  begins_behind : (k : ℕ) → Begins IsContent (take k rest) → Begins IsSaid (take (length stream + 1 + k) (stream ++ 32 ∷ rest))
  begins_behind k b = record {
    more = b.more;
    value = said stream b.value;
    goes_on = subst (λ (l : List ℕ). IsSaid l (said stream b.value)) (sym (joined k b.more)) (said_with stream (take k rest ++ b.more) b.value is b.goes_on);
  }

  begun_behind : (k : ℕ) → Begins IsSaid (take (length stream + 1 + k) (stream ++ 32 ∷ rest)) → Begins IsContent (take k rest)
  begun_behind k b = record {
    more = b.more;
    value = b.value.content;
    goes_on = (said_behind stream (take k rest ++ b.more) b.value is (subst (λ (l : List ℕ). IsSaid l b.value) (joined k b.more) b.goes_on)).1;
  }

  pub fault_behind : (at : ℕ) → IsLeftmostFault IsContent rest at → IsLeftmostFault IsSaid (stream ++ 32 ∷ rest) (length stream + 1 + at)
  fault_behind at f = record {
    within = let w = f.within in let len : length (stream ++ 32 ∷ rest) ≡ length stream + suc (length rest) = length-append stream (32 ∷ rest) in omega arith;
    begins = begins_behind at f.begins;
    stops = λ h b.
        let len : length (stream ++ 32 ∷ rest) ≡ length stream + suc (length rest) = length-append stream (32 ∷ rest) in
        let place : length stream + 1 + at + 1 ≡ length stream + 1 + (at + 1) = omega arith in
        f.stops (omega arith) (begun_behind (at + 1) (subst (λ (n : ℕ). Begins IsSaid (take n (stream ++ 32 ∷ rest))) place b));
    none = λ s says. f.none s.content (said_behind stream rest s is says).1;
  }

pub fault_behind_is : (text stream rest : List ℕ) (at : ℕ) → IsStream stream → text ≡ stream ++ 32 ∷ after_first is_space text → rest ≡ after_first is_space text
    → IsLeftmostFault IsContent rest at → IsLeftmostFault IsSaid text (length stream + 1 + at)
fault_behind_is text stream rest at is e f fault =
    let whole : text ≡ stream ++ 32 ∷ rest = e ∙ ap (λ (t : List ℕ). stream ++ 32 ∷ t) (sym f) in
    subst (λ (t : List ℕ). IsLeftmostFault IsSaid t (length stream + 1 + at)) (sym whole) (fault_behind stream rest is at fault)
