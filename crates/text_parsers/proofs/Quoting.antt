-- Quoted parts, byte by byte.
use Rattle.std.proofs.Common.{◌≡◌, ◌≢◌, ℕ, zero, suc, ◌+◌, ◌<◌, ◌≤◌, List, [], ◌∙◌, ap, sym, refl, subst, Bool, true, false, ◌==◌, cond, length, take, get_or, Option, None, Some, IfSome, is_none, ◌⊎◌, inl, inr, ⊎_elim, arith}
use Rattle.memchr.specs.Find.{is_byte2, IsFirstByte}
use Rattle.std.proofs.lemmas.Bool.{cases_lt, eqb-false, false_from_ne_true}
use Rattle.std.proofs.lemmas.Bool.Decides.{nat_tests}
use Rattle.std.proofs.lemmas.List.{take_all}
use Rattle.std.proofs.lemmas.List.Sums.{fold_more}
use Rattle.std.proofs.lemmas.Str.{IsCharBoundary-after_ascii}
use Rattle.std.specs.Str.{IsUtf8, IsCharBoundary}
use Rattle.text_parsers.specs.Quotes.{is_quote, open_behind, open_quote, IsUnclosed}

pub open_quote-more : (text : List ℕ) (i : ℕ) → i < length text → open_quote (take (i + 1) text) ≡ open_behind (open_quote (take i text)) (get_or text i 0)
unfolding open_quote
open_quote-more text i h = fold_more open_behind None text i 0 h

pub open_quote-nil : open_quote [] ≡ None
unfolding open_quote
open_quote-nil = refl

pub quote_goes_on : (text bytes : List ℕ) (i : ℕ) (quote next : Option ℕ) → bytes ≡ text → i < length bytes → open_quote (take i text) ≡ quote → next ≡ open_behind quote (get_or bytes i 0)
    → open_quote (take (i + 1) text) ≡ next
quote_goes_on text bytes i quote next same h e n =
    let lengths = ap length same in
    open_quote-more text i (omega arith) ∙ ap (λ (q : Option ℕ). open_behind q (get_or text i 0)) e ∙ ap (λ (l : List ℕ). open_behind quote (get_or l i 0)) (sym same) ∙ sym n

-- the quote at this place is open since, up to a place
pub record Since (text : List ℕ) (i place quote : ℕ) : Type 0 where
  pub before : place < i
  pub byte : get_or text place 0 ≡ quote
  pub is : is_quote quote ≡ true
  pub outside : open_quote (take place text) ≡ None
  pub stays : (k : ℕ) → place < k → k < i → get_or text k 0 ≢ quote

-- what is open behind so many bytes, and since where
pub record Opened (text : List ℕ) (i : ℕ) (quote : Option ℕ) (place : ℕ) : Type 0 where
  pub is : open_quote (take i text) ≡ quote
  pub since : IfSome quote (λ q. Since text i place q)

pub nothing_opened : (text : List ℕ) (place : ℕ) → Opened text 0 None place
nothing_opened text place = record { is = open_quote-nil; since = tt }

begun : (text : List ℕ) (i new byte : ℕ) → byte ≡ get_or text i 0 → new ≡ i → open_quote (take i text) ≡ None → (t : Bool) → is_quote byte ≡ t
    → IfSome (cond t (Some byte) None) (λ q. Since text (i + 1) new q)
begun text i new byte b e o true t = record {
  before = omega arith;
  byte = ap (λ n. get_or text n 0) e ∙ sym b;
  is = t;
  outside = subst (λ n. open_quote (take n text) ≡ None) (sym e) o;
  stays = λ k h l. absurd (omega arith);
}
begun text i new byte b e o false t = tt

gone_on : (text : List ℕ) (i place new byte quote : ℕ) → byte ≡ get_or text i 0 → new ≡ place → Since text i place quote → (t : Bool) → (byte == quote) ≡ t
    → IfSome (cond t None (Some quote)) (λ q. Since text (i + 1) new q)
gone_on text i place new byte quote b e s true t = tt
gone_on text i place new byte quote b e s false t =
    let before = s.before in
    record {
      before = omega arith;
      byte = ap (λ n. get_or text n 0) e ∙ s.byte;
      is = s.is;
      outside = subst (λ n. open_quote (take n text) ≡ None) (sym e) s.outside;
      stays = λ k h l same. ⊎_elim (λ (m : k < i). s.stays k (omega arith) m same) (λ (m : k ≡ i). eqb-false byte quote t (b ∙ ap (λ n. get_or text n 0) (sym m) ∙ same)) (last k i l);
    }
  where
    last : (k n : ℕ) → k < n + 1 → (k < n) ⊎ (k ≡ n)
    last k n l = ⊎_elim (λ (m : k < n). inl m) (λ (m : n ≤ k). inr (omega arith)) (cases_lt k n)

pub opened_more : (text : List ℕ) (i place new byte : ℕ) (quote : Option ℕ) → i < length text → byte ≡ get_or text i 0 → (is_none quote ≡ true → new ≡ i) → (is_none quote ≡ false → new ≡ place)
    → Opened text i quote place → Opened text (i + 1) (open_behind quote byte) new
opened_more text i place new byte None h b f g o = record {
  is = open_quote-more text i h ∙ ap (λ (q : Option ℕ). open_behind q (get_or text i 0)) o.is ∙ ap (open_behind None) (sym b);
  since = begun text i new byte b (f refl) o.is (is_quote byte) refl;
}
opened_more text i place new byte (Some quote) h b f g o = record {
  is = open_quote-more text i h ∙ ap (λ (q : Option ℕ). open_behind q (get_or text i 0)) o.is ∙ ap (open_behind (Some quote)) (sym b);
  since = gone_on text i place new byte quote b (g refl) o.since (byte == quote) refl;
}

pub unclosed : (text : List ℕ) (i place quote : ℕ) → length text ≡ i → Opened text i (Some quote) place → IsUnclosed text place
unclosed text i place quote e o =
    let s = o.since in
    let before = s.before in
    record {
      inside = omega arith;
      quote = ap is_quote s.byte ∙ s.is;
      opens = s.outside;
      stays_open = λ k h l same. s.stays k h (omega arith) (same ∙ s.byte);
    }

pub closed : (text : List ℕ) (i : ℕ) → length text ≤ i → open_quote (take i text) ≡ None → open_quote text ≡ None
closed text i h o = ap open_quote (sym (take_all i text h)) ∙ o

quote_is_low : (byte : ℕ) → is_quote byte ≡ true → byte < 128
quote_is_low byte h = grind (arith, nat_tests)

-- behind a quote at the front a text may be cut
pub quoted_start : (text bytes : List ℕ) → bytes ≡ text → IsUtf8 text → 1 < length bytes → is_quote (get_or bytes 0 0) ≡ true → IsCharBoundary text 1
quoted_start text bytes e u h q =
    let inside : 0 < length text = let lengths = ap length e in omega arith in
    let quote : is_quote (get_or text 0 0) ≡ true = ap (λ l. is_quote (get_or l 0 0)) (sym e) ∙ q in
    IsCharBoundary-after_ascii text 0 u inside (quote_is_low (get_or text 0 0) quote)

-- ---- bytes without quotes

-- no quote is open where none stands before
pub quoteless : (text : List ℕ) (n : ℕ) → n ≤ length text → ((k : ℕ) → k < n → is_quote (get_or text k 0) ≡ false) → open_quote (take n text) ≡ None
quoteless text zero h none = open_quote-nil
quoteless text (suc n) h none =
    let plus : n + 1 ≡ suc n = omega arith in
    let before = quoteless text n (omega arith) (λ k l. none k (omega arith)) in
    subst (λ (m : ℕ). open_quote (take m text) ≡ None) plus
    (open_quote-more text n (omega arith)
    ∙ ap (λ (q : Option ℕ). open_behind q (get_or text n 0)) before
    ∙ ap (λ (r : Bool). cond r (Some (get_or text n 0)) None) (none n (omega arith)))

-- what a search for quotes says
pub no_quote : (text bytes : List ℕ) → bytes ≡ text → IsFirstByte (is_byte2 34 39) bytes None → open_quote text ≡ None
no_quote text bytes e none =
    let size = ap length e in
    closed text (length text) (omega arith)
    (quoteless text (length text) (omega arith) (λ k l.
    ap (λ (t : List ℕ). is_quote (get_or t k 0)) (sym e) ∙ false_from_ne_true (is_quote (get_or bytes k 0)) (none k (omega arith) (omega arith))))

pub quote_within : (text bytes : List ℕ) (n : ℕ) → bytes ≡ text → IsFirstByte (is_byte2 34 39) bytes (Some n) → n ≤ length text
quote_within text bytes n e found = let size = ap length e in let high = found.0.high in omega arith

pub none_before : (text bytes : List ℕ) (n : ℕ) → bytes ≡ text → IsFirstByte (is_byte2 34 39) bytes (Some n) → open_quote (take n text) ≡ None
none_before text bytes n e found =
    quoteless text n (quote_within text bytes n e found) (λ k l.
    ap (λ (t : List ℕ). is_quote (get_or t k 0)) (sym e) ∙ false_from_ne_true (is_quote (get_or bytes k 0)) (found.0.before k (omega arith) l))

pub quoteless_of : (text bytes : List ℕ) (n : ℕ) → bytes ≡ text → n ≤ length bytes → ((k : ℕ) → k < n → is_quote (get_or bytes k 0) ≡ false) → open_quote (take n text) ≡ None
quoteless_of text bytes n e within none =
    let size = ap length e in
    quoteless text n (omega arith) (λ k l. ap (λ (t : List ℕ). is_quote (get_or t k 0)) (sym e) ∙ none k l)
