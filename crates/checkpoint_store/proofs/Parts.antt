-- Numbers within limits, texts, bytes and fronts as kinds of values.
use Rattle.std.proofs.Common.{◌≡◌, ℕ, ◌^◌, ◌<◌, ◌≤◌, Bool, true, false, cond, leb, List, [], ◌++◌, length, Ok, Err, refl, sym, ap, subst, ◌∙◌, append_assoc, arith, inl, inr}
use Rattle.std.specs.Prelude.{◌&&◌}
use Rattle.std.specs.Int.{Width, w32, w64, to_be_bytes}
use Rattle.std.proofs.lemmas.Bool.{leb-true, le-leb}
use Rattle.state_codec.specs.Spelling.{bytes_spelling}
use Rattle.state_codec.specs.Rules.{IsShortText}
use Rattle.state_codec.specs.Reading.{Reading, number_at, bytes_at, text_at}
use Rattle.state_codec.proofs.Numbers.{IsBytes, Takes, bind_ok, ok_is, err_or_ok, test_ok, IsWide, wide32, wide64, number_takes, number_again, bytes_takes, bytes_again, text_takes, text_again}
use Rattle.state_codec.proofs.Fair.{Blame, err_is, fair_wider}
use Rattle.state_codec.proofs.TextEnds.{number_ends, IsByte}
use Rattle.state_codec.proofs.FairReaders.{bytes_end, fair_u32, fair_u64, fair_bytes, fair_text_byte}
use Rattle.checkpoint_store.specs.Limits.{front_limit}
use Rattle.checkpoint_store.specs.Reading.{number_within, front_at}
use Rattle.checkpoint_store.specs.DeadEnds.{IsPart}
use Rattle.checkpoint_store.proofs.Formats.{IsFormat}

-- ---- numbers within limits

pub both_true : (a b : Bool) → (a && b) ≡ true → (a ≡ true) × (b ≡ true)
both_true true b e = (refl, e)
both_true false b e = absurd cc

within_takes : (w : Width) (limit : ℕ) → IsWide w limit → (low high : ℕ) (bytes : List ℕ) (x : ℕ × List ℕ) → IsBytes bytes → number_within w low high bytes ≡ Ok x
    → Takes bytes (to_be_bytes w x.0) x.1 × (low ≤ x.0) × (x.0 ≤ high) × (x.0 < limit)
unfolding number_within
within_takes w limit wide low high bytes x fits e =
    let b = bind_ok (number_at w bytes) (λ n. cond (leb low n.0 && leb n.0 high) (Ok n) (Err (length bytes))) x e in
    let number = number_takes w limit wide bytes b.0.0 b.0.1 fits b.1 in
    let read = test_ok (leb low b.0.0 && leb b.0.0 high) (length bytes) b.0 x b.2 in
    let between = both_true (leb low b.0.0) (leb b.0.0 high) read.0 in
    subst (λ (p : ℕ × List ℕ). Takes bytes (to_be_bytes w p.0) p.1 × (low ≤ p.0) × (p.0 ≤ high) × (p.0 < limit)) read.1
    (number.0, leb-true low b.0.0 between.0, leb-true b.0.0 high between.1, number.1)

within_again : (w : Width) (limit : ℕ) → IsWide w limit → (low high n : ℕ) (rest : List ℕ) → low ≤ n → n ≤ high → n < limit → number_within w low high (to_be_bytes w n ++ rest) ≡ Ok (n, rest)
unfolding number_within
within_again w limit wide low high n rest above below small = rw (number_again w limit wide n rest small, le-leb low n above, le-leb n high below) refl

within_is : (w : Width) (low high : ℕ) (bytes rest : List ℕ) (n : ℕ) → number_at w bytes ≡ Ok (n, rest) → number_within w low high bytes ≡ cond (leb low n && leb n high) (Ok (n, rest)) (Err (length bytes))
unfolding number_within
within_is w low high bytes rest n number = rw number refl

within_ends : (w : Width) (low high : ℕ) (bytes : List ℕ) (l : ℕ) → number_at w bytes ≡ Err l → number_within w low high bytes ≡ Err l
unfolding number_within
within_ends w low high bytes l number = rw number refl

within_format : (w : Width) (limit : ℕ) → IsWide w limit → (low high : ℕ) → ((n : ℕ) → IsPart (to_be_bytes w n))
    → IsFormat (to_be_bytes w) (λ (n : ℕ). (low ≤ n) × ((n ≤ high) × (n < limit))) (λ (bytes : List ℕ). number_within w low high bytes)
within_format w limit wide low high part = record {
  takes = λ bytes x fits e. (let t = within_takes w limit wide low high bytes x fits e in (t.0, (t.1, (t.2, t.3))));
  again = λ n rest keeps. within_again w limit wide low high n rest keeps.0 keeps.1.0 keeps.1.1;
  blames = λ bytes left fits e some. by_number bytes left fits e some (number_at w bytes) refl;
}
  where
    by_test : (bytes : List ℕ) (left n : ℕ) (rest : List ℕ) → IsBytes bytes → number_within w low high bytes ≡ Err left → number_at w bytes ≡ Ok (n, rest) → (t : Bool) → (leb low n && leb n high) ≡ t
        → Blame IsPart (λ (b : List ℕ). number_within w low high b) bytes left
    by_test bytes left n rest fits e number true is =
        absurd (err_or_ok (number_within w low high bytes) left (n, rest) e (within_is w low high bytes rest n number ∙ rw is refl))
    by_test bytes left n rest fits e number false is =
        let t = number_takes w limit wide bytes n rest fits number in
        let refused : (b more : List ℕ) → number_at w b ≡ Ok (n, more) → number_within w low high b ≡ Err (length b) = λ b more read. within_is w low high b more n read ∙ rw is refl in
        record {
          before = [];
          unit = to_be_bytes w n;
          after = rest;
          parts = t.0.parts;
          left_is = err_is {A = ℕ} left (length bytes) (sym e ∙ refused bytes rest number) ∙ ap (λ (l : List ℕ). length l) t.0.parts;
          whole = part n;
          stops = λ more y h.
              err_or_ok (number_within w low high (to_be_bytes w n ++ more)) (length (to_be_bytes w n ++ more)) y
              (refused (to_be_bytes w n ++ more) more (number_again w limit wide n more t.1)) h;
        }

    by_number : (bytes : List ℕ) (left : ℕ) → IsBytes bytes → number_within w low high bytes ≡ Err left → 0 < left → (s : Reading ℕ) → number_at w bytes ≡ s
        → Blame IsPart (λ (b : List ℕ). number_within w low high b) bytes left
    by_number bytes left fits e some (Ok x) number = by_test bytes left x.0 x.1 fits e number (leb low x.0 && leb x.0 high) refl
    by_number bytes left fits e some (Err l) number =
        absurd (omega (arith, some, number_ends w bytes l number, err_is {A = ℕ} l left (sym (within_ends w low high bytes l number) ∙ e)))

pub within_32 : (low high : ℕ) → IsFormat (to_be_bytes w32) (λ (n : ℕ). (low ≤ n) × ((n ≤ high) × (n < 2 ^ 32))) (λ (bytes : List ℕ). number_within w32 low high bytes)
within_32 low high = within_format w32 (2 ^ 32) wide32 low high (λ n. inr (inl (wide32.size n)))

pub within_64 : (low high : ℕ) → IsFormat (to_be_bytes w64) (λ (n : ℕ). (low ≤ n) × ((n ≤ high) × (n < 2 ^ 64))) (λ (bytes : List ℕ). number_within w64 low high bytes)
within_64 low high = within_format w64 (2 ^ 64) wide64 low high (λ n. inr (inr (wide64.size n)))

pub number_32 : IsFormat (to_be_bytes w32) (λ (n : ℕ). n < 2 ^ 32) (λ (bytes : List ℕ). number_at w32 bytes)
number_32 = record {
  takes = λ bytes x fits e. number_takes w32 (2 ^ 32) wide32 bytes x.0 x.1 fits e;
  again = λ n rest small. number_again w32 (2 ^ 32) wide32 n rest small;
  blames = fair_u32.blames;
}

pub number_64 : IsFormat (to_be_bytes w64) (λ (n : ℕ). n < 2 ^ 64) (λ (bytes : List ℕ). number_at w64 bytes)
number_64 = record {
  takes = λ bytes x fits e. number_takes w64 (2 ^ 64) wide64 bytes x.0 x.1 fits e;
  again = λ n rest small. number_again w64 (2 ^ 64) wide64 n rest small;
  blames = fair_u64.blames;
}

-- ---- bytes and texts

pub bytes_format : IsFormat bytes_spelling (λ (bytes : List ℕ). length bytes < 2 ^ 32) (λ (bytes : List ℕ). bytes_at bytes)
bytes_format = record { takes = bytes_takes; again = bytes_again; blames = fair_bytes.blames }

pub text_format : IsFormat bytes_spelling IsShortText (λ (bytes : List ℕ). text_at bytes)
text_format = record { takes = text_takes; again = text_again; blames = (fair_wider IsByte IsPart (λ part is. inl is) text_at fair_text_byte).blames }

-- ---- fronts

same_number : (bytes : List ℕ) (m n : ℕ) (a b : List ℕ) → number_at w32 bytes ≡ Ok (m, a) → number_at w32 bytes ≡ Ok (n, b) → m ≡ n
same_number bytes m n a b one other = ap (λ (p : ℕ × List ℕ). p.0) (ok_is (m, a) (n, b) (sym one ∙ other))

front_takes : (bytes : List ℕ) (x : List ℕ × List ℕ) → IsBytes bytes → front_at bytes ≡ Ok x → Takes bytes (bytes_spelling x.0) x.1 × (1 ≤ length x.0) × (length x.0 ≤ front_limit)
unfolding front_at
front_takes bytes x fits e =
    let b = bind_ok (number_within w32 1 front_limit bytes) (λ _. bytes_at bytes) x e in
    let size = within_takes w32 (2 ^ 32) wide32 1 front_limit bytes b.0 fits b.1 in
    let read = bytes_takes bytes x fits b.2 in
    let first : number_at w32 bytes ≡ Ok (b.0.0, b.0.1) = ap (number_at w32) size.0.parts ∙ number_again w32 (2 ^ 32) wide32 b.0.0 b.0.1 size.3 in
    let again : number_at w32 bytes ≡ Ok (length x.0, x.0 ++ x.1) =
    ap (number_at w32) (read.0.parts ∙ append_assoc (to_be_bytes w32 (length x.0)) x.0 x.1) ∙ number_again w32 (2 ^ 32) wide32 (length x.0) (x.0 ++ x.1) read.1 in
    let same : b.0.0 ≡ length x.0 = same_number bytes b.0.0 (length x.0) b.0.1 (x.0 ++ x.1) first again in
    (read.0, omega (arith, size.1, same), omega (arith, size.2, same))

front_step : (bytes : List ℕ) (n : ℕ) (behind : List ℕ) (x : List ℕ × List ℕ) → number_within w32 1 front_limit bytes ≡ Ok (n, behind) → bytes_at bytes ≡ Ok x → front_at bytes ≡ Ok x
unfolding front_at
front_step bytes n behind x size read = rw size read

front_again : (front rest : List ℕ) → 1 ≤ length front → length front ≤ front_limit → front_at (bytes_spelling front ++ rest) ≡ Ok (front, rest)
front_again front rest some short =
    front_step (bytes_spelling front ++ rest) (length front) (front ++ rest) (front, rest)
    (ap (number_within w32 1 front_limit) (append_assoc (to_be_bytes w32 (length front)) front rest) ∙ within_again w32 (2 ^ 32) wide32 1 front_limit (length front) (front ++ rest) some short (omega arith))
    (bytes_again front rest (omega arith))

front_is : (bytes : List ℕ) (x : ℕ × List ℕ) → number_within w32 1 front_limit bytes ≡ Ok x → front_at bytes ≡ bytes_at bytes
unfolding front_at
front_is bytes x size = rw size refl

front_ends : (bytes : List ℕ) (l : ℕ) → number_within w32 1 front_limit bytes ≡ Err l → front_at bytes ≡ Err l
unfolding front_at
front_ends bytes l size = rw size refl

front_has : (bytes : List ℕ) (x : List ℕ × List ℕ) → front_at bytes ≡ Ok x → (n : ℕ × List ℕ) × (number_within w32 1 front_limit bytes ≡ Ok n)
unfolding front_at
front_has bytes x e = (let b = bind_ok (number_within w32 1 front_limit bytes) (λ _. bytes_at bytes) x e in (b.0, b.1))

pub front_format : IsFormat bytes_spelling (λ (front : List ℕ). (1 ≤ length front) × (length front ≤ front_limit)) (λ (bytes : List ℕ). front_at bytes)
front_format = record {
  takes = λ bytes x fits e. (let t = front_takes bytes x fits e in (t.0, (t.1, t.2)));
  again = λ front rest keeps. front_again front rest keeps.0 keeps.1;
  blames = λ bytes left fits e some. by_size bytes left fits e some (number_within w32 1 front_limit bytes) refl;
}
  where
    by_size : (bytes : List ℕ) (left : ℕ) → IsBytes bytes → front_at bytes ≡ Err left → 0 < left → (s : Reading ℕ) → number_within w32 1 front_limit bytes ≡ s → Blame IsPart front_at bytes left
    by_size bytes left fits e some (Ok x) size = absurd (omega (arith, some, bytes_end bytes left (sym (front_is bytes x size) ∙ e)))
    by_size bytes left fits e some (Err l) size =
        let same : l ≡ left = err_is {A = List ℕ} l left (sym (front_ends bytes l size) ∙ e) in
        let b = (within_32 1 front_limit).blames bytes left fits (size ∙ ap (λ (k : ℕ). Err k) same) some in
        record {
          before = b.before;
          unit = b.unit;
          after = b.after;
          parts = b.parts;
          left_is = b.left_is;
          whole = b.whole;
          stops = λ more y h. (let n = front_has (b.before ++ (b.unit ++ more)) y h in b.stops more n.0 n.1);
        }
