-- The names of a text in UTF-8 are UTF-8.
use Rattle.std.proofs.Common.{◌≡◌, ℕ, zero, suc, ◌+◌, ◌<◌, List, [], ◌∷◌, ◌++◌, ◌∙◌, ap, sym, refl, subst, length, take, drop, get_or, Some, true, false, Bool, ◌&&◌, inl, inr, append_assoc, arith, length-append}
use Rattle.std.proofs.Math.Seq.{take-append_seam, get_or-append_seam, drop-append-add}
use Rattle.std.proofs.lemmas.Bool.Decides.{nat_tests}
use Rattle.std.proofs.lemmas.List.{take-append-drop}
use Rattle.std.proofs.lemmas.Str.{IsUtf8-append, IsUtf8-take, IsUtf8-drop, IsUtf8-nil, IsUtf8-from_ascii, IsCharBoundary-before_ascii, IsCharBoundary-after_ascii}
use Rattle.std.specs.Str.{IsUtf8}
use Rattle.std.specs.List.{list_all}
use Rattle.field_paths.specs.declared.read.Phase.{Phase}
use Rattle.field_paths.specs.declared.read.Phase.TheVariants as phase
use Rattle.field_paths.specs.Inner.NameIsText.{NameIsText}
use Rattle.field_paths.specs.PathText.{InARow, root_name, is_name_byte, is_quote, WritesByte}
use Rattle.field_paths.specs.Reader.{State, start, steps}
use Rattle.field_paths.proofs.Seen.{SeenFrom, seen_all}

-- a text may be cut at a character of ASCII
cut : (pre rest : List ℕ) (c : ℕ) → c < 128 → IsUtf8 (pre ++ c ∷ rest) → IsUtf8 pre × IsUtf8 rest
cut pre rest c low u =
    let all = pre ++ c ∷ rest in
    let len : length all ≡ length pre + length (c ∷ rest) = length-append pre (c ∷ rest) in
    let inside : length pre < length all = omega arith in
    let byte : get_or all (length pre) 0 < 128 = rw (get_or-append_seam pre c rest 0) low in (
      subst (λ (l : List ℕ). IsUtf8 l) (take-append_seam pre (c ∷ rest)) (IsUtf8-take all (length pre) u (IsCharBoundary-before_ascii all (length pre) inside byte)),
      subst (λ (l : List ℕ). IsUtf8 l) (drop-append-add pre (c ∷ rest) 1) (IsUtf8-drop all (length pre + 1) u (IsCharBoundary-after_ascii all (length pre) u inside byte)),
    )

-- without its backslashes
unescaped : (quote : ℕ) (pre inner name : List ℕ) → InARow (WritesByte quote) inner name → IsUtf8 (pre ++ inner) → IsUtf8 (pre ++ name)
unescaped quote pre inner [] e u = subst (λ (l : List ℕ). IsUtf8 (pre ++ l)) e u
unescaped quote pre inner (byte ∷ name) row u =
    subst (λ (l : List ℕ). IsUtf8 l) (append_assoc pre (byte ∷ []) name)
    (unescaped quote (pre ++ byte ∷ []) row.1 name row.4 (first row.0 row.3 (subst (λ (l : List ℕ). IsUtf8 (pre ++ l)) row.2 u)))
  where
    first : (part : List ℕ) → WritesByte quote part byte → IsUtf8 (pre ++ (part ++ row.1)) → IsUtf8 ((pre ++ byte ∷ []) ++ row.1)
    first part (inl w) u = rw append_assoc (subst (λ (p : List ℕ). IsUtf8 (pre ++ (p ++ row.1))) w.0 u)
    first part (inr w) u =
        let halves = cut pre (byte ∷ row.1) 92 (omega arith) (subst (λ (p : List ℕ). IsUtf8 (pre ++ (p ++ row.1))) w.0 u) in
        rw append_assoc (IsUtf8-append pre (byte ∷ row.1) halves.0 halves.1)

low_quote : (quote : ℕ) → is_quote quote ≡ true → quote < 128
unfolding is_quote
low_quote quote e = grind (arith, nat_tests)

low_name : (byte : ℕ) → is_name_byte byte ≡ true → byte < 128
unfolding is_name_byte
low_name byte e = grind (arith, nat_tests)

ascii_one : (byte : ℕ) → byte < 128 → (i : ℕ) → get_or (byte ∷ []) i 0 < 128
ascii_one byte l zero = l
ascii_one byte l (suc i) = omega arith

name_text : (name : List ℕ) → list_all is_name_byte name ≡ true → IsUtf8 name
name_text [] all = IsUtf8-nil
name_text (byte ∷ name) all = by (is_name_byte byte) refl all (name_text name)
  where
    by : (b : Bool) → is_name_byte byte ≡ b → (b && list_all is_name_byte name) ≡ true → (list_all is_name_byte name ≡ true → IsUtf8 name) → IsUtf8 (byte ∷ name)
    by true e h rec = IsUtf8-append (byte ∷ []) name (IsUtf8-from_ascii (byte ∷ []) (ascii_one byte (low_name byte e))) (rec h)
    by false e h rec = absurd (cc h)

inner_text : (quote : ℕ) (before inner rest : List ℕ) → is_quote quote ≡ true → IsUtf8 (before ++ 91 ∷ quote ∷ (inner ++ quote ∷ rest)) → IsUtf8 inner
inner_text quote before inner rest q u =
    let low = low_quote quote q in
    (cut inner rest quote low (cut [] (inner ++ quote ∷ rest) quote low (cut before (quote ∷ (inner ++ quote ∷ rest)) 91 (omega arith) u).1).1).0

names_are_text : (p : Phase) (s : State) (front rest : List ℕ) → SeenFrom p s front → IsUtf8 (front ++ rest) → NameIsText p s.name
names_are_text phase.Start s front rest seen u = tt
names_are_text (phase.Root matched) s front rest seen u = tt
names_are_text phase.Between s front rest seen u = tt
names_are_text phase.Dot s front rest seen u = tt
names_are_text phase.Name s front rest seen u = name_text s.name seen.2
names_are_text phase.Bracket s front rest seen u = tt
names_are_text (phase.Quoted quote) s front rest seen u = tt
names_are_text (phase.Escape quote) s front rest seen u = tt
names_are_text phase.Closing s front rest seen u =
    let quote = seen.0 in let inner = seen.1 in let i = seen.4 in
    let before : List ℕ = root_name s.root ++ i.0 in
    let same : front ++ rest ≡ before ++ 91 ∷ quote ∷ (inner ++ quote ∷ rest) = ap (λ (l : List ℕ). l ++ rest) i.1 ∙ (simp append_assoc) in
    unescaped quote [] inner s.name seen.3 (inner_text quote before inner rest seen.2 (subst (λ (l : List ℕ). IsUtf8 l) same u))

pub name_is_text : (text : List ℕ) (at : ℕ) (s : State) → IsUtf8 text → steps start (take at text) ≡ Some s → NameIsText s.phase s.name
name_is_text text at s u e = names_are_text s.phase s (take at text) (drop at text) (seen_all s (take at text) e) (subst (λ (l : List ℕ). IsUtf8 l) (sym (take-append-drop at text)) u)
