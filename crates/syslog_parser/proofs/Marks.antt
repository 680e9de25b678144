-- The mark U+FEFF at the front of a text.
use Rattle.std.proofs.Common.{◌≡◌, ◌≢◌, ℕ, List, [], ◌∷◌, ◌++◌, ◌∙◌, ap, sym, refl, subst, Bool, true, false, cond, take, drop, bytes_eq, encode_utf8}
use Rattle.std.proofs.lemmas.List.{take-append-drop}
use Rattle.std.proofs.lemmas.Slice.Eq.{bytes_eq-Decides}
use lib.Utf8.{encode}
use Rattle.std.specs.Bool.{Decides}
use Rattle.std.specs.Str.Pattern.{HasCharAt}
use Rattle.syslog_parser.specs.Inner.Reads.{PutsMessage}
use Rattle.syslog_parser.specs.Rfc5424.{without_mark, IsEnd, no_message, a_message}
use Rattle.syslog_parser.specs.Told.{Member, put_all, told_message}
use Rattle.syslog_parser.proofs.Words.{if_true, if_false}

abbrev mark : List ℕ
mark = 239 ∷ 187 ∷ 191 ∷ []

mark_bytes : encode_utf8 65279 ≡ mark
unfolding encode
mark_bytes = refl

all_left : (l : List ℕ) → drop 0 l ≡ l
all_left l = take-append-drop 0 l

pub mark_cut : (text rest : List ℕ) (n : ℕ) → HasCharAt 65279 text 0 n → rest ≡ drop n text → rest ≡ without_mark text
unfolding without_mark
mark_cut text rest n at r =
    let three : n ≡ 3 = at.ends in
    let whole : text ≡ mark ++ drop n text = sym (all_left text) ∙ at.split ∙ ap (λ (l : List ℕ). l ++ drop n text) mark_bytes in
    let begins : take 3 text ≡ mark = ap (take 3) whole in
    let test : bytes_eq (take 3 text) mark ≡ true = ap (λ (l : List ℕ). bytes_eq l mark) begins in
    r ∙ ap (λ (k : ℕ). drop k text) three ∙ sym (if_true (bytes_eq (take 3 text) mark) (drop 3 text) text test)

pub no_mark : (text : List ℕ) → ((rest : List ℕ) → text ≢ encode_utf8 65279 ++ rest) → text ≡ without_mark text
unfolding without_mark
no_mark text none = by (bytes_eq (take 3 text) mark) refl (bytes_eq-Decides (take 3 text) mark)
  where
    by : (b : Bool) → bytes_eq (take 3 text) mark ≡ b → Decides (bytes_eq (take 3 text) mark) (take 3 text ≡ mark) → text ≡ cond (bytes_eq (take 3 text) mark) (drop 3 text) text
    by true e d = absurd (none (drop 3 text) (sym (take-append-drop 3 text) ∙ ap (λ (l : List ℕ). l ++ drop 3 text) (d.0 e ∙ sym mark_bytes)))
    by false e d = sym (if_false (bytes_eq (take 3 text) mark) (drop 3 text) text e)

-- ---- messages behind a space

pub no_message_put : (text : List ℕ) (members : List Member) → text ≡ [] → PutsMessage text members members
no_message_put text members e = record { message = []; spelled = subst (λ (l : List ℕ). IsEnd l []) (sym e) no_message; told = refl }

pub message_put : (text raw : List ℕ) (old new : List Member) → text ≡ 32 ∷ raw → new ≡ put_all old (told_message (without_mark raw)) → PutsMessage text old new
message_put text raw old new e t = record {
  message = without_mark raw;
  spelled = subst (λ (l : List ℕ). IsEnd l (without_mark raw)) (sym e) a_message;
  told = t;
}
