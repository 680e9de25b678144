-- Lines of Docker as Docker writes them.
use Rattle.std.proofs.Common.{◌≡◌, ℕ, ◌+◌, ◌-◌, List, [], ◌∷◌, ◌++◌, length, take, drop, arith, Bool, true, false, cond, ◌&&◌, ap, refl, sym, subst, ◌∙◌}
use Rattle.std.proofs.lemmas.List.{append_assoc, append-nil}
use Rattle.std.specs.Prelude.{codes, slice_range}
use Rattle.std.specs.Str.{IsCharBoundary}
use Rattle.json_text.proofs.Steps.{plain_end_boundary}
use Rattle.std.specs.List.{take_while, list_all}
use Rattle.std.proofs.lemmas.List.Sums.{take_while-cons}
use Rattle.entry_model.specs.Datum.{text, fields, members_of}
use Rattle.json_text.specs.declared.content.Piece.TheVariants as piece
use Rattle.json_text.specs.Bytes.{is_plain}
use Rattle.json_text.specs.Grammar.{IsContent, IsValue, IsNamed, IsMember, IsFirstMember, IsNextMember, IsText}
use Rattle.container_parser.specs.DockerLines.{IsDockerLine}
use Rattle.container_parser.specs.Inner.Strings.{Spells, IsEscape, IsTail}
use Rattle.container_parser.specs.Times.{IsTime}

-- ---- strings

pub ended : (rest : List ℕ) → Spells (34 ∷ rest) [] rest
ended rest = record { pieces = []; is = IsContent.a_quote; content_is = refl }

plain_more : (byte : ℕ) (bytes content rest : List ℕ) → is_plain byte ≡ true → Spells bytes content rest → Spells (byte ∷ bytes) (byte ∷ content) rest
plain_more byte bytes content rest p s = record { pieces = piece.Byte byte ∷ s.pieces; is = IsContent.a_plain p s.is; content_is = ap (λ (t : List ℕ). byte ∷ t) s.content_is }

pub escape_more : (bytes : List ℕ) (meant : ℕ) (behind content rest : List ℕ) → IsEscape bytes meant behind → Spells behind content rest → Spells bytes (meant ∷ content) rest
escape_more bytes meant behind content rest e s =
    subst (λ (t : List ℕ). Spells t (meant ∷ content) rest) (sym e.is)
    (record { pieces = piece.Byte meant ∷ s.pieces; is = IsContent.an_escape e.meant_is s.is; content_is = ap (λ (t : List ℕ). meant ∷ t) s.content_is })

-- behind as many bytes as stand for themselves
pub run_more : (bytes content rest : List ℕ) → Spells (drop (length (take_while is_plain bytes)) bytes) content rest
    → Spells bytes (take (length (take_while is_plain bytes)) bytes ++ content) rest
run_more [] content rest = λ s. s
run_more (x ∷ xs) content rest =
    subst (λ (t : List ℕ). Spells (drop (length t) (x ∷ xs)) content rest → Spells (x ∷ xs) (take (length t) (x ∷ xs) ++ content) rest) (sym (take_while-cons is_plain x xs)) (by (run_more xs content rest) (is_plain x) refl)
  where
    by : (Spells (drop (length (take_while is_plain xs)) xs) content rest → Spells xs (take (length (take_while is_plain xs)) xs ++ content) rest)
        → (b : Bool) → is_plain x ≡ b → Spells (drop (length (cond b (x ∷ take_while is_plain xs) [])) (x ∷ xs)) content rest
        → Spells (x ∷ xs) (take (length (cond b (x ∷ take_while is_plain xs) [])) (x ∷ xs) ++ content) rest
    by more true p s = plain_more x xs (take (length (take_while is_plain xs)) xs ++ content) rest p (more s)
    by more false p s = s

named : (name bytes : List ℕ) → list_all is_plain name ≡ true → Spells (name ++ 34 ∷ bytes) name bytes
named [] bytes p = ended bytes
named (x ∷ name) bytes p = by (named name bytes) (is_plain x) refl p
  where
    by : (list_all is_plain name ≡ true → Spells (name ++ 34 ∷ bytes) name bytes) → (b : Bool) → is_plain x ≡ b → (b && list_all is_plain name) ≡ true → Spells (x ∷ name ++ 34 ∷ bytes) (x ∷ name) bytes
    by more true is p = plain_more x (name ++ 34 ∷ bytes) name bytes is (more p)
    by more false is p = cc p

-- ---- members

member_is : (name front content next : List ℕ) → list_all is_plain name ≡ true → Spells front content next → IsMember 63 (34 ∷ name ++ 34 ∷ 58 ∷ 34 ∷ front) name (text content) next
member_is name front content next plain s =
    let n = named name (58 ∷ 34 ∷ front) plain in
    subst (λ (m : List ℕ). IsMember 63 (34 ∷ name ++ 34 ∷ 58 ∷ 34 ∷ front) m (text content) next) n.content_is
    (IsMember.a_name n.is (IsNamed.a_colon (subst (λ (c : List ℕ). IsValue 63 (34 ∷ front) (text c) next) s.content_is (IsValue.is_text s.is))))

behind_stream : (behind stream time : List ℕ) → IsTail behind stream time → IsNextMember 63 behind ((codes "stream", text stream) ∷ (codes "time", text time) ∷ []) []
unfolding is_plain
behind_stream behind stream time t =
    subst (λ (b : List ℕ). IsNextMember 63 b ((codes "stream", text stream) ∷ (codes "time", text time) ∷ []) []) (sym t.is)
    (IsNextMember.next_member (member_is (codes "stream") t.front stream t.behind refl t.stream_is)
    (subst (λ (b : List ℕ). IsNextMember 63 b ((codes "time", text time) ∷ []) []) (sym t.goes_on)
    (IsNextMember.next_member (member_is (codes "time") t.back time (codes "}") refl t.time_is) IsNextMember.last_member)))

pub line_is : (line front log behind stream time : List ℕ) (instant : ℕ) → line ≡ codes "{\"log\":\"" ++ front → Spells front log behind → IsTail behind stream time → IsTime time instant
    → IsDockerLine line instant stream log
unfolding is_plain
line_is line front log behind stream time instant e l t when =
    let members = members_of ((codes "log", text log) ∷ (codes "stream", text stream) ∷ (codes "time", text time) ∷ []) in
    record {
      members = members;
      object = subst (λ (b : List ℕ). IsText 64 b (fields members)) (sym e) (record {
        rest = [];
        spells = IsValue.is_map (IsFirstMember.first_member (member_is (codes "log") front log behind refl l) (behind_stream behind stream time t));
        blanks = refl;
      });
      record_is = record { log_is = refl; stream_is = refl; time_text = time; time_is = refl; time = when };
    }

-- ---- a content that grows

abbrev pub Goes : List ℕ → List ℕ → List ℕ → Type 0
Goes line content rest = (more behind : List ℕ) → Spells rest more behind → Spells line (content ++ more) behind

pub run_on : (line rest special content run made : List ℕ) (n : ℕ) → Goes line content rest → n ≡ length (take_while is_plain rest)
    → run ≡ slice_range rest 0 n → special ≡ drop n rest → made ≡ content ++ run → Goes line made special
run_on line rest special content run made n goes long is on e more behind s =
    let all : n - 0 ≡ length (take_while is_plain rest) = omega (arith, long) in
    let same : slice_range rest 0 n ≡ take (length (take_while is_plain rest)) rest = ap (λ (k : ℕ). take k rest) all in
    let there : special ≡ drop (length (take_while is_plain rest)) rest = on ∙ ap (λ (k : ℕ). drop k rest) long in
    subst (λ (t : List ℕ). Spells line t behind)
    (sym (ap (λ (t : List ℕ). t ++ more) (e ∙ ap (λ (t : List ℕ). content ++ t) (is ∙ same)) ∙ append_assoc content (take (length (take_while is_plain rest)) rest) more))
    (goes (take (length (take_while is_plain rest)) rest ++ more) behind (run_more rest more behind (subst (λ (t : List ℕ). Spells t more behind) there s)))

pub escape_on : (line special content made next : List ℕ) (byte : ℕ) → Goes line content special → IsEscape special byte next → made ≡ content ++ byte ∷ [] → Goes line made next
escape_on line special content made next byte goes is e more behind s =
    subst (λ (t : List ℕ). Spells line t behind) (sym (ap (λ (t : List ℕ). t ++ more) e ∙ append_assoc content (byte ∷ []) more))
    (goes (byte ∷ more) behind (escape_more special byte next more behind is s))

pub quote_on : (line special content behind : List ℕ) → Goes line content special → special ≡ 34 ∷ behind → Spells line content behind
quote_on line special content behind goes is =
    subst (λ (t : List ℕ). Spells line t behind) (append-nil content) (goes [] behind (subst (λ (t : List ℕ). Spells t [] behind) (sym is) (ended behind)))

pub run_ends : (bytes : List ℕ) (n : ℕ) → n ≡ length (take_while is_plain bytes) → IsCharBoundary bytes n
run_ends bytes n long =
    let place : n ≡ 0 + length (take_while is_plain bytes) = omega (arith, long) in
    plain_end_boundary bytes 0 n (omega arith) place
