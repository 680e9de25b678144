-- Reading what stands behind the time of RFC 3164.
use Rattle.std.proofs.Common.{◌≡◌, ℕ, ◌+◌, ◌-◌, ◌⊎◌, List, [], ◌∷◌, ◌++◌, ◌∙◌, ap, sym, subst, Option, None, Some, Bool, true, false, ◌&&◌, ◌||◌, ◌==◌, length, drop, get_or, nat_lt, take_while, arith, eqb-true}
use Rattle.syslog_parser.specs.Bytes.{is_bracketed}
use Rattle.syslog_parser.specs.Inner.Reads.{ends_tag, BeginsWith, IsHostText, StopsInHost, IsTagText, StopsInTag, StopsInProcess}
use Rattle.syslog_parser.specs.Rfc3164.{without_space, IsProcess, no_process, a_process, IsTail}
use Rattle.syslog_parser.specs.States3164.{in_host, in_tag, in_process, is_begun, outcome}
use Rattle.syslog_parser.specs.Words.{IsWord}
use Rattle.syslog_parser.proofs.Over3164.{begun, host_over, tag_over, bracket_over, process_over, process_stops, no_colon}
use Rattle.syslog_parser.proofs.Words.{stands_false}

-- what ends a tag and is no colon is a bracket
pub bracket_first : (text behind : List ℕ) → BeginsWith ends_tag text → (nat_lt 0 (length text) && (get_or text 0 0 == 58)) ≡ false → behind ≡ drop (0 + 1) text → text ≡ 91 ∷ behind
bracket_first [] behind b e d = absurd (let same = b.begins in cc same)
bracket_first (byte ∷ text) behind b e d =
    let same : byte ≡ b.next = let k = b.begins in cc k in
    let no_colon : (byte == 58) ≡ false = stands_false (byte ∷ text) 0 58 e (omega arith) in
    let passes : ((byte == 58) || (byte == 91)) ≡ true = ap ends_tag same ∙ b.passes in
    let bracket : byte ≡ 91 = eqb-true byte 91 (sym (ap (λ (t : Bool). t || (byte == 91)) no_colon) ∙ passes) in
    ap (λ (n : ℕ). n ∷ text) bracket ∙ ap (λ (l : List ℕ). 91 ∷ l) (sym d)

module _ (text inside : List ℕ) (e : text ≡ 91 ∷ inside) where
  opened : (host tag : List ℕ) → is_begun tag ≡ true → outcome (in_tag host tag) text ≡ outcome (in_process host tag []) inside
  opened host tag some = ap (λ (l : List ℕ). outcome (in_tag host tag) l) e ∙ bracket_over host tag some inside

  pub process_fault : (count left : ℕ) → count ≡ length (take_while is_bracketed inside)
      → (count ≡ 0) ⊎ ((nat_lt count (length inside) && (get_or inside count 0 == 93)) ≡ false) → left ≡ length inside - count → StopsInProcess text left
  process_fault count left is u l host tag some = opened host tag some ∙ process_stops host tag inside count left is u l

  module _ (own ended : List ℕ) (i : inside ≡ own ++ 93 ∷ ended) (w : IsWord is_bracketed own) where
    pub colon_fault : (nat_lt 0 (length ended) && (get_or ended 0 0 == 58)) ≡ false → StopsInProcess text (length ended)
    colon_fault n host tag some =
        opened host tag some
        ∙ ap (λ (l : List ℕ). outcome (in_process host tag []) l) i
        ∙ process_over host tag own ended w
        ∙ no_colon (record { host = host; tag = tag; process = Some own }) ended n

    pub process_read : (rest : List ℕ) → ended ≡ 58 ∷ rest → IsProcess text (Some own) rest
    process_read rest n =
        subst (λ (l : List ℕ). IsProcess l (Some own) rest) (sym (e ∙ ap (λ (l : List ℕ). 91 ∷ l) (i ∙ ap (λ (l : List ℕ). own ++ 93 ∷ l) n))) (a_process w)

pub no_process_read : (text rest : List ℕ) → text ≡ 58 ∷ rest → IsProcess text None rest
no_process_read text rest e = subst (λ (l : List ℕ). IsProcess l None rest) (sym e) no_process

module _ (text host tagged : List ℕ) (h : IsHostText text host tagged) where
  pub tag_fault : (left : ℕ) → StopsInTag tagged left → StopsInHost text left
  tag_fault left stop = ap (λ (l : List ℕ). outcome (in_host []) l) h.is ∙ host_over host tagged h.word ∙ stop host

  module _ (tag behind : List ℕ) (t : IsTagText tagged tag behind) where
    pub behind_tag_fault : (left : ℕ) → StopsInProcess behind left → StopsInHost text left
    behind_tag_fault left stop =
        ap (λ (l : List ℕ). outcome (in_host []) l) h.is ∙ host_over host tagged h.word
        ∙ ap (λ (l : List ℕ). outcome (in_tag host []) l) t.is ∙ tag_over host tag behind t.word
        ∙ stop host tag (begun tag t.word.some)

    pub sender_read : (process : Option (List ℕ)) (rest message : List ℕ) → IsProcess behind process rest → message ≡ without_space rest
        → IsTail text (record { host = host; tag = tag; process = process; message = message })
    sender_read process rest message p m = record {
      behind_tag = behind;
      behind_colon = rest;
      is = h.is ∙ ap (λ (l : List ℕ). host ++ 32 ∷ l) t.is;
      host = h.word;
      tag = t.word;
      process = p;
      message = m;
    }
