-- What stands in front of a message's tail is one thing.
use Rattle.std.proofs.Common.{◌≡◌, ℕ, suc, List, [], ◌∷◌, ◌++◌, ◌∙◌, ap, sym, refl, subst, Option, None, Some, Result, Ok, Err, ℤ, pos, length, arith}
use Rattle.std.specs.Char.{is_ascii_digit}
use Rattle.time_layout.specs.Atoms.{value_of, number}
use Rattle.time_layout.specs.Instant.{IsInstantOf, IsTimeOf}
use Rattle.time_layout.specs.Iso.{rfc3339_parts}
use Rattle.time_layout.specs.Parts.{layout_read, parts_read}
use Rattle.time_layout.specs.declared.fault.TimeFault.{TimeFault}
use Rattle.case_table.specs.Rows.{first_code}
use Rattle.case_table.specs.Tables.{month_table}
use Rattle.std.proofs.Common.{bytes_eq}
use Rattle.time_layout.specs.declared.parts.Said.{Said}
use Rattle.syslog_parser.specs.Bytes.{is_not_space}
use Rattle.syslog_parser.specs.Priorities.{IsPriority}
use Rattle.syslog_parser.specs.Stamps.{IsStamp, IsTime, IsDate, day_and_clock, of_month}
use Rattle.syslog_parser.proofs.Words.{one_split}

pub priority_one : (text rest more : List ℕ) (p q : ℕ) → IsPriority text p rest → IsPriority text q more → (p ≡ q) × (rest ≡ more)
priority_one text rest more p q a b =
    let e = sym a.is ∙ b.is in
    let tails : a.digits ++ 62 ∷ rest ≡ b.digits ++ 62 ∷ more = cc e in
    let split = one_split is_ascii_digit 62 refl a.digits b.digits rest more a.short.word.all b.short.word.all tails in
    (sym a.value ∙ ap value_of split.0 ∙ b.value, split.1)

-- ---- times

pub one_instant : (said : Said) (a b : ℕ) → IsInstantOf said (Ok a) → IsInstantOf said (Ok b) → a ≡ b
one_instant said a b x y = let e = sym x.1 ∙ y.1 in cc e

no_instant_of_dash : (instant : ℕ) → IsTimeOf (layout_read (rfc3339_parts 6) (pos 0) (45 ∷ [])) (Ok instant) → ⊥
unfolding rfc3339_parts number
no_instant_of_dash instant e = cc e

stamp_one : (own : List ℕ) (t u : Option ℕ) → IsStamp own t → IsStamp own u → t ≡ u
stamp_one own None None a b = refl
stamp_one own None (Some j) a b = absurd (no_instant_of_dash j (subst (λ (l : List ℕ). IsStamp l (Some j)) a b))
stamp_one own (Some i) None a b = absurd (no_instant_of_dash i (subst (λ (l : List ℕ). IsStamp l (Some i)) b a))
stamp_one own (Some i) (Some j) a b = by (layout_read (rfc3339_parts 6) (pos 0) own) a b
  where
    by : (r : Result (Said × ℕ) TimeFault) → IsTimeOf r (Ok i) → IsTimeOf r (Ok j) → Some i ≡ Some j
    by (Ok read) a b = ap (λ (n : ℕ). Some n) (one_instant read.0 i j a b)
    by (Err fault) a b = absurd (cc a)

pub time_one : (text rest more : List ℕ) (t u : Option ℕ) → IsTime text t rest → IsTime text u more → (t ≡ u) × (rest ≡ more)
time_one text rest more t u a b =
    let split = one_split is_not_space 32 refl a.own b.own rest more a.unbroken b.unbroken (sym a.is ∙ b.is) in
    (stamp_one b.own t u (subst (λ (l : List ℕ). IsStamp l t) split.0 a.stamp) b.stamp, split.1)

-- ---- parts of a length

pub one_length : (a b x y : List ℕ) → length a ≡ length b → a ++ x ≡ b ++ y → (a ≡ b) × (x ≡ y)
one_length [] [] x y l e = (refl, e)
one_length [] (c ∷ b) x y l e = absurd (let s : 0 ≡ suc (length b) = l in omega arith)
one_length (c ∷ a) [] x y l e = absurd (let s : suc (length a) ≡ 0 = l in omega arith)
one_length (c ∷ a) (d ∷ b) x y l e =
    let same : c ≡ d = cc e in
    let tails : a ++ x ≡ b ++ y = cc e in
    let shorter : length a ≡ length b = let s : suc (length a) ≡ suc (length b) = l in omega arith in
    let rec = one_length a b x y shorter tails in
    (ap (λ (n : ℕ). n ∷ a) same ∙ ap (λ (l : List ℕ). d ∷ l) rec.0, rec.1)

module _ (year : ℕ) (location : ℤ) where
  pub date_one : (text rest more : List ℕ) (i j : ℕ) → IsDate year location text i rest → IsDate year location text j more → (i ≡ j) × (rest ≡ more)
  date_one text rest more i j a b =
      let names = one_length a.name b.name (a.clock ++ 32 ∷ rest) (b.clock ++ 32 ∷ more) (a.name_size ∙ sym b.name_size) (sym a.is ∙ b.is) in
      let clocks = one_length a.clock b.clock (32 ∷ rest) (32 ∷ more) (a.clock_size ∙ sym b.clock_size) names.1 in
      let rests : rest ≡ more = let e = clocks.1 in cc e in
      let named = a.month_is in
      let other = b.month_is in
      let same_name = names.0 in
      let months : a.month ≡ b.month = let e = sym (subst (λ (n : List ℕ). first_code (bytes_eq n) month_table ≡ Some a.month) same_name named) ∙ other in cc e in
      let said : a.said ≡ b.said =
      let e = sym (subst (λ (m : ℕ). parts_read day_and_clock b.clock 0 (of_month year m location) ≡ Ok (a.said, 12)) months
      (subst (λ (c : List ℕ). parts_read day_and_clock c 0 (of_month year a.month location) ≡ Ok (a.said, 12)) clocks.0 a.said_is)) ∙ b.said_is in
      let pairs : ◌≡◌ {A = Said × ℕ} (a.said, 12) (b.said, 12) = cc e in ap (λ (r : Said × ℕ). r.0) pairs in
      (one_instant b.said i j (subst (λ (s : Said). IsInstantOf s (Ok i)) said a.instant_is) b.instant_is, rests)
