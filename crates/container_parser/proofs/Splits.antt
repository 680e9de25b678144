-- Where a list is parted at a byte is determined, where the byte stands in no part before it, or in none behind it.
use Rattle.std.proofs.Common.{◌≡◌, ◌≢◌, ℕ, zero, suc, ◌+◌, ◌<◌, List, [], ◌∷◌, ◌++◌, length, get_or, ap, sym, refl, subst, Bool, true, false, ◌&&◌, length-append, arith}
use Rattle.std.proofs.lemmas.List.{get_or_at}
use Rattle.std.specs.List.{list_all}
use Rattle.container_parser.specs.Words.{Lacks, is_made_of}

tail_lacks : (c b : ℕ) (bs : List ℕ) → Lacks c (b ∷ bs) → Lacks c bs
tail_lacks c b bs l = λ k h. l (suc k) (omega arith)

head_lacks : (c b : ℕ) (bs : List ℕ) → Lacks c (b ∷ bs) → b ≢ c
head_lacks c b bs l = l 0 (omega arith)

-- the byte stands where it is
pub not_lacking : (c : ℕ) (xs ys : List ℕ) → Lacks c (xs ++ c ∷ ys) → ⊥
not_lacking c xs ys l =
    let len : length (xs ++ c ∷ ys) ≡ length xs + length (c ∷ ys) = length-append xs (c ∷ ys) in
    l (length xs) (omega arith) (get_or_at xs c ys 0 (length xs) refl)

pub first_split : (c : ℕ) (xs ys us vs : List ℕ) → Lacks c xs → Lacks c us → xs ++ c ∷ ys ≡ us ++ c ∷ vs → (xs ≡ us) × (ys ≡ vs)
first_split c [] ys [] vs l m e = (refl, cc e)
first_split c [] ys (u ∷ us) vs l m e = absurd (head_lacks c u us m (cc e))
first_split c (x ∷ xs) ys [] vs l m e = absurd (head_lacks c x xs l (cc e))
first_split c (x ∷ xs) ys (u ∷ us) vs l m e =
    let rest : xs ++ c ∷ ys ≡ us ++ c ∷ vs = cc e in
    let head : x ≡ u = cc e in
    let same = first_split c xs ys us vs (tail_lacks c x xs l) (tail_lacks c u us m) rest in
    (cc (head, same.0), same.1)

pub last_split : (c : ℕ) (xs ys us vs : List ℕ) → Lacks c ys → Lacks c vs → xs ++ c ∷ ys ≡ us ++ c ∷ vs → (xs ≡ us) × (ys ≡ vs)
last_split c [] ys [] vs l m e = (refl, cc e)
last_split c [] ys (u ∷ us) vs l m e =
    let rest : ys ≡ us ++ c ∷ vs = cc e in
    absurd (not_lacking c us vs (subst (λ (t : List ℕ). Lacks c t) rest l))
last_split c (x ∷ xs) ys [] vs l m e =
    let rest : xs ++ c ∷ ys ≡ vs = cc e in
    absurd (not_lacking c xs ys (subst (λ (t : List ℕ). Lacks c t) (sym rest) m))
last_split c (x ∷ xs) ys (u ∷ us) vs l m e =
    let rest : xs ++ c ∷ ys ≡ us ++ c ∷ vs = cc e in
    let head : x ≡ u = cc e in
    let same = last_split c xs ys us vs l m rest in
    (cc (head, same.0), same.1)

-- what passes a test that the byte fails lacks the byte
first_passes : (p : ℕ → Bool) (c b : ℕ) (bs : List ℕ) → p c ≡ false → p b ≡ true → Lacks c bs → Lacks c (b ∷ bs)
first_passes p c b bs fails one rest = at
  where
    at : (k : ℕ) → k < length (b ∷ bs) → get_or (b ∷ bs) k 0 ≢ c
    at zero h = λ (e : b ≡ c). let same : p b ≡ p c = ap p e in absurd (cc (same, one, fails))
    at (suc k) h = rest k (omega arith)

by_first : (p : ℕ → Bool) (c b : ℕ) (bs : List ℕ) (r : Bool) → p c ≡ false → p b ≡ r → (r && list_all p bs) ≡ true → (list_all p bs ≡ true → Lacks c bs) → Lacks c (b ∷ bs)
by_first p c b bs true fails one rest more = first_passes p c b bs fails one (more rest)
by_first p c b bs false fails one rest more = absurd (cc rest)

pub all_lack : (p : ℕ → Bool) (c : ℕ) (bs : List ℕ) → p c ≡ false → list_all p bs ≡ true → Lacks c bs
all_lack p c [] fails all = λ k h. absurd (omega arith)
all_lack p c (b ∷ bs) fails all = by_first p c b bs (p b) fails refl all (all_lack p c bs fails)

pub made_lacks : (p : ℕ → Bool) (c : ℕ) (bs : List ℕ) → p c ≡ false → is_made_of p bs ≡ true → Lacks c bs
made_lacks p c [] fails made = absurd (cc made)
made_lacks p c (b ∷ bs) fails made = all_lack p c (b ∷ bs) fails made
