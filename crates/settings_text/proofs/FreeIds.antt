-- A default id is one that isn't taken.
use Rattle.std.proofs.Common.{◌≡◌, ◌≢◌, ℕ, zero, suc, ◌+◌, ◌^◌, ◌<◌, ◌≤◌, ◌⊎◌, List, [], ◌∷◌, ◌++◌, length, Bool, true, false, decimal, inl, inr, refl, sym, subst, ◌∙◌, arith}
use Rattle.std.proofs.lemmas.Bool.{cases_lt}
use Rattle.std.proofs.lemmas.Fmt.{decimal_injective}
use Rattle.std.proofs.lemmas.Slice.Eq.{bytes_eq-Decides}
use Rattle.std.specs.Prelude.{if◌then◌else◌, ◌||◌}
use Rattle.std.specs.Str.{bytes_eq}
use Rattle.settings_text.specs.Ids.{is_taken, numbered, default_id}

true_or_false : (b : Bool) → (b ≡ true) ⊎ (b ≡ false)
true_or_false true = inl refl
true_or_false false = inr refl

-- the ids but for one
without : List ℕ → List (List ℕ) → List (List ℕ)
without id [] = []
without id (other ∷ others) = if bytes_eq id other then without id others else other ∷ without id others

no_longer : (id : List ℕ) (taken : List (List ℕ)) → length (without id taken) ≤ length taken
unfolding without
no_longer id [] = omega arith
no_longer id (other ∷ others) = by (bytes_eq id other) (no_longer id others)
  where
    by : (b : Bool) → length (without id others) ≤ length others → length (if b then without id others else other ∷ without id others) ≤ length (other ∷ others)
    by true rest = omega (arith, rest)
    by false rest = omega (arith, rest)

shorter : (id : List ℕ) (taken : List (List ℕ)) → is_taken id taken ≡ true → length (without id taken) + 1 ≤ length taken
unfolding without
shorter id [] is = cc is
shorter id (other ∷ others) is = by (bytes_eq id other) (no_longer id others) (λ found. shorter id others found) is
  where
    by : (b : Bool) → length (without id others) ≤ length others → (is_taken id others ≡ true → length (without id others) + 1 ≤ length others)
        → (b || is_taken id others) ≡ true → length (if b then without id others else other ∷ without id others) + 1 ≤ length (other ∷ others)
    by true rest less is = omega (arith, rest)
    by false rest less is = omega (arith, less is)

still_taken : (id another : List ℕ) (taken : List (List ℕ)) → another ≢ id → is_taken another taken ≡ true → is_taken another (without id taken) ≡ true
unfolding without
still_taken id another [] differ is = is
still_taken id another (other ∷ others) differ is = by (bytes_eq id other) refl (λ found. still_taken id another others differ found)
  where
    kept : (b : Bool) → (is_taken another others ≡ true → is_taken another (without id others) ≡ true) → (b || is_taken another others) ≡ true → (b || is_taken another (without id others)) ≡ true
    kept true rest is = refl
    kept false rest is = rest is

    past : (b : Bool) → (is_taken another others ≡ true → is_taken another (without id others) ≡ true) → bytes_eq another other ≡ b → bytes_eq id other ≡ true → (b || is_taken another others) ≡ true → is_taken another (without id others) ≡ true
    past true rest same removed is = absurd (differ ((bytes_eq-Decides another other).0 same ∙ sym ((bytes_eq-Decides id other).0 removed)))
    past false rest same removed is = rest is

    by : (b : Bool) → bytes_eq id other ≡ b → (is_taken another others ≡ true → is_taken another (without id others) ≡ true) → is_taken another (if b then without id others else other ∷ without id others) ≡ true
    by true removed rest = past (bytes_eq another other) rest refl removed is
    by false stays rest = kept (bytes_eq another other) rest is

drop_front : (front one other : List ℕ) → front ++ one ≡ front ++ other → one ≡ other
drop_front [] one other is = is
drop_front (x ∷ front) one other is = let rest : front ++ one ≡ front ++ other = cc is in drop_front front one other rest

-- so many numbered names aren't taken by fewer ids
all_taken : (name : List ℕ) (count n : ℕ) (taken : List (List ℕ)) → n + count < 2 ^ 64 → ((k : ℕ) → n ≤ k → k < n + count → is_taken (name ++ decimal k) taken ≡ true) → count ≤ length taken
all_taken name zero n taken few all = omega arith
all_taken name (suc count) n taken few all =
    let first = shorter (name ++ decimal n) taken (all n (omega arith) (omega arith)) in
    let rest = all_taken name count (n + 1) (without (name ++ decimal n) taken) (omega (arith, few)) (λ k from to.
    still_taken (name ++ decimal n) (name ++ decimal k) taken
    (λ same. let is : k ≡ n = decimal_injective k n (omega (arith, to, few)) (omega (arith, few)) (drop_front name (decimal k) (decimal n) same) in omega (arith, is, from))
    (all k (omega (arith, from)) (omega (arith, to)))) in
    omega (arith, first, rest)

-- the number that was chosen among so many from n on
record Chosen (more n : ℕ) (name : List ℕ) (taken : List (List ℕ)) (id : List ℕ) : Type 0 where
  number : ℕ
  is : id ≡ name ++ decimal number
  from : n ≤ number
  to : number ≤ n + more
  before : (k : ℕ) → n ≤ k → k < number → is_taken (name ++ decimal k) taken ≡ true
  free : number < n + more → is_taken (name ++ decimal number) taken ≡ false

chosen : (more n : ℕ) (name : List ℕ) (taken : List (List ℕ)) → Chosen more n name taken (numbered more n name taken)
unfolding numbered
chosen zero n name taken = record {
  number = n;
  is = refl;
  from = omega arith;
  to = omega arith;
  before = λ k from to. absurd (omega (arith, from, to));
  free = λ less. absurd (omega (arith, less));
}
chosen (suc more) n name taken = by (is_taken (name ++ decimal n) taken) refl (chosen more (n + 1) name taken)
  where
    by : (b : Bool) → is_taken (name ++ decimal n) taken ≡ b → Chosen more (n + 1) name taken (numbered more (n + 1) name taken)
        → Chosen (suc more) n name taken (if b then numbered more (n + 1) name taken else name ++ decimal n)
    by false free later = record {
      number = n;
      is = refl;
      from = omega arith;
      to = omega arith;
      before = λ k from to. absurd (omega (arith, from, to));
      free = λ _. free;
    }
    by true is later = record {
      number = later.number;
      is = later.is;
      from = omega (arith, later.from);
      to = omega (arith, later.to);
      before = λ k from to. elim (cases_lt n k) [
        | inl behind ↦ later.before k (omega (arith, behind)) to
        | inr here ↦ subst (λ m. is_taken (name ++ decimal m) taken ≡ true) (omega (arith, from, here)) is
      ];
      free = λ less. later.free (omega (arith, less));
    }

pub least_free : (name : List ℕ) (taken : List (List ℕ)) → length taken + 2 < 2 ^ 64 → is_taken name taken ≡ true
    → (n : ℕ) × (default_id name taken ≡ name ++ decimal n) × (1 ≤ n) × (is_taken (name ++ decimal n) taken ≡ false) × ((k : ℕ) → 1 ≤ k → k < n → is_taken (name ++ decimal k) taken ≡ true)
unfolding default_id
least_free name taken few is =
    let it = chosen (length taken) 1 name taken in
    let same : default_id name taken ≡ name ++ decimal it.number = rw is it.is in
    let free : is_taken (name ++ decimal it.number) taken ≡ false = elim (true_or_false (is_taken (name ++ decimal it.number) taken)) [
      | inr free ↦ free
      | inl used ↦ elim (cases_lt it.number (1 + length taken)) [
        | inl less ↦ it.free less
        | inr last ↦
            let all = all_taken name (length taken + 1) 1 taken (omega (arith, few)) (λ k from to. elim (cases_lt k it.number) [
              | inl before ↦ it.before k from before
              | inr here ↦ subst (λ m. is_taken (name ++ decimal m) taken ≡ true) (omega (arith, here, to, it.to, last)) used
            ]) in
            absurd (omega (arith, all))
      ]
    ] in
    (it.number, same, it.from, free, it.before)

pub own_name : (name : List ℕ) (taken : List (List ℕ)) → is_taken name taken ≡ false → default_id name taken ≡ name
unfolding default_id
own_name name taken is = rw is refl

pub never_taken : (name : List ℕ) (taken : List (List ℕ)) → length taken + 2 < 2 ^ 64 → is_taken (default_id name taken) taken ≡ false
never_taken name taken few = elim (true_or_false (is_taken name taken)) [
  | inl used ↦ let it = least_free name taken few used in rw it.1 it.3
  | inr free ↦ rw (own_name name taken free) free
]
