-- Which file a name leads to, as names are given and taken.
use Rattle.std.proofs.Common.{◌≡◌, ◌≢◌, ℕ, ◌==◌, List, [], ◌∷◌, Bool, true, false, cond, not, refl, sym, ap, subst, ◌∙◌}
use Rattle.std.specs.Prelude.{All, Option, None, Some, option_map, find}
use Rattle.std.specs.Str.{bytes_eq}
use Rattle.std.proofs.lemmas.Bool.{eqb-false, false_from_ne_true, ne_eqb}
use Rattle.std.proofs.lemmas.List.Elements.{All-cons, All-head, All-nil, All-tail}
use Rattle.std.proofs.lemmas.Slice.Eq.{bytes_eq-Decides}
use Rattle.outside.specs.World.{Names, file_at, without}

abbrev at_first : Bool → (List ℕ × ℕ) → Option ℕ → Option ℕ
at_first true name behind = Some name.1
at_first false name behind = behind

first_decides : (name : List ℕ × ℕ) (names : Names) (path : List ℕ) (here : Bool) → bytes_eq name.0 path ≡ here → file_at (name ∷ names) path ≡ at_first here name (file_at names path)
first_decides name names path true is = ap (λ (t : Bool). option_map (λ (n : List ℕ × ℕ). n.1) (cond t (Some name) (find (λ (n : List ℕ × ℕ). bytes_eq n.0 path) names))) is
first_decides name names path false is = ap (λ (t : Bool). option_map (λ (n : List ℕ × ℕ). n.1) (cond t (Some name) (find (λ (n : List ℕ × ℕ). bytes_eq n.0 path) names))) is

pub named_first : (path : List ℕ) (file : ℕ) (names : Names) → file_at ((path, file) ∷ names) path ≡ Some file
named_first path file names = first_decides (path, file) names path true ((bytes_eq-Decides path path).1 refl)

pub named_behind : (path other : List ℕ) (file : ℕ) (names : Names) → other ≢ path → file_at ((other, file) ∷ names) path ≡ file_at names path
named_behind path other file names differ = first_decides (other, file) names path false (false_from_ne_true (bytes_eq other path) (λ same. differ ((bytes_eq-Decides other path).0 same)))

-- what is so of each name is so of one that leads to a file
module _ (P : List ℕ → ℕ → Type 0) where
  abbrev Each : Names → Type 0
  Each names = All (λ (name : List ℕ × ℕ). P name.0 name.1) names

  pub of_named : (names : Names) (path : List ℕ) (file : ℕ) → Each names → file_at names path ≡ Some file → P path file
  of_named [] path file each found = let never : None ≡ Some file = found in absurd (cc)
  of_named (name ∷ names) path file each found =
      let Q : Bool → Type 0 = λ t. bytes_eq name.0 path ≡ t → P path file in
      let here : Q true = λ is.
      let same : Some name.1 ≡ Some file = sym (first_decides name names path true is) ∙ found in
      let file_is : name.1 ≡ file = cc (same) in
      subst (λ (p : List ℕ). P p file) ((bytes_eq-Decides name.0 path).0 is) (subst (λ (f : ℕ). P name.0 f) file_is (All-head (λ (n : List ℕ × ℕ). P n.0 n.1) name names each))
      in
      let behind : Q false = λ is. of_named names path file (All-tail (λ (n : List ℕ × ℕ). P n.0 n.1) name names each) (sym (first_decides name names path false is) ∙ found) in
      let all : Q (bytes_eq name.0 path) = elim (bytes_eq name.0 path) as Q [ true ↦ here | false ↦ behind ] in
      all refl

-- ---- without a file's names

pub not_its : (file : ℕ) (names : Names) → All (λ (name : List ℕ × ℕ). name.1 ≢ file) (without file names)
not_its file [] = All-nil (λ (name : List ℕ × ℕ). name.1 ≢ file)
not_its file (name ∷ names) =
    let rest = not_its file names in
    let Q : Bool → Type 0 = λ t. (name.1 == file) ≡ t → All (λ (n : List ℕ × ℕ). n.1 ≢ file) (cond (not t) (name ∷ without file names) (without file names)) in
    let all : Q (name.1 == file) = elim (name.1 == file) as Q [
      | true ↦ λ is. rest
      | false ↦ λ is. All-cons (λ (n : List ℕ × ℕ). n.1 ≢ file) name (without file names) (eqb-false name.1 file is) rest
    ] in
    all refl
