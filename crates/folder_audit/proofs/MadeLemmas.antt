-- Pipelines that are made one after another, and what comes of it.
use Rattle.std.proofs.Common.{◌≡◌, ◌⊎◌, ℕ, zero, suc, ◌+◌, ◌<◌, List, [], ◌∷◌, ◌++◌, length, refl, sym, subst, ◌∙◌, inl, inr, arith, length-append}
use Rattle.std.specs.Prelude.{Some, slice_get}
use Rattle.std.proofs.lemmas.Option.{same_Some, none-some}
use Rattle.pipeline.specs.declared.Pipeline.{Pipeline}
use Rattle.pipeline.specs.MadeOf.{IsMadeOf}
use Rattle.folder_audit.specs.Made.{ArePipesOf}
use Rattle.folder_audit.specs.Refusals.{IsFirstRefused, IsRefusedText}
use Rattle.folder_audit.specs.declared.fault.AuditFault.{AuditFault}

-- the pipelines are those of the first of the texts
pub record AreMadeSoFar (texts : List (List ℕ)) (pipes : List Pipeline) (n : ℕ) : Type 0 where
  pub many : length pipes ≡ n
  pub each : (place : ℕ) (text : List ℕ) (pipe : Pipeline) → slice_get texts place ≡ Some text → slice_get pipes place ≡ Some pipe → IsMadeOf text pipe

pub at_push : {A : Type 0} (xs : List A) (x : A) (k : ℕ) (y : A) → slice_get (xs ++ x ∷ []) k ≡ Some y → (◌≡◌ {A = ℕ} k (length xs) × (x ≡ y)) ⊎ (slice_get xs k ≡ Some y)
at_push [] x zero y at = inl (refl, same_Some x y at)
at_push [] x (suc k) y at = absurd (none-some y at)
at_push (z ∷ xs) x zero y at = inr at
at_push (z ∷ xs) x (suc k) y at = elim (at_push xs x k y at) [
  | inl last ↦ inl (omega (arith, last.0), last.1)
  | inr before ↦ inr before
]

pub made_none : (texts : List (List ℕ)) → AreMadeSoFar texts [] 0
made_none texts = record { many = refl; each = λ place text pipe at there. absurd (none-some pipe there) }

pub made_more : (texts : List (List ℕ)) (pipes : List Pipeline) (n : ℕ) (text : List ℕ) (pipe : Pipeline) → AreMadeSoFar texts pipes n → slice_get texts n ≡ Some text → IsMadeOf text pipe → AreMadeSoFar texts (pipes ++ pipe ∷ []) (n + 1)
made_more texts pipes n text pipe so_far at made = record {
  many = omega (arith, length-append pipes (pipe ∷ []), so_far.many);
  each = λ place other one other_at there. elim (at_push pipes pipe place one there) [
    | inl last ↦ (
        let here : slice_get texts n ≡ Some other = subst (λ (k : ℕ). slice_get texts k ≡ Some other) (last.0 ∙ so_far.many) other_at in
        subst (IsMadeOf other) last.1 (subst (λ (t : List ℕ). IsMadeOf t pipe) (same_Some text other (sym at ∙ here)) made))
    | inr before ↦ so_far.each place other one other_at before
  ];
}

pub first_refused : (texts : List (List ℕ)) (pipes : List Pipeline) (n : ℕ) (text : List ℕ) (fault : AuditFault) → AreMadeSoFar texts pipes n → slice_get texts n ≡ Some text → IsRefusedText text fault → IsFirstRefused texts fault
first_refused texts pipes n text fault so_far at refused = record {
  earlier = n;
  text = text;
  there = at;
  made = λ place other early there.
      let pipe_at : (pipe : Pipeline) × (slice_get pipes place ≡ Some pipe) = some_at pipes place (omega (arith, early, so_far.many)) in
      (pipe_at.0, so_far.each place other pipe_at.0 there pipe_at.1);
  refused = refused;
} where
  some_at : (xs : List Pipeline) (k : ℕ) → k < length xs → (x : Pipeline) × (slice_get xs k ≡ Some x)
  some_at [] k within = absurd (omega (arith, within))
  some_at (x ∷ xs) zero within = (x, refl)
  some_at (x ∷ xs) (suc k) within = some_at xs k (omega (arith, within))

pub all_made : (texts : List (List ℕ)) (pipes : List Pipeline) (n : ℕ) → n ≡ length texts → AreMadeSoFar texts pipes n → ArePipesOf texts pipes
all_made texts pipes n whole so_far = record { many = so_far.many ∙ whole; each = so_far.each }
