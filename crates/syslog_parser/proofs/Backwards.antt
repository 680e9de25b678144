-- From a machine's steps back to what completes its states.
use Rattle.std.proofs.Common.{◌≡◌, ℕ, suc, List, [], ◌∷◌, ◌∙◌, sym, refl, subst, Option, None, Some, Ok, Bool, true, false, ◌==◌, cond, length, eqb-true}
use Rattle.syslog_parser.specs.Machines.{ended, followed, outcome}
use Rattle.syslog_parser.proofs.Running.{outcome-byte, outcome-nil, outcome_goes, outcome_finished}

module _ {State : Type 0} (Completes : State → List ℕ → Type 0) where
  -- what completes the state that a step leads to completes the one before it
  pub record Back (Target : Type 0) (bytes : List ℕ) (o : Option State) : Type 0 where
    pub back : (n : State) → o ≡ Some n → Completes n bytes → Target

  module _ (bytes : List ℕ) where
    pub none_back : {Target : Type 0} → Back Target bytes None
    none_back = record { back = λ n e c. absurd (cc e) }

    pub some_back : {Target : Type 0} (s : State) → (Completes s bytes → Target) → Back Target bytes (Some s)
    some_back s f = record { back = λ n e c. let same : n ≡ s = cc e in f (subst (λ (t : State). Completes t bytes) same c) }

    pub if_back : {Target : Type 0} (b : Bool) (m n : Option State) → (b ≡ true → Back Target bytes m) → (b ≡ false → Back Target bytes n) → Back Target bytes (cond b m n)
    if_back true m n f g = f refl
    if_back false m n f g = g refl

    pub on_back : (Target : ℕ → Type 0) (byte k : ℕ) (m n : Option State) → Back (Target k) bytes m → ((byte == k) ≡ false → Back (Target byte) bytes n)
        → Back (Target byte) bytes (cond (byte == k) m n)
    on_back Target byte k m n f g = if_back (byte == k) m n (λ e. subst (λ (b : ℕ). Back (Target b) bytes m) (sym (eqb-true byte k e)) f) g

    pub then_back : {Target Other : Type 0} (o : Option State) → (Target → Other) → Back Target bytes o → Back Other bytes o
    then_back o f b = record { back = λ n e c. f (b.back n e c) }

module _ {State V : Type 0} (step : State → ℕ → Option State) (value_at : State → Option V) where
  -- what is read to its end completes its state
  module _ (Completes : State → List ℕ → Type 0)
      (step_back : (bytes : List ℕ) (s : State) (byte : ℕ) → Back Completes (Completes s (byte ∷ bytes)) bytes (step s byte))
      (at_end : (s : State) (v : V) → value_at s ≡ Some v → Completes s []) where
    pub completed : (text : List ℕ) (s : State) (v : V) → outcome step value_at s text ≡ Ok v → Completes s text
    completed [] s v e = by (value_at s) refl (sym (outcome-nil step value_at s) ∙ e)
      where
        by : (o : Option V) → value_at s ≡ o → ended step value_at o ≡ Ok v → Completes s []
        by None is e = absurd (cc e)
        by (Some w) is e = at_end s w is
    completed (byte ∷ text) s v e = by (step s byte) refl (sym (outcome-byte step value_at s byte text) ∙ e) (λ t. completed text t v)
      where
        by : (o : Option State) → step s byte ≡ o → followed step value_at (λ next. outcome step value_at next text) (suc (length text)) o ≡ Ok v
            → ((t : State) → outcome step value_at t text ≡ Ok v → Completes t text) → Completes s (byte ∷ text)
        by None is e rec = absurd (cc e)
        by (Some t) is e rec = (step_back text s byte).back t is (rec t e)

  -- some bytes lead to a value
  pub record Viable (s : State) : Type 0 where
    pub more : List ℕ
    pub v : V
    pub runs : outcome step value_at s more ≡ Ok v

  pub leads : (s t : State) (byte : ℕ) → step s byte ≡ Some t → Viable t → Viable s
  leads s t byte e r = record { more = byte ∷ r.more; v = r.v; runs = outcome_goes step value_at s t byte r.more e ∙ r.runs }

  pub ends_at : (s : State) (v : V) → value_at s ≡ Some v → Viable s
  ends_at s v e = record { more = []; v = v; runs = outcome_finished step value_at s v e }
