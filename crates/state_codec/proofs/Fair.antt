-- Readers that look at nothing behind what they take, and blame the first byte or key with which nothing goes on.
use Rattle.std.proofs.Common.{◌≡◌, ℕ, suc, ◌<◌, Bool, true, false, cond, List, [], ◌∷◌, ◌++◌, length, Ok, Err, refl, sym, ap, subst, ◌∙◌, append_assoc, arith, inl, inr, ◌⊎◌}
use Rattle.state_codec.specs.Reading.{Reading, ◌>>=◌}
use Rattle.state_codec.proofs.Numbers.{IsBytes, bytes_behind, bind_ok, ok_is, err_or_ok}

-- what is read stands at the front, whatever follows
pub record Local {Y : Type 0} (reading : List ℕ → Reading Y) (bytes : List ℕ) (x : Y × List ℕ) : Type 0 where
  pub front : List ℕ
  pub parts : bytes ≡ front ++ x.1
  pub left : IsBytes x.1
  pub again : (more : List ℕ) → reading (front ++ more) ≡ Ok (x.0, more)

-- what stands where so many bytes are left: nothing is read that begins with the bytes up to and with it
pub record Blame {Y : Type 0} (Part : List ℕ → Type 0) (reading : List ℕ → Reading Y) (bytes : List ℕ) (left : ℕ) : Type 0 where
  pub before : List ℕ
  pub unit : List ℕ
  pub after : List ℕ
  pub parts : bytes ≡ before ++ (unit ++ after)
  pub left_is : left ≡ length (unit ++ after)
  pub whole : Part unit
  pub stops : (more : List ℕ) (x : Y × List ℕ) → reading (before ++ (unit ++ more)) ≡ Ok x → ⊥

pub record Fair {Y : Type 0} (Part : List ℕ → Type 0) (reading : List ℕ → Reading Y) : Type 0 where
  pub reads : (bytes : List ℕ) (x : Y × List ℕ) → IsBytes bytes → reading bytes ≡ Ok x → Local reading bytes x
  pub blames : (bytes : List ℕ) (left : ℕ) → IsBytes bytes → reading bytes ≡ Err left → 0 < left → Blame Part reading bytes left

abbrev failed : {A : Type 0} → ℕ → Reading A
failed left = Err left

pub err_is : {A : Type 0} (a b : ℕ) → failed {A = A} a ≡ Err b → a ≡ b
err_is a b e = cc

pub fair_wider : {Y : Type 0} (Part Wider : List ℕ → Type 0) → ((unit : List ℕ) → Part unit → Wider unit) → (reading : List ℕ → Reading Y) → Fair Part reading → Fair Wider reading
fair_wider Part Wider wider reading fair = record {
  reads = fair.reads;
  blames = λ bytes left fits e some.
      (let b = fair.blames bytes left fits e some in
      record { before = b.before; unit = b.unit; after = b.after; parts = b.parts; left_is = b.left_is; whole = wider b.unit b.whole; stops = b.stops });
}

-- ---- one reader after another

bind_step : {A B : Type 0} (r : Reading A) (f : A × List ℕ → Reading B) (x : A × List ℕ) → r ≡ Ok x → (r >>= f) ≡ f x
bind_step r f x e = rw e refl

-- behind a front
pub moved : (bytes front rest before tail : List ℕ) → bytes ≡ front ++ rest → rest ≡ before ++ tail → bytes ≡ (front ++ before) ++ tail
moved bytes front rest before tail first second = first ∙ ap (λ (l : List ℕ). front ++ l) second ∙ sym (append_assoc front before tail)

pub fair_bind : {A B : Type 0} {Part : List ℕ → Type 0} (r : List ℕ → Reading A) (f : A × List ℕ → Reading B) → Fair Part r → ((a : A) → Fair Part (λ (bytes : List ℕ). f (a, bytes))) → Fair Part (λ (bytes : List ℕ). r bytes >>= f)
fair_bind {A = A} {B = B} {Part = Part} r f first second = record { reads = reads; blames = λ bytes left fits e some. by_case bytes left fits some (r bytes) refl e }
  where
    reads : (bytes : List ℕ) (x : B × List ℕ) → IsBytes bytes → (r bytes >>= f) ≡ Ok x → Local (λ (b : List ℕ). r b >>= f) bytes x
    reads bytes x fits e =
        let b = bind_ok (r bytes) f x e in
        let one = first.reads bytes b.0 fits b.1 in
        let two = (second b.0.0).reads b.0.1 x one.left b.2 in
        record {
          front = one.front ++ two.front;
          parts = moved bytes one.front b.0.1 two.front x.1 one.parts two.parts;
          left = two.left;
          again = λ more.
              ap (λ (l : List ℕ). r l >>= f) (append_assoc one.front two.front more)
              ∙ bind_step (r (one.front ++ (two.front ++ more))) f (b.0.0, two.front ++ more) (one.again (two.front ++ more)) ∙ two.again more;
        }

    by_case : (bytes : List ℕ) (left : ℕ) → IsBytes bytes → 0 < left → (s : Reading A) → r bytes ≡ s → (s >>= f) ≡ Err left → Blame Part (λ (b : List ℕ). r b >>= f) bytes left
    by_case bytes left fits some (Ok x) is e =
        let one = first.reads bytes x fits is in
        let b = (second x.0).blames x.1 left one.left e some in
        record {
          before = one.front ++ b.before;
          unit = b.unit;
          after = b.after;
          parts = moved bytes one.front x.1 b.before (b.unit ++ b.after) one.parts b.parts;
          left_is = b.left_is;
          whole = b.whole;
          stops = λ more y h.
              b.stops more y
              (sym (bind_step (r (one.front ++ (b.before ++ (b.unit ++ more)))) f (x.0, b.before ++ (b.unit ++ more)) (one.again (b.before ++ (b.unit ++ more))))
              ∙ ap (λ (l : List ℕ). r l >>= f) (sym (append_assoc one.front b.before (b.unit ++ more))) ∙ h);
        }
    by_case bytes left fits some (Err l) is e =
        let same : l ≡ left = err_is {A = B} l left e in
        let b = first.blames bytes left fits (is ∙ ap (λ (k : ℕ). Err k) same) some in
        record {
          before = b.before;
          unit = b.unit;
          after = b.after;
          parts = b.parts;
          left_is = b.left_is;
          whole = b.whole;
          stops = λ more y h. (let x = bind_ok (r (b.before ++ (b.unit ++ more))) f y h in b.stops more x.0 x.1);
        }

pub fair_ok : {Y : Type 0} {Part : List ℕ → Type 0} (y : Y) → Fair Part (λ (bytes : List ℕ). Ok (y, bytes))
fair_ok {Y = Y} y = record {
  reads = λ bytes x fits e.
      subst (λ (p : Y × List ℕ). Local (λ (b : List ℕ). Ok (y, b)) bytes p) (ok_is (y, bytes) x e)
      (record { front = []; parts = refl; left = fits; again = λ more. refl });
  blames = λ bytes left fits e some. absurd cc;
}

-- a reader that never blames
pub fair_alone : {Y : Type 0} {Part : List ℕ → Type 0} (r : List ℕ → Reading Y) → ((bytes : List ℕ) (x : Y × List ℕ) → IsBytes bytes → r bytes ≡ Ok x → Local r bytes x)
    → ((bytes : List ℕ) (left : ℕ) → r bytes ≡ Err left → left ≡ 0) → Fair Part r
fair_alone r reads ends = record { reads = reads; blames = λ bytes left fits e some. absurd (omega (arith, some, ends bytes left e)) }

-- ---- tags

-- what a tag leads to: a reader, or nothing at all
abbrev pub IsBranch : {Y : Type 0} → (List ℕ → Type 0) → (List ℕ → Reading Y) → Type 0
IsBranch Part branch = Fair Part branch ⊎ ((rest : List ℕ) → branch rest ≡ Err (suc (length rest)))

pub chosen_branch : {Y : Type 0} {Part : List ℕ → Type 0} (b : Bool) (one other : List ℕ → Reading Y) → IsBranch Part one → IsBranch Part other → IsBranch Part (λ (rest : List ℕ). cond b (one rest) (other rest))
chosen_branch true one other first second = first
chosen_branch false one other first second = second

pub fair_tagged : {Y : Type 0} (Part : List ℕ → Type 0) → ((byte : ℕ) → Part (byte ∷ [])) → (r : List ℕ → Reading Y) (branch : ℕ → List ℕ → Reading Y) → r [] ≡ Err 0 → ((tag : ℕ) (rest : List ℕ) → r (tag ∷ rest) ≡ branch tag rest) → ((tag : ℕ) → IsBranch Part (branch tag)) → Fair Part r
fair_tagged {Y = Y} Part one_byte r branch empty tagged branches = record { reads = reads; blames = blames }
  where
    reads : (bytes : List ℕ) (x : Y × List ℕ) → IsBytes bytes → r bytes ≡ Ok x → Local r bytes x
    reads [] x fits e = absurd (err_or_ok (r []) 0 x empty e)
    reads (tag ∷ rest) x fits e = elim (branches tag) [
      | inl fair ↦
          let one = fair.reads rest x (bytes_behind tag rest fits) (sym (tagged tag rest) ∙ e) in
          record { front = tag ∷ one.front; parts = ap (λ (l : List ℕ). tag ∷ l) one.parts; left = one.left; again = λ more. tagged tag (one.front ++ more) ∙ one.again more }
      | inr none ↦ absurd (err_or_ok (branch tag rest) (suc (length rest)) x (none rest) (sym (tagged tag rest) ∙ e))
    ]

    blames : (bytes : List ℕ) (left : ℕ) → IsBytes bytes → r bytes ≡ Err left → 0 < left → Blame Part r bytes left
    blames [] left fits e some = absurd (omega (arith, some, err_is {A = Y} 0 left (sym empty ∙ e)))
    blames (tag ∷ rest) left fits e some = elim (branches tag) [
      | inl fair ↦
          let b = fair.blames rest left (bytes_behind tag rest fits) (sym (tagged tag rest) ∙ e) some in
          record {
            before = tag ∷ b.before;
            unit = b.unit;
            after = b.after;
            parts = ap (λ (l : List ℕ). tag ∷ l) b.parts;
            left_is = b.left_is;
            whole = b.whole;
            stops = λ more x h. b.stops more x (sym (tagged tag (b.before ++ (b.unit ++ more))) ∙ h);
          }
      | inr none ↦ record {
        before = [];
        unit = tag ∷ [];
        after = rest;
        parts = refl;
        left_is = sym (err_is {A = Y} (suc (length rest)) left (sym (none rest) ∙ sym (tagged tag rest) ∙ e));
        whole = one_byte tag;
        stops = λ more x h. err_or_ok (branch tag more) (suc (length more)) x (none more) (sym (tagged tag more) ∙ h);
      }
    ]
