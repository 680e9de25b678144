-- A kind of value with its spelling, its rules and its reading, which belong together; and how kinds are put together.
use Rattle.std.proofs.Common.{◌≡◌, ℕ, zero, suc, ◌<◌, Bool, true, false, cond, List, [], ◌∷◌, ◌++◌, length, Ok, Err, refl, sym, ap, subst, ◌∙◌, append_assoc}
use Rattle.std.proofs.lemmas.List.{append-nil}
use Rattle.std.specs.Prelude.{⊤}
use Rattle.std.specs.List.{flat_map}
use Rattle.state_codec.specs.Reading.{Reading, ◌>>=◌}
use Rattle.state_codec.proofs.Numbers.{IsBytes, Takes, takes_both, bind_ok, ok_is}
use Rattle.state_codec.proofs.Fair.{Local, Blame, Fair, fair_bind, fair_ok, moved, err_is}
use Rattle.checkpoint_store.specs.DeadEnds.{IsPart}
use Rattle.checkpoint_store.specs.Reading.{list_at}

-- what is read is spelled and keeps the rules, what keeps them is read again, and a part is blamed with which nothing goes on
pub record IsFormat {Y : Type 0} (spelling : Y → List ℕ) (Keeps : Y → Type 0) (reading : List ℕ → Reading Y) : Type 0 where
  pub takes : (bytes : List ℕ) (x : Y × List ℕ) → IsBytes bytes → reading bytes ≡ Ok x → Takes bytes (spelling x.0) x.1 × Keeps x.0
  pub again : (y : Y) (rest : List ℕ) → Keeps y → reading (spelling y ++ rest) ≡ Ok (y, rest)
  pub blames : (bytes : List ℕ) (left : ℕ) → IsBytes bytes → reading bytes ≡ Err left → 0 < left → Blame IsPart reading bytes left

pub fair_format : {Y : Type 0} {spelling : Y → List ℕ} {Keeps : Y → Type 0} {reading : List ℕ → Reading Y} → IsFormat spelling Keeps reading → Fair IsPart reading
fair_format {Y = Y} {spelling = spelling} {reading = reading} format = record { reads = reads; blames = format.blames }
  where
    reads : (bytes : List ℕ) (x : Y × List ℕ) → IsBytes bytes → reading bytes ≡ Ok x → Local reading bytes x
    reads bytes x fits e =
        let t = format.takes bytes x fits e in
        record { front = spelling x.0; parts = t.0.parts; left = t.0.left; again = λ more. format.again x.0 more t.1 }

-- the same said otherwise, as far as the rules are kept
pub format_by : {Y : Type 0} {spelling other : Y → List ℕ} {Keeps Others : Y → Type 0} {reading : List ℕ → Reading Y} → IsFormat spelling Keeps reading
    → ((y : Y) → Keeps y → spelling y ≡ other y) → ((y : Y) → Keeps y → Others y) → ((y : Y) → Others y → Keeps y) → IsFormat other Others reading
format_by {reading = reading} format same to back = record {
  takes = λ bytes x fits e. (let t = format.takes bytes x fits e in (subst (λ (l : List ℕ). Takes bytes l x.1) (same x.0 t.1) t.0, to x.0 t.1));
  again = λ y rest keeps. ap (λ (l : List ℕ). reading (l ++ rest)) (sym (same y (back y keeps))) ∙ format.again y rest (back y keeps);
  blames = format.blames;
}

pub format_as : {Y : Type 0} {spelling other : Y → List ℕ} {Keeps Others : Y → Type 0} {reading : List ℕ → Reading Y} → IsFormat spelling Keeps reading
    → ((y : Y) → spelling y ≡ other y) → ((y : Y) → Keeps y → Others y) → ((y : Y) → Others y → Keeps y) → IsFormat other Others reading
format_as format same to back = format_by format (λ y keeps. same y) to back

-- one value, for which nothing stands
pub silent_format : {Y : Type 0} (y : Y) → IsFormat (λ (x : Y). []) (λ (x : Y). x ≡ y) (λ (bytes : List ℕ). Ok (y, bytes))
silent_format {Y = Y} y = record {
  takes = λ bytes x fits e.
      subst (λ (p : Y × List ℕ). Takes bytes [] p.1 × (p.0 ≡ y)) (ok_is (y, bytes) x e) (record { parts = refl; left = fits }, refl);
  again = λ x rest is. ap (λ (k : Y). Ok (k, rest)) (sym is);
  blames = λ bytes left fits e some. absurd cc;
}

step_ok : {A B : Type 0} (r : Reading A) (f : A × List ℕ → Reading B) (x : A × List ℕ) → r ≡ Ok x → (r >>= f) ≡ f x
step_ok r f x e = rw e refl

-- a field, and all that stands behind it
pub then_format : {A B : Type 0} {one : A → List ℕ} {other : B → List ℕ} {Keeps : A → Type 0} {Others : A → B → Type 0} {r : List ℕ → Reading A} (field : B → A) (f : A × List ℕ → Reading B)
    → IsFormat one Keeps r → ((a : A) → Keeps a → IsFormat other (Others a) (λ (bytes : List ℕ). f (a, bytes))) → ((a : A) (b : B) → Others a b → field b ≡ a)
    → IsFormat (λ (b : B). one (field b) ++ other b) (λ (b : B). Keeps (field b) × Others (field b) b) (λ (bytes : List ℕ). r bytes >>= f)
then_format {A = A} {B = B} {one = one} {other = other} {Keeps = Keeps} {Others = Others} {r = r} field f first second same = record {
  takes = takes;
  again = λ y rest keeps.
      ap (λ (l : List ℕ). r l >>= f) (append_assoc (one (field y)) (other y) rest)
      ∙ step_ok (r (one (field y) ++ (other y ++ rest))) f (field y, other y ++ rest) (first.again (field y) (other y ++ rest) keeps.0)
      ∙ (second (field y) keeps.0).again y rest keeps.1;
  blames = λ bytes left fits e some. by_case bytes left fits some (r bytes) refl e;
}
  where
    takes : (bytes : List ℕ) (x : B × List ℕ) → IsBytes bytes → (r bytes >>= f) ≡ Ok x → Takes bytes (one (field x.0) ++ other x.0) x.1 × (Keeps (field x.0) × Others (field x.0) x.0)
    takes bytes x fits e =
        let b = bind_ok (r bytes) f x e in
        let t = first.takes bytes b.0 fits b.1 in
        let u = (second b.0.0 t.1).takes b.0.1 x t.0.left b.2 in
        subst (λ (a : A). Takes bytes (one a ++ other x.0) x.1 × (Keeps a × Others a x.0)) (sym (same b.0.0 x.0 u.1)) (takes_both bytes (one b.0.0) b.0.1 (other x.0) x.1 t.0 u.0, (t.1, u.1))

    by_case : (bytes : List ℕ) (left : ℕ) → IsBytes bytes → 0 < left → (s : Reading A) → r bytes ≡ s → (s >>= f) ≡ Err left → Blame IsPart (λ (b : List ℕ). r b >>= f) bytes left
    by_case bytes left fits some (Ok x) is e =
        let t = first.takes bytes x fits is in
        let b = (second x.0 t.1).blames x.1 left t.0.left e some in
        record {
          before = one x.0 ++ b.before;
          unit = b.unit;
          after = b.after;
          parts = moved bytes (one x.0) x.1 b.before (b.unit ++ b.after) t.0.parts b.parts;
          left_is = b.left_is;
          whole = b.whole;
          stops = λ more y h.
              b.stops more y
              (sym (step_ok (r (one x.0 ++ (b.before ++ (b.unit ++ more)))) f (x.0, b.before ++ (b.unit ++ more)) (first.again x.0 (b.before ++ (b.unit ++ more)) t.1))
              ∙ ap (λ (l : List ℕ). r l >>= f) (sym (append_assoc (one x.0) b.before (b.unit ++ more))) ∙ h);
        }
    by_case bytes left fits some (Err l) is e =
        let left_is : l ≡ left = err_is {A = B} l left e in
        let b = first.blames bytes left fits (is ∙ ap (λ (k : ℕ). Err k) left_is) some in
        record {
          before = b.before;
          unit = b.unit;
          after = b.after;
          parts = b.parts;
          left_is = b.left_is;
          whole = b.whole;
          stops = λ more y h. (let x = bind_ok (r (b.before ++ (b.unit ++ more))) f y h in b.stops more x.0 x.1);
        }

-- the last field of what is built
pub last_format : {A B : Type 0} {one : A → List ℕ} {Keeps : A → Type 0} {r : List ℕ → Reading A} (field : B → A) (build : A → B) → ((a : A) → field (build a) ≡ a)
    → IsFormat one Keeps r → IsFormat (λ (b : B). one (field b)) (λ (b : B). Keeps (field b) × (b ≡ build (field b))) (λ (bytes : List ℕ). r bytes >>= λ a. Ok (build a.0, a.1))
last_format field build same format =
    format_as (then_format field _ format (λ a keeps. silent_format (build a)) (λ a b is. ap field is ∙ same a)) (λ b. append-nil _) (λ b keeps. keeps) (λ b keeps. keeps)

-- one way or the other
pub chosen_format : {Y : Type 0} (b : Bool) (one other : Y → List ℕ) (Keeps : Y → Type 0) (r s : List ℕ → Reading Y) → (b ≡ true → IsFormat one Keeps r) → (b ≡ false → IsFormat other Keeps s)
    → IsFormat (λ (y : Y). cond b (one y) (other y)) Keeps (λ (bytes : List ℕ). cond b (r bytes) (s bytes))
chosen_format true one other Keeps r s first second = first refl
chosen_format false one other Keeps r s first second = second refl

-- ---- lists

-- so many, each by the rules at its place
abbrev pub KeepAll : {S Y : Type 0} → (S → ℕ → Y → Type 0) → (S → Y → S) → S → ℕ → List Y → Type 0
KeepAll Keeps next known zero [] = ⊤
KeepAll Keeps next known zero (y ∷ ys) = ⊥
KeepAll Keeps next known (suc n) [] = ⊥
KeepAll Keeps next known (suc n) (y ∷ ys) = Keeps known n y × KeepAll Keeps next (next known y) n ys

none_format : {S Y : Type 0} (spelling : Y → List ℕ) (Keeps : S → ℕ → Y → Type 0) (read : S → ℕ → List ℕ → Reading Y) (next : S → Y → S) (known : S)
    → IsFormat (flat_map spelling) (KeepAll Keeps next known zero) (λ (bytes : List ℕ). list_at read next known zero bytes)
none_format {Y = Y} spelling Keeps read next known = record {
  takes = λ bytes x fits e.
      subst (λ (p : List Y × List ℕ). Takes bytes (flat_map spelling p.0) p.1 × KeepAll Keeps next known zero p.0) (ok_is ([], bytes) x e) (record { parts = refl; left = fits }, tt);
  again = again;
  blames = λ bytes left fits e some. absurd cc;
}
  where
    again : (ys : List Y) (rest : List ℕ) → KeepAll Keeps next known zero ys → list_at read next known zero (flat_map spelling ys ++ rest) ≡ Ok (ys, rest)
    again [] rest keeps = refl
    again (y ∷ ys) rest keeps = absurd keeps

more_format : {S Y : Type 0} (spelling : Y → List ℕ) (Keeps : S → ℕ → Y → Type 0) (read : S → ℕ → List ℕ → Reading Y) (next : S → Y → S) (known : S) (n : ℕ)
    → IsFormat spelling (Keeps known n) (λ (bytes : List ℕ). read known n bytes)
    → ((known : S) → IsFormat (flat_map spelling) (KeepAll Keeps next known n) (λ (bytes : List ℕ). list_at read next known n bytes))
    → IsFormat (flat_map spelling) (KeepAll Keeps next known (suc n)) (λ (bytes : List ℕ). list_at read next known (suc n) bytes)
more_format {Y = Y} spelling Keeps read next known n first others = record { takes = takes; again = again; blames = fair.blames }
  where
    fair : Fair IsPart (λ (bytes : List ℕ). list_at read next known (suc n) bytes)
    fair =
        fair_bind (λ (bytes : List ℕ). read known n bytes) (λ y. list_at read next (next known y.0) n y.1 >>= λ ys. Ok (y.0 ∷ ys.0, ys.1)) (fair_format first)
        (λ y. fair_bind (λ (bytes : List ℕ). list_at read next (next known y) n bytes) (λ ys. Ok (y ∷ ys.0, ys.1)) (fair_format (others (next known y))) (λ ys. fair_ok (y ∷ ys)))

    takes : (bytes : List ℕ) (x : List Y × List ℕ) → IsBytes bytes → list_at read next known (suc n) bytes ≡ Ok x → Takes bytes (flat_map spelling x.0) x.1 × KeepAll Keeps next known (suc n) x.0
    takes bytes x fits e =
        let y = bind_ok (read known n bytes) (λ y. list_at read next (next known y.0) n y.1 >>= λ ys. Ok (y.0 ∷ ys.0, ys.1)) x e in
        let ys = bind_ok (list_at read next (next known y.0.0) n y.0.1) (λ ys. Ok (y.0.0 ∷ ys.0, ys.1)) x y.2 in
        let t = first.takes bytes y.0 fits y.1 in
        let u = (others (next known y.0.0)).takes y.0.1 ys.0 t.0.left ys.1 in
        subst (λ (p : List Y × List ℕ). Takes bytes (flat_map spelling p.0) p.1 × KeepAll Keeps next known (suc n) p.0) (ok_is (y.0.0 ∷ ys.0.0, ys.0.1) x ys.2)
        (takes_both bytes (spelling y.0.0) y.0.1 (flat_map spelling ys.0.0) ys.0.1 t.0 u.0, (t.1, u.1))

    step : (bytes after rest : List ℕ) (y : Y) (ys : List Y) → read known n bytes ≡ Ok (y, after) → list_at read next (next known y) n after ≡ Ok (ys, rest)
        → list_at read next known (suc n) bytes ≡ Ok (y ∷ ys, rest)
    step bytes after rest y ys one more = rw (one, more) refl

    again : (ys : List Y) (rest : List ℕ) → KeepAll Keeps next known (suc n) ys → list_at read next known (suc n) (flat_map spelling ys ++ rest) ≡ Ok (ys, rest)
    again [] rest keeps = absurd keeps
    again (y ∷ ys) rest keeps =
        ap (list_at read next known (suc n)) (append_assoc (spelling y) (flat_map spelling ys) rest)
        ∙ step (spelling y ++ (flat_map spelling ys ++ rest)) (flat_map spelling ys ++ rest) rest y ys
        (first.again y (flat_map spelling ys ++ rest) keeps.0) ((others (next known y)).again ys rest keeps.1)

pub list_format : {S Y : Type 0} (spelling : Y → List ℕ) (Keeps : S → ℕ → Y → Type 0) (read : S → ℕ → List ℕ → Reading Y) (next : S → Y → S)
    → ((known : S) (n : ℕ) → IsFormat spelling (Keeps known n) (λ (bytes : List ℕ). read known n bytes))
    → (known : S) (n : ℕ) → IsFormat (flat_map spelling) (KeepAll Keeps next known n) (λ (bytes : List ℕ). list_at read next known n bytes)
list_format spelling Keeps read next each known zero = none_format spelling Keeps read next known
list_format spelling Keeps read next each known (suc n) = more_format spelling Keeps read next known n (each known n) (λ after. list_format spelling Keeps read next each after n)

pub count_kept : {S Y : Type 0} (Keeps : S → ℕ → Y → Type 0) (next : S → Y → S) (known : S) (n : ℕ) (ys : List Y) → KeepAll Keeps next known n ys → length ys ≡ n
count_kept Keeps next known zero [] keeps = refl
count_kept Keeps next known zero (y ∷ ys) keeps = absurd keeps
count_kept Keeps next known (suc n) [] keeps = absurd keeps
count_kept Keeps next known (suc n) (y ∷ ys) keeps = ap suc (count_kept Keeps next (next known y) n ys keeps.1)
