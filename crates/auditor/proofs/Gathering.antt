-- Parts, one after another.
use Rattle.std.proofs.Common.{◌≡◌, ℕ, ◌<◌, List, [], ◌∷◌, ◌++◌, Bool, true, false, ◌&&◌, true≢false, length, map, drop, get_or, refl, sym, ap, ◌∙◌, subst, arith, append_assoc}
use Rattle.std.specs.Prelude.{MatchBool}
use Rattle.checkpoint_store.specs.Rules.{NoneFalls, Rise}
use Rattle.file_tracker.specs.declared.ends.End.{End}
use Rattle.pipeline.specs.AsRules.{rules_of}
use Rattle.pipeline.specs.declared.Pipeline.{Pipeline}
use Rattle.standing.specs.Closed.{Made}
use Rattle.standing.specs.Rows.{Row}
use Rattle.standing.specs.Rules.{Rules}
use Rattle.auditor.specs.Asked.{asked_closed, asked_open, asked_from}
use Rattle.auditor.specs.Inner.Whole.{IsWholeClosed, IsWholeOpen, AreWhole}

-- ---- numbers never fall

pub rise_within : (from : End) (ends : List End) (to : End) → Rise from ends to → NoneFalls from to
rise_within from [] to rise = rise
rise_within from (end ∷ ends) to rise =
    let rest = rise_within end ends to rise.1 in
    record {
      offset = omega (arith, rise.0.offset, rest.offset);
      records = omega (arith, rise.0.records, rest.records);
      lines = omega (arith, rise.0.lines, rest.lines);
    }

-- ---- whether all parts are whole

-- All holds exactly where so far it is known to, and the rest holds.
pub record WholeSo (known : Bool) (Rest All : Type 0) : Type 0 where
  pub forward : All → (known ≡ true) × Rest
  pub back : known ≡ true → Rest → All

pub whole_more : (known is_whole : Bool) (One Rest All : Type 0) → MatchBool is_whole One (One → ⊥) → WholeSo known (One × Rest) All → WholeSo (known && is_whole) Rest All
whole_more true true One Rest All one so = record { forward = λ all. (refl, (so.forward all).1.1); back = λ known rest. so.back refl (one, rest) }
whole_more true false One Rest All one so = record { forward = λ all. absurd (one (so.forward all).1.0); back = λ known rest. absurd (true≢false (sym known)) }
whole_more false is_whole One Rest All one so = record { forward = λ all. absurd (true≢false (sym (so.forward all).0)); back = λ known rest. absurd (true≢false (sym known)) }

pub whole_end : (known is_whole : Bool) (One All : Type 0) → MatchBool is_whole One (One → ⊥) → WholeSo known One All → MatchBool (known && is_whole) All (All → ⊥)
whole_end true true One All one so = so.back refl one
whole_end true false One All one so = λ all. one (so.forward all).1
whole_end false is_whole One All one so = λ all. true≢false (sym (so.forward all).0)

-- ---- the first of a list

pub first_of : {X : Type 0} (xs rest : List X) (x : X) → 0 < length xs → x ≡ get_or xs 0 x → rest ≡ drop 1 xs → xs ≡ x ∷ rest
first_of [] rest x some at e = absurd (omega (arith, some))
first_of (y ∷ xs) rest x some at e = ap (λ z. z ∷ xs) (sym at) ∙ ap (λ ys. x ∷ ys) (sym e)

pub only_one : {X : Type 0} (xs : List X) (x : X) → length xs ≡ 1 → x ≡ get_or xs 0 x → xs ≡ x ∷ []
only_one [] x one at = absurd (omega (arith, one))
only_one (y ∷ []) x one at = ap (λ z. z ∷ []) (sym at)
only_one (y ∷ z ∷ xs) x one at = absurd (omega (arith, one))

pub none_left : {X : Type 0} (xs : List X) → length xs ≡ 0 → xs ≡ []
none_left [] none = refl
none_left (x ∷ xs) none = absurd (omega (arith, none))

-- ---- a part more

module _ (content : List ℕ) (row : Row) (from : End) where
  abbrev rules_in : List Pipeline → List Rules
  rules_in pipes = map (rules_of []) pipes

  pub asked_more : (left rest : List Pipeline) (pipe : Pipeline) (ends later : List End) (end : End) (so_far one all : List Made) → left ≡ pipe ∷ rest → ends ≡ end ∷ later
      → one ≡ asked_closed (rules_of [] pipe) content row.path from end → so_far ++ asked_from (rules_in left) content row from ends ≡ all
      → (so_far ++ one) ++ asked_from (rules_in rest) content row end later ≡ all
  asked_more left rest pipe ends later end so_far one all l e is so =
      append_assoc so_far one (asked_from (rules_in rest) content row end later)
      ∙ ap (λ (ms : List Made). so_far ++ (ms ++ asked_from (rules_in rest) content row end later)) is
      ∙ ap (λ (ps : List Pipeline). so_far ++ asked_from (rules_in ps) content row from (end ∷ later)) (sym l)
      ∙ ap (λ (es : List End). so_far ++ asked_from (rules_in left) content row from es) (sym e) ∙ so

  pub asked_last : (left : List Pipeline) (pipe : Pipeline) (ends : List End) (so_far one all : List Made) → left ≡ pipe ∷ [] → ends ≡ []
      → one ≡ asked_open (rules_of [] pipe) content row from → so_far ++ asked_from (rules_in left) content row from ends ≡ all → so_far ++ one ≡ all
  asked_last left pipe ends so_far one all l e is so =
      ap (λ (ms : List Made). so_far ++ ms) is
      ∙ ap (λ (ps : List Pipeline). so_far ++ asked_from (rules_in ps) content row from []) (sym l)
      ∙ ap (λ (es : List End). so_far ++ asked_from (rules_in left) content row from es) (sym e) ∙ so

  pub whole_step : (left rest : List Pipeline) (pipe : Pipeline) (ends later : List End) (end : End) (known is_whole : Bool) (All : Type 0) → left ≡ pipe ∷ rest → ends ≡ end ∷ later
      → MatchBool is_whole (IsWholeClosed (rules_of [] pipe) content row.path from end) (IsWholeClosed (rules_of [] pipe) content row.path from end → ⊥)
      → WholeSo known (AreWhole (rules_in left) content row from ends) All → WholeSo (known && is_whole) (AreWhole (rules_in rest) content row end later) All
  whole_step left rest pipe ends later end known is_whole All l e one so =
      let here : WholeSo known (AreWhole (rules_in (pipe ∷ rest)) content row from (end ∷ later)) All =
      subst (λ (es : List End). WholeSo known (AreWhole (rules_in (pipe ∷ rest)) content row from es) All) e
      (subst (λ (ps : List Pipeline). WholeSo known (AreWhole (rules_in ps) content row from ends) All) l so) in
      whole_more known is_whole (IsWholeClosed (rules_of [] pipe) content row.path from end) (AreWhole (rules_in rest) content row end later) All one here

  pub whole_last : (left : List Pipeline) (pipe : Pipeline) (ends : List End) (known is_whole : Bool) (All : Type 0) → left ≡ pipe ∷ [] → ends ≡ []
      → MatchBool is_whole (IsWholeOpen (rules_of [] pipe) content row from) (IsWholeOpen (rules_of [] pipe) content row from → ⊥)
      → WholeSo known (AreWhole (rules_in left) content row from ends) All → MatchBool (known && is_whole) All (All → ⊥)
  whole_last left pipe ends known is_whole All l e one so =
      let here : WholeSo known (IsWholeOpen (rules_of [] pipe) content row from) All =
      subst (λ (es : List End). WholeSo known (AreWhole (rules_in (pipe ∷ [])) content row from es) All) e
      (subst (λ (ps : List Pipeline). WholeSo known (AreWhole (rules_in ps) content row from ends) All) l so) in
      whole_end known is_whole (IsWholeOpen (rules_of [] pipe) content row from) All one here
