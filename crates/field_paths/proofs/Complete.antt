-- The reader reads every text of a path.
use Rattle.std.proofs.Common.{◌≡◌, ◌≢◌, ℕ, ◌+◌, ◌<◌, ◌≤◌, List, [], ◌∷◌, ◌++◌, ◌∙◌, ap, sym, refl, subst, length, Option, Some, option_and_then, Bool, true, false, ◌&&◌, nat_eq, nat_lt, inl, inr, append_assoc, arith, eq-eqb}
use Rattle.std.proofs.lemmas.Bool.Decides.{nat_tests}
use Rattle.std.proofs.lemmas.List.{append-nil}
use Rattle.std.specs.List.{list_all}
use Rattle.field_paths.specs.declared.path.Root.{Root}
use Rattle.field_paths.specs.declared.path.Root.TheVariants.{Body, Attributes, Resource}
use Rattle.field_paths.specs.declared.read.Phase.{Phase}
use Rattle.field_paths.specs.declared.read.Phase.TheVariants as phase
use Rattle.field_paths.specs.Place.{Place}
use Rattle.field_paths.specs.PathText.{InARow, root_name, is_name_byte, is_quote, is_escaped, WritesByte, IsDotted, IsBracketed, WritesMember, IsPathText}
use Rattle.field_paths.specs.Reader.{State, start, begun, gone_on, opened, quoted, step, steps, names_read}

abbrev at : Phase → Root → List ℕ → List (List ℕ) → State
at p root name names = record { phase = p; root = root; name = name; names = names }

-- a state in which a member may follow the names
record Ready (s : State) (root : Root) (names : List (List ℕ)) : Type 0 where
  root_is : s.root ≡ root
  names_are : names_read s ≡ Some names
  dot : length names < 32 → step s 46 ≡ Some (at phase.Dot root [] names)
  bracket : length names < 32 → step s 91 ≡ Some (at phase.Bracket root [] names)

few : (names : List (List ℕ)) → length names < 32 → nat_lt (length names) 32 ≡ true
few names l = grind (arith, nat_tests)

ready_between : (root : Root) (name : List ℕ) (names : List (List ℕ)) → Ready (at phase.Between root name names) root names
unfolding opened
ready_between root name names = record { root_is = refl; names_are = refl; dot = λ l. rw (few names l) refl; bracket = λ l. rw (few names l) refl }

ready_name : (root : Root) (name : List ℕ) (names : List (List ℕ)) → Ready (at phase.Name root name names) root (names ++ name ∷ [])
unfolding opened is_name_byte
ready_name root name names = record { root_is = refl; names_are = refl; dot = λ l. rw (few (names ++ name ∷ []) l) refl; bracket = λ l. rw (few (names ++ name ∷ []) l) refl }

-- what a text leads to, from a state
abbrev Leads : State → List ℕ → State → Type 0
Leads s text t = (rest : List ℕ) → steps s (text ++ rest) ≡ steps t rest

one : (s t : State) (byte : ℕ) (text : List ℕ) (u : State) → step s byte ≡ Some t → Leads t text u → Leads s (byte ∷ text) u
one s t byte text u e l = λ (rest : List ℕ). ap (λ (r : Option State). option_and_then (λ (next : State). steps next (text ++ rest)) r) e ∙ l rest

both : (s t u : State) (front back : List ℕ) → Leads s front t → Leads t back u → Leads s (front ++ back) u
both s t u front back f b = λ (rest : List ℕ). ap (steps s) (append_assoc front back rest) ∙ f (back ++ rest) ∙ b rest

stays : (s : State) → Leads s [] s
stays s = λ (rest : List ℕ). refl

and_left : (a b : Bool) → (a && b) ≡ true → (a ≡ true) × (b ≡ true)
and_left true b h = (refl, h)
and_left false b h = absurd (cc h)

name_step : (root : Root) (name : List ℕ) (names : List (List ℕ)) (byte : ℕ) → is_name_byte byte ≡ true → step (at phase.Name root name names) byte ≡ Some (at phase.Name root (name ++ byte ∷ []) names)
name_step root name names byte e = rw e refl

name_leads : (root : Root) (name : List ℕ) (names : List (List ℕ)) (bytes : List ℕ) → list_all is_name_byte bytes ≡ true → Leads (at phase.Name root name names) bytes (at phase.Name root (name ++ bytes) names)
name_leads root name names [] all = subst (λ (n : List ℕ). Leads (at phase.Name root name names) [] (at phase.Name root n names)) (sym (append-nil name)) (stays (at phase.Name root name names))
name_leads root name names (byte ∷ bytes) all =
    let split = and_left (is_name_byte byte) (list_all is_name_byte bytes) all in
    subst (λ (n : List ℕ). Leads (at phase.Name root name names) (byte ∷ bytes) (at phase.Name root n names)) (append_assoc name (byte ∷ []) bytes)
    (one (at phase.Name root name names) (at phase.Name root (name ++ byte ∷ []) names) byte bytes (at phase.Name root ((name ++ byte ∷ []) ++ bytes) names) (name_step root name names byte split.0)
    (name_leads root (name ++ byte ∷ []) names bytes split.1))

dot_step : (root : Root) (names : List (List ℕ)) (byte : ℕ) → is_name_byte byte ≡ true → step (at phase.Dot root [] names) byte ≡ Some (at phase.Name root (byte ∷ []) names)
dot_step root names byte e = rw e refl

-- the state after a member
record After (s : State) (text : List ℕ) (root : Root) (names : List (List ℕ)) : Type 0 where
  end : State
  leads : Leads s text end
  ready : Ready end root names

dotted : (s : State) (root : Root) (names : List (List ℕ)) (text name : List ℕ) → Ready s root names → length names < 32 → IsDotted text name → After s text root (names ++ name ∷ [])
dotted s root names text [] ready l d = absurd (d.1 refl)
dotted s root names text (byte ∷ bytes) ready l d =
    let split = and_left (is_name_byte byte) (list_all is_name_byte bytes) d.2 in
    record {
      end = at phase.Name root (byte ∷ bytes) names;
      leads = rw d.0 (one s (at phase.Dot root [] names) 46 (byte ∷ bytes) (at phase.Name root (byte ∷ bytes) names) (ready.dot l)
          (one (at phase.Dot root [] names) (at phase.Name root (byte ∷ []) names) byte bytes (at phase.Name root (byte ∷ bytes) names) (dot_step root names byte split.0)
          (name_leads root (byte ∷ []) names bytes split.1)));
      ready = ready_name root (byte ∷ bytes) names;
    }

plain_step : (root : Root) (quote : ℕ) (name : List ℕ) (names : List (List ℕ)) (byte : ℕ) → nat_eq byte quote ≡ false → nat_eq byte 92 ≡ false
    → step (at (phase.Quoted quote) root name names) byte ≡ Some (at (phase.Quoted quote) root (name ++ byte ∷ []) names)
unfolding quoted
plain_step root quote name names byte q b = rw (q, b) refl

escape_step : (root : Root) (quote : ℕ) (name : List ℕ) (names : List (List ℕ)) → nat_eq 92 quote ≡ false
    → step (at (phase.Quoted quote) root name names) 92 ≡ Some (at (phase.Escape quote) root name names)
unfolding quoted
escape_step root quote name names q = rw q refl

escaped_step : (root : Root) (quote : ℕ) (name : List ℕ) (names : List (List ℕ)) (byte : ℕ) → is_escaped byte ≡ true
    → step (at (phase.Escape quote) root name names) byte ≡ Some (at (phase.Quoted quote) root (name ++ byte ∷ []) names)
escaped_step root quote name names byte e = rw e refl

quote_step : (root : Root) (quote : ℕ) (name : List ℕ) (names : List (List ℕ)) → step (at (phase.Quoted quote) root name names) quote ≡ Some (at phase.Closing root name names)
unfolding quoted
quote_step root quote name names = rw (eq-eqb quote quote refl) refl

enter_step : (root : Root) (quote : ℕ) (names : List (List ℕ)) → is_quote quote ≡ true → step (at phase.Bracket root [] names) quote ≡ Some (at (phase.Quoted quote) root [] names)
enter_step root quote names e = rw e refl

unequal : (a b : ℕ) → a ≢ b → nat_eq a b ≡ false
unequal a b h = grind (arith, nat_tests)

no_backslash : (quote : ℕ) → is_quote quote ≡ true → nat_eq 92 quote ≡ false
unfolding is_quote
no_backslash quote e = grind (arith, nat_tests)

inner_leads : (root : Root) (quote : ℕ) (names : List (List ℕ)) (name inner bytes : List ℕ) → is_quote quote ≡ true → InARow (WritesByte quote) inner bytes
    → Leads (at (phase.Quoted quote) root name names) inner (at (phase.Quoted quote) root (name ++ bytes) names)
inner_leads root quote names name inner [] q e = rw (e, append-nil) (stays (at (phase.Quoted quote) root name names))
inner_leads root quote names name inner (byte ∷ bytes) q row = rw row.2
    (subst (λ (n : List ℕ). Leads (at (phase.Quoted quote) root name names) (row.0 ++ row.1) (at (phase.Quoted quote) root n names)) (append_assoc name (byte ∷ []) bytes)
    (both (at (phase.Quoted quote) root name names) (at (phase.Quoted quote) root (name ++ byte ∷ []) names) (at (phase.Quoted quote) root ((name ++ byte ∷ []) ++ bytes) names) row.0 row.1
    (first row.0 row.3) (inner_leads root quote names (name ++ byte ∷ []) row.1 bytes q row.4)))
  where
    done : State
    done = at (phase.Quoted quote) root (name ++ byte ∷ []) names

    first : (part : List ℕ) → WritesByte quote part byte → Leads (at (phase.Quoted quote) root name names) part done
    first part (inl w) = rw w.0 (one (at (phase.Quoted quote) root name names) done byte [] done (plain_step root quote name names byte (unequal byte quote w.1) (unequal byte 92 w.2)) (stays done))
    first part (inr w) = rw w.0 (one (at (phase.Quoted quote) root name names) (at (phase.Escape quote) root name names) 92 (byte ∷ []) done (escape_step root quote name names (no_backslash quote q))
        (one (at (phase.Escape quote) root name names) done byte [] done (escaped_step root quote name names byte w.1) (stays done)))

bracketed : (s : State) (root : Root) (names : List (List ℕ)) (text name : List ℕ) → Ready s root names → length names < 32 → IsBracketed text name → After s text root (names ++ name ∷ [])
bracketed s root names text name ready l b =
    let quote = b.0 in let inner = b.1 in
    let opening = at phase.Bracket root [] names in
    let within = at (phase.Quoted quote) root [] names in
    let read = at (phase.Quoted quote) root name names in
    let closing = at phase.Closing root name names in
    let end = at phase.Between root [] (names ++ name ∷ []) in
    record {
      end = end;
      leads = rw b.3 (one s opening 91 (quote ∷ (inner ++ quote ∷ 93 ∷ [])) end (ready.bracket l)
          (one opening within quote (inner ++ quote ∷ 93 ∷ []) end (enter_step root quote names b.2)
          (both within read end inner (quote ∷ 93 ∷ []) (inner_leads root quote names [] inner name b.2 b.4)
          (one read closing quote (93 ∷ []) end (quote_step root quote name names) (one closing end 93 [] end refl (stays end))))));
      ready = ready_between root [] (names ++ name ∷ []);
    }

member_after : (s : State) (root : Root) (names : List (List ℕ)) (text name : List ℕ) → Ready s root names → length names < 32 → WritesMember text name → After s text root (names ++ name ∷ [])
member_after s root names text name ready l (inl d) = dotted s root names text name ready l d
member_after s root names text name ready l (inr b) = bracketed s root names text name ready l b

length-push : {A : Type 0} (xs : List A) (x : A) → length (xs ++ x ∷ []) ≡ length xs + 1
length-push [] x = refl
length-push (y ∷ ys) x = omega (arith, length-push ys x)

members_after : (s : State) (root : Root) (names more : List (List ℕ)) (text : List ℕ) → Ready s root names → length names + length more ≤ 32 → InARow WritesMember text more → After s text root (names ++ more)
members_after s root names [] text ready l e = rw (e, append-nil) (record { end = s; leads = stays s; ready = ready })
members_after s root names (name ∷ more) text ready l row =
    let first = member_after s root names row.0 name ready (omega arith) row.3 in
    let others = members_after first.end root (names ++ name ∷ []) more row.1 first.ready (omega (arith, length-push names name)) row.4 in
    rw row.2 (record {
      end = others.end;
      leads = both s first.end others.end row.0 row.1 first.leads others.leads;
      ready = subst (λ (n : List (List ℕ)). Ready others.end root n) (append_assoc names (name ∷ []) more) others.ready;
    })

root_leads : (root : Root) → Leads start (root_name root) (at phase.Between root [] [])
unfolding begun gone_on root_name
root_leads Body = λ (rest : List ℕ). refl
root_leads Attributes = λ (rest : List ℕ). refl
root_leads Resource = λ (rest : List ℕ). refl

-- the reader ends in a state with the path's root and names
pub record Read (text : List ℕ) (place : Place) : Type 0 where
  pub end : State
  pub reads : steps start text ≡ Some end
  pub root_is : end.root ≡ place.root
  pub names_are : names_read end ≡ Some place.names

pub read : (text : List ℕ) (place : Place) → IsPathText text place → Read text place
read text place is =
    let root = place.root in
    let after = members_after (at phase.Between root [] []) root [] place.names is.members (ready_between root [] []) (omega (arith, is.few)) is.in_a_row in
    record {
      end = after.end;
      reads = ap (steps start) (is.is ∙ sym (append-nil (root_name root ++ is.members)))
          ∙ both start (at phase.Between root [] []) after.end (root_name root) is.members (root_leads root) after.leads [];
      root_is = after.ready.root_is;
      names_are = after.ready.names_are;
    }
