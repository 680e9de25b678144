-- Which entries are taken, and what a step answers.
use Rattle.std.proofs.Common.{◌≡◌, ◌↔◌, ℕ, Bool, true, false, true≢false, List, ◌++◌, Option, Some, None, refl, sym, ap, subst, ◌∙◌, leb, inl, inr}
use Rattle.std.specs.Prelude.{Result, Ok, Err, ◌&&◌, IsTrue}
use Rattle.std.proofs.lemmas.Bool.{leb-true, le-leb, and_parts, and_from, cases_Bool}
use Rattle.entry_model.specs.Datum.{fields}
use Rattle.entry_model.specs.Lawful.{nesting, NestsWithin}
use Rattle.entry_model.specs.LogRecord.{LogRecord, log_record}
use Rattle.entry_model.specs.declared.entry.Entry.{Entry}
use Rattle.state_codec.specs.Limits.{levels}
use Rattle.recombine.specs.Group.{Group}
use Rattle.recombine.specs.Item.{Item}
use Rattle.recombine.specs.Joining.{Joining}
use Rattle.recombine.specs.Recombined.{Arrival, Refusal, not_text, too_deep, joined_text, is_shallow, item_of, judged, Made, made, with_taken, recombined, entries_of}
use Rattle.recombine.specs.Steps.{after, ended}
use Rattle.recombine.specs.Stepped.{Effect, IsStepped}
use Rattle.recombine.specs.declared.fault.StepFault.TheVariants.{NotText, TooDeep, Memory}

-- ---- how deep an entry is nested

pub shallow_is : (e : LogRecord) → NestsWithin levels e → is_shallow e ≡ true
unfolding is_shallow
shallow_is e n =
    and_from (leb (nesting e.body) levels) (leb (nesting (fields e.attributes)) levels && leb (nesting (fields e.resource)) levels) (le-leb (nesting e.body) levels n.body)
    (and_from (leb (nesting (fields e.attributes)) levels) (leb (nesting (fields e.resource)) levels) (le-leb (nesting (fields e.attributes)) levels n.attributes) (le-leb (nesting (fields e.resource)) levels n.resource))

pub is_shallow_then : (e : LogRecord) → is_shallow e ≡ true → NestsWithin levels e
unfolding is_shallow
is_shallow_then e is =
    let one = and_parts (leb (nesting e.body) levels) (leb (nesting (fields e.attributes)) levels && leb (nesting (fields e.resource)) levels) is in
    let two = and_parts (leb (nesting (fields e.attributes)) levels) (leb (nesting (fields e.resource)) levels) one.1 in
    record {
      body = leb-true (nesting e.body) levels one.0;
      attributes = leb-true (nesting (fields e.attributes)) levels two.0;
      resource = leb-true (nesting (fields e.resource)) levels two.1;
    }

pub deep_is : (e : LogRecord) (b : Bool) → (IsTrue b ↔ NestsWithin levels e) → b ≡ false → is_shallow e ≡ false
deep_is e b iff isnt = elim (cases_Bool (is_shallow e)) [
  | inl is ↦ absurd (true≢false (sym (iff.1 (is_shallow_then e is)) ∙ isnt))
  | inr other ↦ other
]

-- ---- which are taken

judged_none : (a : Arrival) (o : Option (List ℕ)) (b : Bool) → o ≡ None → judged a o b ≡ Err not_text
judged_none a o b none = ap (λ (p : Option (List ℕ)). judged a p b) none

judged_deep : (a : Arrival) (o : Option (List ℕ)) (b : Bool) (text : List ℕ) → o ≡ Some text → b ≡ false → judged a o b ≡ Err too_deep
judged_deep a o b text some deep = ap (λ (p : Option (List ℕ)). judged a p b) some ∙ ap (judged a (Some text)) deep

judged_ok : (a : Arrival) (o : Option (List ℕ)) (b : Bool) (text : List ℕ) → o ≡ Some text → b ≡ true → judged a o b ≡ Ok (item_of a text)
judged_ok a o b text some shallow = ap (λ (p : Option (List ℕ)). judged a p b) some ∙ ap (judged a (Some text)) shallow

-- ---- what a step answers

module _ (j : Joining) (gs : List Group) (a : Arrival) where
  pub not_text_then : joined_text j a.entry ≡ None → recombined j gs a ≡ Err not_text
  not_text_then none = ap (with_taken j gs) (judged_none a (joined_text j a.entry) (is_shallow a.entry) none)

  pub too_deep_then : (text : List ℕ) → joined_text j a.entry ≡ Some text → is_shallow a.entry ≡ false → recombined j gs a ≡ Err too_deep
  too_deep_then text some deep = ap (with_taken j gs) (judged_deep a (joined_text j a.entry) (is_shallow a.entry) text some deep)

  pub taken_then : (text : List ℕ) → joined_text j a.entry ≡ Some text → is_shallow a.entry ≡ true → recombined j gs a ≡ Ok (made j gs (item_of a text))
  taken_then text some shallow = ap (with_taken j gs) (judged_ok a (joined_text j a.entry) (is_shallow a.entry) text some shallow)

pub memory_says_nothing : (r : Result Made Refusal) (entry : LogRecord) (e : Effect) → IsStepped r entry e (Err Memory)
memory_says_nothing (Ok made) entry e = tt
memory_says_nothing (Err not_text) entry e = tt
memory_says_nothing (Err too_deep) entry e = tt

pub gives_back_not_text : (r : Result Made Refusal) → r ≡ Err not_text → (back : Entry) (e : Effect) → e.groups_then ≡ e.groups → e.out_then ≡ e.out → IsStepped r (log_record back) e (Err (NotText back))
gives_back_not_text r is back e groups out =
    subst (λ (s : Result Made Refusal). IsStepped s (log_record back) e (Err (NotText back))) (sym is) (record { same = refl; groups = groups; out = out })

pub gives_back_too_deep : (r : Result Made Refusal) → r ≡ Err too_deep → (back : Entry) (e : Effect) → e.groups_then ≡ e.groups → e.out_then ≡ e.out → IsStepped r (log_record back) e (Err (TooDeep back))
gives_back_too_deep r is back e groups out =
    subst (λ (s : Result Made Refusal). IsStepped s (log_record back) e (Err (TooDeep back))) (sym is) (record { same = refl; groups = groups; out = out })

pub puts_made : (r : Result Made Refusal) (j : Joining) (gs : List Group) (x : Item) → r ≡ Ok (made j gs x) → (entry : LogRecord) (e : Effect) → e.groups_then ≡ after j gs x → e.out_then ≡ e.out ++ entries_of j (ended j gs x)
    → IsStepped r entry e (Ok tt)
puts_made r j gs x is entry e groups out =
    subst (λ (s : Result Made Refusal). IsStepped s entry e (Ok tt)) (sym is) (record { groups = groups; out = out })
