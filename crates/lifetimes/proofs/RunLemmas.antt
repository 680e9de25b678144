-- A script runs, event by event.
use Rattle.std.proofs.Common.{◌≡◌, ℕ, ◌+◌, ◌<◌, ◌≤◌, List, [], ◌∷◌, ◌++◌, length, take, get_or, Option, Some, None, sym, ap, subst, ◌∙◌, arith}
use Rattle.std.specs.Prelude.{reverse, slice_get, is_some, Vec}
use Rattle.std.specs.declared.alloc.Global.{Global}
use Rattle.std.proofs.lemmas.List.{reverse-append, length-reverse, take_more, take_all, length-take}
use Rattle.lifetimes.specs.Course.{Course, Begins, Runs, begins, goes_on}
use Rattle.lifetimes.specs.Ended.{history_of, IsEnding, FailsAt, IsScriptFault, CantPoll, CantOpen, CantStep}
use Rattle.lifetimes.specs.Inner.Life.{IsLifeAt, course_of, CameTo, Cant, AreFew}
use Rattle.lifetimes.specs.Inner.Past.{CantOpenBy}
use Rattle.lifetimes.specs.declared.ending.Ending.{Ending}
use Rattle.lifetimes.specs.declared.event.Event.{Event}
use Rattle.lifetimes.specs.declared.fault.ScriptFault.{ScriptFault}
use Rattle.lifetimes.specs.declared.fault.ScriptFault.TheVariants.{Setup, NotOpen, AlreadyOpen, NotLawful, Memory}
use Rattle.lifetimes.specs.declared.life.Life.{Life}
use Rattle.mem_world.specs.MemDisk.{seen_of}
use Rattle.outside.specs.declared.disk.DiskFile.{DiskFile}
use Rattle.pipeline.specs.MadeOf.{HasRules}
use Rattle.poll_core.specs.declared.session.Session.{Session}
use Rattle.standing.specs.Rules.{Rules}

-- The first events of the script came to this life, with these marks.
pub record IsRun (rules : Rules) (script : List Event) (at : ℕ) (life : Life) (marks : List ℕ) : Type 0 where
  pub life_is : IsLifeAt rules (reverse (take at script)) life
  pub runs : Runs rules (reverse (take at script)) (reverse marks) (course_of life)

abbrev pub Run : List ℕ → List Event → ℕ → Life → List ℕ → Type 0
Run text script at life marks = (rules : Rules) × HasRules text rules × IsRun rules script at life marks

pub reverse_push : {X : Type 0} (xs : List X) (x : X) → reverse (xs ++ x ∷ []) ≡ x ∷ reverse xs
reverse_push xs x = reverse-append xs (x ∷ [])

pub next_events : (script : List Event) (at : ℕ) (event : Event) → at < length script → get_or script at event ≡ event → reverse (take (at + 1) script) ≡ event ∷ reverse (take at script)
next_events script at event within is =
    ap reverse (take_more script at event within) ∙ reverse_push (take at script) (get_or script at event) ∙ ap (λ (e : Event). e ∷ reverse (take at script)) is

pub run_begins : (text : List ℕ) (script : List Event) (rules : Rules) (life : Life) → HasRules text rules → IsLifeAt rules [] life → (course_of life).history ≡ [] → ((file : DiskFile) → seen_of life.disk file ≡ []) → life.session ≡ None → Run text script 0 life []
run_begins text script rules life has at empty empty_disk closed =
    let first : Begins (course_of life) = record { history = empty; disk = empty_disk; closed = ap (λ (s : Option Session). is_some s) closed } in
    (rules, has, record { life_is = at; runs = begins (course_of life) first })

pub run_goes_on : (text : List ℕ) (script : List Event) (at : ℕ) (event : Event) (old new : Life) (marks : List ℕ) (mark : ℕ) → at < length script → get_or script at event ≡ event → mark ≡ length (history_of new.tree)
    → ((rules : Rules) (events : List Event) → AreFew events → HasRules text rules → IsLifeAt rules events old → CameTo rules events event old new)
    → length script ≤ 18446744073709551615 → Run text script at old marks → Run text script (at + 1) new (marks ++ mark ∷ [])
run_goes_on text script at event old new marks mark within is mark_is came short run =
    let rules : Rules = run.0 in
    let before : List Event = reverse (take at script) in
    let few : AreFew before = omega (arith, within, short, length-reverse (take at script), length-take at script) in
    let next = came rules before few run.1 run.2.life_is in
    let events_are : event ∷ before ≡ reverse (take (at + 1) script) = sym (next_events script at event within is) in
    let marks_are : length (history_of new.tree) ∷ reverse marks ≡ reverse (marks ++ mark ∷ []) = ap (λ (n : ℕ). n ∷ reverse marks) (sym mark_is) ∙ sym (reverse_push marks mark) in
    let runs : Runs rules (event ∷ before) (length (history_of new.tree) ∷ reverse marks) (course_of new) = goes_on event before (reverse marks) (course_of old) (course_of new) run.2.runs next.comes in (
      rules,
      run.1,
      record {
        life_is = subst (λ (events : List Event). IsLifeAt rules events new) events_are next.life_is;
        runs = subst (λ (ms : List ℕ). Runs rules (reverse (take (at + 1) script)) ms (course_of new)) marks_are (subst (λ (events : List Event). Runs rules events (length (history_of new.tree) ∷ reverse marks) (course_of new)) events_are runs);
      },
    )

abbrev pub ending_of : Life → Vec ℕ Global → Ending
ending_of life marks = record { tree = life.tree; disk = life.disk; polls = life.polls; stops = life.stops; marks = marks }

pub run_ends : (text : List ℕ) (script : List Event) (life : Life) (marks : Vec ℕ Global) → Run text script (length script) life marks.items → IsEnding text script (ending_of life marks)
run_ends text script life marks run =
    let rules : Rules = run.0 in
    let whole : take (length script) script ≡ script = take_all (length script) script (omega arith) in
    let at : IsLifeAt rules (reverse script) life = subst (λ (events : List Event). IsLifeAt rules (reverse events) life) whole run.2.life_is in
    record {
      rules = rules;
      rules_are = run.1;
      ends = record {
        has_session = is_some life.session;
        runs = subst (λ (events : List Event). Runs rules (reverse events) (reverse marks.items) (course_of life)) whole run.2.runs;
        sound = record { each = λ image left. (at.disk.leaves.each image left).sound };
        standing = λ takes. record { each = λ image left. (at.disk.leaves.each image left).standing takes };
        reached = λ takes ends small few. at.reached ends few takes small;
        none_open = λ early. record { each = λ image left. (at.disk.leaves.each image left).none_open early };
        polls = at.polls;
        stops = at.stops;
      };
    }

pub cant_is : (text : List ℕ) (script : List Event) (at : ℕ) (event : Event) (rules : Rules) (marks : List ℕ) (course : Course) (fault : ScriptFault)
    → HasRules text rules → slice_get script at ≡ Some event → Runs rules (reverse (take at script)) marks course → Cant text at event course fault → IsScriptFault text script fault
cant_is text script at event rules marks course (Setup fault) has there runs cant = cant
cant_is text script at event rules marks course (NotOpen here) has there runs cant =
    subst (λ (n : ℕ). FailsAt text script n CantPoll) (sym cant.0) (record { rules = rules; rules_are = has; event = event; there = there; marks = marks; course = course; runs = runs; fails = cant.1 })
cant_is text script at event rules marks course (AlreadyOpen here) has there runs cant =
    subst (λ (n : ℕ). FailsAt text script n CantOpen) (sym cant.0) (record { rules = rules; rules_are = has; event = event; there = there; marks = marks; course = course; runs = runs; fails = cant.1 })
cant_is text script at event rules marks course (NotLawful here) has there runs cant =
    subst (λ (n : ℕ). FailsAt text script n CantStep) (sym cant.0) (record { rules = rules; rules_are = has; event = event; there = there; marks = marks; course = course; runs = runs; fails = cant.1 })
cant_is text script at event rules marks course Memory has there runs cant = tt

pub refused_is : (text : List ℕ) (script : List Event) (fault : ScriptFault) → CantOpenBy text fault → IsScriptFault text script fault
refused_is text script (Setup fault) cant = cant
refused_is text script (NotOpen at) cant = absurd cant
refused_is text script (AlreadyOpen at) cant = absurd cant
refused_is text script (NotLawful at) cant = absurd cant
refused_is text script Memory cant = tt
