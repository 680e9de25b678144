-- The last part of a line, where no part stands open: it goes on as it is.
use Rattle.std.proofs.Common.{◌≡◌, ◌∙◌, ℕ, List, [], ◌∷◌, Bool, true, false, cond, Option, None, Some, Result, IfOk, refl, sym, ap, subst}
use Rattle.std.specs.Prelude.{not, bytes_eq, option_map}
use Rattle.std.specs.declared.alloc.AllocError.{AllocError}
use Rattle.container_parser.specs.Told.{told_by}
use Rattle.container_parser.specs.declared.line.ContainerLine.{ContainerLine}
use Rattle.entry_model.specs.LogRecord.{LogRecord}
use Rattle.op_kinds.specs.Containers.{parts_joined, part_joined, whole_line}
use Rattle.op_kinds.specs.Grouping.{arrival, if_taken, joined_in}
use Rattle.op_kinds.specs.Inner.Applied.{Effect, IsApplied}
use Rattle.op_kinds.specs.Kept.{are_none}
use Rattle.op_kinds.specs.Operator.{with_groups}
use Rattle.op_kinds.specs.declared.action.Applied.{Applied}
use Rattle.op_kinds.proofs.PartLemmas.{told_text, told_nests}
use Rattle.recombine.proofs.JudgeLemmas.{taken_then, shallow_is, is_shallow_then}
use Rattle.recombine.proofs.TableLemmas.{is_same}
use Rattle.recombine.specs.Group.{Group}
use Rattle.recombine.specs.Item.{Item}
use Rattle.recombine.specs.Recombined as join
use Rattle.recombine.specs.Recombined.{item_of, entry_of, is_shallow}
use Rattle.recombine.specs.Steps.{opened, has_no_room, after_mark, ended_by_mark, after_room, ended_by_room, after_end, ended_by_end}

either_way : {A : Type 0} (b : Bool) (x : A) → cond b x x ≡ x
either_way true x = refl
either_way false x = refl

none_open : (groups : List Group) → are_none groups ≡ true → groups ≡ []
none_open [] none = refl
none_open (group ∷ others) none = absurd (subst (λ (b : Bool). cond b (⊥) (Unit {0})) none tt)

room_left : (x : Item) → after_room parts_joined [] x ≡ []
unfolding after_room
room_left x = either_way (has_no_room parts_joined [] x) []

none_ended : (x : Item) → ended_by_room parts_joined [] x ≡ []
unfolding ended_by_room
none_ended x = either_way (has_no_room parts_joined [] x) []

made_alone : (x : Item) → x.mark ≡ true → join.made parts_joined [] x ≡ record { groups = []; sent = entry_of parts_joined (opened x) ∷ [] }
unfolding after_mark ended_by_mark after_end ended_by_end
made_alone x marked = rw (room_left x, none_ended x, is_same x.source x.source refl, marked) refl

told_alone : (by_path : Bool) (line : ContainerLine) (entry : LogRecord) (x : Item) → x.text ≡ line.text → x.entry ≡ told_by by_path line entry
    → entry_of parts_joined (opened x) ≡ told_by by_path line entry
unfolding told_by
told_alone by_path line entry x text_is entry_is = rw (text_is, entry_is) refl

pub part_is_whole : (groups : List Group) (by_path : Bool) (line : ContainerLine) (entry : LogRecord) → are_none groups ≡ true → line.partial ≡ false → is_shallow entry ≡ true
    → part_joined groups by_path entry line ≡ whole_line groups by_path entry line
unfolding joined_in
part_is_whole groups by_path line entry none last shallow =
    let told = told_by by_path line entry in
    let arrived = arrival line.stream (not line.partial) told in
    let x = item_of arrived line.text in
    let still = shallow_is told (told_nests by_path line entry (is_shallow_then entry shallow)) in
    let marked : x.mark ≡ true = ap not last in
    rw (none_open groups none, shallow)
    (ap if_taken (taken_then parts_joined [] arrived line.text (told_text by_path line entry) still)
    ∙ ap Some (made_alone x marked)
    ∙ ap (λ (e : LogRecord). Some (record { groups = []; sent = e ∷ [] })) (told_alone by_path line entry x refl refl))

-- what was done with a whole line was done with its last part
pub whole_so : (groups : List Group) (by_path : Bool) (line : ContainerLine) (entry : LogRecord) (e : Effect) (r : Result Applied AllocError)
    → are_none groups ≡ true → line.partial ≡ false → is_shallow entry ≡ true
    → IfOk r (IsApplied (option_map with_groups (whole_line groups by_path entry line)) entry e)
    → IfOk r (IsApplied (option_map with_groups (part_joined groups by_path entry line)) entry e)
whole_so groups by_path line entry e r none last shallow did =
    subst (λ (made : Option join.Made). IfOk r (IsApplied (option_map with_groups made) entry e)) (sym (part_is_whole groups by_path line entry none last shallow)) did
