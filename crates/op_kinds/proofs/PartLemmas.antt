-- A part of a container's line is taken.
use Rattle.std.proofs.Common.{◌≡◌, ℕ, ◌≤◌, List, [], Bool, true, false, cond, Option, None, Some, Result, Ok, Err, IfOk, arith, refl, sym, ap, subst}
use Rattle.std.specs.Prelude.{not, codes, option_map}
use Rattle.std.specs.Ordering.{match_ordering, nat_cmp}
use Rattle.std.specs.Cmp.Lexicographic.{slice_cmp}
use Rattle.std.specs.declared.alloc.AllocError.{AllocError}
use Rattle.std.specs.declared.cmp.Ordering.{Ordering}
use Rattle.std.specs.declared.cmp.Ordering.TheVariants.{Less, Equal, Greater}
use Rattle.container_parser.specs.Told.{with_pod, pod_asked, told_by}
use Rattle.container_parser.specs.declared.line.ContainerLine.{ContainerLine}
use Rattle.container_parser.specs.declared.pod.Pod.{Pod}
use Rattle.entry_model.specs.Datum.{text, Members, no_members, member}
use Rattle.entry_model.specs.Lawful.{members_nesting, NestsWithin}
use Rattle.entry_model.specs.LogRecord.{LogRecord}
use Rattle.field_paths.specs.Members.{with_member}
use Rattle.field_paths.specs.PathText.{IsPathText, root_name}
use Rattle.op_kinds.specs.Inner.Applied.{Effect, IsApplied, effect}
use Rattle.op_kinds.specs.Containers.{whole_body, parts_joined, part_joined}
use Rattle.op_kinds.specs.Grouping.{arrival, if_taken, joined_in}
use Rattle.op_kinds.specs.Kept.{Kept}
use Rattle.op_kinds.specs.Operator.{with_groups, Made as made}
use Rattle.op_kinds.specs.declared.action.Applied.{Applied}
use Rattle.op_kinds.specs.declared.action.Applied.TheVariants.{Done, Faulty}
use Rattle.recombine.proofs.JudgeLemmas.{shallow_is, is_shallow_then, taken_then}
use Rattle.recombine.specs.Group.{Group}
use Rattle.recombine.specs.Joining.{Joining}
use Rattle.recombine.specs.Recombined as join
use Rattle.recombine.specs.Recombined.{joined_text, is_shallow}
use Rattle.state_codec.specs.Limits.{levels}

-- ---- texts nest nothing

text_nests : (name content : List ℕ) (members : Members) → members_nesting (with_member name (text content) members) ≤ members_nesting members
text_nests name content no_members = omega arith
text_nests name content (member other old rest) = by (slice_cmp nat_cmp name other) (text_nests name content rest)
  where
    by : (o : Ordering) → members_nesting (with_member name (text content) rest) ≤ members_nesting rest
        → members_nesting (match_ordering o (member name (text content) (member other old rest)) (member other (text content) rest) (member other old (with_member name (text content) rest)))
        ≤ members_nesting (member other old rest)
    by Less behind = omega arith
    by Equal behind = omega arith
    by Greater behind = omega (arith, behind)

pod_nests : (pod : Option Pod) (resource : Members) → members_nesting (with_pod pod resource) ≤ members_nesting resource
pod_nests None resource = omega arith
pod_nests (Some pod) resource =
    let one = with_member (codes "k8s.container.name") (text pod.container) resource in
    let two = with_member (codes "k8s.container.restart_count") (text pod.restarts) one in
    let three = with_member (codes "k8s.namespace.name") (text pod.namespace) two in
    let four = with_member (codes "k8s.pod.name") (text pod.pod) three in
    omega (
      arith,
      text_nests (codes "k8s.container.name") pod.container resource,
      text_nests (codes "k8s.container.restart_count") pod.restarts one,
      text_nests (codes "k8s.namespace.name") pod.namespace two,
      text_nests (codes "k8s.pod.name") pod.pod three,
      text_nests (codes "k8s.pod.uid") pod.uid four,
    )

pub told_nests : (by_path : Bool) (line : ContainerLine) (entry : LogRecord) → NestsWithin levels entry → NestsWithin levels (told_by by_path line entry)
unfolding told_by
told_nests by_path line entry n = record {
  body = omega arith;
  attributes = omega (arith, n.attributes, text_nests (codes "log.iostream") line.stream entry.attributes);
  resource = omega (arith, n.resource, pod_nests (pod_asked by_path entry) entry.resource);
}

-- ---- the body is the text that is joined

pub told_text : (by_path : Bool) (line : ContainerLine) (entry : LogRecord) → joined_text parts_joined (told_by by_path line entry) ≡ Some line.text
unfolding told_by joined_text
told_text by_path line entry = refl

pub part_taken : (groups : List Group) (by_path : Bool) (line : ContainerLine) (entry : LogRecord) → is_shallow entry ≡ true
    → (m : join.Made) × (joined_in parts_joined groups (arrival line.stream (not line.partial) (told_by by_path line entry)) ≡ Some m)
unfolding joined_in
part_taken groups by_path line entry shallow =
    let arrived = arrival line.stream (not line.partial) (told_by by_path line entry) in
    let still = shallow_is (told_by by_path line entry) (told_nests by_path line entry (is_shallow_then entry shallow)) in
    (_, ap if_taken (taken_then parts_joined groups arrived line.text (told_text by_path line entry) still))

-- what was taken was done, whatever entry would have come back
any_entry : (asked : Option made) (m : made) (one other : LogRecord) (e : Effect) (applied : Applied) → asked ≡ Some m → IsApplied asked one e applied → IsApplied asked other e applied
any_entry asked m one other e Done is did = subst (λ (o : Option made). IsApplied o other e Done) (sym is) (subst (λ (o : Option made). IsApplied o one e Done) is did)
any_entry asked m one other e (Faulty back) is did = absurd (subst (λ (o : Option made). IsApplied o one e (Faulty back)) is did)

pub part_done : (groups : List Group) (by_path : Bool) (line : ContainerLine) (entry : LogRecord) (e : Effect) (applied : Applied) → is_shallow entry ≡ true
    → IsApplied (option_map with_groups (joined_in parts_joined groups (arrival line.stream (not line.partial) (told_by by_path line entry)))) (told_by by_path line entry) e applied
    → IsApplied (option_map with_groups (part_joined groups by_path entry line)) entry e applied
part_done groups by_path line entry e applied shallow did =
    let taken = part_taken groups by_path line entry shallow in
    let asked = option_map with_groups (joined_in parts_joined groups (arrival line.stream (not line.partial) (told_by by_path line entry))) in
    subst (λ (b : Bool). IsApplied (option_map with_groups (cond b (joined_in parts_joined groups (arrival line.stream (not line.partial) (told_by by_path line entry))) None)) entry e applied) (sym shallow)
    (any_entry asked (with_groups taken.0) (told_by by_path line entry) entry e applied (ap (option_map with_groups) taken.1) did)

-- what joining did with what was made of a part
pub part_so : (groups : List Group) (by_path : Bool) (line : ContainerLine) (entry told : LogRecord) (source : List ℕ) (last : Bool) (joining : Joining) (e : Effect) (r : Result Applied AllocError)
    → is_shallow entry ≡ true → joining ≡ parts_joined → source ≡ line.stream → last ≡ not line.partial → told ≡ told_by by_path line entry
    → IfOk r (IsApplied (option_map with_groups (joined_in joining groups (arrival source last told))) told e)
    → IfOk r (IsApplied (option_map with_groups (part_joined groups by_path entry line)) entry e)
part_so groups by_path line entry told source last joining e (Err fault) shallow is source_is last_is told_is did = tt
part_so groups by_path line entry told source last joining e (Ok applied) shallow is source_is last_is told_is did =
    let t = told_by by_path line entry in
    part_done groups by_path line entry e applied shallow
    (subst (λ (j : Joining). IsApplied (option_map with_groups (joined_in j groups (arrival line.stream (not line.partial) t))) t e applied) is
    (subst (λ (b : Bool). IsApplied (option_map with_groups (joined_in joining groups (arrival line.stream b t))) t e applied) last_is
    (subst (λ (s : List ℕ). IsApplied (option_map with_groups (joined_in joining groups (arrival s last t))) t e applied) source_is
    (subst (λ (x : LogRecord). IsApplied (option_map with_groups (joined_in joining groups (arrival source last x))) x e applied) told_is did))))

-- an entry that is nested too deep comes back
pub part_refused : (groups : List Group) (by_path : Bool) (line : ContainerLine) (entry back : LogRecord) (kept : Kept) (out : List (ℕ × LogRecord)) → is_shallow entry ≡ false → back ≡ entry
    → IsApplied (option_map with_groups (part_joined groups by_path entry line)) entry (effect kept kept out out) (Faulty back)
part_refused groups by_path line entry back kept out deep same =
    subst (λ (b : Bool). IsApplied (option_map with_groups (cond b (joined_in parts_joined groups (arrival line.stream (not line.partial) (told_by by_path line entry))) None)) entry (effect kept kept out out) (Faulty back))
    (sym deep) (record { same = same; kept = refl; out = refl })

pub body_text : IsPathText (codes "body") whole_body
unfolding root_name
body_text = record { members = []; is = refl; in_a_row = refl; few = omega arith }
