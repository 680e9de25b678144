use Rattle.std.proofs.Common.{◌≡◌, ℕ, ◌<◌, ◌∙◌, ap, sym, subst, List, All, Option, None, Some, length, option_map, arith}
use Rattle.std.proofs.Math.Logic.{∥∥₁_elim}
use Rattle.std.proofs.lemmas.List.{get_or_default, get_or_past, length-map}
use Rattle.std.specs.String.{string_bytes}
use base.Stored.{Coded-set}
use mathlib.Core.Bool.{Bool-set}
use Rattle.regex.proofs.RoomLemmas.{engine_has_room}
use Rattle.regex.specs.Locations.{location, location_count}
use Rattle.regex.specs.Names.{names_of}
use Rattle.regex.specs.Strings.{matcher_pattern, regex_source}
use Rattle.regex.specs.Views.{engine_width}
use Rattle.entry_model.specs.Code.{members_code}
use Rattle.entry_model.specs.Seen.{seen}
use Rattle.text_parsers.specs.Groups.{reading, found_in}
use Rattle.std.specs.Str.{IsCharBoundary}
use Rattle.text_parsers.specs.ReadByDefault.{IsCleanSpan}
use Rattle.text_parsers.proofs.Matching.{no_match, some_match, matched, none_of, some_of, locations_are_clean}
use Rattle.text_parsers.proofs.search.Search.members.Goals as goal

pub returns-in-None-clause-fault : goal.returns-in-None-clause-fault
returns-in-None-clause-fault c =
    let search = c.args.self.now in
    let regex = search.pattern.now.regex in
    let text = c.args.text.now in
    none_of (found_in (reading (regex_source regex)) text)
    (∥∥₁_elim search.same (Bool-set _ _) (λ same. ∥∥₁_elim search.pattern.now.read (Bool-set _ _) (λ read.
    no_match (regex_source regex) text regex.pattern.program.hir (names_of regex.pattern.names.items) (λ k d h. rw (get_or_default text k d 0 h) (let small = c.type_inv.text k in omega (arith, small)))
    (rw read.0 at read.1) (matcher_pattern search.matcher) same c.in-None.ensures.found)))

pub name_groups-requires : goal.name_groups-requires
name_groups-requires c =
    let search = c.args.self.now in
    let text = c.args.text.now in
    let found = c.in-Some.ensures.found in
    let locations = c.captures_read.new.locations in
    let whole = c.in-Some.field-0 in
    locations_are_clean (matcher_pattern search.matcher) text found.0 (engine_width search.matcher.engine) (engine_has_room search.matcher.engine) c.utf8.text search.matcher.whole_characters found.1
    (location locations) (location_count locations)
    (λ l. subst (λ (o : Option (ℕ × ℕ)). IsCleanSpan text o) (sym (found.2.1.0 l ∙ ap Some (sym found.2.0)))
    (whole.ordered, subst (λ (h : List ℕ). IsCharBoundary h whole.start) c.in-Some.ensures.within whole.starts_cleanly, subst (λ (h : List ℕ). IsCharBoundary h whole.end) c.in-Some.ensures.within whole.ends_cleanly))
    found.2.1.1
    (λ n l. get_or_past locations.spans.items n None (let size = locations.spans.ok.0 in omega arith))

pub returns-in-Ok-clause-ok : goal.returns-in-Ok-clause-ok
returns-in-Ok-clause-ok c =
    let search = c.args.self.now in
    let regex = search.pattern.now.regex in
    let text = c.args.text.now in
    let names = names_of regex.pattern.names.items in
    let found = c.in-Some.ensures.found in
    let locations = c.captures_read.new.locations in
    let small : All (λ b. b < 256) text = (λ k d h. rw (get_or_default text k d 0 h) (let small = c.type_inv.text k in omega (arith, small))) in
    let n = some_of (found_in (reading (regex_source regex)) text)
    (∥∥₁_elim search.same (Bool-set _ _) (λ same. ∥∥₁_elim search.pattern.now.read (Bool-set _ _) (λ read.
    some_match (regex_source regex) text regex.pattern.program.hir names small (rw read.0 at read.1) (matcher_pattern search.matcher) same found.0 found.1))) in
    let count : location_count locations ≡ length names =
    c.captures_read.ensures.count ∙ search.room ∙ regex.pattern.names.ok.0 ∙ sym (length-map regex.pattern.names.items (option_map string_bytes)) in
    record {
      found = n.0;
      is = n.1;
      members_are = ∥∥₁_elim search.same (Coded-set members_code _ _) (λ same. ∥∥₁_elim search.pattern.now.read (Coded-set members_code _ _) (λ read.
          matched (regex_source regex) text regex.pattern.program.hir names small (rw read.0 at read.1) (matcher_pattern search.matcher) same found.0 found.1 n.0 n.1
          (location locations) (location_count locations) count found.2.1.1 c.args.groups.now c.requires (seen c.in-Ok.members.entries) c.in-Ok.ensures));
    }
