-- How far a walk has come, level by level, and what it has found in the end.
use Rattle.std.proofs.Common.{◌≡◌, ℕ, suc, ◌+◌, ◌<◌, ◌≤◌, List, [], ◌∷◌, ◌++◌, refl, sym, ap, subst, ◌∙◌, length, map, get_or, inl, inr, ◌⊎◌, arith, length-append, true}
use Rattle.std.proofs.lemmas.Bool.{cases_lt}
use Rattle.std.proofs.lemmas.List.Elements.{Contains-append_left, Contains-append_right, Contains-append_cases}
use Rattle.std.specs.Prelude.{Contains, IsTrue, Option, None, Some}
use Rattle.std.specs.List.{list_all}
use Rattle.std.specs.Str.{IsUtf8}
use Rattle.glob_match.specs.Folder.{folder_of}
use Rattle.glob_match.specs.GlobMatch.{MatchesPath}
use Rattle.glob_match.specs.Leading.{LeadsToMatches}
use Rattle.glob_match.specs.Path as glob_path
use Rattle.glob_match.specs.Pattern.{Pattern}
use Rattle.glob_match.specs.Start.{start}
use Rattle.outside.proofs.Telling.{told_same, told_weaker}
use Rattle.outside.specs.Lawful.{IsLawful, TellsLawful}
use Rattle.outside.specs.Listing.{path_within}
use Rattle.outside.specs.Path.{relative, is_component, is_path, is_below}
use Rattle.outside.specs.TreeMeaning.{TreeMeaning}
use Rattle.outside.specs.World.{History, World, Told}
use Rattle.outside.specs.declared.tree.Kind.TheVariants.{File, Folder}
use Rattle.standing.proofs.MomentLemmas.{later_none, later_then}
use Rattle.standing.specs.Moments.{IsLater}
use Rattle.standing.specs.Pass.{IsOnWay, IsReachable}
use Rattle.tree_walk.proofs.Entering.{counts_none, counts_then}
use Rattle.tree_walk.proofs.FolderLemmas.{parts, front, same_parts, same_folder, some_length, depth_front, front_next, front_whole, name_proper, front_below, front_on_way, depth_child}
use Rattle.tree_walk.proofs.Lists.{contains_none, contains_first, contains_behind, contains_cases, Found, any_found, found_any, distinct_none, distinct_append, distinct_of}
use Rattle.tree_walk.proofs.Worlds.{lawful_before, lists_none, lists_then, once_longer, always_shorter, folder_above}
use Rattle.tree_walk.specs.Calls.{in_32_bits}
use Rattle.tree_walk.specs.Depth.{depth, level_of}
use Rattle.tree_walk.specs.Inner.Entered.{EntersIn, Enters, EntersLevel}
use Rattle.tree_walk.specs.Inner.Finished.{IsFinished}
use Rattle.tree_walk.specs.Inner.Gained.{Gains, IsSorted}
use Rattle.standing.specs.Included.{IsIncluded}
use Rattle.tree_walk.specs.Starts.{IsStart, MayHold}
use Rattle.tree_walk.specs.Inner.Reached.{ReachesIn, Reaches}
use Rattle.tree_walk.specs.Times.{WasAlways}
use Rattle.tree_walk.specs.Walked.{IsHidden, IsMet, FindsIn, Finds}
use Rattle.tree_walk.specs.declared.findings.Findings.{Findings}
use Rattle.tree_walk.specs.Inner.FoundAt.{found_at}
use Rattle.tree_walk.specs.Listings.{failures, listings}
use Rattle.tree_walk.specs.Patterns.{patterns}
use Rattle.tree_walk.specs.declared.walk.Walk.{Walk}

module _ {X Y : Type 0} (f : X → Y) where
  pub mapped : (xs : List X) (y : Y) → Contains (map f xs) y → Found (λ x. y ≡ f x) xs
  mapped [] y c = absurd (contains_none y c)
  mapped (x ∷ xs) y c = elim (contains_cases (f x) (map f xs) y c) [
    | inl same ↦ record { one = x; there = contains_first x xs; holds = sym same }
    | inr behind ↦ (let found = mapped xs y behind in record { one = found.one; there = contains_behind x xs found.one found.there; holds = found.holds })
  ]

  pub map_has : (xs : List X) (x : X) → Contains xs x → Contains (map f xs) (f x)
  map_has [] x c = absurd (contains_none x c)
  map_has (y ∷ xs) x c = elim (contains_cases y xs x c) [
    | inl same ↦ subst (λ (z : X). Contains (map f (y ∷ xs)) (f z)) same (contains_first (f y) (map f xs))
    | inr behind ↦ contains_behind (f y) (map f xs) (f x) (map_has xs x behind)
  ]

proper_path : (glob : Pattern) (path : List ℕ) → MatchesPath glob path → is_path path ≡ true
proper_path glob path matches = subst (λ (n : List (List ℕ)). list_all is_component n ≡ true) (same_parts path) matches.proper

same_count : (path : List ℕ) → length (glob_path.names (glob_path.relative path)) ≡ length (parts path)
same_count path = ap (λ (n : List (List ℕ)). length n) (same_parts path)

-- where a start lies on the way to a match
record StartsAt (glob : Pattern) (path : List ℕ) : Type 0 where
  count : ℕ
  fewer : count < length (parts path)
  is : start glob ≡ folder_of path count
  deep : depth (start glob) ≡ count

starts_at : (glob : Pattern) (path : List ℕ) → LeadsToMatches glob → IsUtf8 path → MatchesPath glob path → StartsAt glob path
starts_at glob path leads utf8 matches =
    let on = leads.from_start path utf8 matches in
    let fewer : on.count < length (parts path) = omega (arith, on.fewer, same_count path) in
    record {
      count = on.count;
      fewer = fewer;
      is = on.is;
      deep = ap depth (on.is ∙ same_folder path on.count) ∙ depth_front path (proper_path glob path matches) on.count (omega arith);
    }

pub start_met : (include : List Pattern) (starts : List (List ℕ)) (folder : List ℕ) → starts ≡ map start include → Contains starts folder → IsStart include folder
start_met include starts folder same c =
    let found = mapped start include folder (subst (λ (s : List (List ℕ)). Contains s folder) same c) in found_any (λ (glob : Pattern). folder ≡ start glob) include found.one found.there found.holds

has_start : (include : List Pattern) (starts : List (List ℕ)) (glob : Pattern) → starts ≡ map start include → Contains include glob → Contains starts (start glob)
has_start include starts glob same c = subst (λ (s : List (List ℕ)). Contains s (start glob)) (sym same) (map_has start include glob c)

met_longer : (include : List Pattern) (old mid new : History) (folder : List ℕ) → IsLater mid new → IsMet include old mid folder → IsMet include old new folder
met_longer include old mid new folder late met = elim met [
  | inl start ↦ inl start
  | inr found ↦ inr (found.0, once_longer Folder old old mid new folder (later_none old) late found.1)
]

-- before anything was listed
reached_none : (include exclude : List Pattern) (found : Findings) (world : World) → found.paths.items ≡ [] → found.folders.items ≡ [] → ReachesIn (patterns include exclude) 0 (failures 0 0) found world world
reached_none include exclude found world no_paths no_folders = record {
  handles = refl;
  unlisteds = [];
  calls = lists_none world.history;
  each_fails = refl;
  each_named = refl;
  each_once = distinct_none;
  each_met = λ folder c. absurd (contains_none folder c);
  are_files = λ path c. absurd (contains_none path (subst (λ (xs : List (List ℕ)). Contains xs path) no_paths c));
  are_folders = λ path c. absurd (contains_none path (subst (λ (xs : List (List ℕ)). Contains xs path) no_folders c));
  leads = λ glob path c utf8 matches always above within. absurd (omega (arith, above));
  finds = λ path included always few. absurd (omega (arith, few, same_count path, some_length (relative path)));
}

pub reaches_none : {T : Type 0} (meaning : TreeMeaning T) (include exclude : List Pattern) (found : Findings) (tree : T) → found.paths.items ≡ [] → found.folders.items ≡ [] → found.failed ≡ 0 → Reaches meaning (patterns include exclude) 0 found tree tree
reaches_none meaning include exclude found tree no_paths no_folders none = record {
  fails = 0;
  unnamed = 0;
  counts = counts_none meaning tree;
  failed = omega (arith, none);
  included = λ path c. absurd (contains_none path (subst (λ (xs : List (List ℕ)). Contains xs path) no_paths c));
  may_hold = λ path c. absurd (contains_none path (subst (λ (xs : List (List ℕ)). Contains xs path) no_folders c));
  world = told_same _ (meaning.world tree) (λ world. reached_none include exclude found world no_paths no_folders);
}

-- one level more, over a told world
module _ (include exclude : List Pattern) (leads : (glob : Pattern) → Contains include glob → LeadsToMatches glob) (starts : List (List ℕ)) (from_include : starts ≡ map start include)
    (level : ℕ) (shallow : level ≤ 32) (found emptied after : Findings) (due folders : List (List ℕ)) (with_starts : Gains (λ folder. Contains starts folder × (level_of folder ≡ level)) found.folders.items due)
    (sorted : IsSorted due folders) (same_paths : emptied.paths.items ≡ found.paths.items) (no_folders : emptied.folders.items ≡ [])
    (keep_paths : (path : List ℕ) → Contains emptied.paths.items path → Contains after.paths.items path) (may_hold : (folder : List ℕ) → Contains found.folders.items folder → MayHold include folder)
    (f u g v : ℕ) (old between new : World) (lawful : IsLawful new.history) (before : ReachesIn (patterns include exclude) level (failures f u) found old between) (enters : EntersIn (patterns include exclude) (listings folders (failures g v)) emptied after between new) where
  early : IsLater old.history between.history
  early = before.calls.later

  late : IsLater between.history new.history
  late = enters.calls.later

  abbrev unlisteds : List (List ℕ)
  unlisteds = enters.unlisteds ++ before.unlisteds

  due_met : (folder : List ℕ) → Contains folders folder → (depth folder ≡ level) × IsMet include old.history new.history folder
  due_met folder c = elim (with_starts.only folder (sorted.only folder c)) [
    | inl was ↦ (let at = before.are_folders folder was in (at.0, inr (may_hold folder was, once_longer Folder old.history old.history between.history new.history folder (later_none old.history) late at.1)))
    | inr start ↦ (omega (arith, start.1), inl (start_met include starts folder from_include start.0))
  ]

  hidden_longer : (path : List ℕ) → IsHidden before.unlisteds path → IsHidden unlisteds path
  hidden_longer path hidden = (hidden.0, Contains-append_right enters.unlisteds before.unlisteds hidden.0 hidden.1, hidden.2)

  hidden_now : (path folder : List ℕ) → Contains enters.unlisteds folder → IsOnWay path folder → IsHidden unlisteds path
  hidden_now path folder c on = (folder, Contains-append_left enters.unlisteds before.unlisteds folder c, on)

  -- the folder of this level on the way to a match is listed
  is_due : (glob : Pattern) (path : List ℕ) → Contains include glob → IsUtf8 path → MatchesPath glob path → WasAlways File old.history new.history path → depth (start glob) ≤ level → level < length (parts path)
      → Contains folders (front path level) ⊎ IsHidden unlisteds path
  is_due glob path c utf8 matches always above within = elim (cases_lt (depth (start glob)) level) [
    | inl lower ↦ elim (before.leads glob path c utf8 matches (always_shorter File old.history old.history between.history new.history path (later_none old.history) late always) lower (omega (arith, within, same_count path))) [
      | inl there ↦ inl (subst (Contains folders) (same_folder path level) (sorted.keeps (folder_of path level) (with_starts.keeps (folder_of path level) there)))
      | inr hidden ↦ inr (hidden_longer path hidden)
    ]
    | inr same ↦ (
        let at = starts_at glob path (leads glob c) utf8 matches in
        let here : at.count ≡ level = omega (arith, at.deep, same, above) in
        let is : start glob ≡ front path level = at.is ∙ same_folder path at.count ∙ ap (front path) here in
        let due_level : level_of (start glob) ≡ level = omega (arith, at.deep, here, shallow) in
        inl (subst (Contains folders) is (sorted.keeps (start glob) (with_starts.adds (start glob) (has_start include starts glob from_include c, due_level))))
        )
  ]

  leads_next : (glob : Pattern) (path : List ℕ) → Contains include glob → IsUtf8 path → MatchesPath glob path → WasAlways File old.history new.history path → depth (start glob) < level + 1 → level + 1 < length (glob_path.names (glob_path.relative path))
      → Contains after.folders.items (folder_of path (level + 1)) ⊎ IsHidden unlisteds path
  leads_next glob path c utf8 matches always above within =
      let proper = proper_path glob path matches in
      let inside : suc level < length (parts path) = omega (arith, within, same_count path) in
      let here : level < length (parts path) = omega arith in
      let name = get_or (parts path) level [] in
      let next : path_within (front path level) name ≡ front path (suc level) = front_next path proper level here in
      let more : suc level ≡ level + 1 = omega arith in
      let target : path_within (front path level) name ≡ folder_of path (level + 1) = next ∙ sym (same_folder path (suc level)) ∙ ap (folder_of path) more in
      let holds : MayHold include (path_within (front path level) name) =
      found_any _ include glob c ((leads glob c).by_folders path (path_within (front path level) name) matches (record { count = level + 1; fewer = within; is = target })) in
      let below : IsTrue (is_below (path_within (front path level) name) path) = subst (λ (t : List ℕ). IsTrue (is_below t path)) (sym next) (front_below path proper level inside).1 in
      let folder : WasAlways Folder between.history new.history (path_within (front path level) name) =
      λ moment past future. folder_above moment (path_within (front path level) name) path (lawful_before moment new.history future lawful) (always moment (later_then old.history between.history moment early past) future) below in
      elim (is_due glob path c utf8 matches always (omega (arith, above)) here) [
        | inl there ↦ elim (enters.finds_folders (front path level) name there (name_proper path proper level here) holds folder) [
          | inl is ↦ inl (subst (Contains after.folders.items) target is)
          | inr failed ↦ inr (hidden_now path (front path level) failed (front_on_way path proper level here))
        ]
        | inr hidden ↦ inr hidden
      ]

  finds_here : (path : List ℕ) → IsIncluded include exclude path → WasAlways File old.history new.history path → length (parts path) ≡ suc level → Contains after.paths.items path ⊎ IsHidden unlisteds path
  finds_here path included always whole =
      let matched = any_found _ include included.matched in
      let glob : Pattern = matched.one in
      let proper = proper_path glob path matched.holds in
      let at = starts_at glob path (leads glob matched.there) included.text matched.holds in
      let here : level < length (parts path) = omega arith in
      let name = get_or (parts path) level [] in
      let is : path_within (front path level) name ≡ path = front_next path proper level here ∙ ap (front path) (sym whole) ∙ front_whole path proper in
      elim (is_due glob path matched.there included.text matched.holds always (omega (arith, at.deep, at.fewer, whole)) here) [
        | inl there ↦ elim (enters.finds_files (front path level) name there (name_proper path proper level here) (subst (IsIncluded include exclude) (sym is) included)
            (subst (WasAlways File between.history new.history) (sym is) (always_shorter File old.history between.history new.history new.history path early (later_none new.history) always))) [
              | inl c ↦ inl (subst (Contains after.paths.items) is c)
              | inr failed ↦ inr (hidden_now path (front path level) failed (front_on_way path proper level here))
            ]
        | inr hidden ↦ inr hidden
      ]

  finds_next : (path : List ℕ) → IsIncluded include exclude path → WasAlways File old.history new.history path → length (glob_path.names (glob_path.relative path)) ≤ level + 1 → Contains after.paths.items path ⊎ IsHidden unlisteds path
  finds_next path included always few = elim (cases_lt level (length (parts path))) [
    | inl deeper ↦ finds_here path included always (omega (arith, deeper, few, same_count path))
    | inr done ↦ elim (before.finds path included (always_shorter File old.history old.history between.history new.history path (later_none old.history) late always) (omega (arith, done, same_count path))) [
      | inl there ↦ inl (keep_paths path (subst (λ (xs : List (List ℕ)). Contains xs path) (sym same_paths) there))
      | inr hidden ↦ inr (hidden_longer path hidden)
    ]
  ]

  reached_next : ReachesIn (patterns include exclude) (level + 1) (failures (f + g) (u + v)) after old new
  reached_next = record {
    handles = enters.handles ∙ before.handles;
    unlisteds = unlisteds;
    calls = lists_then before.unlisteds enters.unlisteds old.history between.history new.history before.calls enters.calls;
    each_fails = omega (arith, before.each_fails, enters.each_fails, length-append enters.unlisteds before.unlisteds);
    each_named = omega (arith, before.each_named, enters.each_named);
    each_once = distinct_append enters.unlisteds before.unlisteds (enters.once (distinct_of folders sorted.ascends)) before.each_once
        (λ x now earlier. absurd (omega (arith, (due_met x (enters.among x now)).0, (before.each_met x earlier).0)));
    each_met = λ folder c. elim (Contains-append_cases enters.unlisteds before.unlisteds folder c) [
      | inl now ↦ (let met = due_met folder (enters.among folder now) in (omega (arith, met.0), met.1))
      | inr earlier ↦ (let met = before.each_met folder earlier in (omega (arith, met.0), met_longer include old.history between.history new.history folder late met.1))
    ];
    are_files = λ path c. elim (enters.are_files path c) [
      | inl was ↦ once_longer File old.history old.history between.history new.history path (later_none old.history) late (before.are_files path (subst (λ (xs : List (List ℕ)). Contains xs path) same_paths was))
      | inr once ↦ once_longer File old.history between.history new.history new.history path early (later_none new.history) once
    ];
    are_folders = λ path c. elim (enters.are_folders path c) [
      | inl was ↦ absurd (contains_none path (subst (λ (xs : List (List ℕ)). Contains xs path) no_folders was))
      | inr child ↦ (
        ap depth child.0.is ∙ depth_child child.0.folder child.0.name child.0.proper ∙ ap (λ (n : ℕ). n + 1) (due_met child.0.folder child.0.is_one).0,
        once_longer Folder old.history between.history new.history new.history path early (later_none new.history) child.1,
      )
    ];
    leads = leads_next;
    finds = finds_next;
  }

-- one level more, over any tree
pub reaches_next : {T : Type 0} (meaning : TreeMeaning T) (include exclude : List Pattern) → ((glob : Pattern) → Contains include glob → LeadsToMatches glob) → (starts : List (List ℕ)) → starts ≡ map start include → (level : ℕ) → level ≤ 32
    → (found after : Findings) (old between new : T) → TellsLawful (meaning.world new) → Reaches meaning (patterns include exclude) level found old between → EntersLevel meaning (patterns include exclude) starts level (found_at found between) (found_at after new)
    → Reaches meaning (patterns include exclude) (level + 1) after old new
reaches_next meaning include exclude leads starts from_include level shallow found after old between new lawful before entered =
    let e = entered.enters in
    record {
      fails = before.fails + e.fails;
      unnamed = before.unnamed + e.unnamed;
      counts = counts_then meaning before.fails before.unnamed e.fails e.unnamed old between new before.counts e.counts;
      failed = omega (arith, before.failed, e.failed, entered.same_failed);
      included = λ path c. elim (e.included path c) [
        | inl was ↦ before.included path (subst (λ (xs : List (List ℕ)). Contains xs path) entered.same_paths was)
        | inr new ↦ new
      ];
      may_hold = λ path c. elim (e.may_hold path c) [
        | inl was ↦ absurd (contains_none path (subst (λ (xs : List (List ℕ)). Contains xs path) entered.no_folders was))
        | inr new ↦ new
      ];
      world = by (meaning.world old) (meaning.world between) (meaning.world new) lawful before.world e.world;
    }
  where
    e : Enters meaning (patterns include exclude) entered.folders (found_at entered.emptied between) (found_at after new)
    e = entered.enters

    by : (x y z : Option World) → TellsLawful z → Told (ReachesIn (patterns include exclude) level (failures before.fails before.unnamed) found) x y → Told (EntersIn (patterns include exclude) (listings entered.folders (failures e.fails e.unnamed)) entered.emptied after) y z
        → Told (ReachesIn (patterns include exclude) (level + 1) (failures (before.fails + e.fails) (before.unnamed + e.unnamed)) after) x z
    by None None None l a b = tt
    by None None (Some z) l a b = b
    by None (Some y) z l a b = absurd a
    by (Some x) None z l a b = absurd a
    by (Some x) (Some y) None l a b = b
    by (Some x) (Some y) (Some z) l a b =
        reached_next include exclude leads starts from_include level shallow found entered.emptied after entered.due entered.folders entered.with_starts entered.sorted entered.same_paths entered.no_folders e.keeps_paths before.may_hold
        before.fails before.unnamed e.fails e.unnamed x y z l a b

-- all levels, over a told world
module _ (include exclude : List Pattern) (leads : (glob : Pattern) → Contains include glob → LeadsToMatches glob) (starts : List (List ℕ)) (from_include : starts ≡ map start include)
    (found : Findings) (paths deep due : List (List ℕ)) (sorted : IsSorted found.paths.items paths) (with_starts : Gains (λ folder. Contains starts folder × (level_of folder ≡ 33)) found.folders.items due) (deep_sorted : IsSorted due deep)
    (may_hold : (folder : List ℕ) → Contains found.folders.items folder → MayHold include folder) (f u : ℕ) (old new : World) (reached : ReachesIn (patterns include exclude) 33 (failures f u) found old new) where
  deep_left : (path : List ℕ) → IsIncluded include exclude path → (IsReachable path → ⊥) → WasAlways File old.history new.history path → ((folder : List ℕ) × Contains deep folder × IsOnWay path folder) ⊎ IsHidden reached.unlisteds path
  deep_left path included never always =
      let matched = any_found _ include included.matched in
      let glob : Pattern = matched.one in
      let proper = proper_path glob path matched.holds in
      let at = starts_at glob path (leads glob matched.there) included.text matched.holds in
      let far : 33 < length (parts path) = too_far path never in
      elim (cases_lt (depth (start glob)) 33) [
        | inl above ↦ elim (reached.leads glob path matched.there included.text matched.holds always above (omega (arith, far, same_count path))) [
          | inl there ↦ inl (folder_of path 33, deep_sorted.keeps (folder_of path 33) (with_starts.keeps (folder_of path 33) there), subst (IsOnWay path) (sym (same_folder path 33)) (front_on_way path proper 33 far))
          | inr hidden ↦ inr hidden
        ]
        | inr below ↦ (
            let due_level : level_of (start glob) ≡ 33 = omega (arith, below) in
            inl (
              start glob,
              deep_sorted.keeps (start glob) (with_starts.adds (start glob) (has_start include starts glob from_include matched.there, due_level)),
              subst (IsOnWay path) (sym (at.is ∙ same_folder path at.count)) (front_on_way path proper at.count at.fewer),
            )
            )
      ]
    where
      too_far : (path : List ℕ) → (IsReachable path → ⊥) → 33 < length (parts path)
      too_far path never = elim (cases_lt 33 (length (parts path))) [ inl far ↦ far | inr near ↦ absurd (never near) ]

  found_in : FindsIn (patterns include exclude) paths deep (failures f u) old new
  found_in = record {
    handles = reached.handles;
    unlisteds = reached.unlisteds;
    calls = reached.calls;
    each_fails = reached.each_fails;
    each_named = reached.each_named;
    each_once = reached.each_once;
    each_met = λ folder c. (let met = reached.each_met folder c in (omega (arith, met.0), met.1));
    are_files = λ path c. reached.are_files path (sorted.only path c);
    none_left_out = λ path included near always. elim (reached.finds path included always (omega (arith, near, same_count path))) [
      | inl there ↦ inl (sorted.keeps path there)
      | inr hidden ↦ inr hidden
    ];
    are_deep = λ folder c. elim (with_starts.only folder (deep_sorted.only folder c)) [
      | inl was ↦ (let at = reached.are_folders folder was in (omega (arith, at.0), inr (may_hold folder was, at.1)))
      | inr start ↦ (omega (arith, start.1), inl (start_met include starts folder from_include start.0))
    ];
    no_deep_left_out = deep_left;
  }

pub finds_all : {T : Type 0} (meaning : TreeMeaning T) (include exclude : List Pattern) → ((glob : Pattern) → Contains include glob → LeadsToMatches glob) → (starts : List (List ℕ)) → starts ≡ map start include
    → (found ready : Findings) (walk : Walk) (old new : T) → Reaches meaning (patterns include exclude) 33 found old new → Gains (λ folder. Contains starts folder × (level_of folder ≡ 33)) found.folders.items ready.folders.items
    → ready.paths ≡ found.paths → ready.failed ≡ found.failed → IsFinished ready walk → Finds meaning include exclude walk old new
finds_all meaning include exclude leads starts from_include found ready walk old new reached with_starts same_paths same_failed finished = record {
  included = λ path c. reached.included path (was path (finished.paths.only path c));
  ascends = finished.paths.ascends;
  fails = reached.fails;
  unnamed = reached.unnamed;
  counts = reached.counts;
  failed = finished.failed ∙ ap in_32_bits same_failed ∙ reached.failed;
  deep_folders = finished.deep_folders;
  deep_once = finished.deep_sorted.ascends;
  deep = finished.deep;
  each_deep = λ folder c. elim (with_starts.only folder (finished.deep_sorted.only folder c)) [
    | inl was ↦ inr (reached.may_hold folder was)
    | inr start ↦ inl (start_met include starts folder from_include start.0)
  ];
  starts = λ folder start far. finished.deep_sorted.keeps folder (with_starts.adds folder (has folder start, omega (arith, far)));
  world = told_weaker _ _ (meaning.world old) (meaning.world new)
      (λ x y in_it. found_in include exclude leads starts from_include found walk.paths.items finished.deep_folders ready.folders.items sorted with_starts finished.deep_sorted reached.may_hold reached.fails reached.unnamed x y in_it) reached.world;
}
  where
    was : (path : List ℕ) → Contains ready.paths.items path → Contains found.paths.items path
    was path c = subst (λ p. Contains p.items path) same_paths c

    sorted : IsSorted found.paths.items walk.paths.items
    sorted = record {
      ascends = finished.paths.ascends;
      keeps = λ path c. finished.paths.keeps path (subst (λ p. Contains p.items path) (sym same_paths) c);
      only = λ path c. was path (finished.paths.only path c);
    }

    has : (folder : List ℕ) → IsStart include folder → Contains starts folder
    has folder start =
        let found = any_found _ include start in subst (Contains starts) (sym found.holds) (has_start include starts found.one from_include found.there)
