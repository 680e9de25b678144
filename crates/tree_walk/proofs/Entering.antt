-- What the lists of folders add, list by list.
use Rattle.std.proofs.Common.{◌≡◌, ℕ, ◌+◌, ◌≤◌, List, [], ◌∷◌, ◌++◌, refl, sym, ap, subst, ◌∙◌, inl, inr, arith, length-append, false}
use Rattle.std.proofs.lemmas.Bool.{both_ways}
use Rattle.std.proofs.lemmas.List.Elements.{Contains-append_left, Contains-append_right, Contains-append_cases}
use Rattle.std.specs.Prelude.{Contains, IsTrue, Ok, Err, Some}
use Rattle.std.specs.Global.{Vec}
use Rattle.glob_match.specs.Pattern.{Pattern}
use Rattle.outside.proofs.Moving.{moves_by_moment}
use Rattle.outside.proofs.Telling.{told_same, told_weaker, told_then}
use Rattle.outside.specs.Count.{raised, last_count}
use Rattle.outside.specs.Listing.{Lists, IsListing, is_folder, kind_at, path_within}
use Rattle.outside.specs.Moment.{AtOneMoment}
use Rattle.outside.specs.Path.{is_name}
use Rattle.outside.specs.TreeMeaning.{TreeMeaning}
use Rattle.outside.specs.World.{World, Told, names}
use Rattle.outside.specs.declared.fault.CallFault.TheVariants.{Failed}
use Rattle.outside.specs.declared.tree.Item.{Item}
use Rattle.outside.specs.declared.tree.Kind.{Kind}
use Rattle.outside.specs.declared.tree.Kind.TheVariants.{File, Folder}
use Rattle.outside.specs.declared.tree.Listed.TheVariants.{Items, Gone}
use Rattle.standing.proofs.MomentLemmas.{later_none}
use Rattle.tree_walk.proofs.Lists.{contains_none, contains_one, contains_first, any_found, any_one, any_of_one, any_left, any_right, any_cases, gains_none, gains_one, gains_then, distinct_none, distinct_append, distinct_parts}
use Rattle.tree_walk.proofs.Worlds.{later_moves, lists_none, lists_moves, lists_failed, lists_then, once_longer, always_shorter, folder_there}
use Rattle.tree_walk.specs.Calls.{Counts, in_32_bits}
use Rattle.tree_walk.specs.Inner.Entered.{IsChild, EntersIn, Enters}
use Rattle.tree_walk.specs.Inner.Gained.{Gains, IsListed, TakesItems}
use Rattle.standing.specs.Included.{IsIncluded}
use Rattle.tree_walk.specs.Starts.{MayHold}
use Rattle.tree_walk.specs.Times.{WasOnce, WasAlways}
use Rattle.tree_walk.specs.Inner.FoundAt.{found_at}
use Rattle.tree_walk.specs.Listings.{failures, listings}
use Rattle.tree_walk.specs.Patterns.{patterns}
use Rattle.tree_walk.specs.declared.findings.Findings.{Findings}

-- the path of one item is added, or not
module _ (R : List ℕ → Type 0) (kind : Kind) (folder : List ℕ) (item : Item) where
  abbrev IsNew : List ℕ → Type 0
  IsNew x = IsListed kind folder (item ∷ []) x × R x

  pub took : (xs : List (List ℕ)) (path : List ℕ) → item.kind ≡ kind → path ≡ path_within folder item.name → R path → Gains IsNew xs (xs ++ path ∷ [])
  took xs path same is holds =
      gains_one IsNew xs path (any_one (λ (i : Item). (i.kind ≡ kind) × (path ≡ path_within folder i.name)) item (same, is), holds)
      (λ x new. is ∙ sym (any_of_one (λ (i : Item). (i.kind ≡ kind) × (x ≡ path_within folder i.name)) item new.0).1)

  pub left_out : (xs : List (List ℕ)) → (item.kind ≡ kind → R (path_within folder item.name) → ⊥) → Gains IsNew xs xs
  left_out xs never =
      gains_none IsNew xs (λ x new. let one = any_of_one (λ (i : Item). (i.kind ≡ kind) × (x ≡ path_within folder i.name)) item new.0 in never one.0 (subst R one.1 new.1))

module _ (R : List ℕ → Type 0) (kind : Kind) (folder : List ℕ) where
  listed_more : (items more : List Item) (xs ys zs : List (List ℕ)) → Gains (λ x. IsListed kind folder items x × R x) xs ys → Gains (λ x. IsListed kind folder more x × R x) ys zs → Gains (λ x. IsListed kind folder (items ++ more) x × R x) xs zs
  listed_more items more xs ys zs a b =
      let Is = λ (x : List ℕ) (i : Item). (i.kind ≡ kind) × (x ≡ path_within folder i.name) in
      gains_then _ _ _ xs ys zs a b
      (λ x new. elim (any_cases (Is x) items more new.0) [ inl first ↦ inl (first, new.1) | inr second ↦ inr (second, new.1) ])
      (λ x new. (any_left (Is x) items more new.0, new.1)) (λ x new. (any_right (Is x) items more new.0, new.1))

  listed_none : (xs : List (List ℕ)) → Gains (λ x. IsListed kind folder [] x × R x) xs xs
  listed_none xs = gains_none _ xs (λ x new. contains_none _ (any_found _ [] new.0).there)

module _ (include exclude : List Pattern) (folder : List ℕ) where
  pub takes_none : (found : Findings) → TakesItems include exclude folder [] found found
  takes_none found = record { paths = listed_none (IsIncluded include exclude) File folder found.paths.items; folders = listed_none (MayHold include) Folder folder found.folders.items; failed = refl }

  pub takes_more : (items more : List Item) (before mid after : Findings) → TakesItems include exclude folder items before mid → TakesItems include exclude folder more mid after → TakesItems include exclude folder (items ++ more) before after
  takes_more items more before mid after a b = record {
    paths = listed_more (IsIncluded include exclude) File folder items more before.paths.items mid.paths.items after.paths.items a.paths b.paths;
    folders = listed_more (MayHold include) Folder folder items more before.folders.items mid.folders.items after.folders.items a.folders b.folders;
    failed = b.failed ∙ a.failed;
  }

-- one folder, over a told world
module _ (include exclude : List Pattern) (folder : List ℕ) (before after : Findings) (old new : World) where
  pub entered_items : (items : Vec Item) (unnamed : ℕ) (mid : Findings) → mid.paths ≡ before.paths → mid.folders ≡ before.folders → TakesItems include exclude folder items.items mid after
      → Lists folder (Ok (Items items unnamed)) old new → EntersIn (patterns include exclude) (listings (folder ∷ []) (failures 0 unnamed)) before after old new
  entered_items items unnamed mid same_paths same_folders takes lists = record {
    handles = lists.handles;
    unlisteds = [];
    calls = lists_moves (moves_by_moment at);
    each_fails = refl;
    each_named = lists.history.0;
    among = λ x none. absurd (contains_none x none);
    once = λ _. distinct_none;
    are_files = λ path c. elim (takes.paths.only path c) [
      | inl was ↦ inl (subst (λ p. Contains p.items path) same_paths was)
      | inr new ↦ inr (was_listed File path new.0)
    ];
    are_folders = λ path c. elim (takes.folders.only path c) [
      | inl was ↦ inl (subst (λ p. Contains p.items path) same_folders was)
      | inr new ↦ inr (child path new.0, was_listed Folder path new.0)
    ];
    finds_files = λ other name c proper included always.
        let same : folder ≡ other = contains_one folder other c in
        inl (takes.paths.adds (path_within other name) (is_listed File (path_within other name) name proper (ap (λ (f : List ℕ). path_within f name) (sym same)) always, included));
    finds_folders = λ other name c proper holds always.
        let same : folder ≡ other = contains_one folder other c in
        inl (takes.folders.adds (path_within other name) (is_listed Folder (path_within other name) name proper (ap (λ (f : List ℕ). path_within f name) (sym same)) always, holds));
  }
    where
      at : AtOneMoment [] (IsListing folder items.items) old.history new.history
      at = lists.history.1

      was_listed : (kind : Kind) (path : List ℕ) → IsListed kind folder items.items path → WasOnce kind old.history new.history path
      was_listed kind path listed =
          let found = any_found _ items.items listed in
          let proper = at.holds.named found.one found.there in
          let here : kind_at (names at.moment) (path_within folder found.one.name) ≡ Some found.one.kind = (at.holds.each found.one.name found.one.kind proper).1 found.there in
          record {
            moment = at.moment;
            after = later_moves at.before;
            before = later_moves at.after;
            is = ap (kind_at (names at.moment)) found.holds.1 ∙ here ∙ ap Some found.holds.0;
          }

      child : (path : List ℕ) → IsListed Folder folder items.items path → IsChild (folder ∷ []) path
      child path listed =
          let found = any_found _ items.items listed in
          record { folder = folder; is_one = contains_first folder []; name = found.one.name; proper = at.holds.named found.one found.there; is = found.holds.1 }

      is_listed : (kind : Kind) (path name : List ℕ) → IsTrue (is_name name) → path ≡ path_within folder name → WasAlways kind old.history new.history path → IsListed kind folder items.items path
      is_listed kind path name proper is always =
          let here : kind_at (names at.moment) (path_within folder name) ≡ Some kind = ap (kind_at (names at.moment)) (sym is) ∙ always at.moment (later_moves at.before) (later_moves at.after) in
          let there = (at.holds.each name kind proper).0 here in (there.0, record { name = name; kind = kind }, there.1, there.2, (refl, is))

  pub entered_gone : after ≡ before → Lists folder (Ok Gone) old new → EntersIn (patterns include exclude) (listings (folder ∷ []) (failures 0 0)) before after old new
  entered_gone same lists = record {
    handles = lists.handles;
    unlisteds = [];
    calls = lists_moves (moves_by_moment lists.history);
    each_fails = refl;
    each_named = refl;
    among = λ x none. absurd (contains_none x none);
    once = λ _. distinct_none;
    are_files = λ path c. inl (subst (λ (f : Findings). Contains f.paths.items path) same c);
    are_folders = λ path c. inl (subst (λ (f : Findings). Contains f.folders.items path) same c);
    finds_files = λ other name c proper included always. absurd (never File other name (contains_one folder other c) always);
    finds_folders = λ other name c proper holds always. absurd (never Folder other name (contains_one folder other c) always);
  }
    where
      at : AtOneMoment [] (λ history. is_folder (names history) folder ≡ false) old.history new.history
      at = lists.history

      never : (kind : Kind) (other name : List ℕ) → folder ≡ other → WasAlways kind old.history new.history (path_within other name) → ⊥
      never kind other name same always =
          let there = folder_there (names at.moment) other name kind (always at.moment (later_moves at.before) (later_moves at.after)) in
          both_ways (is_folder (names at.moment) folder) at.holds (ap (is_folder (names at.moment)) same ∙ there)

  pub entered_failed : after.paths ≡ before.paths → after.folders ≡ before.folders → Lists folder (Err Failed) old new → EntersIn (patterns include exclude) (listings (folder ∷ []) (failures 1 0)) before after old new
  entered_failed same_paths same_folders lists = record {
    handles = lists.handles;
    unlisteds = folder ∷ [];
    calls = lists_failed lists.history;
    each_fails = refl;
    each_named = refl;
    among = λ x c. c;
    once = λ distinct. distinct;
    are_files = λ path c. inl (subst (λ p. Contains p.items path) same_paths c);
    are_folders = λ path c. inl (subst (λ p. Contains p.items path) same_folders c);
    finds_files = λ other name c proper included always. inr c;
    finds_folders = λ other name c proper holds always. inr c;
  }

-- several folders, over a told world
module _ (include exclude : List Pattern) where
  entered_none : (found : Findings) (world : World) → EntersIn (patterns include exclude) (listings [] (failures 0 0)) found found world world
  entered_none found world = record {
    handles = refl;
    unlisteds = [];
    calls = lists_none world.history;
    each_fails = refl;
    each_named = refl;
    among = λ x c. c;
    once = λ distinct. distinct;
    are_files = λ path c. inl c;
    are_folders = λ path c. inl c;
    finds_files = λ folder name c proper included always. absurd (contains_none folder c);
    finds_folders = λ folder name c proper holds always. absurd (contains_none folder c);
  }

  entered_then : (first second : List (List ℕ)) (before mid after : Findings) (f u g v : ℕ) (old between new : World)
      → ((path : List ℕ) → Contains mid.paths.items path → Contains after.paths.items path) → ((path : List ℕ) → Contains mid.folders.items path → Contains after.folders.items path)
      → EntersIn (patterns include exclude) (listings first (failures f u)) before mid old between → EntersIn (patterns include exclude) (listings second (failures g v)) mid after between new
      → EntersIn (patterns include exclude) (listings (first ++ second) (failures (f + g) (u + v))) before after old new
  entered_then first second before mid after f u g v old between new keep_paths keep_folders a b =
      let early = later_none old.history in
      let late = later_none new.history in
      record {
        handles = b.handles ∙ a.handles;
        unlisteds = b.unlisteds ++ a.unlisteds;
        calls = lists_then a.unlisteds b.unlisteds old.history between.history new.history a.calls b.calls;
        each_fails = omega (arith, a.each_fails, b.each_fails, length-append b.unlisteds a.unlisteds);
        each_named = omega (arith, a.each_named, b.each_named);
        among = λ x c. elim (Contains-append_cases b.unlisteds a.unlisteds x c) [
          | inl later ↦ Contains-append_right first second x (b.among x later)
          | inr earlier ↦ Contains-append_left first second x (a.among x earlier)
        ];
        once = λ distinct.
            let parts = distinct_parts first second distinct in
            distinct_append b.unlisteds a.unlisteds (b.once parts.right) (a.once parts.left) (λ x later earlier. parts.apart x (a.among x earlier) (b.among x later));
        are_files = λ path c. elim (b.are_files path c) [
          | inl was ↦ elim (a.are_files path was) [ inl first ↦ inl first | inr once ↦ inr (once_longer File old.history old.history between.history new.history path early b.calls.later once) ]
          | inr once ↦ inr (once_longer File old.history between.history new.history new.history path a.calls.later late once)
        ];
        are_folders = λ path c. elim (b.are_folders path c) [
          | inl was ↦ elim (a.are_folders path was) [
            | inl first ↦ inl first
            | inr once ↦ inr (child_more (λ x h. Contains-append_left first second x h) path once.0, once_longer Folder old.history old.history between.history new.history path early b.calls.later once.1)
          ]
          | inr once ↦ inr (child_more (λ x h. Contains-append_right first second x h) path once.0, once_longer Folder old.history between.history new.history new.history path a.calls.later late once.1)
        ];
        finds_files = λ folder name c proper included always. elim (Contains-append_cases first second folder c) [
          | inl earlier ↦ elim (a.finds_files folder name earlier proper included (always_shorter File old.history old.history between.history new.history (path_within folder name) early b.calls.later always)) [
            | inl there ↦ inl (keep_paths (path_within folder name) there)
            | inr hidden ↦ inr (Contains-append_right b.unlisteds a.unlisteds folder hidden)
          ]
          | inr later ↦ elim (b.finds_files folder name later proper included (always_shorter File old.history between.history new.history new.history (path_within folder name) a.calls.later late always)) [
            | inl there ↦ inl there
            | inr hidden ↦ inr (Contains-append_left b.unlisteds a.unlisteds folder hidden)
          ]
        ];
        finds_folders = λ folder name c proper holds always. elim (Contains-append_cases first second folder c) [
          | inl earlier ↦ elim (a.finds_folders folder name earlier proper holds (always_shorter Folder old.history old.history between.history new.history (path_within folder name) early b.calls.later always)) [
            | inl there ↦ inl (keep_folders (path_within folder name) there)
            | inr hidden ↦ inr (Contains-append_right b.unlisteds a.unlisteds folder hidden)
          ]
          | inr later ↦ elim (b.finds_folders folder name later proper holds (always_shorter Folder old.history between.history new.history new.history (path_within folder name) a.calls.later late always)) [
            | inl there ↦ inl there
            | inr hidden ↦ inr (Contains-append_left b.unlisteds a.unlisteds folder hidden)
          ]
        ];
      }
    where
      child_more : {some all : List (List ℕ)} → ((x : List ℕ) → Contains some x → Contains all x) → (path : List ℕ) → IsChild some path → IsChild all path
      child_more more path child = record { folder = child.folder; is_one = more child.folder child.is_one; name = child.name; proper = child.proper; is = child.is }

-- over any tree
pub counts_none : {T : Type 0} (meaning : TreeMeaning T) (tree : T) → Counts meaning 0 0 tree tree
counts_none meaning tree = record { rose = omega arith; nameless = λ l. omega arith }

pub counts_then : {T : Type 0} (meaning : TreeMeaning T) (f u g v : ℕ) (old mid new : T) → Counts meaning f u old mid → Counts meaning g v mid new → Counts meaning (f + g) (u + v) old new
counts_then meaning f u g v old mid new a b = record {
  rose = omega (arith, a.rose, b.rose);
  nameless = λ l.
      let first = a.nameless l in
      let within : meaning.nameless mid ≤ last_count = omega (arith, first) in omega (arith, first, b.nameless within);
}

module _ {T : Type 0} (meaning : TreeMeaning T) (include exclude : List Pattern) where
  pub enters_none : (found : Findings) (tree : T) → Enters meaning (patterns include exclude) [] (found_at found tree) (found_at found tree)
  enters_none found tree = record {
    fails = 0;
    unnamed = 0;
    counts = counts_none meaning tree;
    failed = omega arith;
    keeps_paths = λ path c. c;
    keeps_folders = λ path c. c;
    included = λ path c. inl c;
    may_hold = λ path c. inl c;
    world = told_same _ (meaning.world tree) (entered_none include exclude found);
  }

  pub enters_then : (first second : List (List ℕ)) (before mid after : Findings) (old between new : T) → Enters meaning (patterns include exclude) first (found_at before old) (found_at mid between) → Enters meaning (patterns include exclude) second (found_at mid between) (found_at after new)
      → Enters meaning (patterns include exclude) (first ++ second) (found_at before old) (found_at after new)
  enters_then first second before mid after old between new a b = record {
    fails = a.fails + b.fails;
    unnamed = a.unnamed + b.unnamed;
    counts = counts_then meaning a.fails a.unnamed b.fails b.unnamed old between new a.counts b.counts;
    failed = omega (arith, a.failed, b.failed);
    keeps_paths = λ path c. b.keeps_paths path (a.keeps_paths path c);
    keeps_folders = λ path c. b.keeps_folders path (a.keeps_folders path c);
    included = λ path c. elim (b.included path c) [ inl mid ↦ a.included path mid | inr new ↦ inr new ];
    may_hold = λ path c. elim (b.may_hold path c) [ inl mid ↦ a.may_hold path mid | inr new ↦ inr new ];
    world = told_then _ _ _ (meaning.world old) (meaning.world between) (meaning.world new)
        (λ x y z one two. entered_then include exclude first second before mid after a.fails a.unnamed b.fails b.unnamed x y z b.keeps_paths b.keeps_folders one two) a.world b.world;
  }

  -- one folder, by what listing it answered
  module _ (folder : List ℕ) (before after : Findings) (old new : T) where
    pub enters_items : (items : Vec Item) (unnamed : ℕ) (mid : Findings) → mid.paths ≡ before.paths → mid.folders ≡ before.folders → mid.failed ≡ in_32_bits (before.failed + unnamed) → TakesItems include exclude folder items.items mid after
        → meaning.faults new ≡ meaning.faults old → meaning.nameless new ≡ raised (meaning.nameless old) unnamed
        → Told (Lists folder (Ok (Items items unnamed))) (meaning.world old) (meaning.world new) → Enters meaning (patterns include exclude) (folder ∷ []) (found_at before old) (found_at after new)
    enters_items items unnamed mid same_paths same_folders failed takes stood nameless told = record {
      fails = 0;
      unnamed = unnamed;
      counts = record { rose = omega (arith, stood); nameless = λ _. nameless };
      failed = omega (arith, takes.failed, failed);
      keeps_paths = λ path c. takes.paths.keeps path (subst (λ p. Contains p.items path) (sym same_paths) c);
      keeps_folders = λ path c. takes.folders.keeps path (subst (λ p. Contains p.items path) (sym same_folders) c);
      included = λ path c. elim (takes.paths.only path c) [ inl was ↦ inl (subst (λ p. Contains p.items path) same_paths was) | inr new ↦ inr new.1 ];
      may_hold = λ path c. elim (takes.folders.only path c) [ inl was ↦ inl (subst (λ p. Contains p.items path) same_folders was) | inr new ↦ inr new.1 ];
      world = told_weaker _ _ (meaning.world old) (meaning.world new) (λ x y lists. entered_items include exclude folder before after x y items unnamed mid same_paths same_folders takes lists) told;
    }

    pub enters_gone : after ≡ before → meaning.faults new ≡ meaning.faults old → meaning.nameless new ≡ meaning.nameless old
        → Told (Lists folder (Ok Gone)) (meaning.world old) (meaning.world new) → Enters meaning (patterns include exclude) (folder ∷ []) (found_at before old) (found_at after new)
    enters_gone same stood nameless told = record {
      fails = 0;
      unnamed = 0;
      counts = record { rose = omega (arith, stood); nameless = λ l. omega (arith, nameless, l) };
      failed = omega (arith, ap (λ (f : Findings). f.failed) same);
      keeps_paths = λ path c. subst (λ (f : Findings). Contains f.paths.items path) (sym same) c;
      keeps_folders = λ path c. subst (λ (f : Findings). Contains f.folders.items path) (sym same) c;
      included = λ path c. inl (subst (λ (f : Findings). Contains f.paths.items path) same c);
      may_hold = λ path c. inl (subst (λ (f : Findings). Contains f.folders.items path) same c);
      world = told_weaker _ _ (meaning.world old) (meaning.world new) (λ x y lists. entered_gone include exclude folder before after x y same lists) told;
    }

    pub enters_failed : after.paths ≡ before.paths → after.folders ≡ before.folders → after.failed ≡ in_32_bits (before.failed + 1) → raised (meaning.faults old) 1 ≤ meaning.faults new → meaning.nameless new ≡ meaning.nameless old
        → Told (Lists folder (Err Failed)) (meaning.world old) (meaning.world new) → Enters meaning (patterns include exclude) (folder ∷ []) (found_at before old) (found_at after new)
    enters_failed same_paths same_folders failed rose nameless told = record {
      fails = 1;
      unnamed = 0;
      counts = record { rose = rose; nameless = λ l. omega (arith, nameless, l) };
      failed = omega (arith, failed);
      keeps_paths = λ path c. subst (λ p. Contains p.items path) (sym same_paths) c;
      keeps_folders = λ path c. subst (λ p. Contains p.items path) (sym same_folders) c;
      included = λ path c. inl (subst (λ p. Contains p.items path) same_paths c);
      may_hold = λ path c. inl (subst (λ p. Contains p.items path) same_folders c);
      world = told_weaker _ _ (meaning.world old) (meaning.world new) (λ x y lists. entered_failed include exclude folder before after x y same_paths same_folders lists) told;
    }
