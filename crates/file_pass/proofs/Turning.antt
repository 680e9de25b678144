-- Path after path.
use Rattle.std.proofs.Common.{◌≡◌, ℕ, ◌+◌, ◌≤◌, List, [], ◌∷◌, ◌++◌, length, map, reverse, take, Bool, refl, sym, ap, subst, ◌∙◌, inl, inr, arith, length-append}
use Rattle.std.proofs.lemmas.List.Sums.{sum_by-cons}
use Rattle.std.proofs.lemmas.List.{append-nil, length-map, length-reverse, reverse-append}
use Rattle.std.specs.Prelude.{count_by, Option, None, Some, IfSome}
use Rattle.file_tracker.specs.declared.row.Row.{Row}
use Rattle.outside.specs.Seen.{left_unlisted}
use Rattle.outside.specs.World.{World, History, look}
use Rattle.standing.proofs.MomentLemmas.{later_none, later_then, look_lasts, past_look, at_look}
use Rattle.standing.specs.Poll.{Poll}
use Rattle.standing.specs.Look.{Look, Outcome, Progress, skips, finds_nothing, finds_compressed, finds_no_room, finds_new, finds_row, ComesAt, ReadsOn, offset_found, outcome, after_look, progress_after, size}
use Rattle.standing.specs.Looks.{Come, outcome_after, count_of}
use Rattle.standing.specs.Marks.{Mark}
use Rattle.standing.specs.Moments.{IsLater}
use Rattle.standing.specs.Pass.{is_short}
use Rattle.standing.specs.Sums.{is_filled, is_passed_as_compressed, is_left_out, has_more, is_shrunk}
use Rattle.file_pass.specs.AllTaken.{AllTaken}
use Rattle.file_pass.specs.Cost.{cost_of, look_cost}
use Rattle.file_pass.specs.Full.{Crosses, lines_text, overflow}
use Rattle.file_pass.specs.Gain.{Gain, no_gain, both, one_if}
use Rattle.file_pass.specs.Overflow.{PathFills, AllFill}
use Rattle.file_pass.specs.PathTaken.{Comes, LooksAtPath, MissesPath, FindsNoFile, PathTaken}
use Rattle.file_pass.specs.Seen.{progress_of}
use Rattle.file_pass.specs.Step.{step}
use Rattle.file_pass.specs.Turns.{Turn, looks_at, misses_path, finds_none, path_of, looks_of, gone_of, HadNone}
use Rattle.file_pass.proofs.Listing.{contains_none, contains_cons}
use Rattle.file_pass.proofs.GoingOn.{crosses_later}

come_later : (poll : Poll) (looks : List Look) (old mid new : History) → Come poll.rules looks old mid → IsLater mid new → Come poll.rules looks old new
come_later poll [] old mid new come later = later_then old mid new come later
come_later poll (here ∷ earlier) old mid new come later =
    (come.0, record { looks = look_lasts mid new here.file here.moment later come.1.looks; under = come.1.under; included = come.1.included; end_within = come.1.end_within })

had_none_later : (old mid new : History) (path : List ℕ) → IsLater mid new → HadNone old mid path → HadNone old new path
had_none_later old mid new path later had = record { moment = had.moment; after = had.after; before = later_then had.moment mid new had.before later; none = had.none }

had_none_before : (old mid new : History) (path : List ℕ) → IsLater old mid → HadNone mid new path → HadNone old new path
had_none_before old mid new path later had = record { moment = had.moment; after = later_then old mid had.moment later had.after; before = had.before; none = had.none }

-- lines from before
abbrev with_lines : List Mark → Progress → Progress
with_lines earlier progress = record progress { added = earlier ++ progress.added }

lines_before : (poll : Poll) (here : Look) (rows : List Row) (earlier : List Mark) (found : Outcome)
    → progress_after poll here (progress_of rows earlier) found ≡ with_lines earlier (progress_after poll here (progress_of rows []) found)
lines_before poll here rows earlier skips = ap (progress_of rows) (sym (append-nil earlier))
lines_before poll here rows earlier finds_nothing = ap (progress_of rows) (sym (append-nil earlier))
lines_before poll here rows earlier finds_compressed = ap (progress_of rows) (sym (append-nil earlier))
lines_before poll here rows earlier finds_no_room = ap (progress_of rows) (sym (append-nil earlier))
lines_before poll here rows earlier finds_new = refl
lines_before poll here rows earlier (finds_row place row) = refl

pub look_after_lines : (poll : Poll) (here : Look) (rows : List Row) (earlier : List Mark) → after_look poll here (progress_of rows earlier) ≡ with_lines earlier (after_look poll here (progress_of rows []))
look_after_lines poll here rows earlier = lines_before poll here rows earlier (outcome poll.rules rows here)

later_of : (poll : Poll) (here : Look) (old new : History) → IsLater old here.moment → ComesAt poll.rules here new → IsLater old new
later_of poll here old new later comes =
    later_then old here.moment new later (later_then here.moment (look here.file ∷ here.moment) new (at_look here.file here.moment) (past_look new here.file here.moment comes.looks))

-- a look that could read all came to its row's offset
reads_whole : (poll : Poll) (here : Look) → here.end ≡ size here → (found : Outcome) → ReadsOn poll here found
reads_whole poll here whole found = by (offset_found poll here found)
  where
    by : (offset : Option ℕ) → IfSome offset (λ o. o ≤ size here → o ≤ here.end)
    by None = tt
    by (Some o) = λ le. omega (arith, le, whole)

module _ (poll : Poll) where
  pub all_none : (rows : List Row) (world : World) → AllTaken poll [] (step rows rows no_gain []) world world
  all_none rows world = record {
    turns = [];
    each = refl;
    handles = refl;
    own = record {
      come = later_none world.history;
      later = later_none world.history;
      all_looks = refl;
      all_misses = refl;
      no_unlisted = refl;
      had_none = λ path c. absurd (contains_none path c);
    };
    read_on = tt;
    leads_to = refl;
    gains = record { files = refl; lines = refl; left = refl; gone = refl; failed = refl; compressed = refl; shrunk = refl; full = refl; taken = omega arith };
  }

  module _ (paths : List (List ℕ)) (path : List ℕ) (before mid after : List Row) (gain more : Gain) (added next : List Mark) (old between new : World) (a : AllTaken poll paths (step before mid gain added) old between) where
    abbrev start : Progress
    start = progress_of before []

    outcome_is : (here : Look) → outcome_after poll (looks_of a.turns) start here ≡ outcome poll.rules mid here
    outcome_is here = ap (λ (p : Progress). outcome poll.rules p.rows here) a.leads_to

    count_is : (test : Look → Outcome → Bool) (here : Look) → count_of poll test (here ∷ looks_of a.turns) start ≡ count_of poll test (looks_of a.turns) start + one_if (test here (outcome poll.rules mid here))
    count_is test here = ap (λ (o : Outcome). count_of poll test (looks_of a.turns) start + one_if (test here o)) (outcome_is here)

    cost_is : (here : Look) → cost_of poll (here ∷ looks_of a.turns) start ≡ cost_of poll (looks_of a.turns) start + look_cost poll here (outcome poll.rules mid here)
    cost_is here = ap (λ (o : Outcome). cost_of poll (looks_of a.turns) start + look_cost poll here o) (outcome_is here)

    each_more : (turn : Turn) → path_of turn ≡ path → map path_of (turn ∷ a.turns) ≡ reverse (paths ++ path ∷ [])
    each_more turn is = ap (λ (p : List ℕ). p ∷ map path_of a.turns) is ∙ ap (λ (l : List (List ℕ)). path ∷ l) a.each ∙ sym (reverse-append paths (path ∷ []))

    looked_more : (here : Look) → here.path ≡ path → LooksAtPath poll here (step mid after more next) between.history new.history → new.handles ≡ between.handles → left_unlisted new.history ≡ left_unlisted between.history
        → AllTaken poll (paths ++ path ∷ []) (step before after (both gain more) (added ++ next)) old new
    looked_more here is b handles unlisted =
        let sums = b.takes.sums in
        let later = later_of poll here between.history new.history b.later b.comes in
        record {
          turns = looks_at here ∷ a.turns;
          each = each_more (looks_at here) is;
          handles = handles ∙ a.handles;
          own = record {
            come = (come_later poll (looks_of a.turns) old.history between.history here.moment a.own.come b.later, b.comes);
            later = later_then old.history between.history new.history a.own.later later;
            all_looks = b.all_looks ∙ ap (λ (l : List ℕ). here.file ∷ l) a.own.all_looks;
            all_misses = b.all_misses ∙ a.own.all_misses;
            no_unlisted = unlisted ∙ a.own.no_unlisted;
            had_none = λ other c. had_none_later old.history between.history new.history other later (a.own.had_none other c);
          };
          read_on = (a.read_on, subst (λ (o : Outcome). ReadsOn poll here o) (sym (outcome_is here)) b.takes.reads_on);
          leads_to = ap (after_look poll here) a.leads_to ∙ look_after_lines poll here mid added ∙ ap (with_lines added) b.takes.leads_to;
          gains = record {
            files = omega (arith, a.gains.files, sums.files, count_by_more is_filled here (looks_of a.turns));
            lines = omega (arith, a.gains.lines, sums.lines, length-append added next);
            left = omega (arith, a.gains.left, sums.left, count_is (has_more poll) here);
            gone = omega (arith, a.gains.gone, sums.gone);
            failed = omega (arith, a.gains.failed, sums.failed, count_by_more is_short here (looks_of a.turns));
            compressed = omega (arith, a.gains.compressed, sums.compressed, count_is is_passed_as_compressed here);
            shrunk = omega (arith, a.gains.shrunk, sums.shrunk, count_is (is_shrunk poll) here);
            full = omega (arith, a.gains.full, sums.full, count_is is_left_out here);
            taken = omega (arith, a.gains.taken, b.cost, cost_is here);
          };
        }
      where
        count_by_more : (test : Look → Bool) (one : Look) (rest : List Look) → count_by test (one ∷ rest) ≡ one_if (test one) + count_by test rest
        count_by_more test one rest = sum_by-cons (λ (look : Look). one_if (test look)) one rest

    same_lines : after ≡ mid → next ≡ [] → progress_of mid added ≡ progress_of after (added ++ next)
    same_lines same none = rw (same, none, append-nil added) refl

    missed_more : MissesPath path (step mid after more next) between.history new.history → new.handles ≡ between.handles → left_unlisted new.history ≡ left_unlisted between.history
        → AllTaken poll (paths ++ path ∷ []) (step before after (both gain more) (added ++ next)) old new
    missed_more b handles unlisted = record {
      turns = misses_path path ∷ a.turns;
      each = each_more (misses_path path) refl;
      handles = handles ∙ a.handles;
      own = record {
        come = come_later poll (looks_of a.turns) old.history between.history new.history a.own.come b.later;
        later = later_then old.history between.history new.history a.own.later b.later;
        all_looks = b.all_looks ∙ a.own.all_looks;
        all_misses = b.all_misses ∙ ap (λ (l : List (List ℕ)). path ∷ l) a.own.all_misses;
        no_unlisted = unlisted ∙ a.own.no_unlisted;
        had_none = λ other c. had_none_later old.history between.history new.history other b.later (a.own.had_none other c);
      };
      read_on = a.read_on;
      leads_to = a.leads_to ∙ same_lines b.same b.none;
      gains = record {
        files = omega (arith, a.gains.files, ap (λ (g : Gain). g.files) b.gain_is);
        lines = omega (arith, a.gains.lines, ap (λ (g : Gain). g.lines) b.gain_is, length-append added next, ap length b.none);
        left = omega (arith, a.gains.left, ap (λ (g : Gain). g.left) b.gain_is);
        gone = omega (arith, a.gains.gone, ap (λ (g : Gain). g.gone) b.gain_is);
        failed = omega (arith, a.gains.failed, ap (λ (g : Gain). g.failed) b.gain_is);
        compressed = omega (arith, a.gains.compressed, ap (λ (g : Gain). g.compressed) b.gain_is);
        shrunk = omega (arith, a.gains.shrunk, ap (λ (g : Gain). g.shrunk) b.gain_is);
        full = omega (arith, a.gains.full, ap (λ (g : Gain). g.full) b.gain_is);
        taken = omega (arith, a.gains.taken, ap (λ (g : Gain). g.taken) b.gain_is);
      };
    }

    lost_more : FindsNoFile path (step mid after more next) between.history new.history → new.handles ≡ between.handles → left_unlisted new.history ≡ left_unlisted between.history
        → AllTaken poll (paths ++ path ∷ []) (step before after (both gain more) (added ++ next)) old new
    lost_more b handles unlisted =
        let later = later_then between.history b.had_none.moment new.history b.had_none.after b.had_none.before in
        record {
          turns = finds_none path ∷ a.turns;
          each = each_more (finds_none path) refl;
          handles = handles ∙ a.handles;
          own = record {
            come = come_later poll (looks_of a.turns) old.history between.history new.history a.own.come later;
            later = later_then old.history between.history new.history a.own.later later;
            all_looks = b.all_looks ∙ a.own.all_looks;
            all_misses = b.all_misses ∙ a.own.all_misses;
            no_unlisted = unlisted ∙ a.own.no_unlisted;
            had_none = λ other c. elim (contains_cons path (gone_of a.turns) other c) [
              | inl here ↦ subst (λ (p : List ℕ). HadNone old.history new.history p) here (had_none_before old.history between.history new.history path a.own.later b.had_none)
              | inr there ↦ had_none_later old.history between.history new.history other later (a.own.had_none other there)
            ];
          };
          read_on = a.read_on;
          leads_to = a.leads_to ∙ same_lines b.same b.none;
          gains = record {
            files = omega (arith, a.gains.files, ap (λ (g : Gain). g.files) b.gain_is);
            lines = omega (arith, a.gains.lines, ap (λ (g : Gain). g.lines) b.gain_is, length-append added next, ap length b.none);
            left = omega (arith, a.gains.left, ap (λ (g : Gain). g.left) b.gain_is);
            gone = omega (arith, a.gains.gone, ap (λ (g : Gain). g.gone) b.gain_is);
            failed = omega (arith, a.gains.failed, ap (λ (g : Gain). g.failed) b.gain_is);
            compressed = omega (arith, a.gains.compressed, ap (λ (g : Gain). g.compressed) b.gain_is);
            shrunk = omega (arith, a.gains.shrunk, ap (λ (g : Gain). g.shrunk) b.gain_is);
            full = omega (arith, a.gains.full, ap (λ (g : Gain). g.full) b.gain_is);
            taken = omega (arith, a.gains.taken, ap (λ (g : Gain). g.taken) b.gain_is);
          };
        }

    pub all_more : PathTaken poll path (step mid after more next) between new → AllTaken poll (paths ++ path ∷ []) (step before after (both gain more) (added ++ next)) old new
    all_more b = by b.turn b.path_is b.comes
      where
        by : (turn : Turn) → path_of turn ≡ path → Comes poll (step mid after more next) turn between.history new.history → AllTaken poll (paths ++ path ∷ []) (step before after (both gain more) (added ++ next)) old new
        by (looks_at here) is comes = looked_more here is comes b.handles b.no_unlisted
        by (misses_path other) is comes = missed_more (subst (λ (p : List ℕ). MissesPath p (step mid after more next) between.history new.history) is comes) b.handles b.no_unlisted
        by (finds_none other) is comes = lost_more (subst (λ (p : List ℕ). FindsNoFile p (step mid after more next) between.history new.history) is comes) b.handles b.no_unlisted

    pub all_fill : (limit end mid_end full : ℕ) (all : List (List ℕ)) → mid_end ≡ end + length (lines_text added) → take (length paths + 1) all ≡ paths ++ path ∷ []
        → PathFills poll (overflow limit mid_end full) path mid between new → AllFill poll (overflow limit end full) all before old new
    all_fill limit end mid_end full all at firsts b =
        let many : length a.turns ≡ length paths = sym (length-map a.turns path_of) ∙ ap length a.each ∙ length-reverse paths in
        record {
          here = b.here;
          earlier = a.turns;
          each = each_more (looks_at b.here) b.path_is ∙ ap reverse (sym firsts ∙ ap (λ n. take (n + 1) all) (sym many));
          whole = b.whole;
          come = (come_later poll (looks_of a.turns) old.history between.history b.here.moment a.own.come b.later, b.comes);
          all_looks = b.all_looks ∙ ap (λ (l : List ℕ). b.here.file ∷ l) a.own.all_looks;
          all_misses = b.all_misses ∙ a.own.all_misses;
          no_unlisted = b.no_unlisted ∙ a.own.no_unlisted;
          read_on = (a.read_on, reads_whole poll b.here b.whole (outcome_after poll (looks_of a.turns) start b.here));
          crosses = subst (λ (l : List Mark). Crosses limit end l full)
              (sym (ap (λ (p : Progress). (after_look poll b.here p).added) a.leads_to ∙ ap (λ (p : Progress). p.added) (look_after_lines poll b.here mid added)))
              (crosses_later limit end mid_end added (after_look poll b.here (progress_of mid [])).added full at b.fills);
          handles = b.handles ∙ a.handles;
        }
