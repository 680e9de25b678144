use Rattle.std.proofs.Common.{◌≡◌, ◌+◌, drop, refl, sym, subst, ◌∙◌, arith, length-drop}
use Rattle.std.proofs.lemmas.List.{take_rest, drop-drop}
use Rattle.pipeline.specs.Parts.{settings_of, network}
use Rattle.pipeline.specs.Searched.{IsSearched}
use Rattle.pipeline.specs.Tokens.{rule_of}
use Rattle.pipeline.proofs.Cutting.{nothing_searched}
use Rattle.pipeline.proofs.Feeding.{GraphLaws, LineLaws, FeedsOn, feeds_from_start, feeds_token, feeds_all}
use Rattle.pipeline.proofs.Pipeline.feed_by.Goals as goal

pub loop-buffers-init : goal.loop-buffers-init
loop-buffers-init c =
    let graph : GraphLaws (network c.args.self.now) = record { begin = c.begin.ensures; states = c.go_on.ensures.states; items = c.go_on.ensures.items } in
    let lines : LineLaws = record { none = c.lines_append.ensures.none; append = c.lines_append.ensures.append } in
    record {
      within = omega arith;
      searched = c.requires.searched;
      feeds = λ origin is. feeds_from_start (settings_of c.args.self.now) (network c.args.self.now) (rule_of (settings_of c.args.self.now) c.args.stretch.now.cutting) origin graph lines c.args.stretch.now.piece.bytes.now c.args.state.now c.args.out.now.items;
      records = omega arith;
      lines = omega arith;
      kinds = c.requires.states;
      states = refl;
      empty = c.new-buffers.ensures;
    }

pub loop-buffers-preserved : goal.loop-buffers-preserved
loop-buffers-preserved c =
    let graph : GraphLaws (network c.args.self.now) = record { begin = c.begin.ensures; states = c.go_on.ensures.states; items = c.go_on.ensures.items } in
    let lines : LineLaws = record { none = c.lines_append.ensures.none; append = c.lines_append.ensures.append } in
    let so_far = c.loop-buffers.invariant in
    let begins = rw (take_rest c.args.stretch.now.piece.bytes.now c.loop-buffers.at) at (rw c.in-Some.is at c.in_ok-token.ensures.token).begins in
    let anew : c.next_token.new.searched ≡ 0 = rw c.in-Some.is at c.in_ok-token.ensures.begins_anew in
    record {
      within = omega (arith, begins.within, length-drop c.loop-buffers.at c.args.stretch.now.piece.bytes.now);
      searched = subst (λ n. IsSearched (settings_of c.args.self.now) (drop (c.loop-buffers.at + c.in-Some.token.after) c.args.stretch.now.piece.bytes.now) n) (sym anew) (nothing_searched (settings_of c.args.self.now) (drop (c.loop-buffers.at + c.in-Some.token.after) c.args.stretch.now.piece.bytes.now));
      feeds = λ origin is.
          let fed = rw (take_rest c.args.stretch.now.piece.bytes.now c.loop-buffers.at) at (c.in_ok-feed_token.ensures.fed origin is) in
          subst (λ rest. FeedsOn (settings_of c.args.self.now) (network c.args.self.now) (rule_of (settings_of c.args.self.now) c.args.stretch.now.cutting) origin c.args.stretch.now.piece.bytes.now rest (c.loop-buffers.at + c.in-Some.token.after) c.args.state.now c.feed_token.new.state c.args.out.now.items c.feed_token.new.out.items) (drop-drop c.in-Some.token.after c.loop-buffers.at c.args.stretch.now.piece.bytes.now)
          (feeds_token (settings_of c.args.self.now) (network c.args.self.now) (rule_of (settings_of c.args.self.now) c.args.stretch.now.cutting) origin graph lines c.args.stretch.now.piece.bytes.now c.args.state.now c.args.out.now.items (drop c.loop-buffers.at c.args.stretch.now.piece.bytes.now) c.loop-buffers.at _ c.loop-buffers.state c.feed_token.new.state c.loop-buffers.out.items c.feed_token.new.out.items begins (so_far.feeds origin is) fed);
      records = omega (arith, c.in_ok-feed_token.ensures.records, so_far.records, begins.some_used);
      lines = omega (arith, c.in_ok-feed_token.ensures.lines c.requires.source.0 c.requires.source.1, so_far.lines);
      kinds = c.in_ok-feed_token.ensures.states;
      states = c.feed_token.ensures.many ∙ so_far.states;
      empty = c.in_ok-feed_token.ensures.empty;
    }

pub returns-clause-fed : goal.returns-clause-fed
returns-clause-fed c = λ origin is.
    let graph : GraphLaws (network c.args.self.now) = record { begin = c.begin.ensures; states = c.go_on.ensures.states; items = c.go_on.ensures.items } in
    let lines : LineLaws = record { none = c.lines_append.ensures.none; append = c.lines_append.ensures.append } in
    (feeds_all (settings_of c.args.self.now) (network c.args.self.now) (rule_of (settings_of c.args.self.now) c.args.stretch.now.cutting) origin graph lines c.args.stretch.now.piece.bytes.now c.args.state.now c.args.out.now.items (drop c.loop-buffers.at c.args.stretch.now.piece.bytes.now) c.loop-buffers.at c.loop-buffers.state c.loop-buffers.out.items (rw (take_rest c.args.stretch.now.piece.bytes.now c.loop-buffers.at) at (rw c.in_default.is at c.in_ok-token.ensures.token)) (c.loop-buffers.invariant.feeds origin is)).1

pub returns-clause-used : goal.returns-clause-used
returns-clause-used c =
    let graph : GraphLaws (network c.args.self.now) = record { begin = c.begin.ensures; states = c.go_on.ensures.states; items = c.go_on.ensures.items } in
    let lines : LineLaws = record { none = c.lines_append.ensures.none; append = c.lines_append.ensures.append } in
    let origin = c.requires.source.0 in
    (feeds_all (settings_of c.args.self.now) (network c.args.self.now) (rule_of (settings_of c.args.self.now) c.args.stretch.now.cutting) origin graph lines c.args.stretch.now.piece.bytes.now c.args.state.now c.args.out.now.items (drop c.loop-buffers.at c.args.stretch.now.piece.bytes.now) c.loop-buffers.at c.loop-buffers.state c.loop-buffers.out.items (rw (take_rest c.args.stretch.now.piece.bytes.now c.loop-buffers.at) at (rw c.in_default.is at c.in_ok-token.ensures.token)) (c.loop-buffers.invariant.feeds origin c.requires.source.1)).0

pub next_token-requires : goal.next_token-requires
next_token-requires c = rw (take_rest c.args.stretch.now.piece.bytes.now c.loop-buffers.at) c.loop-buffers.invariant.searched

pub returns-clause-searched : goal.returns-clause-searched
returns-clause-searched c = rw (take_rest c.args.stretch.now.piece.bytes.now c.loop-buffers.at) at (rw c.in_default.is at c.in_ok-token.ensures.goes_on)
