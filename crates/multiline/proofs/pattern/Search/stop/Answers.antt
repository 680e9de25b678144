use Rattle.std.proofs.Common.{◌<◌, ◌∙◌, sym, ap, Some, arith}
use Rattle.regex.specs.Strings.{regex_source}
use Rattle.multiline.specs.Cutting.{cutting_at}
use Rattle.multiline.specs.MultilineTokens.{judged, window}
use Rattle.multiline.specs.declared.pattern.Pattern.{Pattern}
use Rattle.multiline.proofs.StopLemmas.{stops_there, searched_on, searched_past}
use Rattle.multiline.proofs.pattern.Search.stop.Goals as goal

pub returns-in-Some-true : goal.returns-in-Some-true
returns-in-Some-true c =
    let cutting = cutting_at c.args.boundary (regex_source c.args.self.now.pattern.now.regex) in
    let place = c.in-Some.place in
    let inside : place < window c.args.max c.args.bytes.now = omega (arith, c.in-Some.ensures.bounds, c.window_end-end.ensures.window) in (
      stops_there cutting c.args.max c.args.bytes.now c.loop-place.at place c.loop-place.invariant.searched inside c.in-Some.ensures.before c.in-Some.ensures.found,
      sym (ap (λ (p : Pattern). judged (cutting_at c.args.boundary (regex_source p.regex)) c.args.max c.args.bytes.now place) c.loop-place.invariant.pattern)
          ∙ sym c.in_ok-judge.ensures.judged ∙ c.in-Some-true.is ∙ ap Some c.in-Some-true.field-0-test,
    )

pub loop-place-preserved : goal.loop-place-preserved
loop-place-preserved c =
    let cutting = cutting_at c.args.boundary (regex_source c.args.self.now.pattern.now.regex) in
    let place = c.in-Some.place in
    let inside : place < window c.args.max c.args.bytes.now = omega (arith, c.in-Some.ensures.bounds, c.window_end-end.ensures.window) in
    record {
      pattern = c.in_ok-judge.ensures.pattern ∙ c.loop-place.invariant.pattern;
      searched = searched_past cutting c.args.max c.args.bytes.now place
          (stops_there cutting c.args.max c.args.bytes.now c.loop-place.at place c.loop-place.invariant.searched inside c.in-Some.ensures.before c.in-Some.ensures.found)
          (sym (ap (λ (p : Pattern). judged (cutting_at c.args.boundary (regex_source p.regex)) c.args.max c.args.bytes.now place) c.loop-place.invariant.pattern)
          ∙ sym c.in_ok-judge.ensures.judged ∙ c.in-Some-false.is ∙ ap Some c.in-Some-false.field-0-test);
    }

pub returns-in-None : goal.returns-in-None
returns-in-None c =
    let cutting = cutting_at c.args.boundary (regex_source c.args.self.now.pattern.now.regex) in
    let place = c.in-Some.place in
    let inside : place < window c.args.max c.args.bytes.now = omega (arith, c.in-Some.ensures.bounds, c.window_end-end.ensures.window) in (
      stops_there cutting c.args.max c.args.bytes.now c.loop-place.at place c.loop-place.invariant.searched inside c.in-Some.ensures.before c.in-Some.ensures.found,
      sym (ap (λ (p : Pattern). judged (cutting_at c.args.boundary (regex_source p.regex)) c.args.max c.args.bytes.now place) c.loop-place.invariant.pattern)
          ∙ sym c.in_ok-judge.ensures.judged ∙ c.in-None.is,
    )

pub returns : goal.returns
returns c =
    let cutting = cutting_at c.args.boundary (regex_source c.args.self.now.pattern.now.regex) in
    searched_on cutting c.args.max c.args.bytes.now c.loop-place.at (window c.args.max c.args.bytes.now) c.loop-place.invariant.searched (omega arith)
    (λ k low high. c.in_default.ensures.none k low (omega (arith, c.window_end-end.ensures.window)))
