use Rattle.std.proofs.Common.{ℕ, ◌+◌, List, [], ◌∷◌, ◌++◌, ◌∙◌, ap, sym, drop, length, zip, Vec, Global, arith}
use Rattle.std.proofs.lemmas.List.{length_push}
use Rattle.regex.specs.Names.{names_of}
use Rattle.text_parsers.specs.Groups.{groups_from, NamedGroup}
use Rattle.text_parsers.proofs.Matching.{no_name_more, one_name_more, zip_push}
use Rattle.text_parsers.proofs.groups.groups_of.Goals as goal
use Rattle.text_parsers.proofs.groups.groups_of.Goals.{in-Some-name+in_ok-name+in_ok-push+in_ok-push-2, in_default-name}

pub loop-index-preserved : goal.loop-index-preserved
loop-index-preserved c =
    let all = c.in-Some.all.now in
    let i = c.loop-index.index in
    let numbers = c.loop-index.numbers.items in
    let names = c.loop-index.names.items in
    let as_many = c.loop-index.invariant.as_many in
    let rest = groups_from (i + 1 + 1) (drop (i + 1) (names_of all)) in
    let groups = groups_from 1 (names_of all) in
    elim c.match-name.branch [
      | in-Some-name+in_ok-name+in_ok-push+in_ok-push-2 w ↦
          let name = w.in_ok-name.name in
          let numbers_are = ap (λ (v : Vec ℕ Global). v.items) w.numbers-is ∙ w.in_ok-push-2.ensures.items in
          let names_are = ap (λ (v : Vec (List ℕ) Global). v.items) w.names-is ∙ w.in_ok-push.ensures.items in
          let left = ap length numbers_are ∙ length_push numbers (i + 1) in
          let right = ap length names_are ∙ length_push names name in
          record {
            as_many = omega (arith, left, right, as_many);
            groups = ap (λ (l : List ℕ). zip l c.match-name.names.items ++ rest) numbers_are ∙ ap (λ (l : List (List ℕ)). zip (numbers ++ (i + 1) ∷ []) l ++ rest) names_are
                ∙ ap (λ (l : List NamedGroup). l ++ rest) (zip_push numbers names (i + 1) name as_many)
                ∙ one_name_more all i c.index-all-index.result c.loop-index-test.true c.index-all-index.is (zip numbers names) groups c.loop-index.invariant.groups
                w.in-Some-name.name w.in-Some-name.is (i + 1, name) (ap (λ (l : List ℕ). (i + 1, l)) (w.in_ok-name.ensures ∙ w.as_str.ensures.value));
          }
      | in_default-name w ↦
          let numbers_are = ap (λ (v : Vec ℕ Global). v.items) w.numbers-is in
          let names_are = ap (λ (v : Vec (List ℕ) Global). v.items) w.names-is in
          record {
            as_many = ap length numbers_are ∙ as_many ∙ sym (ap length names_are);
            groups = ap (λ (l : List ℕ). zip l c.match-name.names.items ++ rest) numbers_are ∙ ap (λ (l : List (List ℕ)). zip numbers l ++ rest) names_are
                ∙ no_name_more all i c.index-all-index.result c.loop-index-test.true c.index-all-index.is (zip numbers names) groups c.loop-index.invariant.groups w.in_default-name.is;
          }
    ]
