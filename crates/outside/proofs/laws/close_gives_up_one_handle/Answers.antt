use Rattle.std.proofs.Common.{◌≡◌, ℕ, ◌∷◌, ap, ◌∙◌, not, ◌==◌}
use Rattle.std.specs.Prelude.{filter}
use Rattle.outside.specs.Reading.{file_of}
use Rattle.outside.proofs.Seeing.{none_after, others_stay, given_back}
use Rattle.outside.proofs.laws.close_gives_up_one_handle.Goals as goal

pub returns-clause-gone : goal.returns-clause-gone
returns-clause-gone c = λ handle old new closes. ap (λ handles. file_of handles handle) closes.handles ∙ none_after handle old.handles

pub returns-clause-others : goal.returns-clause-others
returns-clause-others c = λ handle other old new closes apart. ap (λ handles. file_of handles other) closes.handles ∙ others_stay handle other old.handles apart

pub returns-clause-undoes : goal.returns-clause-undoes
returns-clause-undoes c = λ path handle size old opened new opens closes.
    closes.handles ∙ ap (λ handles. filter (λ pair. not (pair.0 == handle)) handles) opens.handles ∙ given_back handle opens.file old.handles opens.is_new
