use Rattle.text_parsers.proofs.search.Search.new.Goals as goal

pub invariant_of-result : goal.invariant_of-result
invariant_of-result c = record { same = ∣ c.in_ok-matcher.ensures.pattern ∣₁; room = c.in_ok-locations.ensures.value }
