use Rattle.glob_match.proofs.Starts.{leads_to_matches}
use Rattle.glob_match.proofs.glob.Glob.leads_to_matches.Goals as goal

pub returns : goal.returns
returns c = rw (← c.self.view_is) (leads_to_matches (record { is_absolute = c.self.inside.is_absolute; components = c.self.inside.components.items }) c.self.invariant)
