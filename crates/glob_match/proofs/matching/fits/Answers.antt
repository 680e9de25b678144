use Rattle.glob_match.specs.Inner.Walked.{names_left}
use Rattle.glob_match.proofs.Walks.{up_to_here}
use Rattle.glob_match.proofs.matching.fits.Goals as goal

pub returns-in-Folders : goal.returns-in-Folders
returns-in-Folders c =
    let same = up_to_here c.args.components.now (names_left c.args.names) c.in-Folders.others.now (names_left c.in-Folders.left) c.in-Folders.ensures in
    ((λ h. same.1 (c.fits_below.ensures.0 h)), (λ fits. c.fits_below.ensures.1 (same.0 fits)))
