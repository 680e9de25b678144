-- A program with one command more.
use Rattle.std.proofs.Common.{◌≡◌, ap₂, ◌∙◌}
use Rattle.clap.specs.Simple.{App, app_of, shape_of, with_subcommand}
use Rattle.clap.specs.declared.builder.command.Command.{Command}

pub one_more : (old sub new : Command) (above below : App) → app_of new ≡ with_subcommand (app_of old) (shape_of sub) → app_of old ≡ above → app_of sub ≡ below
    → app_of new ≡ with_subcommand above below.top
one_more old sub new above below more old_is sub_is = more ∙ ap₂ (λ (a b : App). with_subcommand a b.top) old_is sub_is
