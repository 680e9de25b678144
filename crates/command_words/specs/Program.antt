-- The command line, in `clap`'s words.
use Rattle.std.specs.Prelude.{true, codes}
use Rattle.clap.specs.Simple.{App, new_app, new_rule, new_shape, on_top, with_rule, with_subcommand}

-- without any command
abbrev pub bare_program : App
bare_program = on_top (λ shape. record shape {
  no_binary_name = true;
  disable_help_flag = true;
  disable_help_subcommand = true;
  subcommand_required = true;
}) (new_app (codes "stanza_agent"))

-- `demo`, which has one argument
abbrev pub demo : App
demo = with_rule (new_app (codes "demo")) (record (new_rule (codes "rounds")) { required = true })

-- with all commands
abbrev pub program : App
program = with_subcommand
    (with_subcommand
    (with_subcommand
    (with_subcommand
    (with_subcommand
    (with_subcommand
    (with_subcommand bare_program (new_shape (codes "once"))) (new_shape (codes "follow"))) (new_shape (codes "adopt"))) (new_shape (codes "audit"))) (new_shape (codes "committed"))) (new_shape (codes "pipe"))) demo.top
