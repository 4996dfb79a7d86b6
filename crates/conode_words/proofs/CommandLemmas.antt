-- What an argument and a subcommand make of a command.
use Rattle.std.proofs.Common.{◌≡◌, ◌∙◌, Bool, false, ap, ap₂}
use Rattle.std.specs.Prelude.{◌||◌}
use Rattle.clap.specs.Words.{AddsArg, AddsSubcommand, App, Rule, Shape, rule_of, with_rule, with_subcommand}
use Rattle.clap.specs.declared.builder.arg.Arg.{Arg}
use Rattle.clap.specs.declared.builder.command.Command.{Command}
use Rattle.conode_words.specs.Commands.{IsCommand}

abbrev either : Bool → Bool → Bool
either a b = a || b

abbrev top : App → Shape
top app = app.top

pub with_arg : (command : Command) (arg : Arg) (r : Command) (app : App) (rule : Rule) → AddsArg command arg r → IsCommand command app → rule_of arg ≡ rule → arg.global ≡ false → IsCommand r (with_rule app rule)
with_arg command arg r app rule h is own local = record {
  shape = h.shape local ∙ ap₂ with_rule is.shape own;
  local = h.globals ∙ ap₂ either is.local local;
}

pub with_command : (command below r : Command) (app sub : App) → AddsSubcommand command below r → IsCommand command app → IsCommand below sub → IsCommand r (with_subcommand app sub.top)
with_command command below r app sub h is its = record {
  shape = h.shape its.local ∙ ap₂ with_subcommand is.shape (ap top its.shape);
  local = h.globals ∙ ap₂ either is.local its.local;
}
