use Rattle.std.proofs.Common.{◌∙◌, Bool, ap}
use Rattle.clap.specs.Simple.{app_of_fields}
use Rattle.clap.specs.declared.builder.command.Command.{Command}
use Rattle.clap.specs.declared.builder.command.Command.TheOpen.{Command-F}
use Rattle.conode_words.proofs.options.new_command.Goals as goal

abbrev has_globals : Command-F Command → Bool
has_globals f = f.has_globals

pub returns : goal.returns
returns c = record {
  shape = ap app_of_fields c.after_help.ensures ∙ ap app_of_fields c.about.ensures ∙ c.new.ensures.app;
  local = ap has_globals c.after_help.ensures ∙ ap has_globals c.about.ensures ∙ c.new.ensures.local;
}
