use Rattle.std.proofs.Common.{◌∙◌, ap, Bool}
use Rattle.clap.specs.Simple.{app_of_fields}
use Rattle.clap.specs.declared.builder.command.Command.{Command}
use Rattle.clap.specs.declared.builder.command.Command.TheOpen.{Command-F}
use Rattle.conode_words.specs.Commands.{versioned}
use Rattle.conode_words.proofs.commands.only_conode.Goals as goal

abbrev has_globals : Command-F Command → Bool
has_globals f = f.has_globals

pub returns : goal.returns
returns c = record {
  shape = ap app_of_fields c.version.ensures ∙ ap versioned c.new_command.ensures.shape;
  local = ap has_globals c.version.ensures ∙ c.new_command.ensures.local;
}
