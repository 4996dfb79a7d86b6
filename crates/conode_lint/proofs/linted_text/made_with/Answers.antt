use Rattle.std.proofs.Common.{rules}
use Rattle.conode_lint.proofs.linted_text.made_with.Goals as goal

pub returns-in-Ok : goal.returns-in-Ok
returns-in-Ok c = record {
  printed = c.args.printed.now;
  by_line = c.requires;
  findings = search rules;
  errors = search rules;
  warnings = search rules;
  more = search rules;
}
