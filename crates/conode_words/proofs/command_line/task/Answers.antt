use Rattle.std.proofs.Common.{map}
use Rattle.std.proofs.lemmas.Result.{IfOk-weaker}
use Rattle.clap.specs.Words.{subcommand_of}
use Rattle.conode_words.specs.Commands.{adapt_command, check_command, compare_command, conode_command, convert_command, decode_command, explain_command, lint_command, lint_of_sheets, loop_command, replay_command, show_command, stats_command}
use Rattle.conode_words.specs.Tables.{rule_of_kind}
use Rattle.conode_words.proofs.FieldLemmas.{task_fields}
use Rattle.conode_words.proofs.command_line.task.Goals as goal

pub returns-clause-fields : goal.returns-clause-fields
returns-clause-fields c =
    IfOk-weaker c.task_by-task.result _ _ (λ task h. task_fields (subcommand_of conode_command (map (λ word. word.now) c.args.words.now)) task h) c.task_by-task.ensures.ok

pub task_by-task-requires : goal.task_by-task-requires
unfolding rule_of_kind adapt_command check_command compare_command conode_command convert_command decode_command explain_command lint_command lint_of_sheets loop_command replay_command show_command stats_command
task_by-task-requires c = c.in-Ok.ensures
