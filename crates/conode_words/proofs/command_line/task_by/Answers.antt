use Rattle.std.proofs.Common.{◌≡◌, ◌∙◌, ap, subst, map, [], List}
use Rattle.std.proofs.lemmas.Result.{IfOk-weaker}
use Rattle.clap.specs.Kinds.{Kinds, FailsBy, HasKind}
use Rattle.clap.specs.Words.{App, Text, app_of, fault_of, is_simple, is_simple_and_free, subcommand_of, subcommand_rows_of}
use Rattle.conode_words.specs.Commands.{conode_command}
use Rattle.conode_words.specs.Tasks.{asked_of, task_fault, word_fault}
use Rattle.conode_words.proofs.TaskLemmas.{is_free_command, is_simple_command, word_decides, more_kinds}
use Rattle.conode_words.proofs.command_line.task_by.Goals as goal

pub returns-in-Ok-clause-fault : goal.returns-in-Ok-clause-fault
unfolding task_fault
returns-in-Ok-clause-fault c =
    let words : List Text = map (λ word. word.now) c.args.words.now in
    let same : app_of c.args.command.now ≡ conode_command = c.requires.shape in
    let none = subst (λ (a : App). fault_of a words ≡ []) same (c.in-Ok.ensures.kinds (ap is_simple_and_free same ∙ is_free_command)) in
    let found = subst (λ (a : App). subcommand_rows_of c.in-Ok.matches ≡ subcommand_of a words) same (c.in-Ok.ensures.ok.2 (ap is_simple same ∙ is_simple_command)).1 in
    subst (λ (ks : Kinds). FailsBy ks c.task_of.result) (word_decides word_fault (fault_of conode_command words) (subcommand_of conode_command words) (subcommand_rows_of c.in-Ok.matches) none found) c.task_of.ensures.fault

pub returns-in-Ok-clause-ok : goal.returns-in-Ok-clause-ok
returns-in-Ok-clause-ok c =
    let words : List Text = map (λ word. word.now) c.args.words.now in
    let same : app_of c.args.command.now ≡ conode_command = c.requires.shape in
    let found = subst (λ (a : App). subcommand_rows_of c.in-Ok.matches ≡ subcommand_of a words) same (c.in-Ok.ensures.ok.2 (ap is_simple same ∙ is_simple_command)).1 in
    IfOk-weaker c.task_of.result _ _ (λ task h. h ∙ ap asked_of found) c.task_of.ensures.ok

pub returns-in-Err-clause-fault : goal.returns-in-Err-clause-fault
unfolding task_fault
returns-in-Err-clause-fault c =
    let words : List Text = map (λ word. word.now) c.args.words.now in
    let same : app_of c.args.command.now ≡ conode_command = c.requires.shape in
    let kinds = subst (λ (a : App). HasKind (fault_of a words) c.in-Err.error) same (c.in-Err.ensures.kinds (ap is_simple_and_free same ∙ is_free_command)) in
    more_kinds (fault_of conode_command words) (word_fault (subcommand_of conode_command words)) c.in-Err.error kinds
