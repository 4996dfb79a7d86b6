use Rattle.std.proofs.Common.{◌∙◌, map, ap, refl}
use Rattle.conode_lint_text.specs.SarifForm.{log_head}
use Rattle.conode_lint.specs.Rules.{seen_rule}
use Rattle.conode_lint.proofs.report.begin_log.Goals as goal

pub returns-in-Ok : goal.returns-in-Ok
returns-in-Ok c = λ all whole.
    let rules = c.as_slice.result.now in
    (log_head c.args.version.now rules, (rules, ap (map seen_rule) c.as_slice.ensures.value ∙ c.in-Ok.ensures, refl), c.put_log_head.ensures.whole all whole)
