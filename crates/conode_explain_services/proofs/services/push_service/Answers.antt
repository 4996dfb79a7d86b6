use Rattle.std.proofs.Common.{sym, ◌∙◌}
use Rattle.std.specs.Prelude.{string_bytes}
use Rattle.conode_explain_services.specs.Services.{service_words}
use Rattle.conode_explain_services.proofs.Nothing.{none_added}
use Rattle.conode_explain_services.proofs.services.push_service.Goals as goal

pub returns-then-not-is_said-clause-words : goal.returns-then-not-is_said-clause-words
returns-then-not-is_said-clause-words c =
    none_added (string_bytes c.args.text.now) (service_words c.args.drive c.args.last c.args.frame.now) (sym c.is_said.ensures ∙ c.if-not-is_said.true)
