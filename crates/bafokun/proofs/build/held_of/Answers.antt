use Rattle.std.proofs.Common.{ℕ, List, length, subst, sym, ap, ◌∙◌}
use Rattle.std.specs.Prelude.{option_map}
use Rattle.std.proofs.lemmas.Result.{IfOk-weaker}
use Rattle.co_sheet_changes.specs.Originals.{original_at}
use Rattle.co_dict_table.specs.Entries.{EntryContent, entry_at}
use Rattle.bafokun.specs.Changes.{no_changes}
use Rattle.bafokun.specs.Builds.{IsNodeOf, limits_for, plan_for}
use Rattle.bafokun.proofs.Numbered.{same_keys}
use Rattle.bafokun.proofs.build.held_of.Goals as goal

pub returns-clause-ok : goal.returns-clause-ok
returns-clause-ok c =
    IfOk-weaker c.boxed.result _ _
    (λ held is. record {
      is_built = subst (IsNodeOf c.args.node_id c.args.settings.now c.args.sheet.now) (sym is.node) c.in_ok-node.ensures.ok;
      entries = is.entries ∙ c.in_ok-entries.ensures.ok;
      numbered = λ (number : ℕ).
          same_keys (original_at c.args.text.now) c.args.node_id (limits_for c.args.settings.now) c.args.sheet.now.rows number
          ∙ ap (λ (es : List EntryContent). option_map (λ e. e.facts.key) (entry_at es number))
          (sym (is.entries ∙ c.in_ok-entries.ensures.ok));
      changes = is.changes ∙ c.in_ok-changes.ensures.ok ∙ ap no_changes (c.len.ensures ∙ ap (λ (es : List EntryContent). length es) (sym is.entries));
      events = is.events;
      ending = is.ending;
    }) c.boxed.ensures.ok

pub returns-clause-err : goal.returns-clause-err
returns-clause-err c = c.boxed.ensures.err (plan_for c.args.node_id c.args.settings.now c.args.sheet.now)
