use Rattle.std.proofs.Common.{◌≡◌, ◌++◌, refl, subst}
use Rattle.co_sheet_text_warnings.specs.declared.warning.WarningKind.{WarningKind}
use Rattle.co_sheet_text_warnings.specs.declared.warning.WarningKind.TheVariants.{SubNumber}
use Rattle.co_sheet_warnings.specs.Warnings.{warnings_in, warnings_of_kinds, warnings_with}
use Rattle.co_sheet_text_warnings.proofs.PieceLemmas.{pieces-end, pieces-turn}
use Rattle.co_sheet_warnings.proofs.find.add_kinds.Goals as goal

pub loop-kind-preserved : goal.loop-kind-preserved
loop-kind-preserved c =
    let text = c.args.text.now in
    let before = c.loop-kind.warnings.items in
    let after = c.add_warnings_with.new.warnings.items in
    pieces-turn (λ ks. warnings_of_kinds text ks) (warnings_in text) (λ x l. refl) c.args.kinds.now c.loop-kind.kind-index SubNumber before after _ c.loop-kind-test.true
    (subst (λ (kind : WarningKind). after ≡ before ++ warnings_with text kind) c.kind_in.ensures c.in-Ok.ensures) c.loop-kind.invariant

pub returns : goal.returns
returns c = pieces-end (warnings_of_kinds c.args.text.now) refl c.args.kinds.now c.loop-kind.kind-index _ _ c.loop-kind-test.false c.loop-kind.invariant
