use Rattle.std.proofs.Common.{◌≡◌, ℕ, List, ◌++◌, ◌∙◌, OnOk, ap, map, subst, sym}
use Rattle.co_sheet_text_warnings.specs.declared.warning.WarningKind.{WarningKind}
use Rattle.co_sheet.specs.Entries.{Entry, sub_indices}
use Rattle.co_sheet_text_warnings.specs.Infos.{date_formats}
use Rattle.co_sheet_warnings.specs.Identities.{identity_number}
use Rattle.co_sheet_text_warnings.specs.ReadTexts.{ReadText}
use Rattle.co_sheet_warnings.specs.Warnings.{few_places}
use Rattle.co_sheet_text_warnings.specs.Places.{warnings_at}
use Rattle.co_sheet_text_warnings.specs.Views.{key_view}
use Rattle.co_sheet_warnings.proofs.whole.add_few.Goals as goal

pub returns-in-PdoCount : goal.returns-in-PdoCount
unfolding few_places
returns-in-PdoCount c =
    let added = λ (l : List ℕ). OnOk c.add_each.result (c.add_each.new.warnings.items ≡ c.args.warnings.now.items ++ warnings_at c.args.kind l) in
    subst (λ (kind : WarningKind). added (few_places c.args.text.now kind)) (sym c.in-PdoCount.is) (subst added c.pdo_counts.ensures c.add_each.ensures)

pub returns-in-IdentityNumber : goal.returns-in-IdentityNumber
unfolding few_places
returns-in-IdentityNumber c =
    let sub = c.in-IdentityNumber.sub in
    let found = c.identity_number.ensures ∙ ap (λ (entries : List Entry). identity_number (map key_view c.text.inside.keys.now) entries sub) c.parts.ensures
    ∙ ap (λ (t : ReadText). identity_number t.keys (sub_indices c.args.text.now.sections 0x1018) sub) c.text.view_is in
    subst (λ (kind : WarningKind). OnOk c.add_one.result (c.add_one.new.warnings.items ≡ c.args.warnings.now.items ++ warnings_at kind (few_places c.args.text.now kind))) (sym c.in-IdentityNumber.is) (c.add_one.ensures _ found)

pub returns-in-DateFormat : goal.returns-in-DateFormat
unfolding few_places
returns-in-DateFormat c =
    let added = λ (l : List ℕ). OnOk c.add_each-in-DateFormat.result (c.add_each-in-DateFormat.new.warnings.items ≡ c.args.warnings.now.items ++ warnings_at c.args.kind l) in
    subst (λ (kind : WarningKind). added (few_places c.args.text.now kind)) (sym c.in-DateFormat.is)
    (subst added (c.date_formats.ensures ∙ ap (λ (t : ReadText). date_formats t.keys) c.text.view_is) c.add_each-in-DateFormat.ensures)
