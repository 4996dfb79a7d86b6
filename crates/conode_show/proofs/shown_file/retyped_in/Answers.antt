use Rattle.std.proofs.Common.{ap, ◌∙◌, map}
use Rattle.std.proofs.lemmas.Result.{IfOk-weaker}
use Rattle.co_sheet_changes.specs.Views.{text_at}
use Rattle.co_sheet_text.specs.Views.{section_view}
use Rattle.conode_show.specs.Shown.{retyped}
use Rattle.conode_show.proofs.RetypedLemmas.{retyped_same}
use Rattle.conode_show.proofs.shown_file.retyped_in.Goals as goal

pub returns-in-Ok-in_text : goal.returns-in-Ok-in_text
returns-in-Ok-in_text c =
    let table = text_at c.in-Ok-in_text.originals in
    let given = ap (map section_view) c.as_slice.ensures.value ∙ c.in-Ok.ensures in
    IfOk-weaker c.all_retyped.result _ _ (λ made h. retyped_same c.args.text.now table c.args.parsed.now _ c.in-Ok-in_text.ensures c.requires.parsed (h ∙ ap (map (retyped table)) given)) c.all_retyped.ensures
