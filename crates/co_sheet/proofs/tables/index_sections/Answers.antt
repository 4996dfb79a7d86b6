use Rattle.std.proofs.Common.{OnOk, Result, Ok, Err, ap, ◌∙◌, ◌++◌, map}
use Rattle.std.specs.Prelude.{option_map}
use Rattle.std.specs.Option.{option_or}
use Rattle.co_sheet_text.specs.Views.{section_view}
use Rattle.co_sheet.specs.Entries.{sub_indices}
use Rattle.co_sheet.specs.SectionViews.{object_view, object_at, parts_at}
use Rattle.co_sheet.proofs.tables.index_sections.Goals as goal

-- what holds after success, of two facts that do
both : {E : Type 0} (r : Result (Unit {0}) E) (A B C : Type 0) → (A → B → C) → OnOk r A → OnOk r B → OnOk r C
both (Ok x) A B C f a b = f a b
both (Err e) A B C f a b = tt

pub returns : goal.returns
returns c =
    let sections = map section_view c.args.sections.now in
    both c.sort_by_index.result _ _ _ (λ sorted same. record {
      objects_found = λ i. c.in_ok-index_objects.ensures i ∙ ap (λ o. option_or (option_map object_view o) (object_at i sections)) (c.requires.objects i);
      parts_found = λ i. same i ∙ c.in_ok-add_sub_index_sections.ensures i ∙ ap (λ ps. parts_at ps i ++ sub_indices sections i) c.requires.parts;
      parts_by_index = sorted;
    }) c.sort_by_index.ensures.sorted c.sort_by_index.ensures.same
