use Rattle.std.proofs.Common.{◌≡◌, ℕ, List, [], ◌++◌, ◌∙◌, map, ap}
use Rattle.std.proofs.lemmas.Result.{on_ok_weaker}
use Rattle.std.specs.Prelude.{filter_map}
use Rattle.co_sheet_text.specs.Views.{section_view}
use Rattle.co_sheet_warnings.specs.Repeats.{ScopedName, repeats, same_scoped}
use Rattle.co_sheet_text_warnings.specs.Places.{warnings_at}
use Rattle.co_sheet_warnings.specs.private.Views.{placed_in, repeats_of, scoped_view}
use Rattle.co_sheet_warnings.proofs.NameLemmas.{repeated_names}
use Rattle.co_sheet_warnings.proofs.repeats.add_repeats_of.Goals as goal

pub returns : goal.returns
returns c =
    let once = c.args.once in
    let sections = map section_view c.args.sections.now in
    let none : map scoped_view c.new-before.result.keys ≡ [] = ap (map scoped_view) c.new-before.ensures.empty in
    let is : repeats same_scoped (map scoped_view c.new-before.result.keys) (filter_map (placed_in once) sections) ≡ repeats_of once sections =
    ap (λ (names : List ScopedName). repeats same_scoped names (filter_map (placed_in once) sections)) none ∙ repeated_names once sections in
    on_ok_weaker c.add_repeats.result (λ h. h ∙ ap (λ (l : List ℕ). c.args.warnings.now.items ++ warnings_at c.args.kind l) is) c.add_repeats.ensures
