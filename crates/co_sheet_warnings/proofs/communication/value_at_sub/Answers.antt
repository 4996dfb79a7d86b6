use Rattle.std.proofs.Common.{refl, cond, map, eqb}
use Rattle.std.specs.Prelude.{find, option_and_then}
use Rattle.co_sheet.specs.Entries.{Entry}
use Rattle.co_sheet.specs.SectionViews.{entry_view}
use Rattle.co_sheet_warnings.specs.Communication.{value_at_sub}
use Rattle.co_sheet.specs.Limits.{value_property}
use Rattle.co_sheet_text_warnings.proofs.PieceLemmas.{apart, made-first, search-end, search-turn}
use Rattle.co_sheet_warnings.proofs.communication.value_at_sub.Goals as goal

pub loop-part-preserved : goal.loop-part-preserved
loop-part-preserved c =
    let sub = c.args.sub in
    let is_it = λ (e : Entry). eqb e.key.sub sub in
    search-turn (λ parts. value_at_sub sub (map entry_view parts)) (λ part. is_it (entry_view part)) (λ x b y. cond b (value_property (entry_view x)) y)
    (λ x l. made-first (option_and_then value_property) (is_it (entry_view x)) (entry_view x) (find is_it (map entry_view l))) (λ x y. refl)
    c.args.parts.now c.loop-part.part-index _ _ c.loop-part-test.true (apart _ _ c.if-part-sub.false) c.loop-part.invariant

pub returns : goal.returns
returns c = search-end (λ parts. value_at_sub c.args.sub (map entry_view parts)) c.args.parts.now c.loop-part.part-index _ c.loop-part-test.false c.loop-part.invariant
