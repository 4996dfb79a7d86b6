use Rattle.std.proofs.Common.{ℕ, Option, [], ◌∷◌, cond, refl, sym, ◌∙◌, ap, map}
use Rattle.std.specs.Prelude.{find}
use Rattle.std.specs.Option.{option_map_or}
use Rattle.co_sheet_text.specs.Sections.{TextSection}
use Rattle.co_sheet_text.specs.Views.{section_view}
use Rattle.co_sheet_text_warnings.specs.Infos.{info_line, is_info}
use Rattle.co_sheet_text_warnings.specs.Keys.{topic_of}
use Rattle.co_sheet_text_warnings.proofs.PieceLemmas.{made-first, search-end, search-turn}
use Rattle.co_sheet_text_warnings.proofs.infos.missing_keys.Goals as goal

pub loop-section-preserved : goal.loop-section-preserved
loop-section-preserved c =
    let info = c.args.info in
    let is_it = λ (s : TextSection). is_info info (topic_of s.name) in
    search-turn (λ sections. info_line info (map section_view sections)) (λ section. is_it (section_view section)) (λ x b y. cond b x.line y)
    (λ x l. made-first (λ (o : Option TextSection). option_map_or (λ s. s.line) o 0) (is_it (section_view x)) (section_view x) (find is_it (map section_view l))) (λ x y. refl)
    c.args.sections.now c.loop-section.section-index _ _ c.loop-section-test.true
    (ap (is_info info) (sym c.topic_of.ensures) ∙ sym c.is_info.ensures ∙ c.if-is_info.false) c.loop-section.invariant

pub returns : goal.returns
returns c =
    let sections = c.args.sections.now in
    let lacks = sym c.lacks_any.ensures ∙ c.if-not-lacks_any.false in
    let none = search-end (λ sections. info_line c.args.info (map section_view sections)) sections c.loop-section.section-index _ c.loop-section-test.false c.loop-section.invariant in
    ap (λ (n : ℕ). n ∷ []) none ∙ sym (ap (λ b. cond b (info_line c.args.info (map section_view sections) ∷ []) []) lacks)
