use Rattle.std.proofs.Common.{◌≡◌, ◌∙◌, sym, subst}
use Rattle.co_sheet_text.specs.declared.section_kind.SectionKind.{SectionKind}
use Rattle.co_sheet_text_warnings.proofs.PieceLemmas.{apart}
use Rattle.co_sheet_warnings.specs.declared.types.TheConstants.{STANDARD_TYPES}
use Rattle.co_sheet_warnings.specs.Types.{standard_type}
use Rattle.co_sheet_warnings.proofs.TypeLemmas.{find-rows, of_sub_index}
use Rattle.co_sheet_warnings.proofs.types.standard_type.Goals as goal

pub returns-in-Object : goal.returns-in-Object
returns-in-Object c = subst (λ (kind : SectionKind). c.type_among.result ≡ standard_type kind) (sym c.in-Object.is) (c.type_among.ensures ∙ find-rows (record { index = c.in-Object.index; sub = 0 }) STANDARD_TYPES)

pub returns-else-key-eq0 : goal.returns-else-key-eq0
returns-else-key-eq0 c =
    subst (λ (kind : SectionKind). c.type_among-in-SubIndex.result ≡ standard_type kind) (sym c.in-SubIndex.is)
    (of_sub_index c.in-SubIndex.key c.type_among-in-SubIndex.result c.type_among-in-SubIndex.ensures (apart _ _ c.if-key-eq0.false))
