-- The marks of a plan, from the faults that are found.
use Rattle.std.proofs.Common.{◌≡◌, ◌∙◌, List, ap}
use Rattle.co_sheet.specs.Content.{Row, SheetContent}
use Rattle.co_sheet_text.specs.Sections.{TextSection}
use Rattle.co_sheet_text.specs.declared.section_kind.SectionKind.{SectionKind}
use Rattle.co_dict_build.specs.Built.{Plan}
use Rattle.co_dict_build.specs.declared.build_fault.BuildFault.{BuildFault}
use Rattle.co_dict_faults.specs.AllBuildFaults.{build_faults_of, mapping_faults_of}
use Rattle.co_dict_faults.specs.declared.mapping_fault.MappingFault.{MappingFault}
use Rattle.conode_lint_marks.specs.BuildLines.{built_marks, marks_with}
use Rattle.conode_lint_marks.specs.KnownFaults.{known_marks, known_with}

-- of all faults of a build
pub plan_marks : (sheet : SheetContent) (sections : List TextSection) (plan : Plan) (faults : List BuildFault) (mappings : List MappingFault) → faults ≡ build_faults_of plan → mappings ≡ mapping_faults_of plan
    → marks_with sheet sections faults mappings ≡ built_marks sheet sections plan
unfolding built_marks
plan_marks sheet sections plan faults mappings is_faults is_mappings =
    ap (λ (l : List BuildFault). marks_with sheet sections l mappings) is_faults ∙ ap (marks_with sheet sections (build_faults_of plan)) is_mappings

-- of those that rest on nothing at fault
pub plan_known : (rows : List Row) (sections : List TextSection) (kinds : List SectionKind) (sheet : SheetContent) (plan : Plan) (faults : List BuildFault) (mappings : List MappingFault)
    → rows ≡ sheet.rows → faults ≡ build_faults_of plan → mappings ≡ mapping_faults_of plan
    → known_with rows sections kinds faults mappings ≡ known_marks sections kinds sheet plan
unfolding known_marks
plan_known rows sections kinds sheet plan faults mappings is_rows is_faults is_mappings =
    ap (λ (l : List Row). known_with l sections kinds faults mappings) is_rows
    ∙ ap (λ (l : List BuildFault). known_with sheet.rows sections kinds l mappings) is_faults
    ∙ ap (known_with sheet.rows sections kinds (build_faults_of plan)) is_mappings
