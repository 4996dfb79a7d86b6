-- The words about what is found.
use Rattle.std.specs.Prelude.{ℕ, List, Option, codes}
use Rattle.co_dict_build.specs.BuildFaultTexts.{fault_name as build_fault_name}
use Rattle.co_sheet_rows.specs.FaultTexts.{fault_name}
use Rattle.co_sheet_rows.specs.declared.fault.FaultKind.{FaultKind}
use Rattle.co_sheet_rows.specs.declared.fault.FaultKind.TheVariants as fault
use Rattle.co_sheet_faults.specs.FaultWords as faults
use Rattle.co_sheet_text.specs.Sections.{TextSection}
use Rattle.co_sheet_warnings.specs.WarningWords as warnings
use Rattle.co_sheet_text_warnings.specs.declared.warning.WarningKind.{WarningKind}
use Rattle.co_sheet_text_warnings.specs.declared.warning.WarningKind.TheVariants as warning
use Rattle.co_sheet_warnings.specs.Repeats.{first_equal}
use Rattle.conode_lint_text.specs.Bounds as bounds
use Rattle.conode_lint_text.specs.Facts as facts
use Rattle.conode_lint_text.specs.declared.finding.About.{About}
use Rattle.conode_lint_text.specs.declared.finding.About.TheVariants as about
use Rattle.conode_lint_text.specs.declared.finding.Place.{Place}
use Rattle.conode_lint_text.specs.declared.finding.Place.TheVariants.{Beginning, Value}
use Rattle.conode_lint_text.specs.declared.finding.Severity.{Severity}
use Rattle.conode_lint_text.specs.declared.finding.Severity.TheVariants as severity
use Rattle.conode_lint_marks.specs.declared.mark.Mark.{Mark}
use Rattle.conode_lint_marks.specs.declared.mark.Subject.{Subject}
use Rattle.conode_lint_marks.specs.declared.mark.Subject.TheVariants.{Format, Fault, Build, Mapping, Warning}
use Rattle.conode_lint.specs.BuildReasons.{meaning_in}
use Rattle.conode_lint.specs.BuildWords.{build_about, build_place, build_fix, build_meaning, build_subject}
use Rattle.conode_lint.specs.MappingWords.{mapping_about, mapping_meaning, mapping_fix, mapping_subject}
use Rattle.conode_lint.specs.FormatWords.{format_fix, format_meaning, format_subject}

-- its name
abbrev pub name_of : Subject → List ℕ
name_of (Format format) = codes "OtherFormat"
name_of (Fault kind) = fault_name kind
name_of (Build fault) = build_fault_name fault
name_of (Mapping fault) = codes "BadMapping"
name_of (Warning kind) = warnings.name_of kind

abbrev pub severity_of : Subject → Severity
severity_of (Warning kind) = severity.Warning
severity_of other = severity.Error

-- faults of a value, and of the index that a list names
abbrev pub fault_place : FaultKind → Place
fault_place fault.BadNumber = Value
fault_place fault.AmbiguousNumber = Value
fault_place fault.MissingSection = Value
fault_place fault.ListedTwice = Value
fault_place fault.BadType = Value
fault_place fault.LeftOutType = Value
fault_place fault.BadAccess = Value
fault_place fault.BadLimits = Value
fault_place fault.BadDefault = Value
fault_place fault.CompactForm = Value
fault_place other = Beginning

abbrev pub place_of : Subject → Place
place_of (Fault kind) = fault_place kind
place_of (Build fault) = build_place fault
place_of (Mapping fault) = Value
place_of other = Beginning

-- what it is about, at a line with this text among these sections: what the line alone doesn't show
abbrev pub fault_about : List TextSection → ℕ → List ℕ → FaultKind → About
fault_about sections line text fault.TooLarge = facts.too_large line
fault_about sections line text fault.MissingSection =
    facts.missing_section_in sections line text
fault_about sections line text fault.MissingMandatory = facts.missing_mandatory sections
fault_about sections line text fault.BadLine = facts.bad_line text
fault_about sections line text fault.BadNumber = facts.bad_number text
fault_about sections line text fault.AmbiguousNumber = facts.ambiguous_number text
fault_about sections line text fault.BadAccess = facts.bad_access text
fault_about sections line text fault.BadType = facts.bad_type line sections text
fault_about sections line text fault.BadList = facts.bad_list line sections
fault_about sections line text fault.ListedTwice = facts.listed_twice sections text
fault_about sections line text fault.MissingKey = facts.missing_key line sections
fault_about sections line text fault.DuplicateKey = facts.duplicate_key line sections text
fault_about sections line text fault.DuplicateSection = facts.duplicate_section sections text
fault_about sections line text fault.BadLimits = bounds.bad_limits line sections text
fault_about sections line text fault.BadDefault = bounds.bad_default line sections text
fault_about sections line text other = about.Line

abbrev pub warning_about : List TextSection → ℕ → List ℕ → WarningKind → About
warning_about sections line text warning.SubNumber = facts.sub_number line sections text
warning_about sections line text warning.SubIndex0 = facts.sub_index_0 line sections text
warning_about sections line text (warning.FileInfoKeys missing) = facts.file_info line missing
warning_about sections line text (warning.DeviceInfoKeys missing) =
    facts.device_info line missing
warning_about sections line text warning.PdoCount = facts.pdo_count sections text
warning_about sections line text (warning.IdentityNumber sub) =
    facts.identity_number sections sub text
warning_about sections line text (warning.SharedCobId node) =
    facts.first_at (first_equal (warning.SharedCobId node) line sections)
warning_about sections line text (warning.HeartbeatTwice given) =
    facts.first_at (first_equal (warning.HeartbeatTwice given) line sections)
warning_about sections line text warning.EqualNames =
    facts.first_at (first_equal warning.EqualNames line sections)
warning_about sections line text (warning.MisspeltKey known) =
    facts.misspelt_key line sections known
warning_about sections line text warning.MisspeltSection = facts.misspelt_section text
warning_about sections line text warning.WrongList = facts.wrong_list text
warning_about sections line text warning.WrongAccess = facts.wrong_access line sections
warning_about sections line text warning.WrongType = facts.wrong_type line sections
warning_about sections line text warning.ReservedValue = facts.reserved_value line sections
warning_about sections line text warning.Utf8 = facts.utf8 text
warning_about sections line text other = about.Line

abbrev pub about_of : List TextSection → ℕ → List ℕ → Subject → About
about_of sections line text (Fault kind) = fault_about sections line text kind
about_of sections line text (Build fault) = build_about sections line text fault
about_of sections line text (Mapping fault) = mapping_about fault
about_of sections line text (Warning kind) = warning_about sections line text kind
about_of sections line text (Format format) = about.Line

-- how to fix it, as at a line: a text without one has a fact, which says more
abbrev pub fault_fix : FaultKind → List ℕ
fault_fix fault.AmbiguousNumber =
    codes "CiA 306 reads a leading 0 as octal: write the number in decimal without it or in hexadecimal, or try conode adapt --leading-zeros"
fault_fix fault.BadList =
    codes "number the keys 1, 2, 3 without a gap, and count them; a key with a leading zero, as 01, isn't read: write 1, or try conode adapt"
fault_fix kind = faults.fix_of (record { kind = kind; line = 1 })

abbrev pub fix_of : Subject → List ℕ
fix_of (Format format) = format_fix format
fix_of (Fault kind) = fault_fix kind
fix_of (Build fault) = build_fix fault
fix_of (Mapping fault) = mapping_fix fault.reason
fix_of (Warning kind) = warnings.fix_of kind

abbrev pub subject_of : Subject → List ℕ
subject_of (Format format) = format_subject
subject_of (Fault kind) = faults.subject_of kind
subject_of (Build fault) = build_subject fault
subject_of (Mapping fault) = mapping_subject
subject_of (Warning kind) = warnings.subject_of kind

-- what is wrong, at a line, or 0 if no line is to blame
abbrev pub meaning_at : ℕ → Subject → List ℕ
meaning_at line (Format format) = format_meaning format
meaning_at line (Fault kind) = faults.meaning_of (record { kind = kind; line = line })
meaning_at line (Build fault) = build_meaning fault
meaning_at line (Mapping fault) = mapping_meaning fault.reason
meaning_at line (Warning kind) = warnings.meaning_of kind

abbrev pub meaning_of : Mark → List ℕ
meaning_of mark = meaning_at mark.line mark.subject

-- of a build fault which of several it is, at a line with this text among these sections, by the
-- node-ID that is given, or else the sheet's own
abbrev pub meaning_with : Option ℕ → List TextSection → List ℕ → ℕ → Subject → List ℕ
meaning_with given sections text line (Build fault) = meaning_in given sections text fault
meaning_with given sections text line subject = meaning_at line subject
