-- The tables of words have each kind's words by its number.
use Rattle.std.proofs.Common.{◌≡◌, ℕ, ◌<◌, List, [], get_or, map, refl, arith}
use Rattle.co_sheet_rows.specs.declared.fault.FaultKind.{FaultKind}
use Rattle.co_sheet_rows.specs.declared.fault.FaultKind.TheVariants.{TooLarge, BadLine, KeyOutsideSection, DuplicateSection, DuplicateKey, MissingSection, BadNumber, AmbiguousNumber, BadList, ListedTwice, MissingKey, BadType, LeftOutType, BadAccess, BadLimits, BadDefault, MissingSub0, CompactForm, MissingMandatory, Memory}
use Rattle.co_sheet_rows.specs.FaultTexts.{fault_number}
use Rattle.co_sheet_faults.specs.declared.words.TheConstants.{MEANINGS, FIXES, SUBJECTS}
use Rattle.co_sheet_faults.specs.FaultWords.{meaning_at_line, fix_at_line, subject_of}

abbrev pub meanings : List (List ℕ)
meanings = map (λ text. text.now) MEANINGS

abbrev pub fixes : List (List ℕ)
fixes = map (λ text. text.now) FIXES

abbrev pub subjects : List (List ℕ)
subjects = map (λ text. text.now) SUBJECTS

pub few_kinds : (kind : FaultKind) → fault_number kind < 21
few_kinds TooLarge = omega arith
few_kinds BadLine = omega arith
few_kinds KeyOutsideSection = omega arith
few_kinds DuplicateSection = omega arith
few_kinds DuplicateKey = omega arith
few_kinds MissingSection = omega arith
few_kinds BadNumber = omega arith
few_kinds AmbiguousNumber = omega arith
few_kinds BadList = omega arith
few_kinds ListedTwice = omega arith
few_kinds MissingKey = omega arith
few_kinds BadType = omega arith
few_kinds LeftOutType = omega arith
few_kinds BadAccess = omega arith
few_kinds BadLimits = omega arith
few_kinds BadDefault = omega arith
few_kinds MissingSub0 = omega arith
few_kinds CompactForm = omega arith
few_kinds MissingMandatory = omega arith
few_kinds Memory = omega arith

pub meant : (kind : FaultKind) → get_or meanings (fault_number kind) [] ≡ meaning_at_line kind
meant TooLarge = refl
meant BadLine = refl
meant KeyOutsideSection = refl
meant DuplicateSection = refl
meant DuplicateKey = refl
meant MissingSection = refl
meant BadNumber = refl
meant AmbiguousNumber = refl
meant BadList = refl
meant ListedTwice = refl
meant MissingKey = refl
meant BadType = refl
meant LeftOutType = refl
meant BadAccess = refl
meant BadLimits = refl
meant BadDefault = refl
meant MissingSub0 = refl
meant CompactForm = refl
meant MissingMandatory = refl
meant Memory = refl

pub fixed : (kind : FaultKind) → get_or fixes (fault_number kind) [] ≡ fix_at_line kind
fixed TooLarge = refl
fixed BadLine = refl
fixed KeyOutsideSection = refl
fixed DuplicateSection = refl
fixed DuplicateKey = refl
fixed MissingSection = refl
fixed BadNumber = refl
fixed AmbiguousNumber = refl
fixed BadList = refl
fixed ListedTwice = refl
fixed MissingKey = refl
fixed BadType = refl
fixed LeftOutType = refl
fixed BadAccess = refl
fixed BadLimits = refl
fixed BadDefault = refl
fixed MissingSub0 = refl
fixed CompactForm = refl
fixed MissingMandatory = refl
fixed Memory = refl

pub ruled : (kind : FaultKind) → get_or subjects (fault_number kind) [] ≡ subject_of kind
ruled TooLarge = refl
ruled BadLine = refl
ruled KeyOutsideSection = refl
ruled DuplicateSection = refl
ruled DuplicateKey = refl
ruled MissingSection = refl
ruled BadNumber = refl
ruled AmbiguousNumber = refl
ruled BadList = refl
ruled ListedTwice = refl
ruled MissingKey = refl
ruled BadType = refl
ruled LeftOutType = refl
ruled BadAccess = refl
ruled BadLimits = refl
ruled BadDefault = refl
ruled MissingSub0 = refl
ruled CompactForm = refl
ruled MissingMandatory = refl
ruled Memory = refl
