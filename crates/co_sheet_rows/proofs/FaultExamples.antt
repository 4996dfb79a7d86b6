-- Numbers, names and texts of faults and notes, computed from their definitions.
use Rattle.std.proofs.Common.{◌≡◌, List, [], ◌∷◌, refl, codes}
use Rattle.std.specs.Prelude.{map}
use Rattle.std.specs.Fmt.{digits}
use Rattle.co_sheet_rows.specs.declared.fault.FaultKind.{FaultKind}
use Rattle.co_sheet_rows.specs.declared.fault.FaultKind.TheVariants.{TooLarge, BadLine, KeyOutsideSection, DuplicateSection, DuplicateKey, MissingSection, BadNumber, AmbiguousNumber, BadList, ListedTwice, MissingKey, BadType, LeftOutType, BadAccess, BadLimits, BadDefault, MissingSub0, CompactForm, MissingMandatory, Memory}
use Rattle.co_sheet_rows.specs.declared.note.NoteKind.TheVariants.{SubNumber, Unlisted, NodeId}
use Rattle.co_sheet_rows.specs.FaultTexts.{fault_number, fault_name, fault_text, note_name, note_text}

-- faults 1 to 10, and 11 to 20
abbrev first_ten : List FaultKind
first_ten =
    TooLarge ∷ BadLine ∷ KeyOutsideSection ∷ DuplicateSection ∷ DuplicateKey
    ∷ MissingSection ∷ BadNumber ∷ AmbiguousNumber ∷ BadList ∷ ListedTwice ∷ []

abbrev last_ten : List FaultKind
last_ten =
    MissingKey ∷ BadType ∷ LeftOutType ∷ BadAccess ∷ BadLimits
    ∷ BadDefault ∷ MissingSub0 ∷ CompactForm ∷ MissingMandatory ∷ Memory ∷ []

numbers_to_10 : map fault_number first_ten ≡ 1 ∷ 2 ∷ 3 ∷ 4 ∷ 5 ∷ 6 ∷ 7 ∷ 8 ∷ 9 ∷ 10 ∷ []
numbers_to_10 = refl

numbers_to_20 : map fault_number last_ten ≡ 11 ∷ 12 ∷ 13 ∷ 14 ∷ 15 ∷ 16 ∷ 17 ∷ 18 ∷ 19 ∷ 20 ∷ []
numbers_to_20 = refl

names_to_10 : map fault_name first_ten ≡
    codes "TooLarge" ∷ codes "BadLine" ∷ codes "KeyOutsideSection" ∷ codes "DuplicateSection"
    ∷ codes "DuplicateKey" ∷ codes "MissingSection" ∷ codes "BadNumber"
    ∷ codes "AmbiguousNumber" ∷ codes "BadList" ∷ codes "ListedTwice" ∷ []
names_to_10 = refl

names_to_20 : map fault_name last_ten ≡
    codes "MissingKey" ∷ codes "BadType" ∷ codes "LeftOutType" ∷ codes "BadAccess"
    ∷ codes "BadLimits" ∷ codes "BadDefault" ∷ codes "MissingSub0" ∷ codes "CompactForm"
    ∷ codes "MissingMandatory" ∷ codes "Memory" ∷ []
names_to_20 = refl

names_of_notes : map note_name (SubNumber ∷ Unlisted ∷ NodeId ∷ []) ≡ codes "SubNumber" ∷ codes "Unlisted" ∷ codes "NodeId" ∷ []
names_of_notes = refl

bad_list_text : fault_text (record { kind = BadList; line = 1 }) ≡ codes "fault 9 BadList line 1"
unfolding digits
bad_list_text = refl

memory_text : fault_text (record { kind = Memory; line = 0 }) ≡ codes "fault 20 Memory line 0"
unfolding digits
memory_text = refl

sub_number_text : note_text (record { kind = SubNumber; line = 12 }) ≡ codes "note 12 SubNumber"
unfolding digits
sub_number_text = refl

node_id_text : note_text (record { kind = NodeId; line = 23 }) ≡ codes "note 23 NodeId"
unfolding digits
node_id_text = refl

unlisted_text : note_text (record { kind = Unlisted; line = 3 }) ≡ codes "note 3 Unlisted"
unfolding digits
unlisted_text = refl
