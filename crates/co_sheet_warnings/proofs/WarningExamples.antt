-- All warnings of small texts, kind by kind.
use Rattle.std.proofs.Common.{◌≡◌, ℕ, List, [], ◌∷◌, ◌++◌, map, Some, None, true, false, refl, codes, Option}
use Rattle.co_sheet_warnings.specs.WarningWords.{is_quiet}
use Rattle.std.specs.List.{list_any}
use Rattle.std.specs.Prelude.{not, replicate}
use Rattle.co_sheet_text_warnings.specs.declared.warning.Warning.{Warning}
use Rattle.co_sheet_text_warnings.specs.declared.warning.WarningKind.TheVariants.{SubNumber, FileInfoKeys, DeviceInfoKeys, Unlisted, FixedCobId, SharedCobId, HeartbeatTwice, NodeId, MissingName}
use Rattle.co_sheet_text_warnings.specs.ReadTexts.{read_text}
use Rattle.co_sheet_warnings.specs.Warnings.{all_warnings, few_places, places_in, places_of, warnings_of, warnings_of_kinds, first_kinds, last_kinds, quiet_kinds}
use Rattle.co_sheet_text_warnings.specs.InText.{kind_in, place_in_text}
use Rattle.co_sheet_text_warnings.specs.Places.{warning_at}

several : warnings_of_kinds (read_text (codes "[2000]\nSubNumber=1\n[1800sub1]\nParameterName=COB-ID\nDefaultValue=0x185\n") None) (SubNumber ∷ Unlisted ∷ FixedCobId ∷ MissingName ∷ [])
    ≡ warning_at SubNumber 2 ∷ warning_at Unlisted 1 ∷ warning_at Unlisted 3 ∷ warning_at FixedCobId 5 ∷ warning_at MissingName 1 ∷ []
unfolding kind_in places_of few_places place_in_text places_in
several = refl

-- where there is no section, each key is missing
abbrev no_infos : List Warning
no_infos = warning_at (FileInfoKeys (replicate 10 true)) 0 ∷ warning_at (DeviceInfoKeys (replicate 22 true)) 0 ∷ []

none : warnings_of [] None true ≡ no_infos
unfolding all_warnings kind_in places_of few_places place_in_text places_in
none = refl

-- the kinds that a sheet is asked for without those of taste, and with them
not_quiet : list_any is_quiet (first_kinds ++ last_kinds) ≡ false
not_quiet = refl

all_quiet : list_any (λ kind. not (is_quiet kind)) quiet_kinds ≡ false
all_quiet = refl

taste_left_out : warnings_of (codes "[2000]\n") None false ≡ no_infos ++ warning_at Unlisted 1 ∷ []
unfolding all_warnings kind_in places_of few_places place_in_text places_in
taste_left_out = refl

taste_asked_for : warnings_of (codes "[2000]\n") None true ≡ no_infos ++ warning_at Unlisted 1 ∷ warning_at MissingName 1 ∷ []
unfolding all_warnings kind_in places_of few_places place_in_text places_in
taste_asked_for = refl

-- the node-ID: given; the text's own, beside a line at fault; none, where it isn't 1 to 127
abbrev node_for : Option ℕ → List ℕ → Option ℕ
node_for node value = (read_text (codes "x\n[DeviceComissioning]\nnodeid=" ++ value) node).node

given_node : node_for (Some 5) (codes "9") ≡ Some 5
given_node = refl

text_node : node_for None (codes "9") ≡ Some 9
text_node = refl

no_own_node : node_for None (codes "128") ≡ None
no_own_node = refl

-- a line at fault is passed over; the section that comes again isn't read
in_spite_of_faults : warnings_of_kinds (read_text (codes "x\n[2000]\nSubNumber 3\nSubNumber=1\n[2000]\nSubNumber=2\n[2001\nSubNumber=3") None) (SubNumber ∷ Unlisted ∷ [])
    ≡ warning_at SubNumber 4 ∷ warning_at Unlisted 2 ∷ []
unfolding kind_in places_of few_places place_in_text places_in
in_spite_of_faults = refl

-- what a kind says of a text: of each key whether it is missing, and the node-ID
abbrev lacking : List ℕ
lacking = codes "[FileInfo]\nFileName=a\nCreatedBy=a\nModifiedBy=\n[DeviceInfo]\nvendorname=a\nLSS_Supported=0\nFileVersion=1\n"

keys_missing : kind_in (read_text lacking None) (FileInfoKeys []) ∷ kind_in (read_text lacking None) (DeviceInfoKeys []) ∷ []
    ≡ FileInfoKeys (false ∷ true ∷ true ∷ true ∷ true ∷ true ∷ false ∷ true ∷ true ∷ true ∷ [])
    ∷ DeviceInfoKeys (false ∷ replicate 20 true ++ false ∷ []) ∷ []
unfolding kind_in
keys_missing = refl

for_node : kind_in (read_text [] (Some 5)) (SharedCobId 0) ∷ kind_in (read_text [] (Some 5)) (HeartbeatTwice None) ∷ kind_in (read_text [] (Some 5)) MissingName ∷ []
    ≡ SharedCobId 5 ∷ HeartbeatTwice (Some 5) ∷ MissingName ∷ []
unfolding kind_in
for_node = refl

-- a NodeID of 0 to 128, and one that is no number; NodeID of another section
node_ids : map (λ value. warnings_of_kinds (read_text (codes "[DeviceComissioning]\nNodeID=" ++ value) None) (NodeId ∷ [])) (codes "0" ∷ codes "1" ∷ codes "127" ∷ codes "128" ∷ codes "x" ∷ codes "" ∷ codes "5\n[1000]\nNodeID=0" ∷ [])
    ≡ (warning_at NodeId 2 ∷ []) ∷ [] ∷ [] ∷ (warning_at NodeId 2 ∷ []) ∷ [] ∷ [] ∷ [] ∷ []
unfolding kind_in places_of few_places place_in_text places_in
node_ids = refl
