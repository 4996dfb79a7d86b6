-- What a recording covers, in JSON.
use Rattle.std.specs.Prelude.{List, [], ◌∷◌, ◌++◌, zip, pos, codes}
use Rattle.std.specs.List.{flat_map}
use Rattle.json.specs.Token.{Token, begin_object, end_object, end_array}
use Rattle.co_text.specs.Printed.{digits_text}
use Rattle.co_sheet.specs.Content.{Row}
use Rattle.conode_json.specs.Members.{array_begin, flag_member, number_member, object_begin, text_member}
use Rattle.conode_compare_report.specs.Coverages.{CoverageView}
use Rattle.conode_compare_report.specs.declared.coverage.Covered.{Covered}
use Rattle.conode_compare_report.specs.declared.coverage.Numbered.{Numbered}
use Rattle.conode_compare_report.specs.declared.lanes.States.{States}
use Rattle.conode_compare_report.specs.declared.service.Served.{Served}
use Rattle.conode_compare_report.specs.Services.{service_name}
use Rattle.conode_compare_documents.specs.Parts.{bytes_if, joined}

-- an entry of the sheet: its key, its name, left out if it has none, and which transfers the recording has of it
unfoldable pub entry_tokens : Row × Covered → List Token
entry_tokens (row, covered) =
    joined ((begin_object ∷ []) ∷ number_member (codes "index") (pos row.key.index) ∷ number_member (codes "subIndex") (pos row.key.sub) ∷ [])
    ++ bytes_if (codes "name") row.name
    ++ joined (flag_member (codes "read") covered.read
    ∷ flag_member (codes "written") covered.written ∷ flag_member (codes "refused") covered.refused ∷ (end_object ∷ []) ∷ [])

unfoldable pub entries_member : List Row → List Covered → List Token
entries_member rows covered =
    array_begin (codes "entries") ++ flat_map entry_tokens (zip rows covered) ++ end_array ∷ []

-- a service, and how often it was seen
unfoldable pub served_tokens : Served → List Token
served_tokens served = joined (
    (begin_object ∷ []) ∷ text_member (codes "name") (service_name served.service)
    ∷ number_member (codes "count") (pos served.count) ∷ (end_object ∷ []) ∷ [])

unfoldable pub services_member : List Served → List Token
services_member services = array_begin (codes "services") ++ flat_map served_tokens services ++ end_array ∷ []

-- the NMT states that were seen
unfoldable pub states_member : States → List Token
states_member states = joined (
    object_begin (codes "states") ∷ flag_member (codes "initialising") states.initialising
    ∷ flag_member (codes "preOperational") states.pre_operational ∷ flag_member (codes "operational") states.operational
    ∷ flag_member (codes "stopped") states.stopped ∷ (end_object ∷ []) ∷ [])

-- a transmission type, and how many TPDOs of it came
unfoldable pub type_tokens : Numbered → List Token
type_tokens numbered = joined (
    (begin_object ∷ []) ∷ number_member (codes "type") (pos numbered.number)
    ∷ number_member (codes "count") (pos numbered.count) ∷ (end_object ∷ []) ∷ [])

unfoldable pub types_member : List Numbered → List Token
types_member types = array_begin (codes "tpdoTypes") ++ flat_map type_tokens types ++ end_array ∷ []

-- an abort code in hexadecimal digits, and how often it came
unfoldable pub abort_tokens : Numbered → List Token
abort_tokens numbered = joined (
    (begin_object ∷ []) ∷ text_member (codes "code") (digits_text 16 8 numbered.number)
    ∷ number_member (codes "count") (pos numbered.count) ∷ (end_object ∷ []) ∷ [])

unfoldable pub aborts_member : List Numbered → List Token
aborts_member aborts = array_begin (codes "abortCodes") ++ flat_map abort_tokens aborts ++ end_array ∷ []

unfoldable pub coverage_member : List Row → CoverageView → List Token
coverage_member rows coverage =
    object_begin (codes "coverage") ++ entries_member rows coverage.entries
    ++ services_member coverage.services ++ states_member coverage.states
    ++ types_member coverage.types ++ aborts_member coverage.aborts ++ end_object ∷ []
