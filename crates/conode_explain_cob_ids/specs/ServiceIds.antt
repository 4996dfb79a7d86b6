-- Which of SYNC, TIME and the emergencies a frame is, by the COB-IDs of data sheets and of the
-- recording: 1005h, 1012h and 1014h (CiA 301, 7.5.2.5, 7.5.2.15 and 7.5.2.17).
use Rattle.std.specs.Prelude.{ℕ, ◌==◌, Bool, false, not, ◌&&◌, if◌then◌else◌, List, [], ◌∷◌, filter_map, find, Option, Some, None, is_none, option_map}
use Rattle.std.specs.List.{list_any}
use Rattle.std.specs.Option.{option_map_or}
use Rattle.std.specs.Str.{bytes_eq}
use Rattle.conode_explain_entries.specs.declared.entries.ShownPdo.{ShownPdo}
use Rattle.conode_explain_entries.specs.declared.state.Value.{Value}
use Rattle.conode_explain_entries.specs.declared.state.Value.TheVariants.{Seen, Saved}
use Rattle.conode_explain_cob_ids.specs.declared.service_ids.NamedService.{NamedService}
use Rattle.conode_explain_cob_ids.specs.declared.service_ids.NamedService.TheVariants.{Sync, Time, Emergency}
use Rattle.conode_explain_cob_ids.specs.declared.sheet_services.SheetService.{SheetService}
use Rattle.conode_explain_cob_ids.specs.Buses.{Bus, state_at}
use Rattle.conode_explain_cob_ids.specs.ChannelWords.{shown_in}
use Rattle.conode_explain_cob_ids.specs.CobIds.{is_node, may_be_pdo, node_for, word_for}
use Rattle.conode_explain_cob_ids.specs.Known.{KnownSheet, is_on, services_for}
use Rattle.conode_explain_cob_ids.specs.Named.{may_name, names_id}
use Rattle.conode_explain_cob_ids.specs.Origins.{number_by, value_at}
use Rattle.conode_explain_cob_ids.specs.SheetServices.{is_service_index}

-- ---- what a COB-ID says

-- the service of an entry of a node
abbrev pub service_of : ℕ → ℕ → NamedService
service_of index node = if index == 0x1005 then Sync else (if index == 0x1012 then Time else Emergency node)

-- ---- what a node's entry has

-- by a sheet's COB-IDs
abbrev pub word_of : List SheetService → ℕ → ℕ → Option ℕ
word_of services index node =
    option_map (λ service. word_for service.cob_id node) (find (λ service. service.index == index) services)

-- what the recording shows, else by the sheet that is for the node
unfoldable pub service_word : Bus → ℕ → ℕ → Option ℕ
service_word bus node index =
    number_by (word_of (services_for bus.sheets bus.interface node) index node) (shown_in (state_at bus node index) 0)

abbrev pub is_named : Bus → ℕ → ℕ → ℕ → Bool
is_named bus node index id = option_map_or (λ word. names_id index word id) (service_word bus node index) false

-- ---- by the data sheets

-- SYNC and TIME of a sheet that is for all nodes are no node's
abbrev pub is_for_all : Option ℕ → SheetService → Bool
is_for_all only service = is_none only && (not (service.index == 0x1014) && not service.cob_id.with_node)

abbrev pub service_at : Bus → ℕ → ℕ → ℕ → Option NamedService
service_at bus id index node = if is_node node && is_named bus node index id then Some (service_of index node) else None

unfoldable pub service_by_sheet : Bus → ℕ → Option ℕ → SheetService → Option NamedService
service_by_sheet bus id only service =
    if may_name only id service
    then (if is_for_all only service then Some (service_of service.index 0)
    else service_at bus id service.index (node_for only service.cob_id id))
    else None

abbrev pub first_service : List NamedService → Option NamedService
first_service [] = None
first_service (service ∷ services) = Some service

-- of a sheet that is for the interface
abbrev pub service_on : Bus → ℕ → KnownSheet → Option NamedService
service_on bus id sheet =
    if is_on bus.interface sheet then first_service (filter_map (service_by_sheet bus id sheet.names.only) sheet.services) else None

-- a look before: most identifiers are of no service
abbrev pub sheet_may_serve : ℕ → KnownSheet → Bool
sheet_may_serve id sheet = list_any (may_name sheet.names.only id) sheet.services

-- ---- by the recording

-- a COB-ID that is shown names it
abbrev pub shows_id : ℕ → Value → ℕ → Bool
shows_id index (Seen word) id = names_id index word id
shows_id index (Saved word) id = names_id index word id
shows_id index _ id = false

-- and is on this bus
abbrev pub shows_service : Bus → ℕ → ShownPdo → Bool
shows_service bus id shown =
    is_service_index shown.index
    && (shows_id shown.index (value_at shown.state.now.mapping 0) id && bytes_eq shown.interface.items bus.interface)

unfoldable pub service_by_shown : Bus → ℕ → ShownPdo → Option NamedService
service_by_shown bus id shown = if shows_service bus id shown then Some (service_of shown.index shown.node) else None

-- ---- both

abbrev pub or_service : Option NamedService → Option NamedService → Option NamedService
or_service (Some service) other = Some service
or_service None other = other

-- of several the first that a sheet names, else the first that the recording names; none of an
-- identifier that CiA 301 restricts (7.3.5) or gives a default SDO channel
unfoldable pub service_with : Bus → ℕ → Option NamedService
service_with bus id =
    if may_be_pdo id
    then or_service (first_service (filter_map (service_on bus id) bus.sheets))
    (first_service (filter_map (service_by_shown bus id) bus.entries))
    else None
