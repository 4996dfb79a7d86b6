-- Whose a frame is by the COB-IDs of data sheets and of the recording, other than a PDO's.
use Rattle.std.specs.Prelude.{ℕ, ◌+◌, Bool, true, false, List, [], ◌∷◌, Option, Some, None}
use Rattle.conode_record.specs.declared.content.Content.{Content}
use Rattle.conode_record.specs.declared.content.Content.TheVariants.{Data}
use Rattle.conode_record.specs.declared.fields.Identifier.{Identifier}
use Rattle.conode_record.specs.declared.fields.Identifier.TheVariants.{Base, Extended}
use Rattle.conode_record.specs.declared.line.Record.{Record}
use Rattle.conode_explain_entries.specs.declared.further.Place.{Place}
use Rattle.conode_explain_entries.specs.declared.moved.MovedId.{MovedId}
use Rattle.conode_explain_entries.specs.MovedIds.{moved_in}
use Rattle.conode_explain_forms.specs.Places.{read_as}
use Rattle.conode_explain_cob_ids.specs.declared.claim.Claim.{Claim}
use Rattle.conode_explain_cob_ids.specs.declared.service_ids.NamedService.{NamedService}
use Rattle.conode_explain_cob_ids.specs.declared.service_ids.NamedService.TheVariants.{Sync, Time, Emergency}
use Rattle.conode_explain_cob_ids.specs.Buses.{Bus}
use Rattle.conode_explain_cob_ids.specs.ServiceIds.{service_with}
use Rattle.conode_explain.specs.declared.whose.Whose.{Whose}
use Rattle.conode_explain.specs.declared.whose.Whose.TheVariants.{Channel, Moved, Service, Unnamed}

-- a service that a COB-ID names comes before the pre-defined connection set; and in that set an identifier is no longer its node's, where
-- the recording shows that the node has another COB-ID
abbrev pub by_service : Option NamedService → Option MovedId → Whose
by_service (Some service) moved = Service service
by_service None (Some moved) = Moved moved
by_service None None = Unnamed

-- of a data frame with an identifier of 11 bits
abbrev pub whose_in : Bus → Identifier → Content → Whose
whose_in bus (Base id) (Data bytes) = by_service (service_with bus id) (moved_in bus.entries bus.interface id)
whose_in bus id content = Unnamed

-- a PDO comes before a service
abbrev pub whose_free : Bus → List Claim → Identifier → Content → Whose
whose_free bus [] id content = whose_in bus id content
whose_free bus (claim ∷ claims) id content = Unnamed

-- and an SDO channel before both
unfoldable pub whose_of : Bus → Option Place → List Claim → Record → Whose
whose_of bus None claims frame = whose_free bus claims frame.id frame.content
whose_of bus (Some place) claims frame = Channel place

-- a COB-ID of a channel or of a service names it
abbrev pub is_named : Whose → Bool
is_named (Channel place) = true
is_named (Service service) = true
is_named (Moved moved) = false
is_named Unnamed = false

-- the identifier that a service has in the pre-defined connection set (CiA 301, 7.3.3)
abbrev pub default_id : NamedService → ℕ
default_id Sync = 0x080
default_id Time = 0x100
default_id (Emergency node) = 0x080 + node

-- a frame says what it would with the identifier of that set; one that is moved away from, nothing of a node, as one of 29 bits
abbrev pub read_by : Whose → Identifier → Identifier
read_by (Channel place) id = read_as (Some place) id
read_by (Service service) id = Base (default_id service)
read_by (Moved moved) id = Extended 0
read_by Unnamed id = id
