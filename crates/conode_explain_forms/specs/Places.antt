-- Which SDO channel other than the default ones a frame is of, by the COB-IDs of data sheets and of the
-- recording: of servers 1201h to 127Fh, of clients 1280h to 12FFh (CiA 301, 7.5.2.33 and 7.5.2.34).
use Rattle.std.specs.Prelude.{ℕ, ◌+◌, ◌%◌, ◌^◌, ◌==◌, nat_lt, nat_le, Bool, ◌&&◌, ◌||◌, if◌then◌else◌, List, [], ◌∷◌, filter_map, Option, Some, None, option_map, option_and_then}
use Rattle.std.specs.List.{flat_map}
use Rattle.std.specs.Option.{option_map_or}
use Rattle.std.specs.Str.{bytes_eq}
use Rattle.co_value.specs.declared.key.Key.{Key}
use Rattle.co_sheet.specs.Content.{Row}
use Rattle.conode_record.specs.declared.content.Content.{Content}
use Rattle.conode_record.specs.declared.content.Content.TheVariants.{Data}
use Rattle.conode_record.specs.declared.fields.Identifier.{Identifier}
use Rattle.conode_record.specs.declared.fields.Identifier.TheVariants.{Base}
use Rattle.conode_explain_transfers.specs.declared.kinds.Side.{Side}
use Rattle.conode_explain_transfers.specs.declared.kinds.Side.TheVariants.{Client, Server}
use Rattle.conode_explain_entries.specs.declared.entries.ShownPdo.{ShownPdo}
use Rattle.conode_explain_entries.specs.declared.further.ChannelIds.{ChannelIds}
use Rattle.conode_explain_entries.specs.declared.further.Place.{Place}
use Rattle.conode_explain_cob_ids.specs.Buses.{Bus}
use Rattle.conode_explain_cob_ids.specs.ChannelWords.{channel_word}
use Rattle.conode_explain_cob_ids.specs.CobIds.{cob_id_of, has_identifier, is_node, may_be_pdo, node_with}
use Rattle.conode_explain_cob_ids.specs.Known.{KnownSheet}
use Rattle.conode_explain_forms.specs.declared.places.SheetChannel.{SheetChannel}

-- ---- the channel of a parameter of a node

-- the parameters of channels; 1200h is that of the default one
abbrev pub is_parameter : ℕ → Bool
is_parameter index = nat_le 0x1201 index && nat_le index 0x12FF

-- an identifier of 11 bits, of a COB-ID that is valid; none that CiA 301 restricts (7.3.5), and none of
-- a default channel
abbrev pub identifier_in : ℕ → Option ℕ
identifier_in word =
    if has_identifier word (word % 2 ^ 11) && may_be_pdo (word % 2 ^ 11) then Some (word % 2 ^ 11) else None

abbrev pub key_of : ℕ → ℕ → Key
key_of index sub = record { index = index; sub = sub }

abbrev pub identifier_at : Bus → ℕ → ℕ → ℕ → Option ℕ
identifier_at bus node index sub = option_and_then identifier_in (channel_word bus node (key_of index sub))

-- a channel needs both
unfoldable pub ids_at : Bus → ℕ → ℕ → Option ChannelIds
ids_at bus node index =
    option_and_then (λ request. option_map (λ answer. record { request = request; answer = answer }) (identifier_at bus node index 2))
    (identifier_at bus node index 1)

-- its server: of a server's parameter the node itself, of a client's the one that sub-index 3 has
abbrev pub if_node : ℕ → Option ℕ
if_node node = if is_node node then Some node else None

abbrev pub server_at : Bus → ℕ → ℕ → Option ℕ
server_at bus node index =
    if nat_lt index 0x1280 then Some node else option_and_then if_node (channel_word bus node (key_of index 3))

-- the end that sends with an identifier
abbrev pub side_of : ChannelIds → ℕ → Option Side
side_of ids id = if ids.request == id then Some Client else (if ids.answer == id then Some Server else None)

abbrev pub place_by : Bus → ℕ → ℕ → ℕ → ChannelIds → Option Place
place_by bus node index id ids =
    option_and_then (λ side. option_map (λ server. record { node = server; ids = ids; side = side }) (server_at bus node index)) (side_of ids id)

unfoldable pub place_at : Bus → ℕ → ℕ → ℕ → Option Place
place_at bus node index id = option_and_then (place_by bus node index id) (ids_at bus node index)

-- ---- whose parameters may have an identifier: by data sheets

-- a COB-ID of a channel, as a row of a sheet begins with it
abbrev pub is_channel_id : Key → Bool
is_channel_id key = ((key.sub == 1) || (key.sub == 2)) && is_parameter key.index

unfoldable pub channel_of : Option ℕ → Row → Option SheetChannel
channel_of only row =
    if is_channel_id row.key
    then option_map (λ cob_id. record { only = only; index = row.key.index; cob_id = cob_id }) (cob_id_of row.default) else None

abbrev pub channels_in : KnownSheet → List SheetChannel
channels_in sheet = option_map_or (λ content. filter_map (channel_of sheet.names.only) content.rows) sheet.names.sheet []

-- those of all sheets
unfoldable pub channels_of : List KnownSheet → List SheetChannel
channels_of sheets = flat_map channels_in sheets

-- a node that one of them would be of, if its sheet and the recording have it so
unfoldable pub place_by_sheet : Bus → ℕ → SheetChannel → Option Place
place_by_sheet bus id channel =
    option_and_then (λ node. place_at bus node channel.index id) (node_with channel.only channel.cob_id id)

-- ---- and by the recording

abbrev pub is_shown_on : Bus → ShownPdo → Bool
is_shown_on bus shown = is_parameter shown.index && bytes_eq shown.interface.items bus.interface

unfoldable pub place_by_shown : Bus → ℕ → ShownPdo → Option Place
place_by_shown bus id shown = if is_shown_on bus shown then place_at bus shown.node shown.index id else None

-- ---- whose it is

abbrev pub first_of : List Place → Option Place
first_of [] = None
first_of (place ∷ places) = Some place

abbrev pub or_else : Option Place → Option Place → Option Place
or_else (Some place) other = Some place
or_else None other = other

-- of several the first that a sheet names, else the first that the recording names
unfoldable pub place_in : Bus → ℕ → Option Place
place_in bus id =
    if may_be_pdo id
    then or_else (first_of (filter_map (place_by_sheet bus id) (channels_of bus.sheets)))
    (first_of (filter_map (place_by_shown bus id) bus.entries))
    else None

-- of a data frame with an identifier of 11 bits
abbrev pub place_of : Bus → Identifier → Content → Option Place
place_of bus (Base id) (Data bytes) = place_in bus id
place_of bus id content = None

-- ---- what it is read as

-- the identifier of the same end of the node's default channel (CiA 301, 7.3.3)
abbrev pub base_of : Side → ℕ
base_of Client = 0x600
base_of Server = 0x580

-- a frame of such a channel says what it would say on the default channel of the node
abbrev pub read_as : Option Place → Identifier → Identifier
read_as None id = id
read_as (Some place) id = Base (base_of place.side + place.node)
