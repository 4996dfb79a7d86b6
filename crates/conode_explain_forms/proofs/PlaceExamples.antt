-- Which SDO channel a frame is of, evaluated on both sides of each edge.
use Rattle.std.proofs.Common.{◌≡◌, ℕ, Bool, true, false, [], ◌∷◌, List, Option, Some, None, refl, pos}
use Rattle.std.specs.Prelude.{codes, map, slice_set}
use Rattle.co_value.specs.declared.data_type.DataType.TheVariants.{Unsigned32}
use Rattle.co_profile.specs.declared.access.Access.TheVariants.{Rw}
use Rattle.co_sheet.specs.Limits.{Default, absent, number, node_id}
use Rattle.co_sheet.specs.Content.{Row}
use Rattle.co_sheet_changes.specs.Names.{Names, entry_of}
use Rattle.conode_record.specs.declared.fields.Identifier.TheVariants.{Base, Extended}
use Rattle.conode_explain_transfers.specs.declared.kinds.Side.{Side}
use Rattle.conode_explain_transfers.specs.declared.kinds.Side.TheVariants.{Client, Server}
use Rattle.conode_explain_entries.specs.declared.entries.ShownPdo.{ShownPdo}
use Rattle.conode_explain_entries.specs.declared.further.Place.{Place}
use Rattle.conode_explain_entries.specs.declared.state.Value.{Value}
use Rattle.conode_explain_entries.specs.declared.state.Value.TheVariants.{Assumed, Seen, Saved, Unknown}
use Rattle.conode_explain_entries.specs.Histories.{assumed_values}
use Rattle.conode_explain_cob_ids.specs.Buses.{Bus}
use Rattle.conode_explain_cob_ids.specs.ChannelWords.{channel_word, sheet_number}
use Rattle.conode_explain_cob_ids.specs.CobIds.{is_of, node_with}
use Rattle.conode_explain_cob_ids.specs.Known.{KnownSheet, names_for}
use Rattle.conode_explain_forms.specs.Places.{channel_of, channels_of, identifier_in, ids_at, is_channel_id, is_parameter, key_of, place_at, place_by_sheet, place_by_shown, place_in, read_as}

-- ---- identifiers and keys

identifiers : map identifier_in (0x680 ∷ 0x80000680 ∷ 0x20000680 ∷ 0x6DF ∷ 0x6E0 ∷ 0x601 ∷ 0x600 ∷ 0x581 ∷ 0x580 ∷ 0 ∷ []) ≡ Some 0x680 ∷ None ∷ None ∷ Some 0x6DF ∷ None ∷ None ∷ Some 0x600 ∷ None ∷ Some 0x580 ∷ None ∷ []
identifiers = refl

parameters : map is_parameter (0x1200 ∷ 0x1201 ∷ 0x12FF ∷ 0x1300 ∷ []) ≡ false ∷ true ∷ true ∷ false ∷ []
parameters = refl

cob_ids : map (λ sub. is_channel_id (key_of 0x1201 sub)) (0 ∷ 1 ∷ 2 ∷ 3 ∷ []) ≡ false ∷ true ∷ true ∷ false ∷ []
cob_ids = refl

-- ---- by a sheet

abbrev row : ℕ → ℕ → Default → Row
row index sub begins = record {
  key = key_of index sub;
  data_type = Unsigned32;
  access = Rw;
  low = None;
  high = None;
  default = begins;
  mappable = false;
  name = None;
  line = 1;
}

abbrev sheet : Option ℕ → List Row → KnownSheet
sheet only rows = record {
  interface = None;
  names = record {
    sheet = Some (record { objects = []; rows = rows; sections = []; notes = []; dummies = []; node_id = None });
    only = only;
    originals = λ line. None;
  };
  pdos = [];
  services = [];
}

abbrev bus : List KnownSheet → List ShownPdo → Bus
bus sheets entries = record { sheets = sheets; entries = entries; interface = codes "can0" }

abbrev place : ℕ → ℕ → ℕ → Side → Option Place
place node request answer side = Some (record { node = node; ids = record { request = request; answer = answer }; side = side })

abbrev server : List Row
server = row 0x1201 1 (number (pos 0x680)) ∷ row 0x1201 2 (number (pos 0x681)) ∷ []

request_of_5 : place_in (bus (sheet (Some 5) server ∷ []) []) 0x680 ≡ place 5 0x680 0x681 Client
unfolding place_in channels_of channel_of place_by_sheet place_at ids_at node_with is_of channel_word sheet_number names_for entry_of
request_of_5 = refl

answer_of_5 : place_in (bus (sheet (Some 5) server ∷ []) []) 0x681 ≡ place 5 0x680 0x681 Server
unfolding place_in channels_of channel_of place_by_sheet place_at ids_at node_with is_of channel_word sheet_number names_for entry_of
answer_of_5 = refl

beside : place_in (bus (sheet (Some 5) server ∷ []) []) 0x682 ≡ None
unfolding place_in channels_of channel_of place_by_sheet place_by_shown place_at ids_at node_with is_of
beside = refl

-- for each node, by the sum with the node-ID
abbrev any_server : List Row
any_server = row 0x1201 1 (node_id 0x680) ∷ row 0x1201 2 (node_id 0x6A0) ∷ []

request_of_6 : place_in (bus (sheet None any_server ∷ []) []) 0x686 ≡ place 6 0x686 0x6A6 Client
unfolding place_in channels_of channel_of place_by_sheet place_at ids_at node_with is_of channel_word sheet_number names_for entry_of
request_of_6 = refl

-- another sheet is for node 6, and has no channel
other_sheet_counts : place_in (bus (sheet (Some 6) [] ∷ sheet None any_server ∷ []) []) 0x686 ≡ None
unfolding place_in channels_of channel_of place_by_sheet place_by_shown place_at ids_at node_with is_of channel_word sheet_number names_for entry_of
other_sheet_counts = refl

-- one COB-ID is missing
half : place_in (bus (sheet (Some 5) (row 0x1201 1 (number (pos 0x680)) ∷ []) ∷ []) []) 0x680 ≡ None
unfolding place_in channels_of channel_of place_by_sheet place_by_shown place_at ids_at node_with is_of channel_word sheet_number names_for entry_of
half = refl

-- a client's parameter has the node-ID of the server
abbrev client : ℕ → List Row
client n = row 0x1280 1 (number (pos 0x680)) ∷ row 0x1280 2 (number (pos 0x681)) ∷ row 0x1280 3 (number (pos n)) ∷ []

of_the_server : place_in (bus (sheet (Some 3) (client 127) ∷ []) []) 0x680 ≡ place 127 0x680 0x681 Client
unfolding place_in channels_of channel_of place_by_sheet place_at ids_at node_with is_of channel_word sheet_number names_for entry_of
of_the_server = refl

no_such_server : place_in (bus (sheet (Some 3) (client 128) ∷ []) []) 0x680 ≡ None
unfolding place_in channels_of channel_of place_by_sheet place_by_shown place_at ids_at node_with is_of channel_word sheet_number names_for entry_of
no_such_server = refl

-- ---- by the recording

abbrev shown : ℕ → Value → Value → ShownPdo
shown node request answer = record {
  index = 0x1201;
  node = node;
  interface = record { items = codes "can0" };
  state = record {
    now = record assumed_values { mapping = slice_set (slice_set assumed_values.mapping 1 request) 2 answer };
    stored = assumed_values;
    is_being_changed = true;
  };
}

seen : place_in (bus [] (shown 5 (Seen 0x690) (Saved 0x6A0) ∷ [])) 0x6A0 ≡ place 5 0x690 0x6A0 Server
unfolding place_in channels_of place_by_shown place_at ids_at channel_word assumed_values
seen = refl

-- one COB-ID is the sheet's
seen_in_part : place_in (bus (sheet (Some 5) server ∷ []) (shown 5 (Seen 0x690) Assumed ∷ [])) 0x690 ≡ place 5 0x690 0x681 Client
unfolding place_in channels_of channel_of place_by_sheet place_by_shown place_at ids_at node_with is_of channel_word sheet_number names_for entry_of assumed_values
seen_in_part = refl

-- the sheet's is no longer in force
no_longer : place_in (bus (sheet (Some 5) server ∷ []) (shown 5 (Seen 0x690) Assumed ∷ [])) 0x680 ≡ None
unfolding place_in channels_of channel_of place_by_sheet place_by_shown place_at ids_at node_with is_of channel_word sheet_number names_for entry_of assumed_values
no_longer = refl

unknown_now : place_in (bus (sheet (Some 5) server ∷ []) (shown 5 Unknown Assumed ∷ [])) 0x681 ≡ None
unfolding place_in channels_of channel_of place_by_sheet place_by_shown place_at ids_at node_with is_of channel_word sheet_number names_for entry_of assumed_values
unknown_now = refl

on_another_bus : place_in (bus [] (record (shown 5 (Seen 0x690) (Seen 0x6A0)) { interface = record { items = codes "can1" } } ∷ [])) 0x690 ≡ None
unfolding place_in channels_of place_by_shown assumed_values
on_another_bus = refl

-- ---- what a frame is read as

reads : map (λ at. read_as at (Base 0x690)) (place 127 0x690 0x6A0 Client ∷ place 1 0x6A0 0x690 Server ∷ None ∷ []) ≡ Base 0x67F ∷ Base 0x581 ∷ Base 0x690 ∷ []
reads = refl
