-- A small device with node-ID 5, whose inputs the closed examples give: two SDO channels, an RPDO, two TPDOs, heartbeats
-- and emergencies.
use Rattle.std.proofs.Common.{ℕ, zero, suc, List, [], ◌∷◌, ◌++◌, true, false}
use Rattle.std.specs.Prelude.{pos, Option, find, map, reverse, option_map, ◌+◌, ◌*◌}
use Rattle.co_value.specs.declared.key.Key.{Key}
use Rattle.co_value.specs.Keys.{same_key}
use Rattle.co_value.specs.declared.data_type.DataType.TheVariants.{Unsigned8, Unsigned16, Unsigned32, VisibleString, Domain}
use Rattle.co_value.specs.Numbers.{low_bytes}
use Rattle.co_frame.specs.FrameContent.{FrameContent}
use Rattle.co_frame.specs.SdoRequests.{request_row_in}
use Rattle.co_profile.specs.declared.access.Access.{Access}
use Rattle.co_profile.specs.declared.access.Access.TheVariants.{Ro, Rw}
use Rattle.co_dict.specs.declared.row.Row.{Row}
use Rattle.co_dict.specs.Rows.{Rows, Contents, number_at}
use Rattle.co_dict.specs.Objects.{has_object, subs_present}
use Rattle.co_dict.specs.SdoChannels.{is_sdo_id}
use Rattle.co_sdo.specs.Channels.{channels_below}
use Rattle.co_dict.specs.ConsumerHeartbeats.{is_consumed_elsewhere}
use Rattle.co_dict.proofs.ExampleDevice.{at, number_row, text_row}
use Rattle.co_node_parts.specs.declared.nmt_state.NodeState.{NodeState}
use Rattle.co_node_parts.specs.ConsumerTables.{entry_subs}
use Rattle.co_pdo.specs.Tpdos.{tpdo_numbers}
use Rattle.co_sdo.specs.Refused.{reading_refusal, initiate_refusal, completion_refusal}
use Rattle.co_node_model.specs.Inputs.{InputView, Inputs, Framed, Ticked, Applied, Raised, EventOn}
use Rattle.co_node_model.specs.Rpdos.{rpdo_with}
use Rattle.co_node_model.specs.Heartbeats.{consumer_words}
use Rattle.co_node_model.specs.Moments.{Constants}
use Rattle.co_node_model.specs.Device.{prescribed, contents_of, state_of, after_all}

-- an entry of the device: its key, its row, and its bytes
pub record Entry : Type 0 where
  pub key : Key
  pub row : Row
  pub bytes : List ℕ

abbrev pub u8 : Access → ℕ → ℕ → ℕ → Entry
u8 access index sub number = record { key = at index sub; row = number_row Unsigned8 access false; bytes = low_bytes 1 number }

abbrev pub u16 : Access → ℕ → ℕ → ℕ → Entry
u16 access index sub number = record { key = at index sub; row = number_row Unsigned16 access false; bytes = low_bytes 2 number }

abbrev pub u32 : Access → ℕ → ℕ → ℕ → Entry
u32 access index sub number = record { key = at index sub; row = number_row Unsigned32 access false; bytes = low_bytes 4 number }

-- an entry of UNSIGNED32 or UNSIGNED16 that may be mapped, the latter up to a high limit
abbrev pub mapped_u32 : ℕ → ℕ → ℕ → Entry
mapped_u32 index sub number = record { key = at index sub; row = number_row Unsigned32 Rw true; bytes = low_bytes 4 number }

abbrev pub mapped_u16 : ℕ → ℕ → ℕ → ℕ → Entry
mapped_u16 index sub high number =
    record { key = at index sub; row = record (number_row Unsigned16 Rw true) { high = pos high }; bytes = low_bytes 2 number }

-- the entries
abbrev entries : List Entry
entries =
    u8 Ro 0x1001 0 0
    ∷ u8 Rw 0x1003 0 0 ∷ u32 Ro 0x1003 1 0 ∷ u32 Ro 0x1003 2 0
    ∷ u32 Rw 0x1005 0 0x80
    ∷ u32 Rw 0x1014 0 0x85
    ∷ u16 Rw 0x1015 0 0
    ∷ u32 Rw 0x1016 1 0 ∷ u32 Rw 0x1016 2 0
    ∷ u16 Rw 0x1017 0 0
    ∷ u8 Rw 0x1019 0 0
    ∷ u8 Rw 0x1029 1 0
    ∷ u32 Ro 0x1201 1 0x680 ∷ u32 Ro 0x1201 2 0x681
    ∷ u32 Rw 0x1400 1 0x205 ∷ u8 Rw 0x1400 2 255
    ∷ u8 Rw 0x1600 0 1 ∷ u32 Rw 0x1600 1 0x2002_0020 ∷ u32 Rw 0x1600 2 0
    ∷ u32 Rw 0x1800 1 0x185 ∷ u8 Rw 0x1800 2 255 ∷ u16 Rw 0x1800 3 0 ∷ u16 Rw 0x1800 5 0 ∷ u8 Rw 0x1800 6 0
    ∷ u32 Rw 0x1801 1 0x285 ∷ u8 Rw 0x1801 2 255 ∷ u16 Rw 0x1801 3 0 ∷ u16 Rw 0x1801 5 0
    ∷ u8 Rw 0x1A00 0 1 ∷ u32 Rw 0x1A00 1 0x2002_0020 ∷ u32 Rw 0x1A00 2 0
    ∷ u8 Rw 0x1A01 0 1 ∷ u32 Rw 0x1A01 1 0x2003_0010 ∷ u32 Rw 0x1A01 2 0
    ∷ record { key = at 0x2001 0; row = text_row VisibleString 16; bytes = [] }
    ∷ mapped_u32 0x2002 0 0
    ∷ mapped_u16 0x2003 0 1000 0
    ∷ record { key = at 0x2100 0; row = text_row Domain 889; bytes = [] }
    ∷ []

-- the entry at a key
abbrev entry_at : List Entry → Key → Option Entry
entry_at es key = find (λ e. same_key key e.key) es

abbrev rows_of : List Entry → Rows
rows_of es key = option_map (λ e. e.row) (entry_at es key)

abbrev bytes_of : List Entry → Contents
bytes_of es key = option_map (λ e. e.bytes) (entry_at es key)

-- a device with these entries, as it was built; SDO transfers are aborted after so many ms
abbrev device_of : List Entry → ℕ → Constants
device_of es time = record {
  description = record {
    node = 5;
    rows = rows_of es;
    initial = bytes_of es;
    dummies = λ index. false;
    keys = map (λ e. e.key) es;
  };
  start = bytes_of es;
  greatest = 889;
  time = time;
}

-- the device, in which these entries begin with other bytes
abbrev pub device_with : List Entry → Constants
device_with others = device_of (others ++ entries) 1000

abbrev pub device : Constants
device = device_with []

-- so many bytes, as they are written in hexadecimal
abbrev pub hex : ℕ → ℕ → List ℕ
hex count number = reverse (low_bytes count number)

-- a frame with so many bytes
abbrev pub frame : ℕ → ℕ → ℕ → FrameContent
frame id count number = record { id = id; bytes = hex count number }

-- such a frame as an input
abbrev pub came : ℕ → ℕ → ℕ → InputView
came id count number = Framed (frame id count number)

-- an NMT command to node 5: start, stop, enter pre-operational, reset node, reset communication
abbrev pub command : ℕ → InputView
command specifier = came 0 2 (specifier * 0x100 + 5)

abbrev pub start : InputView
start = command 1

abbrev pub stop : InputView
stop = command 2

abbrev pub enter_pre_operational : InputView
enter_pre_operational = command 128

abbrev pub reset_node : InputView
reset_node = command 129

abbrev pub reset_communication : InputView
reset_communication = command 130

-- a SYNC without a counter
abbrev pub sync : InputView
sync = came 0x080 0 0

-- a request on channel 0, and a response of it
abbrev pub request : ℕ → InputView
request number = came 0x605 8 number

abbrev pub response : ℕ → FrameContent
response number = frame 0x585 8 number

-- an emergency
abbrev pub emcy : ℕ → FrameContent
emcy number = frame 0x085 8 number

-- an error of the application that sets bit 0, with five zeros
abbrev pub raise : ℕ → InputView
raise code = Applied (Raised code 1 (0 ∷ 0 ∷ 0 ∷ 0 ∷ 0 ∷ []))

-- an event of the application on a TPDO
abbrev pub event : ℕ → InputView
event n = Applied (EventOn n)

-- so many ticks
abbrev pub ticks : ℕ → List InputView
ticks zero = []
ticks (suc n) = Ticked ∷ ticks n

-- the frames that inputs prescribe, the first one first, each after those before it
abbrev pub answered : Constants → Inputs → List InputView → List (List FrameContent)
answered k inputs [] = []
answered k inputs (input ∷ more) = prescribed k inputs input ∷ answered k (input ∷ inputs) more

-- those of a device that was just built
abbrev pub first_answered : Constants → List InputView → List (List FrameContent)
first_answered k more = answered k [] more

-- the number that an entry has after inputs, the first one first
abbrev pub number_after : Constants → List InputView → ℕ → ℕ → ℕ
number_after k more index sub = number_at (contents_of k (after_all [] more)) (at index sub)

-- the bytes that it has
abbrev pub value_after : Constants → List InputView → ℕ → ℕ → Option (List ℕ)
value_after k more index sub = contents_of k (after_all [] more) (at index sub)

-- the NMT state after inputs, the first one first
abbrev pub state_after : Constants → List InputView → NodeState
state_after k more = state_of k (after_all [] more)

-- what the examples compute by going through sub-indices, channels, PDOs and consumers
unfoldable pub searches : Unit {0}
unfolding has_object subs_present is_sdo_id is_consumed_elsewhere channels_below rpdo_with consumer_words entry_subs tpdo_numbers reading_refusal initiate_refusal completion_refusal request_row_in
searches = tt
