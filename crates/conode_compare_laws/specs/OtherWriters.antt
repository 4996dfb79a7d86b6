-- Who may write an entry of a device besides the client of its default SDO channel: the application, and clients of other SDO channels,
-- whose frames compare takes for such.
use Rattle.std.specs.Prelude.{◌≡◌, ◌⊎◌, ◌≢◌, ℕ, ◌==◌, ◌&&◌, Bool, true, false, is_some, List}
use Rattle.std.specs.List.{AllByRecursion}
use Rattle.co_value.specs.declared.key.Key.{Key}
use Rattle.co_value.specs.Keys.{same_key}
use Rattle.co_value.specs.Numbers.{unsigned_of}
use Rattle.co_dict_build.specs.InitialBytes.{initial_of}
use Rattle.co_sheet.specs.Content.{Row}
use Rattle.co_node_model.specs.Inputs.{AppView, Applied, Framed, InputView, Ticked, Written}
use Rattle.co_node_model.specs.Moments.{Constants, channels}
use Rattle.conode_compare_pdos.specs.SheetNumbers.{number_of}
use Rattle.conode_compare_nmt.specs.declared.clients.OtherClients.{OtherClients}
use Rattle.conode_compare_nmt.specs.OtherClients.{is_channel, is_of_device, may_send}
use Rattle.conode_compare_laws.specs.Identifiers.{IsElsewhere}
use Rattle.conode_compare_laws.specs.Recordings.{Stamped}

-- ---- the application

-- an event of the application writes an entry
abbrev pub writes : Key → AppView → Bool
writes key (Written written bytes) = same_key written key
writes key event = false

abbrev pub WritesNot : Key → InputView → Type 0
WritesNot key (Framed frame) = Unit {0}
WritesNot key Ticked = Unit {0}
WritesNot key (Applied event) = writes key event ≡ false

-- the application doesn't write it
abbrev pub AllWriteNot : Key → List Stamped → Type 0
AllWriteNot key inputs = AllByRecursion (λ s. WritesNot key s.input) inputs

-- ---- clients of other SDO channels

-- Frames with an identifier are those of such a client for compare: it isn't that of NMT commands, nor
-- one of the device's EMCY, default SDO channel and error control, and by the data sheet it may be one
-- of theirs.
pub record IsTold (node : ℕ) (clients : OtherClients) (id : ℕ) : Type 0 where
  pub command : (id == 0) ≡ false
  pub device : is_of_device node id ≡ false
  pub client : may_send clients id ≡ true

-- an input is no frame to another SDO channel (1201h to 127Fh), or compare takes it for one
abbrev pub IsToTold : Constants → OtherClients → InputView → Type 0
IsToTold k clients input = AllByRecursion (λ c. c.number ≢ 0 → IsTold k.description.node clients c.request ⊎ IsElsewhere c.request input) (channels k)

-- so each input
abbrev pub AllToTold : Constants → OtherClients → List Stamped → Type 0
AllToTold k clients inputs = AllByRecursion (λ s. IsToTold k clients s.input) inputs

-- the entry of the COB-ID of such a client has a number in the data sheet, or begins with 0
abbrev pub GivesNumber : ℕ → Row → Type 0
GivesNumber node row = (is_channel row.key && (row.key.sub == 1)) ≡ true → (is_some (number_of node row.default) ≡ true) ⊎ (unsigned_of (initial_of node row) ≡ 0)

abbrev pub AllGiven : ℕ → List Row → Type 0
AllGiven node rows = AllByRecursion (GivesNumber node) rows
