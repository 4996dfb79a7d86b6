-- A transfer: what it is after its initiate request, and what a step changes of it.
use Rattle.std.specs.Prelude.{ℕ, ◌+◌, ◌/◌, ◌&&◌, Bool, true, false, List, [], length, take, Option, Some, None}
use Rattle.std.specs.Str.{bytes_eq}
use Rattle.co_frame.specs.SegmentSizes.{bytes_per_segment}
use Rattle.conode_explain_transfers.specs.declared.initiate.Initiate.{Initiate}
use Rattle.conode_explain_transfers.specs.declared.kinds.Direction.{Direction}
use Rattle.conode_explain_transfers.specs.declared.kinds.Direction.TheVariants.{Download, Upload}
use Rattle.conode_explain_transfers.specs.declared.kinds.Side.TheVariants.{Client}
use Rattle.conode_explain_transfers.specs.declared.kinds.What.{What}
use Rattle.conode_explain_transfers.specs.declared.kinds.What.TheVariants.{Part, Repeated, Unexpected, Overtaken}
use Rattle.conode_explain_transfers.specs.declared.stage.Stage.TheVariants.{Initiated}
use Rattle.conode_explain_transfers.specs.declared.transfer.Transfer.{Transfer}
use Rattle.conode_explain_transfers.specs.Digests.{no_bytes, digest_taking}
use Rattle.conode_explain_transfers.specs.Stages.{is_initiated}

-- the transfer that a request begins, with its stamp and its bytes
abbrev pub begun : Initiate → ℕ → List ℕ → Transfer
begun initiate micros bytes = record {
  key = initiate.key;
  direction = initiate.direction;
  protocol = initiate.protocol;
  size = initiate.size;
  crc = initiate.crc;
  block_size = initiate.block_size;
  next_number = 1;
  stage = Initiated;
  irregular = false;
  pending = record { items = initiate.bytes.items };
  taken = no_bytes;
  request = record { items = bytes };
  frames = 1;
  begun = micros;
  newest = micros;
  by = Client;
  went_on = false;
  put_aside = false;
  doubtful = record { id = 0; bytes = [] };
  doubtful_at = 0;
}

abbrev pub is_download : Direction → Bool
is_download Download = true
is_download Upload = false

-- the same initiate request again, before any response
abbrev pub is_same_request : Transfer → List ℕ → Bool
is_same_request transfer bytes = is_initiated transfer.stage && bytes_eq transfer.request.items bytes

-- the segments of a sub-block have seven bytes each, and are numbered from 1: the number of the
-- next one, if none is missing
abbrev pub awaited_number : Transfer → ℕ
awaited_number transfer = length transfer.pending.items / bytes_per_segment + 1

-- ---- what a frame makes of it

-- what the frame is, the transfer without the data that is taken, and this data
pub record Turn : Type 0 where
  pub what : What
  pub transfer : Transfer
  pub takes : Option (List ℕ)

-- the transfer with the data, after the data that it had before
abbrev pub after : Transfer → Turn → Transfer
after before turn = record turn.transfer { taken = digest_taking before.taken turn.takes }

-- a frame doesn't go on with the others
abbrev pub irregular : Transfer → Transfer
irregular transfer = record transfer { irregular = true }

abbrev pub unexpected : Transfer → Turn
unexpected transfer = record { what = Unexpected; transfer = irregular transfer; takes = None }

abbrev pub repeated : Transfer → Turn
repeated transfer = record { what = Repeated; transfer = irregular transfer; takes = None }

abbrev pub overtaken : Transfer → Turn
overtaken transfer = record { what = Overtaken; transfer = transfer; takes = None }

-- the next frame takes no data
abbrev pub goes_on : Transfer → Turn
goes_on transfer = record { what = Part; transfer = transfer; takes = None }

-- the next frame: nothing is pending any more, and this data is taken
abbrev pub takes_data : Transfer → List ℕ → Turn
takes_data transfer bytes = record { what = Part; transfer = record transfer { pending = record { items = [] } }; takes = Some bytes }

-- the first of the pending bytes are taken, the others are sent again
abbrev pub takes_pending : Transfer → ℕ → Turn
takes_pending transfer count = takes_data transfer (take count transfer.pending.items)

abbrev pub taken_from : Transfer → ℕ → Transfer
taken_from transfer count = after transfer (takes_pending transfer count)
