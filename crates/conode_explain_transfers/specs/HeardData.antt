-- The data of a transfer in a recording, over a whole log, and what "done" says there: as in `Data`, by
-- `hearing`.
use Rattle.std.specs.Prelude.{ℕ, Bool, List, [], ◌∷◌, Option, Some, None, IfSome}
use Rattle.conode_explain_transfers.specs.declared.channel.Heard.{Heard}
use Rattle.conode_explain_transfers.specs.declared.kinds.Side.{Side}
use Rattle.conode_explain_transfers.specs.declared.kinds.What.{What}
use Rattle.conode_explain_transfers.specs.declared.transfer.Transfer.{Transfer}
use Rattle.conode_explain_transfers.specs.Data.{data_by, IsDoneWith}
use Rattle.conode_explain_transfers.specs.Doubtful.{freed, shown_by}
use Rattle.conode_explain_transfers.specs.Followed.{Event, Framed, BootedUp, Following, after_boot, nothing_heard}
use Rattle.conode_explain_transfers.specs.Hearings.{aside, hearing, late_segment, made_up}
use Rattle.conode_explain_transfers.specs.Readings.{reading_of}
use Rattle.conode_explain_transfers.specs.Turns.{turn_of}

-- the channel after what happened on it, the newest first
abbrev pub heard_after : List Event → Following
heard_after [] = nothing_heard
heard_after (Framed micros side frame ∷ older) = (hearing (heard_after older) micros side frame).next
heard_after (BootedUp micros ∷ older) = after_boot (heard_after older)

-- what is said of a frame after what happened
abbrev pub heard_of : List Event → ℕ → Side → List ℕ → Heard
heard_of log micros side frame = (hearing (heard_after log) micros side frame).says

-- a frame that takes no data: the last segment after its acknowledge, or one that is put aside
abbrev pub beside : Option What → Option What → Option What
beside (Some late) passed = Some late
beside None passed = passed

-- with a frame
abbrev pub data_heard : Option What → Option Transfer → Side → List ℕ → List ℕ → List ℕ
data_heard (Some what) current side frame bytes = bytes
data_heard None current side frame bytes = data_by current (reading_of current side frame) frame bytes

-- where the frame answers a request that was taken for a segment, the transfer begins with that
abbrev pub data_freed : Option Transfer → List ℕ → List ℕ
data_freed None bytes = bytes
data_freed (Some request) bytes = []

-- the data of the transfer that the newest frame belongs to
abbrev pub heard_data : List Event → List ℕ
heard_data [] = []
heard_data (Framed micros side frame ∷ older) =
    let before = (heard_after older).transfer in
    let current = freed before side frame in
    data_heard (beside (late_segment current side frame) (aside current side frame)) (made_up current side frame) side frame (data_freed (shown_by before side frame) (heard_data older))
heard_data (BootedUp micros ∷ older) = []

-- the open transfer is done with a frame after a log
abbrev pub IsDoneHeard : List Event → ℕ → Side → List ℕ → Bool → Type 0
IsDoneHeard log micros side frame crc =
    let current = made_up (freed (heard_after log).transfer side frame) side frame in
    let reading = reading_of current side frame in
    IfSome current (λ transfer.
    IsDoneWith transfer reading (turn_of transfer reading frame) (heard_data (Framed micros side frame ∷ log)) crc)
