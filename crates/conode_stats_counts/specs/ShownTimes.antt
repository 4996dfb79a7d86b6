-- The producer heartbeat time of a node, 1017:00 (CiA 301, 7.5.2.20), as SDO transfers show it.
use Rattle.std.specs.Prelude.{ℕ, ◌+◌, ◌*◌, ◌==◌, Bool, true, false, ◌&&◌, if◌then◌else◌, List, ◌∷◌, Option, Some, None, option_map}
use Rattle.co_value.specs.declared.key.Key.{Key}
use Rattle.conode_explain_transfers.specs.declared.told.Told.{Told}
use Rattle.conode_explain_transfers.specs.declared.ended.Ended.{Ended}
use Rattle.conode_explain_transfers.specs.declared.ended.Ending.{Ending}
use Rattle.conode_explain_transfers.specs.declared.ended.Ending.TheVariants.{Done}
use Rattle.conode_stats_counts.specs.declared.shown_time.ShownTime.{ShownTime}

abbrev pub is_heartbeat_time : Key → Bool
is_heartbeat_time key = (key.index == 0x1017) && (key.sub == 0)

abbrev pub is_done : Ending → Bool
is_done (Done crc) = true
is_done _ = false

-- the number that the first two bytes are, the low one first
abbrev pub first_word : List ℕ → Option ℕ
first_word (low ∷ high ∷ more) = Some (low + high * 256)
first_word _ = None

-- by a download or an upload of the whole value, by any protocol
abbrev pub time_by : ℕ → Ended → Option ShownTime
time_by node ended =
    if is_heartbeat_time ended.key && is_done ended.ending
    then option_map (λ time. record { node = node; direction = ended.direction; time = time }) (first_word ended.first.items)
    else None

abbrev pub time_in : ℕ → Option Ended → Option ShownTime
time_in node None = None
time_in node (Some ended) = time_by node ended

-- what a frame of a channel shows
abbrev pub time_of : Option Told → Option ShownTime
time_of None = None
time_of (Some told) = time_in told.node told.ended
