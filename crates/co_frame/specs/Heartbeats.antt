-- Error control: boot-up and heartbeat (CiA 301, 7.2.8.3.2 and 7.2.8.3.3).
use Rattle.std.specs.Prelude.{◌≡◌, ◌==◌, ℕ, if◌then◌else◌, Option, None, List, [], ◌∷◌, length, slice_index, find}
use Rattle.co_frame.specs.declared.heartbeat.Heartbeat.{Heartbeat}
use Rattle.co_frame.specs.declared.heartbeat.Heartbeat.TheVariants.{BootUp, Stopped, Operational, PreOperational}

-- the byte of a heartbeat: 0 of a node that has booted, else the node's state
abbrev pub state_byte : Heartbeat → ℕ
state_byte BootUp = 0
state_byte Stopped = 4
state_byte Operational = 5
state_byte PreOperational = 127

-- the heartbeats that there are
abbrev pub heartbeats : List Heartbeat
heartbeats = BootUp ∷ Stopped ∷ Operational ∷ PreOperational ∷ []

-- the heartbeat with a byte
abbrev pub heartbeat_with : ℕ → Option Heartbeat
heartbeat_with byte = find (λ heartbeat. state_byte heartbeat == byte) heartbeats

-- the data bytes of a heartbeat: one byte
abbrev pub heartbeat_bytes : Heartbeat → List ℕ
heartbeat_bytes heartbeat = state_byte heartbeat ∷ []

-- the data bytes are those of the heartbeat
abbrev pub SpellsHeartbeat : Heartbeat → List ℕ → Type 0
SpellsHeartbeat heartbeat bytes = bytes ≡ heartbeat_bytes heartbeat

-- what the data bytes say
abbrev pub heartbeat_in : List ℕ → Option Heartbeat
heartbeat_in bytes = if length bytes == 1 then heartbeat_with (slice_index bytes 0) else None
