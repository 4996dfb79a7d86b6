-- Which RPDO frames wait for a SYNC (CiA 301, 7.2.2.2 and 7.5.2.35).
use Rattle.std.specs.Prelude.{◌≡◌, ℕ, ◌<◌, ◌≤◌, ◌==◌, if◌then◌else◌, Option, Some, None, option_map, List, [], ◌∷◌, length}
use Rattle.std.specs.List.{filter_map, range_with_len, slice_index_or}
use Rattle.co_frame.specs.FrameContent.{FrameContent}
use Rattle.co_node_parts.specs.declared.rpdo_slots.SlotEvent.{SlotEvent}
use Rattle.co_node_parts.specs.declared.rpdo_slots.SlotEvent.TheVariants.{Keep, Empty, EmptyAll, Sync, Quiet}
use Rattle.co_node_parts.specs.declared.rpdo_slots.KeptFrame.{KeptFrame}

-- the events, newest first
abbrev pub SlotLog : Type 0
SlotLog = List SlotEvent

-- the frame that waits for RPDO k: the last since its slot was emptied, and since the last SYNC
abbrev pub kept_of : ℕ → SlotLog → Option FrameContent
kept_of k [] = None
kept_of k (Keep j frame ∷ log) = if k == j then Some frame else kept_of k log
kept_of k (Empty j ∷ log) = if k == j then None else kept_of k log
kept_of k (EmptyAll ∷ log) = None
kept_of k (Sync ∷ log) = None
kept_of k (Quiet ∷ log) = kept_of k log

-- a frame with the number of its RPDO
abbrev pub numbered : ℕ → Option FrameContent → Option KeptFrame
numbered k frame = option_map (λ f. record { number = k; frame = f }) frame

-- the frames that wait, of the RPDOs below a number, in increasing number
abbrev pub all_kept : ℕ → SlotLog → List KeptFrame
all_kept count log = filter_map (λ k. numbered k (kept_of k log)) (range_with_len 0 count)

-- the frames that an event takes: a SYNC all that wait, any other event none
abbrev pub taken_at : ℕ → SlotEvent → SlotLog → List KeptFrame
taken_at count (Keep k frame) log = []
taken_at count (Empty k) log = []
taken_at count EmptyAll log = []
taken_at count Sync log = all_kept count log
taken_at count Quiet log = []

-- the frames in the slots, those that the last event took, and how many of these fit in memory
pub record SlotContent : Type 0 where
  pub slots : List (Option FrameContent)
  pub taken : List KeptFrame
  pub room : ℕ

-- there are `count` slots, memory for a frame of each, and each slot is in the state after the log
pub record SlotsStand (count : ℕ) (content : SlotContent) (log : SlotLog) : Type 0 where
  pub size : length content.slots ≡ count
  pub room : content.room ≡ count
  pub all : (k : ℕ) (d : Option FrameContent) → k < count
      → slice_index_or content.slots k d ≡ kept_of k log

-- no slot from this number on has a frame
abbrev pub AreEmptyFrom : ℕ → List (Option FrameContent) → Type 0
AreEmptyFrom used slots = (k : ℕ) (d : Option FrameContent) → used ≤ k → k < length slots → slice_index_or slots k d ≡ None
