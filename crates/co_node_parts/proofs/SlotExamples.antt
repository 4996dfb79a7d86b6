-- Which RPDO frames a SYNC takes, computed from the definitions.
use Rattle.std.proofs.Common.{◌≡◌, ℕ, [], ◌∷◌, refl}
use Rattle.co_frame.specs.FrameContent.{FrameContent}
use Rattle.co_node_parts.specs.declared.rpdo_slots.KeptFrame.{KeptFrame}
use Rattle.co_node_parts.specs.declared.rpdo_slots.SlotEvent.TheVariants.{Keep, Empty, EmptyAll, Sync, Quiet}
use Rattle.co_node_parts.specs.RpdoSlots.{taken_at}

-- a frame with one byte
abbrev with_byte : ℕ → FrameContent
with_byte byte = record { id = 0x205; bytes = byte ∷ [] }

-- that frame of RPDO k
abbrev of_rpdo : ℕ → ℕ → KeptFrame
of_rpdo k byte = record { number = k; frame = with_byte byte }

none_came : taken_at 4 Sync [] ≡ []
none_came = refl

the_last_of_two : taken_at 4 Sync (Keep 2 (with_byte 7) ∷ Quiet ∷ Keep 2 (with_byte 6) ∷ []) ≡ of_rpdo 2 7 ∷ []
the_last_of_two = refl

in_increasing_number : taken_at 4 Sync (Keep 0 (with_byte 5) ∷ Keep 3 (with_byte 7) ∷ Keep 1 (with_byte 6) ∷ []) ≡ of_rpdo 0 5 ∷ of_rpdo 1 6 ∷ of_rpdo 3 7 ∷ []
in_increasing_number = refl

without_a_slot : taken_at 4 Sync (Keep 4 (with_byte 6) ∷ Keep 3 (with_byte 7) ∷ []) ≡ of_rpdo 3 7 ∷ []
without_a_slot = refl

emptied : taken_at 4 Sync (Empty 1 ∷ Keep 1 (with_byte 6) ∷ Keep 2 (with_byte 7) ∷ []) ≡ of_rpdo 2 7 ∷ []
emptied = refl

kept_after_it_was_emptied : taken_at 4 Sync (Keep 1 (with_byte 7) ∷ Empty 1 ∷ Keep 1 (with_byte 6) ∷ []) ≡ of_rpdo 1 7 ∷ []
kept_after_it_was_emptied = refl

all_emptied : taken_at 4 Sync (EmptyAll ∷ Keep 1 (with_byte 6) ∷ Keep 2 (with_byte 7) ∷ []) ≡ []
all_emptied = refl

taken_once : taken_at 4 Sync (Sync ∷ Keep 1 (with_byte 6) ∷ []) ≡ []
taken_once = refl

one_since_the_sync : taken_at 4 Sync (Keep 2 (with_byte 7) ∷ Sync ∷ Keep 1 (with_byte 6) ∷ []) ≡ of_rpdo 2 7 ∷ []
one_since_the_sync = refl

at_a_sync_alone : taken_at 4 Quiet (Keep 1 (with_byte 6) ∷ []) ≡ []
at_a_sync_alone = refl

not_at_the_frame : taken_at 4 (Keep 1 (with_byte 7)) (Keep 1 (with_byte 6) ∷ []) ≡ []
not_at_the_frame = refl
