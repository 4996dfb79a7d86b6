-- What ends of the error register with an error of the CAN interface, evaluated.
use Rattle.std.proofs.Common.{◌≡◌, ℕ, true, false, List, [], ◌∷◌, map, refl}
use Rattle.co_node_model.specs.declared.app_answer.AppAnswer.TheVariants as app
use Rattle.co_node_model.specs.Inputs.{Written, EventOn, ChangedAt, Raised, Cleared}
use Rattle.co_node_device.specs.declared.seen.Seen.TheVariants as seen
use Rattle.bafokun.specs.declared.ending.Ending.{Ending}
use Rattle.bafokun.specs.Ending.{by_answer, by_change, by_event, by_losses, by_seen, ended_bits, no_error}

abbrev none : List ℕ
none = 0 ∷ 0 ∷ 0 ∷ 0 ∷ 0 ∷ []

-- ---- the errors of the CAN interface

-- error passive, and recovered from bus-off: bit 4 ends if it wasn't set
abbrev passive : Ending
passive = record { communication = true; generic = true }

raised : by_change 1 0 no_error ≡ passive
raised = refl

recovered : by_change 3 0 no_error ≡ passive
recovered = refl

beside_other_bits : by_change 1 0xEF no_error ≡ passive
beside_other_bits = refl

was_set : by_change 1 0x10 no_error ≡ no_error
was_set = refl

recovered_was_set : by_change 3 0x11 no_error ≡ no_error
recovered_was_set = refl

-- once more: it is the same error's
twice : by_change 3 0x11 passive ≡ passive
twice = refl

active : by_change 0 0x11 passive ≡ no_error
active = refl

-- bus-off and other numbers change nothing
bus_off : by_change 2 0 passive ≡ passive
bus_off = refl

no_change : by_change 4 0 passive ≡ passive
no_change = refl

-- ---- the bits of a register that end

-- error passive alone, with bit 4 alone, and with each of the other bits
ended : map (ended_bits passive) (0x11 ∷ 0x10 ∷ 0x13 ∷ 0x15 ∷ 0x19 ∷ 0x31 ∷ 0x51 ∷ 0x91 ∷ [])
    ≡ 0x11 ∷ 0x11 ∷ 0x10 ∷ 0x10 ∷ 0x10 ∷ 0x10 ∷ 0x10 ∷ 0x10 ∷ []
ended = refl

-- bit 4 of another error: bit 0 stays too
others : map (ended_bits no_error) (0x11 ∷ 0x10 ∷ 0x01 ∷ 0 ∷ 0x03 ∷ []) ≡ 0 ∷ 0 ∷ 1 ∷ 1 ∷ 0 ∷ []
others = refl

-- beside an error that has bit 0 alone
beside_generic : map (ended_bits (record { communication = true; generic = false })) (0x11 ∷ 0x19 ∷ []) ≡ 0x10 ∷ 0x10 ∷ []
beside_generic = refl

neither : map (ended_bits (record { communication = false; generic = false })) (0x11 ∷ 0x01 ∷ 0 ∷ []) ≡ 0 ∷ 0 ∷ 0 ∷ []
neither = refl

-- ---- errors of the application

raise_generic : by_event (Raised 0x1000 0 none) passive ≡ record { communication = true; generic = false }
raise_generic = refl

raise_bit_0 : by_event (Raised 0x1000 1 none) passive ≡ record { communication = true; generic = false }
raise_bit_0 = refl

raise_other : map (λ bits. by_event (Raised 0x4200 bits none) passive) (0x02 ∷ 0x09 ∷ 0x80 ∷ []) ≡ passive ∷ passive ∷ passive ∷ []
raise_other = refl

raise_communication : map (λ bits. by_event (Raised 0x8100 bits none) passive) (0x10 ∷ 0x11 ∷ 0xFF ∷ []) ≡ no_error ∷ no_error ∷ no_error ∷ []
raise_communication = refl

clear_other : by_event (Cleared 0xEE) passive ≡ passive
clear_other = refl

clear_communication : by_event (Cleared 0x10) passive ≡ no_error
clear_communication = refl

clear_generic : by_event (Cleared 1) (record { communication = true; generic = false }) ≡ passive
clear_generic = refl

clear_none : by_event (Cleared 0) (record { communication = true; generic = false }) ≡ record { communication = true; generic = false }
clear_none = refl

-- what is written into 1001h itself, with bit 0 and without it; into another sub-index, and into 1002h
write_register : by_event (Written (record { index = 0x1001; sub = 0 }) (0x11 ∷ [])) passive ≡ record { communication = false; generic = false }
write_register = refl

write_no_bit_0 : map (λ byte. by_event (Written (record { index = 0x1001; sub = 0 }) (byte ∷ [])) passive) (0 ∷ 0x10 ∷ 0xFE ∷ [])
    ≡ no_error ∷ no_error ∷ no_error ∷ []
write_no_bit_0 = refl

write_sub : by_event (Written (record { index = 0x1001; sub = 1 }) (0x11 ∷ [])) passive ≡ passive
write_sub = refl

write_other : by_event (Written (record { index = 0x1002; sub = 0 }) (0x11 ∷ [])) passive ≡ passive
write_other = refl

other_events : by_event (EventOn 0) passive ∷ by_event (ChangedAt (record { index = 0x1001; sub = 0 })) passive ∷ [] ≡ passive ∷ passive ∷ []
other_events = refl

-- an event that is refused: error code 0
refused : by_answer (app.Refused (record { 0 = 0x0609_0030 })) (Raised 0 0x10 none) passive ≡ passive
refused = refl

done : by_answer app.Done (Raised 0x8100 0x10 none) passive ≡ no_error
done = refl

-- ---- heartbeats and resets

no_loss : by_losses [] passive ≡ passive
no_loss = refl

loss : by_losses (1 ∷ []) passive ≡ no_error
loss = refl

loss_beside_generic : by_losses (1 ∷ 2 ∷ []) (record { communication = true; generic = false }) ≡ record { communication = false; generic = false }
loss_beside_generic = refl

resets : map (λ s. by_seen s (record { communication = true; generic = false })) (seen.ResetNode ∷ seen.ResetCommunication ∷ []) ≡ no_error ∷ no_error ∷ []
resets = refl

other_frames : map (λ s. by_seen s passive) (seen.Nothing ∷ seen.Sync ∷ seen.Rpdo ∷ seen.Heartbeat 7 ∷ []) ≡ passive ∷ passive ∷ passive ∷ passive ∷ []
other_frames = refl
