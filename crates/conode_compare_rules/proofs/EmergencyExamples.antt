-- What is a difference of EMCY and what isn't, on both sides of each edge, computed from the definitions.
use Rattle.std.proofs.Common.{map, ◌≡◌, true, false, [], ◌∷◌, Some, None, refl}
use Rattle.conode_compare_nmt.specs.declared.finding.Finding.TheVariants.{EmergencyStopped, EmergencyRegister, EmergencyInhibit}
use Rattle.conode_compare_nmt.specs.declared.finding.NmtState.TheVariants.{Initialising, PreOperational, Stopped}
use Rattle.conode_compare_rules.specs.EmergencyRules.{emergency_finding, inhibit_finding}
use Rattle.conode_compare_nmt.proofs.Examples.{entries, limits}

emergency : emergency_finding limits entries PreOperational true false None 0 0x8130 0x11 ≡ None
unfolding emergency_finding inhibit_finding
emergency = refl

no_bit_0 : emergency_finding limits entries PreOperational true false None 0 0x8130 0x10 ≡ Some (EmergencyRegister 0x8130 0x10)
unfolding emergency_finding
no_bit_0 = refl

reset_error : emergency_finding limits entries PreOperational true false None 0 0xFF 0 ≡ None
unfolding emergency_finding inhibit_finding
reset_error = refl

-- one that may have waited for the inhibit time, and one that can't have
code_alone : map (λ inhibit. emergency_finding limits (record entries { inhibit = inhibit }) PreOperational true false None 0 0x100 0) (Some 0 ∷ Some 1 ∷ None ∷ [])
    ≡ Some (EmergencyRegister 0x100 0) ∷ None ∷ None ∷ []
unfolding emergency_finding inhibit_finding
code_alone = refl

-- a transfer showed 0 at 5 µs, which counts from the first EMCY that comes 10 ms after that; where no EMCY is known, one
-- may have come before
had_time : map (λ last. emergency_finding limits (record entries { inhibit = Some 0; inhibit_shown = Some 5 }) PreOperational true false last 20006 0x100 0) (Some 4 ∷ Some 10005 ∷ Some 10006 ∷ None ∷ [])
    ≡ None ∷ None ∷ Some (EmergencyRegister 0x100 0) ∷ None ∷ []
unfolding emergency_finding inhibit_finding
had_time = refl

-- the data sheet has 0
had_none : map (λ last. emergency_finding limits (record entries { inhibit = Some 0 }) PreOperational true false last 20006 0x100 0) (Some 4 ∷ None ∷ [])
    ≡ Some (EmergencyRegister 0x100 0) ∷ Some (EmergencyRegister 0x100 0) ∷ []
unfolding emergency_finding
had_none = refl

-- nor does one that may have waited for the end of stopped or for the bus
waited_otherwise : map (λ register. emergency_finding limits (record entries { inhibit = Some 0 }) PreOperational true true None 0 0x100 register) (0 ∷ 2 ∷ [])
    ≡ None ∷ Some (EmergencyRegister 0x100 2) ∷ []
unfolding emergency_finding inhibit_finding
waited_otherwise = refl

waited_without_bit_0 : map (λ inhibit. emergency_finding limits (record entries { inhibit = inhibit }) PreOperational true false None 0 0x100 2) (Some 0 ∷ None ∷ [])
    ≡ Some (EmergencyRegister 0x100 2) ∷ Some (EmergencyRegister 0x100 2) ∷ []
unfolding emergency_finding
waited_without_bit_0 = refl

while_stopped : emergency_finding limits entries Stopped true false None 0 0 0 ≡ Some EmergencyStopped
unfolding emergency_finding
while_stopped = refl

stopped_just_now : emergency_finding limits entries Stopped false false None 0 0 0 ≡ None
unfolding emergency_finding inhibit_finding
stopped_just_now = refl

while_initialising : emergency_finding limits entries Initialising true false None 0 0x8130 0 ≡ None
unfolding emergency_finding
while_initialising = refl

other_identifier : emergency_finding limits (record entries { emergencies = false }) Stopped true false None 0 0x8130 0 ≡ None
unfolding emergency_finding
other_identifier = refl

-- 100 ms less 10 ms and 1 %
inhibited : emergency_finding limits entries PreOperational true false (Some 1) 89000 0 0 ≡ Some (EmergencyInhibit 88999 1000)
unfolding emergency_finding inhibit_finding
inhibited = refl

not_inhibited : emergency_finding limits entries PreOperational true false (Some 1) 89001 0 0 ≡ None
unfolding emergency_finding inhibit_finding
not_inhibited = refl

-- an inhibit time that was written counts from the first EMCY that comes 10 ms after that
not_in_force : emergency_finding limits (record entries { inhibit_shown = Some 5 }) PreOperational true false (Some 10005) 20000 0 0 ≡ None
unfolding emergency_finding inhibit_finding
not_in_force = refl

in_force : emergency_finding limits (record entries { inhibit_shown = Some 5 }) PreOperational true false (Some 10006) 20006 0 0
    ≡ Some (EmergencyInhibit 10000 1000)
unfolding emergency_finding inhibit_finding
in_force = refl

before_shown : emergency_finding limits (record entries { inhibit_shown = Some 5 }) PreOperational true false (Some 4) 20000 0 0 ≡ None
unfolding emergency_finding inhibit_finding
before_shown = refl
