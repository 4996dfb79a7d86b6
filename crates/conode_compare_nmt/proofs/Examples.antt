-- What is a difference of heartbeats and what isn't, and what transfers show of 1017:00 and 1015:00, on both sides of each edge,
-- computed from the definitions.
use Rattle.std.proofs.Common.{map, ◌≡◌, ℕ, true, false, [], ◌∷◌, Some, None, refl}
use Rattle.co_profile.specs.declared.access.Access.{Access}
use Rattle.co_sheet.specs.Content.{Row}
use Rattle.co_sheet.specs.Limits.{Default}
use Rattle.co_value.specs.declared.data_type.DataType.{DataType}
use Rattle.co_value.specs.declared.key.Key.{Key}
use Rattle.conode_explain_transfers.specs.declared.ended.Ended.{Ended}
use Rattle.conode_explain_transfers.specs.declared.ended.Ending.TheVariants.{Done}
use Rattle.conode_explain_transfers.specs.declared.kinds.Direction.{Direction}
use Rattle.conode_explain_transfers.specs.declared.kinds.Direction.TheVariants.{Download, Upload}
use Rattle.conode_explain_transfers.specs.declared.kinds.Protocol.{Protocol}
use Rattle.conode_explain_transfers.specs.declared.kinds.Protocol.TheVariants.{Expedited, Segmented}
use Rattle.conode_compare_nmt.specs.declared.entries.Entries.{Entries}
use Rattle.conode_compare_nmt.specs.declared.finding.Finding.TheVariants.{HeartbeatLate, HeartbeatOff, LateAfterBootUp, LateAfterTransfer}
use Rattle.conode_compare_nmt.specs.declared.finding.Remark.TheVariants.{EarlyHeartbeat}
use Rattle.conode_compare_nmt.specs.declared.heartbeats.Heartbeats.{Heartbeats}
use Rattle.conode_compare_nmt.specs.declared.heartbeats.Since.TheVariants.{Heartbeat, BootUp, Transfer, Disabled, Off}
use Rattle.conode_compare_nmt.specs.declared.limits.Limits.{Limits}
use Rattle.conode_compare_nmt.specs.EntriesInForce.{ended_entries, shown_inhibit, shown_period}
use Rattle.conode_compare_nmt.specs.Heartbeats.{after_byte, after_transfer, awaited_after, early_remark, follows_closely, is_off_again, late_finding, off_finding, overdue_by, is_gap}

-- 10 ms, 1 %, 1 s and 10 s
abbrev pub limits : Limits
limits = record { tolerance = 10; drift = 1; answer = 1000; boot = 10000; time = None }

-- ---- heartbeats

abbrev pub pulse : Heartbeats
pulse = record { guarded = false; since = Some 5; awaited = Heartbeat; sent = Some 4; shown = None; slow = None; former = None; answered = None; asked = None }

-- late after 1000 ms, 10 ms and 1 %
in_time : late_finding limits (Some 1000) pulse 1020005 1020005 ≡ None
unfolding late_finding overdue_by
in_time = refl

late : late_finding limits (Some 1000) pulse 1020006 1020006 ≡ Some (HeartbeatLate 1020001 1000)
unfolding late_finding overdue_by
late = refl

-- since the boot-up, and since a transfer of 1017:00
late_since_others : map (λ awaited. late_finding limits (Some 1000) (record pulse { awaited = awaited }) 1020006 1020006) (BootUp ∷ Transfer ∷ [])
    ≡ Some (LateAfterBootUp 1020001 1000) ∷ Some (LateAfterTransfer 1020001 1000) ∷ []
unfolding late_finding overdue_by
late_since_others = refl

-- by when the bus was free last
waits_for_bus : late_finding limits (Some 1000) pulse 1020005 1050000 ≡ None
unfolding late_finding overdue_by
waits_for_bus = refl

was_late : late_finding limits (Some 1000) pulse 1020006 1050005 ≡ Some (HeartbeatLate 1050000 1000)
unfolding late_finding overdue_by
was_late = refl

closely : follows_closely 7 1507 ≡ true
closely = refl

not_closely : follows_closely 7 1508 ≡ false
not_closely = refl

-- with a period of 0, or an unknown one, none is
none_sent : late_finding limits (Some 0) pulse 9000000 9000000 ≡ None
unfolding late_finding overdue_by
none_sent = refl

unknown_period : late_finding limits None pulse 9000000 9000000 ≡ None
unfolding late_finding overdue_by
unknown_period = refl

-- of a device whose node guarding was asked for, and before the first one, none is
guarded_late : late_finding limits (Some 1000) (record pulse { guarded = true }) 9000000 9000000 ≡ None
unfolding late_finding overdue_by
guarded_late = refl

not_since : late_finding limits (Some 1000) (record pulse { since = None }) 9000000 9000000 ≡ None
unfolding late_finding overdue_by
not_since = refl

-- early before 1000 ms, less 10 ms and 1 %
early : early_remark limits (Some 1000) pulse None 980003 5 ≡ Some (EarlyHeartbeat 979999 1000)
unfolding early_remark
early = refl

not_early : early_remark limits (Some 1000) pulse None 980004 5 ≡ None
unfolding early_remark
not_early = refl

-- in a recording without stamps
same_stamp : early_remark limits (Some 1000) pulse None 4 5 ≡ None
unfolding early_remark
same_stamp = refl

-- Two with one stamp, 1 s: of a log that is rounded, or of one that stamps together what it reads at once, no more time passed
-- than since the stamp before. So of one in seconds nothing is known.
abbrev stamped : Heartbeats
stamped = record pulse { since = Some 1000000; sent = Some 1000000 }

rounded : map (λ earlier. early_remark limits (Some 1000) stamped (Some earlier) 1000000 5) (999999 ∷ 20001 ∷ 20000 ∷ 0 ∷ [])
    ≡ Some (EarlyHeartbeat 0 1000) ∷ Some (EarlyHeartbeat 0 1000) ∷ None ∷ None ∷ []
unfolding early_remark
rounded = refl

-- with two stamps the one before says nothing
other_stamp : map (λ earlier. early_remark limits (Some 1000) stamped earlier 1979999 5) (None ∷ Some 1000000 ∷ []) ≡ Some (EarlyHeartbeat 979999 1000) ∷ Some (EarlyHeartbeat 979999 1000) ∷ []
unfolding early_remark
other_stamp = refl

other_period : map (λ earlier. early_remark limits (Some 1000) stamped earlier 1980000 5) (None ∷ Some 1000000 ∷ []) ≡ None ∷ None ∷ []
unfolding early_remark
other_period = refl

just_later : early_remark limits (Some 1000) pulse None 5 5 ≡ Some (EarlyHeartbeat 1 1000)
unfolding early_remark
just_later = refl

no_period : early_remark limits (Some 0) pulse None 5 5 ≡ None
unfolding early_remark
no_period = refl

period_unknown : early_remark limits None pulse None 5 5 ≡ None
unfolding early_remark
period_unknown = refl

none_before : early_remark limits (Some 1000) (record pulse { sent = None }) (Some 3) 5 5 ≡ None
unfolding early_remark
none_before = refl

-- answers of node guarding aren't heartbeats
guarded_early : early_remark limits (Some 1000) (record pulse { guarded = true }) None 5 5 ≡ None
unfolding early_remark
guarded_early = refl

toggled : early_remark limits (Some 1000) pulse None 5 0x85 ≡ None
unfolding early_remark
toggled = refl

-- one that waited counts from when the bus was free
waited : after_byte pulse 1000 2000 5 ≡ record { guarded = false; since = Some 2000; awaited = Heartbeat; sent = Some 1000; shown = None; slow = None; former = None; answered = None; asked = None }
waited = refl

-- ---- heartbeats while 1017:00 has 0

abbrev disabled : Heartbeats
disabled = record pulse { awaited = Disabled }

off : off_finding (Some 0) disabled false 5 ≡ Some HeartbeatOff
off = refl

-- not where it has another number, or isn't known
not_off : map (λ period. off_finding period disabled false 5) (Some 1 ∷ None ∷ []) ≡ None ∷ None ∷ []
not_off = refl

-- nor before a transfer showed it and a heartbeat came since, nor once more
not_disabled : map (λ awaited. off_finding (Some 0) (record pulse { awaited = awaited }) false 5) (Heartbeat ∷ BootUp ∷ Transfer ∷ Off ∷ []) ≡ None ∷ None ∷ None ∷ None ∷ []
not_disabled = refl

-- nor at a change of the state, nor of answers of node guarding
aside_off : off_finding (Some 0) disabled true 5 ∷ off_finding (Some 0) disabled false 0x85 ∷ off_finding (Some 0) (record disabled { guarded = true }) false 5 ∷ []
    ≡ None ∷ None ∷ None ∷ []
aside_off = refl

-- after a heartbeat: the first one after the transfer, once no period that ran before may run; one of which that is found, or not
first_off : map (λ former. awaited_after (Some 0) Transfer former false) (Some 1000 ∷ None ∷ []) ≡ Transfer ∷ Disabled ∷ []
first_off = refl

found_off : map (awaited_after (Some 0) Disabled None) (true ∷ false ∷ []) ≡ Off ∷ Disabled ∷ []
found_off = refl

still_off : map (λ awaited. awaited_after (Some 0) awaited None false) (Heartbeat ∷ BootUp ∷ Off ∷ []) ≡ Heartbeat ∷ Heartbeat ∷ Off ∷ []
still_off = refl

-- with another number, or an unknown one, it is a heartbeat as any
any_awaited : map (λ awaited. awaited_after (Some 1) awaited None false) (Heartbeat ∷ BootUp ∷ Transfer ∷ Disabled ∷ Off ∷ [])
    ≡ Heartbeat ∷ Heartbeat ∷ Heartbeat ∷ Heartbeat ∷ Heartbeat ∷ []
any_awaited = refl

unknown_awaited : map (λ awaited. awaited_after None awaited None false) (Transfer ∷ Disabled ∷ Off ∷ []) ≡ Heartbeat ∷ Heartbeat ∷ Heartbeat ∷ []
unknown_awaited = refl

off_again : map (λ awaited. is_off_again (Some 0) (record pulse { awaited = awaited })) (Off ∷ Heartbeat ∷ BootUp ∷ Transfer ∷ Disabled ∷ []) ≡ true ∷ false ∷ false ∷ false ∷ false ∷ []
off_again = refl

not_off_again : map (λ period. is_off_again period (record pulse { awaited = Off })) (Some 1 ∷ None ∷ []) ≡ false ∷ false ∷ []
not_off_again = refl

late_after_off : map (λ awaited. late_finding limits (Some 1000) (record pulse { awaited = awaited }) 1020006 1020006) (Disabled ∷ Off ∷ [])
    ≡ Some (HeartbeatLate 1020001 1000) ∷ Some (HeartbeatLate 1020001 1000) ∷ []
unfolding late_finding overdue_by
late_after_off = refl

-- ---- gaps

-- more than three periods without a frame are a gap
no_gap : is_gap limits (Some 1000) 7 3000007 ≡ false
no_gap = refl

gap : is_gap limits (Some 1000) 7 3000008 ≡ true
gap = refl

no_gap_unknown : is_gap limits None 7 1000007 ≡ false
no_gap_unknown = refl

gap_unknown : is_gap limits (Some 0) 7 1000008 ≡ true
gap_unknown = refl

abbrev pub key : ℕ → ℕ → Key
key index sub = record { index = index; sub = sub }

abbrev pub row : ℕ → ℕ → DataType → Access → Default → Row
row index sub data_type access default = record {
  key = record { index = index; sub = sub };
  data_type = data_type;
  access = access;
  low = None;
  high = None;
  default = default;
  mappable = false;
  name = None;
  line = 1;
}

-- ---- what transfers show

abbrev pub entries : Entries
entries = record { period = None; emergencies = true; inhibit = Some 1000; inhibit_shown = None }

abbrev transferred : Key → Protocol → Ended
transferred key protocol = record {
  key = key;
  direction = Download;
  protocol = protocol;
  bytes = 2;
  first = record { items = 0x2C ∷ 1 ∷ [] };
  frames = 2;
  begun = 1;
  newest = 1;
  end = 7;
  ending = Done false;
  fault = None;
}

-- an expedited transfer of 1015:00 shows it
inhibit_written : ended_entries entries (transferred (key 0x1015 0) Expedited) ≡ record entries { inhibit = Some 300; inhibit_shown = Some 7 }
unfolding shown_period shown_inhibit
inhibit_written = refl

inhibit_in_segments : ended_entries entries (transferred (key 0x1015 0) Segmented) ≡ entries
unfolding shown_period shown_inhibit
inhibit_in_segments = refl

-- what is known already is in force since then; a download leaves it unknown until its end
inhibit_known : map (λ inhibit. (ended_entries (record entries { inhibit = inhibit; inhibit_shown = Some 5 }) (transferred (key 0x1015 0) Expedited)).inhibit_shown) (Some 300 ∷ Some 299 ∷ None ∷ [])
    ≡ Some 5 ∷ Some 7 ∷ Some 7 ∷ []
unfolding shown_period shown_inhibit
inhibit_known = refl

period_written : ended_entries entries (transferred (key 0x1017 0) Expedited) ≡ record entries { period = Some 300 }
unfolding shown_period shown_inhibit
period_written = refl

other_written : ended_entries entries (transferred (key 0x1017 1) Expedited) ≡ entries
unfolding shown_period shown_inhibit
other_written = refl

-- with a download of it the period begins anew, perhaps since the request
abbrev after_period : Direction → Heartbeats
after_period direction = after_transfer pulse (Some (record (transferred (key 0x1017 0) Expedited) { direction = direction })) 90

begun_anew : after_period Download ≡ record { guarded = false; since = Some 90; awaited = Transfer; sent = Some 1; shown = None; slow = None; former = None; answered = None; asked = None }
unfolding shown_period
begun_anew = refl

read_period : after_period Upload ≡ record { guarded = false; since = Some 90; awaited = Transfer; sent = Some 4; shown = None; slow = None; former = None; answered = None; asked = None }
unfolding shown_period
read_period = refl

other_transfer : after_transfer pulse (Some (transferred (key 0x1017 1) Expedited)) 90 ≡ pulse
unfolding shown_period
other_transfer = refl
