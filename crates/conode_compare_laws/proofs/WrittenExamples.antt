-- 1017:00 is written with another number, and the conditions of the law about that; and that nothing may be known of it before a boot-up.
use Rattle.std.proofs.Common.{◌≡◌, ℕ, true, false, List, [], ◌∷◌, map, Option, Some, None, refl, sym, inl}
use Rattle.std.proofs.lemmas.Bool.{false≢true}
use Rattle.co_frame.specs.SdoRequests.{request_row_in}
use Rattle.co_frame.specs.SdoResponses.{response_row_in}
use Rattle.co_profile.specs.declared.access.Access.TheVariants.{Rw}
use Rattle.co_profile.specs.Keys.{producer_key}
use Rattle.co_node_model.specs.Device.{moment}
use Rattle.co_node_model.specs.Inputs.{InputView}
use Rattle.co_node_model.specs.Moments.{Constants}
use Rattle.co_node_model.proofs.ExampleNode.{came, device_with, frame, reset_node, searches, u16}
use Rattle.conode_compare_pdos.specs.Followed.{unknown_pdos}
use Rattle.conode_compare_nmt.specs.declared.entries.Entries.{Entries}
use Rattle.conode_compare_nmt.specs.declared.finding.Finding.{Finding}
use Rattle.conode_compare_nmt.specs.declared.finding.Finding.TheVariants.{HeartbeatLate}
use Rattle.conode_compare_nmt.specs.declared.limits.Subject.{Subject}
use Rattle.conode_compare_nmt.specs.EntriesInForce.{asked_to_write, shown_inhibit, shown_period}
use Rattle.conode_compare_nmt.specs.Heartbeats.{is_missing, late_finding, overdue_by}
use Rattle.conode_compare_rules.specs.NmtFrames as nmt_frames
use Rattle.conode_compare_rules.specs.Gaps.{begun}
use Rattle.conode_compare_rules.specs.NmtFrames.{booted, control_findings, heartbeat_findings}
use Rattle.conode_compare_rules.specs.Channels.{answer_findings, channel_heard, exchange_at, exchange_noted, late_noted, request_findings}
use Rattle.conode_compare_rules.specs.Progresses.{findings_at, progress_with}
use Rattle.conode_compare_nmt.specs.States as states
use Rattle.conode_compare_nmt.specs.States.{after_boot_up, after_other, awaits_boot_up, boot_finding, is_settled}
use Rattle.conode_compare_rules.specs.Verdicts.{found}
use Rattle.conode_compare_rules.specs.Answers.{confirmed_finding, silence_finding}
use Rattle.conode_compare_nmt.specs.OtherClients.{no_clients}
use Rattle.conode_compare_transfers.specs.NewestFrames.{newest_after, newest_with}
use Rattle.conode_compare_transfers.specs.Dialogues.{dialogue_heard, exchange_in, is_certain}
use Rattle.conode_compare_laws.specs.Differences.{differences_in, late_differences}
use Rattle.conode_compare_laws.specs.Periods.{FollowsPeriod, period_after}
use Rattle.conode_compare_laws.specs.ShownWords.{KeepsWord}
use Rattle.conode_compare_laws.specs.Recordings.{with_stamp}

-- ---- the numbers of a device whose 1017:00 is 1000: at once, in segments (the second request is the last one), and after a reset

abbrev k : Constants
k = device_with (u16 Rw 0x1017 0 1000 ∷ [])

abbrev at_once : InputView
at_once = came 0x605 8 0x2B17_1000_F401_0000

abbrev initiate : InputView
initiate = came 0x605 8 0x2117_1000_0200_0000

abbrev last_segment : InputView
last_segment = came 0x605 8 0x0BC8_0000_0000_0000

numbers : map (period_after k) ([] ∷ (at_once ∷ []) ∷ (initiate ∷ at_once ∷ []) ∷ (last_segment ∷ initiate ∷ at_once ∷ []) ∷ (reset_node ∷ last_segment ∷ initiate ∷ at_once ∷ []) ∷ []) ≡ 1000 ∷ 500 ∷ 500 ∷ 200 ∷ 1000 ∷ []
unfolding searches request_row_in
numbers = refl

-- the download at once is as the law asks for
asked : KeepsWord producer_key (period_after k (at_once ∷ [])) k [] at_once
unfolding searches request_row_in
asked id own = inl refl

followed : FollowsPeriod no_clients k [] at_once (moment k [] at_once)
unfolding searches request_row_in
followed = record {
  by = λ on. inl refl;
  kept = λ off. absurd (false≢true (sym off));
  restored = λ on. absurd (false≢true on);
}

-- ---- what is known before a boot-up

abbrev entries : Option ℕ → Entries
entries period = record { period = period; emergencies = true; inhibit = Some 0; inhibit_shown = None }

abbrev subject : Option ℕ → Subject
subject before = record {
  node = 5;
  limits = record { tolerance = 10; drift = 1; answer = 1000; boot = 10000; time = None };
  facts = record { before = entries before; booted = entries (Some 1000); pdos = unknown_pdos; clients = no_clients; starts_itself = false; modular = false; stores = false; as_sheet = true };
  held = record { entries = record { items = [] } };
  rooms = record { strings = None; domains = None };
}

-- the stamps step back at a heartbeat, and the recording begins anew, within a download of 1017:00 in segments, which ends 0.9 s after
-- it. The next heartbeat comes a period after that: late, if the period were known from the data sheet meanwhile
abbrev late_found : Option ℕ → List Finding
late_found before = differences_in late_differences (subject before) []
    (with_stamp 0 (frame 0x705 1 0)
    ∷ with_stamp 600000 (frame 0x605 8 0x2117_1000_0200_0000) ∷ with_stamp 600000 (frame 0x585 8 0x6017_1000_0000_0000)
    ∷ with_stamp 500000 (frame 0x705 1 127)
    ∷ with_stamp 1400000 (frame 0x605 8 0x0BE8_0300_0000_0000) ∷ with_stamp 1400000 (frame 0x585 8 0x2000_0000_0000_0000)
    ∷ with_stamp 2400000 (frame 0x705 1 127) ∷ [])

begun_anew : map late_found (Some 1000 ∷ None ∷ []) ≡ (HeartbeatLate 1900000 1000 ∷ []) ∷ [] ∷ []
unfolding findings_at progress_with begun booted found nmt_frames.after_control states.after_control silence_finding newest_with newest_after after_boot_up after_other awaits_boot_up boot_finding is_settled control_findings heartbeat_findings late_finding overdue_by channel_heard exchange_at exchange_noted late_noted
    request_findings confirmed_finding answer_findings dialogue_heard exchange_in is_certain shown_period shown_inhibit asked_to_write request_row_in response_row_in is_missing
begun_anew = refl
