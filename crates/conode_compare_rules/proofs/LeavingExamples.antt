-- Frames that show that a device isn't stopped any more after a command that leads out of stopped, and aborts that it may not take
-- until then, on both sides of each edge.
use Rattle.std.proofs.Common.{◌≡◌, ℕ, Bool, true, false, [], ◌∷◌, map, Option, Some, None, refl}
use Rattle.conode_explain_transfers.specs.declared.kinds.Side.TheVariants.{Client, Server}
use Rattle.conode_explain_transfers.specs.declared.kinds.What.TheVariants.{Part}
use Rattle.conode_compare_pdos.specs.declared.parameters.Parameters.{Parameters}
use Rattle.conode_compare_pdos.specs.declared.pdos.Pdos.{Pdos}
use Rattle.conode_compare_pdos.specs.Followed.{sighting, unknown_pdos}
use Rattle.conode_compare_pdos.specs.Tpdos.{booted_tpdo}
use Rattle.conode_compare_transfers.specs.declared.dialogue.Exchange.{Exchange}
use Rattle.conode_compare_nmt.specs.declared.entries.Entries.{Entries}
use Rattle.conode_compare_nmt.specs.declared.entries.Facts.{Facts}
use Rattle.conode_compare_nmt.specs.declared.finding.NmtState.TheVariants.{Unknown, Initialising, PreOperational, Operational, Stopped}
use Rattle.conode_compare_nmt.specs.declared.leaving.Leaving.TheVariants.{Nothing, Awaited, Shown}
use Rattle.conode_compare_nmt.specs.declared.limits.Subject.{Subject}
use Rattle.conode_compare_nmt.specs.declared.nmt.Nmt.{Nmt}
use Rattle.conode_compare_rules.specs.declared.progress.Progress.{Progress}
use Rattle.conode_compare_nmt.specs.Heartbeats.{overdue_by}
use Rattle.conode_compare_nmt.specs.OtherClients.{no_clients}
use Rattle.conode_compare_rules.specs.Gaps.{before_recording}
use Rattle.conode_compare_rules.specs.EmergencyRules.{after_emergency, emergency_noted, may_have_waited}
use Rattle.conode_compare_rules.specs.Channels.{channel_heard, exchange_at, left_open, may_miss_end, nmt_heard}
use Rattle.conode_compare_rules.specs.Processes.{after_process, moment_at}
use Rattle.conode_compare_nmt.specs.States.{is_settled}
use Rattle.co_frame.specs.FrameContent.{FrameContent}
use Rattle.co_frame.specs.SdoRequests.{request_row_in}
use Rattle.conode_compare_transfers.specs.Dialogues.{dialogue_heard, exchange_in}
use Rattle.conode_compare_nmt.proofs.Examples.{limits}
use Rattle.conode_compare_nmt.proofs.LeavingExamples.{in_state, starting}

-- ---- an answer

abbrev answered : Bool → ℕ → Exchange
answered certain asked = record {
  heard = record { what = Part; of = None; ended = None };
  asked = Some (record { key = record { index = 0x1000; sub = 0 }; micros = asked; writes = false; switches = false });
  owed = false;
  certain = certain;
  breach = None;
  awaited = None;
}

-- to a request within the tolerance after the command, and later; where an earlier request can be answered
answers : map (λ asked. (nmt_heard limits 0 starting 120000 Server (answered true asked)).leaving) (110000 ∷ 110001 ∷ []) ≡ Awaited ∷ Shown 120000 ∷ []
unfolding is_settled
answers = refl

doubtful_answer : (nmt_heard limits 0 starting 120000 Server (answered false 110001)).leaving ≡ Awaited
unfolding is_settled
doubtful_answer = refl

request : (nmt_heard limits 0 starting 120000 Client (answered true 110001)).leaving ≡ Awaited
request = refl

no_request : (nmt_heard limits 0 starting 120000 Server (record (answered true 110001) { asked = None })).leaving ≡ Awaited
no_request = refl

-- ---- an EMCY, a TPDO

abbrev event_driven : Parameters
event_driven = record { id = Some 0x185; kind = Some 255; inhibit = Some 0; timer = Some 0; length = Some 4 }

abbrev sheet : Entries
sheet = record { period = Some 1000; emergencies = true; inhibit = Some 0; inhibit_shown = None }

abbrev pdos : Pdos
pdos = record unknown_pdos { first = booted_tpdo None event_driven }

abbrev facts : Facts
facts = record { before = sheet; booted = sheet; pdos = pdos; clients = no_clients; starts_itself = false; modular = false; stores = false; as_sheet = true }

abbrev subject : Subject
subject = record {
  node = 5;
  limits = limits;
  facts = facts;
  held = record { entries = record { items = [] } };
  rooms = record { strings = None; domains = None };
}

abbrev at : ℕ → Progress
at free = record (before_recording subject) { newest = Some free; free = free; nmt = starting; pdos = pdos }

-- within the tolerance after the command, and later; where it isn't surely the device's
emergencies : map (λ free. (emergency_noted subject (at free) 120000).nmt.leaving) (110000 ∷ 110001 ∷ []) ≡ Awaited ∷ Shown 120000 ∷ []
unfolding after_emergency is_settled overdue_by
emergencies = refl

another_emergency : (emergency_noted subject (record (at 110001) { entries = record sheet { emergencies = false } }) 120000).nmt.leaving ≡ Awaited
unfolding after_emergency is_settled overdue_by
another_emergency = refl

tpdos : map (λ free. (after_process subject (at free) 120000 0x185 4).nmt.leaving) (110000 ∷ 110001 ∷ []) ≡ Awaited ∷ Shown 120000 ∷ []
unfolding after_process is_settled overdue_by sighting moment_at
tpdos = refl

another_pdo : (after_process subject (at 110001) 120000 0x186 4).nmt.leaving ≡ Awaited
unfolding after_process is_settled overdue_by sighting moment_at
another_pdo = refl

-- ---- an EMCY that may have waited

abbrev ready : ℕ → Nmt → Progress
ready free nmt = record (before_recording subject) { newest = Some free; free = free; nmt = nmt }

-- on a free bus it came when it was sent
waited_for_bus : map (λ micros. may_have_waited subject (ready 200000 (in_state PreOperational)) micros) (200000 ∷ 200001 ∷ []) ≡ false ∷ true ∷ []
unfolding is_settled overdue_by
waited_for_bus = refl

-- within the tolerance after a command, and later
waited_for_command : map (λ free. may_have_waited subject (ready free (record starting { leaving = Nothing })) free) (110000 ∷ 110001 ∷ []) ≡ true ∷ false ∷ []
unfolding is_settled overdue_by
waited_for_command = refl

-- until a frame shows that the device left stopped
waited_for_leaving : map (λ leaving. may_have_waited subject (ready 200000 (record starting { leaving = leaving })) 200000) (Awaited ∷ Shown 200000 ∷ Shown 199999 ∷ [])
    ≡ true ∷ true ∷ false ∷ []
unfolding is_settled overdue_by
waited_for_leaving = refl

-- within the tolerance after the boot-up, and later
waited_for_boot_up : map (λ free. may_have_waited subject (ready free (record (in_state PreOperational) { booted = Some 100000 })) free) (110000 ∷ 110001 ∷ []) ≡ true ∷ false ∷ []
unfolding is_settled overdue_by
waited_for_boot_up = refl

-- ---- an abort of the client, and its confirmation of a block upload

-- 08000000 of 2003:00
abbrev abort : FrameContent
abort = record { id = 0x605; bytes = 0x80 ∷ 0x03 ∷ 0x20 ∷ 0 ∷ 0 ∷ 0 ∷ 0 ∷ 0x08 ∷ [] }

-- an upload of 1000:00
abbrev upload : FrameContent
upload = record { id = 0x605; bytes = 0x40 ∷ 0x00 ∷ 0x10 ∷ 0 ∷ 0 ∷ 0 ∷ 0 ∷ 0 ∷ [] }

misses_in : map (λ state. may_miss_end (in_state state) 100000 abort) (Stopped ∷ Unknown ∷ PreOperational ∷ Operational ∷ Initialising ∷ [])
    ≡ true ∷ true ∷ false ∷ false ∷ false ∷ []
misses_in = refl

-- before a frame shows that it isn't stopped any more, at the same time, and later
misses_leaving : map (λ leaving. may_miss_end (record starting { leaving = leaving }) 150000 abort) (Nothing ∷ Awaited ∷ Shown 150000 ∷ Shown 149999 ∷ [])
    ≡ false ∷ true ∷ true ∷ false ∷ []
misses_leaving = refl

-- the confirmation, and the next segment, which has another command
misses_confirmation : map (λ first. may_miss_end (in_state Stopped) 100000 (record abort { bytes = first ∷ 0 ∷ 0 ∷ 0 ∷ 0 ∷ 0 ∷ 0 ∷ 0 ∷ [] })) (0xA1 ∷ 0xA2 ∷ 0xA3 ∷ 0x60 ∷ [])
    ≡ true ∷ false ∷ false ∷ false ∷ []
misses_confirmation = refl

-- another frame
misses_upload : may_miss_end (in_state Stopped) 100000 upload ≡ false
misses_upload = refl

-- then the next request is in doubt, however late it comes; else it isn't
abbrev aborted : Nmt → Progress
aborted nmt = channel_heard subject (record (before_recording subject) { newest = Some 2000000; free = 2000000; nmt = nmt }) 2000000 Client abort

abbrev doubted_request : Nmt → Option ℕ
doubted_request nmt = (channel_heard subject (record (aborted nmt) { nmt = in_state Operational }) 9000000 Client upload).dialogue.doubted

in_doubt : map (λ state. doubted_request (in_state state)) (Stopped ∷ Operational ∷ []) ≡ Some 9000000 ∷ Some 2000000 ∷ []
unfolding channel_heard exchange_at exchange_in dialogue_heard request_row_in
in_doubt = refl

in_doubt_leaving : map (λ leaving. doubted_request (record starting { leaving = leaving })) (Awaited ∷ Shown 1999999 ∷ []) ≡ Some 9000000 ∷ Some 2000000 ∷ []
unfolding channel_heard exchange_at exchange_in dialogue_heard request_row_in
in_doubt_leaving = refl

-- an abort of the device alone leaves none in doubt
of_device : (left_open Server true (before_recording subject).dialogue).sub_block ≡ false
of_device = refl

-- until an answer of the device that is no abort; an abort of the device may be of that transfer
abbrev answered_by : ℕ → Bool
answered_by first =
    (channel_heard subject (aborted (in_state Stopped)) 9000000 Server (record { id = 0x585; bytes = first ∷ 0x00 ∷ 0x10 ∷ 0 ∷ 0 ∷ 0 ∷ 0 ∷ 0 ∷ [] })).dialogue.sub_block

until_answer : map answered_by (0x43 ∷ 0x80 ∷ []) ≡ false ∷ true ∷ []
unfolding channel_heard exchange_at exchange_in dialogue_heard
until_answer = refl
