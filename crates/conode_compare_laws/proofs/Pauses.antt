-- The inhibit time of EMCY: what compare knows of the last EMCY at each frame of a device's recording, and of the frames at one input.
use Rattle.std.proofs.Common.{◌≡◌, ◌≢◌, ℕ, ◌+◌, ◌*◌, ◌-◌, ◌/◌, ◌≤◌, Bool, true, false, List, [], ◌∷◌, length, map, Option, Some, None, refl, sym, ap, subst, arith}
use Rattle.std.specs.Prelude.{if◌then◌else◌, ◌==◌, ◌&&◌, ◌||◌, not, nat_lt, IfSome}
use Rattle.std.specs.List.{list_all}
use Rattle.std.proofs.lemmas.Bool.{le-ltb, leb-true, ne_eqb}
use Rattle.co_frame.specs.FrameContent.{FrameContent}
use Rattle.co_frame.specs.Emergencies.{emergency_in}
use Rattle.co_frame.specs.Heartbeats.{heartbeat_bytes, state_byte}
use Rattle.co_frame.specs.InhibitTimes.{in_ms}
use Rattle.co_frame.specs.Nmt.{nmt_command_in}
use Rattle.co_frame.specs.declared.emergency.Emergency.{Emergency}
use Rattle.co_frame.specs.declared.heartbeat.Heartbeat.{Heartbeat}
use Rattle.co_frame.specs.declared.nmt.NmtCommand.{NmtCommand}
use Rattle.co_frame.specs.declared.nmt.NmtService.{NmtService}
use Rattle.co_frame.specs.declared.nmt.NmtService.TheVariants.{Start, Stop, EnterPreOperational, ResetNode, ResetCommunication}
use Rattle.co_profile.specs.Keys.{emergency_inhibit_key}
use Rattle.co_value.specs.Keys.{same_key}
use Rattle.co_node_parts.specs.EmergencyQueues.{Sending, is_past, older}
use Rattle.co_sheet.specs.Content.{Row}
use Rattle.conode_explain_transfers.specs.declared.ended.Ended.{Ended}
use Rattle.conode_explain_transfers.specs.declared.kinds.Side.{Side}
use Rattle.conode_explain_transfers.specs.declared.kinds.Side.TheVariants.{Client, Server}
use Rattle.conode_compare_nmt.specs.declared.entries.Entries.{Entries}
use Rattle.conode_compare_nmt.specs.declared.finding.Finding.{Finding}
use Rattle.conode_compare_nmt.specs.declared.finding.Finding.TheVariants.{EmergencyInhibit, EmergencyRegister, EmergencyStopped}
use Rattle.conode_compare_nmt.specs.declared.finding.NmtState.{NmtState}
use Rattle.conode_compare_rules.specs.declared.kind.FrameKind.{FrameKind}
use Rattle.conode_compare_rules.specs.declared.kind.FrameKind.TheVariants.{Command, CommandToAll, LongCommand, Control, Emergency as Emcy, OddEmergency, Other, Process, Sdo}
use Rattle.conode_compare_nmt.specs.declared.limits.Limits.{Limits}
use Rattle.conode_compare_nmt.specs.declared.limits.Subject.{Subject}
use Rattle.conode_compare_rules.specs.declared.progress.Progress.{Progress}
use Rattle.conode_compare_nmt.specs.States.{is_stopped, is_initialising, judged_state}
use Rattle.conode_compare_rules.specs.EmergencyRules.{emergency_finding, fits_register, gap_finding, inhibit_finding, inhibit_with, is_in_force, is_inhibited, least_gap, may_wait, after_emergency, emergency_findings, is_uncounted, may_have_waited}
use Rattle.conode_compare_nmt.specs.EntriesInForce.{asked_by, asked_to_write, done_word, overwritten, shown_inhibit, shown_period, with_inhibit, with_period}
use Rattle.conode_compare_nmt.specs.OtherClients.{is_channel}
use Rattle.conode_compare_rules.specs.FrameKinds.{command_kind, command_to, control_kind, data_kind, emergency_kind, emergency_with, length_of, long_command_in}
use Rattle.conode_compare_nmt.specs.Heartbeats.{follows_closely}
use Rattle.conode_compare_rules.specs.NmtFrames as nmt_frames
use Rattle.conode_compare_rules.specs.Gaps.{begins_anew, begun, with_gap, free_at}
use Rattle.conode_compare_rules.specs.NmtFrames.{after_command, booted, steady_when_free, may_differ}
use Rattle.conode_compare_rules.specs.Channels.{after_sdo, answer_noted, channel_heard, entries_asked, entries_ended, entries_heard, hides_end, shown_beside, exchange_at, exchange_noted, late_noted}
use Rattle.conode_compare_rules.specs.Processes.{after_process, is_of_client}
use Rattle.conode_compare_rules.specs.Progresses.{after_frame, findings_at, findings_in, progress_with}
use Rattle.conode_compare_nmt.specs.Times.{drift_of}
use Rattle.conode_compare_rules.specs.Verdicts.{found}
use Rattle.conode_compare_transfers.specs.declared.dialogue.Asked.{Asked}
use Rattle.conode_compare_transfers.specs.Dialogues.{asks_to_write, dialogue_heard, exchange_in}
use Rattle.conode_compare_transfers.specs.Breaches.{key_in}
use Rattle.conode_compare_transfers.specs.Times.{micros_of}
use Rattle.conode_compare_laws.specs.Differences.{inhibit_differences, only_inhibit}
use Rattle.conode_compare_laws.specs.Identifiers.{AreWithout}
use Rattle.conode_compare_laws.specs.Periods.{KnowsInhibit}
use Rattle.conode_compare_laws.proofs.LongCommands.{long_such}
use Rattle.conode_compare_laws.proofs.NamedKeys.{beside_such}
use Rattle.conode_compare_laws.proofs.Frames.{life_kind}
use Rattle.conode_compare_laws.proofs.Runs.{AllRun}
use Rattle.conode_compare_laws.proofs.ShowsWord.{AllShow, Shown, ShowsAt}

-- the device sent its newest EMCY as long after this stamp as its age is ago, with this inhibit time
abbrev pub IsSince : ℕ → ℕ → ℕ → List Sending → Type 0
IsSince inhibit micros last [] = ⊥
IsSince inhibit micros last (s ∷ before) = (last + s.age * 1000 ≤ micros) × (s.inhibit ≡ inhibit)

-- what compare has of EMCY at a time: their inhibit time, if it is known, and the last one, if it is known
pub record Calm (inhibit micros : ℕ) (sent : List Sending) (p : Progress) : Type 0 where
  pub known : IfSome p.entries.inhibit (λ n. n ≡ inhibit)
  pub since : IfSome p.emergency (λ last. IsSince inhibit micros last sent)
  pub fresh : p.free ≤ micros

-- ---- time passes

later_since : (inhibit last now : ℕ) (emergency : Option ℕ) (sent : List Sending) → last ≤ now → IfSome emergency (λ e. IsSince inhibit last e sent) → IfSome emergency (λ e. IsSince inhibit now e sent)
later_since inhibit last now None sent less h = tt
later_since inhibit last now (Some e) [] less h = h
later_since inhibit last now (Some e) (s ∷ sent) less h = (let first : e + s.age * 1000 ≤ last = h.0 in omega arith, h.1)

older_since : (inhibit last now : ℕ) (emergency : Option ℕ) (sent : List Sending) → last + 1000 ≤ now → IfSome emergency (λ e. IsSince inhibit last e sent) → IfSome emergency (λ e. IsSince inhibit now e (map older sent))
older_since inhibit last now None sent less h = tt
older_since inhibit last now (Some e) [] less h = h
older_since inhibit last now (Some e) (s ∷ sent) less h = (let first : e + s.age * 1000 ≤ last = h.0 in omega arith, h.1)

-- after an input, which may be a tick
pub later : (inhibit last now : ℕ) (tick : Bool) (sent : List Sending) (p : Progress) → last + (if tick then 1000 else 0) ≤ now → Calm inhibit last sent p → Calm inhibit now (if tick then map older sent else sent) p
later inhibit last now true sent p less h = record { known = h.known; since = older_since inhibit last now p.emergency sent less h.since; fresh = (let f : p.free ≤ last = h.fresh in omega arith) }
later inhibit last now false sent p less h = record { known = h.known; since = later_since inhibit last now p.emergency sent (omega arith) h.since; fresh = (let f : p.free ≤ last = h.fresh in omega arith) }

-- ---- a recording that begins anew at a frame

-- when the bus was free last isn't later
free_fits : (newest : Option ℕ) (free micros : ℕ) → free ≤ micros → free_at newest free micros ≤ micros
free_fits None free micros h = omega arith
free_fits (Some newest) free micros h = by (follows_closely newest micros)
  where
    by : (b : Bool) → (if b then free else micros) ≤ micros
    by true = h
    by false = omega arith

begun_fits : (subject : Subject) (p : Progress) (micros : ℕ) → p.free ≤ micros → (begun subject p micros).free ≤ micros
unfolding begun
begun_fits subject p micros h = by (begins_anew subject.limits p micros) _ _ (omega arith) (free_fits p.newest p.free micros h)
  where
    by : (b : Bool) (x y : Progress) → x.free ≤ micros → y.free ≤ micros → (if b then x else y).free ≤ micros
    by true x y f g = f
    by false x y f g = g

pub begun_calm : (subject : Subject) (inhibit micros : ℕ) (sent : List Sending) (p : Progress) → KnowsInhibit inhibit subject → Calm inhibit micros sent p → Calm inhibit micros sent (begun subject p micros)
unfolding begun
begun_calm subject inhibit micros sent p knows h = by (begins_anew subject.limits p micros) _ _ (record { known = knows.before; since = tt; fresh = omega arith }) (record { known = h.known; since = h.since; fresh = free_fits p.newest p.free micros h.fresh })
  where
    by : (b : Bool) (x y : Progress) → Calm inhibit micros sent x → Calm inhibit micros sent y → Calm inhibit micros sent (if b then x else y)
    by true x y f g = f
    by false x y f g = g

-- ---- frames that are no EMCY

-- what a frame may be: no EMCY, no error control
abbrev is_quiet : FrameKind → Bool
is_quiet (Command service) = true
is_quiet (CommandToAll service) = true
is_quiet (LongCommand service) = true
is_quiet (Sdo side frame) = true
is_quiet (Process id length) = true
is_quiet Other = true
is_quiet _ = false

quiet_command : (node : ℕ) (long command : Option NmtCommand) → is_quiet (command_to node long command) ≡ true
quiet_command node long None = long_such (λ kind. is_quiet kind ≡ true) node long (λ service. refl) refl
quiet_command node long (Some command) = by (command.node == 0) (command.node == node)
  where
    by : (a b : Bool) → is_quiet (if a then CommandToAll command.service else (if b then Command command.service else Other)) ≡ true
    by true b = refl
    by false true = refl
    by false false = refl

quiet_kind : (node : ℕ) (frame : FrameContent) → frame.id ≢ 0x80 + node → frame.id ≢ 0x700 + node → is_quiet (data_kind node frame) ≡ true
quiet_kind node frame emergency control =
    by (frame.id == 0) (frame.id == 0x80 + node) (frame.id == 0x580 + node) (frame.id == 0x600 + node) (frame.id == 0x700 + node)
    (ne_eqb frame.id (0x80 + node) emergency) (ne_eqb frame.id (0x700 + node) control)
  where
    by : (a b c d e : Bool) → b ≡ false → e ≡ false
        → is_quiet (if a then command_kind node frame
        else (if b then emergency_kind frame
        else (if c then Sdo Server frame
        else (if d then Sdo Client frame
        else (if e then control_kind frame else Process frame.id (length_of frame)))))) ≡ true
    by true b c d e o r = quiet_command node (long_command_in frame) (nmt_command_in frame)
    by false true c d e o r = absurd (cc)
    by false false true d e o r = refl
    by false false false true e o r = refl
    by false false false false true o r = absurd (cc)
    by false false false false false o r = refl

-- nothing is found at a frame of these kinds, and what compare has then
record Passes (inhibit micros : ℕ) (sent : List Sending) (subject : Subject) (rows : List Row) (p : Progress) (kind : FrameKind) : Type 0 where
  none : inhibit_differences kind (findings_in subject rows p micros kind) ≡ []
  calm : Calm inhibit micros sent (after_frame subject p micros kind)

-- a frame of the default SDO channel: a transfer of 1015:00 that ends with it shows the time, or nothing
shown_right : (inhibit : ℕ) (e : Ended) → Shown emergency_inhibit_key inhibit e → IfSome (shown_inhibit e) (λ n. n ≡ inhibit)
unfolding shown_inhibit
shown_right inhibit e h = by (same_key e.key emergency_inhibit_key) h
  where
    by : (b : Bool) → (b ≡ true → IfSome (done_word e.protocol e.ending e.first.items) (λ n. n ≡ inhibit)) → IfSome (if b then done_word e.protocol e.ending e.first.items else None) (λ n. n ≡ inhibit)
    by true f = f refl
    by false f = tt

-- it is known then, or as before
ended_known : (inhibit : ℕ) (entries : Entries) (o : Option Ended) → IfSome o (Shown emergency_inhibit_key inhibit) → IfSome entries.inhibit (λ n. n ≡ inhibit) → IfSome (entries_ended entries o).inhibit (λ n. n ≡ inhibit)
ended_known inhibit entries None shows h = h
ended_known inhibit entries (Some e) shows h = by (shown_inhibit e) (shown_right inhibit e shows) (period (shown_period e))
  where
    period : (shown : Option ℕ) → IfSome (with_period entries shown).inhibit (λ n. n ≡ inhibit)
    period None = h
    period (Some n) = h

    by : (shown : Option ℕ) → IfSome shown (λ n. n ≡ inhibit) → IfSome (with_period entries (shown_period e)).inhibit (λ n. n ≡ inhibit)
        → IfSome (with_inhibit (with_period entries (shown_period e)) shown e.end).inhibit (λ n. n ≡ inhibit)
    by None g f = f
    by (Some n) g f = g

-- or it isn't any more, after a request to write it
asked_known : (inhibit : ℕ) (entries : Entries) (o : Option Asked) → IfSome entries.inhibit (λ n. n ≡ inhibit) → IfSome (entries_asked entries o).inhibit (λ n. n ≡ inhibit)
unfolding asked_to_write
asked_known inhibit entries None h = h
asked_known inhibit entries (Some asked) h = by asked.writes (asked_to_write entries asked.key) (forgets (same_key asked.key emergency_inhibit_key || is_channel asked.key))
  where
    forgets : (b : Bool) → IfSome (if b then None else entries.inhibit) (λ n. n ≡ inhibit)
    forgets true = tt
    forgets false = h

    by : (b : Bool) (x : Entries) → IfSome x.inhibit (λ n. n ≡ inhibit) → IfSome (if b then x else entries).inhibit (λ n. n ≡ inhibit)
    by true x g = g
    by false x g = h

-- whatever such a request is to explain
by_known : (inhibit : ℕ) (entries : Entries) (side : Side) (frame : FrameContent) → IfSome entries.inhibit (λ n. n ≡ inhibit) → IfSome (asked_by side frame entries).inhibit (λ n. n ≡ inhibit)
unfolding asked_to_write
by_known inhibit entries Server frame h = h
by_known inhibit entries Client frame h = by (asks_to_write frame) (forgets (same_key (key_in frame) emergency_inhibit_key || is_channel (key_in frame)))
  where
    forgets : (b : Bool) → IfSome (if b then None else entries.inhibit) (λ n. n ≡ inhibit)
    forgets true = tt
    forgets false = h

    by : (b : Bool) → IfSome (asked_to_write entries (key_in frame)).inhibit (λ n. n ≡ inhibit) → IfSome (if b then asked_to_write entries (key_in frame) else entries).inhibit (λ n. n ≡ inhibit)
    by true g = g
    by false g = h

sdo_calm : (inhibit micros : ℕ) (sent : List Sending) (subject : Subject) (p : Progress) (side : Side) (frame : FrameContent) → ShowsAt emergency_inhibit_key inhibit p micros (Sdo side frame)
    → Calm inhibit micros sent p → Calm inhibit micros sent (after_sdo subject p micros side frame)
unfolding channel_heard exchange_at exchange_in exchange_noted
sdo_calm inhibit micros sent subject p side frame shows h =
    let ended : Option Ended = (exchange_at subject p micros side frame).heard.ended in
    let o : Option Ended = shown_beside (hides_end subject p micros ended) ended in
    record {
      known = by_known inhibit (entries_heard p.entries o (dialogue_heard subject.limits.answer p.started p.dialogue micros side frame).asked) side frame
          (asked_known inhibit (entries_ended p.entries o) (dialogue_heard subject.limits.answer p.started p.dialogue micros side frame).asked (ended_known inhibit p.entries o (beside_such (Shown emergency_inhibit_key inhibit) (hides_end subject p micros ended) ended shows) h.known));
      since = h.since;
      fresh = h.fresh;
    }

noted_shows : (inhibit micros : ℕ) (subject : Subject) (p : Progress) (frame : FrameContent) → ShowsAt emergency_inhibit_key inhibit p micros (Sdo Server frame) → ShowsAt emergency_inhibit_key inhibit (answer_noted subject p micros) micros (Sdo Server frame)
unfolding late_noted
noted_shows inhibit micros subject p frame h = h

noted_calm : (inhibit micros : ℕ) (sent : List Sending) (subject : Subject) (p : Progress) → Calm inhibit micros sent p → Calm inhibit micros sent (answer_noted subject p micros)
unfolding late_noted
noted_calm inhibit micros sent subject p h = record { known = h.known; since = h.since; fresh = h.fresh }

command_calm : (inhibit micros : ℕ) (sent : List Sending) (p : Progress) (service : NmtService) (own : Bool) → Calm inhibit micros sent p → Calm inhibit micros sent (after_command p service own micros)
unfolding after_command with_gap
command_calm inhibit micros sent p Start own h = record { known = h.known; since = h.since; fresh = h.fresh }
command_calm inhibit micros sent p Stop own h = record { known = h.known; since = h.since; fresh = h.fresh }
command_calm inhibit micros sent p EnterPreOperational own h = record { known = h.known; since = h.since; fresh = h.fresh }
command_calm inhibit micros sent p ResetNode own h = record { known = tt; since = tt; fresh = h.fresh }
command_calm inhibit micros sent p ResetCommunication own h = record { known = tt; since = tt; fresh = h.fresh }

-- after a frame of the client of another SDO channel nothing is known of it
client_known : (inhibit : ℕ) (entries : Entries) (b : Bool) → IfSome entries.inhibit (λ n. n ≡ inhibit) → IfSome (if b then overwritten entries else entries).inhibit (λ n. n ≡ inhibit)
unfolding overwritten
client_known inhibit entries true h = tt
client_known inhibit entries false h = h

booted_known : (inhibit : ℕ) (subject : Subject) (b : Bool) → KnowsInhibit inhibit subject → IfSome (if b then subject.facts.before else subject.facts.booted).inhibit (λ n. n ≡ inhibit)
booted_known inhibit subject true knows = knows.before
booted_known inhibit subject false knows = knows.booted

quiet_passes : (inhibit micros : ℕ) (sent : List Sending) (subject : Subject) (rows : List Row) (p : Progress) (kind : FrameKind) → is_quiet kind ≡ true → ShowsAt emergency_inhibit_key inhibit p micros kind
    → Calm inhibit micros sent p → Passes inhibit micros sent subject rows p kind
unfolding after_process
quiet_passes inhibit micros sent subject rows p (Command service) is shows h = record { none = refl; calm = command_calm inhibit micros sent p service false h }
quiet_passes inhibit micros sent subject rows p (CommandToAll service) is shows h = record { none = refl; calm = command_calm inhibit micros sent p service subject.facts.starts_itself h }
quiet_passes inhibit micros sent subject rows p (LongCommand service) is shows h = record { none = refl; calm = command_calm inhibit micros sent p service true h }
quiet_passes inhibit micros sent subject rows p (Sdo Server frame) is shows h = record {
  none = refl;
  calm = sdo_calm inhibit micros sent subject (answer_noted subject p micros) Server frame (noted_shows inhibit micros subject p frame shows) (noted_calm inhibit micros sent subject p h);
}
quiet_passes inhibit micros sent subject rows p (Sdo Client frame) is shows h = record { none = refl; calm = sdo_calm inhibit micros sent subject p Client frame shows h }
quiet_passes inhibit micros sent subject rows p (Process id length) is shows h = record { none = refl; calm = record { known = client_known inhibit p.entries (is_of_client subject id) h.known; since = h.since; fresh = h.fresh } }
quiet_passes inhibit micros sent subject rows p Other is shows h = record { none = refl; calm = record { known = h.known; since = h.since; fresh = h.fresh } }
quiet_passes inhibit micros sent subject rows p _ is shows h = absurd (cc)

one : (inhibit micros : ℕ) (sent : List Sending) (subject : Subject) (rows : List Row) (p : Progress) (frame : FrameContent) (kind : FrameKind) → data_kind subject.node frame ≡ kind
    → Passes inhibit micros sent subject rows (begun subject p micros) kind → AllRun inhibit_differences subject rows micros p (frame ∷ []) (Calm inhibit micros sent)
unfolding findings_at progress_with
one inhibit micros sent subject rows p frame kind is h =
    let pass : Passes inhibit micros sent subject rows (begun subject p micros) (data_kind subject.node frame) = subst (λ other. Passes inhibit micros sent subject rows (begun subject p micros) other) (sym is) h in
    (pass.none, pass.calm)

-- frames that show nothing else of 1015:00, none of EMCY or of error control
pub quiets : (inhibit micros : ℕ) (sent : List Sending) (subject : Subject) (rows : List Row) (frames : List FrameContent) (p : Progress) (after : Progress → Type 0) → KnowsInhibit inhibit subject
    → AreWithout (0x80 + subject.node) frames → AreWithout (0x700 + subject.node) frames → Calm inhibit micros sent p → AllShow emergency_inhibit_key inhibit subject micros p frames after
    → AllRun inhibit_differences subject rows micros p frames (λ q. Calm inhibit micros sent q × after q)
quiets inhibit micros sent subject rows [] p after knows emergency control h shows = (h, shows)
quiets inhibit micros sent subject rows (frame ∷ frames) p after knows emergency control h shows =
    let q : Progress = begun subject p micros in
    let kind : FrameKind = data_kind subject.node frame in
    let first : AllRun inhibit_differences subject rows micros p (frame ∷ []) (Calm inhibit micros sent) =
    one inhibit micros sent subject rows p frame kind refl
    (quiet_passes inhibit micros sent subject rows q kind (quiet_kind subject.node frame emergency.0 control.0) shows.0 (begun_calm subject inhibit micros sent p knows h)) in
    (first.0, quiets inhibit micros sent subject rows frames (progress_with subject p micros kind) after knows emergency.1 control.1 first.1 shows.1)

-- ---- the boot-up, and heartbeats

boot_passes : (inhibit micros : ℕ) (sent : List Sending) (subject : Subject) (rows : List Row) (p : Progress) → KnowsInhibit inhibit subject → p.free ≤ micros → Passes inhibit micros sent subject rows p (Control 0)
unfolding booted
boot_passes inhibit micros sent subject rows p knows free = record { none = refl; calm = record { known = booted_known inhibit subject (may_differ subject p) knows; since = tt; fresh = free } }

-- whatever was sent before it
pub boots : (inhibit micros : ℕ) (sent after : List Sending) (subject : Subject) (rows : List Row) (p : Progress) (life : Heartbeat) → state_byte life ≡ 0 → KnowsInhibit inhibit subject → p.free ≤ micros
    → AllRun inhibit_differences subject rows micros p (record { id = 0x700 + subject.node; bytes = heartbeat_bytes life } ∷ []) (Calm inhibit micros after)
boots inhibit micros sent after subject rows p life is knows free =
    one inhibit micros after subject rows p (record { id = 0x700 + subject.node; bytes = heartbeat_bytes life }) (Control (state_byte life)) (life_kind subject.node life)
    (subst (λ byte. Passes inhibit micros after subject rows (begun subject p micros) (Control byte)) (sym is) (boot_passes inhibit micros after subject rows (begun subject p micros) knows (begun_fits subject p micros free)))

control_passes : (inhibit micros byte : ℕ) (sent : List Sending) (subject : Subject) (rows : List Row) (p : Progress) → KnowsInhibit inhibit subject → Calm inhibit micros sent p → Passes inhibit micros sent subject rows p (Control byte)
unfolding booted nmt_frames.after_control
control_passes inhibit micros byte sent subject rows p knows h = record { none = refl; calm = by (byte == 0) _ _ (record { known = booted_known inhibit subject (may_differ subject p) knows; since = tt; fresh = h.fresh }) (record { known = h.known; since = h.since; fresh = h.fresh }) }
  where
    by : (b : Bool) (x y : Progress) → Calm inhibit micros sent x → Calm inhibit micros sent y → Calm inhibit micros sent (if b then x else y)
    by true x y f g = f
    by false x y f g = g

pub lives : (inhibit micros : ℕ) (sent : List Sending) (subject : Subject) (rows : List Row) (p : Progress) (life : Heartbeat) → KnowsInhibit inhibit subject → Calm inhibit micros sent p
    → AllRun inhibit_differences subject rows micros p (record { id = 0x700 + subject.node; bytes = heartbeat_bytes life } ∷ []) (Calm inhibit micros sent)
lives inhibit micros sent subject rows p life knows h =
    one inhibit micros sent subject rows p (record { id = 0x700 + subject.node; bytes = heartbeat_bytes life }) (Control (state_byte life)) (life_kind subject.node life)
    (control_passes inhibit micros (state_byte life) sent subject rows (begun subject p micros) knows (begun_calm subject inhibit micros sent p knows h))

-- ---- an EMCY, where the inhibit time of the one before has elapsed

long_ago : (last micros age n inhibit tolerance drift : ℕ) → last + age * 1000 ≤ micros → n ≡ inhibit → (inhibit + 9) / 10 ≤ age → (n * 100 - tolerance) - drift ≤ micros - last
long_ago last micros age n inhibit tolerance drift past same elapsed =
    let tenfold : inhibit ≤ age * 10 = omega arith in
    omega arith

gap_none : (limits : Limits) (last micros age n inhibit : ℕ) → last + age * 1000 ≤ micros → n ≡ inhibit → (inhibit + 9) / 10 ≤ age → gap_finding limits n (micros - last) ≡ None
gap_none limits last micros age n inhibit past same elapsed =
    by (nat_lt (micros - last) (least_gap limits n)) (le-ltb (micros - last) (least_gap limits n) (long_ago last micros age n inhibit (micros_of limits.tolerance) (drift_of limits (n / 10)) past same elapsed))
  where
    by : (b : Bool) → b ≡ false → (if b then Some (EmergencyInhibit (micros - last) n) else None) ≡ None
    by true h = absurd (cc)
    by false h = refl

head_past : (s : Sending) (sent : List Sending) → list_all is_past (s ∷ sent) ≡ true → in_ms s.inhibit ≤ s.age
head_past s sent over = leb-true (in_ms s.inhibit) s.age (first (is_past s) (list_all is_past sent) over)
  where
    first : (a b : Bool) → (a && b) ≡ true → a ≡ true
    first true b h = refl
    first false b h = absurd (cc)

force_none : (limits : Limits) (last micros age n inhibit : ℕ) (b : Bool) → last + age * 1000 ≤ micros → n ≡ inhibit → (inhibit + 9) / 10 ≤ age → (if b then gap_finding limits n (micros - last) else None) ≡ None
force_none limits last micros age n inhibit true past same elapsed = gap_none limits last micros age n inhibit past same elapsed
force_none limits last micros age n inhibit false past same elapsed = refl

with_none : (limits : Limits) (known shown : Option ℕ) (last micros inhibit : ℕ) (sent : List Sending) → IfSome known (λ n. n ≡ inhibit) → IsSince inhibit micros last sent → list_all is_past sent ≡ true
    → inhibit_with limits known shown last micros ≡ None
with_none limits None shown last micros inhibit sent known since over = refl
with_none limits (Some n) shown last micros inhibit [] known since over = absurd since
with_none limits (Some n) shown last micros inhibit (s ∷ sent) known since over =
    force_none limits last micros s.age n inhibit (is_in_force limits shown last) since.0 known (subst (λ x. in_ms x ≤ s.age) since.1 (head_past s sent over))

inhibit_none : (limits : Limits) (entries : Entries) (emergency : Option ℕ) (micros inhibit : ℕ) (sent : List Sending) → IfSome entries.inhibit (λ n. n ≡ inhibit) → IfSome emergency (λ last. IsSince inhibit micros last sent)
    → list_all is_past sent ≡ true → inhibit_finding limits entries emergency micros ≡ None
unfolding inhibit_finding
inhibit_none limits entries None micros inhibit sent known since over = refl
inhibit_none limits entries (Some last) micros inhibit sent known since over = with_none limits entries.inhibit entries.inhibit_shown last micros inhibit sent known since over

finding_none : (limits : Limits) (entries : Entries) (state : NmtState) (settled waits : Bool) (last : Option ℕ) (micros code register : ℕ) → inhibit_finding limits entries last micros ≡ None
    → only_inhibit (emergency_finding limits entries state settled waits last micros code register) ≡ []
unfolding emergency_finding
finding_none limits entries state settled waits last micros code register h =
    by (not entries.emergencies || is_initialising state) (settled && is_stopped state) (fits_register (waits || may_wait limits entries last) code register) (inhibit_finding limits entries last micros) h
  where
    by : (unknown stopped has : Bool) (f : Option Finding) → f ≡ None → only_inhibit (if unknown then None else (if stopped then Some EmergencyStopped else (if not has then Some (EmergencyRegister code register) else f))) ≡ []
    by true stopped has f h = refl
    by false true has f h = refl
    by false false false f h = refl
    by false false true f h = ap only_inhibit h

restarted_none : (b : Bool) (f : Option Finding) → only_inhibit f ≡ [] → only_inhibit (if b then None else f) ≡ []
restarted_none true f h = refl
restarted_none false f h = h

-- what compare has then: the device sent this one just now
abbrev pub just_now : ℕ → Sending
just_now inhibit = record { age = 0; inhibit = inhibit }

now_since : (inhibit micros : ℕ) (sent : List Sending) (emergency : Option ℕ) → IfSome emergency (λ last. IsSince inhibit micros last sent) → IfSome emergency (λ last. IsSince inhibit micros last (just_now inhibit ∷ sent))
now_since inhibit micros sent None h = tt
now_since inhibit micros [] (Some last) h = absurd h
now_since inhibit micros (s ∷ sent) (Some last) h = (let first : last + s.age * 1000 ≤ micros = h.0 in omega arith, refl)

emergency_passes : (inhibit micros code register : ℕ) (sent : List Sending) (subject : Subject) (rows : List Row) (p : Progress) → list_all is_past sent ≡ true → Calm inhibit micros sent p
    → Passes inhibit micros (just_now inhibit ∷ sent) subject rows p (Emcy code register)
unfolding emergency_findings found after_emergency
emergency_passes inhibit micros code register sent subject rows p over h = record {
  none = restarted_none (is_inhibited frame && is_uncounted subject p micros) frame
      (finding_none subject.limits p.entries (judged_state p.nmt) (steady_when_free subject p) (may_have_waited subject p micros) p.emergency micros code register
      (inhibit_none subject.limits p.entries p.emergency micros inhibit sent h.known h.since over));
  calm = record { known = h.known; since = (let f : p.free ≤ micros = h.fresh in omega arith, refl); fresh = h.fresh };
}
  where
    frame : Option Finding
    frame = emergency_finding subject.limits p.entries (judged_state p.nmt) (steady_when_free subject p) (may_have_waited subject p micros) p.emergency micros code register

odd_passes : (inhibit micros length : ℕ) (sent : List Sending) (subject : Subject) (rows : List Row) (p : Progress) → Calm inhibit micros sent p → Passes inhibit micros (just_now inhibit ∷ sent) subject rows p (OddEmergency length)
unfolding after_emergency
odd_passes inhibit micros length sent subject rows p h = record { none = refl; calm = record { known = h.known; since = (let f : p.free ≤ micros = h.fresh in omega arith, refl); fresh = h.fresh } }

-- on another identifier than compare has for EMCY
other_passes : (inhibit micros : ℕ) (sent : List Sending) (subject : Subject) (rows : List Row) (p : Progress) (kind : FrameKind) → is_quiet kind ≡ true → ShowsAt emergency_inhibit_key inhibit p micros kind
    → Calm inhibit micros sent p → Passes inhibit micros (just_now inhibit ∷ sent) subject rows p kind
other_passes inhibit micros sent subject rows p kind is shows h =
    let now : Calm inhibit micros (just_now inhibit ∷ sent) p = record { known = h.known; since = now_since inhibit micros sent p.emergency h.since; fresh = h.fresh } in
    quiet_passes inhibit micros (just_now inhibit ∷ sent) subject rows p kind is shows now

-- what a frame of EMCY may be
abbrev is_own : FrameKind → Bool
is_own (Emcy code register) = true
is_own (OddEmergency length) = true
is_own kind = is_quiet kind

own_passes : (inhibit micros : ℕ) (sent : List Sending) (subject : Subject) (rows : List Row) (p : Progress) (kind : FrameKind) → is_own kind ≡ true → ShowsAt emergency_inhibit_key inhibit p micros kind
    → list_all is_past sent ≡ true → Calm inhibit micros sent p → Passes inhibit micros (just_now inhibit ∷ sent) subject rows p kind
own_passes inhibit micros sent subject rows p (Emcy code register) is shows over h = emergency_passes inhibit micros code register sent subject rows p over h
own_passes inhibit micros sent subject rows p (OddEmergency length) is shows over h = odd_passes inhibit micros length sent subject rows p h
own_passes inhibit micros sent subject rows p (Command service) is shows over h = other_passes inhibit micros sent subject rows p (Command service) refl shows h
own_passes inhibit micros sent subject rows p (CommandToAll service) is shows over h = other_passes inhibit micros sent subject rows p (CommandToAll service) refl shows h
own_passes inhibit micros sent subject rows p (LongCommand service) is shows over h = other_passes inhibit micros sent subject rows p (LongCommand service) refl shows h
own_passes inhibit micros sent subject rows p (Sdo side frame) is shows over h = other_passes inhibit micros sent subject rows p (Sdo side frame) refl shows h
own_passes inhibit micros sent subject rows p (Process id length) is shows over h = other_passes inhibit micros sent subject rows p (Process id length) refl shows h
own_passes inhibit micros sent subject rows p Other is shows over h = other_passes inhibit micros sent subject rows p Other refl shows h
own_passes inhibit micros sent subject rows p _ is shows over h = absurd (cc)

quiet_own : (kind : FrameKind) → is_quiet kind ≡ true → is_own kind ≡ true
quiet_own (Command service) h = refl
quiet_own (CommandToAll service) h = refl
quiet_own (LongCommand service) h = refl
quiet_own (Sdo side frame) h = refl
quiet_own (Process id length) h = refl
quiet_own Other h = refl
quiet_own _ h = absurd (cc)

own_emergency : (length : ℕ) (o : Option Emergency) → is_own (emergency_with length o) ≡ true
own_emergency length None = refl
own_emergency length (Some emergency) = refl

own_kind : (node : ℕ) (frame : FrameContent) → frame.id ≢ 0x700 + node → is_own (data_kind node frame) ≡ true
own_kind node frame control =
    by (frame.id == 0) (frame.id == 0x80 + node) (frame.id == 0x580 + node) (frame.id == 0x600 + node) (frame.id == 0x700 + node) (ne_eqb frame.id (0x700 + node) control)
  where
    by : (a b c d e : Bool) → e ≡ false
        → is_own (if a then command_kind node frame
        else (if b then emergency_kind frame
        else (if c then Sdo Server frame
        else (if d then Sdo Client frame
        else (if e then control_kind frame else Process frame.id (length_of frame)))))) ≡ true
    by true b c d e r = quiet_own (command_kind node frame) (quiet_command node (long_command_in frame) (nmt_command_in frame))
    by false true c d e r = own_emergency (length_of frame) (emergency_in frame.bytes)
    by false false true d e r = refl
    by false false false true e r = refl
    by false false false false true r = absurd (cc)
    by false false false false false r = refl

pub emergency_runs : (inhibit micros : ℕ) (sent : List Sending) (subject : Subject) (rows : List Row) (frame : FrameContent) (p : Progress) → KnowsInhibit inhibit subject → frame.id ≢ 0x700 + subject.node
    → list_all is_past sent ≡ true → Calm inhibit micros sent p → (after : Progress → Type 0) → AllShow emergency_inhibit_key inhibit subject micros p (frame ∷ []) after
    → AllRun inhibit_differences subject rows micros p (frame ∷ []) (Calm inhibit micros (just_now inhibit ∷ sent))
emergency_runs inhibit micros sent subject rows frame p knows control over h after shows =
    one inhibit micros (just_now inhibit ∷ sent) subject rows p frame (data_kind subject.node frame) refl
    (own_passes inhibit micros sent subject rows (begun subject p micros) (data_kind subject.node frame) (own_kind subject.node frame control) shows.0 over (begun_calm subject inhibit micros sent p knows h))
