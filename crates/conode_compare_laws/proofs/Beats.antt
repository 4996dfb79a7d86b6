-- The heartbeats of a device in its recording, and what compare knows of them.
use Rattle.std.proofs.Common.{◌≡◌, ◌≢◌, ℕ, ◌+◌, ◌*◌, ◌-◌, ◌%◌, ◌<◌, ◌≤◌, Bool, true, false, List, [], ◌∷◌, length, Option, Some, None, refl, sym, ap, ◌∙◌, subst, arith, ◌⊎◌, inl, inr, add-one}
use Rattle.std.specs.Prelude.{if◌then◌else◌, ◌==◌, ◌&&◌, ◌||◌, not, nat_le, nat_lt, is_some, option_map, IfSome}
use Rattle.std.specs.Option.{option_or, option_to_list}
use Rattle.std.proofs.Math.Nat.{mod-eq_of_lt, mod-lt, mod_self, suc-mod}
use Rattle.std.proofs.lemmas.Bool.{eq-eqb, le-leb, ltb-false, ltb-true, ne_eqb, or_parts, or_right}
use Rattle.co_frame.specs.FrameContent.{FrameContent}
use Rattle.co_frame.specs.Emergencies.{emergency_in}
use Rattle.co_frame.specs.Heartbeats.{heartbeat_bytes, state_byte}
use Rattle.co_frame.specs.Nmt.{nmt_command_in}
use Rattle.co_frame.specs.declared.emergency.Emergency.{Emergency}
use Rattle.co_frame.specs.declared.heartbeat.Heartbeat.{Heartbeat}
use Rattle.co_frame.specs.declared.heartbeat.Heartbeat.TheVariants.{BootUp}
use Rattle.co_frame.specs.declared.nmt.NmtCommand.{NmtCommand}
use Rattle.co_frame.specs.declared.nmt.NmtService.{NmtService}
use Rattle.co_frame.specs.declared.nmt.NmtService.TheVariants.{Start, Stop, EnterPreOperational, ResetNode, ResetCommunication}
use Rattle.co_profile.specs.Keys.{producer_key}
use Rattle.co_value.specs.Keys.{same_key}
use Rattle.co_sheet.specs.Content.{Row}
use Rattle.conode_explain_transfers.specs.declared.ended.Ended.{Ended}
use Rattle.conode_explain_transfers.specs.declared.kinds.Side.{Side}
use Rattle.conode_explain_transfers.specs.declared.kinds.Side.TheVariants.{Client, Server}
use Rattle.conode_compare_pdos.specs.declared.pdos.Sighting.{Sighting}
use Rattle.conode_compare_nmt.specs.declared.entries.Entries.{Entries}
use Rattle.conode_compare_nmt.specs.declared.finding.Finding.{Finding}
use Rattle.conode_compare_nmt.specs.declared.finding.Finding.TheVariants.{HeartbeatOff}
use Rattle.conode_compare_nmt.specs.declared.heartbeats.Heartbeats.{Heartbeats}
use Rattle.conode_compare_nmt.specs.declared.heartbeats.Since.TheVariants.{Transfer}
use Rattle.conode_compare_rules.specs.declared.kind.FrameKind.{FrameKind}
use Rattle.conode_compare_rules.specs.declared.kind.FrameKind.TheVariants.{Command, CommandToAll, LongCommand, Control, Emergency as Emcy, OddEmergency, Other, Process, Sdo}
use Rattle.conode_compare_nmt.specs.declared.limits.Limits.{Limits}
use Rattle.conode_compare_nmt.specs.declared.limits.Subject.{Subject}
use Rattle.conode_compare_rules.specs.declared.progress.Progress.{Progress}
use Rattle.conode_compare_rules.specs.FrameKinds.{command_kind, command_to, control_kind, data_kind, emergency_kind, emergency_with, length_of, long_command_in}
use Rattle.conode_compare_rules.specs.Answers.{confirmed_finding}
use Rattle.conode_compare_nmt.specs.EntriesInForce.{asked_by, asked_to_write, done_word, overwritten, shown_inhibit, shown_period, with_inhibit, with_period}
use Rattle.conode_compare_nmt.specs.OtherClients.{is_channel}
use Rattle.conode_compare_nmt.specs.Heartbeats.{after_transfer, allowance, follows_closely, is_disabled, is_gap, is_zero, late_finding, late_since, overdue_by, overdue_for, overdue_since, overdue_with, runs_still, sent_after}
use Rattle.conode_compare_rules.specs.NmtFrames as nmt_frames
use Rattle.conode_compare_rules.specs.Gaps.{anew_after, begins_anew, begun, free_at, with_gap}
use Rattle.conode_compare_rules.specs.NmtFrames.{after_command, booted, comes_again, comes_aside, control_findings, is_missing_at, heartbeat_findings, is_again, late_alone, late_at, late_by, late_coming, may_differ, off_coming}
use Rattle.conode_compare_rules.specs.EmergencyRules.{after_emergency, emergency_findings}
use Rattle.conode_compare_rules.specs.Channels.{after_sdo, answer_findings, answer_noted, channel_heard, confirmed_findings, entries_asked, entries_ended, entries_heard, exchange_at, exchange_noted, late_noted, request_findings, hides_end, shown_beside}
use Rattle.conode_compare_rules.specs.Processes.{after_process, is_of_client, late_by_tpdo, process_findings, sighted, sighting_findings}
use Rattle.conode_compare_rules.specs.Progresses.{after_frame, findings_at, findings_in, progress_with}
use Rattle.conode_compare_nmt.specs.States.{is_guarded_state}
use Rattle.conode_compare_nmt.specs.Times.{drift_of}
use Rattle.conode_compare_transfers.specs.declared.dialogue.Asked.{Asked}
use Rattle.conode_compare_transfers.specs.Dialogues.{asks_to_write, dialogue_heard, exchange_in}
use Rattle.conode_compare_transfers.specs.Breaches.{key_in}
use Rattle.conode_compare_transfers.specs.Times.{micros_of}
use Rattle.conode_compare_rules.specs.Verdicts.{found}
use Rattle.conode_compare_laws.specs.Differences.{late_differences}
use Rattle.conode_compare_laws.specs.Identifiers.{AreWithout}
use Rattle.conode_compare_laws.specs.Periods.{KnowsPeriod}
use Rattle.conode_compare_laws.proofs.LongCommands.{long_such}
use Rattle.conode_compare_laws.proofs.NamedKeys.{beside_such}
use Rattle.conode_compare_laws.proofs.Frames.{life_kind}
use Rattle.conode_compare_laws.proofs.Runs.{AllRun}
use Rattle.conode_compare_laws.proofs.ShowsWord.{AllShow, Shown, ShowsAt}

-- the last heartbeat, if it is known, came so long ago at most; or the period is 0, and none is sent
abbrev pub IsRecent : ℕ → ℕ → Option ℕ → ℕ → Type 0
IsRecent micros ago since period = (period ≡ 0) ⊎ IfSome since (λ last. micros ≤ last + ago)

-- what compare has of the heartbeats at a time: the bus was free then or before; the period, if it is known; and then the last heartbeat
pub record Beats (period micros ago : ℕ) (p : Progress) : Type 0 where
  pub fresh : IfSome p.newest (λ newest. p.free ≤ newest)
  pub known : IfSome p.entries.period (λ n. n ≡ period)
  pub since : IfSome p.entries.period (IsRecent micros ago p.heartbeats.since)

-- what holds of each number holds where one is known
pub always : {P : ℕ → Type 0} (o : Option ℕ) → ((n : ℕ) → P n) → IfSome o P
always None h = tt
always (Some n) h = h n

under : {P Q : ℕ → Type 0} (o : Option ℕ) → ((n : ℕ) → P n → Q n) → IfSome o P → IfSome o Q
under None f h = tt
under (Some n) f h = f n h

-- of the last heartbeat alone
recent : (micros last ago after : ℕ) (since next : Option ℕ) → (IfSome since (λ s. last ≤ s + ago) → IfSome next (λ s. micros ≤ s + after)) → (n : ℕ) → IsRecent last ago since n → IsRecent micros after next n
recent micros last ago after since next f n (inl zero) = inl zero
recent micros last ago after since next f n (inr h) = inr (f h)

-- where the period isn't known, it and the last heartbeat may be any
pub unknown_beats : (period next micros ago after : ℕ) (p : Progress) → IfSome p.entries.period (λ n. ⊥) → Beats period micros ago p → Beats next micros after p
unknown_beats period next micros ago after p none h = record { fresh = h.fresh; known = by (λ n. n ≡ next) p.entries.period none; since = by (IsRecent micros after p.heartbeats.since) p.entries.period none }
  where
    by : (P : ℕ → Type 0) (o : Option ℕ) → IfSome o (λ n. ⊥) → IfSome o P
    by P None none = tt
    by P (Some n) none = absurd none

later_since : (since : Option ℕ) (last now ago more : ℕ) → now ≤ last + more → IfSome since (λ s. last ≤ s + ago) → IfSome since (λ s. now ≤ s + (ago + more))
later_since None last now ago more less h = tt
later_since (Some s) last now ago more less h = omega arith

pub later : (period last now ago more : ℕ) (p : Progress) → now ≤ last + more → Beats period last ago p → Beats period now (ago + more) p
later period last now ago more p less h = record { fresh = h.fresh; known = h.known; since = under p.entries.period (recent now last ago (ago + more) p.heartbeats.since p.heartbeats.since (later_since p.heartbeats.since last now ago more less)) h.since }

more_since : (since : Option ℕ) (micros ago more : ℕ) → ago ≤ more → IfSome since (λ s. micros ≤ s + ago) → IfSome since (λ s. micros ≤ s + more)
more_since None micros ago more less h = tt
more_since (Some s) micros ago more less h = omega arith

pub more_ago : (period micros ago more : ℕ) (p : Progress) → ago ≤ more → Beats period micros ago p → Beats period micros more p
more_ago period micros ago more p less h = record { fresh = h.fresh; known = h.known; since = under p.entries.period (recent micros micros ago more p.heartbeats.since p.heartbeats.since (more_since p.heartbeats.since micros ago more less)) h.since }

-- of a period of 0 any time may be said
pub zero_beats : (period micros ago after : ℕ) (p : Progress) → period ≡ 0 → Beats period micros ago p → Beats period micros after p
zero_beats period micros ago after p zero h = record { fresh = h.fresh; known = h.known; since = under p.entries.period (λ n is. inl (is ∙ zero)) h.known }

-- ---- a recording that begins anew at a frame

-- the frame is the newest, and the bus wasn't free after it
record Begun (period micros ago : ℕ) (p : Progress) : Type 0 where
  free : p.free ≤ micros
  newest : p.newest ≡ Some micros
  known : IfSome p.entries.period (λ n. n ≡ period)
  since : IfSome p.entries.period (IsRecent micros ago p.heartbeats.since)

closely : (b : Bool) (free newest micros : ℕ) → free ≤ newest → newest ≤ micros → (if b then free else micros) ≤ micros
closely true free newest micros f n = omega arith
closely false free newest micros f n = omega arith

free_fits : (newest : Option ℕ) (free micros : ℕ) (limits : Limits) (period : Option ℕ) → IfSome newest (λ n. free ≤ n) → anew_after limits period newest micros ≡ false → free_at newest free micros ≤ micros
free_fits None free micros limits period h off = absurd (cc)
free_fits (Some n) free micros limits period h off = closely (follows_closely n micros) free n micros h (ltb-false micros n (or_parts (nat_lt micros n) (is_gap limits period n micros) off).0)

-- by the data sheet nothing is known of 1017:00 before a boot-up, or this
abbrev pub KnowsBefore : ℕ → Subject → Type 0
KnowsBefore period subject = IfSome subject.facts.before.period (λ n. n ≡ period)

begun_beats : (subject : Subject) (period micros ago : ℕ) (p : Progress) → KnowsBefore period subject → Beats period micros ago p → Begun period micros ago (begun subject p micros)
unfolding begun
begun_beats subject period micros ago p knows h = by (begins_anew subject.limits p micros) refl _ _
    (record { free = omega arith; newest = refl; known = knows; since = always subject.facts.before.period (λ n. inr tt) })
    (λ off. record { free = free_fits p.newest p.free micros subject.limits p.entries.period h.fresh off; newest = refl; known = h.known; since = h.since })
  where
    by : (b : Bool) → begins_anew subject.limits p micros ≡ b → (x y : Progress) → Begun period micros ago x → (begins_anew subject.limits p micros ≡ false → Begun period micros ago y) → Begun period micros ago (if b then x else y)
    by true is x y f g = f
    by false is x y f g = g is

ended : (period micros ago : ℕ) (p : Progress) → Begun period micros ago p → Beats period micros ago p
ended period micros ago p h = record { fresh = subst (λ n. IfSome n (λ newest. p.free ≤ newest)) (sym h.newest) h.free; known = h.known; since = h.since }

-- ---- a heartbeat that is late

far_below : (a b c d : ℕ) → a ≤ b → a ≤ b + c + d
far_below a b c d less = omega arith

not_long : (n since free micros period ago : ℕ) → n ≡ period → ago ≤ period * 1000 → free ≤ micros → micros ≤ since + ago → free - since ≤ n * 1000
not_long n since free micros period ago same few bus last = omega arith

within : (limits : Limits) (n since free micros period ago : ℕ) → n ≡ period → (period ≡ 0) ⊎ (ago ≤ period * 1000) → free ≤ micros → micros ≤ since + ago → ((n == 0) || nat_le (free - since) (allowance limits n)) ≡ true
within limits n since free micros period ago same (inl none) bus last = rw (eq-eqb n 0 (same ∙ none)) refl
within limits n since free micros period ago same (inr few) bus last =
    or_right (n == 0) (nat_le (free - since) (allowance limits n))
    (le-leb (free - since) (allowance limits n) (far_below (free - since) (micros_of n) (micros_of limits.tolerance) (drift_of limits n) (not_long n since free micros period ago same few bus last)))

in_time : (limits : Limits) (guarded : Bool) (n since free micros period ago : ℕ) → n ≡ period → (period ≡ 0) ⊎ (ago ≤ period * 1000) → free ≤ micros → micros ≤ since + ago → overdue_for limits guarded n since free micros ≡ None
in_time limits guarded n since free micros period ago same few bus last =
    by (micros - since, n) guarded ((n == 0) || nat_le (free - since) (allowance limits n)) (within limits n since free micros period ago same few bus last)
  where
    by : (late : ℕ × ℕ) (a b : Bool) → b ≡ true → (if a || b then None else Some late) ≡ None
    by late true b h = refl
    by late false true h = refl
    by late false false h = absurd (cc)

-- with a period of 0 none is sent
never : (limits : Limits) (guarded : Bool) (n since free micros : ℕ) → n ≡ 0 → overdue_for limits guarded n since free micros ≡ None
never limits guarded n since free micros zero = by (micros - since, n) guarded (n == 0) (nat_le (free - since) (allowance limits n)) (eq-eqb n 0 zero)
  where
    by : (late : ℕ × ℕ) (a b c : Bool) → b ≡ true → (if a || (b || c) then None else Some late) ≡ None
    by late true b c h = refl
    by late false true c h = refl
    by late false false c h = absurd (cc)

none_since : (limits : Limits) (guarded : Bool) (n : ℕ) (since : Option ℕ) (free micros period ago : ℕ) → n ≡ period → (period ≡ 0) ⊎ (ago ≤ period * 1000) → free ≤ micros → IsRecent micros ago since n
    → overdue_since limits guarded n since free micros ≡ None
none_since limits guarded n None free micros period ago same few bus last = refl
none_since limits guarded n (Some since) free micros period ago same few bus (inl zero) = never limits guarded n since free micros zero
none_since limits guarded n (Some since) free micros period ago same few bus (inr last) = in_time limits guarded n since free micros period ago same few bus last

none_with : (limits : Limits) (known : Option ℕ) (p : Progress) (micros period ago : ℕ) → IfSome known (λ n. n ≡ period) → IfSome known (IsRecent micros ago p.heartbeats.since) → (period ≡ 0) ⊎ (ago ≤ period * 1000) → p.free ≤ micros
    → overdue_with limits known p.heartbeats p.free micros ≡ None
none_with limits None p micros period ago same since few free = refl
none_with limits (Some n) p micros period ago same since few free = none_since limits p.heartbeats.guarded n p.heartbeats.since p.free micros period ago same few free since

none_alone : (subject : Subject) (p : Progress) (micros period ago : ℕ) → (period ≡ 0) ⊎ (ago ≤ period * 1000) → Begun period micros ago p → late_alone subject p micros ≡ None
unfolding late_finding overdue_by
none_alone subject p micros period ago few h =
    ap (λ o. option_map (late_since p.heartbeats.awaited) o) (by (runs_still subject.limits p.heartbeats.former p.heartbeats.answered p.free))
  where
    by : (b : Bool) → (if b then None else overdue_with subject.limits p.entries.period p.heartbeats p.free micros) ≡ None
    by true = refl
    by false = none_with subject.limits p.entries.period p micros period ago h.known h.since few h.free

unless_again : (again : Bool) (late : Option Finding) → late ≡ None → (if again then None else late) ≡ None
unless_again true late none = refl
unless_again false late none = none

-- whether the last one was late, too, or not
none_late : (subject : Subject) (p : Progress) (micros period ago : ℕ) → (period ≡ 0) ⊎ (ago ≤ period * 1000) → Begun period micros ago p → late_at subject p micros ≡ None
none_late subject p micros period ago few h = unless_again (is_again subject p) (late_alone subject p micros) (none_alone subject p micros period ago few h)

none_coming : (subject : Subject) (p : Progress) (micros period ago : ℕ) → (period ≡ 0) ⊎ (ago ≤ period * 1000) → Begun period micros ago p → late_coming subject p micros ≡ None
none_coming subject p micros period ago few h = unless_again (comes_again subject p) (late_alone subject p micros) (none_alone subject p micros period ago few h)

-- ---- a heartbeat though 1017:00 has 0

apart : (n period : ℕ) → 0 < period → n ≡ period → n ≢ 0
apart n period some same = λ none. omega arith

not_zero : (known : Option ℕ) (period : ℕ) → 0 < period → IfSome known (λ n. n ≡ period) → is_zero known ≡ false
not_zero None period some same = refl
not_zero (Some n) period some same = ne_eqb n 0 (apart n period some same)

-- where the period isn't 0 none is found
none_off : (subject : Subject) (p : Progress) (micros byte period : ℕ) → 0 < period → IfSome p.entries.period (λ n. n ≡ period) → off_coming subject p micros byte ≡ None
none_off subject p micros byte period some known =
    by (is_zero p.entries.period) (is_disabled p.heartbeats.awaited) (not (p.heartbeats.guarded || (is_guarded_state byte || comes_aside subject p micros byte))) (not_zero p.entries.period period some known)
  where
    by : (a b c : Bool) → a ≡ false → (if (a && b) && c then Some HeartbeatOff else None) ≡ None
    by true b c off = absurd (cc)
    by false b c off = refl

neither : (late off : Option Finding) → late ≡ None → off ≡ None → option_or late off ≡ None
neither late off none nothing = ap (λ o. option_or o off) none ∙ nothing

-- ---- one frame

-- no heartbeat is late at it, and what compare has then
pub record Passes (subject : Subject) (rows : List Row) (p : Progress) (micros : ℕ) (kind : FrameKind) (period ago : ℕ) : Type 0 where
  pub none : late_differences kind (findings_in subject rows p micros kind) ≡ []
  pub beats : Beats period micros ago (after_frame subject p micros kind)

-- ---- a frame of the default SDO channel: a transfer of 1017:00 that ends with it shows the period, or nothing

shown_right : (period : ℕ) (e : Ended) → Shown producer_key period e → IfSome (shown_period e) (λ n. n ≡ period)
unfolding shown_period
shown_right period e h = by (same_key e.key producer_key) h
  where
    by : (b : Bool) → (b ≡ true → IfSome (done_word e.protocol e.ending e.first.items) (λ n. n ≡ period)) → IfSome (if b then done_word e.protocol e.ending e.first.items else None) (λ n. n ≡ period)
    by true f = f refl
    by false f = tt

-- what holds of the period, if it is known, holds after a transfer that ended, by which it is known then, or as before
pub ended_such : (P : ℕ → Type 0) (entries : Entries) (o : Option Ended) → IfSome o (λ e. IfSome (shown_period e) P) → IfSome entries.period P → IfSome (entries_ended entries o).period P
ended_such P entries None shows h = h
ended_such P entries (Some e) shows h = inhibit (shown_inhibit e) (with_shown (shown_period e) shows)
  where
    with_shown : (shown : Option ℕ) → IfSome shown P → IfSome (with_period entries shown).period P
    with_shown None g = h
    with_shown (Some n) g = g

    inhibit : (shown : Option ℕ) → IfSome (with_period entries (shown_period e)).period P → IfSome (with_inhibit (with_period entries (shown_period e)) shown e.end).period P
    inhibit None g = g
    inhibit (Some time) g = g

-- or it isn't any more, after a request to write it
pub asked_such : (P : ℕ → Type 0) (entries : Entries) (o : Option Asked) → IfSome entries.period P → IfSome (entries_asked entries o).period P
unfolding asked_to_write
asked_such P entries None h = h
asked_such P entries (Some asked) h = by asked.writes (asked_to_write entries asked.key) (forgets (same_key asked.key producer_key || is_channel asked.key))
  where
    forgets : (b : Bool) → IfSome (if b then None else entries.period) P
    forgets true = tt
    forgets false = h

    by : (b : Bool) (x : Entries) → IfSome x.period P → IfSome (if b then x else entries).period P
    by true x g = g
    by false x g = h

-- whatever such a request is to explain
pub by_such : (P : ℕ → Type 0) (entries : Entries) (side : Side) (frame : FrameContent) → IfSome entries.period P → IfSome (asked_by side frame entries).period P
unfolding asked_to_write
by_such P entries Server frame h = h
by_such P entries Client frame h = by (asks_to_write frame) (forgets (same_key (key_in frame) producer_key || is_channel (key_in frame)))
  where
    forgets : (b : Bool) → IfSome (if b then None else entries.period) P
    forgets true = tt
    forgets false = h

    by : (b : Bool) → IfSome (asked_to_write entries (key_in frame)).period P → IfSome (if b then asked_to_write entries (key_in frame) else entries).period P
    by true g = g
    by false g = h

-- or after a frame of the client of another SDO channel
pub client_such : (P : ℕ → Type 0) (entries : Entries) (b : Bool) → IfSome entries.period P → IfSome (if b then overwritten entries else entries).period P
unfolding overwritten
client_such P entries true h = tt
client_such P entries false h = h

booted_known : (period : ℕ) (subject : Subject) (b : Bool) → KnowsPeriod period subject → IfSome (if b then subject.facts.before else subject.facts.booted).period (λ n. n ≡ period)
booted_known period subject true knows = knows.before
booted_known period subject false knows = knows.booted

-- the last heartbeat is as before, or counts from now
ended_since : (beats : Heartbeats) (o : Option Ended) (micros ago : ℕ) → IfSome beats.since (λ last. micros ≤ last + ago) → IfSome (after_transfer beats o micros).since (λ last. micros ≤ last + ago)
ended_since beats None micros ago h = h
ended_since beats (Some e) micros ago h = by (is_some (shown_period e))
  where
    by : (b : Bool) → IfSome (if b then record beats { since = Some micros; awaited = Transfer; sent = sent_after e.direction e beats.sent; slow = None } else beats).since (λ last. micros ≤ last + ago)
    by true = omega arith
    by false = h

-- from now, where the transfer shows the period
shown_since : (other : Bool) (beats : Heartbeats) (o : Option Ended) (micros ago : ℕ) → IfSome (shown_beside other o) (λ e. IfSome (shown_period e) (IsRecent micros ago (after_transfer beats o micros).since))
shown_since true beats o micros ago = tt
shown_since false beats None micros ago = tt
shown_since false beats (Some e) micros ago = by (shown_period e)
  where
    by : (shown : Option ℕ) → IfSome shown (IsRecent micros ago (if is_some shown then record beats { since = Some micros; awaited = Transfer; sent = sent_after e.direction e beats.sent; slow = None } else beats).since)
    by None = tt
    by (Some n) = inr (omega arith)

pub right_shown : (period : ℕ) (o : Option Ended) → IfSome o (Shown producer_key period) → IfSome o (λ e. IfSome (shown_period e) (λ n. n ≡ period))
right_shown period None h = tt
right_shown period (Some e) h = shown_right period e h

-- after a frame of the channel
pub sdo_such : (P : ℕ → Type 0) (subject : Subject) (p : Progress) (micros : ℕ) (side : Side) (frame : FrameContent) → IfSome (shown_beside (hides_end subject p micros (exchange_at subject p micros side frame).heard.ended) (exchange_at subject p micros side frame).heard.ended) (λ e. IfSome (shown_period e) P)
    → IfSome p.entries.period P → IfSome (after_sdo subject p micros side frame).entries.period P
unfolding channel_heard exchange_noted
sdo_such P subject p micros side frame shows h =
    let e : Option Ended = (exchange_at subject p micros side frame).heard.ended in
    let o : Option Ended = shown_beside (hides_end subject p micros e) e in
    let asked : Option Asked = (dialogue_heard subject.limits.answer p.started p.dialogue micros side frame).asked in
    by_such P (entries_heard p.entries o asked) side frame (asked_such P (entries_ended p.entries o) asked (ended_such P p.entries o shows h))

sdo_begun : (subject : Subject) (p : Progress) (micros : ℕ) (side : Side) (frame : FrameContent) (period ago : ℕ) → ShowsAt producer_key period p micros (Sdo side frame) → Begun period micros ago p
    → Begun period micros ago (after_sdo subject p micros side frame)
unfolding channel_heard exchange_at exchange_in exchange_noted
sdo_begun subject p micros side frame period ago shows h =
    let ended : Option Ended = (exchange_at subject p micros side frame).heard.ended in
    record {
      free = h.free;
      newest = h.newest;
      known = sdo_such (λ n. n ≡ period) subject p micros side frame
          (right_shown period (shown_beside (hides_end subject p micros ended) ended) (beside_such (Shown producer_key period) (hides_end subject p micros ended) ended shows)) h.known;
      since = sdo_such (IsRecent micros ago (after_transfer p.heartbeats ended micros).since) subject p micros side frame
          (shown_since (hides_end subject p micros ended) p.heartbeats ended micros ago)
          (under p.entries.period (recent micros micros ago ago p.heartbeats.since (after_transfer p.heartbeats ended micros).since (ended_since p.heartbeats ended micros ago)) h.since);
    }

pub noted_shows : (subject : Subject) (p : Progress) (micros : ℕ) (frame : FrameContent) (period : ℕ) → ShowsAt producer_key period p micros (Sdo Server frame) → ShowsAt producer_key period (answer_noted subject p micros) micros (Sdo Server frame)
unfolding late_noted
noted_shows subject p micros frame period h = h

noted_begun : (subject : Subject) (p : Progress) (micros period ago : ℕ) → Begun period micros ago p → Begun period micros ago (answer_noted subject p micros)
unfolding late_noted
noted_begun subject p micros period ago h = record { free = h.free; newest = h.newest; known = h.known; since = under p.entries.period (recent micros micros ago ago p.heartbeats.since (if is_some (late_by subject p true micros) then None else p.heartbeats.since) (by (is_some (late_by subject p true micros)))) h.since }
  where
    by : (b : Bool) → IfSome p.heartbeats.since (λ last. micros ≤ last + ago) → IfSome (if b then None else p.heartbeats.since) (λ last. micros ≤ last + ago)
    by true g = tt
    by false g = g

-- by an answer, an EMCY or a TPDO none is late either
none_by : (subject : Subject) (p : Progress) (own : Bool) (micros period ago : ℕ) → (period ≡ 0) ⊎ (ago ≤ period * 1000) → Begun period micros ago p → late_by subject p own micros ≡ None
none_by subject p own micros period ago few h = by (own && is_missing_at subject p)
  where
    by : (b : Bool) → (if b then late_at subject p micros else None) ≡ None
    by true = none_late subject p micros period ago few h
    by false = refl

answer_passes : (subject : Subject) (rows : List Row) (p : Progress) (micros : ℕ) (frame : FrameContent) (period ago : ℕ) → (period ≡ 0) ⊎ (ago ≤ period * 1000) → ShowsAt producer_key period p micros (Sdo Server frame) → Begun period micros ago p
    → Passes subject rows p micros (Sdo Server frame) period ago
unfolding answer_findings found
answer_passes subject rows p micros frame period ago few shows h = record {
  none = ap (λ o. option_to_list o) (none_by subject p true micros period ago few h);
  beats = ended period micros ago (after_sdo subject (answer_noted subject p micros) micros Server frame)
      (sdo_begun subject (answer_noted subject p micros) micros Server frame period ago (noted_shows subject p micros frame period shows) (noted_begun subject p micros period ago h));
}

confirmed_none : (frame : FrameContent) (o : Option Finding) → late_differences (Sdo Client frame) (confirmed_findings o) ≡ []
unfolding found
confirmed_none frame None = refl
confirmed_none frame (Some finding) = refl

request_passes : (subject : Subject) (rows : List Row) (p : Progress) (micros : ℕ) (frame : FrameContent) (period ago : ℕ) → ShowsAt producer_key period p micros (Sdo Client frame) → Begun period micros ago p
    → Passes subject rows p micros (Sdo Client frame) period ago
unfolding request_findings
request_passes subject rows p micros frame period ago shows h = record {
  none = confirmed_none frame (confirmed_finding subject rows p.written (exchange_at subject p micros Client frame) frame);
  beats = ended period micros ago (after_sdo subject p micros Client frame) (sdo_begun subject p micros Client frame period ago shows h);
}

-- ---- frames that aren't of error control

abbrev pub is_other : FrameKind → Bool
is_other (Command service) = true
is_other (CommandToAll service) = true
is_other (LongCommand service) = true
is_other (Emcy code register) = true
is_other (OddEmergency length) = true
is_other (Sdo side frame) = true
is_other (Process id length) = true
is_other Other = true
is_other _ = false

command_beats : (p : Progress) (micros period ago : ℕ) (service : NmtService) (own : Bool) → Begun period micros ago p → Beats period micros ago (after_command p service own micros)
unfolding after_command with_gap
command_beats p micros period ago Start own h = (let e : Beats period micros ago p = ended period micros ago p h in record { fresh = e.fresh; known = e.known; since = e.since })
command_beats p micros period ago Stop own h = (let e : Beats period micros ago p = ended period micros ago p h in record { fresh = e.fresh; known = e.known; since = e.since })
command_beats p micros period ago EnterPreOperational own h = (let e : Beats period micros ago p = ended period micros ago p h in record { fresh = e.fresh; known = e.known; since = e.since })
command_beats p micros period ago ResetNode own h = (let e : Beats period micros ago p = ended period micros ago p h in record { fresh = e.fresh; known = e.known; since = always p.entries.period (λ n. inr tt) })
command_beats p micros period ago ResetCommunication own h = (let e : Beats period micros ago p = ended period micros ago p h in record { fresh = e.fresh; known = e.known; since = always p.entries.period (λ n. inr tt) })

-- the last heartbeat is as before, or forgotten
said_since : (since : Option ℕ) (late : Bool) (micros ago : ℕ) → IfSome since (λ last. micros ≤ last + ago) → IfSome (if late then None else since) (λ last. micros ≤ last + ago)
said_since since true micros ago h = tt
said_since since false micros ago h = h

said : (subject : Subject) (p : Progress) (late : Bool) (micros ago n : ℕ) → IsRecent micros ago p.heartbeats.since n → IsRecent micros ago (if late then None else p.heartbeats.since) n
said subject p late micros ago n h = recent micros micros ago ago p.heartbeats.since (if late then None else p.heartbeats.since) (said_since p.heartbeats.since late micros ago) n h

sighted_none : (late : Option Finding) (id length : ℕ) (o : Option Sighting) → late ≡ None → late_differences (Process id length) (sighting_findings late o) ≡ []
unfolding found
sighted_none late id length None none = refl
sighted_none late id length (Some sighting) none = ap (λ o. option_to_list o) none

other_passes : (subject : Subject) (rows : List Row) (p : Progress) (micros : ℕ) (kind : FrameKind) (period ago : ℕ) → (period ≡ 0) ⊎ (ago ≤ period * 1000) → is_other kind ≡ true → ShowsAt producer_key period p micros kind → Begun period micros ago p → Passes subject rows p micros kind period ago
unfolding emergency_findings found after_emergency process_findings after_process
other_passes subject rows p micros (Command service) period ago few is shows h = record { none = refl; beats = command_beats p micros period ago service false h }
other_passes subject rows p micros (CommandToAll service) period ago few is shows h = record { none = refl; beats = command_beats p micros period ago service subject.facts.starts_itself h }
other_passes subject rows p micros (LongCommand service) period ago few is shows h = record { none = refl; beats = command_beats p micros period ago service true h }
other_passes subject rows p micros (Emcy code register) period ago few is shows h =
    (let e : Beats period micros ago p = ended period micros ago p h in
    record {
      none = ap (λ o. option_to_list o) (none_by subject p p.entries.emergencies micros period ago few h);
      beats = record { fresh = e.fresh; known = e.known; since = under p.entries.period (said subject p (is_some (late_by subject p p.entries.emergencies micros)) micros ago) e.since };
    })
other_passes subject rows p micros (OddEmergency length) period ago few is shows h =
    (let e : Beats period micros ago p = ended period micros ago p h in record { none = refl; beats = record { fresh = e.fresh; known = e.known; since = e.since } })
other_passes subject rows p micros (Process id length) period ago few is shows h =
    (let e : Beats period micros ago p = ended period micros ago p h in
    record {
      none = sighted_none (late_by_tpdo subject p micros id length) id length (sighted subject p micros id length)
          (none_by subject p (is_some (sighted subject p micros id length)) micros period ago few h);
      beats = record {
        fresh = e.fresh;
        known = client_such (λ n. n ≡ period) p.entries (is_of_client subject id) e.known;
        since = client_such (IsRecent micros ago (if is_some (late_by_tpdo subject p micros id length) then None else p.heartbeats.since)) p.entries (is_of_client subject id)
            (under p.entries.period (said subject p (is_some (late_by_tpdo subject p micros id length)) micros ago) e.since);
      };
    })
other_passes subject rows p micros Other period ago few is shows h =
    (let e : Beats period micros ago p = ended period micros ago p h in record { none = refl; beats = record { fresh = e.fresh; known = e.known; since = e.since } })
other_passes subject rows p micros (Sdo Server frame) period ago few is shows h = answer_passes subject rows p micros frame period ago few shows h
other_passes subject rows p micros (Sdo Client frame) period ago few is shows h = request_passes subject rows p micros frame period ago shows h
other_passes subject rows p micros _ period ago few is shows h = absurd (cc)

-- the boot-up, after which the data sheet says the period; and heartbeats: the next one is awaited from then on
boot_passes : (subject : Subject) (rows : List Row) (p : Progress) (micros period next ago after : ℕ) → KnowsPeriod next subject → Begun period micros ago p → Passes subject rows p micros (Control 0) next after
unfolding found booted
boot_passes subject rows p micros period next ago after knows h =
    (let e : Beats period micros ago p = ended period micros ago p h in record { none = refl; beats = record { fresh = e.fresh; known = booted_known next subject (may_differ subject p) knows; since = always (if may_differ subject p then subject.facts.before else subject.facts.booted).period (λ n. inr (omega arith)) } })

heartbeat_passes : (subject : Subject) (rows : List Row) (p : Progress) (micros byte period ago after : ℕ) → (byte == 0) ≡ false → 0 < period → (period ≡ 0) ⊎ (ago ≤ period * 1000) → Begun period micros ago p
    → Passes subject rows p micros (Control byte) period after
unfolding found control_findings heartbeat_findings nmt_frames.after_control
heartbeat_passes subject rows p micros byte period ago after other some few h =
    (let e : Beats period micros ago p = ended period micros ago p h in
    record {
      none = rw other (ap (λ o. option_to_list o)
          (neither (late_coming subject p micros) (off_coming subject p micros byte) (none_coming subject p micros period ago few h) (none_off subject p micros byte period some h.known)));
      beats = rw other (record { fresh = e.fresh; known = e.known; since = always p.entries.period (λ n. inr (omega arith)) });
    })

-- ---- frames one after another, at one time

one : (subject : Subject) (rows : List Row) (micros : ℕ) (p : Progress) (frame : FrameContent) (kind : FrameKind) (period after : ℕ) → data_kind subject.node frame ≡ kind
    → Passes subject rows (begun subject p micros) micros kind period after → AllRun late_differences subject rows micros p (frame ∷ []) (Beats period micros after)
unfolding findings_at progress_with
one subject rows micros p frame kind period after is h =
    let pass : Passes subject rows (begun subject p micros) micros (data_kind subject.node frame) period after = subst (λ other. Passes subject rows (begun subject p micros) micros other period after) (sym is) h in
    (pass.none, pass.beats)

other_command : (node : ℕ) (long command : Option NmtCommand) → is_other (command_to node long command) ≡ true
other_command node long None = long_such (λ kind. is_other kind ≡ true) node long (λ service. refl) refl
other_command node long (Some command) = by (command.node == 0) (command.node == node)
  where
    by : (a b : Bool) → is_other (if a then CommandToAll command.service else (if b then Command command.service else Other)) ≡ true
    by true b = refl
    by false true = refl
    by false false = refl

other_emergency : (length : ℕ) (o : Option Emergency) → is_other (emergency_with length o) ≡ true
other_emergency length None = refl
other_emergency length (Some emergency) = refl

pub other_kind : (node : ℕ) (frame : FrameContent) → frame.id ≢ 0x700 + node → is_other (data_kind node frame) ≡ true
other_kind node frame h =
    by (frame.id == 0) (frame.id == 0x80 + node) (frame.id == 0x580 + node) (frame.id == 0x600 + node) (frame.id == 0x700 + node) (ne_eqb frame.id (0x700 + node) h)
  where
    by : (a b c d e : Bool) → e ≡ false
        → is_other (if a then command_kind node frame
        else (if b then emergency_kind frame
        else (if c then Sdo Server frame
        else (if d then Sdo Client frame
        else (if e then control_kind frame else Process frame.id (length_of frame)))))) ≡ true
    by true b c d e r = other_command node (long_command_in frame) (nmt_command_in frame)
    by false true c d e r = other_emergency (length_of frame) (emergency_in frame.bytes)
    by false false true d e r = refl
    by false false false true e r = refl
    by false false false false true r = absurd (cc)
    by false false false false false r = refl

-- frames that show nothing else of 1017:00, none of error control
pub all_others : (subject : Subject) (rows : List Row) (micros : ℕ) (frames : List FrameContent) (p : Progress) (period ago : ℕ) (after : Progress → Type 0) → KnowsBefore period subject → (period ≡ 0) ⊎ (ago ≤ period * 1000)
    → AreWithout (0x700 + subject.node) frames → Beats period micros ago p → AllShow producer_key period subject micros p frames after
    → AllRun late_differences subject rows micros p frames (λ q. Beats period micros ago q × after q)
all_others subject rows micros [] p period ago after knows few without h shows = (h, shows)
all_others subject rows micros (frame ∷ later) p period ago after knows few without h shows =
    let q : Progress = begun subject p micros in
    let kind : FrameKind = data_kind subject.node frame in
    let first : AllRun late_differences subject rows micros p (frame ∷ []) (Beats period micros ago) =
    one subject rows micros p frame kind period ago refl
    (other_passes subject rows q micros kind period ago few (other_kind subject.node frame without.0) shows.0 (begun_beats subject period micros ago p knows h)) in
    (first.0, all_others subject rows micros later (progress_with subject p micros kind) period ago after knows few without.1 first.1 shows.1)

-- a heartbeat of the device: from then on so much may pass
pub beat_runs : (subject : Subject) (rows : List Row) (micros : ℕ) (p : Progress) (life : Heartbeat) (period ago after : ℕ) → KnowsBefore period subject → (state_byte life == 0) ≡ false → 0 < period → (period ≡ 0) ⊎ (ago ≤ period * 1000)
    → Beats period micros ago p → AllRun late_differences subject rows micros p (record { id = 0x700 + subject.node; bytes = heartbeat_bytes life } ∷ []) (Beats period micros after)
beat_runs subject rows micros p life period ago after knows other some few h =
    one subject rows micros p (record { id = 0x700 + subject.node; bytes = heartbeat_bytes life }) (Control (state_byte life)) period after (life_kind subject.node life)
    (heartbeat_passes subject rows (begun subject p micros) micros (state_byte life) period ago after other some few (begun_beats subject period micros ago p knows h))

-- its boot-up: from then on it has the period that it begins with
pub boot_runs : (subject : Subject) (rows : List Row) (micros : ℕ) (p : Progress) (period next ago after : ℕ) → KnowsBefore period subject → KnowsPeriod next subject → Beats period micros ago p
    → AllRun late_differences subject rows micros p (record { id = 0x700 + subject.node; bytes = heartbeat_bytes BootUp } ∷ []) (Beats next micros after)
boot_runs subject rows micros p period next ago after knows boots h =
    one subject rows micros p (record { id = 0x700 + subject.node; bytes = heartbeat_bytes BootUp }) (Control (state_byte BootUp)) next after (life_kind subject.node BootUp)
    (boot_passes subject rows (begun subject p micros) micros period next ago after boots (begun_beats subject period micros ago p knows h))

-- ---- counting ticks

-- one more tick is a multiple of the period, or one more than the rest before
pub next_rest : (n period : ℕ) → 0 < period → (((n + 1) % period == 0) ≡ true) ⊎ ((n + 1) % period ≡ n % period + 1)
next_rest n period some = by (nat_lt (n % period + 1) period) refl
  where
    stepped : (n + 1) % period ≡ (n % period + 1) % period
    stepped = rw (add-one n, add-one (n % period)) (suc-mod n period)

    by : (b : Bool) → nat_lt (n % period + 1) period ≡ b → (((n + 1) % period == 0) ≡ true) ⊎ ((n + 1) % period ≡ n % period + 1)
    by true is = inr (stepped ∙ mod-eq_of_lt (ltb-true (n % period + 1) period is))
    by false is =
        let full : n % period + 1 ≡ period = omega (arith, mod-lt n some, ltb-false (n % period + 1) period is) in
        let none : (n + 1) % period ≡ 0 = stepped ∙ ap (λ x. x % period) full ∙ mod_self period in
        inl (ap (λ x. x == 0) none)
