-- The begin of a recording, and gaps in it: where the recorder may have missed frames.
use Rattle.std.specs.Prelude.{ℕ, nat_lt, Bool, true, false, not, ◌&&◌, ◌||◌, if◌then◌else◌, Option, Some, None, is_some, option_map, unwrap_or}
use Rattle.std.specs.Option.{option_map_or, option_or}
use Rattle.conode_compare_pdos.specs.declared.pdos.Pdos.{Pdos}
use Rattle.conode_compare_pdos.specs.Followed as tpdos
use Rattle.conode_compare_rules.specs.declared.progress.Progress.{Progress}
use Rattle.conode_compare_transfers.specs.declared.dialogue.Dialogue.{Dialogue}
use Rattle.conode_compare_nmt.specs.declared.heartbeats.Since.TheVariants.{Heartbeat}
use Rattle.conode_compare_nmt.specs.declared.limits.Limits.{Limits}
use Rattle.conode_compare_nmt.specs.declared.limits.Subject.{Subject}
use Rattle.conode_compare_nmt.specs.declared.nmt.Nmt.{Nmt}
use Rattle.conode_compare_transfers.specs.Dialogues.{interrupted, nothing_asked}
use Rattle.conode_compare_values.specs.HeldNumbers.{nothing_written}
use Rattle.conode_compare_nmt.specs.OtherClients.{has_clients}
use Rattle.conode_compare_nmt.specs.Heartbeats.{follows_closely, former_asked, longest_period, no_heartbeat, is_gap}
use Rattle.conode_compare_nmt.specs.States.{at_begin, nothing_commanded}
use Rattle.conode_compare_transfers.specs.Times.{is_past}

abbrev pub before_recording : Subject → Progress
before_recording subject = record {
  newest = None;
  earlier = None;
  started = 0;
  begins = false;
  damaged = None;
  free = 0;
  nmt = nothing_commanded;
  heartbeats = no_heartbeat;
  entries = subject.facts.before;
  emergency = None;
  dialogue = nothing_asked;
  pdos = tpdos.unknown_pdos;
  other_client = false;
  asked_at = None;
  written = nothing_written;
  exchange = None;
  wrong = false;
  remark = None;
}

-- a recording begins anew at its first frame, where a stamp steps back, and where the recorder may
-- have rested
abbrev pub anew_after : Limits → Option ℕ → Option ℕ → ℕ → Bool
anew_after limits period None micros = true
anew_after limits period (Some newest) micros = nat_lt micros newest || is_gap limits period newest micros

abbrev pub begins_anew : Limits → Progress → ℕ → Bool
begins_anew limits progress micros = anew_after limits progress.entries.period progress.newest micros

-- nothing was recorded for longer than an answer may take: the recorder may have missed it
abbrev pub was_quiet : Limits → Progress → ℕ → Bool
was_quiet limits progress micros = option_map_or (λ newest. is_past newest limits.answer micros) progress.newest false

-- a frame comes later than the newest one
abbrev pub is_later : Option ℕ → ℕ → Bool
is_later newest micros = option_map_or (λ newest. nat_lt newest micros) newest false

-- the newest stamp before that of the frame
abbrev pub earlier_at : Progress → ℕ → Option ℕ
earlier_at progress micros = if is_later progress.newest micros then progress.newest else progress.earlier

-- Then no request is known. Nor is one after a wrong answer, which was said: with the next frame, where that comes later, its
-- transfer isn't followed any more.
abbrev pub breaks_off : Limits → Progress → ℕ → Bool
breaks_off limits progress micros = was_quiet limits progress micros || (progress.wrong && is_later progress.newest micros)

abbrev pub with_quiet : Limits → Progress → ℕ → Dialogue
with_quiet limits progress micros = if breaks_off limits progress micros then interrupted progress.dialogue micros else progress.dialogue

-- when the bus was free last: before the first of the frames that follow one another closely
abbrev pub free_at : Option ℕ → ℕ → ℕ → ℕ
free_at None free micros = micros
free_at (Some newest) free micros = if follows_closely newest micros then free else micros

abbrev pub pdos_with_quiet : Limits → Progress → ℕ → Pdos
pdos_with_quiet limits progress micros = if was_quiet limits progress micros then tpdos.interrupted progress.pdos else progress.pdos

-- an answer that may take long is awaited all the same, and a sub-block may still be open
abbrev pub still_awaited : Dialogue → ℕ → Dialogue
still_awaited dialogue micros = record nothing_asked { slow = (interrupted dialogue micros).slow; sub_block = (interrupted dialogue micros).sub_block }

-- A bad line may have had a frame of any client: of another SDO channel's too, and a request to write.
abbrev pub client_since : Subject → Progress → Bool
client_since subject progress = progress.other_client || (is_some progress.damaged && has_clients subject.facts.clients)

abbrev pub asked_since : Progress → ℕ → Option ℕ
asked_since progress micros = if is_some progress.damaged then Some micros else None

-- The newest command is forgotten, or that it began anew: no longer ago than a device takes to boot up. A stamp that
-- steps back counts as one of now.
abbrev pub recent : Limits → Option ℕ → ℕ → Option ℕ
recent limits None micros = None
recent limits (Some last) micros =
    if is_past last limits.boot micros then None else Some (if nat_lt micros last then micros else last)

abbrev pub forgotten : Limits → Nmt → ℕ → Option ℕ
forgotten limits nmt micros = recent limits (option_or (option_map (λ c. c.micros) nmt.commanded) nmt.reset) micros

-- It begins anew: a line is bad, or a command is forgotten that the device may follow still. Else it begins as at its
-- first frame: the bus was quiet, or the recorder rested.
abbrev pub anew_since : Limits → Progress → ℕ → Option ℕ
anew_since limits progress micros = if is_some progress.damaged then Some micros else forgotten limits progress.nmt micros

-- What 1017:00 may have, as far as one number says it: what it has, or what a client asked to write last.
abbrev pub period_then : Progress → Option ℕ
period_then progress = option_or progress.entries.period progress.heartbeats.asked

-- One bad line had one frame at most, so one write of 1017:00. Of several, or where the recorder may have rested besides,
-- nothing is known.
abbrev pub former_lost : Progress → Option ℕ
former_lost progress =
    if is_some progress.newest then former_asked (Some (unwrap_or (period_then progress) longest_period)) progress.heartbeats.former
    else Some longest_period

abbrev pub former_begun : Limits → Progress → ℕ → Option ℕ
former_begun limits progress micros =
    if anew_after limits progress.entries.period progress.damaged micros then Some longest_period else progress.heartbeats.former

-- then nothing is known, and a command that came before may be followed; where it was quiet, no request is
-- known
unfoldable pub begun : Subject → Progress → ℕ → Progress
begun subject progress micros =
    if begins_anew subject.limits progress micros then record (before_recording subject) {
      newest = Some micros;
      started = micros;
      begins = true;
      free = micros;
      nmt = at_begin (anew_since subject.limits progress micros);
      heartbeats = record no_heartbeat { former = former_begun subject.limits progress micros };
      dialogue = still_awaited progress.dialogue micros;
      other_client = client_since subject progress;
      asked_at = asked_since progress micros;
    }
    else record progress {
      newest = Some micros;
      earlier = earlier_at progress micros;
      begins = false;
      free = free_at progress.newest progress.free micros;
      dialogue = with_quiet subject.limits progress micros;
      pdos = pdos_with_quiet subject.limits progress micros;
      exchange = None;
      wrong = progress.wrong && not (is_later progress.newest micros);
      remark = None;
    }

-- A line of the recording is bad: what it had is unknown, so with the next frame the recording begins anew.
-- Before the first frame nothing is known anyway.
abbrev pub with_bad_line : Progress → Progress
with_bad_line progress = record progress {
  newest = None;
  damaged = option_or progress.damaged progress.newest;
  heartbeats = record progress.heartbeats { former = former_lost progress };
}

-- what is open isn't known any more: after a reset, a boot-up, and an error frame
unfoldable pub with_gap : Progress → ℕ → Progress
with_gap progress micros = record progress {
  heartbeats = record progress.heartbeats { since = None; awaited = Heartbeat; sent = None; slow = None; asked = None };
  emergency = None;
  dialogue = interrupted progress.dialogue micros;
  pdos = tpdos.interrupted progress.pdos;
  written = nothing_written;
}

-- an error frame: what came with it may be missing in the recording
unfoldable pub after_fault : Progress → ℕ → Progress
after_fault progress micros = record (with_gap progress micros) { nmt = at_begin (Some micros); started = micros; begins = true }
