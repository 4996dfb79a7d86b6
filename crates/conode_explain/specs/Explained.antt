-- What a log is explained as: the lines of its frames that are asked for, in order, each with that
-- of the transfer that ended with it, and at the end those of the transfers that are open. A bad
-- line has none here, and is counted.
use Rattle.std.specs.Prelude.{ℕ, ◌+◌, ◌-◌, ◌==◌, Bool, true, false, min, nat_lt, ◌&&◌, ◌||◌, if◌then◌else◌, List, [], ◌∷◌, ◌++◌, length, slice_index, is_some, Option, Some, None}
use Rattle.std.specs.List.{flat_map}
use Rattle.std.specs.Option.{option_map_or}
use Rattle.std.specs.Str.Lines.{lines}
use Rattle.co_stream.specs.Founds.{is_closed}
use Rattle.conode_convert.specs.Converted.{at_start}
use Rattle.conode_logs.specs.declared.log.Log.{Log}
use Rattle.conode_logs.specs.Logs.{says}
use Rattle.conode_record.specs.declared.content.Content.{Content}
use Rattle.conode_record.specs.declared.content.Content.TheVariants.{Data}
use Rattle.conode_record.specs.declared.fields.Identifier.{Identifier}
use Rattle.conode_record.specs.declared.fields.Identifier.TheVariants.{Base}
use Rattle.conode_record.specs.declared.line.Record.{Record}
use Rattle.conode_record.specs.declared.line.RecordLine.{RecordLine}
use Rattle.conode_record.specs.declared.line.RecordLine.TheVariants.{Skipped, Frame}
use Rattle.co_frame.specs.FrameContent.{FrameContent}
use Rattle.conode_explain_transfers.specs.declared.told.Part.{Part as Role}
use Rattle.conode_explain_transfers.specs.declared.told.Told.{Told}
use Rattle.conode_explain_transfers.specs.declared.track.Track.{Track}
use Rattle.conode_explain_transfers.specs.Tellings.{is_boot_up, telling}
use Rattle.conode_explain_transfers.specs.Tracks.{Telling}
use Rattle.conode_explain_entries.specs.declared.entries.ShownPdo.{ShownPdo}
use Rattle.conode_explain_entries.specs.declared.further.ChannelIds.{ChannelIds}
use Rattle.conode_explain_entries.specs.declared.further.FurtherChannel.{FurtherChannel}
use Rattle.conode_explain_entries.specs.declared.further.Place.{Place}
use Rattle.conode_explain_entries.specs.Frames.{segment_number}
use Rattle.conode_explain_entries.specs.Further.{FurtherTelling, booted_all, further_telling, is_at}
use Rattle.conode_explain_entries.specs.MovedIds.{moved_words}
use Rattle.conode_explain_entries.specs.Tables.{entries_with}
use Rattle.conode_explain_cob_ids.specs.Buses.{Bus}
use Rattle.conode_explain_cob_ids.specs.declared.claim.Claim.{Claim}
use Rattle.conode_explain_cob_ids.specs.Known.{KnownSheet}
use Rattle.conode_explain_cob_ids.specs.Claims.{claims_with}
use Rattle.conode_explain_cob_ids.specs.Known.{names_for}
use Rattle.conode_explain_transfers.specs.declared.ended.Ended.{Ended}
use Rattle.conode_explain_transfers.specs.declared.ended.Ending.TheVariants.{Interrupted, Unfinished}
use Rattle.conode_explain_transfers.specs.Followed.{closed}
use Rattle.conode_explain_filter.specs.Changes.{Said}
use Rattle.conode_explain_filter.specs.declared.kind.Kind.{Kind}
use Rattle.conode_explain_filter.specs.declared.subject.Subject.{Subject}
use Rattle.conode_explain_forms.specs.EndLines.{end_json_line}
use Rattle.conode_explain_forms.specs.JsonLines.{json_line, of_several}
use Rattle.conode_explain_forms.specs.Fields.{field_of}
use Rattle.conode_explain_forms.specs.Lines.{has_one, header, signal_line}
use Rattle.conode_explain_services.specs.declared.node.Node.{Node}
use Rattle.conode_explain_text.specs.Lines.{Part, line_parts, line_text, own_parts}
use Rattle.conode_explain_text.specs.SoFar.{SoFar, nothing_seen, seen_with, shows_interface, times_at}
use Rattle.conode_explain.specs.declared.progress.Progress.{Progress}
use Rattle.conode_explain.specs.declared.progress.Layout.{Layout}
use Rattle.conode_explain.specs.declared.progress.LineFormat.{LineFormat}
use Rattle.conode_explain.specs.declared.progress.LineFormat.TheVariants.{Text, Json}
use Rattle.conode_explain.specs.LogLines.{line_at}
use Rattle.conode_explain.specs.Filtered.{is_news, lasts_told, shows_end, shows_frame, subject_by}
use Rattle.conode_explain.specs.Nodes.{last_at, nodes_with, packed_of}
use Rattle.conode_explain.specs.ToldWords.{ended_words, told_words}
use Rattle.conode_explain.specs.declared.whose.Whose.{Whose}
use Rattle.conode_explain.specs.declared.whose.Whose.TheVariants.{Moved}
use Rattle.conode_explain.specs.Whose.{is_named, read_by, whose_of}
use Rattle.conode_explain_forms.specs.declared.tones.Tone.{Tone}
use Rattle.conode_explain_forms.specs.Places.{place_of, read_as}
use Rattle.conode_explain_forms.specs.Tones.{data_of, ending_tone, frame_tone, toned}

-- ---- the lines of frames

-- nothing came
abbrev pub nothing_known : Progress
nothing_known = record { seen = nothing_seen; channels = []; further = []; entries = []; nodes = []; lasts = [] }

-- a boot-up is one of its node also where nothing was heard on the node's default channel
abbrev pub or_boot_up : FrameContent → Option Told → Option Told
or_boot_up frame (Some told) = Some told
or_boot_up frame None = if is_boot_up frame then Some (record { node = frame.id - 0x700; part = None; left = None; ended = None; unclear = None }) else None

abbrev pub telling_by : List Track → Record → FrameContent → Telling
telling_by channels frame content =
    let telling = telling channels frame.interface frame.micros content in
    record { told = or_boot_up content telling.told; tracks = telling.tracks }

-- what is said about a frame, and the channels after it: only data frames with an identifier of 11
-- bits are followed
abbrev pub telling_in : List Track → Record → Option FrameContent → Telling
telling_in channels frame (Some content) = telling_by channels frame content
telling_in channels frame None = record { told = None; tracks = channels }

unfoldable pub telling_of : List Track → Record → Telling
telling_of channels frame = telling_in channels frame (packed_of frame.id frame.content)

-- what is said about one of a channel other than a default one, and these channels after it
abbrev pub further_in : List FurtherChannel → Record → Place → Option FrameContent → FurtherTelling
further_in further frame place (Some content) = further_telling further frame.interface place frame.micros content.bytes
further_in further frame place None = record { told = None; channels = further }

unfoldable pub further_of : List FurtherChannel → Record → Place → FurtherTelling
further_of further frame place = further_in further frame place (packed_of frame.id frame.content)

-- a default channel may take a frame, by its identifier, or it may be a boot-up, by its data too
abbrev pub may_be_told : Identifier → Content → Bool
may_be_told (Base id) (Data bytes) =
    nat_lt 0x580 id && (nat_lt id 0x680 || ((length bytes == 1) && (slice_index bytes 0 == 0)))
may_be_told id has = false

-- what is known of the PDOs of a frame's bus
abbrev pub bus_of : List KnownSheet → List ShownPdo → Record → Bus
bus_of sheets entries frame = record { sheets = sheets; entries = entries; interface = frame.interface }

-- the PDOs that have its identifier
abbrev pub claims_at : Bus → Identifier → List Claim
claims_at bus (Base id) = claims_with bus id
claims_at bus _ = []

-- a line as text, perhaps in the colour of a tone, or as an object of JSON, of a kind and a node
abbrev pub line_by : LineFormat → Bool → Tone → Kind → Option ℕ → List Part → List ℕ
line_by Text colours tone kind whose parts = toned colours tone (line_text parts)
line_by Json colours tone kind whose parts = json_line kind whose parts

abbrev pub line_as : Layout → Tone → Kind → Option ℕ → List Part → List ℕ
line_as form tone kind whose parts = line_by form.format form.colours tone kind whose parts

-- an object of JSON has its interface always, a line of text where there are several
abbrev pub seen_for : LineFormat → SoFar → SoFar
seen_for Text so_far = so_far
seen_for Json so_far = of_several so_far

-- a segment of a sub-block, by its number
abbrev pub is_segment : Option Told → Bool
is_segment None = false
is_segment (Some told) = option_map_or (λ part. is_some (segment_number part.what)) told.part false

-- the line of a frame that says these words
unfoldable pub frame_line : Layout → SoFar → Subject → Bool → Record → List ℕ → List ℕ
frame_line form so_far subject segment frame words =
    line_as form (frame_tone so_far subject segment frame) subject.kind subject.node (line_parts form.stamps (seen_for form.format so_far) frame words)

-- where it says something new
abbrev pub news_lines : Layout → SoFar → List Said → Subject → Bool → Record → List ℕ → List (List ℕ)
news_lines form so_far lasts subject segment frame words =
    if is_news form lasts subject frame words then frame_line form so_far subject segment frame words ∷ [] else []

-- the first line of a table of signals, where they are asked for
abbrev pub header_lines : Layout → List KnownSheet → List (List ℕ)
header_lines form sheets = if length form.signals.now == 0 then [] else header sheets form.signals.now ∷ []

-- in a table of signals: the line of a frame that has a value of one
unfoldable pub signal_lines : Layout → SoFar → Bus → List Claim → Record → Option Told → List (List ℕ)
signal_lines form so_far bus claims frame told =
    let value = field_of bus claims (data_of frame.content) told in
    if has_one value form.signals.now
    then signal_line form.stamps (times_at so_far frame.micros) value form.signals.now ∷ [] else []

-- what a frame says: on a channel other than a default one what it would on the default one, and so
-- of a service that has another identifier; of an identifier that was moved away from only that
unfoldable pub words_at : Bus → List Claim → Whose → List Node → Record → Option Told → List ℕ
words_at bus claims (Moved moved) nodes frame told = moved_words moved
words_at bus claims whose nodes frame told =
    let id = read_by whose frame.id in
    told_words bus claims (is_named whose) (last_at nodes id frame) id frame.content told

-- the line of a frame: of a table, where signals are asked for
abbrev pub line_of : Layout → Bus → List Claim → Whose → List Node → SoFar → List Said → Record → Option Told → List (List ℕ)
line_of form bus claims whose nodes so_far lasts frame told =
    if length form.signals.now == 0
    then news_lines form so_far lasts (subject_by whose claims frame) (is_segment told) frame (words_at bus claims whose nodes frame told)
    else signal_lines form so_far bus claims frame told

-- where it is asked for
unfoldable pub first_lines : Layout → Bus → List Claim → Whose → List Node → SoFar → List Said → Record → Option Told → List (List ℕ)
first_lines form bus claims whose nodes so_far lasts frame told =
    if shows_frame form so_far whose claims frame
    then line_of form bus claims whose nodes so_far lasts frame told else []

-- the line of a transfer of a node that ended, as text, perhaps in the colour of its tone, or as an
-- object of JSON
abbrev pub end_line_by : LineFormat → Bool → ℕ → Ended → List Part → List ℕ
end_line_by Text colours node e parts = toned colours (ending_tone e.ending) (line_text parts)
end_line_by Json colours node e parts = end_json_line node e parts

abbrev pub end_line_as : Layout → ℕ → Ended → List Part → List ℕ
end_line_as form node e parts = end_line_by form.format form.colours node e parts

-- where one did and it is asked for
unfoldable pub end_line : Layout → List KnownSheet → SoFar → ℕ → List ℕ → ℕ → Option ChannelIds → Ended → List ℕ
end_line form sheets so_far micros interface node ids e =
    end_line_as form node e
    (own_parts form.stamps (times_at so_far micros) (shows_interface (seen_for form.format so_far) interface) interface (ended_words (names_for sheets interface node) node ids e))

abbrev pub ended_lines : Layout → List KnownSheet → SoFar → ℕ → List ℕ → ℕ → Option ChannelIds → Option Ended → List (List ℕ)
ended_lines form sheets so_far micros interface node ids None = []
ended_lines form sheets so_far micros interface node ids (Some e) =
    if shows_end form so_far micros node ids then end_line form sheets so_far micros interface node ids e ∷ [] else []

-- the channel of a frame, where it isn't a default one
abbrev pub ids_of : Option Place → Option ChannelIds
ids_of None = None
ids_of (Some place) = Some place.ids

-- an open transfer is interrupted by a boot-up
abbrev pub interrupted_at : Option Ended → Option Ended
interrupted_at None = None
interrupted_at (Some e) = Some (record e { ending = Interrupted })

-- a node booted up: the line of the transfer that is open on a channel of it
unfoldable pub interrupted_in : Layout → List KnownSheet → SoFar → ℕ → List ℕ → ℕ → FurtherChannel → List (List ℕ)
interrupted_in form sheets so_far micros interface node channel =
    if is_at interface node channel
    then ended_lines form sheets so_far micros interface node (Some channel.ids) (interrupted_at (closed channel.channel.transfer micros Unfinished)) else []

-- of each other channel than its default one
abbrev pub boot_lines : Layout → List KnownSheet → SoFar → List FurtherChannel → Record → ℕ → Option Role → List (List ℕ)
boot_lines form sheets so_far further frame node None = flat_map (interrupted_in form sheets so_far frame.micros frame.interface node) further
boot_lines form sheets so_far further frame node (Some part) = []

-- what ended with a frame: the transfer of its channel that was left before it, the one that is open, and
-- of a boot-up those of the node's others
unfoldable pub end_lines : Layout → List KnownSheet → SoFar → Option Place → List FurtherChannel → Record → Option Told → List (List ℕ)
end_lines form sheets so_far place further frame None = []
end_lines form sheets so_far place further frame (Some told) =
    ended_lines form sheets so_far frame.micros frame.interface told.node (ids_of place) told.left
    ++ (ended_lines form sheets so_far frame.micros frame.interface told.node (ids_of place) told.ended
    ++ boot_lines form sheets so_far further frame told.node told.part)

-- the other channels after a boot-up
abbrev pub further_booted : List FurtherChannel → List ℕ → ℕ → Option Role → List FurtherChannel
further_booted further interface node None = booted_all further interface node
further_booted further interface node (Some part) = further

abbrev pub further_after : List FurtherChannel → List ℕ → Option Told → List FurtherChannel
further_after further interface None = further
further_after further interface (Some told) = further_booted further interface told.node told.part

-- the lines of a frame on a bus that is these PDOs, by what its SDO channel says about it, where the
-- last frames of its node had this
abbrev pub lines_with : Layout → List KnownSheet → Bus → List Claim → Option Place → List Node → SoFar → List Said → List FurtherChannel → Record → Option Told → List (List ℕ)
lines_with form sheets bus claims place nodes so_far lasts further frame told =
    first_lines form bus claims (whose_of bus place claims frame) nodes so_far lasts frame told ++ end_lines form sheets so_far place further frame told

-- and what was said last after it: in a table nothing is
abbrev pub lasts_of : Layout → Bus → List Claim → Whose → List Node → List Said → Record → Option Told → List Said
lasts_of form bus claims whose nodes lasts frame told =
    if length form.signals.now == 0
    then lasts_told form lasts (subject_by whose claims frame) frame (words_at bus claims whose nodes frame told) else lasts

-- a frame whose line isn't asked for doesn't count
unfoldable pub lasts_with : Layout → Bus → List Claim → Whose → List Node → SoFar → List Said → Record → Option Told → List Said
lasts_with form bus claims whose nodes so_far lasts frame told =
    if shows_frame form so_far whose claims frame
    then lasts_of form bus claims whose nodes lasts frame told else lasts

-- the lines of a frame of which its SDO channel says this
unfoldable pub lines_by : Layout → List KnownSheet → Progress → Option Place → Record → Option Told → List (List ℕ)
lines_by form sheets progress place frame told =
    let bus = bus_of sheets progress.entries frame in
    lines_with form sheets bus (claims_at bus (read_as place frame.id)) place progress.nodes progress.seen progress.lasts progress.further frame told

-- how far it is after it, where the channels have it already
unfoldable pub progress_by : Layout → List KnownSheet → Progress → Option Place → Record → Option Told → Progress
progress_by form sheets progress place frame told =
    let bus = bus_of sheets progress.entries frame in
    let claims = claims_at bus (read_as place frame.id) in
    let whose = whose_of bus place claims frame in
    record {
      seen = seen_with progress.seen frame.micros frame.interface;
      channels = progress.channels;
      further = further_after progress.further frame.interface told;
      nodes = nodes_with progress.nodes (read_by whose frame.id) frame;
      lasts = lasts_with form bus claims whose progress.nodes progress.seen progress.lasts frame told;
      entries = entries_with progress.entries frame.interface told;
    }

-- what is said about a frame of a channel other than a default one, or of none of these
abbrev pub told_at : Progress → Record → Option Place → Option Told
told_at progress frame None = (telling_of progress.channels frame).told
told_at progress frame (Some place) = (further_of progress.further frame place).told

-- and how far it is once the channels have the frame
abbrev pub heard_at : Progress → Record → Option Place → Progress
heard_at progress frame None = record progress { channels = (telling_of progress.channels frame).tracks }
heard_at progress frame (Some place) = record progress { further = (further_of progress.further frame place).channels }

-- the channel of a frame, by the sheets and by what the recording showed before it
abbrev pub place_for : List KnownSheet → Progress → Record → Option Place
place_for sheets progress frame = place_of (bus_of sheets progress.entries frame) frame.id frame.content

-- the lines of a frame
unfoldable pub frame_lines : Layout → List KnownSheet → Progress → Record → List (List ℕ)
frame_lines form sheets progress frame =
    let place = place_for sheets progress frame in
    lines_by form sheets (heard_at progress frame place) place frame (told_at progress frame place)

unfoldable pub progress_with : Layout → List KnownSheet → Progress → Record → Progress
progress_with form sheets progress frame =
    let place = place_for sheets progress frame in
    progress_by form sheets (heard_at progress frame place) place frame (told_at progress frame place)

-- the lines of what a line says, if that is a frame
abbrev pub said_lines : Layout → List KnownSheet → Progress → Option RecordLine → List (List ℕ)
said_lines form sheets progress (Some (Frame frame)) = frame_lines form sheets progress frame
said_lines form sheets progress (Some Skipped) = []
said_lines form sheets progress None = []

-- how far it is after it
abbrev pub progress_after : Layout → List KnownSheet → Progress → Option RecordLine → Progress
progress_after form sheets progress (Some (Frame frame)) = progress_with form sheets progress frame
progress_after form sheets progress (Some Skipped) = progress
progress_after form sheets progress None = progress

-- ---- the end

-- a transfer that is open at the end, at the stamp of the last frame
abbrev pub unfinished_in : Layout → List KnownSheet → SoFar → Track → List (List ℕ)
unfinished_in form sheets so_far track =
    ended_lines form sheets so_far so_far.last track.interface.items track.node None (closed track.channel.transfer so_far.last Unfinished)

abbrev pub unfinished_on : Layout → List KnownSheet → SoFar → FurtherChannel → List (List ℕ)
unfinished_on form sheets so_far channel =
    ended_lines form sheets so_far so_far.last channel.interface.items channel.node (Some channel.ids) (closed channel.channel.transfer so_far.last Unfinished)

-- those of the default channels come first
unfoldable pub unfinished_lines : Layout → List KnownSheet → Progress → List (List ℕ)
unfinished_lines form sheets progress =
    flat_map (unfinished_in form sheets progress.seen) progress.channels ++ flat_map (unfinished_on form sheets progress.seen) progress.further

-- ---- bad lines

abbrev pub count_if : Bool → ℕ
count_if true = 1
count_if false = 0

-- 1 for a line that is bad
abbrev pub faults_in : Option RecordLine → ℕ
faults_in (Some says) = 0
faults_in None = 1

-- 1 for a bad line that has its line feed
abbrev pub faults_of : Log → List ℕ → ℕ
faults_of log line = if nat_lt 512 (length line) then 1 else faults_in (line_at log line)

-- ---- all of it

-- the log after a line
abbrev pub log_after : Log → List ℕ → Log
log_after log line = if nat_lt 512 (length line) then log else (says log line).0

-- lines explained, from this progress on; one of more than 512 bytes is bad, and says nothing of
-- the log
unfoldable pub explained_from : Layout → List KnownSheet → Log → Progress → List (List ℕ) → List (List ℕ)
explained_from form sheets log progress [] = unfinished_lines form sheets progress
explained_from form sheets log progress (line ∷ more) =
    if nat_lt 512 (length line) then explained_from form sheets log progress more
    else said_lines form sheets progress (line_at log line)
    ++ explained_from form sheets (says log line).0 (progress_after form sheets progress (line_at log line)) more

-- a bad line ends what is read, where that is asked for
abbrev pub stops : Layout → Log → List ℕ → Bool
stops form log line = form.stop && (faults_of log line == 1)

-- the lines that are read: all, or those up to the first bad one
unfoldable pub lines_read : Layout → Log → List (List ℕ) → List (List ℕ)
lines_read form log [] = []
lines_read form log (line ∷ more) = line ∷ (if stops form log line then [] else lines_read form (log_after log line) more)

-- a log explained
abbrev pub explained : Layout → List KnownSheet → List ℕ → List (List ℕ)
explained form sheets text =
    explained_from form sheets (at_start form.log) nothing_known (lines_read form (at_start form.log) (lines text))

-- ---- how many lines are bad

-- The last line counts only where it has its line feed, or is too long: whoever stops a recording
-- cuts it off there.
unfoldable pub bad_from : Bool → Log → List (List ℕ) → ℕ
bad_from closed log [] = 0
bad_from closed log (line ∷ []) = if closed || nat_lt 512 (length line) then faults_of log line else 0
bad_from closed log (line ∷ next ∷ more) = faults_of log line + bad_from closed (log_after log line) (next ∷ more)

-- how many lines of a text are bad, from this log on
abbrev pub bad_count : Log → List ℕ → ℕ
bad_count log text = bad_from (is_closed text) log (lines text)

-- how many of them were read: where the first one ends it, at most that one
abbrev pub bad_read : Layout → List ℕ → ℕ
bad_read form text = if form.stop then min 1 (bad_count (at_start form.log) text) else bad_count (at_start form.log) text
