-- Of which entries explain's transfers are: of those that frames of clients name, the open one and each that ends.
use Rattle.std.proofs.Common.{◌≡◌, ◌≢◌, ℕ, ◌+◌, Bool, true, false, List, [], ◌∷◌, ◌++◌, length, Option, Some, None, refl, sym, ◌∙◌, subst}
use Rattle.std.specs.Prelude.{if◌then◌else◌, ◌==◌, nat_le, is_some, slice_index, IfSome}
use Rattle.std.specs.List.{AllByRecursion}
use Rattle.std.proofs.lemmas.Bool.{eqb-true, false≢true}
use Rattle.co_value.specs.declared.key.Key.{Key}
use Rattle.co_value.specs.Keys.{same_key, same_key-is}
use Rattle.co_frame.specs.FrameContent.{FrameContent}
use Rattle.co_frame.specs.BlockSegments.{block_segment_in, is_abort_in_sub_block}
use Rattle.co_frame.specs.Emergencies.{emergency_in}
use Rattle.co_frame.specs.Nmt.{nmt_command_in}
use Rattle.co_frame.specs.SdoFields.{key_in}
use Rattle.co_frame.specs.SdoParts.{code_in}
use Rattle.co_frame.specs.SdoRequests.{request_in, request_row_in}
use Rattle.co_frame.specs.declared.block_segment.BlockSegment.{BlockSegment}
use Rattle.co_frame.specs.declared.emergency.Emergency.{Emergency}
use Rattle.co_frame.specs.declared.nmt.NmtCommand.{NmtCommand}
use Rattle.co_frame.specs.declared.nmt.NmtService.{NmtService}
use Rattle.co_frame.specs.declared.nmt.NmtService.TheVariants.{Start, Stop, EnterPreOperational, ResetNode, ResetCommunication}
use Rattle.co_frame.specs.declared.sdo_request.SdoRequest.{SdoRequest}
use Rattle.co_frame.specs.declared.sdo_request.SdoRequest.TheVariants.{DownloadExpedited, DownloadInitiate, Upload as UploadInitiate, BlockUploadInitiate, BlockDownloadInitiate, Abort as Abandon}
use Rattle.co_sheet.specs.Content.{Row}
use Rattle.conode_explain_transfers.specs.declared.kinds.Side.{Side}
use Rattle.conode_explain_transfers.specs.declared.kinds.Side.TheVariants.{Client, Server}
use Rattle.conode_explain_transfers.specs.declared.kinds.What.{What}
use Rattle.conode_explain_transfers.specs.declared.kinds.What.TheVariants as what
use Rattle.conode_explain_transfers.specs.declared.transfer.Transfer.{Transfer}
use Rattle.conode_explain_transfers.specs.declared.ended.Ended.{Ended}
use Rattle.conode_explain_transfers.specs.Followed.{Followed, Following, followed, stray, turns_at, with_frame}
use Rattle.conode_explain_transfers.specs.Readings.{awaits_segment}
use Rattle.conode_explain_transfers.specs.Stages.{confirmed_with}
use Rattle.conode_explain_transfers.specs.Transfers.{after}
use Rattle.conode_explain_laws.proofs.Begins.{HasKey, has_key}
use Rattle.conode_explain_laws.proofs.Readings.{Reading, Segment, Begin, Abort, Request, Response, Nothing, beginning, follows_by, reading_of, request_reading, segment_reading, turn_of, same as same_reading}
use Rattle.conode_explain_laws.proofs.Views.{is_begin, server_no_begin}
use Rattle.conode_compare_transfers.specs.Dialogues.{dialogue_heard, exchange_in, given_up, interrupted, is_initiate}
use Rattle.conode_compare_nmt.specs.declared.finding.Finding.{Finding}
use Rattle.conode_compare_rules.specs.declared.kind.FrameKind.{FrameKind}
use Rattle.conode_compare_rules.specs.declared.kind.FrameKind.TheVariants.{Command, CommandToAll, LongCommand, Guarding, Control, OddControl, Emergency as Emcy, OddEmergency, Sdo, Process, Polled, Fault, Other}
use Rattle.conode_compare_nmt.specs.declared.limits.Subject.{Subject}
use Rattle.conode_compare_rules.specs.declared.progress.Progress.{Progress}
use Rattle.conode_compare_rules.specs.declared.verdict.Findings.{Findings}
use Rattle.conode_compare_rules.specs.FrameKinds.{command_kind, command_to, control_kind, data_kind, emergency_kind, emergency_with, length_of, long_command_in}
use Rattle.conode_compare_rules.specs.NmtFrames as nmt_frames
use Rattle.conode_compare_rules.specs.Gaps.{after_fault, begins_anew, begun, breaks_off, with_gap}
use Rattle.conode_compare_rules.specs.NmtFrames.{after_command, after_odd_control, booted, silence_at}
use Rattle.conode_compare_rules.specs.EmergencyRules.{after_emergency}
use Rattle.conode_compare_rules.specs.Channels.{shown_beside, after_sdo, answer_noted, channel_heard, exchange_at, exchange_noted, late_noted}
use Rattle.conode_compare_rules.specs.Processes.{after_process}
use Rattle.conode_compare_rules.specs.Progresses.{after_frame, progress_with}
use Rattle.conode_compare_laws.specs.Identifiers.{AreNoSdo, IsUnnamed}
use Rattle.conode_compare_laws.specs.Recordings.{Recorded, stamped}
use Rattle.conode_compare_laws.proofs.LongCommands.{long_such}
use Rattle.conode_compare_laws.proofs.AnswerFollowed.{reads}
use Rattle.conode_compare_laws.proofs.AnswerKeys.{kept, uninitiated}
use Rattle.conode_compare_laws.proofs.Runs.{AllRun}

-- ---- which frames these are

-- another key than this one
abbrev pub Differs : Key → Key → Type 0
Differs key other = same_key other key ≡ false

pub differs : (key other : Key) → other ≢ key → Differs key other
differs key other n = by (same_key other key) refl
  where
    by : (b : Bool) → same_key other key ≡ b → b ≡ false
    by true e = absurd (n (same_key-is other key e))
    by false e = refl

-- without SDO on the default channel no entry is named
pub none_named : (key : Key) (node : ℕ) (recorded : List Recorded) → AreNoSdo node recorded → IsUnnamed key node recorded
none_named key node [] h = tt
none_named key node (r ∷ later) h = (λ id eight same. h.0.1 id, none_named key node later h.1)

-- where a frame names an entry, it is such a one
abbrev pub Names : (Key → Type 0) → ℕ → FrameContent → Type 0
Names P node frame = frame.id ≡ 0x600 + node → length frame.bytes ≡ 8 → P (key_in frame.bytes)

abbrev pub AllName : (Key → Type 0) → ℕ → List FrameContent → Type 0
AllName P node frames = AllByRecursion (Names P node) frames

pub others_named : (key : Key) (node micros : ℕ) (frames : List FrameContent) → IsUnnamed key node (stamped micros frames) → AllName (Differs key) node frames
others_named key node micros [] h = tt
others_named key node micros (frame ∷ frames) h = (λ id eight. differs key (key_in frame.bytes) (h.0 id eight), others_named key node micros frames h.1)

-- what holds of a recording, or of the frames at one time, holds of each part
module _ {A : Type 0} (P : A → Type 0) where
  pub first_of : (xs ys : List A) → AllByRecursion P (xs ++ ys) → AllByRecursion P xs
  first_of [] ys h = tt
  first_of (x ∷ xs) ys h = (h.0, first_of xs ys h.1)

  pub last_of : (xs ys : List A) → AllByRecursion P (xs ++ ys) → AllByRecursion P ys
  last_of [] ys h = h
  last_of (x ∷ xs) ys h = last_of xs ys h.1

-- ---- what explain reads a frame as: where it begins a transfer, that is of such an entry

-- a frame by an end
abbrev pub NamesBy : (Key → Type 0) → Side → List ℕ → Type 0
NamesBy P Client bytes = length bytes ≡ 8 → P (key_in bytes)
NamesBy P Server bytes = Unit {0}

abbrev BeginsSuch : (Key → Type 0) → Reading → Type 0
BeginsSuch P (Begin t) = P t.key
BeginsSuch P _ = Unit {0}

no_begin : (P : Key → Type 0) (reading : Reading) → is_begin reading ≡ false → BeginsSuch P reading
no_begin P (Begin t) h = absurd (false≢true (sym h))
no_begin P _ h = tt

request_begins : (P : Key → Type 0) (micros : ℕ) (bytes : List ℕ) (request : Option SdoRequest) → IfSome request (HasKey bytes) → P (key_in bytes) → BeginsSuch P (request_reading request micros bytes)
request_begins P micros bytes None h such = tt
request_begins P micros bytes (Some (Abandon named code)) h such = tt
request_begins P micros bytes (Some (DownloadExpedited named value)) h such = subst P (sym h) such
request_begins P micros bytes (Some (DownloadInitiate named size)) h such = subst P (sym h) such
request_begins P micros bytes (Some (UploadInitiate named)) h such = subst P (sym h) such
request_begins P micros bytes (Some (BlockUploadInitiate named block_size threshold)) h such = subst P (sym h) such
request_begins P micros bytes (Some (BlockDownloadInitiate named size)) h such = subst P (sym h) such
request_begins P micros bytes (Some _) h such = tt

client_begins : (P : Key → Type 0) (micros : ℕ) (bytes : List ℕ) → NamesBy P Client bytes → BeginsSuch P (request_reading (request_in bytes) micros bytes)
client_begins P micros bytes n = by (length bytes == 8) refl (has_key bytes)
  where
    by : (b : Bool) → (length bytes == 8) ≡ b → IfSome (if b then request_row_in bytes else None) (HasKey bytes) → BeginsSuch P (request_reading (if b then request_row_in bytes else None) micros bytes)
    by true e h = request_begins P micros bytes (request_row_in bytes) h (n (eqb-true (length bytes) 8 e))
    by false e h = tt

beginning_begins : (P : Key → Type 0) (reading : Reading) → BeginsSuch P reading → BeginsSuch P (beginning reading)
beginning_begins P (Begin t) h = h
beginning_begins P _ h = tt

segment_begins : (P : Key → Type 0) (block_size : ℕ) (segment : Option BlockSegment) (otherwise : Reading) → BeginsSuch P otherwise → BeginsSuch P (segment_reading block_size segment otherwise)
segment_begins P block_size None otherwise h = h
segment_begins P block_size (Some segment) otherwise h = by (nat_le segment.sequence block_size)
  where
    by : (b : Bool) → BeginsSuch P (if b then Segment segment else otherwise)
    by true = tt
    by false = h

reading_begins : (P : Key → Type 0) (current : Option Transfer) (side : Side) (micros : ℕ) (bytes : List ℕ) → NamesBy P side bytes → BeginsSuch P (reading_of current side micros bytes)
reading_begins P current Server micros bytes n = no_begin P (reading_of current Server micros bytes) (server_no_begin current micros bytes)
reading_begins P None Client micros bytes n = client_begins P micros bytes n
reading_begins P (Some t) Client micros bytes n = by (awaits_segment t Client) (is_abort_in_sub_block bytes)
  where
    plain : Reading
    plain = request_reading (request_in bytes) micros bytes

    begins : BeginsSuch P plain
    begins = client_begins P micros bytes n

    by : (awaited abort : Bool) → BeginsSuch P (if awaited then (if abort then Abort (code_in bytes) else segment_reading t.block_size (block_segment_in bytes) (beginning plain)) else plain)
    by true true = tt
    by true false = segment_begins P t.block_size (block_segment_in bytes) (beginning plain) (beginning_begins P plain begins)
    by false abort = begins

-- ---- a frame on the channel

-- the transfer that ends with it, and the one that is open then, are of such entries
pub record AreSuch (P : Key → Type 0) (f : Followed) : Type 0 where
  pub ended : IfSome f.says.ended (λ e. P e.key)
  pub next : IfSome f.next.transfer (λ t. P t.key)

frame_of_such : (P : Key → Type 0) (w : What) (u : Transfer) (micros : ℕ) (side : Side) → P u.key → P (with_frame w u micros side).key
frame_of_such P what.Overtaken u micros side h = h
frame_of_such P _ u micros side h = h

turn_of_such : (P : Key → Type 0) (x : Option (Option ℕ)) (heard : Bool) (w : What) (u : Transfer) (micros : ℕ) (side : Side) → P u.key → AreSuch P (turns_at x heard w u micros side)
turn_of_such P (Some crc) heard w u micros side h = record { ended = h; next = tt }
turn_of_such P None heard w u micros side h = record { ended = tt; next = frame_of_such P w u micros side h }

by_turn : (P : Key → Type 0) (heard : Bool) (t : Transfer) (reading : Reading) (micros : ℕ) (side : Side) (bytes : List ℕ) → P t.key
    → AreSuch P (turns_at (confirmed_with (turn_of t reading bytes).transfer.stage) heard (turn_of t reading bytes).what (after t (turn_of t reading bytes)) micros side)
by_turn P heard t reading micros side bytes h =
    turn_of_such P (confirmed_with (turn_of t reading bytes).transfer.stage) heard (turn_of t reading bytes).what (after t (turn_of t reading bytes)) micros side
    (subst P (sym (kept t reading bytes).key) h)

follows_such : (P : Key → Type 0) (heard : Bool) (current : Option Transfer) (reading : Reading) (micros : ℕ) (side : Side) (bytes : List ℕ) → BeginsSuch P reading → IfSome current (λ t. P t.key)
    → AreSuch P (follows_by heard current reading micros side bytes)
follows_such P heard None (Begin new) micros side bytes b h = record { ended = tt; next = b }
follows_such P heard (Some t) (Begin new) micros side bytes b h = record { ended = h; next = b }
follows_such P heard None _ micros side bytes b h = record { ended = tt; next = tt }
follows_such P heard (Some t) (Abort code) micros side bytes b h = record { ended = h; next = tt }
follows_such P heard (Some t) (Segment segment) micros side bytes b h = by_turn P heard t (Segment segment) micros side bytes h
follows_such P heard (Some t) (Request request) micros side bytes b h = by_turn P heard t (Request request) micros side bytes h
follows_such P heard (Some t) (Response response) micros side bytes b h = by_turn P heard t (Response response) micros side bytes h
follows_such P heard (Some t) Nothing micros side bytes b h = by_turn P heard t Nothing micros side bytes h

pub followed_such : (P : Key → Type 0) (following : Following) (micros : ℕ) (side : Side) (bytes : List ℕ) → NamesBy P side bytes → IfSome following.transfer (λ t. P t.key) → AreSuch P (followed following micros side bytes)
followed_such P following micros side bytes n h =
    let s = (same_reading following.heard following.transfer micros side bytes bytes).followed in
    let f : AreSuch P (reads following micros side bytes) =
    follows_such P following.heard following.transfer (reading_of following.transfer side micros bytes) micros side bytes (reading_begins P following.transfer side micros bytes n) h in
    record {
      ended = subst (λ (x : Followed). IfSome x.says.ended (λ e. P e.key)) (sym s) f.ended;
      next = subst (λ (x : Followed). IfSome x.next.transfer (λ t. P t.key)) (sym s) f.next;
    }

-- ---- an initiate request

-- a frame that is taken for one is one of a client, of eight bytes
module _ (X : Type 0) (heard : Bool) (micros : ℕ) (side : Side) (bytes : List ℕ) where
  turned_by : (x : Option (Option ℕ)) (w : What) (u : Transfer) → is_initiate w ≡ false → is_initiate (turns_at x heard w u micros side).says.what ≡ false
  turned_by (Some crc) w u h = h
  turned_by None w u h = h

  no_begin_asks : (t : Transfer) (reading : Reading) → is_initiate (turns_at (confirmed_with (turn_of t reading bytes).transfer.stage) heard (turn_of t reading bytes).what (after t (turn_of t reading bytes)) micros side).says.what ≡ true → X
  no_begin_asks t reading on =
      absurd (false≢true (sym (turned_by (confirmed_with (turn_of t reading bytes).transfer.stage) (turn_of t reading bytes).what (after t (turn_of t reading bytes)) (uninitiated t reading bytes)) ∙ on))

  stray_asks : (b : Bool) → is_initiate (stray b) ≡ true → X
  stray_asks true on = absurd (false≢true on)
  stray_asks false on = absurd (false≢true on)

  asks : (current : Option Transfer) (reading : Reading) → BeginsSuch (λ key. X) reading → is_initiate (follows_by heard current reading micros side bytes).says.what ≡ true → X
  asks current (Begin new) b on = b
  asks None _ b on = stray_asks heard on
  asks (Some t) (Abort code) b on = absurd (false≢true on)
  asks (Some t) (Segment segment) b on = no_begin_asks t (Segment segment) on
  asks (Some t) (Request request) b on = no_begin_asks t (Request request) on
  asks (Some t) (Response response) b on = no_begin_asks t (Response response) on
  asks (Some t) Nothing b on = no_begin_asks t Nothing on

pub initiated : (X : Type 0) (following : Following) (micros : ℕ) (side : Side) (bytes : List ℕ) → NamesBy (λ key. X) side bytes → is_initiate (followed following micros side bytes).says.what ≡ true → X
initiated X following micros side bytes n on =
    asks X following.heard micros side bytes following.transfer (reading_of following.transfer side micros bytes) (reading_begins (λ key. X) following.transfer side micros bytes n)
    (subst (λ (x : Followed). is_initiate x.says.what ≡ true) (same_reading following.heard following.transfer micros side bytes bytes).followed on)

-- ---- what compare has

-- the open transfer is of such an entry
abbrev pub IsOpenOn : (Key → Type 0) → Progress → Type 0
IsOpenOn P p = IfSome p.dialogue.channel.transfer (λ t. P t.key)

pub begun_open : (P : Key → Type 0) (subject : Subject) (p : Progress) (micros : ℕ) → IsOpenOn P p → IsOpenOn P (begun subject p micros)
unfolding begun
begun_open P subject p micros h = by (begins_anew subject.limits p micros) _ _ tt (quiet (breaks_off subject.limits p micros))
  where
    by : (b : Bool) (x y : Progress) → IsOpenOn P x → IsOpenOn P y → IsOpenOn P (if b then x else y)
    by true x y f g = f
    by false x y f g = g

    quiet : (b : Bool) → IfSome (if b then interrupted p.dialogue micros else p.dialogue).channel.transfer (λ t. P t.key)
    quiet true = tt
    quiet false = h

-- a frame of the default SDO channel: so is one that ends with it
pub ended_such : (P : Key → Type 0) (subject : Subject) (p : Progress) (micros : ℕ) (side : Side) (frame : FrameContent) → NamesBy P side frame.bytes → IsOpenOn P p
    → IfSome (exchange_at subject p micros side frame).heard.ended (λ e. P e.key)
unfolding exchange_at exchange_in
ended_such P subject p micros side frame n h = (followed_such P p.dialogue.channel micros side frame.bytes n h).ended

-- where it shows nothing beside another client it is as if none had ended
pub beside_such : (P : Ended → Type 0) (other : Bool) (o : Option Ended) → IfSome o P → IfSome (shown_beside other o) P
beside_such P true o h = tt
beside_such P false o h = h

sdo_open : (P : Key → Type 0) (subject : Subject) (p : Progress) (micros : ℕ) (side : Side) (frame : FrameContent) → NamesBy P side frame.bytes → IsOpenOn P p → IsOpenOn P (after_sdo subject p micros side frame)
unfolding channel_heard exchange_noted dialogue_heard
sdo_open P subject p micros Client frame n h = (followed_such P p.dialogue.channel micros Client frame.bytes n h).next
sdo_open P subject p micros Server frame n h = (followed_such P p.dialogue.channel micros Server frame.bytes n h).next

pub noted_open : (P : Key → Type 0) (subject : Subject) (p : Progress) (micros : ℕ) → IsOpenOn P p → IsOpenOn P (answer_noted subject p micros)
unfolding late_noted
noted_open P subject p micros h = h

-- a frame of whatever kind
abbrev pub NamesAs : (Key → Type 0) → FrameKind → Type 0
NamesAs P (Sdo side frame) = NamesBy P side frame.bytes
NamesAs P _ = Unit {0}

command_names : (P : Key → Type 0) (node : ℕ) (long command : Option NmtCommand) → NamesAs P (command_to node long command)
command_names P node long None = long_such (NamesAs P) node long (λ service. tt) tt
command_names P node long (Some command) = by (command.node == 0) (command.node == node)
  where
    by : (a b : Bool) → NamesAs P (if a then CommandToAll command.service else (if b then Command command.service else Other))
    by true b = tt
    by false true = tt
    by false false = tt

emergency_names : (P : Key → Type 0) (length : ℕ) (o : Option Emergency) → NamesAs P (emergency_with length o)
emergency_names P length None = tt
emergency_names P length (Some emergency) = tt

control_names : (P : Key → Type 0) (frame : FrameContent) (b : Bool) → NamesAs P (if b then Control (slice_index frame.bytes 0) else OddControl (length_of frame))
control_names P frame true = tt
control_names P frame false = tt

pub names_as : (P : Key → Type 0) (node : ℕ) (frame : FrameContent) → Names P node frame → NamesAs P (data_kind node frame)
names_as P node frame n =
    by (frame.id == 0) (frame.id == 0x80 + node) (frame.id == 0x580 + node) (frame.id == 0x600 + node) (frame.id == 0x700 + node) (λ e. n (eqb-true frame.id (0x600 + node) e))
  where
    by : (a b c d e : Bool) → (d ≡ true → NamesBy P Client frame.bytes)
        → NamesAs P (if a then command_kind node frame
        else (if b then emergency_kind frame
        else (if c then Sdo Server frame
        else (if d then Sdo Client frame
        else (if e then control_kind frame else Process frame.id (length_of frame))))))
    by true b c d e m = command_names P node (long_command_in frame) (nmt_command_in frame)
    by false true c d e m = emergency_names P (length_of frame) (emergency_in frame.bytes)
    by false false true d e m = tt
    by false false false true e m = m refl
    by false false false false true m = control_names P frame (length frame.bytes == 1)
    by false false false false false m = tt

command_open : (P : Key → Type 0) (p : Progress) (service : NmtService) (own : Bool) (micros : ℕ) → IsOpenOn P p → IsOpenOn P (after_command p service own micros)
unfolding after_command with_gap
command_open P p Start own micros h = h
command_open P p Stop own micros h = h
command_open P p EnterPreOperational own micros h = h
command_open P p ResetNode own micros h = tt
command_open P p ResetCommunication own micros h = tt

control_open : (P : Key → Type 0) (subject : Subject) (p : Progress) (micros byte : ℕ) → IsOpenOn P p → IsOpenOn P (if byte == 0 then booted subject p micros else nmt_frames.after_control subject p micros byte)
unfolding booted nmt_frames.after_control
control_open P subject p micros byte h = by (byte == 0) _ _ tt (given (is_some (silence_at subject p micros byte)))
  where
    by : (b : Bool) (x y : Progress) → IsOpenOn P x → IsOpenOn P y → IsOpenOn P (if b then x else y)
    by true x y f g = f
    by false x y f g = g

    given : (b : Bool) → IfSome (if b then given_up p.dialogue micros else p.dialogue).channel.transfer (λ t. P t.key)
    given true = tt
    given false = h

frame_open : (P : Key → Type 0) (subject : Subject) (p : Progress) (micros : ℕ) (kind : FrameKind) → NamesAs P kind → IsOpenOn P p → IsOpenOn P (after_frame subject p micros kind)
unfolding after_odd_control after_emergency after_process after_fault with_gap
frame_open P subject p micros (Command service) n h = command_open P p service false micros h
frame_open P subject p micros (CommandToAll service) n h = command_open P p service subject.facts.starts_itself micros h
frame_open P subject p micros (LongCommand service) n h = command_open P p service true micros h
frame_open P subject p micros Guarding n h = h
frame_open P subject p micros (Control byte) n h = control_open P subject p micros byte h
frame_open P subject p micros (OddControl length) n h = h
frame_open P subject p micros (Emcy code register) n h = h
frame_open P subject p micros (OddEmergency length) n h = h
frame_open P subject p micros (Sdo Server frame) n h = sdo_open P subject (answer_noted subject p micros) micros Server frame n (noted_open P subject p micros h)
frame_open P subject p micros (Sdo Client frame) n h = sdo_open P subject p micros Client frame n h
frame_open P subject p micros (Process id length) n h = h
frame_open P subject p micros (Polled id) n h = h
frame_open P subject p micros Fault n h = tt
frame_open P subject p micros Other n h = h

pub stays_open : (P : Key → Type 0) (subject : Subject) (p : Progress) (micros : ℕ) (frame : FrameContent) → Names P subject.node frame → IsOpenOn P p → IsOpenOn P (progress_with subject p micros (data_kind subject.node frame))
unfolding progress_with
stays_open P subject p micros frame n h =
    frame_open P subject (begun subject p micros) micros (data_kind subject.node frame) (names_as P subject.node frame n) (begun_open P subject p micros h)

-- ---- frames at one time

-- what is known after them, and of which entry the open transfer is
abbrev pub And : (Key → Type 0) → (Progress → Type 0) → Progress → Type 0
And P known p = known p × IsOpenOn P p

pub all_open : (P : Key → Type 0) (these : FrameKind → Findings → List Finding) (subject : Subject) (rows : List Row) (micros : ℕ) (frames : List FrameContent) (p : Progress) (known : Progress → Type 0) → AllName P subject.node frames
    → IsOpenOn P p → AllRun these subject rows micros p frames known → AllRun these subject rows micros p frames (And P known)
all_open P these subject rows micros [] p known n c h = (h, c)
all_open P these subject rows micros (frame ∷ frames) p known n c h =
    (h.0, all_open P these subject rows micros frames (progress_with subject p micros (data_kind subject.node frame)) known n.1 (stays_open P subject p micros frame n.0 c) h.1)
