-- Which lines are printed.
use Rattle.std.specs.Prelude.{ℕ, ◌+◌, ◌-◌, ◌==◌, nat_lt, Bool, true, false, not, ◌&&◌, ◌||◌, if◌then◌else◌, List, [], ◌∷◌, length, take, drop, codes, Option, Some, None}
use Rattle.std.specs.List.{list_any}
use Rattle.std.specs.Str.{bytes_eq}
use Rattle.conode_record.specs.declared.content.Content.{Content}
use Rattle.conode_record.specs.declared.content.Content.TheVariants.{Remote}
use Rattle.conode_record.specs.declared.fields.Identifier.{Identifier}
use Rattle.conode_record.specs.declared.fields.Identifier.TheVariants.{Base}
use Rattle.conode_record.specs.declared.line.Record.{Record}
use Rattle.conode_explain_filter.specs.Changes.{Said, is_new, kept}
use Rattle.conode_explain_filter.specs.declared.kind.Kind.{Kind}
use Rattle.conode_explain_filter.specs.declared.kind.Kind.TheVariants.{Sdo, Pdo, Heartbeat, Emergency, Sync, Other}
use Rattle.conode_explain_entries.specs.declared.further.ChannelIds.{ChannelIds}
use Rattle.conode_explain_filter.specs.declared.filter.Filter.{Filter}
use Rattle.conode_explain_filter.specs.declared.subject.Subject.{Subject}
use Rattle.conode_explain_filter.specs.Filters.{passes, passes_transfer}
use Rattle.conode_explain_filter.specs.Subjects.{subject_of}
use Rattle.conode_explain_forms.specs.Tones.{data_of}
use Rattle.conode_explain_cob_ids.specs.declared.claim.Claim.{Claim}
use Rattle.conode_explain_cob_ids.specs.declared.service_ids.NamedService.{NamedService}
use Rattle.conode_explain_cob_ids.specs.declared.service_ids.NamedService.TheVariants as services
use Rattle.conode_explain_text.specs.declared.so_far.Times.{Times}
use Rattle.conode_explain_text.specs.SoFar.{SoFar, times_at}
use Rattle.conode_explain.specs.declared.progress.Layout.{Layout}
use Rattle.conode_explain.specs.declared.whose.Whose.{Whose}
use Rattle.conode_explain.specs.declared.whose.Whose.TheVariants.{Channel, Moved, Service, Unnamed}

-- the node of the first of the PDOs that a frame is
abbrev pub first_node : List Claim → Option ℕ
first_node [] = None
first_node (claim ∷ claims) = Some claim.node

-- the parameter of a PDO that its node sends, 1800h to 19FFh; of one that it receives 1400h to 15FFh
abbrev pub is_sent : Claim → Bool
is_sent claim = nat_lt 0x17FF claim.index

-- a PDO of another node that may be meant as well as the first: senders come first, and count alone
abbrev pub is_rival : Claim → Claim → Bool
is_rival first claim = not (claim.node == first.node) && (is_sent claim || not (is_sent first))

-- of which of several nodes they are isn't known
abbrev pub are_of_several : List Claim → Bool
are_of_several [] = false
are_of_several (first ∷ claims) = list_any (is_rival first) claims

abbrev pub node_of_one : Bool → Option ℕ → Option ℕ
node_of_one several node = if several then None else node

abbrev pub of_one : Bool → Subject → Subject
of_one several subject = record subject { node = node_of_one several subject.node }

-- the kind and the node of a frame that is these PDOs: the node that sends it, else the one that receives
-- it, where that is known
abbrev pub subject_in : List Claim → Record → Subject
subject_in claims frame = of_one (are_of_several claims) (subject_of (first_node claims) frame.id frame.content)

-- of a service that a COB-ID names
abbrev pub service_subject : NamedService → Subject → Subject
service_subject services.Sync subject = record subject { kind = Sync; node = None }
service_subject services.Time subject = record subject { kind = Other; node = None }
service_subject (services.Emergency node) subject = record subject { kind = Emergency; node = Some node }

-- on an SDO channel other than a default one: of its server; of an identifier that was moved away from: of no node
unfoldable pub subject_by : Whose → List Claim → Record → Subject
subject_by (Channel place) claims frame = record (subject_in claims frame) { kind = Sdo; node = Some place.node }
subject_by (Service service) claims frame = service_subject service (subject_in claims frame)
subject_by (Moved moved) claims frame = record (subject_in claims frame) { kind = Other; node = None }
subject_by Unnamed claims frame = subject_in claims frame

-- a frame passes a filter as a PDO of a node
abbrev pub passes_as : Filter → Times → Record → Claim → Bool
passes_as filter times frame claim = passes filter (subject_of (Some claim.node) frame.id frame.content) times

-- as any of the PDOs that it is: those of its consumers count as that of its producer does
abbrev pub passes_as_any : Filter → Times → Record → List Claim → Bool
passes_as_any filter times frame claims = list_any (passes_as filter times frame) claims

-- by its kind and its node, or as one of these PDOs
abbrev pub passes_either : Filter → Times → Whose → List Claim → Record → Bool
passes_either filter times whose claims frame =
    passes filter (subject_by whose claims frame) times || passes_as_any filter times frame claims

-- a frame passes the filter that is asked for
unfoldable pub passes_frame : Layout → SoFar → Whose → List Claim → Record → Bool
passes_frame form so_far whose claims frame =
    passes_either form.filter.now (times_at so_far frame.micros) whose claims frame

-- the line of a frame is left out where only the ends of transfers are asked for
abbrev pub shows_frame : Layout → SoFar → Whose → List Claim → Record → Bool
shows_frame form so_far whose claims frame = not form.transfers && passes_frame form so_far whose claims frame

-- a request or an answer of a channel other than a default one
abbrev pub channel_subject : ℕ → ℕ → Subject
channel_subject node id = record { id = record { wide = false; number = id }; kind = Sdo; node = Some node }

-- one of a transfer's channel passes
abbrev pub passes_end : Filter → ℕ → Option ChannelIds → Times → Bool
passes_end filter node None times = passes_transfer filter node times
passes_end filter node (Some ids) times =
    passes filter (channel_subject node ids.request) times || passes filter (channel_subject node ids.answer) times

-- the line of a transfer of a node that ended at a stamp is left out where signals are asked for
abbrev pub shows_end : Layout → SoFar → ℕ → ℕ → Option ChannelIds → Bool
shows_end form so_far micros node ids =
    (length form.signals.now == 0) && passes_end form.filter.now node ids (times_at so_far micros)

-- ---- changes alone

-- of these kinds only changes are printed, where that is asked for
abbrev pub repeats : Kind → Bool
repeats Pdo = true
repeats Heartbeat = true
repeats Sync = true
repeats _ = false

abbrev pub is_repeating : Layout → Subject → Bool
is_repeating form subject = form.changes && repeats subject.kind

-- the toggle bit at the end of a guarding answer, which changes from answer to answer; one that isn't awaited isn't at the end, nor one
-- before another state that was commanded
abbrev pub ends_with : List ℕ → List ℕ → Bool
ends_with words end = bytes_eq (drop (length words - length end) words) end

abbrev pub has_toggle : Kind → List ℕ → Bool
has_toggle Heartbeat words = ends_with words (codes " toggle 0") || ends_with words (codes " toggle 1")
has_toggle _ words = false

abbrev pub without_toggle : List ℕ → List ℕ
without_toggle words = take (length words - 1) words

-- a remote frame asks for what the data frames of its identifier say: bit 30 tells it apart, as in Linux (SocketCAN)
abbrev pub said_id : ℕ → Identifier → Content → ℕ
said_id number (Base id) (Remote count) = 0x40000000 + id
said_id number id content = number

-- what a frame says, by its interface and identifier; the words of a guarding answer have its byte
abbrev pub said_of : Subject → Record → List ℕ → Said
said_of subject frame words = record {
  interface = frame.interface;
  id = said_id subject.id.number frame.id frame.content;
  bytes = if has_toggle subject.kind words then [] else data_of frame.content;
  words = if has_toggle subject.kind words then without_toggle words else words;
}

-- a frame says something new since what was said last
unfoldable pub is_news : Layout → List Said → Subject → Record → List ℕ → Bool
is_news form lasts subject frame words =
    if is_repeating form subject then is_new lasts (said_of subject frame words) else true

-- and what was said last after it
unfoldable pub lasts_told : Layout → List Said → Subject → Record → List ℕ → List Said
lasts_told form lasts subject frame words =
    if is_repeating form subject then kept lasts (said_of subject frame words) else lasts
