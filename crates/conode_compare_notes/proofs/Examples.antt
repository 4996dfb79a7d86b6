-- What is a warning, and what is learned, on both sides of each edge, computed from the definitions.
use Rattle.std.proofs.Common.{◌≡◌, ℕ, ◌+◌, Bool, true, false, List, [], ◌∷◌, length, map, Option, Some, None, refl}
use Rattle.std.specs.Prelude.{pos, option_map}
use Rattle.co_frame.specs.FrameContent.{FrameContent}
use Rattle.co_frame.specs.declared.nmt.NmtService.TheVariants.{Start, ResetNode}
use Rattle.co_profile.specs.declared.access.Access.{Access}
use Rattle.co_profile.specs.declared.access.Access.TheVariants.{Ro, Rw}
use Rattle.co_sheet.specs.Content.{Row}
use Rattle.co_sheet.specs.Limits.{absent, number, text}
use Rattle.co_value.specs.declared.data_type.DataType.{DataType}
use Rattle.co_value.specs.declared.data_type.DataType.TheVariants.{Unsigned8, Unsigned16, Unsigned32, VisibleString}
use Rattle.co_value.specs.declared.key.Key.{Key}
use Rattle.conode_explain_transfers.specs.declared.ended.Ended.{Ended}
use Rattle.conode_explain_transfers.specs.declared.ended.Ending.{Ending}
use Rattle.conode_explain_transfers.specs.declared.ended.Ending.TheVariants.{Done, Aborted, Irregular}
use Rattle.conode_explain_transfers.specs.declared.kinds.Direction.{Direction}
use Rattle.conode_explain_transfers.specs.declared.kinds.Direction.TheVariants.{Download, Upload}
use Rattle.conode_explain_transfers.specs.declared.kinds.Protocol.{Protocol}
use Rattle.conode_explain_transfers.specs.declared.kinds.Protocol.TheVariants.{Expedited, Segmented, Block}
use Rattle.conode_explain_transfers.specs.declared.kinds.Side.TheVariants.{Client, Server}
use Rattle.conode_explain_transfers.specs.declared.kinds.What.{What}
use Rattle.conode_explain_transfers.specs.declared.kinds.What.TheVariants.{Initiate, Part}
use Rattle.conode_compare_transfers.specs.declared.dialogue.Exchange.{Exchange}
use Rattle.conode_compare_nmt.specs.declared.entries.Entries.{Entries}
use Rattle.conode_compare_nmt.specs.declared.limits.Subject.{Subject}
use Rattle.conode_compare_rules.specs.declared.progress.Progress.{Progress}
use Rattle.conode_compare_rules.specs.Gaps.{before_recording}
use Rattle.conode_compare_nmt.specs.EntriesInForce.{facts_of}
use Rattle.conode_compare_nmt.specs.declared.finding.Remark.TheVariants.{EarlyHeartbeat, Restarted as RestartedRemark}
use Rattle.conode_compare_rules.specs.declared.kind.FrameKind.TheVariants.{Command, Control}
use Rattle.conode_compare_notes.specs.declared.contents.Content.TheVariants.{Number, Bytes}
use Rattle.conode_compare_notes.specs.declared.history.ErrorCode.{ErrorCode}
use Rattle.conode_compare_notes.specs.declared.history.Errors.{Errors}
use Rattle.conode_compare_notes.specs.declared.learned.Shown.{Shown}
use Rattle.conode_compare_notes.specs.declared.warning.Warning.{Warning}
use Rattle.conode_compare_notes.specs.declared.warning.Warning.TheVariants.{Changed, ChangedBytes, OddCode, OtherError, OtherRevision, OtherText, Restarted, SteppedBack, Stored}
use Rattle.conode_compare_notes.specs.declared.watched.Watched.{Watched}
use Rattle.conode_compare_notes.specs.declared.writes.Wrote.{Wrote}
use Rattle.conode_compare_notes.specs.Contents.{checksum_from, content_warning, is_exact, mixed, shown_content, written_content}
use Rattle.conode_compare_notes.specs.Histories.{changes_errors, errors_asked, errors_ended, is_newest_error, is_restart, late_warning, nothing_signalled, shown_by, shows_error, signalled_by}
use Rattle.conode_compare_notes.specs.LearnedValues.{learned_with, number_of, shown_in}
use Rattle.conode_compare_notes.specs.Versions.{code_warning, has_class, version_warning}
use Rattle.conode_compare_notes.specs.Warnings.{after_end, after_other, after_request, ended_warning, is_setting, nothing_watched, remark_warning, stepped_back}

abbrev key : Key
key = record { index = 0x2000; sub = 1 }

abbrev transfer : Direction → Protocol → Ending → ℕ → List ℕ → Option Ended
transfer direction protocol ending count bytes = Some (record {
  key = key;
  direction = direction;
  protocol = protocol;
  bytes = count;
  first = record { items = bytes };
  frames = 2;
  begun = 1;
  newest = 1;
  end = 2;
  ending = ending;
  fault = None;
})

abbrev exchange : Bool → What → Option Key → Option Ended → Option Exchange
exchange certain what of ended = Some (record {
  heard = record { what = what; of = of; ended = ended };
  asked = None;
  owed = true;
  certain = certain;
  breach = None;
  awaited = None;
})

-- ---- what is learned

abbrev row : ℕ → DataType → Row
row sub data_type = record {
  key = record { index = 0x2000; sub = sub };
  data_type = data_type;
  access = Rw;
  low = None;
  high = None;
  default = absent;
  mappable = false;
  name = None;
  line = 1;
}

abbrev rows : List Row
rows = row 0 VisibleString ∷ row 1 Unsigned16 ∷ []

abbrev shown : ℕ → Shown
shown n = record { key = key; number = n }

abbrev learned : List Shown → Bool → Direction → List ℕ → List Shown
learned all certain direction bytes = learned_with rows all (exchange certain Part None (transfer direction Expedited (Done false) 2 bytes))

first_value : learned [] true Download (2 ∷ 1 ∷ []) ≡ shown 0x102 ∷ []
unfolding learned_with shown_in
first_value = refl

newer_value : learned (shown 0x102 ∷ []) true Upload (3 ∷ 1 ∷ []) ≡ shown 0x103 ∷ []
unfolding learned_with shown_in
newer_value = refl

other_entry : learned (record { key = record { index = 0x2000; sub = 2 }; number = 7 } ∷ []) true Upload (3 ∷ 1 ∷ []) ≡ record { key = record { index = 0x2000; sub = 2 }; number = 7 } ∷ shown 0x103 ∷ []
unfolding learned_with shown_in
other_entry = refl

-- an upload may answer any request for this entry; an acknowledge may be one to an earlier request
early_upload : learned [] false Upload (3 ∷ 1 ∷ 0 ∷ 0 ∷ []) ≡ shown 0x103 ∷ []
unfolding learned_with shown_in
early_upload = refl

early_download : learned [] false Download (3 ∷ 1 ∷ []) ≡ []
unfolding learned_with shown_in
early_download = refl

too_short : learned [] true Upload (3 ∷ []) ≡ []
unfolding learned_with shown_in
too_short = refl

in_more_frames : learned_with rows [] (exchange true Part None (transfer Upload Segmented (Done false) 2 (3 ∷ 1 ∷ []))) ≡ shown 0x103 ∷ []
unfolding learned_with shown_in
in_more_frames = refl

no_number : learned_with (row 1 VisibleString ∷ []) [] (exchange true Part None (transfer Upload Expedited (Done false) 2 (3 ∷ 1 ∷ []))) ≡ []
unfolding learned_with shown_in
no_number = refl

not_in_the_sheet : learned_with [] [] (exchange true Part None (transfer Upload Expedited (Done false) 2 (3 ∷ 1 ∷ []))) ≡ []
unfolding learned_with shown_in
not_in_the_sheet = refl

its_number : number_of (shown 0x103 ∷ []) key ≡ Some 0x103
its_number = refl

another_number : number_of (shown 0x103 ∷ []) (record { index = 0x2000; sub = 0 }) ≡ None
another_number = refl

-- ---- warnings

abbrev entry : ℕ → ℕ → DataType → Access → Row
entry index sub data_type access = record {
  key = record { index = index; sub = sub };
  data_type = data_type;
  access = access;
  low = Some (pos 10);
  high = Some (pos 20);
  default = number (pos 7);
  mappable = false;
  name = None;
  line = 1;
}

abbrev refused_of : ℕ → ℕ → Direction → Protocol → List ℕ → Ended
refused_of index sub direction protocol bytes = record {
  key = record { index = index; sub = sub };
  direction = direction;
  protocol = protocol;
  bytes = 0;
  first = record { items = bytes };
  frames = 2;
  begun = 1;
  newest = 1;
  end = 2;
  ending = Aborted Server (record { 0 = 0 });
  fault = None;
}

abbrev entry_key : ℕ → ℕ → Key
entry_key low sub = record { index = 0x2000 + low; sub = sub }

-- settings of the communication profile
settings : map is_setting (0x1004 ∷ 0x1005 ∷ 0x1010 ∷ 0x1011 ∷ 0x1013 ∷ 0x1017 ∷ 0x1019 ∷ 0x101A ∷ 0x1029 ∷ 0x1200 ∷ 0x1BFF ∷ 0x1C00 ∷ [])
    ≡ false ∷ true ∷ false ∷ false ∷ false ∷ true ∷ true ∷ false ∷ true ∷ true ∷ true ∷ false ∷ []
settings = refl

abbrev subject : Subject
subject = record {
  node = 5;
  limits = record { tolerance = 10; drift = 1; answer = 1000; boot = 10000; time = None };
  facts = record (facts_of [] 5 false) { stores = true };
  held = record { entries = record { items = record { key = entry_key 1 0; width = 2; mappable = false } ∷ [] } };
  rooms = record { strings = None; domains = None };
}

-- 1017:00 (7 in the sheet), 2000:00 (read only), 2000:01, 2001:00, 2002:00 (in a PDO)
abbrev kept : List Row
kept =
    entry 0x1017 0 Unsigned16 Rw ∷ entry 0x2000 0 Unsigned8 Ro ∷ entry 0x2000 1 Unsigned16 Rw ∷ entry 0x2001 0 Unsigned16 Rw
    ∷ record (entry 0x2002 0 Unsigned16 Rw) { mappable = true } ∷ []

abbrev done : ℕ → ℕ → Direction → List ℕ → Ended
done index sub direction bytes = record (refused_of index sub direction Expedited bytes) { ending = Done false }

abbrev number_at : ℕ → ℕ → Option ℕ → Wrote
number_at index sub n = record { key = record { index = index; sub = sub }; content = option_map (λ x. Number x) n }

abbrev booted_up : List Wrote → Watched
booted_up writes = record { fresh = true; writes = writes; errors = nothing_signalled }

abbrev warned : List Wrote → ℕ → ℕ → List ℕ → Option Warning
warned writes index sub bytes = ended_warning subject kept (booted_up writes) true (done index sub Upload bytes)

-- another value than the sheet's
stored : map (warned [] 0x1017 0) ((8 ∷ 0 ∷ []) ∷ (7 ∷ 0 ∷ []) ∷ []) ≡ Some (Stored (record { index = 0x1017; sub = 0 }) 8 7) ∷ None ∷ []
stored = refl

not_after_boot_up : ended_warning subject kept nothing_watched true (done 0x1017 0 Upload (8 ∷ 0 ∷ [])) ≡ None
not_after_boot_up = refl

-- not of one that was asked to be written, nor of an entry of the manufacturer
asked_for : warned (number_at 0x1017 0 None ∷ []) 0x1017 0 (8 ∷ 0 ∷ []) ≡ None
asked_for = refl

of_the_manufacturer : warned [] 0x2000 1 (8 ∷ 0 ∷ []) ≡ None
of_the_manufacturer = refl

said_once : (after_end subject kept (booted_up []) true (done 0x1017 0 Upload (8 ∷ 0 ∷ []))).fresh ≡ false
said_once = refl

still_looked_for : (after_end subject kept (booted_up []) true (done 0x1017 0 Upload (7 ∷ 0 ∷ []))).fresh ≡ true
still_looked_for = refl

-- another value than was written
changed : map (warned (number_at 0x2000 1 (Some 8) ∷ []) 0x2000 1) ((9 ∷ 0 ∷ []) ∷ (8 ∷ 0 ∷ []) ∷ (8 ∷ []) ∷ []) ≡ Some (Changed (record { key = entry_key 0 1; shown = 9; written = 8 })) ∷ None ∷ None ∷ []
changed = refl

-- in segments and in blocks
changed_in_parts : map (λ protocol. ended_warning subject kept (booted_up (number_at 0x2000 1 (Some 8) ∷ [])) true (record (done 0x2000 1 Upload (9 ∷ 0 ∷ [])) { protocol = protocol })) (Segmented ∷ Block ∷ [])
    ≡ Some (Changed (record { key = entry_key 0 1; shown = 9; written = 8 })) ∷ Some (Changed (record { key = entry_key 0 1; shown = 9; written = 8 })) ∷ []
changed_in_parts = refl

written_in_parts : map (λ protocol. (after_end subject kept (booted_up (number_at 0x2000 1 None ∷ [])) true (record (done 0x2000 1 Download (8 ∷ 0 ∷ [])) { protocol = protocol })).writes) (Segmented ∷ Block ∷ [])
    ≡ (number_at 0x2000 1 (Some 8) ∷ []) ∷ (number_at 0x2000 1 (Some 8) ∷ []) ∷ []
written_in_parts = refl

-- texts: the checksum of "AB" is 65 * 257 + 66, and stays below 2 ^ 32 - 5
checksums : map (checksum_from 0) ([] ∷ (65 ∷ []) ∷ (65 ∷ 66 ∷ []) ∷ []) ≡ 0 ∷ 65 ∷ 16771 ∷ []
unfolding mixed
checksums = refl

modulus : map (λ sum. checksum_from sum (202 ∷ [])) (16711934 ∷ 16711935 ∷ []) ≡ 4294967240 ∷ 206 ∷ []
unfolding mixed
modulus = refl

-- in blocks; a last segment of six bytes, and one of seven; one frame
exact : is_exact Block 7 ∷ is_exact Segmented 6 ∷ is_exact Segmented 7 ∷ is_exact Segmented 14 ∷ is_exact Segmented 15 ∷ is_exact Expedited 2 ∷ [] ≡ true ∷ true ∷ false ∷ false ∷ true ∷ false ∷ []
exact = refl

abbrev text_of : Direction → Protocol → List ℕ → Ended
text_of direction protocol bytes = record (done 0x2000 1 direction bytes) { protocol = protocol; bytes = length bytes }

abbrev text_row : Row
text_row = entry 0x2000 1 VisibleString Rw

shown_text : shown_content text_row (text_of Upload Segmented (65 ∷ 66 ∷ [])) ∷ written_content text_row (text_of Download Block (65 ∷ 66 ∷ [])) ∷ shown_content text_row (text_of Upload Expedited (65 ∷ 66 ∷ [])) ∷ []
    ≡ Some (Bytes 2 16771) ∷ Some (Bytes 2 16771) ∷ None ∷ []
unfolding mixed
shown_text = refl

-- as many other bytes; more of them; a number and bytes
changed_text : content_warning key (Bytes 2 16771) (Bytes 2 16772) ∷ content_warning key (Bytes 2 16771) (Bytes 2 16771) ∷ content_warning key (Bytes 3 16771) (Bytes 2 16772) ∷ content_warning key (Number 2) (Bytes 2 3) ∷ []
    ≡ Some (ChangedBytes key) ∷ None ∷ None ∷ None ∷ []
changed_text = refl

-- not of an entry that is held, of one that a PDO may have, of one that can't be written
not_changed : warned (number_at 0x2001 0 (Some 8) ∷ []) 0x2001 0 (9 ∷ 0 ∷ []) ∷ warned (number_at 0x2002 0 (Some 8) ∷ []) 0x2002 0 (9 ∷ 0 ∷ []) ∷ warned (number_at 0x2000 0 (Some 8) ∷ []) 0x2000 0 (9 ∷ []) ∷ [] ≡ None ∷ None ∷ None ∷ []
not_changed = refl

in_doubt : ended_warning subject kept (booted_up (number_at 0x2000 1 (Some 8) ∷ [])) false (done 0x2000 1 Upload (9 ∷ 0 ∷ [])) ≡ None
in_doubt = refl

-- what is known of it: from the acknowledge to the next upload
written : (after_end subject kept (booted_up (number_at 0x2000 1 None ∷ [])) true (done 0x2000 1 Download (8 ∷ 0 ∷ []))).writes ≡ number_at 0x2000 1 (Some 8) ∷ []
written = refl

written_in_doubt : (after_end subject kept (booted_up (number_at 0x2000 1 (Some 7) ∷ [])) false (done 0x2000 1 Download (8 ∷ 0 ∷ []))).writes ≡ number_at 0x2000 1 None ∷ []
written_in_doubt = refl

written_refused : (after_end subject kept (booted_up (number_at 0x2000 1 None ∷ [])) true (refused_of 0x2000 1 Download Expedited (8 ∷ 0 ∷ []))).writes ≡ number_at 0x2000 1 None ∷ []
written_refused = refl

read_once : (after_end subject kept (booted_up (number_at 0x2000 1 (Some 8) ∷ [])) true (done 0x2000 1 Upload (8 ∷ 0 ∷ []))).writes ≡ number_at 0x2000 1 None ∷ []
read_once = refl

not_asked_for : (after_end subject kept (booted_up []) true (done 0x2000 1 Upload (8 ∷ 0 ∷ []))).writes ≡ []
not_asked_for = refl

-- a request ends it; one to store or restore parameters of all entries
requested : after_request kept (booted_up (number_at 0x2000 1 (Some 8) ∷ [])) (entry_key 0 1) ≡ booted_up (number_at 0x2000 1 None ∷ [])
requested = refl

requested_first : after_request kept (booted_up []) (entry_key 0 1) ≡ booted_up (number_at 0x2000 1 None ∷ [])
requested_first = refl

not_in_the_sheet_requested : after_request kept (booted_up []) (entry_key 0 9) ≡ booted_up []
not_in_the_sheet_requested = refl

restored : after_request kept (booted_up (number_at 0x2000 1 (Some 8) ∷ [])) (record { index = 0x1011; sub = 1 }) ≡ nothing_watched
restored = refl

-- no client asked to write an entry
abbrev quiet : Progress
quiet = record (before_recording subject) { free = 1000000 }

-- a boot-up and a reset
after_boot_up : after_other subject (booted_up (number_at 0x2000 1 (Some 8) ∷ [])) (Control 0) quiet ≡ booted_up []
after_boot_up = refl

-- a client asked to write an entry of the communication profile within the tolerance before that
after_asked : map (λ asked. (after_other subject (booted_up []) (Control 0) (record quiet { asked_at = Some asked })).fresh) (989999 ∷ 990000 ∷ []) ≡ true ∷ false ∷ []
after_asked = refl

after_reset : after_other subject (booted_up (number_at 0x2000 1 (Some 8) ∷ [])) (Command ResetNode) quiet ≡ nothing_watched
after_reset = refl

after_start : after_other subject (booted_up []) (Command Start) quiet ≡ booted_up []
after_start = refl

after_heartbeat : after_other subject (booted_up []) (Control 5) quiet ≡ booted_up []
after_heartbeat = refl

restart : map remark_warning (Some RestartedRemark ∷ Some (EarlyHeartbeat 1 2) ∷ None ∷ []) ≡ Some Restarted ∷ None ∷ None ∷ []
restart = refl

-- a stamp before the last one
stamps : map (stepped_back (Some 5000)) (Some 5000 ∷ Some 4999 ∷ None ∷ []) ≡ None ∷ Some (SteppedBack 1) ∷ None ∷ []
stamps = refl

first_stamp : stepped_back None (Some 5) ≡ None
first_stamp = refl

-- ---- versions and codes

-- 1000:00 is F0191h, 1018:03 is 10002h, and 1008h a text of two bytes; 1009h has none, 100Bh isn't looked at
abbrev version_rows : List Row
version_rows =
    record (entry 0x1000 0 Unsigned32 Ro) { default = number (pos 0xF0191) } ∷ record (entry 0x1008 0 VisibleString Ro) { default = text (0x49 ∷ 0x4F ∷ []) } ∷ record (entry 0x1009 0 VisibleString Ro) { default = text [] }
    ∷ record (entry 0x100B 0 VisibleString Ro) { default = text (0x49 ∷ 0x4F ∷ []) } ∷ record (entry 0x1018 3 Unsigned32 Ro) { default = number (pos 0x10002) } ∷ []

abbrev read_by : Bool → Ending → Protocol → ℕ → ℕ → List ℕ → Option Warning
read_by certain ending protocol index sub bytes = version_warning 5 false version_rows certain (record (done index sub Upload bytes) { protocol = protocol; ending = ending; bytes = length bytes })

abbrev read : ℕ → ℕ → List ℕ → Option Warning
read index sub bytes = read_by true (Done false) Segmented index sub bytes

abbrev revision : Key
revision = record { index = 0x1018; sub = 3 }

revisions : map (read_by true (Done false) Expedited 0x1018 3) ((3 ∷ 0 ∷ 1 ∷ 0 ∷ []) ∷ (2 ∷ 0 ∷ 1 ∷ 0 ∷ []) ∷ (3 ∷ 0 ∷ 1 ∷ []) ∷ []) ≡ Some (OtherRevision revision 0x10003 0x10002) ∷ None ∷ None ∷ []
revisions = refl

-- other modules of the same device profile; the sheet's; another profile, which is a difference; of a modular device
abbrev type_read : Bool → List ℕ → Option Warning
type_read modular bytes = version_warning 5 modular version_rows true (record (done 0x1000 0 Upload bytes) { protocol = Expedited; ending = Done false; bytes = length bytes })

types : map (type_read false) ((0x91 ∷ 1 ∷ 0xE ∷ 0 ∷ []) ∷ (0x91 ∷ 1 ∷ 0xF ∷ 0 ∷ []) ∷ (0x90 ∷ 1 ∷ 0xE ∷ 0 ∷ []) ∷ (0x91 ∷ 0x81 ∷ 0xF ∷ 0 ∷ []) ∷ [])
    ≡ Some (OtherRevision (record { index = 0x1000; sub = 0 }) 0xE0191 0xF0191) ∷ None ∷ None ∷ None ∷ []
types = refl

type_of_modules : type_read true (0x91 ∷ 1 ∷ 0xE ∷ 0 ∷ []) ≡ None
type_of_modules = refl

abbrev other_name : Option Warning
other_name = Some (OtherText (record { index = 0x1008; sub = 0 }))

-- another text, a shorter one, none, a longer one
texts : map (read 0x1008 0) ((0x49 ∷ 0x50 ∷ []) ∷ (0x49 ∷ []) ∷ [] ∷ (0x49 ∷ 0x4F ∷ 0x78 ∷ []) ∷ []) ≡ other_name ∷ other_name ∷ other_name ∷ other_name ∷ []
texts = refl

-- the same; with zeros after it; with a blank after it, or before it
same_texts : map (read 0x1008 0) ((0x49 ∷ 0x4F ∷ []) ∷ (0x49 ∷ 0x4F ∷ 0 ∷ []) ∷ (0x49 ∷ 0x4F ∷ 0 ∷ 0 ∷ 0x78 ∷ []) ∷ (0x49 ∷ 0x4F ∷ 0x20 ∷ []) ∷ (0x20 ∷ 0x50 ∷ []) ∷ [])
    ≡ None ∷ None ∷ None ∷ None ∷ None ∷ []
same_texts = refl

-- of seven bytes in a segment some may not count; of seven in a block all do
seven : List ℕ
seven = 0x49 ∷ 0x4F ∷ 0x78 ∷ 0 ∷ 0 ∷ 0 ∷ 0 ∷ []

whole_segments : map (λ protocol. read_by true (Done false) protocol 0x1008 0 seven) (Segmented ∷ Block ∷ []) ≡ None ∷ other_name ∷ []
unfolding seven
whole_segments = refl

-- an empty text of the sheet; another entry; one that the sheet doesn't have

other_texts : read 0x1009 0 (0x49 ∷ []) ∷ read 0x100B 0 (0x49 ∷ []) ∷ read 0x100A 0 (0x49 ∷ []) ∷ [] ≡ None ∷ None ∷ None ∷ []
other_texts = refl

-- in one frame, not done, in doubt, a download
text_in_one_frame : read_by true (Done false) Expedited 0x1008 0 (0x49 ∷ []) ∷ read_by true Irregular Segmented 0x1008 0 (0x49 ∷ []) ∷ read_by false (Done false) Segmented 0x1008 0 (0x49 ∷ [])
    ∷ version_warning 5 false version_rows true (done 0x1018 3 Download (3 ∷ 0 ∷ 1 ∷ 0 ∷ [])) ∷ [] ≡ None ∷ None ∷ None ∷ None ∷ []
text_in_one_frame = refl

-- the classes of codes
classes : map has_class (0 ∷ 0xFF ∷ 0x100 ∷ 0xFFF ∷ 0x1000 ∷ 0x8250 ∷ 0x9FFF ∷ 0xA000 ∷ 0xEFFF ∷ 0xF000 ∷ 0xFFFF ∷ [])
    ≡ true ∷ true ∷ false ∷ false ∷ true ∷ true ∷ true ∷ false ∷ false ∷ true ∷ true ∷ []
classes = refl

odd_codes : code_warning true 0xA123 1 ∷ code_warning true 0x8130 1 ∷ code_warning false 0xA123 1 ∷ [] ≡ Some (OddCode 0xA123 1) ∷ None ∷ None ∷ []
odd_codes = refl

-- ---- the newest error

abbrev code_at : ℕ → ℕ → ErrorCode
code_at code micros = record { code = code; micros = micros }

-- 00xxh, error reset, is no error; and a frame that isn't known to be an EMCY
signals : map (λ code. (signalled_by true code (Some 7)).signalled) (0 ∷ 0xFF ∷ 0x100 ∷ 0x8130 ∷ []) ≡ None ∷ None ∷ Some (code_at 0x100 7) ∷ Some (code_at 0x8130 7) ∷ []
signals = refl

no_signal : signalled_by false 0x8130 (Some 7) ∷ signalled_by true 0x8130 None ∷ [] ≡ nothing_signalled ∷ nothing_signalled ∷ []
no_signal = refl

abbrev error_entries : Bool → Option ℕ → Entries
error_entries emergencies inhibit = record { period = None; emergencies = emergencies; inhibit = inhibit; inhibit_shown = None }

abbrev history_read : ℕ → ℕ → List ℕ → Ended
history_read sub begun bytes = record (done 0x1003 sub Upload bytes) { begun = begun; end = begun + 1000 }

-- after EMCY 8130h
abbrev shown_error : Entries → ℕ → List ℕ → Option ErrorCode
shown_error entries begun bytes = shown_by subject.limits entries (code_at 0x8130 1000000) (history_read 1 begun bytes)

-- 0201_8210h, 0909_8130h; and no four bytes
other_errors : map (shown_error (error_entries true (Some 0)) 1010001) ((0x10 ∷ 0x82 ∷ 1 ∷ 2 ∷ []) ∷ (0x30 ∷ 0x81 ∷ 9 ∷ 9 ∷ []) ∷ (0x10 ∷ 0x82 ∷ []) ∷ []) ≡ Some (code_at 0x8210 1011001) ∷ None ∷ None ∷ []
other_errors = refl

-- requested within the tolerance; an EMCY may wait; the inhibit time isn't known; the frame may not have been an EMCY
not_later : shown_error (error_entries true (Some 0)) 1010000 (0x10 ∷ 0x82 ∷ 1 ∷ 2 ∷ []) ∷ map (λ entries. shown_error entries 1010001 (0x10 ∷ 0x82 ∷ 1 ∷ 2 ∷ [])) (error_entries true (Some 1) ∷ error_entries true None ∷ error_entries false (Some 0) ∷ [])
    ≡ None ∷ None ∷ None ∷ None ∷ []
not_later = refl

newest_errors : map is_newest_error (record { index = 0x1003; sub = 0 } ∷ record { index = 0x1003; sub = 1 } ∷ record { index = 0x1003; sub = 2 } ∷ record { index = 0x1001; sub = 1 } ∷ []) ≡ false ∷ true ∷ false ∷ false ∷ []
newest_errors = refl

-- in doubt; refused; a download
error_uploads : shows_error true (history_read 1 1 []) ∷ shows_error false (history_read 1 1 []) ∷ shows_error true (record (history_read 1 1 []) { ending = Irregular }) ∷ shows_error true (done 0x1003 1 Download []) ∷ []
    ≡ true ∷ false ∷ false ∷ false ∷ []
error_uploads = refl

abbrev with_signal : Option ErrorCode → Errors
with_signal shown = record { signalled = Some (code_at 0x8130 1000000); shown = shown }

-- the newest upload counts
read_again : map (λ bytes. errors_ended subject.limits (error_entries true (Some 0)) (with_signal (Some (code_at 0x8210 1))) true (Some (history_read 1 2000000 bytes))) ((0x30 ∷ 0x81 ∷ 0 ∷ 0 ∷ []) ∷ (0x20 ∷ 0x82 ∷ 0 ∷ 0 ∷ []) ∷ [])
    ≡ with_signal None ∷ with_signal (Some (code_at 0x8220 2001000)) ∷ []
read_again = refl

nothing_to_compare : errors_ended subject.limits (error_entries true (Some 0)) nothing_signalled true (Some (history_read 1 2000000 (0x30 ∷ 0x81 ∷ 0 ∷ 0 ∷ []))) ≡ nothing_signalled
nothing_to_compare = refl

-- by a heartbeat later than an answer may take
histories : map (λ micros. late_warning subject.limits (Some (code_at 0x8130 1)) (Some (code_at 0x8210 7)) (Some micros)) (1000007 ∷ 1000008 ∷ []) ≡ None ∷ Some (OtherError 0x8210 0x8130) ∷ []
histories = refl

-- what may delete the history, or change EMCY
changers : map (λ index. changes_errors (record { index = index; sub = 0 })) (0x1002 ∷ 0x1003 ∷ 0x1015 ∷ 0x1016 ∷ 0x1F50 ∷ 0x2000 ∷ []) ≡ false ∷ true ∷ true ∷ false ∷ true ∷ false ∷ []
changers = refl

abbrev request_of : ℕ → FrameContent
request_of first = record { id = 0x605; bytes = first ∷ 3 ∷ 0x10 ∷ 0 ∷ 0 ∷ 0 ∷ 0 ∷ 0 ∷ [] }

-- 0 is written to 1003:00; it is read; a segment; an answer
deleted : errors_asked Client Initiate (request_of 0x2F) (with_signal None) ∷ errors_asked Client Initiate (request_of 0x40) (with_signal None) ∷ errors_asked Client Part (request_of 0x2F) (with_signal None)
    ∷ errors_asked Server Initiate (request_of 0x2F) (with_signal None) ∷ [] ≡ nothing_signalled ∷ with_signal None ∷ with_signal None ∷ with_signal None ∷ []
deleted = refl

-- a boot-up, stopped, answers of node guarding that say so; operational, pre-operational
restarts : map is_restart (0 ∷ 4 ∷ 0x84 ∷ 5 ∷ 0x7F ∷ 0xFF ∷ []) ≡ true ∷ true ∷ true ∷ false ∷ false ∷ false ∷ []
restarts = refl
