-- Which entries are held, what is known of them and where an upload differs, on both sides of each edge, computed from the
-- definitions.
use Rattle.std.proofs.Common.{◌≡◌, ℕ, Bool, true, false, List, [], ◌∷◌, map, Option, Some, None, refl}
use Rattle.co_profile.specs.declared.access.Access.TheVariants.{Rw}
use Rattle.co_sheet.specs.Content.{Row}
use Rattle.co_sheet.specs.Limits.{absent}
use Rattle.co_value.specs.declared.data_type.DataType.{DataType}
use Rattle.co_value.specs.declared.data_type.DataType.TheVariants.{Boolean, Integer32, Unsigned16, Unsigned40, VisibleString}
use Rattle.co_value.specs.declared.key.Key.{Key}
use Rattle.co_value.specs.KeyTexts.{key_in}
use Rattle.conode_compare_transfers.specs.declared.dialogue.Asked.{Asked}
use Rattle.conode_explain_transfers.specs.declared.ended.Ended.{Ended}
use Rattle.conode_explain_transfers.specs.declared.ended.Ending.{Ending}
use Rattle.conode_explain_transfers.specs.declared.ended.Ending.TheVariants.{Done, Irregular, Unanswered}
use Rattle.conode_explain_transfers.specs.declared.kinds.Direction.{Direction}
use Rattle.conode_explain_transfers.specs.declared.kinds.Direction.TheVariants.{Download, Upload}
use Rattle.conode_explain_transfers.specs.declared.kinds.Protocol.{Protocol}
use Rattle.conode_explain_transfers.specs.declared.kinds.Protocol.TheVariants.{Expedited, Segmented, Block}
use Rattle.conode_compare_values.specs.declared.entries.HeldEntry.{HeldEntry}
use Rattle.conode_compare_values.specs.declared.written.Written.{Written}
use Rattle.conode_compare_values.specs.HeldWords.{held_in, held_of, words_in}
use Rattle.conode_compare_values.specs.HeldNumbers.{held_mismatch, is_restricted, nothing_written, number_at, unmapped, unmapped_from, with_process, written_heard}

-- ---- what is held

abbrev row : ℕ → ℕ → DataType → Row
row index sub data_type = record {
  key = record { index = index; sub = sub };
  data_type = data_type;
  access = Rw;
  low = None;
  high = None;
  default = absent;
  mappable = false;
  name = None;
  line = 1;
}

abbrev rows : List Row
rows = row 0x2000 0 Unsigned16 ∷ row 0x2001 0 Boolean ∷ row 0x2002 0 Unsigned40 ∷ row 0x2003 0 VisibleString ∷ row 0x2004 0x0A Integer32 ∷ []

abbrev word : HeldEntry
word = record { key = record { index = 0x2000; sub = 0 }; width = 2; mappable = false }

abbrev long : HeldEntry
long = record { key = record { index = 0x2004; sub = 0x0A }; width = 4; mappable = false }

-- "2000:00"
one_key : held_in rows (50 ∷ 48 ∷ 48 ∷ 48 ∷ 58 ∷ 48 ∷ 48 ∷ []) ≡ Some (word ∷ [])
unfolding held_of words_in key_in
one_key = refl

-- "2004:0a,2000:00"
two_keys : held_in rows (50 ∷ 48 ∷ 48 ∷ 52 ∷ 58 ∷ 48 ∷ 97 ∷ 44 ∷ 50 ∷ 48 ∷ 48 ∷ 48 ∷ 58 ∷ 48 ∷ 48 ∷ []) ≡ Some (long ∷ word ∷ [])
unfolding held_of words_in key_in
two_keys = refl

-- "", "2000:00," and "2000:0"
no_key : held_in rows [] ≡ None
unfolding held_of words_in key_in
no_key = refl

last_empty : held_in rows (50 ∷ 48 ∷ 48 ∷ 48 ∷ 58 ∷ 48 ∷ 48 ∷ 44 ∷ []) ≡ None
unfolding held_of words_in key_in
last_empty = refl

short_key : held_in rows (50 ∷ 48 ∷ 48 ∷ 48 ∷ 58 ∷ 48 ∷ []) ≡ None
unfolding held_of words_in key_in
short_key = refl

-- "2000:01" isn't in the sheet; a BOOLEAN and a string; five bytes can be held
missing : held_in rows (50 ∷ 48 ∷ 48 ∷ 48 ∷ 58 ∷ 48 ∷ 49 ∷ []) ≡ None
unfolding held_of words_in key_in
missing = refl

one_bit : held_in rows (50 ∷ 48 ∷ 48 ∷ 49 ∷ 58 ∷ 48 ∷ 48 ∷ []) ≡ None
unfolding held_of words_in key_in
one_bit = refl

five_bytes : held_in rows (50 ∷ 48 ∷ 48 ∷ 50 ∷ 58 ∷ 48 ∷ 48 ∷ []) ≡ Some (record { key = record { index = 0x2002; sub = 0 }; width = 5; mappable = false } ∷ [])
unfolding held_of words_in key_in
five_bytes = refl

string : held_in rows (50 ∷ 48 ∷ 48 ∷ 51 ∷ 58 ∷ 48 ∷ 48 ∷ []) ≡ None
unfolding held_of words_in key_in
string = refl

-- ---- what is known, and what differs

abbrev held : List HeldEntry
held = long ∷ word ∷ []

abbrev transfer : Direction → Protocol → Ending → Key → List ℕ → Option Ended
transfer direction protocol ending key bytes = Some (record {
  key = key;
  direction = direction;
  protocol = protocol;
  bytes = 2;
  first = record { items = bytes };
  frames = 2;
  begun = 1;
  newest = 1;
  end = 2;
  ending = ending;
  fault = None;
})

abbrev expedited : Direction → Key → List ℕ → Option Ended
expedited direction key bytes = transfer direction Expedited (Done false) key bytes

abbrev with : Option Ended → Written
with ended = written_heard held nothing_written true ended None

-- 0102h was written to the second of those that are held
abbrev wrote : Written
wrote = with (expedited Download word.key (2 ∷ 1 ∷ []))

known : number_at wrote (Some 1) ≡ Some 0x102
unfolding written_heard nothing_written
known = refl

other_place : number_at wrote (Some 0) ≡ None
unfolding written_heard nothing_written
other_place = refl

same : held_mismatch held wrote true (expedited Upload word.key (2 ∷ 1 ∷ [])) ≡ None
unfolding held_mismatch written_heard nothing_written
same = refl

differs : held_mismatch held wrote true (expedited Upload word.key (3 ∷ 1 ∷ [])) ≡ Some (record { key = word.key; shown = 0x103; written = 0x102 })
unfolding held_mismatch written_heard nothing_written
differs = refl

-- without its size an upload has four bytes
no_size : held_mismatch held wrote true (expedited Upload word.key (2 ∷ 1 ∷ 9 ∷ 9 ∷ [])) ≡ None
unfolding held_mismatch written_heard nothing_written
no_size = refl

too_short : held_mismatch held wrote true (expedited Upload word.key (3 ∷ [])) ≡ None
unfolding held_mismatch written_heard nothing_written
too_short = refl

-- an answer that may be one to an earlier request
uncertain : held_mismatch held wrote false (expedited Upload word.key (3 ∷ 1 ∷ [])) ≡ None
unfolding held_mismatch written_heard nothing_written
uncertain = refl

-- other protocols; of a last segment with n = 0 up to six bytes more may come
in_segments : held_mismatch held wrote true (transfer Upload Segmented (Done false) word.key (3 ∷ 1 ∷ [])) ≡ Some (record { key = word.key; shown = 0x103; written = 0x102 })
unfolding held_mismatch written_heard nothing_written
in_segments = refl

in_blocks : held_mismatch held wrote true (transfer Upload Block (Done true) word.key (3 ∷ 1 ∷ [])) ≡ Some (record { key = word.key; shown = 0x103; written = 0x102 })
unfolding held_mismatch written_heard nothing_written
in_blocks = refl

padded : held_mismatch held wrote true (transfer Upload Segmented (Done false) word.key (3 ∷ 1 ∷ 9 ∷ 9 ∷ 9 ∷ 9 ∷ 9 ∷ 9 ∷ [])) ≡ Some (record { key = word.key; shown = 0x103; written = 0x102 })
unfolding held_mismatch written_heard nothing_written
padded = refl

too_long : held_mismatch held wrote true (transfer Upload Segmented (Done false) word.key (3 ∷ 1 ∷ 9 ∷ 9 ∷ 9 ∷ 9 ∷ 9 ∷ 9 ∷ 9 ∷ [])) ≡ None
unfolding held_mismatch written_heard nothing_written
too_long = refl

-- eight bytes
abbrev eight : HeldEntry
eight = record { key = record { index = 0x2006; sub = 0 }; width = 8; mappable = false }

eight_bytes : held_mismatch (eight ∷ []) (written_heard (eight ∷ []) nothing_written true (transfer Download Segmented (Done false) eight.key (1 ∷ 0 ∷ 0 ∷ 0 ∷ 0 ∷ 0 ∷ 0 ∷ 2 ∷ [])) None)
    true (transfer Upload Segmented (Done false) eight.key (1 ∷ 0 ∷ 0 ∷ 0 ∷ 0 ∷ 0 ∷ 0 ∷ 3 ∷ [])) ≡ Some (record { key = eight.key; shown = 0x0300000000000001; written = 0x0200000000000001 })
unfolding held_mismatch written_heard nothing_written
eight_bytes = refl

irregular : held_mismatch held wrote true (transfer Upload Expedited Irregular word.key (3 ∷ 1 ∷ [])) ≡ None
unfolding held_mismatch written_heard nothing_written
irregular = refl

-- another entry, and one that isn't held
other_entry : held_mismatch held wrote true (expedited Upload long.key (3 ∷ 1 ∷ 0 ∷ 0 ∷ [])) ≡ None
unfolding held_mismatch written_heard nothing_written
other_entry = refl

not_held : held_mismatch (long ∷ []) wrote true (expedited Upload word.key (3 ∷ 1 ∷ [])) ≡ None
unfolding held_mismatch written_heard nothing_written
not_held = refl

-- the acknowledge of a download is no difference
again : held_mismatch held wrote true (expedited Download word.key (3 ∷ 1 ∷ [])) ≡ None
unfolding held_mismatch written_heard nothing_written
again = refl

-- a download without its size, in segments, without an answer, or whose answer may be one to an earlier request
wide_write : number_at (written_heard held wrote true (expedited Download word.key (2 ∷ 1 ∷ 0 ∷ 0 ∷ [])) None) (Some 1) ≡ None
unfolding written_heard nothing_written
wide_write = refl

segmented_write : number_at (written_heard held wrote true (transfer Download Segmented (Done false) word.key (3 ∷ 1 ∷ [])) None) (Some 1) ≡ Some 0x103
unfolding written_heard nothing_written
segmented_write = refl

unanswered_write : number_at (written_heard held wrote true (transfer Download Expedited Unanswered word.key (3 ∷ 1 ∷ [])) None) (Some 1) ≡ None
unfolding written_heard nothing_written
unanswered_write = refl

uncertain_write : number_at (written_heard held wrote false (expedited Download word.key (3 ∷ 1 ∷ [])) None) (Some 1) ≡ None
unfolding written_heard nothing_written
uncertain_write = refl

-- the same number again, and after a difference none
kept : number_at (written_heard held wrote true (expedited Upload word.key (2 ∷ 1 ∷ [])) None) (Some 1) ≡ Some 0x102
unfolding written_heard nothing_written
kept = refl

said_once : number_at (written_heard held wrote true (expedited Upload word.key (3 ∷ 1 ∷ [])) None) (Some 1) ≡ None
unfolding written_heard nothing_written
said_once = refl

-- ---- requests

abbrev asks : Bool → ℕ → ℕ → Option Asked
asks writes index sub = Some (record { key = record { index = index; sub = sub }; micros = 1; writes = writes; switches = false })

asked_to_read : number_at (written_heard held wrote true None (asks false 0x2000 0)) (Some 1) ≡ Some 0x102
unfolding written_heard nothing_written
asked_to_read = refl

asked_to_write : number_at (written_heard held wrote true None (asks true 0x2000 0)) (Some 1) ≡ None
unfolding written_heard nothing_written
asked_to_write = refl

writes_other : number_at (written_heard held wrote true None (asks true 0x2004 0x0A)) (Some 1) ≡ Some 0x102
unfolding written_heard nothing_written
writes_other = refl

restores : number_at (written_heard held wrote true None (asks true 0x1011 1)) (Some 1) ≡ None
unfolding written_heard nothing_written
restores = refl

loads : number_at (written_heard held wrote true None (asks true 0x1F51 1)) (Some 1) ≡ None
unfolding written_heard nothing_written
loads = refl

-- ---- PDOs

-- whether a PDO may have an entry, as the data sheet says
mapped_key : held_in (record (row 0x2000 0 Unsigned16) { mappable = true } ∷ []) (50 ∷ 48 ∷ 48 ∷ 48 ∷ 58 ∷ 48 ∷ 48 ∷ []) ≡ Some (record word { mappable = true } ∷ [])
unfolding held_of words_in key_in
mapped_key = refl

-- the identifiers that a PDO or a SYNC may have
restricted : map is_restricted (0 ∷ 0x7F ∷ 0x80 ∷ 0x100 ∷ 0x101 ∷ 0x180 ∷ 0x181 ∷ 0x580 ∷ 0x581 ∷ 0x5FF ∷ 0x600 ∷ 0x601 ∷ 0x67F ∷ 0x680 ∷ 0x6DF ∷ 0x6E0 ∷ 0x6FF ∷ 0x700 ∷ 0x701 ∷ 0x7FF ∷ [])
    ≡ true ∷ true ∷ false ∷ false ∷ true ∷ true ∷ false ∷ false ∷ true ∷ true ∷ false ∷ true ∷ true ∷ false ∷ false ∷ true ∷ true ∷ false ∷ true ∷ true ∷ []
restricted = refl

-- the first may be in a PDO, the second may not
abbrev both : List HeldEntry
both = record long { mappable = true } ∷ word ∷ []

abbrev both_written : Written
both_written = written_heard both wrote true (expedited Download long.key (4 ∷ 0 ∷ 0 ∷ 0 ∷ [])) None

abbrev numbers_in : Written → List (Option ℕ)
numbers_in written = number_at written (Some 0) ∷ number_at written (Some 1) ∷ []

before_rpdo : numbers_in both_written ≡ Some 4 ∷ Some 0x102 ∷ []
unfolding written_heard nothing_written
before_rpdo = refl

after_rpdo : numbers_in (with_process both both_written 0x205) ≡ None ∷ Some 0x102 ∷ []
unfolding written_heard nothing_written unmapped_from
after_rpdo = refl

-- a heartbeat of another node writes nothing
after_heartbeat : numbers_in (with_process both both_written 0x701) ≡ Some 4 ∷ Some 0x102 ∷ []
unfolding written_heard nothing_written
after_heartbeat = refl

all_mapped : numbers_in (unmapped (record long { mappable = true } ∷ record word { mappable = true } ∷ []) both_written) ≡ None ∷ None ∷ []
unfolding written_heard nothing_written unmapped_from
all_mapped = refl
