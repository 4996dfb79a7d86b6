-- A channel over a small dictionary, whose exchanges are computed from the definitions.
use Rattle.std.proofs.Common.{ℕ, List, [], ◌∷◌, codes, Some, None, Option, false, map}
use Rattle.std.specs.Prelude.{pos, ◌+◌, ◌-◌, ◌*◌, nat_lt, if◌then◌else◌}
use Rattle.co_value.specs.declared.key.Key.{Key}
use Rattle.co_value.specs.Keys.{same_key}
use Rattle.co_value.specs.declared.data_type.DataType.{DataType}
use Rattle.co_value.specs.declared.data_type.DataType.TheVariants.{Unsigned8, Unsigned16, Unsigned32, VisibleString, Domain}
use Rattle.co_profile.specs.declared.access.Access.{Access}
use Rattle.co_profile.specs.declared.access.Access.TheVariants.{Ro, Wo, Rw}
use Rattle.co_dict.specs.declared.row.Row.{Row}
use Rattle.co_dict.specs.Rows.{Contents}
use Rattle.co_dict.specs.Stores.{Description}
use Rattle.co_sdo.specs.Log.{answer_bytes, Exchanged, Ticked, TimedOut, Dropped, Log}
use Rattle.co_sdo.specs.Replies.{reply_to, time_out_reply}
use Rattle.co_sdo.specs.Completed.{set_by, contents_with, key_set}

-- ---- a small dictionary

pub record Entry : Type 0 where
  pub key : Key
  pub row : Row
  pub bytes : List ℕ

abbrev pub at : ℕ → ℕ → Key
at index sub = record { index = index; sub = sub }

abbrev pub entry : Key → DataType → Access → ℕ → ℕ → List ℕ → Entry
entry key data_type access high capacity bytes = record {
  key = key;
  row = record { data_type = data_type; access = access; low = pos 0; high = pos high; capacity = capacity; mappable = false };
  bytes = bytes;
}

abbrev pub entries : List Entry
entries = entry (at 0x1000 0) Unsigned32 Ro 0xFFFF_FFFF 4 (0x91 ∷ 1 ∷ 0 ∷ 0 ∷ [])
    ∷ entry (at 0x1017 0) Unsigned16 Rw 0xFFFF 2 (0 ∷ 0 ∷ [])
    ∷ entry (at 0x1018 0) Unsigned8 Ro 0xFF 1 (1 ∷ [])
    ∷ entry (at 0x2001 0) VisibleString Rw 0 16 []
    ∷ entry (at 0x2002 0) Unsigned32 Rw 0xFFFF_FFFF 4 (0xEF ∷ 0xBE ∷ 0xAD ∷ 0xDE ∷ [])
    ∷ entry (at 0x2003 0) Unsigned16 Rw 1000 2 (0 ∷ 0 ∷ [])
    ∷ entry (at 0x2004 0) Unsigned16 Wo 0xFFFF 2 (0 ∷ 0 ∷ [])
    ∷ entry (at 0x2100 0) Domain Rw 0 10 []
    ∷ entry (at 0x2101 0) Domain Rw 0 889 []
    ∷ entry (at 0x2102 0) VisibleString Ro 0 10 (codes "0123456789")
    ∷ entry (at 0x2103 0) VisibleString Ro 0 7 (codes "0123456")
    ∷ []

abbrev pub row_in : List Entry → Key → Option Row
row_in [] key = None
row_in (e ∷ es) key = if same_key key e.key then Some e.row else row_in es key

abbrev pub bytes_in : List Entry → Key → Option (List ℕ)
bytes_in [] key = None
bytes_in (e ∷ es) key = if same_key key e.key then Some e.bytes else bytes_in es key

abbrev pub dictionary : Description
dictionary = record {
  node = 5;
  rows = row_in entries;
  initial = bytes_in entries;
  dummies = λ _. false;
  keys = map (λ e. e.key) entries;
}

-- ---- a channel over it

pub record Run : Type 0 where
  pub contents : Contents
  pub log : Log

abbrev pub start : Run
start = record { contents = bytes_in entries; log = [] }

-- eight bytes are received
abbrev pub received : List ℕ → Run → Run
received frame run = record {
  contents = contents_with run.contents (set_by dictionary run.contents run.log frame);
  log = Exchanged (record { request = frame; contents = run.contents; answers = reply_to dictionary run.contents run.log frame }) ∷ run.log;
}

-- the time is over
abbrev pub timed_out : Run → Run
timed_out run = record { contents = run.contents; log = TimedOut (time_out_reply run.log) ∷ run.log }

abbrev pub dropped : Run → Run
dropped run = record { contents = run.contents; log = Dropped ∷ run.log }

abbrev pub ticked : Run → Run
ticked run = record { contents = run.contents; log = Ticked ∷ run.log }

-- many frames, the first one first
abbrev pub all_received : List (List ℕ) → Run → Run
all_received [] run = run
all_received (frame ∷ frames) run = all_received frames (received frame run)

-- what is answered to a frame
abbrev pub answered : List ℕ → Run → List (List ℕ)
answered frame run = map answer_bytes (reply_to dictionary run.contents run.log frame)

-- the key that a frame sets
abbrev pub set_at : List ℕ → Run → Option Key
set_at frame run = key_set (set_by dictionary run.contents run.log frame)

-- the bytes of an entry
abbrev pub bytes_at : Key → Run → Option (List ℕ)
bytes_at key run = run.contents key

-- ---- frames, as hexadecimal digits

abbrev pub digit : ℕ → ℕ
digit code = if nat_lt code 65 then code - 48 else code - 55

abbrev pub hex : List ℕ → List ℕ
hex [] = []
hex (high ∷ []) = []
hex (high ∷ low ∷ digits) = (16 * digit high + digit low) ∷ hex digits

abbrev pub one : List ℕ → List (List ℕ)
one digits = hex digits ∷ []
