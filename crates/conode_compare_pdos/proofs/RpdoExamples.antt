-- What is known of an RPDO, and which frames it receives, on both sides of each edge, computed from the definitions.
use Rattle.std.proofs.Common.{◌≡◌, ℕ, true, false, List, [], ◌∷◌, map, Some, None, refl}
use Rattle.std.specs.Prelude.{pos}
use Rattle.co_profile.specs.declared.access.Access.TheVariants.{Rw}
use Rattle.co_sheet.specs.Content.{Row}
use Rattle.co_sheet.specs.Limits.{Default, absent, number, node_id}
use Rattle.co_value.specs.declared.data_type.DataType.TheVariants.{Unsigned32}
use Rattle.conode_explain_transfers.specs.declared.ended.Ended.{Ended}
use Rattle.conode_explain_transfers.specs.declared.ended.Ending.{Ending}
use Rattle.conode_explain_transfers.specs.declared.ended.Ending.TheVariants.{Done, Unanswered}
use Rattle.conode_explain_transfers.specs.declared.kinds.Direction.{Direction}
use Rattle.conode_explain_transfers.specs.declared.kinds.Direction.TheVariants.{Download, Upload}
use Rattle.conode_explain_transfers.specs.declared.kinds.Protocol.{Protocol}
use Rattle.conode_explain_transfers.specs.declared.kinds.Protocol.TheVariants.{Expedited, Segmented}
use Rattle.conode_compare_pdos.specs.declared.rpdo.Rpdo.{Rpdo}
use Rattle.conode_compare_pdos.specs.declared.rpdos.Rpdos.{Rpdos}
use Rattle.conode_compare_pdos.specs.Rpdos.{all_at_once, another_maps, any_receives, has_few_rpdos, is_immediate, mapped_from, mapped_length, may_receive, receiver, rpdo_of, rpdo_requested, rpdo_transferred}

-- ---- a data sheet

abbrev row : ℕ → ℕ → Default → Row
row index sub default = record {
  key = record { index = index; sub = sub };
  data_type = Unsigned32;
  access = Rw;
  low = None;
  high = None;
  default = default;
  mappable = false;
  name = None;
  line = 1;
}

-- of type 255, with two objects: 2000:00 of two bytes, 2001:00 of one
abbrev rows : List Row
rows = row 0x1400 0 (number (pos 2)) ∷ row 0x1400 1 (node_id 0x200) ∷ row 0x1400 2 (number (pos 255))
    ∷ row 0x1600 0 (number (pos 2)) ∷ row 0x1600 1 (number (pos 0x20000010)) ∷ row 0x1600 2 (number (pos 0x20010008)) ∷ []

abbrev first : Rpdo
first = rpdo_of rows 5 true 0

known : (first.cob_id ≡ Some 0x205) × (first.kind ≡ Some 255) × (first.inhibit ≡ Some 0) × (mapped_length first ≡ Some 3)
unfolding rpdo_of mapped_from
known = (refl, refl, refl, refl)

-- other values may be stored; what isn't in the sheet isn't there either way
stored : ((rpdo_of rows 5 false 0).cob_id ≡ None) × ((rpdo_of rows 5 false 0).kind ≡ None) × ((rpdo_of rows 5 false 0).inhibit ≡ Some 0)
    × (mapped_length (rpdo_of rows 5 false 0) ≡ None)
unfolding rpdo_of mapped_from
stored = (refl, refl, refl, refl)

missing : map (may_receive 0x305) (rpdo_of rows 5 false 1 ∷ rpdo_of rows 5 false 0 ∷ []) ≡ false ∷ true ∷ []
unfolding rpdo_of
missing = refl

-- 80000000h, which says nothing, and a COB-ID that isn't valid
unplaced : map (λ cob_id. (rpdo_of (row 0x1400 1 (number (pos cob_id)) ∷ []) 5 true 0).cob_id) (0x80000000 ∷ 0 ∷ 0x80000800 ∷ 0x80000205 ∷ 0x205 ∷ [])
    ≡ None ∷ None ∷ None ∷ Some 0x80000205 ∷ Some 0x205 ∷ []
unfolding rpdo_of
unplaced = refl

inhibited : (rpdo_of (row 0x1400 1 (number (pos 0x205)) ∷ row 0x1400 3 (number (pos 10)) ∷ []) 5 true 0).inhibit ≡ Some 10
unfolding rpdo_of
inhibited = refl

-- one of the first four, and none after them
few : map has_few_rpdos ([] ∷ rows ∷ (row 0x1403 1 absent ∷ []) ∷ (row 0x1403 1 absent ∷ row 0x1404 1 absent ∷ []) ∷ (row 0x1403 1 absent ∷ row 0x15FF 1 absent ∷ [])
    ∷ (row 0x1403 1 absent ∷ row 0x1600 1 absent ∷ []) ∷ (row 0x1403 2 absent ∷ []) ∷ (row 0x1403 1 absent ∷ row 0x1404 2 absent ∷ []) ∷ [])
    ≡ false ∷ true ∷ true ∷ false ∷ false ∷ true ∷ false ∷ true ∷ []
unfolding has_few_rpdos
few = refl

-- ---- the mapping

abbrev rpdo : Rpdo
rpdo = record {
  cob_id = Some 0x205;
  kind = Some 255;
  inhibit = Some 0;
  count = Some 2;
  objects = Some 0x20000010 ∷ Some 0x20010008 ∷ None ∷ None ∷ None ∷ None ∷ None ∷ None ∷ [];
  changed = None;
}

-- no object, nine, those of a multiplexed PDO; one that isn't known
counts : map (λ count. mapped_length (record rpdo { count = count })) (Some 0 ∷ Some 1 ∷ Some 3 ∷ Some 9 ∷ Some 254 ∷ None ∷ []) ≡ None ∷ Some 2 ∷ None ∷ None ∷ None ∷ None ∷ []
unfolding mapped_from
counts = refl

-- finer than a byte; eight bytes, and nine
lengths : map (λ word. mapped_length (record rpdo { count = Some 2; objects = Some 0x20000010 ∷ Some word ∷ None ∷ [] })) (0x20010001 ∷ 0x20010030 ∷ 0x20010038 ∷ []) ≡ None ∷ Some 8 ∷ None ∷ []
unfolding mapped_from
lengths = refl

all_eight : mapped_length (record rpdo { count = Some 8; objects = map Some (8 ∷ 8 ∷ 8 ∷ 8 ∷ 8 ∷ 8 ∷ 8 ∷ 8 ∷ []) }) ≡ Some 8
unfolding mapped_from
all_eight = refl

-- ---- identifiers

-- bit 31: it doesn't exist; bit 29: of 29 bits; bit 30 has no meaning. A COB-ID that isn't known may have any
identifiers : map (λ cob_id. may_receive 0x205 (record rpdo { cob_id = cob_id })) (Some 0x205 ∷ Some 0x206 ∷ Some 0x80000205 ∷ Some 0x20000205 ∷ Some 0x40000205 ∷ None ∷ [])
    ≡ true ∷ false ∷ false ∷ false ∷ true ∷ true ∷ []
identifiers = refl

types : map (λ kind. is_immediate (record rpdo { kind = kind })) (Some 0 ∷ Some 240 ∷ Some 253 ∷ Some 254 ∷ Some 255 ∷ None ∷ []) ≡ false ∷ false ∷ false ∷ true ∷ true ∷ false ∷ []
types = refl

times : map (λ inhibit. is_immediate (record rpdo { inhibit = inhibit })) (Some 0 ∷ Some 1 ∷ None ∷ []) ≡ true ∷ false ∷ false ∷ []
times = refl

abbrev no_rpdo : Rpdo
no_rpdo = record rpdo { cob_id = Some 0x80000000 }

abbrev one : Rpdos
one = record { first = no_rpdo; second = no_rpdo; third = rpdo; fourth = no_rpdo }

abbrev two : Rpdos
two = record one { fourth = record rpdo { cob_id = None; kind = Some 1 } }

receives : map (λ id. any_receives id one) (0x204 ∷ 0x205 ∷ []) ≡ false ∷ true ∷ []
receives = refl

may_all_receive : any_receives 0x204 two ≡ true
may_all_receive = refl

alone : (receiver 0x205 one ≡ Some rpdo) × (receiver 0x204 one ≡ None) × (receiver 0x205 two ≡ None)
alone = (refl, refl, refl)

each_of_four : map (receiver 0x205) (record one { third = no_rpdo; first = rpdo } ∷ record one { third = no_rpdo; second = rpdo } ∷ record one { third = no_rpdo; fourth = rpdo } ∷ [])
    ≡ Some rpdo ∷ Some rpdo ∷ Some rpdo ∷ []
each_of_four = refl

-- one that may be received too waits for a SYNC
at_once : (all_at_once 0x205 one ≡ true) × (all_at_once 0x205 two ≡ false) × (all_at_once 0x205 (record one { first = record rpdo { kind = Some 1; cob_id = Some 0x206 } }) ≡ true)
at_once = (refl, refl, refl)

-- another RPDO may map 2000:00: not one that doesn't exist, nor that maps nothing, or other entries
others : map (λ other. another_maps 0x205 (record { index = 0x2000; sub = 0 }) (record one { first = other }))
    (no_rpdo ∷ record rpdo { cob_id = Some 0x305 } ∷ record rpdo { cob_id = Some 0x305; count = Some 0 } ∷ record rpdo { cob_id = Some 0x305; count = None }
    ∷ record rpdo { cob_id = Some 0x305; objects = Some 0x20000110 ∷ Some 0x20010008 ∷ [] } ∷ record rpdo { cob_id = Some 0x305; objects = Some 0x20020008 ∷ None ∷ [] }
    ∷ record rpdo { cob_id = Some 0x305; objects = Some 0x20020008 ∷ Some 0x20030008 ∷ Some 0x20000010 ∷ [] } ∷ [])
    ≡ false ∷ true ∷ false ∷ true ∷ false ∷ true ∷ true ∷ []
unfolding mapped_from
others = refl

-- one of 29 bits is another one, and those that have the identifier are none
extended : (another_maps 0x205 (record { index = 0x2000; sub = 0 }) (record one { first = record rpdo { cob_id = Some 0x20000205 } }) ≡ true)
    × (another_maps 0x205 (record { index = 0x2000; sub = 0 }) two ≡ false)
unfolding mapped_from
extended = (refl, refl)

-- ---- transfers

abbrev asked : ℕ → ℕ → Rpdo
asked index sub = rpdo_requested (record { index = index; sub = sub }) 7 0 rpdo

asked_words : map (λ sub. (asked 0x1400 sub).cob_id) (1 ∷ 2 ∷ []) ≡ None ∷ Some 0x205 ∷ []
asked_words = refl

asked_type : map (λ sub. (asked 0x1400 sub).kind) (1 ∷ 2 ∷ []) ≡ Some 255 ∷ None ∷ []
asked_type = refl

asked_time : map (λ sub. (asked 0x1400 sub).inhibit) (3 ∷ 5 ∷ []) ≡ None ∷ Some 0 ∷ []
asked_time = refl

asked_mapping : map (λ sub. mapped_length (asked 0x1600 sub)) (0 ∷ 1 ∷ 8 ∷ []) ≡ None ∷ None ∷ None ∷ []
unfolding mapped_from
asked_mapping = refl

asked_when : (asked 0x1400 5).changed ≡ Some 7
asked_when = refl

-- of another RPDO
asked_other : (asked 0x1401 1 ≡ rpdo) × (asked 0x1601 0 ≡ rpdo)
asked_other = (refl, refl)

abbrev ended : Direction → Protocol → Ending → ℕ → ℕ → List ℕ → Ended
ended direction protocol ending index sub bytes = record {
  key = record { index = index; sub = sub };
  direction = direction;
  protocol = protocol;
  bytes = 4;
  first = record { items = bytes };
  frames = 2;
  begun = 1;
  newest = 1;
  end = 2;
  ending = ending;
  fault = None;
}

abbrev after : Rpdo → Ended → Rpdo
after before ended = rpdo_transferred ended 9 0 before

abbrev done : Direction → ℕ → ℕ → List ℕ → Ended
done direction index sub bytes = ended direction Expedited (Done false) index sub bytes

shown_cob_id : (after rpdo (done Upload 0x1400 1 (6 ∷ 3 ∷ 0 ∷ 0x80 ∷ []))).cob_id ≡ Some 0x80000306
shown_cob_id = refl

-- of as many bytes as the entry has
odd_cob_id : (after rpdo (done Download 0x1400 1 (6 ∷ 3 ∷ []))).cob_id ≡ None
odd_cob_id = refl

shown_type : ((after rpdo (done Download 0x1400 2 (254 ∷ []))).kind ≡ Some 254) × ((after rpdo (done Download 0x1400 2 (254 ∷ []))).changed ≡ Some 9)
shown_type = (refl, refl)

shown_time : (after rpdo (done Download 0x1400 3 (1 ∷ 2 ∷ []))).inhibit ≡ Some 0x201
shown_time = refl

-- a transfer without an answer, in segments, of another RPDO
not_done : (after rpdo (ended Download Expedited Unanswered 0x1400 2 (1 ∷ [])) ≡ rpdo) × (after rpdo (ended Download Segmented (Done false) 0x1400 2 (1 ∷ [])) ≡ rpdo)
    × (after rpdo (done Download 0x1401 2 (1 ∷ [])) ≡ rpdo)
not_done = (refl, refl, refl)

-- a mapping that is written is in force once sub-index 0 is; an upload of that doesn't show it
abbrev object_written : Rpdo
object_written = after (asked 0x1600 2) (done Download 0x1600 2 (0x10 ∷ 0 ∷ 1 ∷ 0x20 ∷ []))

not_yet : (mapped_length object_written ≡ None) × (mapped_length (after object_written (done Upload 0x1600 0 (2 ∷ []))) ≡ None)
unfolding mapped_from
not_yet = (refl, refl)

in_force : mapped_length (after object_written (done Download 0x1600 0 (2 ∷ []))) ≡ Some 4
unfolding mapped_from
in_force = refl

last_object : (after rpdo (done Upload 0x1600 8 (8 ∷ 0 ∷ 3 ∷ 0x20 ∷ []))).objects ≡ Some 0x20000010 ∷ Some 0x20010008 ∷ None ∷ None ∷ None ∷ None ∷ None ∷ Some 0x20030008 ∷ []
last_object = refl

ninth_object : (after rpdo (done Upload 0x1600 9 (8 ∷ 0 ∷ 3 ∷ 0x20 ∷ []))).objects ≡ rpdo.objects
ninth_object = refl
