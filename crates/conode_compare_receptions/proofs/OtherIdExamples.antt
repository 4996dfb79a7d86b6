-- Which identifiers a device has besides those of its RPDOs, on both sides of each edge, computed from the definitions.
use Rattle.std.proofs.Common.{◌≡◌, ℕ, true, false, List, [], ◌∷◌, map, Some, None, refl}
use Rattle.std.specs.Prelude.{pos}
use Rattle.co_profile.specs.declared.access.Access.TheVariants.{Rw}
use Rattle.co_sheet.specs.Content.{Row}
use Rattle.co_sheet.specs.Limits.{Default, absent, number, node_id}
use Rattle.co_value.specs.declared.data_type.DataType.TheVariants.{Unsigned32}
use Rattle.co_value.specs.declared.key.Key.{Key}
use Rattle.conode_explain_transfers.specs.declared.ended.Ended.{Ended}
use Rattle.conode_explain_transfers.specs.declared.ended.Ending.{Ending}
use Rattle.conode_explain_transfers.specs.declared.ended.Ending.TheVariants.{Done, Unanswered}
use Rattle.conode_explain_transfers.specs.declared.kinds.Direction.TheVariants.{Download}
use Rattle.conode_explain_transfers.specs.declared.kinds.Protocol.{Protocol}
use Rattle.conode_explain_transfers.specs.declared.kinds.Protocol.TheVariants.{Expedited, Segmented}
use Rattle.conode_compare_receptions.specs.declared.other_ids.OtherIds.{OtherIds}
use Rattle.conode_compare_receptions.specs.OtherIds.{has_further_ids, ids_asked, ids_ended, may_use, other_ids_of, unknown_ids}

abbrev row : ℕ → ℕ → Default → Row
row index sub default = record {
  key = record { index = index; sub = sub };
  data_type = Unsigned32;
  access = Rw;
  low = None;
  high = None;
  default = default;
  mappable = false;
  name = None;
  line = 1;
}

-- bit 30 has no meaning here, nor has bit 31; 0 says nothing, nor does what isn't a number
abbrev rows : List Row
rows = row 0x1005 0 (number (pos 0x40000080)) ∷ row 0x1012 0 (number (pos 0x80000100)) ∷ row 0x1014 0 (node_id 0x80)
    ∷ row 0x1800 1 (node_id 0x180) ∷ row 0x1801 1 (number (pos 0x80000000)) ∷ row 0x1802 1 absent ∷ []

sheet : other_ids_of rows 5 true ≡ record { sync = Some 0x80; time = Some 0x100; emergency = Some 0x85; first = Some 0x185; second = None; third = None; fourth = Some 0 }
unfolding other_ids_of
sheet = refl

-- other values may be stored; what isn't in the sheet isn't there either way
stored : other_ids_of rows 5 false ≡ record unknown_ids { fourth = Some 0 }
unfolding other_ids_of
stored = refl

further : map (λ sub. has_further_ids (row 0x1804 sub absent ∷ [])) (1 ∷ 2 ∷ []) ≡ true ∷ false ∷ []
further = refl

-- ---- identifiers

abbrev ids : OtherIds
ids = record { sync = Some 0x80; time = Some 0x100; emergency = Some 0x85; first = Some 0x185; second = Some 0x285; third = Some 0x385; fourth = Some 0 }

uses : map (λ id. may_use id ids) (0x80 ∷ 0x100 ∷ 0x85 ∷ 0x185 ∷ 0x285 ∷ 0x385 ∷ 0x485 ∷ []) ≡ true ∷ true ∷ true ∷ true ∷ true ∷ true ∷ false ∷ []
uses = refl

unknown : may_use 0x485 (record ids { fourth = None }) ≡ true
unknown = refl

-- ---- transfers

abbrev at : ℕ → ℕ → Key
at index sub = record { index = index; sub = sub }

asked : map (λ key. may_use 0x485 (ids_asked ids key)) (at 0x1005 0 ∷ at 0x1012 0 ∷ at 0x1014 0 ∷ at 0x1800 1 ∷ at 0x1803 1 ∷ at 0x1005 1 ∷ at 0x1800 2 ∷ at 0x1804 1 ∷ [])
    ≡ true ∷ true ∷ true ∷ true ∷ true ∷ false ∷ false ∷ false ∷ []
asked = refl

abbrev ended : Protocol → Ending → Key → List ℕ → Ended
ended protocol ending key bytes = record {
  key = key;
  direction = Download;
  protocol = protocol;
  bytes = 4;
  first = record { items = bytes };
  frames = 2;
  begun = 1;
  newest = 1;
  end = 2;
  ending = ending;
  fault = None;
}

-- four bytes; one byte isn't enough
shown : map (λ bytes. (ids_ended ids (ended Expedited (Done false) (at 0x1803 1) bytes)).fourth) ((0x85 ∷ 4 ∷ 0 ∷ 0x40 ∷ []) ∷ (0x85 ∷ []) ∷ []) ≡ Some 0x485 ∷ None ∷ []
shown = refl

-- without an answer, in segments, of another sub-index
not_shown : (ids_ended ids (ended Expedited Unanswered (at 0x1803 1) (0x85 ∷ 4 ∷ 0 ∷ 0 ∷ [])) ≡ ids) × (ids_ended ids (ended Segmented (Done false) (at 0x1803 1) (0x85 ∷ 4 ∷ 0 ∷ 0 ∷ [])) ≡ ids)
    × (ids_ended ids (ended Expedited (Done false) (at 0x1803 2) (0x85 ∷ 4 ∷ 0 ∷ 0 ∷ [])) ≡ ids)
not_shown = (refl, refl, refl)
