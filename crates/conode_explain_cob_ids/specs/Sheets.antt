-- The PDOs of a data sheet, as its entries begin (CiA 301, 7.5.2.35 to 7.5.2.38).
use Rattle.std.specs.Prelude.{ℕ, zero, suc, ◌+◌, ◌%◌, ◌^◌, ◌==◌, nat_lt, Bool, ◌&&◌, if◌then◌else◌, pos, List, [], ◌∷◌, ◌++◌, filter_map, Option, Some, None, option_and_then, option_map, unwrap_or}
use Rattle.std.specs.Option.{option_map_or}
use Rattle.co_value.specs.declared.key.Key.{Key}
use Rattle.co_profile.specs.declared.indices.IndexRange.{IndexRange}
use Rattle.co_profile.specs.Indices.{is_within, rpdo_communication, tpdo_communication}
use Rattle.co_sheet.specs.Limits.{Default, number}
use Rattle.co_sheet.specs.Content.{Row}
use Rattle.co_sheet_changes.specs.Names.{Names, row_at}
use Rattle.conode_explain_cob_ids.specs.declared.sheet.SheetPdo.{SheetPdo}
use Rattle.conode_explain_cob_ids.specs.CobIds.{cob_id_of}
use Rattle.conode_explain_cob_ids.specs.Content.{SheetMapping}

-- a number of 32 bits, without the node-ID; none where the sheet has none, also where it is at fault
abbrev pub number_of : Default → Option ℕ
number_of (number (pos n)) = if nat_lt n (2 ^ 32) then Some n else None
number_of other = None

-- the number that an entry begins with
unfoldable pub number_at : List Row → ℕ → ℕ → Option ℕ
number_at rows index sub = option_and_then (λ row. number_of row.default) (row_at rows (record { index = index; sub = sub }))

-- a word of a mapping parameter; 0, which names no entry, where the sheet has none
abbrev pub word_at : List Row → ℕ → ℕ → ℕ
word_at rows index sub = unwrap_or (number_at rows index sub) 0

-- the first words of a mapping parameter
unfoldable pub words_at : List Row → ℕ → ℕ → List ℕ
words_at rows index zero = []
words_at rows index (suc count) = words_at rows index count ++ word_at rows index (suc count) ∷ []

unfoldable pub mapping_at : List Row → ℕ → SheetMapping
mapping_at rows index = record { count = option_map (λ count. count % 256) (number_at rows index 0); words = words_at rows index 64 }

-- the COB-ID of a PDO of a kind; the index of its mapping parameter is 200h more than that of its
-- communication parameter
abbrev pub is_cob_id : IndexRange → Key → Bool
is_cob_id range key = key.sub == 1 && is_within range key.index

unfoldable pub pdo_of : List Row → IndexRange → Row → Option SheetPdo
pdo_of rows range row =
    if is_cob_id range row.key
    then option_map (λ cob_id. record { index = row.key.index; cob_id = cob_id; mapping = mapping_at rows (row.key.index + 0x200) })
    (cob_id_of row.default)
    else None

-- the PDOs of a sheet: those that it sends, and then those that it receives, by index
unfoldable pub pdos_in : List Row → List SheetPdo
pdos_in rows = filter_map (pdo_of rows tpdo_communication) rows ++ filter_map (pdo_of rows rpdo_communication) rows

unfoldable pub sheet_pdos : Names → List SheetPdo
sheet_pdos names = option_map_or (λ sheet. pdos_in sheet.rows) names.sheet []
