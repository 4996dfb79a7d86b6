-- The data of a PDO: the bytes of the mapped objects, one after another, and the parts that data
-- are cut into (CiA 301, 7.2.2 and 7.5.2.36).
use Rattle.std.specs.Prelude.{ℕ, Bool, false, ◌||◌, nat_lt, is_some, unwrap_or, Option, Some, None, Result, Ok, Err, List, [], ◌∷◌, map, length, take, drop, if◌then◌else◌}
use Rattle.std.specs.Option.{option_map_or}
use Rattle.std.specs.List.{concat, list_any, zip}
use Rattle.std.proofs.Math.ListN.{replicate}
use Rattle.co_dict.specs.Rows.{Rows, Contents, written}
use Rattle.co_dict.specs.WriteRefusals.{limit_refusal}
use Rattle.co_pdo.specs.declared.mapping.Mapped.{Mapped}
use Rattle.co_pdo.specs.declared.mapping.Mapped.TheVariants.{Entry, Dummy}
use Rattle.co_pdo.specs.declared.data.PdoFault.{PdoFault}
use Rattle.co_pdo.specs.declared.data.PdoFault.TheVariants.{Short, OutOfLimits, Long}
use Rattle.co_pdo.specs.Mappings.{width_in, total_of}

-- the bytes of a mapped object; those of a dummy entry are 0
abbrev pub bytes_in : Contents → Mapped → List ℕ
bytes_in contents (Entry key width) = unwrap_or (contents key) []
bytes_in contents (Dummy width) = replicate width 0

-- the bytes of all mapped objects, joined in order
abbrev pub image_of : Contents → List Mapped → List ℕ
image_of contents mapping = concat (map (bytes_in contents) mapping)

-- data cut into parts as wide as the mapped objects
abbrev pub parts_of : List Mapped → List ℕ → List (List ℕ)
parts_of [] bytes = []
parts_of (mapped ∷ mapping) bytes = take (width_in mapped) bytes ∷ parts_of mapping (drop (width_in mapped) bytes)

-- the mapped objects, each with its part of the data
abbrev pub with_parts : List Mapped → List ℕ → List (Mapped × List ℕ)
with_parts mapping bytes = zip mapping (parts_of mapping bytes)

-- a part is a number outside the limits of its entry
abbrev pub is_outside : Rows → Mapped → List ℕ → Bool
is_outside rows (Entry key width) part = option_map_or (λ row. is_some (limit_refusal row part)) (rows key) false
is_outside rows (Dummy width) part = false

-- a part of the data is outside the limits of its entry
abbrev pub any_outside : Rows → List Mapped → List ℕ → Bool
any_outside rows mapping bytes = list_any (λ p. is_outside rows p.0 p.1) (with_parts mapping bytes)

-- the contents after parts were written in order; the part of a dummy entry is skipped
abbrev pub written_in_order : Contents → List (Mapped × List ℕ) → Contents
written_in_order contents [] = contents
written_in_order contents ((Entry key width, part) ∷ parts) = written_in_order (written contents key part) parts
written_in_order contents ((Dummy width, part) ∷ parts) = written_in_order contents parts

-- the fault of data: too short, a part outside its limits, or too long
abbrev pub fault_of : Rows → List Mapped → List ℕ → Option PdoFault
fault_of rows mapping bytes =
    if nat_lt (length bytes) (total_of mapping) then Some Short
    else (if any_outside rows mapping bytes then Some OutOfLimits
    else (if nat_lt (total_of mapping) (length bytes) then Some Long else None))

-- the contents after data were received: unchanged if the data are too short or a part is outside
-- its limits, else with each part written
abbrev pub contents_after : Rows → List Mapped → List ℕ → Contents → Contents
contents_after rows mapping bytes contents =
    if nat_lt (length bytes) (total_of mapping) || any_outside rows mapping bytes then contents
    else written_in_order contents (with_parts mapping bytes)

-- the fault that a call returns, if any
abbrev pub answered : {T : Type 0} → Result T PdoFault → Option PdoFault
answered (Ok value) = None
answered (Err fault) = Some fault
