-- What the law about constant values asks of the entries that are compared with the data sheet
-- whatever access the sheet has them with.
use Rattle.std.specs.Prelude.{◌≡◌, ◌⊎◌, ◌==◌, ◌&&◌, ◌||◌, not, Bool, true, false, List, [], ◌∷◌}
use Rattle.std.specs.List.{AllByRecursion}
use Rattle.std.specs.Option.{option_map_or}
use Rattle.co_value.specs.declared.key.Key.{Key}
use Rattle.co_dict.specs.Rows.{Contents, Rows}
use Rattle.co_sheet.specs.Content.{Row}
use Rattle.co_node_model.specs.Device.{contents_of}
use Rattle.co_node_model.specs.Inputs.{Inputs}
use Rattle.co_node_model.specs.Moments.{Constants}
use Rattle.conode_compare_values.specs.SheetValues.{is_constant, is_read_only}
use Rattle.conode_compare_laws.specs.OtherWriters.{AllWriteNot}
use Rattle.conode_compare_laws.specs.Recordings.{Stamped}

-- the device type, the vendor-ID and the product code: 1000h, 1018:01 and 1018:02
abbrev pub is_identity : Key → Bool
is_identity key =
    (key.index == 0x1000) || ((key.index == 0x1018) && ((key.sub == 1) || (key.sub == 2)))

-- an entry is there, and isn't const
abbrev pub may_change : Rows → Key → Bool
may_change rows key = option_map_or (λ row. not (is_constant row.access)) (rows key) false

-- each of them that may change has the bytes with which the device was built
abbrev pub HasIdentity : Constants → Contents → Type 0
HasIdentity k contents =
    (key : Key) → is_identity key ≡ true → may_change k.description.rows key ≡ true
    → contents key ≡ k.start key

-- before each of these inputs, which come after those before
abbrev pub AllHaveIdentity : Constants → Inputs → List Stamped → Type 0
AllHaveIdentity k before [] = Unit {0}
AllHaveIdentity k before (s ∷ later) =
    HasIdentity k (contents_of k before) × AllHaveIdentity k (s.input ∷ before) later

-- where an entry of a data sheet is one of them, it is const there, or it is ro and the application
-- doesn't write it at these inputs
abbrev pub IsNeverWritten : List Stamped → Row → Type 0
IsNeverWritten inputs row =
    is_identity row.key ≡ true
    → (is_constant row.access ≡ true)
    ⊎ ((is_read_only row.access ≡ true) × AllWriteNot row.key inputs)

-- so each row
abbrev pub AreNeverWritten : List Stamped → List Row → Type 0
AreNeverWritten inputs rows = AllByRecursion (IsNeverWritten inputs) rows
