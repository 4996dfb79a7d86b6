-- A text in pieces: what each line becomes, and what is added (CiA 306, structure of an EDS, object
-- lists, object description, compact storage). A line that isn't changed stays as it is.
use Rattle.std.specs.Prelude.{ℕ, ◌+◌, Bool, ◌&&◌, ◌||◌, not, ◌==◌, nat_lt, if◌then◌else◌, List, [], ◌∷◌, ◌++◌, length, map, flat_map, codes, decimal, Option, Some, None, is_none, option_and_then}
use Rattle.std.specs.List.{list_all}
use Rattle.std.specs.Option.{option_or}
use Rattle.std.specs.Result.{result_ok}
use Rattle.std.specs.Char.{is_digit}
use Rattle.co_value.specs.declared.key.Key.{Key}
use Rattle.co_sheet_text.specs.declared.section_kind.SectionKind.{SectionKind}
use Rattle.co_sheet_text.specs.declared.section_kind.SectionKind.TheVariants.{Object, SubIndex}
use Rattle.co_sheet_text.specs.Names.{kind_of, is_read, is_list}
use Rattle.co_sheet_text.specs.Numerals.{unsigned_number}
use Rattle.co_sheet_text.specs.Text.{Line, is_empty, same_name}
use Rattle.co_sheet.specs.ObjectLists.{is_one_of}
use Rattle.co_sheet_changes.specs.declared.change.ChangeKind.{ChangeKind}
use Rattle.co_sheet_changes.specs.declared.change.ChangeKind.TheVariants as kind
use Rattle.co_sheet_changes.specs.Pieces.{Mended, mended, assigned, Piece, added_lines, piece_of, kept_piece}
use Rattle.co_sheet_adapt.specs.declared.facts.Facts.{Facts}
use Rattle.co_sheet_changes.specs.Groups.{Group, is_end_mark, property_in, value_in, number_in_group, without_blanks, before_sections, groups_of}
use Rattle.co_sheet_adapt.specs.Facts.{facts_of}
use Rattle.co_sheet_adapt.specs.Entries.{entry_change}
use Rattle.co_sheet_adapt.specs.Meant.{all_meant}
use Rattle.co_sheet_adapt.specs.Named.{own_in_groups, text_in_groups}
use Rattle.co_sheet_adapt.specs.Compact.{compact_text, is_mapping}
use Rattle.co_sheet_adapt.specs.CompactPdo.{PdoForm, pdo_form, pdo_change, pdo_added}

-- ---- object lists

-- digits without leading zeros
abbrev pub stripped : List ℕ → List ℕ
stripped [] = []
stripped (b ∷ bs) = if b == 48 then stripped bs else b ∷ bs

-- a place in an object list, but for leading zeros
abbrev pub is_padded : List ℕ → Bool
is_padded name =
    list_all (λ c. is_digit c 10) name && not (is_empty (stripped name))
    && nat_lt (length (stripped name)) (length name)

abbrev pub list_change : List ℕ → List ℕ → Option Mended
list_change name value =
    if is_padded name then Some (mended kind.ListKey (assigned (stripped name) value)) else None

-- ---- section lines

-- a section that is read without the blanks in its name alone
abbrev pub is_renamed : Group → Bool
is_renamed g = is_read g.kind && not (is_read (kind_of g.name))

abbrev pub head_text : Group → List ℕ
head_text g =
    (if is_renamed g then codes "[" ++ without_blanks g.name ++ codes "]" else g.head.bytes) ++ 10 ∷ []

-- sub-index 0 of 1003h and of the mappings of PDOs is written, of other objects it is read
abbrev pub is_written_first : ℕ → Bool
is_written_first index = (index == 0x1003) || is_mapping index

abbrev pub access_line : ℕ → List ℕ
access_line index =
    if is_written_first index then codes "AccessType=rw\n" else codes "AccessType=ro\n"

-- a line where the section has no value at a name
abbrev pub missing_key : List ℕ → List ℕ → Group → List ℕ
missing_key name line g = if is_none (value_in name g.body) then line else []

-- what the section of a sub-index 0 lacks; a DOMAIN lacks nothing
abbrev pub missing_at : ℕ → Group → List ℕ
missing_at index g =
    missing_key (codes "DataType") (codes "DataType=0x0005\n") g
    ++ missing_key (codes "AccessType") (access_line index) g

abbrev pub missing_of : SectionKind → Group → List ℕ
missing_of (SubIndex key) g =
    if (key.sub == 0) && not (is_one_of (2 ∷ []) (number_in_group (codes "ObjectType") g))
    then missing_at key.index g
    else []
missing_of kind g = []

abbrev pub missing_lines : Group → List ℕ
missing_lines g = missing_of g.kind g

abbrev pub head_kind : List ℕ → ChangeKind
head_kind missing = if is_empty missing then kind.SectionName else kind.SubIndex0

abbrev pub head_change : Group → Option Mended
head_change g =
    if is_empty (missing_lines g) && not (is_renamed g) then None
    else Some (mended (head_kind (missing_lines g)) (head_text g ++ missing_lines g))

-- ---- the other lines

-- an object in compact form has no section of a sub-index to count, so SubNumber is 0
abbrev pub is_zero : List ℕ → Bool
is_zero value = is_one_of (0 ∷ []) (result_ok (unsigned_number value))

abbrev pub compact_change : ℕ → ℕ → List ℕ → List ℕ → Option Mended
compact_change index count name value =
    if same_name name (codes "CompactSubObj")
    then Some (mended (kind.CompactSubObj index count) (assigned name (codes "0")))
    else if same_name name (codes "SubNumber") && is_zero value
    then Some (mended (kind.CompactSubObj index count) (assigned name (decimal (count + 1))))
    else None

-- of a list, of an entry, and of a section that is neither
abbrev pub other_change : SectionKind → Facts → List ℕ → List ℕ → Option Mended
other_change k facts name value =
    if is_list k then list_change name value
    else if facts.is_entry then entry_change facts name value
    else None

-- what an object in compact form says of its sub-indices is changed in its own section too
abbrev pub form_change : SectionKind → Option ℕ → List ℕ → List ℕ → Option Mended
form_change (Object index) (Some count) name value = compact_change index count name value
form_change k count name value = None

abbrev pub given_change : SectionKind → Facts → List ℕ → List ℕ → Option Mended
given_change k facts name value =
    option_or (form_change k facts.compact name value) (other_change k facts name value)

-- PDOs in compact form also change lines of two sections
abbrev pub line_change : Option PdoForm → SectionKind → Facts → List ℕ → List ℕ → Option Mended
line_change pdos k facts name value =
    option_or (pdo_change pdos k name value) (given_change k facts name value)

abbrev pub property_change : Option PdoForm → SectionKind → Facts → Line → Option Mended
property_change pdos k facts line =
    option_and_then (λ given. line_change pdos k facts given.name given.value) (property_in line)

-- a line that is nothing but an end mark of DOS is dropped
abbrev pub line_piece : Option PdoForm → SectionKind → Facts → Line → Piece
line_piece pdos k facts line =
    piece_of line
    (if is_end_mark line then Some (mended kind.EndMark []) else property_change pdos k facts line)

-- ---- sections, and all of them

abbrev pub added_at : SectionKind → Option ℕ → (ℕ → ℕ → List ℕ) → ℕ → List Piece
added_at (Object index) (Some count) text line = added_lines line (text index count) ∷ []
added_at k count text line = []

abbrev pub added : (Key → Option (List ℕ)) → (Key → Option (List ℕ)) → (Key → Option (List ℕ))
    → Facts → Group → List Piece
added own names values facts g =
    added_at g.kind facts.compact (compact_text own names values facts g) g.head.number

abbrev pub own_pieces : Option PdoForm → Facts → Group → List Piece
own_pieces pdos facts g = piece_of g.head (head_change g) ∷ map (line_piece pdos g.kind facts) g.body

abbrev pub group_pieces : (Key → Option (List ℕ)) → (Key → Option (List ℕ))
    → (Key → Option (List ℕ)) → Option PdoForm → Group → List Piece
group_pieces own names values pdos g =
    own_pieces pdos (facts_of g) g ++ added own names values (facts_of g) g ++ pdo_added pdos g

abbrev pub sections_pieces : List Group → List Piece
sections_pieces groups =
    flat_map
    (group_pieces (λ k. own_in_groups k groups) (λ k. text_in_groups (codes "Name") k groups)
    (λ k. text_in_groups (codes "Value") k groups) (pdo_form groups)) groups

abbrev pub all_pieces : List Line → List Piece
all_pieces lines =
    map kept_piece (before_sections lines) ++ sections_pieces (all_meant (groups_of lines))
