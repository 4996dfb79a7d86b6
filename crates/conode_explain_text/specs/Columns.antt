-- The columns of a line between its times and what it says: interface, identifier, length and data.
use Rattle.std.specs.Prelude.{ℕ, ◌+◌, ◌-◌, ◌*◌, nat_le, ◌&&◌, if◌then◌else◌, List, [], ◌∷◌, ◌++◌, length, codes, decimal, replicate}
use Rattle.std.specs.List.{flat_map}
use Rattle.co_text.specs.Printed.{byte_text, digits_text}
use Rattle.conode_record.specs.declared.content.Content.{Content}
use Rattle.conode_record.specs.declared.content.Content.TheVariants.{Data, Remote, Fd}
use Rattle.conode_record.specs.declared.fields.Identifier.{Identifier}
use Rattle.conode_record.specs.declared.fields.Identifier.TheVariants.{Base, Extended, Error}

-- a byte of a name: one that isn't printable is a backslash, an x and two digits
abbrev pub escaped : ℕ → List ℕ
escaped byte = if nat_le 0x21 byte && nat_le byte 0x7E then byte ∷ [] else codes "\\x" ++ byte_text byte

-- a name
abbrev pub escaped_name : List ℕ → List ℕ
escaped_name name = flat_map escaped name

-- an identifier: three digits, or eight; an error frame is eight digits with bit 29 set
abbrev pub id_text : Identifier → List ℕ
id_text (Base id) = digits_text 16 3 id
id_text (Extended id) = digits_text 16 8 id
id_text (Error class) = digits_text 16 8 (class + 0x20000000)

-- a byte after a blank
abbrev pub blank_byte : ℕ → List ℕ
blank_byte byte = codes " " ++ byte_text byte

-- a length in brackets
abbrev pub length_text : ℕ → List ℕ
length_text count = codes "[" ++ decimal count ++ codes "]"

-- the length, each byte, and blanks up to where eight bytes end
unfoldable pub bytes_text : ℕ → List ℕ → List ℕ
bytes_text count bytes = length_text count ++ flat_map blank_byte bytes ++ replicate (24 - 3 * length bytes) 32

-- a frame's length and data; a remote frame has a length alone
abbrev pub content_text : Content → List ℕ
content_text (Data bytes) = bytes_text (length bytes) bytes
content_text (Remote count) = bytes_text count []
content_text (Fd flags bytes) = bytes_text (length bytes) bytes
