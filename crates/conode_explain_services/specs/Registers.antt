-- The bits of the error register, object 1001h (CiA 301, 7.5.2.2), and which came and went since
-- the node's last emergency.
use Rattle.std.specs.Prelude.{ℕ, ◌-◌, ◌==◌, if◌then◌else◌, bit_and, List, [], ◌∷◌, ◌++◌, codes, Option, Some, None}
use Rattle.conode_text.specs.Filled.{filled}
use Rattle.conode_explain_services.specs.declared.registers.Bit.{Bit}
use Rattle.conode_explain_services.specs.Parts.{words_in}

-- the bits; a place is 1 for the lowest one, then 2, 4, ..
unfoldable pub bit_word : ℕ → List ℕ
bit_word place =
    words_in
    ((0x01, codes "generic") ∷ (0x02, codes "current") ∷ (0x04, codes "voltage") ∷ (0x08, codes "temperature")
    ∷ (0x10, codes "communication") ∷ (0x20, codes "device profile") ∷ (0x40, codes "reserved bit 6")
    ∷ (0x80, codes "manufacturer") ∷ [])
    place

-- the word of a bit where it is set, after a comma unless it is the lowest one that is
unfoldable pub bit_text : ℕ → ℕ → List ℕ
bit_text register place =
    if bit_and register place == 0 then []
    else (if bit_and register (place - 1) == 0 then bit_word place else filled (codes ", %") (bit_word place ∷ []))

-- of a register and a place
abbrev pub text_of_bit : Bit → List ℕ
text_of_bit bit = bit_text bit.0 bit.1

-- the words of all bits that are set
unfoldable pub bits_text : ℕ → List ℕ
bits_text register =
    filled (codes "%%%%%%%%")
    (bit_text register 0x01 ∷ bit_text register 0x02 ∷ bit_text register 0x04 ∷ bit_text register 0x08
    ∷ bit_text register 0x10 ∷ bit_text register 0x20 ∷ bit_text register 0x40 ∷ bit_text register 0x80 ∷ [])

-- which errors there are
abbrev pub errors_text : ℕ → List ℕ
errors_text register = if register == 0 then codes "no error" else bits_text register

-- those of them that weren't there before
abbrev pub without : ℕ → ℕ → ℕ
without register others = bit_and register (255 - others)

-- bits that changed, where there are some
abbrev pub changed_text : List ℕ → ℕ → List ℕ
changed_text word bits = if bits == 0 then [] else word ++ bits_text bits

-- which came and which went since the node's last emergency, where there was one
abbrev pub changes_text : Option ℕ → ℕ → List ℕ
changes_text None register = []
changes_text (Some last) register =
    changed_text (codes "; came: ") (without register last) ++ changed_text (codes "; went: ") (without last register)

-- the register of an emergency, after that of the node's last one
unfoldable pub register_text : Option ℕ → ℕ → List ℕ
register_text last register = errors_text register ++ changes_text last register
