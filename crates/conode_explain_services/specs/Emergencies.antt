-- What an emergency says (CiA 301, 7.2.7).
use Rattle.std.specs.Prelude.{ℕ, Bool, List, [], ◌∷◌, codes, decimal, Option}
use Rattle.std.specs.List.{flat_map}
use Rattle.co_text.specs.Printed.{byte_text, digits_text}
use Rattle.co_frame.specs.declared.emergency.Emergency.{Emergency}
use Rattle.conode_text.specs.Filled.{filled}
use Rattle.conode_explain_services.specs.declared.emergencies.Part.{Part}
use Rattle.conode_explain_services.specs.declared.emergencies.Part.TheVariants.{Node, Code, CodeWords, Register, RegisterWords, Bytes}
use Rattle.conode_explain_services.specs.Codes.{code_words}
use Rattle.conode_explain_services.specs.Registers.{register_text}

abbrev pub part_text : Part → List ℕ
part_text (Node node) = decimal node
part_text (Code code) = digits_text 16 4 code
part_text (CodeWords drive code) = code_words drive code
part_text (Register register) = digits_text 16 2 register
part_text (RegisterWords last register) = register_text last register
part_text (Bytes bytes) = flat_map byte_text bytes.now

-- of a node that is a drive or isn't, and whose last one had this register: the code, the register, and the
-- manufacturer's bytes
unfoldable pub emergency_words : Bool → ℕ → Option ℕ → Emergency → List ℕ
emergency_words drive node last emergency =
    filled (codes "EMCY node % code %% register % (%) manufacturer %")
    (decimal node ∷ digits_text 16 4 emergency.code ∷ code_words drive emergency.code ∷ digits_text 16 2 emergency.register
    ∷ register_text last emergency.register ∷ flat_map byte_text emergency.manufacturer ∷ [])
