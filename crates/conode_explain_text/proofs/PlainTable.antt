-- The table of bytes that stay as they are.
use Rattle.std.proofs.Common.{◌≡◌, ℕ, ◌<◌, Bool, false, List, map, get_or, refl, ap, ◌∙◌, arith}
use Rattle.std.specs.List.{range_with_len}
use Rattle.std.proofs.lemmas.List.FromFn.{get_or-map-range_with_len}
use Rattle.conode_explain_text.specs.declared.said.TheConstants.{PLAIN}
use Rattle.conode_explain_text.specs.Said.{is_plain}

table : PLAIN ≡ map is_plain (range_with_len 0 256)
table = refl

pub looked_up : (byte : ℕ) → byte < 256 → get_or PLAIN byte false ≡ is_plain byte
looked_up byte below =
    ap (λ (plain : List Bool). get_or plain byte false) table ∙ get_or-map-range_with_len is_plain 0 256 byte byte false below (omega arith)
