use Rattle.std.proofs.Common.{◌∙◌, ℕ, List, [], ◌∷◌, ◌++◌, map, take, arith, ap, sym}
use Rattle.std.proofs.lemmas.List.{map_more}
use Rattle.conode_json.specs.Characters.{windows_1252}
use Rattle.conode_json.proofs.characters.in_windows_1252.Goals as goal

pub loop-byte-preserved : goal.loop-byte-preserved
loop-byte-preserved c =
    c.in_ok-push.ensures.items ∙ ap (λ (l : List ℕ). l ++ c.windows_1252.result ∷ []) c.loop-byte.invariant
    ∙ ap (λ (character : ℕ). map windows_1252 (take c.loop-byte.byte-index c.args.line.now) ++ character ∷ []) c.windows_1252.ensures ∙ sym (map_more windows_1252 c.args.line.now c.loop-byte.byte-index 0 (omega arith))
