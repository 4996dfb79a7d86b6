-- A step of a loop that appends what each element gives, and what is handed over at the end.
use Rattle.std.proofs.Common.{◌≡◌, ◌∙◌, ℕ, ◌+◌, ◌<◌, List, [], ◌∷◌, ◌++◌, Option, Some, Ok, map, length, take, get_or, replicate, append_assoc, ap, sym}
use Rattle.std.specs.List.{flat_map, fold}
use Rattle.std.proofs.lemmas.Grind.{fold-append}
use Rattle.std.proofs.lemmas.List.{flat_map_more, map_more, replicate_more, take_more}
use Rattle.conode_text.specs.Appended.{Appended}
use Rattle.conode_text.proofs.Appending.{ended}

pub appended_more : {X Y : Type 0} (f : X → List Y) (xs : List X) (i : ℕ) (d : X) (base before after : List Y) → i < length xs
    → before ≡ base ++ flat_map f (take i xs) → after ≡ before ++ f (get_or xs i d) → after ≡ base ++ flat_map f (take (i + 1) xs)
appended_more f xs i d base before after h so_far more =
    more ∙ ap (λ l. l ++ f (get_or xs i d)) so_far ∙ flat_map_more f base (take i xs) (get_or xs i d)
    ∙ ap (λ l. base ++ flat_map f l) (sym (take_more xs i d h))

pub folded_more : {X Z Y : Type 0} (f : Y → Z → Y) (view : X → Z) (xs : List X) (i : ℕ) (d : X) (begun before after : Y) → i < length xs
    → before ≡ fold f begun (map view (take i xs)) → after ≡ f before (view (get_or xs i d)) → after ≡ fold f begun (map view (take (i + 1) xs))
folded_more f view xs i d begun before after h so_far more =
    more ∙ ap (λ y. f y (view (get_or xs i d))) so_far ∙ sym (fold-append f begun (map view (take i xs)) (view (get_or xs i d) ∷ []))
    ∙ ap (fold f begun) (sym (map_more view xs i d h))

pub replicated_more : {Y : Type 0} (y : Y) (n : ℕ) (base before after : List Y) → before ≡ base ++ replicate n y → after ≡ before ++ y ∷ [] → after ≡ base ++ replicate (n + 1) y
replicated_more y n base before after so_far more =
    more ∙ ap (λ l. l ++ y ∷ []) so_far ∙ append_assoc base (replicate n y) (y ∷ []) ∙ ap (λ l. base ++ l) (replicate_more n y)

-- what is handed over of a text that began with nothing is what was appended
pub handed : {X : Type 0} (all part : List X) (begin end : Option (List X)) → begin ≡ Some [] → Appended begin part end → end ≡ Some all → all ≡ part
handed {X = X} all part begin end e f g = ended {E = ℕ} (Ok all) (λ (text : List X). text) {part = part} {begin = begin} {end = end} e f g
