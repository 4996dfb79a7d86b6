-- What is handed over of a document, and a loop over what contracts see by a view.
use Rattle.std.proofs.Common.{◌≡◌, ◌∙◌, ℕ, ◌+◌, ◌<◌, List, [], ◌∷◌, ◌++◌, map, length, take, get_or, Option, Some, None, refl, Result, Ok, Err, ap, append-nil}
use Rattle.std.specs.Prelude.{option_map}
use Rattle.std.specs.List.{flat_map}
use Rattle.std.specs.Result.{IfOk}
use Rattle.std.proofs.lemmas.Grind.{flat_map-append}
use Rattle.std.proofs.lemmas.List.{map_more}
use Rattle.conode_text.specs.Appended.{Appended}
use Rattle.conode_text.proofs.Appending.{both}

-- ---- the end

module _ {X Y : Type 0} (form : List X → Y) (part : List X) (given : Y) where
  formed : (begin end : Option (List X)) → begin ≡ Some [] → Appended begin part end → (all : Option (List X)) → end ≡ all → option_map form all ≡ Some given → given ≡ form part
  formed begin end e f None g h = cc
  formed begin end e f (Some all) g h =
      let i : option_map (λ text. text ++ part) begin ≡ Some all = f.whole all g in
      let j : option_map (λ text. text ++ part) begin ≡ Some part = ap (option_map (λ text. text ++ part)) e in
      let k : Some (form all) ≡ Some given = h in
      let l : all ≡ part = cc in
      cc

-- what is handed over of a document that began with nothing is the form of what was appended
pub ended_as : {X Y A E : Type 0} (r : Result A E) (form : List X → Y) (text_of : A → Y) {part : List X} {begin end : Option (List X)} → begin ≡ Some []
    → Appended begin part end → IfOk r (λ text. option_map form end ≡ Some (text_of text)) → IfOk r (λ text. text_of text ≡ form part)
ended_as (Ok text) form text_of {part = part} {begin = begin} {end = end} e f g = formed form part (text_of text) begin end e f end refl g
ended_as (Err fault) form text_of e f g = tt

-- ---- in a loop

-- one more of a list, whose elements contracts see by a view
pub one_more_view : {X Z Y : Type 0} (part : Z → List Y) (view : X → Z) (xs : List X) (i : ℕ) (d : X) {t u v : Option (List Y)} → i < length xs
    → Appended t (flat_map part (map view (take i xs))) u → Appended u (part (view (get_or xs i d))) v → Appended t (flat_map part (map view (take (i + 1) xs))) v
one_more_view part view xs i d h so_far more =
    rw (ap (flat_map part) (map_more view xs i d h) ∙ flat_map-append part (map view (take i xs)) (view (get_or xs i d) ∷ []) ∙ ap (λ ys. flat_map part (map view (take i xs)) ++ ys) (append-nil (part (view (get_or xs i d)))))
    (both so_far more)
