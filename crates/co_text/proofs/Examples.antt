-- Lines of texts, evaluated.
use Rattle.std.proofs.Common.{◌≡◌, [], ◌∷◌, ◌++◌, refl}
use Rattle.std.specs.Prelude.{codes}
use Rattle.std.specs.Str.Lines.{lines}

-- one carriage return before a line feed is dropped, and no other one
returns_and_feeds : lines (codes "a" ++ 13 ∷ 10 ∷ codes "b" ++ 13 ∷ 13 ∷ 10 ∷ 10 ∷ codes "c" ++ 13 ∷ []) ≡ codes "a" ∷ (codes "b" ++ 13 ∷ []) ∷ [] ∷ (codes "c" ++ 13 ∷ []) ∷ []
returns_and_feeds = refl

feed_at_end : lines (codes "a" ++ 10 ∷ []) ≡ codes "a" ∷ []
feed_at_end = refl
