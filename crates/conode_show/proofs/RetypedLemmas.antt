-- The sections of a text with its original types, from a table of them.
use Rattle.std.proofs.Common.{◌≡◌, ℕ, ◌+◌, ◌<◌, List, [], ◌∷◌, ◌++◌, map, length, take, get_or, ◌∙◌, ap, sym}
use Rattle.std.specs.Prelude.{Option}
use Rattle.std.proofs.lemmas.List.{map-append, map_more}
use Rattle.co_sheet_text.specs.LinesAtFault.{sections_read}
use Rattle.co_sheet_text.specs.Text.{lines_of}
use Rattle.co_sheet_changes.specs.Originals.{original_at}
use Rattle.co_sheet_text.specs.Sections.{TextSection}
use Rattle.conode_show.specs.Shown.{retyped, sections_of}

pub retyped_same : (text : List ℕ) (originals : ℕ → Option (List ℕ)) (parsed sections : List TextSection) → ((line : ℕ) → originals line ≡ original_at text line) → parsed ≡ sections_read (lines_of text) → sections ≡ map (retyped originals) parsed → sections ≡ sections_of text
unfolding sections_of
retyped_same text originals parsed sections each same e =
    e ∙ ap (map (retyped originals)) same
    ∙ ap (λ (o : ℕ → Option (List ℕ)). map (retyped o) (sections_read (lines_of text))) (λ i line. each line i)

-- one more of a list that is made of what each element gives
pub made_more : {X Y Z W : Type 0} (seen : W → Z) (f : Y → Z) (view : X → Y) (xs : List X) (i : ℕ) (d : X) (before after : List W) → i < length xs
    → map seen before ≡ map f (map view (take i xs)) → map seen after ≡ map seen before ++ f (view (get_or xs i d)) ∷ [] → map seen after ≡ map f (map view (take (i + 1) xs))
made_more seen f view xs i d before after h so_far more =
    more ∙ ap (λ zs. zs ++ f (view (get_or xs i d)) ∷ []) so_far ∙ sym (map-append f (map view (take i xs)) (view (get_or xs i d) ∷ []))
    ∙ ap (map f) (sym (map_more view xs i d h))
