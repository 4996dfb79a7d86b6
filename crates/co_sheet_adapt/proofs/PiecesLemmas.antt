-- The pieces of a text, from those of its parts.
use Rattle.std.proofs.Common.{◌≡◌, ℕ, List, [], ◌++◌, ap, ◌∙◌, map, codes, subst}
use Rattle.std.specs.Prelude.{Option}
use Rattle.std.specs.List.{flat_map}
use Rattle.co_value.specs.declared.key.Key.{Key}
use Rattle.co_sheet_text.specs.Text.{Line}
use Rattle.co_sheet_changes.specs.Groups.{Group, before_sections, groups_of}
use Rattle.co_sheet_adapt.specs.CompactPdo.{PdoForm, pdo_form}
use Rattle.co_sheet_adapt.specs.Named.{own_in_groups, text_in_groups}
use Rattle.co_sheet_changes.specs.Pieces.{Piece, kept_piece}
use Rattle.co_sheet_adapt.specs.Meant.{all_meant}
use Rattle.co_sheet_adapt.specs.Pieces.{group_pieces, sections_pieces, all_pieces}

abbrev Texts : Type 0
Texts = Key → Option (List ℕ)

abbrev given_by : List ℕ → List Group → Texts
given_by word groups = λ k. text_in_groups word k groups

-- what holds of the pieces by tables of the sections holds of those of the sections
pub sections-put-together : (P : List Piece → Type 0) (gs : List Group) (own names values : Texts) (pdos : Option PdoForm) →
    own ≡ (λ k. own_in_groups k gs) → names ≡ given_by (codes "Name") gs → values ≡ given_by (codes "Value") gs → pdos ≡ pdo_form gs
    → P (flat_map (group_pieces own names values pdos) gs) → P (sections_pieces gs)
sections-put-together P gs own names values pdos o n v p given =
    let its : Texts = λ k. own_in_groups k gs in
    subst (λ (f : Option PdoForm). P (flat_map (group_pieces its (given_by (codes "Name") gs) (given_by (codes "Value") gs) f) gs)) p
    (subst (λ (t : Texts). P (flat_map (group_pieces its (given_by (codes "Name") gs) t pdos) gs)) v
    (subst (λ (t : Texts). P (flat_map (group_pieces its t values pdos) gs)) n
    (subst (λ (t : Texts). P (flat_map (group_pieces t names values pdos) gs)) o given)))

pub put-together : (lines : List Line) (none first all : List Piece) {front : List Line} →
    none ≡ [] → front ≡ before_sections lines → first ≡ none ++ map kept_piece front
    → all ≡ first ++ sections_pieces (all_meant (groups_of lines)) → all ≡ all_pieces lines
put-together lines none first all {front} empty cut kept rest =
    rest
    ∙ ap (λ (f : List Piece). f ++ sections_pieces (all_meant (groups_of lines)))
    (kept ∙ ap (λ (f : List Piece). f ++ map kept_piece front) empty ∙ ap (map kept_piece) cut)
