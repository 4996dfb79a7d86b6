-- What a table of names or values gives a sub-index.
use Rattle.std.specs.Prelude.{◌≡◌, ℕ, List, Option, codes, option_map}
use Rattle.std.specs.Option.{option_copied}
use Rattle.indexmap.specs.IndexMap.{get}
use Rattle.co_value.specs.declared.key.Key.{Key}
use Rattle.co_value.specs.Keys.{same_key}
use Rattle.co_sheet_adapt.specs.declared.named.Texts.{Texts}
use Rattle.co_sheet_adapt.specs.declared.pieces.Tables.{Tables}
use Rattle.co_sheet_changes.specs.Groups.{Group}
use Rattle.co_sheet_adapt.specs.CompactPdo.{pdo_form}
use Rattle.co_sheet_adapt.specs.Named.{own_in_groups, text_in_groups}
use Rattle.co_sheet_adapt.specs.private.Pdos.{form_view}

abbrev pub texts_at : Texts → Key → Option (List ℕ)
texts_at t key = option_copied (get same_key t.texts key)

-- the names, the values and the PDOs that sections give, and the sub-indices that have one of these
-- as their own
pub record IsTablesOf (groups beside : List Group) (t : Tables) : Type 0 where
  pub own : texts_at t.own ≡ (λ k. own_in_groups k beside)
  pub names : texts_at t.names ≡ (λ k. text_in_groups (codes "Name") k groups)
  pub values : texts_at t.values ≡ (λ k. text_in_groups (codes "Value") k groups)
  pub pdos : option_map form_view t.pdos ≡ pdo_form groups
