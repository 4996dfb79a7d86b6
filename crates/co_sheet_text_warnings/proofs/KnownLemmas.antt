-- The names that are read in objects are among the keys that the standard knows there.
use Rattle.std.proofs.Common.{◌≡◌, ◌∙◌, ℕ, Bool, true, false, ◌||◌, List, [], ◌∷◌, ◌++◌, refl, sym, ap}
use Rattle.std.proofs.Math.Bool.{or-false}
use Rattle.std.specs.List.{list_any}
use Rattle.co_sheet_text.specs.declared.section_kind.SectionKind.TheVariants.{Object}
use Rattle.co_sheet_text.specs.Names.{is_read_name}
use Rattle.co_sheet_text_warnings.specs.declared.known_key.KnownKey.{KnownKey}
use Rattle.co_sheet_text_warnings.specs.declared.known_key.KnownKey.TheVariants as key
use Rattle.co_sheet_text_warnings.specs.KnownKeys.{has_text, object_keys}

-- what some have, more have
any_more : {X : Type 0} (p : X → Bool) (xs ys : List X) → (list_any p xs || list_any p (xs ++ ys)) ≡ list_any p (xs ++ ys)
any_more p [] ys = refl
any_more p (x ∷ xs) ys = by_test (p x) (any_more p xs ys)
  where
    by_test : (b : Bool) → (list_any p xs || list_any p (xs ++ ys)) ≡ list_any p (xs ++ ys)
        → ((b || list_any p xs) || (b || list_any p (xs ++ ys))) ≡ (b || list_any p (xs ++ ys))
    by_test true same = refl
    by_test false same = same

abbrev read_keys : List KnownKey
read_keys =
    key.ParameterName ∷ key.ObjectType ∷ key.DataType ∷ key.AccessType ∷ key.LowLimit ∷ key.HighLimit ∷ key.DefaultValue
    ∷ key.ParameterValue ∷ key.PdoMapping ∷ key.SubNumber ∷ key.CompactSubObj ∷ []

abbrev other_keys : List KnownKey
other_keys = key.ObjFlags ∷ key.Denotation ∷ key.ParamRefd ∷ key.UploadFile ∷ key.DownloadFile ∷ []

pub known_read : (name : List ℕ) → is_read_name (Object 0) name ≡ true → list_any (has_text name) object_keys ≡ true
known_read name read =
    let as_read : list_any (has_text name) read_keys ≡ true = sym (or-false (list_any (has_text name) read_keys)) ∙ read in
    sym (any_more (has_text name) read_keys other_keys) ∙ ap (λ b. b || list_any (has_text name) object_keys) as_read
