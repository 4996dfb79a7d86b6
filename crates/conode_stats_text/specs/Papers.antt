-- What is being written, until memory runs out: a text, or a document.
use Rattle.std.specs.Prelude.{◌≡◌, ⊤, List, ◌++◌, Option, Some, None}

-- what is written; none once memory ran out
abbrev pub written_if : {A B : Type 0} → Option A → List B → Option (List B)
written_if None written = Some written
written_if (Some fault) written = None

abbrev pub is_appended : {A : Type 0} → Option (List A) → List A → Option (List A) → Type 0
is_appended before part None = ⊤
is_appended None part (Some after) = ⊥
is_appended (Some before) part (Some after) = after ≡ before ++ part

-- a part is appended, if memory doesn't run out
pub record IsAppended {A : Type 0} (before : Option (List A)) (part : List A) (after : Option (List A)) : Type 0 where
  pub appended : is_appended before part after
