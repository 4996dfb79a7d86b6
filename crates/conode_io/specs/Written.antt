-- What a writer has taken of some text.
use Rattle.std.specs.Prelude.{◌≡◌, ℕ, ◌<◌, ◌⊎◌, List, ◌++◌, length, take, Option}
use Rattle.std.specs.List.{flat_map}
use Rattle.std.specs.Io.KnownBytes.{Appends}

-- the front of a text, perhaps empty, never all of it
pub record IsFront (front text : List ℕ) : Type 0 where
  pub rest : List ℕ
  pub some : 0 < length rest
  pub joined : text ≡ front ++ rest

-- a writer's bytes have grown by a front of the text
abbrev pub AppendsFront : Option (List ℕ) → Option (List ℕ) → List ℕ → Type 0
AppendsFront old new text = (front : List ℕ) × IsFront front text × Appends old new front

-- a writer's bytes have grown by these lines
abbrev pub WritesLines : Option (List ℕ) → Option (List ℕ) → List (List ℕ) → Type 0
WritesLines old new lines = Appends old new (flat_map (λ line. line) lines)

-- a writer's bytes have grown by some of these lines, from the first on, but not all
abbrev pub WritesSome : Option (List ℕ) → Option (List ℕ) → List (List ℕ) → Type 0
WritesSome old new lines =
    (number : ℕ) × (number < length lines) × WritesLines old new (take number lines)

-- a writer's bytes have grown by a front of these lines: some of them, and perhaps a part of the
-- next
abbrev pub WritesFront : Option (List ℕ) → Option (List ℕ) → List (List ℕ) → Type 0
WritesFront old new lines = AppendsFront old new (flat_map (λ line. line) lines)

-- a writer's bytes have grown by a front of these lines, or by all of them
abbrev pub WritesFrontOrLines : Option (List ℕ) → Option (List ℕ) → List (List ℕ) → Type 0
WritesFrontOrLines old new lines = WritesFront old new lines ⊎ WritesLines old new lines
