-- The state of a line reader.
use Rattle.std.specs.Prelude.{◌≡◌, ℕ, ◌+◌, ◌*◌, ◌⊎◌, length, Bool, true, false, List, [], ◌++◌, Option, Some}
use Rattle.std.specs.Io.KnownBytes.{prepend_known, Consumes}
use Rattle.co_stream.specs.declared.fault.LineFault.{LineFault}
use Rattle.co_stream.specs.Lines.{has_line_feed}

-- the bytes that a reader gave and those still to come, where they are known; after its end none
-- come
abbrev pub known_bytes : Bool → List ℕ → Option (List ℕ) → Option (List ℕ)
known_bytes true given remaining = Some given
known_bytes false given remaining = prepend_known given remaining

-- the most bytes that may still come: a read call gives at most 512
abbrev pub most_bytes : ℕ → List ℕ → ℕ
most_bytes asks given = 512 * asks + length given

-- a line reader, as its contracts see it
pub record Reading : Type 0 where
  -- the bytes that the reader gave after the lines returned so far
  pub rest : List ℕ
  -- whether the reader has come to its end
  pub ended : Bool
  -- why there are no more lines
  pub fault : Option LineFault
  -- remaining read calls
  pub asks : ℕ
  -- whether a read call failed
  pub failed : Bool

-- the bytes after the lines so far, where they are known
abbrev pub to_come : Reading → Option (List ℕ) → Option (List ℕ)
to_come reading remaining = known_bytes reading.ended reading.rest remaining

-- what was taken from the bytes is a part of a line: it contains no line feed
abbrev pub LosesPartOfLine : Option (List ℕ) → Option (List ℕ) → Type 0
LosesPartOfLine old new = (part : List ℕ) × Consumes old new part × (has_line_feed part ≡ false)

-- ---- a reader of which nothing is known

-- The bytes that a reader may have had before and after it gave some: those that are known; or else
-- these and any that follow, none after its end.
abbrev pub MayHave : Option (List ℕ) → Option (List ℕ) → List ℕ → Bool → Option (List ℕ) → Option (List ℕ) → Type 0
MayHave before after gave ended had has =
    ((had ≡ before) × (has ≡ after))
    ⊎ ((later : List ℕ) × (had ≡ Some (gave ++ later)) × (has ≡ Some later) × (ended ≡ true → later ≡ []))

-- A reader gave some bytes, none after its end, and `P` holds of all that it may have had before
-- and after. `was_at_end` and `is_at_end`: whether it was at its end before and after; `before` and
-- `after`: its bytes, where they are known.
pub record Gave (was_at_end is_at_end : Bool) (before after : Option (List ℕ)) (P : Option (List ℕ) → Option (List ℕ) → Type 0) : Type 0 where
  pub bytes : List ℕ
  pub taken : Consumes before after bytes
  pub none_past_end : was_at_end ≡ true → (bytes ≡ []) × (is_at_end ≡ true)
  pub holds : (had has : Option (List ℕ)) → MayHave before after bytes is_at_end had has → P had has
