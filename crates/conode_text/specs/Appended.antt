-- What is appended to a text, or to tokens, that are `None` once memory ran out.
use Rattle.std.specs.Prelude.{◌≡◌, List, ◌++◌, Option, Some, option_map}

-- what is there if memory never ran out was there before, and this part comes after it
pub record Appended {X : Type 0} (before : Option (List X)) (part : List X) (after : Option (List X)) : Type 0 where
  pub whole : (all : List X) → after ≡ Some all → option_map (λ text. text ++ part) before ≡ Some all
