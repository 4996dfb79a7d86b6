-- What a frame says by its service, else other words.
use Rattle.std.proofs.Common.{◌≡◌, ℕ, true, false, List, [], Option, Some, None, refl}
use Rattle.std.specs.Prelude.{is_some, unwrap_or}

pub said_alone : (words : Option (List ℕ)) (others : List ℕ) → is_some words ≡ true → unwrap_or words others ≡ unwrap_or words []
said_alone None others h = absurd cc
said_alone (Some text) others h = refl

pub others_alone : (words : Option (List ℕ)) (others : List ℕ) → is_some words ≡ false → unwrap_or words others ≡ others
others_alone None others h = refl
others_alone (Some text) others h = absurd cc
