-- Where nothing is said, nothing is added.
use Rattle.std.proofs.Common.{◌≡◌, ℕ, false, List, [], ◌++◌, Option, Some, None, sym, append-nil}
use Rattle.std.specs.Prelude.{is_some, unwrap_or}

pub none_added : (before : List ℕ) (words : Option (List ℕ)) → is_some words ≡ false → before ≡ before ++ unwrap_or words []
none_added before None h = sym (append-nil before)
none_added before (Some words) h = absurd cc
