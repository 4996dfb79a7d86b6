-- The entries of the communication profile that a device itself reads (CiA 301, 7.5.2).
use Rattle.std.specs.Prelude.{Bool, false, Option, Some, None}
use Rattle.co_value.specs.declared.key.Key.{Key}
use Rattle.co_value.specs.Keys.{same_key}

-- the entry that was written, if one was, is this one
abbrev pub is_set : Option Key → Key → Bool
is_set None key = false
is_set (Some written) key = same_key written key
