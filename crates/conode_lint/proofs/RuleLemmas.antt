-- What a list of names has.
use Rattle.std.proofs.Common.{ℕ, ◌<◌, List, Contains, map, length, get_or}
use Rattle.std.proofs.lemmas.List.{get_or-map, length-map}

pub listed : {X Y : Type 0} (f : X → Y) (xs : List X) (i : ℕ) (d : X) → i < length xs → Contains (map f xs) (f (get_or xs i d))
listed f xs i d h = (i, rw (length-map xs f) h, get_or-map f xs i d (f (get_or xs i d)) h)
