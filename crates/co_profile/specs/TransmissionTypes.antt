-- The transmission types of PDOs (CiA 301, 7.5.2.35 and 7.5.2.37).
use Rattle.std.specs.Prelude.{ℕ, ◌==◌, ◌||◌, Bool, nat_le}

-- 0 to 240: by SYNCs
abbrev pub is_synchronous : ℕ → Bool
is_synchronous kind = nat_le kind 240

-- 254 and 255: by events
abbrev pub is_event_driven : ℕ → Bool
is_event_driven kind = kind == 254 || kind == 255

-- the types that are supported: 0 to 240, 254 and 255; 241 to 251 are reserved, 252 and 253 need
-- remote frames
abbrev pub is_supported_type : ℕ → Bool
is_supported_type kind = is_synchronous kind || is_event_driven kind
