-- Which requests are expedited downloads of 1017:00, and where it has two bytes of a number.
use Rattle.std.proofs.Common.{◌≡◌, ℕ, Bool, true, false, List, [], ◌∷◌, map, Some, None, refl, inl, inr}
use Rattle.std.specs.Prelude.{if◌then◌else◌}
use Rattle.co_frame.specs.SdoRequests.{request_in, request_row_in}
use Rattle.co_profile.specs.Keys.{emergency_inhibit_key, producer_key}
use Rattle.co_value.specs.Keys.{same_key}
use Rattle.co_dict.specs.Rows.{Contents}
use Rattle.conode_compare_laws.specs.ShownWords.{HasWord, is_expedited_download}

-- a request of 1017:00 with this first byte, and 1000 as its data or size
abbrev request : ℕ → List ℕ
request first = first ∷ 0x17 ∷ 0x10 ∷ 0 ∷ 0xE8 ∷ 3 ∷ 0 ∷ 0 ∷ []

abbrev is_one : List ℕ → Bool
is_one bytes = is_expedited_download producer_key (request_in bytes)

-- expedited with two bytes, and with as many as the entry has; in segments, in blocks, an upload, and a block upload
by_first_byte : map (λ first. is_one (request first)) (0x2B ∷ 0x22 ∷ 0x21 ∷ 0xC2 ∷ 0x40 ∷ 0xA0 ∷ []) ≡ true ∷ true ∷ false ∷ false ∷ false ∷ false ∷ []
unfolding request_row_in
by_first_byte = refl

of_another : is_expedited_download emergency_inhibit_key (request_in (request 0x2B)) ≡ false
unfolding request_row_in
of_another = refl

too_short : is_one (0x2B ∷ 0x17 ∷ 0x10 ∷ 0 ∷ 0xE8 ∷ 3 ∷ 0 ∷ []) ≡ false
too_short = refl

abbrev holding : List ℕ → Contents
holding bytes key = if same_key key producer_key then Some bytes else None

two_bytes : HasWord producer_key 1000 (holding (0xE8 ∷ 3 ∷ []))
two_bytes = record { bytes = inr refl; number = refl }

not_there : HasWord emergency_inhibit_key 0 (holding (0xE8 ∷ 3 ∷ []))
not_there = record { bytes = inl refl; number = refl }
