-- The identifiers that the standard reserves (CiA 301, 7.3.5, restricted CAN-IDs), but for those of
-- LSS (CiA 305).
use Rattle.std.specs.Prelude.{ℕ, ◌==◌, nat_lt, Bool, not, ◌&&◌, ◌||◌, List, codes}

-- what a master asks of LSS slaves, and what they answer
abbrev pub lss_request_id : ℕ
lss_request_id = 0x7E5

abbrev pub lss_answer_id : ℕ
lss_answer_id = 0x7E4

abbrev pub is_lss_id : ℕ → Bool
is_lss_id id = id == lss_request_id || id == lss_answer_id

-- 001h to 07Fh, 101h to 180h, 6E0h to 6FFh, 780h to 7FFh
abbrev pub is_reserved : ℕ → Bool
is_reserved id =
    (nat_lt 0x000 id && nat_lt id 0x080)
    || (nat_lt 0x100 id && nat_lt id 0x181)
    || (nat_lt 0x6DF id && nat_lt id 0x700)
    || (nat_lt 0x77F id && not (is_lss_id id))

unfoldable pub reserved_words : List ℕ
reserved_words = codes "identifier that CiA 301 reserves"
