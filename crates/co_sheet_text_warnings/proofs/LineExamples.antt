-- Lines that other readers may refuse or garble, on both sides of each edge.
use Rattle.std.proofs.Common.{◌≡◌, ℕ, List, true, false, [], ◌∷◌, refl, map}
use Rattle.std.specs.List.{flat_map}
use Rattle.std.specs.Prelude.{replicate}
use Rattle.std.specs.Str.{chars, is_utf8}
use Rattle.co_sheet_text.specs.Text.{Line}
use Rattle.co_sheet_text_warnings.specs.Lines.{is_long, mixed_line_ends}

-- ---- LineEnds

line_ends : map mixed_line_ends ((97 ∷ 13 ∷ 10 ∷ 98 ∷ 10 ∷ []) ∷ (10 ∷ 10 ∷ 13 ∷ 10 ∷ 10 ∷ []) ∷ (97 ∷ 13 ∷ 10 ∷ 13 ∷ 10 ∷ 98 ∷ []) ∷ (97 ∷ 13 ∷ 98 ∷ 10 ∷ 10 ∷ []) ∷ (13 ∷ 10 ∷ 13 ∷ 98 ∷ 10 ∷ []) ∷ [])
    ≡ (2 ∷ []) ∷ (3 ∷ []) ∷ [] ∷ [] ∷ (2 ∷ []) ∷ []
line_ends = refl

-- ---- LongLine, Utf8, NotAscii

abbrev line : List ℕ → Line
line bytes = record { number = 1; bytes = bytes }

-- 255 characters, 256, and 255 of two bytes each, in UTF-8; 256 bytes in Windows-1252, and 255
characters : map is_long (line (0xC3 ∷ 0xA4 ∷ replicate 254 97) ∷ line (0xC3 ∷ 0xA4 ∷ replicate 255 97) ∷ line (flat_map (λ b. 0xC3 ∷ b ∷ []) (replicate 255 0xA4))
    ∷ line (0xE4 ∷ replicate 255 97) ∷ line (0xE4 ∷ replicate 254 97) ∷ [])
    ≡ false ∷ true ∷ false ∷ true ∷ false ∷ []
unfolding chars is_utf8 lib.Utf8.encode
characters = refl
