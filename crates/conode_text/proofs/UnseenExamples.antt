-- Characters that can't be seen, on both sides of each edge, and by their numbers.
use Rattle.std.proofs.Common.{◌≡◌, List, true, false, [], ◌∷◌, map, refl}
use Rattle.std.specs.Prelude.{codes, replicate}
use Rattle.co_text.specs.Printed.{digits_text}
use Rattle.conode_text.specs.Unseen.{code_text, is_unseen}

low : map is_unseen (0xAD ∷ 0x34F ∷ 0x61C ∷ 0x115F ∷ 0x1160 ∷ 0x1680 ∷ 0x17B4 ∷ 0x17B5 ∷ 0x180B ∷ 0x180F ∷ []) ≡ replicate 10 true
low = refl

around_low : map is_unseen (0xA0 ∷ 0xAC ∷ 0xAE ∷ 0x34E ∷ 0x350 ∷ 0x61B ∷ 0x61D ∷ 0x115E ∷ 0x1161 ∷ 0x167F ∷ 0x1681 ∷ 0x17B3 ∷ 0x17B6 ∷ 0x180A ∷ 0x1810 ∷ []) ≡ replicate 15 false
around_low = refl

middle : map is_unseen (0x2000 ∷ 0x200F ∷ 0x2028 ∷ 0x202F ∷ 0x205F ∷ 0x206F ∷ 0x3000 ∷ 0x3164 ∷ 0xFE00 ∷ 0xFE0F ∷ 0xFEFF ∷ 0xFFA0 ∷ 0xFFF0 ∷ 0xFFFB ∷ []) ≡ replicate 14 true
middle = refl

around_middle : map is_unseen (0x1FFF ∷ 0x2010 ∷ 0x2027 ∷ 0x2030 ∷ 0x205E ∷ 0x2070 ∷ 0x2FFF ∷ 0x3001 ∷ 0x3163 ∷ 0x3165 ∷ 0xFDFF ∷ 0xFE10 ∷ 0xFEFE ∷ 0xFF00 ∷ 0xFF9F ∷ 0xFFA1 ∷ 0xFFEF ∷ 0xFFFC ∷ []) ≡ replicate 18 false
around_middle = refl

high : map is_unseen (0x1BCA0 ∷ 0x1BCA3 ∷ 0x1D173 ∷ 0x1D17A ∷ 0xE0000 ∷ 0xE0FFF ∷ []) ≡ replicate 6 true
high = refl

around_high : map is_unseen (0x1BC9F ∷ 0x1BCA4 ∷ 0x1D172 ∷ 0x1D17B ∷ 0xDFFFF ∷ 0xE1000 ∷ []) ≡ replicate 6 false
around_high = refl

-- U+0020 and letters
letters : map is_unseen (0x20 ∷ 0x41 ∷ 0xE4 ∷ 0x3B1 ∷ 0x4E2D ∷ 0x1F600 ∷ []) ≡ replicate 6 false
letters = refl

numbers : map code_text (0x1B ∷ 0xFF ∷ 0x100 ∷ 0x202E ∷ 0xFFFF ∷ 0x10000 ∷ 0xE0001 ∷ [])
    ≡ codes "\\x1B" ∷ codes "\\xFF" ∷ codes "\\u0100" ∷ codes "\\u202E" ∷ codes "\\uFFFF" ∷ codes "\\U00010000" ∷ codes "\\U000E0001" ∷ []
unfolding code_text digits_text
numbers = refl
