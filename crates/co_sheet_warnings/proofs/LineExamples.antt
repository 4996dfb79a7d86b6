-- Lines that other readers may refuse or garble, on both sides of each edge.
use Rattle.std.proofs.Common.{◌≡◌, [], ◌∷◌, ◌++◌, refl, codes, map}
use Rattle.std.specs.Prelude.{replicate}
use Rattle.std.specs.Str.{chars, is_utf8}
use Rattle.co_sheet_text_warnings.specs.declared.warning.WarningKind.TheVariants.{LongLine, Utf8, NotAscii, LineEnds}
use Rattle.co_sheet_warnings.specs.Warnings.{few_places, places_in, places_of}
use Rattle.co_sheet_text_warnings.specs.InText.{place_in_text}
use Rattle.co_sheet_warnings.proofs.ExampleTexts.{places}

-- ---- LineEnds

ends_of_text : places LineEnds (codes "a" ∷ (98 ∷ 13 ∷ []) ∷ codes "c" ∷ []) ≡ 2 ∷ []
unfolding places_of few_places place_in_text places_in
ends_of_text = refl

-- ---- LongLine, Utf8, NotAscii

long : places LongLine (replicate 255 97 ∷ replicate 256 98 ∷ replicate 512 99 ∷ replicate 513 100 ∷ []) ≡ 2 ∷ 3 ∷ []
unfolding places_of few_places place_in_text places_in chars is_utf8 lib.Utf8.encode
long = refl

ascii : places Utf8 (codes "a" ∷ (0x7F ∷ []) ∷ []) ++ places NotAscii (codes "a" ∷ (0x7F ∷ []) ∷ []) ≡ []
unfolding places_of few_places place_in_text places_in
ascii = refl

first_other_byte : places NotAscii (codes "a" ∷ (0x7F ∷ 0x80 ∷ []) ∷ (0xFF ∷ []) ∷ []) ≡ 2 ∷ []
unfolding places_of few_places place_in_text places_in chars is_utf8 lib.Utf8.encode
first_other_byte = refl

-- not the line in UTF-8 before it
not_the_first : places NotAscii ((0xC3 ∷ 0xA4 ∷ []) ∷ codes "a" ∷ (0xE4 ∷ []) ∷ (0xE4 ∷ []) ∷ []) ≡ 3 ∷ []
unfolding places_of few_places place_in_text places_in chars is_utf8 lib.Utf8.encode
not_the_first = refl

in_utf8 : places Utf8 (codes "a" ∷ (0xC3 ∷ 0xA4 ∷ []) ∷ []) ≡ 2 ∷ []
unfolding places_of few_places place_in_text places_in chars is_utf8 lib.Utf8.encode
in_utf8 = refl

-- one of both alone: the text is UTF-8 as a whole or not at all
one_warning : places NotAscii ((0xC3 ∷ 0xA4 ∷ []) ∷ []) ++ places Utf8 ((0xC3 ∷ 0xA4 ∷ []) ∷ (0xE4 ∷ []) ∷ []) ≡ []
unfolding places_of few_places place_in_text places_in chars is_utf8 lib.Utf8.encode
one_warning = refl

-- a byte order mark is part of no line, and yet three bytes above 7Fh at the beginning of line 1
marked : map (λ lines. places Utf8 lines ++ places NotAscii lines) (((0xEF ∷ 0xBB ∷ 0xBF ∷ codes "a") ∷ []) ∷ ((0xEF ∷ 0xBB ∷ 0xBF ∷ codes "a") ∷ (0xE4 ∷ []) ∷ []) ∷ (codes "a" ∷ (0xEF ∷ 0xBB ∷ 0xBF ∷ []) ∷ []) ∷ [])
    ≡ (1 ∷ []) ∷ (2 ∷ []) ∷ (2 ∷ []) ∷ []
unfolding places_of few_places place_in_text places_in chars is_utf8 lib.Utf8.encode
marked = refl
