-- Texts in an array of C.
use Rattle.std.specs.Prelude.{◌≡◌, ℕ, suc, ◌<◌, List, length, Option, Some, None, slice_index_or}
use Rattle.co_dict_build.specs.declared.build_fault.BuildFault.{BuildFault}
use Rattle.co_words.specs.BuildFaultWords.{build_fix_of, build_meaning_of}

-- the array has the text and a 0 after it; with less room, as much of the text as leaves room for
-- the 0. The bytes after the 0 are unchanged. The count is the length of the whole text
pub record IsText (words before after : List ℕ) (count : ℕ) : Type 0 where
  pub size : count ≡ length words
  pub room : length after ≡ length before
  pub shown : (i e : ℕ) → i < length words → suc i < length before
      → slice_index_or after i e ≡ slice_index_or words i e
  pub whole : (e : ℕ) → length words < length before → slice_index_or after (length words) e ≡ 0
  pub cut : (i e : ℕ) → i < length words → suc i ≡ length before → slice_index_or after i e ≡ 0
  pub kept : (i e : ℕ) → length words < i → slice_index_or after i e ≡ slice_index_or before i e

-- a build fault with the same texts
abbrev pub HasWordsOf : BuildFault → Option BuildFault → Type 0
HasWordsOf fault None = ⊥
HasWordsOf fault (Some other) =
    (build_meaning_of other ≡ build_meaning_of fault) × (build_fix_of other ≡ build_fix_of fault)
