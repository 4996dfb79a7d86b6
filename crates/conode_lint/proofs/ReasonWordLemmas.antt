-- The tables of words have each reason's words in its row.
use Rattle.std.proofs.Common.{◌≡◌, ℕ, ◌<◌, List, [], get_or, map, refl, arith}
use Rattle.co_dict_faults.specs.declared.mapping_fault.MappingReason.{MappingReason}
use Rattle.co_dict_faults.specs.declared.mapping_fault.MappingReason.TheVariants.{CountsMore, TooLong, Multiplexed, Missing, Zero, NoEntry, NotMappable, NoNumber, BelowProfile, WrongAccess, OneBit, WrongLength}
use Rattle.conode_lint.specs.declared.mapping_words.TheConstants.{MEANINGS, FIXES}
use Rattle.conode_lint.specs.MappingWords.{mapping_meaning, mapping_fix, reason_row}

abbrev pub meanings : List (List ℕ)
meanings = map (λ text. text.now) MEANINGS

abbrev pub fixes : List (List ℕ)
fixes = map (λ text. text.now) FIXES

pub few_reasons : (reason : MappingReason) → reason_row reason < 12
few_reasons CountsMore = omega arith
few_reasons (TooLong bits) = omega arith
few_reasons Missing = omega arith
few_reasons Zero = omega arith
few_reasons NoEntry = omega arith
few_reasons NotMappable = omega arith
few_reasons NoNumber = omega arith
few_reasons BelowProfile = omega arith
few_reasons WrongAccess = omega arith
few_reasons OneBit = omega arith
few_reasons WrongLength = omega arith
few_reasons Multiplexed = omega arith

pub meant : (reason : MappingReason) → get_or meanings (reason_row reason) [] ≡ mapping_meaning reason
meant CountsMore = refl
meant (TooLong bits) = refl
meant Missing = refl
meant Zero = refl
meant NoEntry = refl
meant NotMappable = refl
meant NoNumber = refl
meant BelowProfile = refl
meant WrongAccess = refl
meant OneBit = refl
meant WrongLength = refl
meant Multiplexed = refl

pub fixed : (reason : MappingReason) → get_or fixes (reason_row reason) [] ≡ mapping_fix reason
fixed CountsMore = refl
fixed (TooLong bits) = refl
fixed Missing = refl
fixed Zero = refl
fixed NoEntry = refl
fixed NotMappable = refl
fixed NoNumber = refl
fixed BelowProfile = refl
fixed WrongAccess = refl
fixed OneBit = refl
fixed WrongLength = refl
fixed Multiplexed = refl
