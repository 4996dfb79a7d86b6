-- What the code of an abort means, among all reasons.
use Rattle.std.proofs.Common.{◌≡◌, ℕ, Bool, true, false, ◌⊎◌, inl, inr, List, [], ◌∷◌, Option, Some, None, ◌++◌, ◌-◌, append_assoc, drop, eqb, get_or, length, length-drop, take, refl, sym, ap, ◌∙◌}
use Rattle.std.specs.Prelude.{find}
use Rattle.std.specs.Option.{option_map_or}
use Rattle.std.proofs.Math.Seq.{take-length}
use Rattle.std.proofs.lemmas.Bool.{eqb-true}
use Rattle.std.proofs.Common.{eq-eqb}
use Rattle.co_text.proofs.Tests.{by_test}
use Rattle.co_words.specs.declared.abort_reason.AbortReason.{AbortReason}
use Rattle.co_words.specs.declared.abort_reason.AbortReason.TheVariants.{ToggleNotAlternated, TimedOut, UnknownCommand, InvalidBlockSize, InvalidSequenceNumber, CrcError, OutOfMemory, UnsupportedAccess, WriteOnly, ReadOnly, ObjectMissing, NotMappable, MappingTooLong, ParameterIncompatible, DeviceIncompatible, HardwareError, LengthMismatch, TooLong, TooShort, SubIndexMissing, InvalidValue, AboveHighLimit, BelowLowLimit, LimitsCrossed, NoConnection, GeneralError, NotStorable, NotStorableByControl, NotInThisState, NoDictionary, NoValue}
use Rattle.co_words.specs.AbortReasons.{code_of, text_of}
use Rattle.co_frame.specs.FrameContent.{FrameContent}
use Rattle.co_value.specs.Numbers.{unsigned_of}
use Rattle.conode_explain.specs.AbortWords.{abort_words, first_byte_words, in_brackets, is_abort, reasons, words_of}

abbrev IsIn : AbortReason → List AbortReason → Type 0
IsIn reason [] = ⊥
IsIn reason (first ∷ others) = (reason ≡ first) ⊎ IsIn reason others

-- what is found passes
find_passes : (p : AbortReason → Bool) (xs : List AbortReason) (x : AbortReason) → find p xs ≡ Some x → p x ≡ true
find_passes p [] x e = cc
find_passes p (y ∷ ys) x e = by_test (p y)
    (λ passes. let same : Some y ≡ Some x = rw passes at e in let is : y ≡ x = cc in ap p (sym is) ∙ passes)
    (λ fails. find_passes p ys x (rw fails at e))

-- where nothing is found, nothing passes
none_passes : (p : AbortReason → Bool) (xs : List AbortReason) (x : AbortReason) → find p xs ≡ None → IsIn x xs → p x ≡ false
none_passes p [] x e h = absurd h
none_passes p (y ∷ ys) x e (inl same) = by_test (p y) (λ passes. let no : Some y ≡ None = rw passes at e in absurd cc) (λ fails. ap p same ∙ fails)
none_passes p (y ∷ ys) x e (inr later) = by_test (p y) (λ passes. let no : Some y ≡ None = rw passes at e in absurd cc) (λ fails. none_passes p ys x (rw fails at e) later)

-- each reason is among them
is_reason : (reason : AbortReason) → IsIn reason reasons
is_reason ToggleNotAlternated = inl refl
is_reason TimedOut = inr (inl refl)
is_reason UnknownCommand = inr (inr (inl refl))
is_reason InvalidBlockSize = inr (inr (inr (inl refl)))
is_reason InvalidSequenceNumber = inr (inr (inr (inr (inl refl))))
is_reason CrcError = inr (inr (inr (inr (inr (inl refl)))))
is_reason OutOfMemory = inr (inr (inr (inr (inr (inr (inl refl))))))
is_reason UnsupportedAccess = inr (inr (inr (inr (inr (inr (inr (inl refl)))))))
is_reason WriteOnly = inr (inr (inr (inr (inr (inr (inr (inr (inl refl))))))))
is_reason ReadOnly = inr (inr (inr (inr (inr (inr (inr (inr (inr (inl refl)))))))))
is_reason ObjectMissing = inr (inr (inr (inr (inr (inr (inr (inr (inr (inr (inl refl))))))))))
is_reason NotMappable = inr (inr (inr (inr (inr (inr (inr (inr (inr (inr (inr (inl refl)))))))))))
is_reason MappingTooLong = inr (inr (inr (inr (inr (inr (inr (inr (inr (inr (inr (inr (inl refl))))))))))))
is_reason ParameterIncompatible = inr (inr (inr (inr (inr (inr (inr (inr (inr (inr (inr (inr (inr (inl refl)))))))))))))
is_reason DeviceIncompatible = inr (inr (inr (inr (inr (inr (inr (inr (inr (inr (inr (inr (inr (inr (inl refl))))))))))))))
is_reason HardwareError = inr (inr (inr (inr (inr (inr (inr (inr (inr (inr (inr (inr (inr (inr (inr (inl refl)))))))))))))))
is_reason LengthMismatch = inr (inr (inr (inr (inr (inr (inr (inr (inr (inr (inr (inr (inr (inr (inr (inr (inl refl))))))))))))))))
is_reason TooLong = inr (inr (inr (inr (inr (inr (inr (inr (inr (inr (inr (inr (inr (inr (inr (inr (inr (inl refl)))))))))))))))))
is_reason TooShort = inr (inr (inr (inr (inr (inr (inr (inr (inr (inr (inr (inr (inr (inr (inr (inr (inr (inr (inl refl))))))))))))))))))
is_reason SubIndexMissing = inr (inr (inr (inr (inr (inr (inr (inr (inr (inr (inr (inr (inr (inr (inr (inr (inr (inr (inr (inl refl)))))))))))))))))))
is_reason InvalidValue = inr (inr (inr (inr (inr (inr (inr (inr (inr (inr (inr (inr (inr (inr (inr (inr (inr (inr (inr (inr (inl refl))))))))))))))))))))
is_reason AboveHighLimit = inr (inr (inr (inr (inr (inr (inr (inr (inr (inr (inr (inr (inr (inr (inr (inr (inr (inr (inr (inr (inr (inl refl)))))))))))))))))))))
is_reason BelowLowLimit = inr (inr (inr (inr (inr (inr (inr (inr (inr (inr (inr (inr (inr (inr (inr (inr (inr (inr (inr (inr (inr (inr (inl refl))))))))))))))))))))))
is_reason LimitsCrossed = inr (inr (inr (inr (inr (inr (inr (inr (inr (inr (inr (inr (inr (inr (inr (inr (inr (inr (inr (inr (inr (inr (inr (inl refl)))))))))))))))))))))))
is_reason NoConnection = inr (inr (inr (inr (inr (inr (inr (inr (inr (inr (inr (inr (inr (inr (inr (inr (inr (inr (inr (inr (inr (inr (inr (inr (inl refl))))))))))))))))))))))))
is_reason GeneralError = inr (inr (inr (inr (inr (inr (inr (inr (inr (inr (inr (inr (inr (inr (inr (inr (inr (inr (inr (inr (inr (inr (inr (inr (inr (inl refl)))))))))))))))))))))))))
is_reason NotStorable = inr (inr (inr (inr (inr (inr (inr (inr (inr (inr (inr (inr (inr (inr (inr (inr (inr (inr (inr (inr (inr (inr (inr (inr (inr (inr (inl refl))))))))))))))))))))))))))
is_reason NotStorableByControl = inr (inr (inr (inr (inr (inr (inr (inr (inr (inr (inr (inr (inr (inr (inr (inr (inr (inr (inr (inr (inr (inr (inr (inr (inr (inr (inr (inl refl)))))))))))))))))))))))))))
is_reason NotInThisState = inr (inr (inr (inr (inr (inr (inr (inr (inr (inr (inr (inr (inr (inr (inr (inr (inr (inr (inr (inr (inr (inr (inr (inr (inr (inr (inr (inr (inl refl))))))))))))))))))))))))))))
is_reason NoDictionary = inr (inr (inr (inr (inr (inr (inr (inr (inr (inr (inr (inr (inr (inr (inr (inr (inr (inr (inr (inr (inr (inr (inr (inr (inr (inr (inr (inr (inr (inl refl)))))))))))))))))))))))))))))
is_reason NoValue = inr (inr (inr (inr (inr (inr (inr (inr (inr (inr (inr (inr (inr (inr (inr (inr (inr (inr (inr (inr (inr (inr (inr (inr (inr (inr (inr (inr (inr (inr (inl refl))))))))))))))))))))))))))))))

by_found : (code : ℕ) (result : List ℕ) (found : Option AbortReason) → find (λ reason. eqb (code_of reason) code) reasons ≡ found
    → ((reason : AbortReason) → code_of reason ≡ code → result ≡ text_of reason) → (((reason : AbortReason) → code_of reason ≡ code → ⊥) → result ≡ []) → result ≡ option_map_or text_of found []
by_found code result None e known unknown =
    unknown (λ reason is. let fails : eqb (code_of reason) code ≡ false = none_passes (λ r. eqb (code_of r) code) reasons reason e (is_reason reason) in let no : true ≡ false = sym (eq-eqb (code_of reason) code is) ∙ fails in absurd cc)
by_found code result (Some reason) e known unknown = known reason (eqb-true (code_of reason) code (find_passes (λ r. eqb (code_of r) code) reasons reason e))

pub words_found : (code : ℕ) (result : List ℕ) → ((reason : AbortReason) → code_of reason ≡ code → result ≡ text_of reason) → (((reason : AbortReason) → code_of reason ≡ code → ⊥) → result ≡ [])
    → result ≡ words_of code
unfolding words_of
words_found code result known unknown = by_found code result (find (λ reason. eqb (code_of reason) code) reasons) refl known unknown

-- ---- what is said of an abort

from_there : (bytes : List ℕ) → take (length bytes - 4) (drop 4 bytes) ≡ drop 4 bytes
from_there bytes = rw (← length-drop 4 bytes) (take-length (drop 4 bytes))

pub abort_said : (frame : FrameContent) (old between said bytes : List ℕ) (code : ℕ) → is_abort frame ≡ true → bytes ≡ frame.bytes
    → code ≡ unsigned_of (take (length bytes - 4) (drop 4 bytes)) → said ≡ words_of code → between ≡ old ++ in_brackets said
    → between ++ first_byte_words (get_or bytes 0 0) ≡ old ++ abort_words frame
unfolding abort_words
abort_said frame old between said bytes code abort same read meaning put =
    rw (put, meaning, read, from_there bytes, same, abort)
    (append_assoc old (in_brackets (words_of (unsigned_of (drop 4 frame.bytes)))) (first_byte_words (get_or frame.bytes 0 0)))
