-- The tables of words have each build fault's words by its number.
use Rattle.std.proofs.Common.{◌≡◌, ℕ, ◌<◌, Bool, true, false, if◌then◌else◌, List, [], get_or, map, refl, arith}
use Rattle.co_value.specs.declared.key.Key.{Key}
use Rattle.co_dict_build.specs.declared.build_fault.BuildFault.{BuildFault}
use Rattle.co_dict_build.specs.declared.build_fault.BuildFault.TheVariants.{NodeId, ValueRange, BadCobId, PdoPair, BadMapping, TooMany, Memory}
use Rattle.conode_lint.specs.declared.build_words.TheConstants.{MEANINGS, FIXES, SUBJECTS}
use Rattle.conode_lint.specs.BuildWords.{build_meaning, build_fix, build_subject, is_sync, row_of}

abbrev pub meanings : List (List ℕ)
meanings = map (λ text. text.now) MEANINGS

abbrev pub fixes : List (List ℕ)
fixes = map (λ text. text.now) FIXES

abbrev pub subjects : List (List ℕ)
subjects = map (λ text. text.now) SUBJECTS

few_rows : (b : Bool) → (if b then 8 else 3) < 9
few_rows true = omega arith
few_rows false = omega arith

pub few_faults : (fault : BuildFault) → row_of fault < 9
few_faults NodeId = omega arith
few_faults (ValueRange key) = omega arith
few_faults (BadCobId key) = few_rows (is_sync key)
few_faults (PdoPair index) = omega arith
few_faults (BadMapping key) = omega arith
few_faults TooMany = omega arith
few_faults Memory = omega arith

meant-cob-id : (b : Bool) (key : Key) → is_sync key ≡ b → get_or meanings (if b then 8 else 3) [] ≡ build_meaning (BadCobId key)
meant-cob-id true key is = rw is refl
meant-cob-id false key is = rw is refl

pub meant : (fault : BuildFault) → get_or meanings (row_of fault) [] ≡ build_meaning fault
meant NodeId = refl
meant (ValueRange key) = refl
meant (BadCobId key) = meant-cob-id (is_sync key) key refl
meant (PdoPair index) = refl
meant (BadMapping key) = refl
meant TooMany = refl
meant Memory = refl

fixed-cob-id : (b : Bool) (key : Key) → is_sync key ≡ b → get_or fixes (if b then 8 else 3) [] ≡ build_fix (BadCobId key)
fixed-cob-id true key is = rw is refl
fixed-cob-id false key is = rw is refl

pub fixed : (fault : BuildFault) → get_or fixes (row_of fault) [] ≡ build_fix fault
fixed NodeId = refl
fixed (ValueRange key) = refl
fixed (BadCobId key) = fixed-cob-id (is_sync key) key refl
fixed (PdoPair index) = refl
fixed (BadMapping key) = refl
fixed TooMany = refl
fixed Memory = refl

ruled-cob-id : (b : Bool) (key : Key) → get_or subjects (if b then 8 else 3) [] ≡ build_subject (BadCobId key)
ruled-cob-id true key = refl
ruled-cob-id false key = refl

pub ruled : (fault : BuildFault) → get_or subjects (row_of fault) [] ≡ build_subject fault
ruled NodeId = refl
ruled (ValueRange key) = refl
ruled (BadCobId key) = ruled-cob-id (is_sync key) key
ruled (PdoPair index) = refl
ruled (BadMapping key) = refl
ruled TooMany = refl
ruled Memory = refl
