-- The line of a warning.
use Rattle.std.specs.Prelude.{ℕ, List, [], ◌∷◌, codes}
use Rattle.co_text.specs.Printed.{digits_text}
use Rattle.co_value.specs.KeyTexts.{key_text}
use Rattle.conode_text.specs.Filled.{filled}
use Rattle.conode_explain_values.specs.declared.value_type.ValueType.{ValueType}
use Rattle.conode_compare_notes.specs.declared.warning.Warning.{Warning}
use Rattle.conode_compare_notes.specs.declared.warning.Warning.TheVariants.{Restarted, Stored, Changed, ChangedBytes, SteppedBack, OtherRevision, OtherText, OddCode, OtherError}
use Rattle.conode_compare_text.specs.Values.{line_text, millis_text, shown_value}

-- the name of the kind, and what was seen, where the values of the entry have this type
unfoldable pub warning_text : ValueType → Warning → List ℕ
warning_text t Restarted = codes "warning: restarted: a boot-up, and no reset was commanded"
warning_text t (Stored key shown sheet) =
    filled (codes "warning: stored: % has % after the boot-up, the sheet %")
    (key_text key ∷ shown_value t shown ∷ shown_value t sheet ∷ [])
warning_text t (Changed mismatch) =
    filled (codes "warning: changed-after-write: % has %, written was %")
    (key_text mismatch.key ∷ shown_value t mismatch.shown ∷ shown_value t mismatch.written ∷ [])
warning_text t (ChangedBytes key) =
    filled (codes "warning: changed-after-write: % has other bytes than were written")
    (key_text key ∷ [])
warning_text t (SteppedBack micros) =
    filled (codes "warning: stepped-back: the stamp is % before the last one")
    (millis_text micros ∷ [])
warning_text t (OtherRevision key shown sheet) =
    filled (codes "warning: other-version: % has %, the sheet %")
    (key_text key ∷ shown_value t shown ∷ shown_value t sheet ∷ [])
warning_text t (OtherText key) =
    filled (codes "warning: other-version: % has another text than the sheet") (key_text key ∷ [])
warning_text t (OddCode code register) =
    filled (codes "warning: emcy-code: code %h with error register %h, of a class that CiA 301 doesn't have")
    (digits_text 16 4 code ∷ digits_text 16 2 register ∷ [])
warning_text t (OtherError shown signalled) =
    filled (codes "warning: emcy-history: 1003:01 has code %h, the last EMCY %h")
    (digits_text 16 4 shown ∷ digits_text 16 4 signalled ∷ [])

-- `recording.log:123: warning: restarted: ..`
unfoldable pub warning_line : List ℕ → ℕ → ValueType → Warning → List ℕ
warning_line recording line t warning = line_text recording line (warning_text t warning)
