-- Refusals: of a list, the first that applies (CiA 301, 7.2.4.3.17).
use Rattle.std.specs.Prelude.{ℕ, Bool, List, [], ◌∷◌, Option, Some, None, Result, Ok, Err, if◌then◌else◌}
use Rattle.co_frame_aborts.specs.declared.abort_code.AbortCode.{AbortCode}

-- an abort code, if a condition is true
abbrev pub refused_if : Bool → ℕ → Option ℕ
refused_if condition code = if condition then Some code else None

-- the first of two refusals that applies
abbrev pub first_of : Option ℕ → Option ℕ → Option ℕ
first_of (Some code) next = Some code
first_of None next = next

-- the first of a list of refusals that applies, in its order
abbrev pub first_refusal : List (Option ℕ) → Option ℕ
first_refusal [] = None
first_refusal (refusal ∷ refusals) = first_of refusal (first_refusal refusals)

-- the abort code with which a call refuses, if it does
abbrev pub refusal_in : {T : Type 0} → Result T AbortCode → Option ℕ
refusal_in (Ok value) = None
refusal_in (Err code) = Some code.0
