-- Results for C: numbers of states and answers, and the bytes of an entry.
use Rattle.std.specs.Prelude.{◌≡◌, ℕ, ◌<◌, ◌≤◌, List, length, Option, Some, None, Bool, true, false, slice_index_or}
use Rattle.co_node_parts.specs.declared.nmt_state.NodeState.{NodeState}
use Rattle.co_node_parts.specs.declared.nmt_state.NodeState.TheVariants.{PreOperational, Operational, Stopped}
use Rattle.co_node_model.specs.declared.app_answer.AppAnswer.{AppAnswer}
use Rattle.co_node_model.specs.declared.app_answer.AppAnswer.TheVariants as app

-- a state as the byte of a heartbeat (CiA 301, 7.2.8.3.2)
abbrev pub state_code : NodeState → ℕ
state_code PreOperational = 127
state_code Operational = 5
state_code Stopped = 4

-- an answer as a number
abbrev pub answer_code : AppAnswer → ℕ
answer_code app.None = 0
answer_code app.Done = 1
answer_code (app.Refused code) = 2

-- the abort code of an answer, 0 unless it is a refusal
abbrev pub refusal_code : AppAnswer → ℕ
refusal_code app.None = 0
refusal_code app.Done = 0
refusal_code (app.Refused code) = code.0

-- the array has the bytes, as many as it has room for; the rest is unchanged
pub record IsCopied (value before after : List ℕ) : Type 0 where
  pub room : length after ≡ length before
  pub copied : (i e : ℕ) → i < length value → i < length before
      → slice_index_or after i e ≡ slice_index_or value i e
  pub kept : (i e : ℕ) → length value ≤ i → slice_index_or after i e ≡ slice_index_or before i e

-- there is an entry: its bytes are copied and counted
pub record IsFound (value before after : List ℕ) (size : ℕ) (found : Bool) : Type 0 where
  pub copied : IsCopied value before after
  pub counted : size ≡ length value
  pub yes : found ≡ true

-- there is no entry: nothing changes
pub record IsAbsent (before after : List ℕ) (old_size size : ℕ) (found : Bool) : Type 0 where
  pub same : after ≡ before
  pub kept : size ≡ old_size
  pub no : found ≡ false

-- if there is an entry its bytes are copied, and `size` is how many they are; else nothing changes
abbrev pub IsRead : Option (List ℕ) → List ℕ → List ℕ → ℕ → ℕ → Bool → Type 0
IsRead None before after old_size size found = IsAbsent before after old_size size found
IsRead (Some value) before after old_size size found = IsFound value before after size found
