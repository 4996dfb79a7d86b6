-- What a replay comes to, by its result.
use Rattle.std.proofs.Common.{◌≡◌, ℕ, List, Option, None, Some, IfSome, Result, Ok, Err, ⊎_elim, subst}
use Rattle.std.specs.Prelude.{◌⊎◌, IfErr, IfOk, OnOk}
use Rattle.conode_trace.specs.Traces.{TimedInput, trace_of}
use Rattle.conode_io.specs.declared.fault.CmdFault.{CmdFault}
use Rattle.conode_io.specs.declared.fault.CmdFault.TheVariants.{Read, Write, BadLine, Memory, NeverEnds}
use Rattle.conode_io.specs.TraceTexts.{trace_in, FailsWithinLine}
use Rattle.co_node_model.specs.Inputs.{Inputs}
use Rattle.co_node_model.specs.Moments.{Constants}
use Rattle.co_node.specs.declared.node.Node.{Node}
use Rattle.conode_device.specs.declared.totals.Totals.{Totals}
use Rattle.conode_device.specs.Runs.{AfterAny, BreaksOff, FailsToWrite, HasRun, Replayed, WritesWhole}

first_of : (known : Option (List ℕ)) (P Q : List ℕ → Type 0) → IfSome known (λ text. P text × Q text) → IfSome known P
first_of None P Q h = tt
first_of (Some text) P Q h = h.0

second_of : (known : Option (List ℕ)) (P Q : List ℕ → Type 0) → IfSome known (λ text. P text × Q text) → IfSome known Q
second_of None P Q h = tt
second_of (Some text) P Q h = h.1

module _ (Ends : Constants → Inputs → Totals → List TimedInput → Type 0) (first last : Node) (known rest old new : Option (List ℕ)) where
  pub whole_good : (outcome : Result Totals CmdFault) → Replayed Ends first last known rest old new outcome → OnOk outcome (IfSome known (λ text. (trace_in text).bad ≡ None))
  whole_good (Ok totals) h = first_of known (λ text. (trace_in text).bad ≡ None) (λ text. AfterAny first (λ k before. Ends k before totals (trace_in text).inputs)) h
  whole_good (Err fault) h = tt

  pub whole_ended : (outcome : Result Totals CmdFault) → Replayed Ends first last known rest old new outcome
      → IfOk outcome (λ totals. IfSome known (λ text. AfterAny first (λ k before. Ends k before totals (trace_in text).inputs)))
  whole_ended (Ok totals) h = second_of known (λ text. (trace_in text).bad ≡ None) (λ text. AfterAny first (λ k before. Ends k before totals (trace_in text).inputs)) h
  whole_ended (Err fault) h = tt

  pub bad_line_named : (outcome : Result Totals CmdFault) (number : ℕ) → outcome ≡ Err (BadLine number) → Replayed Ends first last known rest old new outcome → IfSome known (λ text. (trace_in text).bad ≡ Some number)
  bad_line_named outcome number is h =
      first_of known (λ text. (trace_in text).bad ≡ Some number) (λ text. AfterAny first (λ k before. HasRun k before old new last (trace_in text).inputs)) (subst (Replayed Ends first last known rest old new) is h)

  pub until_bad : (outcome : Result Totals CmdFault) (number : ℕ) → outcome ≡ Err (BadLine number) → Replayed Ends first last known rest old new outcome
      → IfSome known (λ text. AfterAny first (λ k before. HasRun k before old new last (trace_in text).inputs))
  until_bad outcome number is h =
      second_of known (λ text. (trace_in text).bad ≡ Some number) (λ text. AfterAny first (λ k before. HasRun k before old new last (trace_in text).inputs)) (subst (Replayed Ends first last known rest old new) is h)

  pub within_line : (outcome : Result Totals CmdFault) → Replayed Ends first last known rest old new outcome
      → IfErr outcome (λ own. (own ≡ Read) ⊎ (own ≡ NeverEnds) → FailsWithinLine known rest (λ taken. AfterAny first (λ k before. HasRun k before old new last (trace_of taken).inputs)))
  within_line (Ok totals) h = tt
  within_line (Err Read) h = λ which. h
  within_line (Err NeverEnds) h = λ which. h
  within_line (Err Write) h = λ which. ⊎_elim (λ e. absurd cc) (λ e. absurd cc) which
  within_line (Err Memory) h = λ which. ⊎_elim (λ e. absurd cc) (λ e. absurd cc) which
  within_line (Err (BadLine number)) h = λ which. ⊎_elim (λ e. absurd cc) (λ e. absurd cc) which

  pub not_written : (outcome : Result Totals CmdFault) → outcome ≡ Err Write → Replayed Ends first last known rest old new outcome
      → IfSome known (λ text. AfterAny first (λ k before. FailsToWrite k before old new last (trace_in text).inputs))
  not_written outcome is h = subst (Replayed Ends first last known rest old new) is h

  pub not_made : (outcome : Result Totals CmdFault) → outcome ≡ Err Memory → Replayed Ends first last known rest old new outcome
      → IfSome known (λ text. AfterAny first (λ k before. BreaksOff k before last (WritesWhole old new) (trace_in text).inputs))
  not_made outcome is h = subst (Replayed Ends first last known rest old new) is h
