-- The lines of a recording, and then its end.
use Rattle.std.proofs.Common.{◌≡◌, ℕ, List, ◌++◌, Option, Result, Ok, Err, ap, sym, subst, ◌∙◌}
use Rattle.std.specs.Prelude.{IfOk}
use Rattle.std.specs.List.{flat_map}
use Rattle.std.specs.Io.KnownBytes.{Keeps}
use Rattle.std.proofs.KnownBytes.{Appends-kept}
use Rattle.conode_io.specs.declared.fault.CmdFault.{CmdFault}
use Rattle.conode_io.specs.TraceTexts.{GaveText}
use Rattle.conode_io.specs.Written.{WritesLines}
use Rattle.conode_io.proofs.WriteLemmas.{lines_after}
use Rattle.conode_logs.specs.declared.log.Form.{Form}
use Rattle.conode_compare.specs.declared.comparing.Comparing.{Comparing}
use Rattle.conode_compare.specs.declared.document.Format.{Format}
use Rattle.conode_compare.specs.Compared.{Comparison, compared}
use Rattle.conode_compare.specs.Documents.{end_lines, kept_for, output}
use Rattle.conode_compare.specs.Judged.{Judged, status_after}
use Rattle.conode_compare.specs.Taking.{Compares}

module _ (format : Format) (c : Comparison) (version sheet : List ℕ) (form : Form) (comparing : Comparing) (old mid new : Option (List ℕ))
    (written : WritesLines mid new (end_lines format c version sheet comparing comparing.report)) where
  pub ends : (text : List ℕ) → Compares c form (kept_for format c) old mid comparing text → WritesLines old new (output format c version sheet form text)
  ends text h =
      subst (λ (last : Comparing). WritesLines old new (compared c form (kept_for format c) text ++ end_lines format c version sheet last last.report)) h.1
      (lines_after old mid new (compared c form (kept_for format c) text) (end_lines format c version sheet comparing comparing.report) h.0 written)

  pub ends_any : (before after : Option (List ℕ)) → GaveText before after (Compares c form (kept_for format c) old mid comparing)
      → GaveText before after (Judged format c version sheet form old new (status_after comparing))
  ends_any before after (text, taken, h) = (text, taken, (ap status_after h.1, ends text h))

-- a flush after that, and the status
module _ (format : Format) (c : Comparison) (version sheet : List ℕ) (form : Form) (old mid new : Option (List ℕ)) (before after : Option (List ℕ)) (status : ℕ) where
  pub flushed_judged : (outcome : Result Comparing CmdFault) (comparing : Comparing) → outcome ≡ Ok comparing
      → IfOk outcome (λ at_end. GaveText before after (Judged format c version sheet form old mid (status_after at_end)))
      → Keeps mid new → status ≡ status_after comparing → GaveText before after (Judged format c version sheet form old new status)
  flushed_judged (Ok at_end) comparing is (text, taken, h) kept by =
      let same : at_end ≡ comparing = cc in
      (text, taken, (by ∙ (sym (ap status_after same) ∙ h.0), Appends-kept old mid new (flat_map (λ (line : List ℕ). line) (output format c version sheet form text)) h.1 kept))
  flushed_judged (Err fault) comparing is h kept by = cc
