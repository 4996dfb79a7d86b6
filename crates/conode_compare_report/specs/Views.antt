-- What contracts see of what is kept.
use Rattle.std.specs.Prelude.{ℕ, List, Option}
use Rattle.conode_explain_transfers.specs.Followed.{Following}
use Rattle.conode_compare_report.specs.declared.before.Rpdos.{Rpdos}
use Rattle.conode_compare_report.specs.declared.kind.Counted.{Counted}
use Rattle.conode_compare_report.specs.declared.noted.Noted.{Noted}
use Rattle.conode_compare_report.specs.Contexts.{KeptLine}
use Rattle.conode_compare_report.specs.Coverages.{CoverageView}
use Rattle.conode_compare_report.specs.Spans.{LanesView}

-- what is kept of a comparison
pub record Kept : Type 0 where
  pub kinds : List Counted
  pub noted : List Noted
  pub unlisted : ℕ
  pub context : List KeptLine
  pub coverage : CoverageView
  pub lanes : LanesView
  pub lines : ℕ
  pub bad_lines : ℕ
  pub begin : Option ℕ
  pub end : ℕ
  -- lines before the next one that are not kept so far, at most four; the number up to which lines
  -- are kept; the device's SDO channel; the stamp of the newest frame of error control; its RPDOs
  pub recent : List KeptLine
  pub wanted : ℕ
  pub channel : Following
  pub control : Option ℕ
  pub rpdos : Rpdos
