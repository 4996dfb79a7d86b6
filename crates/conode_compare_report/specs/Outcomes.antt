-- How a comparison ended.
use Rattle.std.specs.Prelude.{ℕ, ◌==◌, nat_lt, ◌&&◌, if◌then◌else◌, List, codes}
use Rattle.conode_compare_text.specs.declared.tally.Tally.{Tally}
use Rattle.conode_compare_report.specs.Abouts.{Described}
use Rattle.conode_compare_report.specs.declared.outcome.Outcome.{Outcome}
use Rattle.conode_compare_report.specs.declared.outcome.Outcome.TheVariants.{NoDifference, Differences, NoFrame, SeveralInterfaces}

abbrev pub of_tally : Tally → Outcome
of_tally tally =
    if nat_lt 0 tally.different then Differences
    else (if (tally.prescribed == 0) && (tally.unjudged == 0) then NoFrame else NoDifference)

-- frames of several interfaces come first: what was compared is of one of them
abbrev pub outcome_of : Described → Outcome
outcome_of about = if about.several then SeveralInterfaces else of_tally about.tally

abbrev pub outcome_name : Outcome → List ℕ
outcome_name NoDifference = codes "no difference"
outcome_name Differences = codes "differences"
outcome_name NoFrame = codes "not compared"
outcome_name SeveralInterfaces = codes "not compared"
