use Rattle.std.proofs.Common.{◌≡◌, ◌∙◌, sym}
use Rattle.conode_json.proofs.Appending.{nothing}
use Rattle.conode_compare_report.specs.Abouts.{about_view}
use Rattle.conode_compare_report.specs.Outcomes.{outcome_of}
use Rattle.conode_compare_report.specs.declared.outcome.Outcome.TheVariants.{NoDifference, Differences, NoFrame, SeveralInterfaces}
use Rattle.conode_compare_documents.specs.JunitCases.{no_frame_case, outcome_case}
use Rattle.conode_compare_documents.proofs.junit_cases.push_outcome.Goals as goal

pub returns-in-NoDifference : goal.returns-in-NoDifference
unfolding outcome_case
returns-in-NoDifference c =
    let ended : outcome_of (about_view c.args.about.now) ≡ NoDifference = sym c.of.ensures ∙ c.in-NoDifference.is in rw ended (nothing _)

pub returns-in-Differences : goal.returns-in-Differences
unfolding outcome_case
returns-in-Differences c =
    let ended : outcome_of (about_view c.args.about.now) ≡ Differences = sym c.of.ensures ∙ c.in-Differences.is in rw ended (nothing _)

pub returns-in-NoFrame : goal.returns-in-NoFrame
unfolding outcome_case no_frame_case
returns-in-NoFrame c =
    let ended : outcome_of (about_view c.args.about.now) ≡ NoFrame = sym c.of.ensures ∙ c.in-NoFrame.is in rw ended c.put.ensures

pub returns-in-SeveralInterfaces : goal.returns-in-SeveralInterfaces
unfolding outcome_case
returns-in-SeveralInterfaces c =
    let ended : outcome_of (about_view c.args.about.now) ≡ SeveralInterfaces = sym c.of.ensures ∙ c.in-SeveralInterfaces.is in rw ended c.put_words.ensures
