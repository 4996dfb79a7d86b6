-- What choices rest on, and the choice of each frame.
use Rattle.std.specs.Prelude.{if◌then◌else◌, List, Option, Some, None}
use Rattle.std.specs.Option.{option_or}
use Rattle.co_frame.specs.FrameContent.{FrameContent}
use Rattle.co_sheet.specs.Content.{Row}
use Rattle.conode_explain_transfers.specs.declared.kinds.Side.TheVariants.{Client}
use Rattle.conode_explain_transfers.specs.declared.kinds.What.{What}
use Rattle.conode_explain_transfers.specs.declared.kinds.What.TheVariants.{Initiate}
use Rattle.conode_compare_transfers.specs.declared.dialogue.Exchange.{Exchange}
use Rattle.conode_compare_rules.specs.declared.kind.FrameKind.{FrameKind}
use Rattle.conode_compare_rules.specs.declared.kind.FrameKind.TheVariants.{Sdo}
use Rattle.conode_compare_nmt.specs.declared.limits.Subject.{Subject}
use Rattle.conode_compare_rules.specs.declared.progress.Progress.{Progress}
use Rattle.conode_compare_rules.specs.Progresses.{is_begun}
use Rattle.conode_compare_choices.specs.declared.choice.Choice.{Choice}
use Rattle.conode_compare_choices.specs.declared.choosing.Choosing.{Choosing}
use Rattle.conode_compare_choices.specs.declared.request.Request.{Request}
use Rattle.conode_compare_choices.specs.Choices.{choice_at}
use Rattle.conode_compare_choices.specs.LengthErrors.{error_choice, errors_with, no_errors}
use Rattle.conode_compare_choices.specs.Phases.{no_phases, phase_choice, phases_with}
use Rattle.conode_compare_choices.specs.Requests.{nothing_requested, request_of}
use Rattle.conode_compare_choices.specs.Timeouts.{resumed_with, timeout_choice}

abbrev pub nothing_chosen : Choosing
nothing_chosen = record { request = nothing_requested; phases = no_phases; errors = no_errors; resumed = None }

-- the newest initiate request
abbrev pub request_after : FrameContent → What → Request → Request
request_after frame Initiate request = request_of frame
request_after frame what request = request

abbrev pub request_heard : FrameContent → Option Exchange → Request → Request
request_heard frame None request = request
request_heard frame (Some exchange) request = request_after frame exchange.heard.what request

abbrev pub request_with : Request → FrameKind → Option Exchange → Request
request_with request (Sdo Client frame) exchange = request_heard frame exchange request
request_with request kind exchange = request

-- where the recording begins anew, nothing is known
abbrev pub choosing_before : Choosing → Progress → Choosing
choosing_before choosing progress = if is_begun progress then nothing_chosen else choosing

-- after a frame, by what the recording shows with it
unfoldable pub taken : Subject → List Row → Choosing → FrameKind → Progress → Choosing
taken subject rows choosing kind progress = record {
  request = request_with choosing.request kind progress.exchange;
  phases = phases_with subject rows choosing.phases kind progress;
  errors = errors_with subject rows choosing.errors kind progress;
  resumed = resumed_with choosing.resumed kind progress.exchange;
}

abbrev pub choosing_with : Subject → List Row → Choosing → FrameKind → Progress → Choosing
choosing_with subject rows choosing kind progress = taken subject rows (choosing_before choosing progress) kind progress

-- what the device chose with a frame: one of its choices
unfoldable pub choice_in : Subject → List Row → Choosing → FrameKind → Progress → Option Choice
choice_in subject rows choosing kind progress =
    option_or (timeout_choice subject.limits choosing.resumed kind progress.exchange)
    (option_or (option_or (choice_at rows choosing.request kind progress.exchange progress.remark) (phase_choice choosing.phases kind progress))
    (error_choice subject choosing.errors kind progress))

abbrev pub chosen_at : Subject → List Row → Choosing → FrameKind → Progress → Option Choice
chosen_at subject rows choosing kind progress = choice_in subject rows (choosing_before choosing progress) kind progress
