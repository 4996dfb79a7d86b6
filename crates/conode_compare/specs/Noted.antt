-- What is noted of a device beside differences: warnings, its choices, and the values of its entries.
use Rattle.std.specs.Prelude.{ℕ, ◌+◌, ◌-◌, ◌^◌, min, Bool, if◌then◌else◌, List, [], ◌∷◌, Option, Some, None}
use Rattle.std.specs.Option.{option_or}
use Rattle.co_sheet.specs.Content.{Row}
use Rattle.conode_compare_choices.specs.declared.choice.Choice.{Choice}
use Rattle.conode_compare_notes.specs.declared.learned.Shown.{Shown}
use Rattle.conode_compare_choices.specs.declared.choosing.Choosing.{Choosing}
use Rattle.conode_compare_choices.specs.Choosings.{choosing_with, chosen_at, nothing_chosen}
use Rattle.conode_compare_notes.specs.LearnedValues.{learned_with}
use Rattle.conode_compare_notes.specs.Warnings.{nothing_watched, stepped_back, warning_at, watched_with}
use Rattle.conode_compare_rules.specs.declared.kind.FrameKind.{FrameKind}
use Rattle.conode_compare_nmt.specs.declared.limits.Subject.{Subject}
use Rattle.conode_compare_rules.specs.declared.progress.Progress.{Progress}
use Rattle.conode_compare_text.specs.ChoiceTexts.{choice_line}
use Rattle.conode_compare_transfers.specs.declared.dialogue.Exchange.{Exchange}
use Rattle.conode_compare.specs.declared.notes.Noted.{Noted}
use Rattle.conode_compare.specs.declared.notes.Notes.{Notes}

abbrev pub nothing_noted : Notes
nothing_noted = record { newest = None; watched = nothing_watched; choosing = nothing_chosen; choices = 0; learned = [] }

-- what the device chose with a frame, if that is asked for
abbrev pub noted_choice : Bool → Subject → List Row → Choosing → FrameKind → Progress → Option Choice
noted_choice wanted subject rows choosing kind progress = if wanted then chosen_at subject rows choosing kind progress else None

abbrev pub choosing_by : Bool → Subject → List Row → Choosing → FrameKind → Progress → Choosing
choosing_by wanted subject rows choosing kind progress = if wanted then choosing_with subject rows choosing kind progress else choosing

-- what is noted at a frame, by what it is to the device, and what the recording shows with it; that its
-- stamp steps back comes first
unfoldable pub noted_at : Bool → Subject → List Row → Notes → FrameKind → Progress → Noted
noted_at choices subject rows notes kind progress = record {
  warning = option_or (stepped_back notes.newest progress.newest) (warning_at subject rows notes.watched kind progress);
  choice = noted_choice choices subject rows notes.choosing kind progress;
}

-- one more, up to 2^64 - 1
abbrev pub counted : ℕ → Option Choice → ℕ
counted count None = count
counted count (Some choice) = min (count + 1) (2 ^ 64 - 1)

abbrev pub learned_by : Bool → List Row → List Shown → Option Exchange → List Shown
learned_by wanted rows all exchange = if wanted then learned_with rows all exchange else all

-- after a frame
unfoldable pub notes_with : Bool → Bool → Subject → List Row → Notes → FrameKind → Progress → Notes
notes_with choices learned subject rows notes kind progress = record {
  newest = progress.newest;
  watched = watched_with subject rows notes.watched kind progress;
  choosing = choosing_by choices subject rows notes.choosing kind progress;
  choices = counted notes.choices (noted_choice choices subject rows notes.choosing kind progress);
  learned = learned_by learned rows notes.learned progress.exchange;
}

-- the line of a choice
abbrev pub choice_lines : List ℕ → ℕ → Option Choice → List (List ℕ)
choice_lines recording number None = []
choice_lines recording number (Some choice) = choice_line recording number choice ∷ []
