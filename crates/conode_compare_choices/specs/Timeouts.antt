-- Transfers that a device goes on with, though its SDO server times out before.
use Rattle.std.specs.Prelude.{ℕ, if◌then◌else◌, Option, Some, None, option_map, option_and_then}
use Rattle.conode_explain_transfers.specs.declared.kinds.Side.TheVariants.{Server}
use Rattle.conode_compare_transfers.specs.declared.dialogue.Exchange.{Exchange}
use Rattle.conode_compare_transfers.specs.Timeouts.{is_late, resumed_after, served_key}
use Rattle.conode_compare_rules.specs.declared.kind.FrameKind.{FrameKind}
use Rattle.conode_compare_rules.specs.declared.kind.FrameKind.TheVariants.{Sdo}
use Rattle.conode_compare_nmt.specs.declared.limits.Limits.{Limits}
use Rattle.conode_compare_choices.specs.declared.choice.Choice.{Choice}
use Rattle.conode_compare_choices.specs.declared.choice.Choice.TheVariants.{NoTimeout}

-- for how long the device had awaited the client's newest frame, after a frame
abbrev pub resumed_with : Option ℕ → FrameKind → Option Exchange → Option ℕ
resumed_with resumed (Sdo side frame) (Some exchange) = resumed_after side exchange.heard.what exchange.awaited resumed
resumed_with resumed kind exchange = resumed

abbrev pub late_by : Limits → ℕ → Exchange → ℕ → Option Choice
late_by limits waited exchange time =
    if is_late limits.tolerance limits.drift time waited then option_map (λ key. NoTimeout key waited time) (served_key exchange.heard)
    else None

-- by an answer, where no earlier request can be answered
abbrev pub late_answer : Limits → ℕ → Exchange → Option Choice
late_answer limits waited exchange = if exchange.certain then option_and_then (late_by limits waited exchange) limits.time else None

-- `choice-timeout`: the device goes on with a transfer, though it had awaited the client's newest frame
-- for longer than its time, where this is known
unfoldable pub timeout_choice : Limits → Option ℕ → FrameKind → Option Exchange → Option Choice
timeout_choice limits (Some waited) (Sdo Server frame) (Some exchange) = late_answer limits waited exchange
timeout_choice limits resumed kind exchange = None
