-- Application events: what they do, and their answers.
use Rattle.std.specs.Prelude.{ℕ, ◌&&◌, nat_lt, Bool, ◌==◌, not, Option, None, Some, bit_or, List, [], ◌∷◌}
use Rattle.co_frame_aborts.specs.AbortCodes.{object_missing, invalid_value}
use Rattle.co_frame.specs.declared.emergency.Emergency.{Emergency}
use Rattle.co_dict.specs.Rows.{Rows, Contents, written}
use Rattle.co_dict.specs.Stores.{Description}
use Rattle.co_dict.specs.Refusals.{refused_if}
use Rattle.co_dict.specs.Objects.{missing_entry}
use Rattle.co_dict.specs.WriteRefusals.{app_refusal}
use Rattle.co_pdo.specs.Tpdos.{has_tpdo}
use Rattle.co_node_model.specs.Inputs.{AppView, Written, EventOn, ChangedAt, Raised, Cleared}
use Rattle.co_node_model.specs.declared.app_answer.AppAnswer.{AppAnswer}
use Rattle.co_node_model.specs.Moments.{Moment, History}
use Rattle.co_node_model.specs.declared.mark.Mark.{Mark}
use Rattle.co_node_model.specs.declared.device_error.DeviceError.{DeviceError}
use Rattle.co_node_model.specs.Emergencies.{raised, cleared, emergency_of, clearing_of}
use Rattle.co_node_model.specs.declared.app_answer.AppAnswer.TheVariants as answer
use Rattle.co_node_model.specs.declared.mark.Asked.TheVariants as asked
use Rattle.co_node_model.specs.declared.mark.Mark.TheVariants as was

-- ---- why one is refused

-- the dictionary has TPDO k, 0 to 511
abbrev pub is_tpdo : Rows → ℕ → Bool
is_tpdo rows k = nat_lt k 512 && has_tpdo rows k

-- why an application event is refused: a write by `app_refusal`; an event of a missing TPDO; a
-- change of a missing entry; an error with code 0. Clearing is never refused
abbrev pub event_refusal : Description → Contents → AppView → Option ℕ
event_refusal d contents (Written key bytes) = app_refusal d contents key bytes
event_refusal d contents (EventOn k) = refused_if (not (is_tpdo d.rows k)) object_missing
event_refusal d contents (ChangedAt key) = missing_entry d.rows key
event_refusal d contents (Raised code bits manufacturer) = refused_if (code == 0) invalid_value
event_refusal d contents (Cleared bits) = None

-- the answer to an event, by its refusal
abbrev pub answer_with : Option ℕ → AppAnswer
answer_with None = answer.Done
answer_with (Some code) = answer.Refused (record { 0 = code })

-- the answer to an application event
abbrev pub app_answer : Description → Contents → AppView → AppAnswer
app_answer d contents event = answer_with (event_refusal d contents event)

-- ---- the effect of an event that isn't refused

-- the mark of an event
abbrev pub app_mark : AppView → Mark
app_mark (Written key bytes) = was.Written key
app_mark (EventOn n) = was.Asked (asked.Event n)
app_mark (ChangedAt key) = was.Asked (asked.Changed key)
app_mark (Raised code bits manufacturer) = was.Quiet
app_mark (Cleared bits) = was.Quiet

-- the error that an application raises: it also sets bit 0, generic error
abbrev pub app_error : ℕ → ℕ → List ℕ → DeviceError
app_error code bits manufacturer = record { code = code; bits = bit_or bits 1; manufacturer = manufacturer }

-- the contents after an event
abbrev pub app_contents : Description → AppView → Contents → Contents
app_contents d (Written key bytes) contents = written contents key bytes
app_contents d (EventOn n) contents = contents
app_contents d (ChangedAt key) contents = contents
app_contents d (Raised code bits manufacturer) contents = raised d.rows (app_error code bits manufacturer) contents
app_contents d (Cleared bits) contents = cleared d.rows bits contents

-- the emergencies that an event queues
abbrev pub app_emergencies : AppView → Contents → List Emergency
app_emergencies (Written key bytes) contents = []
app_emergencies (EventOn n) contents = []
app_emergencies (ChangedAt key) contents = []
app_emergencies (Raised code bits manufacturer) contents = emergency_of (app_error code bits manufacturer) contents ∷ []
app_emergencies (Cleared bits) contents = clearing_of bits contents ∷ []

-- the moment with an application event, by its refusal; a refused event changes nothing but the
-- answer
abbrev pub with_app_event : Description → AppView → Option ℕ → Moment → Moment
with_app_event d event (Some code) m = record m { app = answer_with (Some code) }
with_app_event d event None m = record m {
  mark = app_mark event;
  app = answer_with None;
  raised_by_app = app_emergencies event m.received;
  received = app_contents d event m.received;
}

-- ---- over all inputs

-- the answer to the last input, if that was an application event
abbrev pub app_at : History → AppAnswer
app_at [] = answer.None
app_at (m ∷ history) = m.app
