-- After all inputs the bytes of each entry of a device fit it, where those fit with which it is built, and which a reset restores.
use Rattle.std.proofs.Common.{◌≡◌, ℕ, true, List, [], ◌∷◌, length, sym, subst}
use Rattle.std.specs.List.{All}
use Rattle.co_value.specs.declared.key.Key.{Key}
use Rattle.co_dict.specs.declared.side.Side.TheVariants.{Rpdo}
use Rattle.co_dict.specs.Rows.{Contents, Rows, takes}
use Rattle.co_dict.specs.Stores.{Description}
use Rattle.co_dict_build.specs.Built.{Plan, built_description}
use Rattle.co_pdo.specs.Mappings.{mapping_of}
use Rattle.co_sheet.specs.SheetLaws.{IsSheetRow}
use Rattle.co_node.specs.Built.{IsBuilt}
use Rattle.co_node_parts.specs.declared.rpdo_slots.KeptFrame.{KeptFrame}
use Rattle.co_node_model.specs.Device.{contents_of, moment, moments}
use Rattle.co_node_model.specs.Inputs.{AppView, Applied, ChangedAt, Cleared, EventOn, Framed, Inputs, InputView, Raised, Ticked, Written}
use Rattle.co_node_model.specs.Moments.{Constants, History, channels, contents_at}
use Rattle.co_node_model.specs.Sdo.{channel_logs}
use Rattle.conode_compare_laws.specs.Recordings.{Stamped}
use Rattle.conode_compare_laws.specs.TpdoParameters.{AllAreFilled}
use Rattle.conode_compare_laws.proofs.BuiltEntries.{initial_fit, start_fits, types_built}
use Rattle.conode_compare_laws.proofs.Fitting.{AreFitted, HaveTypes, app_takes, data_fits, mapping_there, of_filled, pushed_fits, register_fits, reset_fits, sdo_takes, written_fits}
use Rattle.conode_compare_laws.proofs.KeptEntries.{GoodEvent, GoodFrames, GoodInput, Keeps, SetsPermitted, next}

-- what isn't refused fits
abbrev pub Fit : Rows → Key → List ℕ → Type 0
Fit rows key bytes = takes rows key (length bytes) ≡ true

fit_event : (d : Description) (c : Contents) → HaveTypes d.rows → (event : AppView) → GoodEvent d (Fit d.rows) c event
fit_event d c types (Written key bytes) = λ is. app_takes d c key bytes types is
fit_event d c types (EventOn n) = tt
fit_event d c types (ChangedAt key) = tt
fit_event d c types (Raised code bits manufacturer) = tt
fit_event d c types (Cleared bits) = tt

pub fit_input : SetsPermitted → (k : Constants) → HaveTypes k.description.rows → (history : History) (input : InputView) → GoodInput k (Fit k.description.rows) history input
fit_input permitted k types history (Framed frame) = λ w is.
    sdo_takes k.description (contents_at k history) w.key w.indicated w.bytes types (permitted (channels k) k.description (contents_at k history) (channel_logs history) frame w is)
fit_input permitted k types history Ticked = tt
fit_input permitted k types history (Applied event) = fit_event k.description (contents_at k history) types event

-- nothing is asked of the data of RPDOs
abbrev pub Any : List ℕ → Type 0
Any bytes = Unit {0}

pub any_frames : (frames : List KeptFrame) → GoodFrames Any frames
any_frames [] = tt
any_frames (frame ∷ frames) = (tt, any_frames frames)

pub fitted_keeps : (d : Description) → HaveTypes d.rows → AreFitted d.rows d.initial → Keeps d (AreFitted d.rows) (Fit d.rows) Any
fitted_keeps d types initial = record {
  write = λ c key bytes room h. written_fits d.rows c key bytes room h;
  register = λ c n h. register_fits d.rows c n types h;
  error = λ c code h. pushed_fits d.rows types c code h;
  data_taken = λ c n bytes good h. data_fits d.rows (mapping_of Rpdo d c n) bytes c (mapping_there Rpdo d c n) h;
  reset = λ area c h. reset_fits d.rows area d.initial c initial h;
}

module _ (permitted : SetsPermitted) (k : Constants) (types : HaveTypes k.description.rows) (initial : AreFitted k.description.rows k.description.initial) (start : AreFitted k.description.rows k.start) where
  pub always : (inputs : Inputs) → AreFitted k.description.rows (contents_of k inputs)
  always [] = start
  always (input ∷ inputs) =
      next k (AreFitted k.description.rows) (Fit k.description.rows) Any (fitted_keeps k.description types initial) (moments k inputs) input (fit_input permitted k types (moments k inputs) input) (any_frames (moment k (moments k inputs) input).taken) (always inputs)

-- ---- at the end of each of these inputs, which come after those before

abbrev pub AllAreFitted : Constants → Inputs → List Stamped → Type 0
AllAreFitted k before [] = Unit {0}
AllAreFitted k before (s ∷ later) = AreFitted k.description.rows (moment k (moments k before) s.input).contents × AllAreFitted k (s.input ∷ before) later

pub all_fitted : (k : Constants) (inputs : List Stamped) (before : Inputs) → ((all : Inputs) → AreFitted k.description.rows (contents_of k all)) → AllAreFitted k before inputs
all_fitted k [] before h = tt
all_fitted k (s ∷ later) before h = (h (s.input ∷ before), all_fitted k later (s.input ∷ before) h)

pub filled_fitted : (k : Constants) (inputs : List Stamped) (before : Inputs) → AllAreFilled k before inputs → AllAreFitted k before inputs
filled_fitted k [] before h = tt
filled_fitted k (s ∷ later) before h = (of_filled k.description.rows (moment k (moments k before) s.input).contents h.0.filled, filled_fitted k later (s.input ∷ before) h.1)

-- ---- a device that is built

pub built_types : (plan : Plan) (k : Constants) → IsBuilt plan k → All IsSheetRow plan.rows → HaveTypes k.description.rows
built_types plan k is lawful = subst (λ (d : Description). HaveTypes d.rows) (sym is.description) (types_built plan lawful)

pub built_initial : (plan : Plan) (k : Constants) → IsBuilt plan k → AreFitted k.description.rows k.description.initial
built_initial plan k is = subst (λ (d : Description). AreFitted d.rows d.initial) (sym is.description) (initial_fit plan)

pub built_start : (plan : Plan) (k : Constants) → IsBuilt plan k → AreFitted k.description.rows k.start
built_start plan k is = subst (λ (d : Description). AreFitted d.rows k.start) (sym is.description) (subst (AreFitted (built_description plan).rows) (sym is.start) (start_fits plan))

pub built_fitted : (permitted : SetsPermitted) (plan : Plan) (k : Constants) → IsBuilt plan k → All IsSheetRow plan.rows → (inputs : Inputs) → AreFitted k.description.rows (contents_of k inputs)
built_fitted permitted plan k is lawful inputs = always permitted k (built_types plan k is lawful) (built_initial plan k is) (built_start plan k is) inputs
