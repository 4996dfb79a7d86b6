-- What the laws about heartbeats and EMCY ask where clients read the entries of their times, 1017:00 and 1015:00.
use Rattle.std.specs.Prelude.{◌≡◌, ◌⊎◌, ℕ, ◌+◌, Bool, true, false, List, [], ◌∷◌, length, take, Option, Some}
use Rattle.co_value.specs.declared.key.Key.{Key}
use Rattle.co_value.specs.Keys.{same_key}
use Rattle.co_value.specs.Numbers.{unsigned_of}
use Rattle.co_frame.specs.SdoRequests.{request_in}
use Rattle.co_frame.specs.declared.sdo_request.SdoRequest.{SdoRequest}
use Rattle.co_frame.specs.declared.sdo_request.SdoRequest.TheVariants.{DownloadExpedited}
use Rattle.co_profile.specs.Keys.{producer_key}
use Rattle.co_dict.specs.Rows.{Contents, number_at}
use Rattle.co_node_model.specs.Device.{contents_of, moment, moments}
use Rattle.co_node_model.specs.Inputs.{InputView, Inputs, Framed, Ticked, Applied}
use Rattle.co_node_model.specs.Keys.{is_set}
use Rattle.co_node_model.specs.Marks.{marked_key}
use Rattle.co_node_model.specs.Moments.{Constants}
use Rattle.co_sdo.specs.Uploads.{value_at}
use Rattle.conode_explain_transfers.specs.Initiates.{data_of}
use Rattle.conode_compare_laws.specs.Periods.{period_after}
use Rattle.conode_compare_laws.specs.Recordings.{Stamped}

-- an entry has two bytes, or it isn't there; and it has this number
pub record HasWord (key : Key) (word : ℕ) (contents : Contents) : Type 0 where
  pub bytes : (length (value_at contents key) ≡ 0) ⊎ (length (value_at contents key) ≡ 2)
  pub number : number_at contents key ≡ word

-- before each of these inputs, which come after those before
abbrev pub AllHaveWord : Key → ℕ → Constants → Inputs → List Stamped → Type 0
AllHaveWord key word k before [] = Unit {0}
AllHaveWord key word k before (s ∷ later) = HasWord key word (contents_of k before) × AllHaveWord key word k (s.input ∷ before) later

-- an expedited download of the entry (CiA 301, 7.2.4.3.3: ccs = 1, e = 1)
abbrev pub is_expedited_download : Key → Option SdoRequest → Bool
is_expedited_download key (Some (DownloadExpedited named value)) = same_key named key
is_expedited_download key other = false

-- the number in its first two bytes
abbrev pub number_asked : Option SdoRequest → ℕ
number_asked (Some (DownloadExpedited named value)) = unsigned_of (take 2 (data_of value))
number_asked other = 0

-- one that an input asks for on the default channel asks for this number; or it isn't done: it is
-- refused, or comes while the device is stopped
abbrev pub KeepsWord : Key → ℕ → Constants → Inputs → InputView → Type 0
KeepsWord key word k before (Framed frame) =
    frame.id ≡ 0x600 + k.description.node → is_expedited_download key (request_in frame.bytes) ≡ true
    → (number_asked (request_in frame.bytes) ≡ word) ⊎ (is_set (marked_key (moment k (moments k before) (Framed frame)).mark) key ≡ false)
KeepsWord key word k before Ticked = Unit {0}
KeepsWord key word k before (Applied event) = Unit {0}

-- at each of these inputs, which come after those before
abbrev pub AllKeepWord : Key → ℕ → Constants → Inputs → List Stamped → Type 0
AllKeepWord key word k before [] = Unit {0}
AllKeepWord key word k before (s ∷ later) = KeepsWord key word k before s.input × AllKeepWord key word k (s.input ∷ before) later

-- ---- 1017:00, whose number changes

-- it has two bytes before each of these inputs, or it isn't there
abbrev pub AllHavePeriodBytes : Constants → Inputs → List Stamped → Type 0
AllHavePeriodBytes k before [] = Unit {0}
AllHavePeriodBytes k before (s ∷ later) =
    ((length (value_at (contents_of k before) producer_key) ≡ 0) ⊎ (length (value_at (contents_of k before) producer_key) ≡ 2))
    × AllHavePeriodBytes k (s.input ∷ before) later

-- an expedited download of it asks for the number that it has after it, or isn't done
abbrev pub AllAskPeriod : Constants → Inputs → List Stamped → Type 0
AllAskPeriod k before [] = Unit {0}
AllAskPeriod k before (s ∷ later) = KeepsWord producer_key (period_after k (s.input ∷ before)) k before s.input × AllAskPeriod k (s.input ∷ before) later
