-- The bus over time, in spans of equal width: at most 2,000, which are joined two by two where a
-- frame comes later.
use Rattle.std.specs.Prelude.{ℕ, zero, suc, ◌+◌, ◌-◌, ◌*◌, ◌/◌, ◌^◌, ◌==◌, min, nat_lt, true, false, ◌||◌, if◌then◌else◌, List, [], ◌∷◌, ◌++◌, length, replicate, Option, Some, None}
use Rattle.conode_compare_nmt.specs.declared.finding.NmtState.{NmtState}
use Rattle.conode_compare_nmt.specs.declared.finding.NmtState.TheVariants.{Unknown, Initialising, PreOperational, Operational, Stopped}
use Rattle.conode_compare_report.specs.declared.lanes.Bin.{Bin}
use Rattle.conode_compare_report.specs.declared.lanes.Lane.{Lane}
use Rattle.conode_compare_report.specs.declared.lanes.Lane.TheVariants.{Heartbeats, Emergencies, Transfers, Tpdos, Rpdos}
use Rattle.conode_compare_report.specs.declared.lanes.States.{States}
use Rattle.conode_compare_report.specs.Counts.{changed_at}

pub record LanesView : Type 0 where
  pub begin : ℕ
  pub width : ℕ
  pub bins : List Bin

-- ---- states

abbrev pub no_states : States
no_states = record { initialising = false; pre_operational = false; operational = false; stopped = false }

abbrev pub states_with : NmtState → States → States
states_with Unknown states = states
states_with Initialising states = record states { initialising = true }
states_with PreOperational states = record states { pre_operational = true }
states_with Operational states = record states { operational = true }
states_with Stopped states = record states { stopped = true }

-- those of both
abbrev pub states_of_both : States → States → States
states_of_both a b = record {
  initialising = a.initialising || b.initialising;
  pre_operational = a.pre_operational || b.pre_operational;
  operational = a.operational || b.operational;
  stopped = a.stopped || b.stopped;
}

-- ---- one span

abbrev pub empty_bin : Bin
empty_bin = record {
  states = no_states;
  heartbeats = 0;
  emergencies = 0;
  transfers = 0;
  tpdos = 0;
  rpdos = 0;
  differences = 0;
}

-- a sum, up to 2^32 - 1
abbrev pub summed : ℕ → ℕ → ℕ
summed a b = min (a + b) (2 ^ 32 - 1)

-- one frame more in a lane
abbrev pub in_lane : Option Lane → Bin → Bin
in_lane (Some Heartbeats) bin = record bin { heartbeats = summed bin.heartbeats 1 }
in_lane (Some Emergencies) bin = record bin { emergencies = summed bin.emergencies 1 }
in_lane (Some Transfers) bin = record bin { transfers = summed bin.transfers 1 }
in_lane (Some Tpdos) bin = record bin { tpdos = summed bin.tpdos 1 }
in_lane (Some Rpdos) bin = record bin { rpdos = summed bin.rpdos 1 }
in_lane None bin = bin

-- a frame more, after which this state is known, with so many differences
unfoldable pub bin_with : NmtState → Option Lane → ℕ → Bin → Bin
bin_with state lane differences bin = in_lane lane (record bin {
  states = states_with state bin.states;
  differences = summed bin.differences differences;
})

-- two spans as one
unfoldable pub both_bins : Bin → Bin → Bin
both_bins a b = record {
  states = states_of_both a.states b.states;
  heartbeats = summed a.heartbeats b.heartbeats;
  emergencies = summed a.emergencies b.emergencies;
  transfers = summed a.transfers b.transfers;
  tpdos = summed a.tpdos b.tpdos;
  rpdos = summed a.rpdos b.rpdos;
  differences = summed a.differences b.differences;
}

-- ---- all spans

-- each two neighbours as one
unfoldable pub joined : List Bin → List Bin
joined [] = []
joined (bin ∷ []) = bin ∷ []
joined (a ∷ b ∷ more) = both_bins a b ∷ joined more

-- the span of a stamp so many microseconds after the begin
abbrev pub place_in : ℕ → ℕ → ℕ
place_in width passed = if width == 0 then 0 else passed / width

-- twice as wide
abbrev pub doubled : LanesView → LanesView
doubled lanes = record lanes { width = min (lanes.width * 2) (2 ^ 64 - 1); bins = joined lanes.bins }

-- Wide enough for a stamp so many microseconds after the begin, by so many steps at most: 64 are
-- enough for any stamp.
unfoldable pub widened : ℕ → ℕ → LanesView → LanesView
widened zero passed lanes = lanes
widened (suc steps) passed lanes =
    if nat_lt (place_in lanes.width passed) 2000 then lanes else widened steps passed (doubled lanes)

-- with empty spans up to a place
abbrev pub filled : ℕ → List Bin → List Bin
filled place bins = bins ++ replicate (place + 1 - length bins) empty_bin

abbrev pub no_lanes : LanesView
no_lanes = record { begin = 0; width = 1000; bins = [] }

-- they begin with the first frame
abbrev pub begun_at : ℕ → LanesView → LanesView
begun_at micros lanes = if length lanes.bins == 0 then record lanes { begin = micros } else lanes

-- the span at a place is changed; there are spans up to it
abbrev pub spans_with : ℕ → (Bin → Bin) → List Bin → List Bin
spans_with place change bins = changed_at empty_bin place change (filled place bins)

-- one frame more with this stamp, which changes its span
abbrev pub placed : ℕ → (Bin → Bin) → LanesView → LanesView
placed place change lanes = record lanes { bins = spans_with place change lanes.bins }

abbrev pub widened_for : ℕ → LanesView → LanesView
widened_for micros lanes = widened 64 (micros - lanes.begin) lanes

abbrev pub placed_at : ℕ → (Bin → Bin) → LanesView → LanesView
placed_at micros change lanes = placed (min (place_in lanes.width (micros - lanes.begin)) 1999) change lanes

unfoldable pub lanes_with : ℕ → (Bin → Bin) → LanesView → LanesView
lanes_with micros change lanes = placed_at micros change (widened_for micros (begun_at micros lanes))
