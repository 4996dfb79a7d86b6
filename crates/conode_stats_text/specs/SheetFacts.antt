-- Which data sheet's producer heartbeat time is that of a node, and which one's bit rate that of an interface.
use Rattle.std.specs.Prelude.{ℕ, ◌==◌, Bool, true, false, not, ◌&&◌, List, find, min, Option, Some, None, is_some, option_map}
use Rattle.std.specs.Option.{option_copied, option_or}
use Rattle.std.specs.Str.{bytes_eq}
use Rattle.conode_stats_text.specs.declared.sheet_facts.SheetFacts.{SheetFacts}

-- this one, or any
abbrev pub is_name : Option (List ℕ) → List ℕ → Bool
is_name None name = true
is_name (Some own) name = bytes_eq own name

abbrev pub is_number : Option ℕ → ℕ → Bool
is_number None number = true
is_number (Some own) number = own == number

abbrev pub is_as : Bool → Bool → Bool
is_as a true = a
is_as a false = not a

-- whether a sheet is for one node, or for each, and for one interface, or for each
abbrev pub is_kind : Bool → Bool → SheetFacts → Bool
is_kind node interface sheet = is_as (is_some sheet.node) node && is_as (is_some sheet.interface) interface

-- whether it is for a node on an interface; 0 is for no heartbeats
abbrev pub is_for : List ℕ → ℕ → SheetFacts → Bool
is_for interface node sheet =
    (is_name (option_copied sheet.interface) interface && is_number sheet.node node) && not (sheet.time == 0)

-- the time of the first sheet of a kind
abbrev pub time_by : Bool → Bool → List ℕ → ℕ → List SheetFacts → Option ℕ
time_by of_node of_interface interface node sheets =
    option_map (λ sheet. sheet.time) (find (λ sheet. is_kind of_node of_interface sheet && is_for interface node sheet) sheets)

-- a node's own sheet comes before one for each node, of those the one for an interface, and of
-- these the first
unfoldable pub sheet_time : List ℕ → ℕ → List SheetFacts → Option ℕ
sheet_time interface node sheets =
    option_or (option_or (option_or (time_by true true interface node sheets) (time_by true false interface node sheets))
    (time_by false true interface node sheets)) (time_by false false interface node sheets)

-- whether a sheet has a bit rate, and is for an interface, or for each
abbrev pub has_rate : Bool → List ℕ → SheetFacts → Bool
has_rate of_interface interface sheet =
    not (sheet.bit_rate == 0) && (is_as (is_some sheet.interface) of_interface && is_name (option_copied sheet.interface) interface)

-- the bit rate of the first such sheet
abbrev pub rate_by : Bool → List ℕ → List SheetFacts → Option ℕ
rate_by of_interface interface sheets =
    option_map (λ sheet. sheet.bit_rate) (find (λ sheet. has_rate of_interface interface sheet) sheets)

-- the one that is given; else that of a sheet for the interface, or of one for each, at most 1 Mbit/s
abbrev pub sheet_rate : Option ℕ → List ℕ → List SheetFacts → Option ℕ
sheet_rate given interface sheets =
    option_or given (option_map (λ rate. min rate 1000000)
    (option_or (rate_by true interface sheets) (rate_by false interface sheets)))
