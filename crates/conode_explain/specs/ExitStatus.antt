-- How a command that explains a recording ends: what is written, and its exit status.
use Rattle.std.specs.Prelude.{◌≡◌, ℕ, zero, suc, ◌⊎◌, List, [], ◌++◌, Option, None, Some, IsSome, Result, Ok, Err, IfOk}
use Rattle.std.specs.Option.{option_copied}
use Rattle.conode_io.specs.declared.fault.CmdFault.{CmdFault}
use Rattle.conode_io.specs.Written.{WritesLines}
use Rattle.conode_explain_cob_ids.specs.Known.{KnownSheet}
use Rattle.conode_explain_filter.specs.Filters.{IsFilter}
use Rattle.conode_explain_forms.specs.Lines.{first_missing}
use Rattle.conode_explain_forms.specs.Words.{signals_in}
use Rattle.conode_explain_forms.specs.declared.signal.Signal.{Signal}
use Rattle.conode_explain.specs.declared.explain_file.ExplainOptions.{ExplainOptions}
use Rattle.conode_explain.specs.declared.progress.Layout.{Layout}
use Rattle.conode_explain.specs.Explained.{bad_read, explained, header_lines}
use Rattle.conode_explain.specs.Sheets.{in_order}

-- ---- the status

-- 0 where all is written and none of the lines that were read is bad; 1 where one is, or where it stopped
-- early, by a fault
abbrev pub explain_status : Result ℕ CmdFault → ℕ
explain_status (Ok zero) = 0
explain_status (Ok (suc more)) = 1
explain_status (Err fault) = 1

-- The status is that of an outcome: so many bad lines, and this holds of their number; or a fault.
pub record Ends (Whole : ℕ → Type 0) (status : ℕ) : Type 0 where
  pub outcome : Result ℕ CmdFault
  pub shown : status ≡ explain_status outcome
  pub whole : IfOk outcome Whole

-- ---- what is written

-- the first line of a table, where one is asked for, and then the lines of the recording
abbrev pub output : Layout → List KnownSheet → List ℕ → List (List ℕ)
output form sheets text = header_lines form sheets ++ explained form sheets text

-- all of it is written, and so many of the lines that were read are bad
abbrev pub WritesAll : Layout → List KnownSheet → Option (List ℕ) → Option (List ℕ) → ℕ → List ℕ → Type 0
WritesAll form sheets old new bad text =
    WritesLines old new (output form sheets text) × (bad ≡ bad_read form text)

-- the same of some text: which bytes a file has can't be said
abbrev pub WritesFile : Layout → List KnownSheet → Option (List ℕ) → Option (List ℕ) → ℕ → Type 0
WritesFile form sheets old new bad = (text : List ℕ) × WritesAll form sheets old new bad text

-- ---- by data sheets

-- 2 where none of them has a signal that is asked for, and nothing is explained
abbrev pub EndsBy : Layout → List KnownSheet → Option (List ℕ) → Option (List ℕ) → ℕ → Type 0
EndsBy form sheets old new status =
    ((status ≡ 2) × IsSome (first_missing sheets form.signals.now))
    ⊎ Ends (WritesFile form sheets old new) status

-- by some data sheets, in the order in which they count
abbrev pub EndsBySome : Layout → Option (List ℕ) → Option (List ℕ) → ℕ → Type 0
EndsBySome form old new status = (sheets : List KnownSheet) × EndsBy form (in_order sheets) old new status

-- all of some text is explained by some data sheets, and none of the lines that were read is bad
abbrev pub ExplainsAll : Layout → Option (List ℕ) → Option (List ℕ) → Type 0
ExplainsAll form old new = (sheets : List KnownSheet) × WritesFile form (in_order sheets) old new 0

-- ---- as options ask for it

-- the signals that a word has; none without one
abbrev pub signals_asked : Option (List ℕ) → Result (List Signal) (List ℕ)
signals_asked None = Ok []
signals_asked (Some text) = signals_in text

-- the form that options ask for: the filter has the conditions that their words say
pub record IsLayout (options : ExplainOptions) (form : Layout) : Type 0 where
  pub stamps : form.stamps ≡ options.stamps
  pub transfers : form.transfers ≡ options.transfers
  pub changes : form.changes ≡ options.changes
  pub stop : form.stop ≡ options.stop
  pub format : form.format ≡ options.format
  pub colours : form.colours ≡ options.colours
  pub log : form.log ≡ options.log
  pub filter : IsFilter options.filter form.filter.now
  pub signals : signals_asked (option_copied options.signals) ≡ Ok form.signals.now

-- all of some text is explained as options ask for it
abbrev pub ExplainsAsked : ExplainOptions → Option (List ℕ) → Option (List ℕ) → Type 0
ExplainsAsked options old new = (form : Layout) × IsLayout options form × ExplainsAll form old new
