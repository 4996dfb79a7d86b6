-- How a command over the statistics of a recording ends: what is written, and its exit status.
use Rattle.std.specs.Prelude.{◌≡◌, ℕ, zero, suc, Bool, false, List, Option, None, Result, Ok, Err, IfOk}
use Rattle.std.specs.Io.KnownBytes.{Appends}
use Rattle.conode_convert.specs.Converted.{at_start}
use Rattle.conode_io.specs.declared.fault.CmdFault.{CmdFault}
use Rattle.conode_logs.specs.declared.log.Form.{Form}
use Rattle.conode_stats_counts.specs.Buses.{Counted, counts_of}
use Rattle.conode_stats_text.specs.declared.page.Page.{Page}
use Rattle.conode_stats_text.specs.Pages.{page_lines}
use Rattle.conode_stats.specs.declared.recording_file.Settings.{Settings}
use Rattle.conode_stats.specs.declared.recording_file.StatsWords.{StatsWords}
use Rattle.conode_stats.specs.Frames.{bad_count, frames_of}

-- 0 where the page is written and no line is bad; 1 where a line is bad, or where it stopped early, by a
-- fault
abbrev pub stats_status : Result ℕ CmdFault → ℕ
stats_status (Ok zero) = 0
stats_status (Ok (suc more)) = 1
stats_status (Err fault) = 1

-- The status is that of an outcome: so many bad lines, and this holds of their number; or a fault.
pub record Ends (Whole : ℕ → Type 0) (status : ℕ) : Type 0 where
  pub outcome : Result ℕ CmdFault
  pub shown : status ≡ stats_status outcome
  pub whole : IfOk outcome Whole

-- ---- what is written

-- the page of such counts and so many bad lines, by what is asked for
pub record IsPage (settings : Settings) (counts : Counted) (bad : ℕ) (page : Page) : Type 0 where
  pub counted : page.counts.now ≡ counts
  pub wrong : page.bad ≡ bad
  pub facts : page.sheets.now ≡ settings.sheets.now
  pub rate : page.bit_rate ≡ settings.bit_rate

-- what is made of them: as text the lines of the page; of JSON nothing is known
abbrev pub IsMade : Settings → Counted → ℕ → List ℕ → Type 0
IsMade settings counts bad made =
    settings.json ≡ false → (page : Page) × IsPage settings counts bad page × (made ≡ page_lines page)

-- what is made of the frames of a text is written, and so many lines of it are bad
abbrev pub WritesPage : Settings → Option (List ℕ) → Option (List ℕ) → ℕ → List ℕ → Type 0
WritesPage settings old new bad text =
    (made : List ℕ) × Appends old new made × IsMade settings (counts_of (frames_of settings.log text)) bad made
    × (bad ≡ bad_count (at_start settings.log) text)

-- ---- as the words of the command line ask for it

-- the page of such counts without a bad line, by a bit rate; which data sheets it has isn't said
pub record IsPageBy (rate : Option ℕ) (counts : Counted) (page : Page) : Type 0 where
  pub counted : page.counts.now ≡ counts
  pub wrong : page.bad ≡ 0
  pub by : page.bit_rate ≡ rate

-- All of some text is counted in this form, none of its lines is bad, and what is made of it is written: as
-- text the lines of that page; of JSON nothing is known.
abbrev pub CountsAll : Option ℕ → Bool → Form → Option (List ℕ) → Option (List ℕ) → Type 0
CountsAll rate json form old new =
    (text : List ℕ) × (bad_count (at_start form) text ≡ 0)
    × (made : List ℕ) × Appends old new made
    × (json ≡ false → (page : Page) × IsPageBy rate (counts_of (frames_of form text)) page × (made ≡ page_lines page))

-- by some bit rate, and by none where no word gives one
abbrev pub CountsAsked : StatsWords → Option (List ℕ) → Option (List ℕ) → Type 0
CountsAsked words old new =
    (rate : Option ℕ) × (words.bit_rate ≡ None → rate ≡ None) × CountsAll rate words.json words.log old new
