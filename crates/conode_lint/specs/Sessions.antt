-- What is written of many texts, and how much is counted.
use Rattle.std.specs.Prelude.{◌≡◌, ◌⊎◌, ℕ, false, List, [], ◌∷◌, ◌++◌, All, Contains, map, Option, Some, None, IfSome, string_bytes, fold}
use Rattle.std.specs.List.{flat_map}
use Rattle.std.specs.Option.{option_map_or}
use Rattle.std.specs.Io.KnownBytes.{Appends}
use Rattle.json.specs.Token.{Token}
use Rattle.conode_text.specs.Appended.{Appended}
use Rattle.conode_lint.specs.declared.files.LintOptions.{LintOptions}
use Rattle.conode_lint.specs.declared.files.Session.{Session}
use Rattle.conode_lint.specs.declared.linted_text.Linted.{Linted}
use Rattle.conode_lint.specs.declared.marks.Checks.{Checks}
use Rattle.conode_lint.specs.declared.report.Counts.{Counts}
use Rattle.conode_lint.specs.declared.report.Form.{Form}
use Rattle.conode_lint.specs.declared.report.Report.{Report}
use Rattle.conode_lint.specs.Linted.{IsLinted}
use Rattle.conode_lint.specs.Reports.{Begins, Grows, IsHead, found_lines, found_tokens, last_bytes, unread_tokens, with_found, with_unread}
use Rattle.conode_lint.specs.Rules.{is_known}
use Rattle.conode_lint.specs.Statuses.{lint_status}

-- what was taken under a name: what is found in its text, or nothing if it couldn't be read
pub record Taken : Type 0 where
  pub name : List ℕ
  pub linted : Option Linted

abbrev pub IsTaken : Checks → Taken → Type 0
IsTaken checks taken = IfSome taken.linted (λ linted. (text : List ℕ) × IsLinted text checks linted)

-- its lines and its tokens
abbrev pub lines_of : Form → Taken → List ℕ
lines_of form taken = option_map_or (found_lines form taken.name) taken.linted []

abbrev pub tokens_of : Form → Taken → List Token
tokens_of form taken =
    option_map_or (found_tokens form taken.name) taken.linted (unread_tokens form taken.name)

-- nothing is counted
abbrev pub no_counts : Counts
no_counts = record { errors = 0; warnings = 0; more = 0; files = 0; unread = 0 }

-- the counts with it
abbrev pub counted : Counts → Taken → Counts
counted counts taken = option_map_or (with_found counts) taken.linted (with_unread counts)

-- all this was taken, one after another: it is counted, and its tokens are in the document, unless
-- memory ran out. Where no line waited to be handed over, none does now, and all its lines were
-- handed over
pub record Takes (checks : Checks) (taken : List Taken) (old : Session) (before : Option (List ℕ))
    (new : Session) (after : Option (List ℕ)) : Type 0 where
  pub are : All (IsTaken checks) taken
  pub counts : new.counts ≡ fold counted old.counts taken
  pub form : new.report.form ≡ old.report.form
  pub document :
      Appended old.report.document (flat_map (tokens_of old.report.form) taken) new.report.document
  pub waits : string_bytes old.report.text ≡ [] → string_bytes new.report.text ≡ []
  pub lines : string_bytes old.report.text ≡ [] →
      Appends before after (flat_map (lines_of old.report.form) taken)

-- what is found in a text of this name was added, and nothing was handed over
pub record AddsText (checks : Checks) (name text : List ℕ) (old new : Session) : Type 0 where
  pub linted : Linted
  pub is_linted : IsLinted text checks linted
  pub counts : new.counts ≡ with_found old.counts linted
  pub report : Grows (found_lines old.report.form name linted)
      (found_tokens old.report.form name linted) old.report new.report

-- the lines that weren't handed over were; the rest is the same
pub record HandsOver (old : Session) (before : Option (List ℕ)) (new : Session)
    (after : Option (List ℕ)) : Type 0 where
  pub counts : new.counts ≡ old.counts
  pub form : new.report.form ≡ old.report.form
  pub text : string_bytes new.report.text ≡ []
  pub document : new.report.document ≡ old.report.document
  pub written : Appends before after (string_bytes old.report.text)

-- a text of this name was taken
abbrev pub TakesText : Checks → List ℕ → List ℕ → Session → Option (List ℕ) → Session
    → Option (List ℕ) → Type 0
TakesText checks name text old before new after =
    (linted : Linted) × IsLinted text checks linted
    × Takes checks (record { name = name; linted = Some linted } ∷ []) old before new after

-- something of this name that can't be read was taken, whatever is looked for; nothing was handed
-- over
abbrev pub TakesUnread : List ℕ → Session → Session → Type 0
TakesUnread name old new = (checks : Checks) (held : Option (List ℕ)) →
    Takes checks (record { name = name; linted = None } ∷ []) old held new held

-- one thing of this name was taken
abbrev pub TakesOne : Checks → List ℕ → Session → Option (List ℕ) → Session → Option (List ℕ)
    → Type 0
TakesOne checks name old before new after =
    (one : Taken) × (one.name ≡ name) × Takes checks (one ∷ []) old before new after

-- any number of things were
abbrev pub TakesSome : Checks → Session → Option (List ℕ) → Session → Option (List ℕ) → Type 0
TakesSome checks old before new after =
    (taken : List Taken) × Takes checks taken old before new after

-- ---- all

-- the report was begun, and then any number of things were taken
abbrev pub TakesAll : LintOptions → Session → Option (List ℕ) → Session → Option (List ℕ) → Type 0
TakesAll options old before new after =
    (begun : Report) × Begins options.version.now old.report begun
    × TakesSome options.checks (record old { report = begun }) before new after

-- the last bytes were handed over, and these are the counts
pub record Finishes (session : Session) (counts : Counts) (before after : Option (List ℕ)) : Type 0
  where
    pub same : counts ≡ session.counts
    pub last : List ℕ
    pub are : Some last ≡ last_bytes session.report.form (string_bytes session.report.text)
        session.report.document session.counts
    pub written : Appends before after last

-- all bytes of a report on what was taken, which counts this
abbrev pub IsReport : Form → List ℕ → List Taken → Counts → List ℕ → Type 0
IsReport form version taken counts bytes =
    (head : List Token) × IsHead form version head
    × (last : List ℕ)
    × (Some last ≡ last_bytes form [] (Some (head ++ flat_map (tokens_of form) taken)) counts)
    × (bytes ≡ flat_map (lines_of form) taken ++ last)

-- texts were linted, and what couldn't be read was passed over: the report on them was written, and
-- counts them
pub record Lints (options : LintOptions) (counts : Counts) (before after : Option (List ℕ)) : Type 0
  where
    pub taken : List Taken
    pub are : All (IsTaken options.checks) taken
    pub count : counts ≡ fold counted no_counts taken
    pub bytes : List ℕ
    pub report : IsReport options.form options.version.now taken counts bytes
    pub written : Appends before after bytes

-- the status where a name to be allowed is that of no finding: 2; or 1, if memory ran out for what
-- is said of it
abbrev pub NamesUnknown : ℕ → Type 0
NamesUnknown status = (status ≡ 1) ⊎ (status ≡ 2)

-- how `lint` ends, by its status: with the whole report; with 1, if it stopped early; with 2, if a
-- name to be allowed is that of no finding
abbrev pub LintEnds : LintOptions → ℕ → Option (List ℕ) → Option (List ℕ) → Type 0
LintEnds options status before after =
    ((counts : Counts) × Lints options counts before after
    × (status ≡ lint_status counts options.strict))
    ⊎ ((status ≡ 1)
    ⊎ ((status ≡ 2) × (name : List ℕ)
    × Contains (map (λ one. one.now) options.checks.allowed.now) name × (is_known name ≡ false)))
