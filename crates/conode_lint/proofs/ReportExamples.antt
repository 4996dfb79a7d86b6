-- What is written and counted, evaluated.
use Rattle.std.proofs.Common.{◌≡◌, ℕ, ◌-◌, ◌^◌, List, true, false, [], ◌∷◌, codes, map, Some, None, refl}
use Rattle.std.specs.Prelude.{fold, not}
use Rattle.std.specs.Fmt.{digits}
use Rattle.std.specs.List.{filter, range_with_len}
use Rattle.percent_encoding.specs.AsciiSet.{should_percent_encode}
use Rattle.percent_encoding.specs.Percent.{percent_encode, percent_encode_byte}
use Rattle.conode_text.specs.Filled.{filled}
use Rattle.conode_lint_text.specs.Characters.{shown}
use Rattle.conode_lint_text.specs.TextForm.{counted as counted_things, more_line, summary_line}
use Rattle.conode_lint.specs.declared.report.Counts.{Counts}
use Rattle.conode_lint.specs.declared.report.Form.TheVariants.{Text, Json, Sarif}
use Rattle.conode_lint.specs.declared.report.TheConstants.{ESCAPED}
use Rattle.conode_lint_marks.specs.declared.mark.OtherFormat.TheVariants.{Xml}
use Rattle.conode_lint_marks.specs.declared.mark.Subject.TheVariants.{Format}
use Rattle.conode_lint.specs.Reports.{last_bytes, more_lines, sum_to, unread_tokens, uri_of}
use Rattle.conode_lint.specs.Rules.{is_known, rule_of}
use Rattle.conode_lint.specs.Sessions.{Taken, counted, lines_of, no_counts, tokens_of}
use Rattle.conode_lint.specs.Statuses.{lint_status}

-- ---- the URI

-- what isn't escaped
kept : filter (λ byte. not (should_percent_encode ESCAPED byte)) (range_with_len 0 256) ≡ codes "-./0123456789ABCDEFGHIJKLMNOPQRSTUVWXYZ_abcdefghijklmnopqrstuvwxyz~"
unfolding should_percent_encode
kept = refl

-- of a relative path, of one from the root, of none
uris : uri_of (codes "a b/c.eds") ∷ uri_of (codes "/a%.eds") ∷ uri_of [] ∷ [] ≡ codes "a%20b/c.eds" ∷ codes "file:///a%25.eds" ∷ [] ∷ []
unfolding uri_of percent_encode percent_encode_byte should_percent_encode
uris = refl

-- ---- how much is counted

sums : sum_to 2 3 ∷ sum_to (2 ^ 64 - 3) 2 ∷ sum_to (2 ^ 64 - 3) 3 ∷ [] ≡ 5 ∷ (2 ^ 64 - 1) ∷ (2 ^ 64 - 1) ∷ []
sums = refl

abbrev unread : Taken
unread = record { name = codes "a"; linted = None }

two_unread : fold counted no_counts (unread ∷ unread ∷ []) ≡ record { errors = 0; warnings = 0; more = 0; files = 0; unread = 2 }
two_unread = refl

-- one that can't be read has no line, and a part of a document of JSON alone
no_lines : lines_of (Text true) unread ∷ lines_of Json unread ∷ lines_of Sarif unread ∷ [] ≡ [] ∷ [] ∷ [] ∷ []
no_lines = refl

no_tokens : tokens_of (Text true) unread ∷ tokens_of Sarif unread ∷ [] ≡ [] ∷ [] ∷ []
no_tokens = refl

its_tokens : tokens_of Json unread ≡ unread_tokens Json (codes "a")
its_tokens = refl

-- ---- the names that may be allowed: of a fault, a build fault, a warning; in this case of letters alone

known : map is_known (codes "OtherFormat" ∷ codes "BadList" ∷ codes "BadCobId" ∷ codes "LineEnds" ∷ codes "badlist" ∷ codes "BadLis" ∷ [] ∷ []) ≡ true ∷ true ∷ true ∷ true ∷ false ∷ false ∷ false ∷ []
known = refl

-- the rule of another format names no format
other_format : (rule_of (Format Xml)).meaning ≡ codes "this is no EDS of CANopen: it is XML, an EDS of EtherNet/IP or DeviceNet, in UTF-16, with CR alone at line ends, or without a section; or its lines end with CR, CR and LF"
unfolding rule_of
other_format = refl

-- what isn't listed
further : more_lines (codes "a.eds") 3 ∷ more_lines (codes "a.eds") 0 ∷ [] ≡ codes "a.eds: 3 more\n" ∷ [] ∷ []
unfolding more_line filled shown digits lib.Utf8.encode
further = refl

-- ---- the end

abbrev some_counts : Counts
some_counts = record { errors = 2; warnings = 1; more = 4; files = 3; unread = 5 }

-- the lines that wait, and the last one; without memory no document
ends : last_bytes (Text false) (codes "line\n") None some_counts ∷ last_bytes Json (codes "line\n") None some_counts ∷ last_bytes Sarif [] None some_counts ∷ [] ≡ Some (codes "line\n2 errors, 1 warning in 3 files\n") ∷ None ∷ None ∷ []
unfolding summary_line counted_things filled digits
ends = refl

-- ---- the status

abbrev status_with : ℕ → ℕ → ℕ → List ℕ
status_with errors warnings unread =
    map (lint_status (record { errors = errors; warnings = warnings; more = 9; files = 9; unread = unread })) (false ∷ true ∷ [])

-- nothing, a warning, an error, what can't be read; without and with --strict
statuses : status_with 0 0 0 ∷ status_with 0 1 0 ∷ status_with 1 0 0 ∷ status_with 1 1 1 ∷ [] ≡ (0 ∷ 0 ∷ []) ∷ (0 ∷ 1 ∷ []) ∷ (1 ∷ 1 ∷ []) ∷ (2 ∷ 2 ∷ []) ∷ []
statuses = refl
