-- The forms, evaluated.
use Rattle.std.proofs.Common.{◌≡◌, ℕ, List, Bor, true, false, [], ◌∷◌, ◌++◌, codes, map, refl}
use Rattle.std.specs.Fmt.{digits}
use Rattle.std.specs.Str.{chars, is_utf8}
use Rattle.json.specs.Token.{Token, end_object}
use Rattle.co_text.specs.Printed.{digits_text}
use Rattle.conode_text.specs.Filled.{filled}
use Rattle.conode_text.specs.Unseen.{code_text}
use Rattle.conode_json.specs.Characters.{characters_of, utf8_of}
use Rattle.conode_json.specs.Members.{count_member, object_begin, text_member}
use Rattle.conode_lint_text.specs.Characters.{shown, shown_all}
use Rattle.conode_lint_text.specs.declared.finding.Finding.{Finding}
use Rattle.conode_lint_text.specs.declared.finding.Place.TheVariants.{Beginning, Value}
use Rattle.conode_lint_text.specs.declared.finding.Severity.TheVariants.{Error, Warning}
use Rattle.conode_lint_text.specs.declared.finding.About.TheVariants.{Line, Object, Entry, Bits}
use Rattle.conode_lint_text.specs.Findings.{about_message, column_of, fix_with, help_of, message_of, place_in, value_place}
use Rattle.conode_lint_text.specs.SarifForm.{line_members}
use Rattle.conode_lint_text.specs.TextForm.{counted, finding_lines, more_line, position_text, summary_line}

-- a tab, a control character below 20h and one above 7Fh, a blank and a letter
controls : shown_all (9 ∷ 27 ∷ 0x7F ∷ 0x9B ∷ 32 ∷ 65 ∷ []) ≡ codes "\\t\\x1B\\x7F\\x9B A"
unfolding shown code_text digits_text lib.Utf8.encode
controls = refl

-- a no-break space and what can't be seen
unseen : shown_all (0xA0 ∷ 0xAD ∷ 0x61C ∷ 0x202E ∷ 0xFEFF ∷ 0xE0001 ∷ []) ≡ codes "\\xA0\\xAD\\u061C\\u202E\\uFEFF\\U000E0001"
unfolding shown code_text digits_text
unseen = refl

-- and what is seen beside them
seen : shown_all (0xA1 ∷ 0xE4 ∷ 0x61B ∷ 0x1F600 ∷ []) ≡ 0xC2 ∷ 0xA1 ∷ 0xC3 ∷ 0xA4 ∷ 0xD8 ∷ 0x9B ∷ 0xF0 ∷ 0x9F ∷ 0x98 ∷ 0x80 ∷ []
unfolding shown lib.Utf8.encode
seen = refl

-- after `=` and blanks; without `=` where the line begins
values : value_place (codes "a = 5") ∷ value_place (codes "a=5") ∷ value_place (codes "  a") ∷ value_place (codes "a=") ∷ [] ≡ 4 ∷ 2 ∷ 2 ∷ 2 ∷ []
values = refl

-- a line, an object, an entry, and how many bits a mapping maps
abouts : about_message Line (codes "m") ∷ about_message (Object 0x1A00) (codes "m") ∷ about_message (Entry 0x1A00 3) (codes "m") ∷ about_message (Bits 0x1A02 72) (codes "m") ∷ []
    ≡ codes "m" ∷ codes "1A00: m" ∷ codes "1A00:03: m" ∷ codes "1A02:00: 72 bits in all: m" ∷ []
unfolding about_message filled digits_text digits
abouts = refl

help_with_subject : help_of (codes "do it") (codes "CiA 301") ≡ codes "do it (CiA 301)"
unfolding help_of filled
help_with_subject = refl

help_without_subject : help_of (codes "do it") [] ≡ codes "do it"
unfolding help_of filled
help_without_subject = refl

one_and_many : summary_line 1 2 0 ≡ codes "1 error, 2 warnings in 0 files\n"
unfolding summary_line counted filled digits
one_and_many = refl

further : more_line (codes "a.eds") 3 ≡ codes "a.eds: 3 more\n"
unfolding more_line filled shown digits lib.Utf8.encode
further = refl

-- ---- the lines of a finding

abbrev words : List ℕ → Bor (List ℕ)
words text = record { ref_ptr = (0, 0); now = text }

abbrev bad_type : Finding
bad_type = record {
  line = 7;
  place = Value;
  about = Line;
  severity = Error;
  name = words (codes "BadType");
  meaning = words (codes "no type");
  fix = words (codes "give one");
  subject = words (codes "CiA 306-1");
  text = words (codes " T=\t9");
}

-- at its value; without colours
at_value : finding_lines false (codes "a.eds") bad_type
    ≡ codes "a.eds:7:5: error[BadType]: no type\n     T=\\t9\n  help: give one (CiA 306-1)\n"
unfolding finding_lines position_text column_of place_in characters_of message_of about_message fix_with help_of filled shown chars is_utf8 digits lib.Utf8.encode
at_value = refl

-- ---- the line in a log of SARIF

abbrev at_beginning : Finding
at_beginning = record {
  line = 7;
  place = Beginning;
  about = Line;
  severity = Error;
  name = words (codes "BadLine");
  meaning = words (codes "m");
  fix = words (codes "f");
  subject = words [];
  text = words (codes "T 9");
}

-- the text of a line in a region, and the region's end
abbrev snippet : List ℕ → List Token
snippet line = object_begin (codes "snippet") ++ text_member (codes "text") (utf8_of line) ++ end_object ∷ end_object ∷ []

-- from column 1 on the region is the whole line, and has it
whole_region : line_members at_beginning ≡ snippet (codes "T 9")
unfolding line_members object_begin count_member text_member column_of place_in characters_of chars is_utf8 lib.Utf8.encode
whole_region = refl

-- from column 5 on another region has the line: line 7
region_around : line_members bad_type ≡ end_object ∷ (object_begin (codes "contextRegion") ++ count_member (codes "startLine") 7 ++ snippet (codes " T=\t9"))
unfolding line_members object_begin count_member text_member column_of place_in characters_of chars is_utf8 lib.Utf8.encode
region_around = refl

abbrev no_line : Finding
no_line = record {
  line = 0;
  place = Beginning;
  about = Object 0x1A00;
  severity = Warning;
  name = words (codes "PdoPair");
  meaning = words (codes "m");
  fix = words (codes "f");
  subject = words [];
  text = words [];
}

-- no line is to blame; in colours
without_line : finding_lines true (codes "b") no_line
    ≡ 27 ∷ codes "[1mb:" ++ 27 ∷ codes "[0m " ++ 27 ∷ codes "[1;35mwarning[PdoPair]:" ++ 27 ∷ codes "[0m 1A00: m\n  " ++ 27 ∷ codes "[1;36mhelp:" ++ 27 ∷ codes "[0m f\n"
unfolding finding_lines position_text column_of message_of about_message fix_with help_of filled shown digits_text lib.Utf8.encode
without_line = refl
