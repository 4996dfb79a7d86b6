-- What the tables of a text say, without where its bytes lie in memory.
use Rattle.std.specs.Prelude.{ℕ, List, map, Option}
use Rattle.co_sheet_text.specs.Sections.{TextSection}
use Rattle.co_sheet.specs.Listings.{named_by}
use Rattle.co_sheet_text_warnings.specs.declared.keys.WrittenKey.{WrittenKey as CodeKey}
use Rattle.co_sheet_text_warnings.specs.declared.lists.ListCheck.{ListCheck}
use Rattle.co_sheet_text_warnings.specs.declared.lists.ListCheck.TheVariants.{Objects, Order, Count}
use Rattle.co_sheet_text_warnings.specs.Keys.{WrittenKey}
use Rattle.co_sheet_text_warnings.specs.Lines.{numbered}
use Rattle.co_sheet_text_warnings.specs.Lists.{first_fall, uncounted_key, wrong_listings}
use Rattle.co_sheet_text_warnings.specs.ReadTexts.{ReadText}

-- the lines of a list that fail a check
abbrev pub list_places : ListCheck → TextSection → List ℕ
list_places Objects s = wrong_listings s
list_places Order s = first_fall 0 (named_by s)
list_places Count s = uncounted_key s

-- a key
abbrev pub key_view : CodeKey → WrittenKey
key_view k = record { topic = k.topic; name = k.name.now; value = k.value.now; line = k.line }

-- a text, by its lists
abbrev pub text_view :
    List ℕ → List (List ℕ) → List TextSection → List CodeKey → Option ℕ → ReadText
text_view text lines sections keys node = record {
  text = text;
  lines = numbered 1 lines;
  sections = sections;
  keys = map key_view keys;
  node = node;
}
