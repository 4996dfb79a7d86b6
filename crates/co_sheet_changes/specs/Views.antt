-- What lines and sections say, without where their texts lie in memory.
use Rattle.std.specs.Prelude.{ℕ, List, map, Option, nat_eq}
use Rattle.std.specs.Option.{option_copied}
use Rattle.indexmap.specs.IndexMap.{get}
use denote.Ref.{Bor}
use Rattle.co_sheet_text.specs.Text.{Line}
use Rattle.co_sheet_changes.specs.declared.line.Line.{Line as CodeLine}
use Rattle.co_sheet_changes.specs.declared.group.Group.{Group as CodeGroup}
use Rattle.co_sheet_changes.specs.declared.originals.Originals.{Originals}
use Rattle.co_sheet_changes.specs.Groups.{Group, Given}

abbrev pub line_view : CodeLine → Line
line_view l = record { number = l.number; bytes = l.bytes.now }

abbrev pub pair_view : Bor (List ℕ) × Bor (List ℕ) → Given
pair_view p = record { name = p.0.now; value = p.1.now }

abbrev pub group_view : CodeGroup → Group
group_view g = record {
  kind = g.kind;
  name = g.name.now;
  head = line_view g.head;
  body = map line_view g.body.now;
}

-- what a table of original types has at a line
abbrev pub text_at : Originals → ℕ → Option (List ℕ)
text_at t line = option_copied (get nat_eq t.texts line)
