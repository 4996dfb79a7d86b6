-- The table of entries in memory: lines, and their names one after another.
use Rattle.std.specs.Prelude.{◌≤◌, ◌+◌, ℕ, List, map, take, drop, All}
use Rattle.co_dict_table.specs.declared.table.Line.{Line}
use Rattle.co_dict_table.specs.declared.table.DescribedEntry.{DescribedEntry}
use Rattle.co_dict_table.specs.Entries.{EntryContent}

-- the entry of a line: its name is the part of the names that begins at `start` and has `size`
-- bytes
abbrev pub in_line : List ℕ → Line → EntryContent
in_line names l = record { facts = l.facts; name = take l.size (drop l.start names) }

abbrev pub in_table : List ℕ → List Line → List EntryContent
in_table names lines = map (in_line names) lines

-- each name is within this many bytes
abbrev pub AreWithin : ℕ → List Line → Type 0
AreWithin size lines = All (λ l. l.start + l.size ≤ size) lines

-- an entry with its name
abbrev pub described_view : DescribedEntry → EntryContent
described_view d = record { facts = d.facts; name = d.name.now }
