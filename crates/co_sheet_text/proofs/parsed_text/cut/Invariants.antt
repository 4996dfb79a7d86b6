use Rattle.std.proofs.Common.{◌≡◌, ◌+◌, ◌≤◌, ◌++◌, length, map, drop, vec_len, vec_capacity}
use Rattle.co_sheet_text.specs.Cuts.{cut, property_count}
use Rattle.co_sheet_text.specs.Views.{section_view}
use Rattle.co_sheet_text.proofs.parsed_text.cut.Given as goal

-- the sections so far and those of the headers that are left are all
abbrev pub invariant-loop-header : goal.invariant-loop-header
invariant-loop-header l = record {
  len : vec_len l.sections ≡ l.header-index;
  room : length l.headers ≤ vec_capacity l.sections;
  counted : l.first + property_count (drop l.header-index l.headers) ≡ length l.properties;
  all : map section_view l.sections.items ++ cut (drop l.header-index l.headers) (drop l.first l.properties) ≡ cut l.headers l.properties;
}
