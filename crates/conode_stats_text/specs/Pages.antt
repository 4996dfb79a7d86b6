-- The page: which lines it has, and in which order.
use Rattle.std.specs.Prelude.{ℕ, ◌==◌, Bool, nat_lt, ◌&&◌, if◌then◌else◌, List, [], ◌++◌, length, codes}
use Rattle.conode_stats_counts.specs.Gaps.{most}
use Rattle.conode_stats_text.specs.declared.page.Page.{Page}
use Rattle.conode_stats_text.specs.declared.tables.Table.TheVariants.{Buses, Identifiers}
use Rattle.conode_stats_text.specs.Found.{count_of, found_lines}
use Rattle.conode_stats_text.specs.StatsLines.{if_any}
use Rattle.conode_stats_text.specs.Tables.{node_table, table_lines}

-- ---- what looks wrong, at its top and its end

-- whether so many are more than the top of the page has
abbrev pub is_long : ℕ → Bool
is_long count = nat_lt 20 count

-- of so many that look wrong, so many of a kind are at the top; 2^64 - 1 are all
abbrev pub most_at_top : ℕ → ℕ
most_at_top count = if is_long count then 2 else most

abbrev pub nothing_words : Page → List ℕ
nothing_words page = if length page.counts.now.buses == 0 then codes "  no frames\n" else codes "  nothing\n"

-- where nothing looks wrong
abbrev pub nothing_line : ℕ → Page → List ℕ
nothing_line count page =
    if (count == 0) && ((page.bad == 0) && (page.counts.now.left_out == 0)) then nothing_words page else []

-- the top of the page
unfoldable pub top_lines : ℕ → Page → List ℕ
top_lines count page =
    codes "What looks wrong\n" ++ (found_lines 0 (most_at_top count) page ++ (if_any (codes "bad lines") page.bad
    ++ (if_any (codes "frames of more than 16 interfaces, not counted") page.counts.now.left_out ++ nothing_line count page)))

-- its end: the others of each kind
abbrev pub end_lines : ℕ → Page → List ℕ
end_lines count page =
    if is_long count then codes "More of what looks wrong\n" ++ found_lines (most_at_top count) most page else []

-- ---- the whole

-- what looks wrong, the buses, their nodes, their identifiers; and more of what looks wrong, where
-- there is more than 20 in all
unfoldable pub page_lines : Page → List ℕ
page_lines page =
    top_lines (count_of page) page
    ++ (table_lines Buses page ++ (node_table page ++ (table_lines Identifiers page ++ end_lines (count_of page) page)))
