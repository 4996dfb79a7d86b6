-- The table of entries: one more entry at its end, and what is read of it.
use Rattle.std.proofs.Common.{◌≡◌, ◌+◌, ◌≤◌, ◌<◌, ℕ, List, [], ◌∷◌, ◌++◌, length, take, get_or, Option, Some, None, refl, sym, ap, ◌∙◌, subst, arith}
use Rattle.std.specs.Prelude.{drop, option_map, position, slice_get}
use Rattle.std.proofs.lemmas.Option.{slice_get-get_or, slice_get-map, slice_get_past}
use Rattle.std.proofs.Math.Seq.{drop-append_seam, take-length}
use Rattle.std.proofs.lemmas.List.{length-append, length-drop, take-append-le, drop-append-le, map-append}
use Rattle.std.proofs.lemmas.List.Elements.{All-nil, All-cons, All-head, All-tail, All-append}
use Rattle.co_value.specs.declared.key.Key.{Key}
use Rattle.co_value.specs.Keys.{same_key}
use Rattle.co_sheet.specs.Content.{Row as SheetRow}
use Rattle.co_dict_build.specs.Capacities.{Limits}
use Rattle.co_dict_build.proofs.Places.{position-map}
use Rattle.co_dict_table.specs.declared.table.Line.{Line}
use Rattle.co_dict_table.specs.Entries.{EntryContent, contents_of_rows}
use Rattle.co_dict_table.specs.Tables.{AreWithin, in_line, in_table}

-- the entry of a line with a name
abbrev named : Line → List ℕ → EntryContent
named l name = record { facts = l.facts; name = name }

-- what is within a list stays as it is when the list grows
part_stays : (size start : ℕ) (bytes more : List ℕ) → start + size ≤ length bytes → take size (drop start (bytes ++ more)) ≡ take size (drop start bytes)
part_stays size start bytes more h =
    let rest = length-drop start bytes in
    ap (take size) (drop-append-le start bytes more (omega (arith, h))) ∙ take-append-le size (drop start bytes) more (omega (arith, h, rest))

table_stays : (names more : List ℕ) (lines : List Line) → AreWithin (length names) lines → in_table (names ++ more) lines ≡ in_table names lines
table_stays names more [] within = refl
table_stays names more (l ∷ lines) within =
    let here : l.start + l.size ≤ length names = All-head (λ (m : Line). m.start + m.size ≤ length names) l lines within in
    ap (λ (name : List ℕ). named l name ∷ in_table (names ++ more) lines) (part_stays l.size l.start names more here)
    ∙ ap (λ (entries : List EntryContent). in_line names l ∷ entries)
    (table_stays names more lines (All-tail (λ (m : Line). m.start + m.size ≤ length names) l lines within))

-- a line whose name is at the end of the names
pub last_line : (names name : List ℕ) (l : Line) → l.start ≡ length names → l.size ≡ length name → in_line (names ++ name) l ≡ named l name
last_line names name l begins ends =
    ap (λ (n : ℕ). named l (take l.size (drop n (names ++ name)))) begins
    ∙ ap (λ (part : List ℕ). named l (take l.size part)) (drop-append_seam names name)
    ∙ ap (λ (n : ℕ). named l (take n name)) ends
    ∙ ap (named l) (take-length name)

pub table_appended : (names name names' : List ℕ) (lines lines' : List Line) (l : Line) (e : EntryContent)
    → names' ≡ names ++ name → lines' ≡ lines ++ l ∷ [] → AreWithin (length names) lines → l.start ≡ length names → l.size ≡ length name → named l name ≡ e
    → in_table names' lines' ≡ in_table names lines ++ e ∷ []
table_appended names name names' lines lines' l e grown longer within begins ends is =
    ap (λ (n : List ℕ). in_table n lines') grown ∙ ap (in_table (names ++ name)) longer
    ∙ map-append (in_line (names ++ name)) lines (l ∷ [])
    ∙ ap (λ (entries : List EntryContent). entries ++ in_line (names ++ name) l ∷ []) (table_stays names name lines within)
    ∙ ap (λ (last : EntryContent). in_table names lines ++ last ∷ []) (last_line names name l begins ends ∙ is)

pub within_appended : (names name names' : List ℕ) (lines lines' : List Line) (l : Line)
    → names' ≡ names ++ name → lines' ≡ lines ++ l ∷ [] → AreWithin (length names) lines → l.start ≡ length names → l.size ≡ length name
    → AreWithin (length names') lines'
within_appended names name names' lines lines' l grown longer within begins ends =
    let total : length (names ++ name) ≡ length names + length name = length-append names name in
    let holds : Line → Type 0 = λ m. m.start + m.size ≤ length (names ++ name) in
    let wider : AreWithin (length (names ++ name)) lines = λ k d inside. let small = within k d inside in omega (arith, small, total) in
    let last : l.start + l.size ≤ length (names ++ name) = omega (arith, begins, ends, total) in
    subst (λ (n : List ℕ). AreWithin (length n) lines') (sym grown)
    (subst (λ (ls : List Line). AreWithin (length (names ++ name)) ls) (sym longer)
    (All-append holds lines (l ∷ []) wider (All-cons holds l [] last (All-nil holds))))

-- original types that are the same at each line
pub same_originals : (originals others : ℕ → Option (List ℕ)) (limits : Limits) (rows : List SheetRow) → ((line : ℕ) → originals line ≡ others line)
    → contents_of_rows originals limits rows ≡ contents_of_rows others limits rows
same_originals originals others limits rows same = λ i. contents_of_rows (λ line. same line i) limits rows

-- ---- reading a table

-- the entry with a number
pub entry_there : (names : List ℕ) (lines : List Line) (i : ℕ) (d : Line) → i < length lines → Some (in_line names (get_or lines i d)) ≡ slice_get (in_table names lines) i
entry_there names lines i d below =
    sym (slice_get-map (in_line names) lines i ∙ ap (option_map (in_line names)) (slice_get-get_or lines i d below))

pub entry_past : (names : List ℕ) (lines : List Line) (i : ℕ) → length lines ≤ i → None ≡ slice_get (in_table names lines) i
entry_past names lines i past = sym (slice_get-map (in_line names) lines i ∙ ap (option_map (in_line names)) (slice_get_past lines i past))

-- the number of a key among the lines is that among the entries
pub number_in_table : (names : List ℕ) (lines : List Line) (key : Key) → position (λ (l : Line). same_key key l.facts.key) lines ≡ position (λ (e : EntryContent). same_key key e.facts.key) (in_table names lines)
number_in_table names lines key = position-map (λ (e : EntryContent). same_key key e.facts.key) (in_line names) lines
