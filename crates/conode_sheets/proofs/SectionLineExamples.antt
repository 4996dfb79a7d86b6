-- Which lines are section lines of a data sheet, evaluated on both sides of each edge.
use Rattle.std.proofs.Common.{◌≡◌, [], ◌∷◌, ◌++◌, false, map, refl, true}
use Rattle.std.specs.Prelude.{codes}
use Rattle.conode_sheets.specs.SectionLines.{begins_section, is_section_line}

section_lines : map is_section_line (codes "[FileInfo]" ∷ codes "[deviceinfo]" ∷ codes " [ MandatoryObjects ] " ∷ codes "[1018]" ∷ codes "[1018sub1]" ∷ codes "[DeviceComissioning]" ∷ [])
    ≡ true ∷ true ∷ true ∷ true ∷ true ∷ true ∷ []
unfolding is_section_line
section_lines = refl

-- a section that isn't read, as a maker's own; one without `]`, with more after it, without `[`, without a name; a frame
other_lines : map is_section_line (codes "[Tools]" ∷ codes "[1018" ∷ codes "[1] can0" ∷ codes "1018]" ∷ codes "[]" ∷ codes "" ∷ codes "(1.000000) can0 705#00" ∷ [])
    ≡ false ∷ false ∷ false ∷ false ∷ false ∷ false ∷ false ∷ []
unfolding is_section_line
other_lines = refl

-- of the first line of a text after its byte order mark
after_mark : map (λ line. is_section_line (0xEF ∷ 0xBB ∷ 0xBF ∷ codes line)) ("[FileInfo]" ∷ " [1000] " ∷ "1000" ∷ []) ≡ true ∷ true ∷ false ∷ []
unfolding is_section_line
after_mark = refl

-- what follows `]`, as a comment or a second CR, is passed over by the reader of a data sheet
begun_sections : map begins_section (codes "[1018] ; identity" ∷ (codes "[1018]" ++ (13 ∷ 13 ∷ [])) ∷ codes "[FileInfo]x" ∷ (0xEF ∷ 0xBB ∷ 0xBF ∷ codes "[1000]") ∷ codes "[Tools]" ∷ codes "[1018" ∷ codes "  can0  705   [1]  00" ∷ [])
    ≡ true ∷ true ∷ true ∷ true ∷ false ∷ false ∷ false ∷ []
unfolding begins_section
begun_sections = refl
