use denote.Ref.{Bor}
use Rattle.std.proofs.Common.{◌≡◌, ℕ, List, Option, OnOk, ◌++◌, map, ap, ◌∙◌, subst}
use Rattle.co_sheet_text.specs.Text.{Line, lines_of}
use Rattle.co_sheet_text.specs.Sections.{TextSection}
use Rattle.co_sheet_text.specs.LinesAtFault.{sections_read}
use Rattle.co_sheet_text.specs.Views.{section_view}
use Rattle.co_sheet_text_warnings.specs.Keys.{WrittenKey}
use Rattle.co_sheet_text_warnings.specs.KnownKeys.{telling_keys}
use Rattle.co_sheet_text_warnings.specs.Lines.{numbered}
use Rattle.co_sheet_text_warnings.specs.ReadTexts.{ReadText, own_node, read_text}
use Rattle.co_sheet_warnings.specs.Warnings.{all_warnings}
use Rattle.co_sheet_text_warnings.specs.Views.{key_view}
use Rattle.co_sheet_warnings.proofs.find.add_warnings_of.Goals as goal

pub returns : goal.returns
returns c =
    let text = c.args.text.now in
    let node = c.args.node in
    let own = c.own_node-own.result in
    let found = map section_view c.args.sections.now in
    let written = map key_view c.as_slice.result.now in
    let lines : numbered 1 (map (λ (l : Bor (List ℕ)). l.now) c.args.lines.now) ≡ lines_of text = ap (numbered 1) c.requires.lines in
    let keys : written ≡ telling_keys (lines_of text) = ap (map key_view) c.as_slice.ensures.value ∙ c.in-Ok.ensures ∙ ap telling_keys lines in
    let is_own : own ≡ own_node node (sections_read (lines_of text)) = c.own_node-own.ensures ∙ ap (own_node node) c.requires.sections in
    let with_lines : List Line → ReadText = λ ls. record { text = text; lines = ls; sections = found; keys = written; node = own } in
    let with_sections : List TextSection → ReadText = λ ss. record { text = text; lines = lines_of text; sections = ss; keys = written; node = own } in
    let with_keys : List WrittenKey → ReadText = λ ks. record { text = text; lines = lines_of text; sections = sections_read (lines_of text); keys = ks; node = own } in
    let with_node : Option ℕ → ReadText = λ n. record { text = text; lines = lines_of text; sections = sections_read (lines_of text); keys = telling_keys (lines_of text); node = n } in
    let whole : c.in-Ok-new.value ≡ read_text text node = c.in-Ok-new.ensures ∙ ap with_lines lines ∙ ap with_sections c.requires.sections ∙ ap with_keys keys ∙ ap with_node is_own in
    subst (λ (t : ReadText). OnOk c.add_all.result (c.add_all.new.warnings.items ≡ c.args.warnings.now.items ++ all_warnings c.args.all t)) whole c.add_all.ensures
