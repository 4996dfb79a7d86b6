use Rattle.std.proofs.Common.{sym, ap, ◌∙◌, subst, map}
use Rattle.co_sheet.specs.Content.{dummies_in}
use Rattle.co_sheet.specs.Commissioning.{node_id_in}
use Rattle.co_sheet.specs.SheetLaws.{IsSheetContent}
use Rattle.co_sheet.specs.SheetViews.{row_view, object_row_view, section_name_view}
use Rattle.co_sheet.proofs.ContentLemmas.{content-parts}
use Rattle.co_sheet.proofs.SheetLawLemmas.{content_laws}
use Rattle.co_sheet.proofs.sheet.sheet_in.Goals as goal

pub invariant_of-result : goal.invariant_of-result
invariant_of-result c =
    let read = c.in_ok-read.ensures.read in
    let content =
    content-parts c.args.tables.now (map object_row_view c.read.new.self.objects.items) (map row_view c.read.new.self.entries.items) (map section_name_view c.read.new.self.sections.items) c.read.new.self.notes.items c.dummies.result c.node_id.result
    read.objects read.rows read.names read.notes (c.dummies.ensures ∙ ap dummies_in c.sections-sections.ensures) (c.node_id.ensures ∙ ap node_id_in c.sections-sections.ensures) in
    subst IsSheetContent (sym content) (content_laws c.args.tables.now c.requires read.kept read.accepted)

pub returns-clause-read : goal.returns-clause-read
returns-clause-read c =
    let read = c.in_ok-read.ensures.read in
    record {
      accepted = read.accepted;
      kept = read.kept;
      content = content-parts c.args.tables.now (map object_row_view c.read.new.self.objects.items) (map row_view c.read.new.self.entries.items) (map section_name_view c.read.new.self.sections.items) c.read.new.self.notes.items c.dummies.result c.node_id.result
          read.objects read.rows read.names read.notes (c.dummies.ensures ∙ ap dummies_in c.sections-sections.ensures) (c.node_id.ensures ∙ ap node_id_in c.sections-sections.ensures);
    }
