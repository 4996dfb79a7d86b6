use Rattle.std.specs.Prelude.{option_map}
use Rattle.co_sheet_adapt.specs.Expanded.{given_by}
use Rattle.co_sheet_adapt.specs.private.Pdos.{form_view}
use Rattle.co_sheet_adapt.specs.private.Named.{texts_at}
use Rattle.co_sheet_changes.specs.Views.{group_view}
use Rattle.co_sheet_adapt.proofs.ExpandedLemmas.{fits, given_all}
use Rattle.co_sheet_adapt.proofs.pieces.Tables.given.Goals as goal

pub returns : goal.returns
returns c =
    let self = c.args.self.now in
    let all = given_all group_view (given_by (texts_at self.own) (texts_at self.names) (texts_at self.values) (option_map form_view self.pdos)) c.args.groups.now c.loop-group.group-index c.loop-group.text.items _
    c.loop-group-test.false c.loop-group.invariant.so_far in
    fits c.loop-group.text.items _ c.loop-group.invariant.small all
