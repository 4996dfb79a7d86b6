use Rattle.std.proofs.Common.{refl, ap, map, ◌++◌, ◌∙◌}
use Rattle.std.specs.List.{filter_map}
use Rattle.std.specs.Option.{option_to_list}
use Rattle.co_sheet.specs.SheetViews.{row_view}
use Rattle.conode_explain_forms.specs.Places.{channel_of}
use Rattle.conode_explain_cob_ids.proofs.Pieces.{all_made, found_first, one_more}
use Rattle.conode_explain_forms.proofs.places.add_rows.Goals as goal

pub loop-row-preserved : goal.loop-row-preserved
loop-row-preserved c =
    let of = channel_of c.args.only in
    one_more (λ rows. filter_map of (map row_view rows)) (λ row. option_to_list (of (row_view row))) (λ row rows. found_first (of (row_view row)) (filter_map of (map row_view rows)))
    c.args.rows.now c.loop-row.row-index _ c.loop-row.channels.items c.add_channel.new.channels.items _ c.loop-row-test.true
    (c.in-Ok.ensures ∙ ap (λ channel. c.loop-row.channels.items ++ option_to_list channel) c.channel_of.ensures) c.loop-row.invariant

pub returns : goal.returns
returns c =
    all_made (λ rows. filter_map (channel_of c.args.only) (map row_view rows)) refl c.args.rows.now c.loop-row.row-index c.loop-row.channels.items _ c.loop-row-test.false c.loop-row.invariant
