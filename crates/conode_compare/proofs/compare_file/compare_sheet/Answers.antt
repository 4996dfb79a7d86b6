-- What is compared is the device of this sheet, as it is asked for.
use Rattle.std.proofs.Common.{◌≡◌, ℕ, Bool, List, map, refl, sym, ap, subst, ◌∙◌}
use Rattle.std.specs.Prelude.{is_some}
use Rattle.std.specs.Option.{option_copied, option_or}
use Rattle.co_sheet.specs.Content.{Row}
use Rattle.co_sheet.specs.SheetViews.{row_view}
use Rattle.co_sheet_changes.specs.Views.{text_at}
use Rattle.conode_compare_nmt.specs.EntriesInForce.{facts_of, with_master}
use Rattle.conode_compare.specs.Compared.{Comparison}
use Rattle.conode_compare.specs.Judged.{AreHeld}
use Rattle.conode_compare.proofs.compare_file.compare_sheet.Goals as goal

pub returns-clause-judged : goal.returns-clause-judged
returns-clause-judged g c = λ few.
    let asked = c.args.asked.now in
    let own = c.node_id-own.ensures.value in
    let rows = c.entries-rows.ensures.view in
    let node = c.in-Some.node in
    let held = c.in-Ok.held.entries.items in
    let what : Comparison = record {
      subject = record { node = node; limits = asked.limits; facts = c.with_master.result; held = c.in-Ok.held; rooms = asked.rooms };
      rows = map row_view c.entries-rows.result.now;
      originals = text_at c.args.originals.now;
      vendor_name = option_copied c.args.names.now.vendor;
      product_name = option_copied c.args.names.now.product;
      recording = c.args.paths.now.recording.now;
      interface = option_copied c.bytes_of-interface.result;
      choices = asked.choices;
      learned = asked.learned;
    } in
    let (text, judged) = c.compare_path.ensures.judged few in (
      what,
      record {
        node = sym (c.in-Some.ensures ∙ ap (option_or asked.node) own);
        limits = refl;
        facts = c.with_master.ensures
            ∙ ap (with_master c.args.master) (c.facts_of.ensures
            ∙ (ap (λ (all : List Row). facts_of all node c.is_some.result) rows
            ∙ ap (facts_of c.args.sheet.now.rows node) (c.is_some.ensures ∙ ap is_some own)));
        held = subst (λ (all : List Row). AreHeld all (option_copied asked.held) held) rows c.in-Ok.ensures;
        rooms = refl;
        rows = rows;
        originals_of = λ line. refl;
        vendor = refl;
        product = refl;
        recording_of = refl;
        interface = c.bytes_of-interface.ensures;
        choices = refl;
        learned = refl;
      },
      text,
      judged,
    )
