use Rattle.std.proofs.Common.{◌++◌, Bool, [], refl, sym, ap, ◌∙◌, arith, map, get_or}
use Rattle.std.specs.List.{filter_map}
use Rattle.co_sheet_text.specs.declared.text_section.Property.{Property as CodeProperty}
use Rattle.co_sheet_text.specs.Sections.{Property}
use Rattle.co_sheet_text.specs.Properties.{property_number}
use Rattle.co_sheet_text.specs.Views.{property_view, section_view}
use Rattle.co_sheet.specs.private.ListReadings.{listing_view, listed, listing_at, is_key_to, is_large}
use Rattle.co_sheet.proofs.ListLemmas.{append-none, pieces-end, collect-turn}
use Rattle.co_sheet.proofs.ListReadingLemmas.{count-turn, count-end, any-turn, any-end, counts-one, counts-none, tests-one, tests-none, names-one, names-none, bad-counts, good-counts}
use Rattle.co_sheet.proofs.checks.lists.add_listings.Goals as goal
use Rattle.co_sheet.proofs.checks.lists.add_listings.Goals.{then-is_key_to+in_ok-add_listing, else-is_key_to}

abbrev large_at : Property → Bool
large_at k = is_large (property_number k)

pub overflow_add-places : goal.overflow_add-places
overflow_add-places c = omega arith

-- what stands past the end of properties
abbrev none_given : CodeProperty
none_given =
    record { name = record { ref_ptr = (0, 0); now = [] }; value = record { ref_ptr = (0, 0); now = [] }; line = 0 }

pub loop-given-preserved : goal.loop-given-preserved
loop-given-preserved c =
    let count = c.args.count in
    let items = c.args.section.now.properties.now in
    let i = c.loop-given.given-index in
    let k = property_view (get_or items i none_given) in
    let inside = c.loop-given-test.true in
    let places = c.loop-given.places in
    let large = c.loop-given.has_large in
    let before = map listing_view c.loop-given.listings.items in
    elim c.if-is_key_to.branch [
      | then-is_key_to+in_ok-add_listing w ↦
          let key = sym w.if-is_key_to.true ∙ c.is_key_to.ensures in
          let number = w.number-index.ensures in
          record {
            few = omega arith;
            sum = count-turn (is_key_to count) items i none_given places c.if-is_key_to.places _ inside (counts-one places w.places-is key) c.loop-given.invariant.sum;
            large = any-turn (is_key_to count) large_at items i none_given large c.if-is_key_to.has_large _ inside
                (tests-one large w.has_large-is (w.is_large-has_large.ensures ∙ ap is_large number) key) c.loop-given.invariant.large;
            named = collect-turn property_view (listing_at count) items i none_given before (map listing_view c.if-is_key_to.listings.items) _ inside
                (ap (λ v. map listing_view v.items) w.listings-is ∙ w.in_ok-add_listing.ensures ∙ ap (λ o. before ++ listed o) (names-one count k w.number-index.result key number)) c.loop-given.invariant.named;
          }
      | else-is_key_to w ↦
          let key = sym w.if-is_key_to.false ∙ c.is_key_to.ensures in
          record {
            few = omega arith;
            sum = count-turn (is_key_to count) items i none_given places c.if-is_key_to.places _ inside (counts-none places w.places-is key) c.loop-given.invariant.sum;
            large = any-turn (is_key_to count) large_at items i none_given large c.if-is_key_to.has_large _ inside (tests-none (large_at k) large w.has_large-is key) c.loop-given.invariant.large;
            named = collect-turn property_view (listing_at count) items i none_given before (map listing_view c.if-is_key_to.listings.items) _ inside
                (ap (λ v. map listing_view v.items) w.listings-is ∙ sym (append-none before) ∙ ap (λ o. before ++ listed o) (names-none count k key)) c.loop-given.invariant.named;
          }
    ]

pub returns-then-count-gt65535-clause-bad : goal.returns-then-count-gt65535-clause-bad
returns-then-count-gt65535-clause-bad c =
    let count = c.args.count in
    let items = c.args.section.now.properties.now in
    let places = count-end (is_key_to count) items c.loop-given.given-index c.loop-given.places _ c.loop-given-test.false c.loop-given.invariant.sum in
    bad-counts (section_view c.args.section.now) count c.loop-given.places
    places c.then-count-gt65535.either

pub returns-clause-bad : goal.returns-clause-bad
returns-clause-bad c =
    let count = c.args.count in
    let items = c.args.section.now.properties.now in
    let i = c.loop-given.given-index in
    let past = c.loop-given-test.false in
    good-counts (section_view c.args.section.now) count c.loop-given.places c.loop-given.has_large
    (count-end (is_key_to count) items i c.loop-given.places _ past c.loop-given.invariant.sum)
    (omega arith, omega arith)
    (any-end (is_key_to count) large_at items i c.loop-given.has_large _ past c.loop-given.invariant.large)

pub returns-then-count-gt65535-clause-named : goal.returns-then-count-gt65535-clause-named
returns-then-count-gt65535-clause-named c =
    pieces-end (λ l. filter_map (listing_at c.args.count) (map property_view l)) refl c.args.section.now.properties.now c.loop-given.given-index (map listing_view c.loop-given.listings.items) _ c.loop-given-test.false c.loop-given.invariant.named

pub returns-clause-named : goal.returns-clause-named
returns-clause-named c =
    pieces-end (λ l. filter_map (listing_at c.args.count) (map property_view l)) refl c.args.section.now.properties.now c.loop-given.given-index (map listing_view c.loop-given.listings.items) _ c.loop-given-test.false c.loop-given.invariant.named
