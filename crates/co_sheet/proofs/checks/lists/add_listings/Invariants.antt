use Rattle.std.proofs.Common.{◌≡◌, ◌+◌, ◌≤◌, ◌++◌, ◌||◌, drop, map, length, false, nat_lt}
use Rattle.std.specs.List.{filter, filter_map, list_any}
use Rattle.std.specs.Option.{option_map_or}
use Rattle.co_sheet_text.specs.Properties.{property_number}
use Rattle.co_sheet_text.specs.Views.{property_view}
use Rattle.co_sheet.specs.private.ListReadings.{listing_view, listing_at, is_key_to}
use Rattle.co_sheet.proofs.checks.lists.add_listings.Given as goal

-- what is read so far, and what the rest has
abbrev pub invariant-loop-given : goal.invariant-loop-given
invariant-loop-given l = record {
  few : l.places ≤ l.given-index;
  sum : l.places + length (filter (is_key_to l.count) (map property_view (drop l.given-index l.given-items))) ≡ length (filter (is_key_to l.count) (map property_view l.given-items));
  large : (l.has_large || list_any (λ k. option_map_or (nat_lt 0xFFFF) (property_number k) false) (filter (is_key_to l.count) (map property_view (drop l.given-index l.given-items))))
      ≡ list_any (λ k. option_map_or (nat_lt 0xFFFF) (property_number k) false) (filter (is_key_to l.count) (map property_view l.given-items));
  named : map listing_view l.listings.items ++ filter_map (listing_at l.count) (map property_view (drop l.given-index l.given-items))
      ≡ map listing_view l.initial.listings.items ++ filter_map (listing_at l.count) (map property_view l.given-items);
}
