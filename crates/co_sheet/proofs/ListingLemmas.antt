-- What the object lists name, key by key.
use Rattle.std.proofs.Common.{◌≡◌, ℕ, Bool, true, false, cond, List, [], ◌∷◌, ◌++◌, Option, Some, None, refl, ap, ◌∙◌, leb}
use Rattle.std.specs.Prelude.{option_map, option_and_then}
use Rattle.std.specs.List.{filter, filter_map, flat_map}
use Rattle.co_sheet_text.specs.Names.{is_list}
use Rattle.co_sheet_text.specs.Sections.{Property, TextSection}
use Rattle.co_sheet_text.specs.Properties.{property_number}
use Rattle.co_sheet.specs.ObjectLists.{Listing, count_of, listings_in, listings}
use Rattle.co_sheet.specs.private.ListReadings.{is_key_to, listing_at, named_by}
use Rattle.co_sheet.proofs.ListLemmas.{flat_map-filter, filter-flat_map}

abbrev pub from_1000 : Listing → Bool
from_1000 l = leb 0x1000 l.index

-- by whether a key is a place, the number that it gives, and whether that is large enough
named_cases : (q : Bool) (o : Option ℕ) (line : ℕ) (rest : List Listing) (k : Property) (keys : List Property) (f : Property → Option Listing)
    → f k ≡ option_map (λ n. record { index = n; line = line }) o → filter from_1000 (filter_map f keys) ≡ rest
    → filter from_1000 (filter_map f (cond q (k ∷ keys) keys)) ≡ Rattle.std.specs.List.cons_option (cond q (option_and_then (λ n. cond (leb 0x1000 n) (Some (record { index = n; line = line })) None) o) None) rest
named_cases true (Some n) line rest k keys f is e = rw is (elim (leb 0x1000 n) as (λ b. cond b (record { index = n; line = line } ∷ filter from_1000 (filter_map f keys)) (filter from_1000 (filter_map f keys)) ≡ Rattle.std.specs.List.cons_option (cond b (Some (record { index = n; line = line })) None) rest) [ true ↦ ap (λ l. record { index = n; line = line } ∷ l) e | false ↦ e ])
named_cases true None line rest k keys f is e = rw is e
named_cases false o line rest k keys f is e = e

pub named-keys : (count : ℕ) (keys : List Property) → filter from_1000 (filter_map (λ k. option_map (λ n. record { index = n; line = k.line }) (property_number k)) (filter (is_key_to count) keys)) ≡ filter_map (listing_at count) keys
named-keys count [] = refl
named-keys count (k ∷ keys) = named_cases (is_key_to count k) (property_number k) k.line (filter_map (listing_at count) keys) k (filter (is_key_to count) keys) (λ j. option_map (λ n. record { index = n; line = j.line }) (property_number j)) refl (named-keys count keys)

-- by its count, what a list names
pub named-in : (s : TextSection) (count : ℕ) → count_of s ≡ Some count → filter from_1000 (listings_in s) ≡ filter_map (listing_at count) s.properties
named-in s count is = rw is (named-keys count s.properties)

pub none-named-in : (s : TextSection) → count_of s ≡ None → filter from_1000 (listings_in s) ≡ []
none-named-in s is = rw is refl

-- what the lists name, section by section
by_list : (b : Bool) (s : TextSection) → filter from_1000 (cond b (listings_in s) []) ≡ cond b (filter from_1000 (listings_in s)) []
by_list true s = refl
by_list false s = refl

pub flat_same : {X Y : Type 0} (f g : X → List Y) → ((x : X) → f x ≡ g x) → (xs : List X) → flat_map f xs ≡ flat_map g xs
flat_same f g same [] = refl
flat_same f g same (x ∷ xs) = ap (λ l. l ++ flat_map f xs) (same x) ∙ ap (λ l. g x ++ l) (flat_same f g same xs)

pub named-all : (sections : List TextSection) → listings sections ≡ flat_map named_by sections
named-all sections =
    ap (filter from_1000) (flat_map-filter listings_in (λ s. is_list s.kind) sections)
    ∙ filter-flat_map from_1000 (λ s. cond (is_list s.kind) (listings_in s) []) sections
    ∙ flat_same (λ s. filter from_1000 (cond (is_list s.kind) (listings_in s) [])) named_by (λ s. by_list (is_list s.kind) s) sections
