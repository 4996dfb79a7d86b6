-- What the data of an RPDO may write: entries from 2000h on.
use Rattle.std.proofs.Common.{◌≡◌, ℕ, ◌<◌, Bool, true, false, cond, List, [], ◌∷◌, Option, Some, None, refl, ap, ◌∙◌, arith}
use Rattle.std.specs.Prelude.{◌&&◌, ◌||◌, ◌==◌, ◌*◌, nat_le, nat_lt, length, is_some, option_map, option_and_then}
use Rattle.std.specs.List.{filter_map, list_all}
use Rattle.std.proofs.lemmas.Bool.{and_parts, and_from}
use Rattle.std.proofs.lemmas.Bool.Decides.{nat_tests}
use Rattle.co_value.specs.declared.key.Key.{Key}
use Rattle.co_value.specs.Keys.{same_key}
use Rattle.co_value.specs.Types.{width_of}
use Rattle.co_dict.specs.declared.row.Row.{Row}
use Rattle.co_dict.specs.declared.side.Side.TheVariants.{Rpdo}
use Rattle.co_dict.specs.Rows.{Contents, written}
use Rattle.co_dict.specs.Stores.{Description}
use Rattle.co_dict.specs.MappingWords.{mapped_key, mapped_bits, usable_dummy, is_mapped_access, may_be_mapped, entry_width, mapping_width, word_width}
use Rattle.co_dict.specs.MappingCounts.{counted_words}
use Rattle.co_pdo.specs.declared.mapping.Mapped.{Mapped}
use Rattle.co_pdo.specs.declared.mapping.Mapped.TheVariants.{Entry, Dummy}
use Rattle.co_pdo.specs.Mappings.{mapped_by, has_pdo, is_good_count, mapping_index, count_of, total_of, mapping_of}
use Rattle.co_pdo.specs.Images.{with_parts, written_in_order, any_outside, contents_after}

-- what is mapped is a dummy entry, or an entry from 2000h on
abbrev is_high : Mapped → Bool
is_high (Entry key width) = nat_le 0x2000 key.index
is_high (Dummy width) = true

abbrev is_high_if : Option Mapped → Bool
is_high_if None = true
is_high_if (Some mapped) = is_high mapped

-- ---- what a word maps

by_access : (mappable access high : Bool) (width : Option ℕ) → is_some (cond (mappable && access && high) width None) ≡ true → high ≡ true
by_access true true high width h = by_high high width h
  where
    by_high : (b : Bool) (w : Option ℕ) → is_some (cond b w None) ≡ true → b ≡ true
    by_high true w h = refl
    by_high false w h = cc
by_access true false high width h = cc
by_access false access high width h = cc

by_row : (row : Option Row) (index : ℕ) → is_some (option_and_then (λ r. cond (may_be_mapped Rpdo index r) (width_of r.data_type) None) row) ≡ true → nat_le 0x2000 index ≡ true
by_row None index h = cc
by_row (Some r) index h = by_access r.mappable (is_mapped_access Rpdo r.access) (nat_le 0x2000 index) (width_of r.data_type) h

was_some : (f : ℕ → Option ℕ) (o : Option ℕ) → is_some (option_and_then f o) ≡ true → is_some o ≡ true
was_some f None h = h
was_some f (Some n) h = refl

otherwise : (b : Bool) (x y : Option ℕ) → b ≡ false → is_some (cond b x y) ≡ true → is_some y ≡ true
otherwise true x y e h = cc
otherwise false x y e h = h

entry_is_high : (d : Description) (word : ℕ) → is_some (usable_dummy Rpdo d.dummies (mapped_key word).index) ≡ false → is_some (word_width Rpdo d word) ≡ true → nat_le 0x2000 (mapped_key word).index ≡ true
entry_is_high d word e h =
    by_row (d.rows (mapped_key word)) (mapped_key word).index
    (otherwise _ (cond ((mapped_key word).sub == 0) (usable_dummy Rpdo d.dummies (mapped_key word).index) None) (entry_width Rpdo d.rows (mapped_key word)) e
    (was_some (λ width. cond (mapped_bits word == 8 * width) (Some width) None) (mapping_width Rpdo d (mapped_key word)) h))

by_width : (is_dummy : Bool) (key : Key) (o : Option ℕ) → (is_dummy ≡ false → is_some o ≡ true → nat_le 0x2000 key.index ≡ true) → is_high_if (option_map (λ width. cond is_dummy (Dummy width) (Entry key width)) o) ≡ true
by_width is_dummy key None high = refl
by_width true key (Some width) high = refl
by_width false key (Some width) high = high refl refl

word_is_high : (d : Description) (word : ℕ) → is_high_if (mapped_by Rpdo d word) ≡ true
word_is_high d word = by_width (is_some (usable_dummy Rpdo d.dummies (mapped_key word).index)) (mapped_key word) (word_width Rpdo d word) (entry_is_high d word)

-- ---- what an RPDO maps

one_more : (f : ℕ → Option Mapped) (word : ℕ) (words : List ℕ) (o : Option Mapped) → f word ≡ o → is_high_if o ≡ true → list_all is_high (filter_map f words) ≡ true → list_all is_high (filter_map f (word ∷ words)) ≡ true
one_more f word words None e high all = rw e all
one_more f word words (Some mapped) e high all = rw e (and_from (is_high mapped) (list_all is_high (filter_map f words)) high all)

words_are_high : (d : Description) (words : List ℕ) → list_all is_high (filter_map (mapped_by Rpdo d) words) ≡ true
words_are_high d [] = refl
words_are_high d (word ∷ words) = one_more (mapped_by Rpdo d) word words _ refl (word_is_high d word) (words_are_high d words)

if_good : (b : Bool) (mapping : List Mapped) → list_all is_high mapping ≡ true → list_all is_high (cond b mapping []) ≡ true
if_good true mapping h = h
if_good false mapping h = refl

mapping_is_high : (d : Description) (c : Contents) (k : ℕ) → list_all is_high (mapping_of Rpdo d c k) ≡ true
mapping_is_high d c k = if_good (has_pdo Rpdo d.rows k && is_good_count Rpdo d c k) _ (words_are_high d (counted_words c (mapping_index Rpdo k) (count_of Rpdo c k)))

-- ---- what is written

other_key : (key entry : Key) → key.index < 0x2000 → nat_le 0x2000 entry.index ≡ true → same_key key entry ≡ false
other_key key entry low high = grind (arith, nat_tests)

written_elsewhere : (c : Contents) (entry key : Key) (part : List ℕ) → key.index < 0x2000 → nat_le 0x2000 entry.index ≡ true → written c entry part key ≡ c key
written_elsewhere c entry key part low high = ap (λ b. cond b (Some part) (c key)) (other_key key entry low high)

parts_written : (mapping : List Mapped) (bytes : List ℕ) (c : Contents) (key : Key) → key.index < 0x2000 → list_all is_high mapping ≡ true → written_in_order c (with_parts mapping bytes) key ≡ c key
parts_written [] bytes c key low high = refl
parts_written (Entry entry width ∷ mapping) bytes c key low high =
    let both = and_parts (nat_le 0x2000 entry.index) (list_all is_high mapping) high in
    parts_written mapping _ (written c entry _) key low both.1 ∙ written_elsewhere c entry key _ low both.0
parts_written (Dummy width ∷ mapping) bytes c key low high = parts_written mapping _ c key low (and_parts true (list_all is_high mapping) high).1

if_written : (b : Bool) (c e : Contents) (key : Key) → e key ≡ c key → cond b c e key ≡ c key
if_written true c e key h = refl
if_written false c e key h = h

pub kept_below : (d : Description) (c : Contents) (k : ℕ) (bytes : List ℕ) (key : Key) → key.index < 0x2000 → contents_after d.rows (mapping_of Rpdo d c k) bytes c key ≡ c key
kept_below d c k bytes key low =
    if_written (nat_lt (length bytes) (total_of (mapping_of Rpdo d c k)) || any_outside d.rows (mapping_of Rpdo d c k) bytes) c (written_in_order c (with_parts (mapping_of Rpdo d c k) bytes)) key
    (parts_written (mapping_of Rpdo d c k) bytes c key low (mapping_is_high d c k))
