-- What the code finds of a listing, by what it tests.
use Rattle.std.proofs.Common.{◌≡◌, ℕ, ◌<◌, ◌≤◌, Bool, true, false, cond, not, ◌&&◌, ◌||◌, Option, Some, None, List, [], ◌++◌, refl, sym, ap, ◌∙◌, arith, ltb, is_none}
use Rattle.std.specs.Prelude.{option_map}
use Rattle.std.specs.Option.{option_map_or}
use Rattle.std.proofs.lemmas.Bool.Decides.{nat_tests}
use Rattle.std.proofs.lemmas.List.{append-nil}
use Rattle.co_sheet_text.specs.declared.section_kind.SectionKind.TheVariants.{Object}
use Rattle.co_sheet_text.specs.Names.{is_list}
use Rattle.co_sheet_text.specs.Sections.{TextSection, section_at}
use Rattle.co_sheet_rows.specs.declared.fault.FaultKind.TheVariants.{ListedTwice, MissingSection}
use Rattle.co_sheet_rows.specs.declared.fault.SheetFault.{SheetFault}
use Rattle.co_sheet.specs.declared.tables.ListedSection.{ListedSection}
use Rattle.co_sheet.specs.Entries.{ListedObject}
use Rattle.co_sheet.specs.ObjectLists.{Listing, listings}
use Rattle.co_sheet.specs.SectionViews.{object_at, object_view}
use Rattle.co_sheet.specs.Checks.{fault_if, is_listed_before}
use Rattle.co_sheet_faults.specs.Soundness.{unless, is_unread_at}
use Rattle.co_sheet_faults.specs.AllChecks.{bad_list}
use Rattle.co_sheet_faults.specs.private.Collected.{listing_collected, numbers_collected, object_collected, section_collected}
use Rattle.co_sheet_faults.specs.private.ListParts.{is_listing_at_fault}
use Rattle.co_sheet_faults.proofs.ListCodeLemmas.{found-if}
use Rattle.std.specs.Prelude.{codes}

is_past : (n : ℕ) → 0xFFFF < n → ltb 0xFFFF n ≡ true
is_past n h = grind (arith, nat_tests)

is_within : (n : ℕ) → n ≤ 0xFFFF → ltb 0xFFFF n ≡ false
is_within n h = grind (arith, nat_tests)

pub unlike : (a b : Bool) → a ≡ not b → a ≡ false → b ≡ true
unlike a true h k = refl
unlike a false h k = absurd (cc)

pub alike : (a b : Bool) → a ≡ not b → a ≡ true → b ≡ false
alike a true h k = absurd (cc)
alike a false h k = refl

module _ (sections : List TextSection) (l : Listing) where
  -- the parts of what is found, by whether the index is above FFFFh, named before, and has a section
  abbrev parts : Bool → Bool → Option TextSection → List SheetFault
  parts past again found =
      unless (not (not past)) (fault_if again ListedTwice l.line)
      ++ unless (not (not past && not again)) (fault_if (is_none found) MissingSection l.line
      ++ option_map_or (object_collected sections) (option_map (λ s. record { index = l.index; section = s }) found) [])

  pub past-index : 0xFFFF < l.index → listing_collected sections l ≡ []
  past-index h = ap (λ b. parts b (is_listed_before (listings sections) l) (section_at (Object l.index) sections)) (is_past l.index h)

  pub listed-again : l.index ≤ 0xFFFF → is_listed_before (listings sections) l ≡ true → listing_collected sections l ≡ fault_if true ListedTwice l.line
  listed-again few again =
      ap (λ b. parts b (is_listed_before (listings sections) l) (section_at (Object l.index) sections)) (is_within l.index few)
      ∙ ap (λ b. parts false b (section_at (Object l.index) sections)) again

  pub listed-first : l.index ≤ 0xFFFF → is_listed_before (listings sections) l ≡ false → listing_collected sections l ≡ parts false false (section_at (Object l.index) sections)
  listed-first few first =
      ap (λ b. parts b (is_listed_before (listings sections) l) (section_at (Object l.index) sections)) (is_within l.index few)
      ∙ ap (λ b. parts false b (section_at (Object l.index) sections)) first

  -- by the object that is there, or isn't
  by-object : (found : Option TextSection) (o : Option ListedObject) → o ≡ option_map (λ s. record { index = l.index; section = s }) found
      → parts false false found ≡ option_map_or (object_collected sections) o (fault_if true MissingSection l.line)
  by-object (Some s) o h = sym (ap (λ (p : Option ListedObject). option_map_or (object_collected sections) p (fault_if true MissingSection l.line)) h)
  by-object None o h = sym (ap (λ (p : Option ListedObject). option_map_or (object_collected sections) p (fault_if true MissingSection l.line)) h)

  pub of-object : (o : Option ListedObject) → l.index ≤ 0xFFFF → is_listed_before (listings sections) l ≡ false → o ≡ object_at l.index sections
      → listing_collected sections l ≡ option_map_or (object_collected sections) o (fault_if true MissingSection l.line)
  of-object o few first h = listed-first few first ∙ by-object (section_at (Object l.index) sections) o h

  -- whether it is at fault
  none-mapped : {X Y : Type 0} (f : X → Y) (o : Option X) → is_none (option_map f o) ≡ is_none o
  none-mapped f (Some x) = refl
  none-mapped f None = refl

  not-not : (a b : Bool) → a ≡ not b → not a ≡ b
  not-not a true h = ap not h
  not-not a false h = ap not h

  pub bad-listing : (first : Bool) (o : Option ListedSection) → first ≡ not (is_listed_before (listings sections) l) → option_map object_view o ≡ object_at l.index sections
      → (not first || is_none o) ≡ is_listing_at_fault sections l
  bad-listing first o h there =
      let named : TextSection → ListedObject = λ s. record { index = l.index; section = s } in
      let missing : is_none o ≡ is_none (section_at (Object l.index) sections) =
      sym (none-mapped object_view o) ∙ ap is_none there ∙ none-mapped named (section_at (Object l.index) sections) in
      ap (λ b. b || is_none o) (not-not first (is_listed_before (listings sections) l) h)
      ∙ ap (λ b. is_listed_before (listings sections) l || b) (missing ∙ sym (found-if (is_none (section_at (Object l.index) sections)) MissingSection l.line))

-- an object list
pub section-listed : (s : TextSection) → is_list s.kind ≡ true → section_collected s ≡ numbers_collected s ++ unless (is_unread_at (codes "SupportedObjects") s) (bad_list s)
section-listed s h = ap (λ b. numbers_collected s ++ cond b (unless (is_unread_at (codes "SupportedObjects") s) (bad_list s)) []) h

pub section-other : (s : TextSection) → is_list s.kind ≡ false → section_collected s ≡ numbers_collected s
section-other s h = ap (λ b. numbers_collected s ++ cond b (unless (is_unread_at (codes "SupportedObjects") s) (bad_list s)) []) h ∙ append-nil (numbers_collected s)
