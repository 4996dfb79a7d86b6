-- The sections that are kept end in the one that is being read.
use Rattle.std.proofs.Common.{◌≡◌, ◌⊎◌, ℕ, ◌+◌, List, [], ◌∷◌, ◌++◌, Option, Some, None, length, sym, ◌∙◌, ap, subst}
use Rattle.std.specs.Prelude.{option_map}
use Rattle.std.specs.List.{last_or}
use Rattle.co_sheet_text.specs.declared.header.Header.{Header}
use Rattle.co_sheet_text.specs.declared.open_section.OpenSection.{OpenSection}
use Rattle.co_sheet_text.specs.declared.text_section.Property.{Property as CodeProperty}
use Rattle.co_sheet_text.specs.declared.fault.TextFault.{TextFault}
use Rattle.co_sheet_text.specs.Sections.{TextSection, LineForm, fault_at}
use Rattle.co_sheet_text.specs.LinesRead.{with_last, fault_within}
use Rattle.co_sheet_text.specs.Cuts.{section_with, cut, property_count}
use Rattle.co_sheet_text.specs.OpenSections.{open_view, own_properties, earlier_properties}
use Rattle.co_sheet_text.specs.SectionsKept.{sections_kept}
use Rattle.co_sheet_text.specs.OutOfMemory.{out_of_memory}
use Rattle.std.proofs.lemmas.List.{length-take-le}
use Rattle.co_sheet_text.proofs.CutLemmas.{count-append, cut-append}
use Rattle.co_sheet_text.proofs.SectionsReadLemmas.{last_or-append}
use Rattle.co_sheet_text.proofs.LinesReadLemmas.{with_last-append}

pub kept_some : (closed : List Header) (current : Option OpenSection) (s : OpenSection) → current ≡ Some s →
    sections_kept closed current ≡ cut closed (earlier_properties s) ++ open_view s ∷ []
kept_some closed current s h = ap (sections_kept closed) h

pub last_kept : (closed : List Header) (current : Option OpenSection) (s : OpenSection) → current ≡ Some s →
    last_or None (sections_kept closed current) ≡ Some (open_view s)
last_kept closed current s h = ap (last_or None) (kept_some closed current s h) ∙ last_or-append None (cut closed (earlier_properties s)) (open_view s)

pub none_kept : (closed : List Header) (current : Option OpenSection) → current ≡ None → last_or None (sections_kept closed current) ≡ None
none_kept closed current h = ap (λ (o : Option OpenSection). last_or None (sections_kept closed o)) h

-- the section that is being read is whole: its header, with its properties, is one more
pub whole_cut : (closed : List Header) (header : Header) (whole : OpenSection) → property_count closed ≡ length (earlier_properties whole) →
    header.count ≡ length (own_properties whole) → section_with header (own_properties whole) ≡ open_view whole →
    cut (closed ++ header ∷ []) (earlier_properties whole ++ own_properties whole) ≡ cut closed (earlier_properties whole) ++ open_view whole ∷ []
whole_cut closed header whole earlier own is =
    cut-append closed header (earlier_properties whole) (own_properties whole) earlier own
    ∙ ap (λ (s : TextSection). cut closed (earlier_properties whole) ++ s ∷ []) is

-- a section begins: the one before it is whole, or it is the first
pub begun_after : (closed more : List Header) (current after : Option OpenSection) (header : Header) (whole begun : OpenSection) → current ≡ Some whole → after ≡ Some begun →
    more ≡ closed ++ header ∷ [] → property_count closed ≡ length (earlier_properties whole) → header.count ≡ length (own_properties whole) →
    section_with header (own_properties whole) ≡ open_view whole → earlier_properties begun ≡ earlier_properties whole ++ own_properties whole →
    sections_kept more after ≡ sections_kept closed current ++ open_view begun ∷ []
begun_after closed more current after header whole begun was is pushed earlier own header_is next =
    kept_some more after begun is
    ∙ ap (λ (front : List TextSection). front ++ open_view begun ∷ [])
    (ap (λ (hs : List Header). cut hs (earlier_properties begun)) pushed
    ∙ ap (cut (closed ++ header ∷ [])) next
    ∙ whole_cut closed header whole earlier own header_is
    ∙ sym (kept_some closed current whole was))

pub begun_first : (closed : List Header) (current after : Option OpenSection) (begun : OpenSection) → current ≡ None → after ≡ Some begun → closed ≡ [] →
    sections_kept closed after ≡ sections_kept closed current ++ open_view begun ∷ []
begun_first closed current after begun was is empty =
    kept_some closed after begun is
    ∙ ap (λ (hs : List Header). cut hs (earlier_properties begun) ++ open_view begun ∷ []) empty
    ∙ ap (λ (o : Option OpenSection). sections_kept closed o ++ open_view begun ∷ []) (sym was)

-- a change of the last section
pub with_last-kept : (f : TextSection → TextSection) (closed : List Header) (current : Option OpenSection) (s t : OpenSection) →
    current ≡ Some s → open_view t ≡ f (open_view s) → earlier_properties t ≡ earlier_properties s →
    cut closed (earlier_properties t) ++ open_view t ∷ [] ≡ with_last f (sections_kept closed current)
with_last-kept f closed current s t h same earlier =
    ap (λ (r : TextSection). cut closed (earlier_properties t) ++ r ∷ []) same
    ∙ ap (λ (ps : List CodeProperty). cut closed ps ++ f (open_view s) ∷ []) earlier
    ∙ sym (ap (with_last f) (kept_some closed current s h) ∙ with_last-append f (cut closed (earlier_properties s)) (open_view s))

-- a fault within the last section
pub fault_at_last : (fault : TextFault) (last : Option TextSection) (s : TextSection) (form : LineForm) (line : ℕ) → last ≡ Some s →
    (fault ≡ out_of_memory) ⊎ (option_map (fault_at line) (fault_within (Some s) form) ≡ Some fault) →
    (fault ≡ out_of_memory) ⊎ (option_map (fault_at line) (fault_within last form) ≡ Some fault)
fault_at_last fault last s form line h here =
    let P : Option TextSection → Type 0 = λ o. (fault ≡ out_of_memory) ⊎ (option_map (fault_at line) (fault_within o form) ≡ Some fault) in subst P (sym h) here

pub same_open : (s t : OpenSection) → ◌≡◌ {A = Option OpenSection} (Some s) (Some t) → s ≡ t
same_open s t h = cc

-- the headers count the properties before those of the section that is being read
pub earlier_count : (closed : List Header) (s : OpenSection) → property_count closed ≡ s.first → property_count closed ≡ length (earlier_properties s)
earlier_count closed s h = h ∙ sym (length-take-le s.first s.properties.items s.within)

pub counted_after : (closed more : List Header) (header : Header) (whole begun t : OpenSection) → property_count closed ≡ whole.first → more ≡ closed ++ header ∷ [] →
    header.count ≡ length (own_properties whole) → begun.first ≡ whole.first + length (own_properties whole) → begun ≡ t → property_count more ≡ t.first
counted_after closed more header whole begun t counted pushed own next is =
    ap property_count pushed
    ∙ count-append closed header
    ∙ ap (λ (n : ℕ). n + header.count) counted
    ∙ ap (λ (n : ℕ). whole.first + n) own
    ∙ sym next
    ∙ ap (λ (s : OpenSection). s.first) is

pub counted_first : (closed : List Header) (begun t : OpenSection) → closed ≡ [] → begun.first ≡ 0 → begun ≡ t → property_count closed ≡ t.first
counted_first closed begun t empty first is = ap property_count empty ∙ sym first ∙ ap (λ (s : OpenSection). s.first) is
