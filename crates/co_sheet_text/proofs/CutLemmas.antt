-- One list of properties, cut into those of each section.
use Rattle.std.proofs.Common.{◌≡◌, ℕ, ◌+◌, ◌≤◌, List, [], ◌∷◌, ◌++◌, length, take, drop, refl, ◌∙◌, ap, arith}
use Rattle.std.proofs.Math.Seq.{take-length}
use Rattle.std.proofs.lemmas.List.{length-drop, take-append-le, drop-append-le}
use Rattle.co_sheet_text.specs.declared.text_section.Property.{Property as CodeProperty}
use Rattle.co_sheet_text.specs.declared.header.Header.{Header}
use Rattle.co_sheet_text.specs.Sections.{TextSection}
use Rattle.co_sheet_text.specs.Cuts.{section_with, cut, property_count}

-- one more property is one of the last section
pub own_pushed : (first : ℕ) (items more : List CodeProperty) (k : CodeProperty) → first ≤ length items → more ≡ items ++ k ∷ [] → drop first more ≡ drop first items ++ k ∷ []
own_pushed first items more k within pushed = ap (drop first) pushed ∙ drop-append-le first items (k ∷ []) within

pub count-append : (headers : List Header) (last : Header) → property_count (headers ++ last ∷ []) ≡ property_count headers + last.count
count-append [] last = omega arith
count-append (h ∷ headers) last = omega (arith, count-append headers last)

none : (xs : List CodeProperty) → 0 ≡ length xs → xs ≡ []
none [] h = refl
none (x ∷ xs) h = absurd (omega arith)

-- the last section has the last properties
pub cut-append : (headers : List Header) (last : Header) (xs ys : List CodeProperty) → property_count headers ≡ length xs → last.count ≡ length ys →
    cut (headers ++ last ∷ []) (xs ++ ys) ≡ cut headers xs ++ section_with last ys ∷ []
cut-append [] last xs ys h k =
    ap (λ (zs : List CodeProperty). section_with last (take last.count (zs ++ ys)) ∷ []) (none xs h)
    ∙ ap (λ (n : ℕ). section_with last (take n ys) ∷ []) k
    ∙ ap (λ (zs : List CodeProperty). section_with last zs ∷ []) (take-length ys)
cut-append (g ∷ headers) last xs ys h k =
    let fits : g.count ≤ length xs = omega arith in
    let rest : property_count headers ≡ length (drop g.count xs) = omega (arith, length-drop g.count xs) in
    ap (λ (zs : List CodeProperty). section_with g zs ∷ cut (headers ++ last ∷ []) (drop g.count (xs ++ ys))) (take-append-le g.count xs ys fits)
    ∙ ap (λ (zs : List CodeProperty). section_with g (take g.count xs) ∷ cut (headers ++ last ∷ []) zs) (drop-append-le g.count xs ys fits)
    ∙ ap (λ (ss : List TextSection). section_with g (take g.count xs) ∷ ss) (cut-append headers last (drop g.count xs) ys rest k)
