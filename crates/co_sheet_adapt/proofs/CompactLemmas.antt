-- One sub-index more.
use Rattle.std.proofs.Common.{◌≡◌, ◌∙◌, ℕ, ◌+◌, List, ◌++◌, refl, sym, ap, add-one, append_assoc}
use Rattle.co_value.specs.declared.key.Key.{Key}
use Rattle.co_sheet_adapt.specs.Compact.{sub_sections}

pub one_section_more : (section : Key → List ℕ) (index n : ℕ) →
    sub_sections section index (n + 1) ≡ sub_sections section index n ++ section (record { index = index; sub = n + 1 })
one_section_more section index n = rw (add-one n) refl

-- the same after what comes before the sections
pub section_added : (section : Key → List ℕ) (index n : ℕ) (first before : List ℕ) → before ≡ first ++ sub_sections section index n
    → before ++ section (record { index = index; sub = n + 1 }) ≡ first ++ sub_sections section index (n + 1)
section_added section index n first before is =
    let one = section (record { index = index; sub = n + 1 }) in
    ap (λ l. l ++ one) is ∙ append_assoc first (sub_sections section index n) one ∙ ap (λ l. first ++ l) (sym (one_section_more section index n))
