-- The sections that names with blanks mean, evaluated.
use Rattle.std.proofs.Common.{◌≡◌, ℕ, List, [], ◌∷◌, ◌++◌, refl, codes, map}
use Rattle.co_sheet_text.specs.declared.section_kind.SectionKind.{SectionKind}
use Rattle.co_sheet_text.specs.declared.section_kind.SectionKind.TheVariants.{Object, PassedOver, SubIndex}
use Rattle.co_sheet_text.specs.Text.{lines_of}
use Rattle.co_sheet_changes.specs.Groups.{groups_of}
use Rattle.co_sheet_adapt.specs.Meant.{all_meant}

abbrev kinds : List ℕ → List SectionKind
kinds text = map (λ g. g.kind) (all_meant (groups_of (lines_of text)))

abbrev sub : ℕ → SectionKind
sub number = SubIndex (record { index = 0x2000; sub = number })

-- blanks alone
alone : kinds (codes "[2000Sub 1]\n[2000 sub2]\n[2000sub3]\n") ≡ sub 1 ∷ sub 2 ∷ sub 3 ∷ []
alone = refl

-- beside the section of that name, before and after it
beside : kinds (codes "[2000Sub 1]\n[2000sub1]\n[2000 SUB 1]\n[2000sub 2]\n") ≡ PassedOver ∷ sub 1 ∷ PassedOver ∷ sub 2 ∷ []
beside = refl

-- other sections stay
others : kinds (codes "[20 00]\n[2000]\n[x y]\n") ≡ Object 0x2000 ∷ Object 0x2000 ∷ PassedOver ∷ []
others = refl
