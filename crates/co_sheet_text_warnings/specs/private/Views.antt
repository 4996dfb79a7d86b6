-- What the crate's own functions say of a text.
use Rattle.std.specs.Prelude.{◌≡◌, ◌==◌, ℕ, Bool, nat_eq, List, Option}
use Rattle.std.specs.List.{list_any}
use Rattle.std.specs.HashSet.{HashSet, contains}
use Rattle.co_sheet_text.specs.Sections.{TextSection}
use Rattle.co_sheet.specs.ObjectLists.{Listing, is_listed}
use Rattle.co_sheet_text_warnings.specs.declared.infos.Format.{Format}
use Rattle.co_sheet_text_warnings.specs.declared.infos.Format.TheVariants.{Date, Time}
use Rattle.co_sheet_text_warnings.specs.Infos.{is_date, is_time}
use Rattle.co_sheet_text_warnings.specs.Lines.{first_other, numbered}

-- whether a text is a date, or a time
abbrev pub is_written : Format → List ℕ → Bool
is_written Date = is_date
is_written Time = is_time

-- whether listings name an index
abbrev pub names : ℕ → List Listing → Bool
names i listings = list_any (λ l. l.index == i) listings

-- what is looked up once: a set has the indices that the lists name, and a line is the first with a
-- byte above 7Fh
pub record IsLookedUp {S : Type 0} (sections : List TextSection) (lines : List (List ℕ))
    (indices : HashSet ℕ S) (other : Option ℕ) : Type 0 where
  pub listed : (i : ℕ) → contains nat_eq indices i ≡ is_listed sections i
  pub is_other : other ≡ first_other (numbered 1 lines)
