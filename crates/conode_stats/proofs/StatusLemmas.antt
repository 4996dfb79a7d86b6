-- How a command over the statistics of a recording ends, by its exit status.
use Rattle.std.proofs.Common.{◌≡◌, ℕ, false, zero, suc, ◌<◌, ◌⊎◌, ◌≢◌, inl, inr, List, Option, None, Some, IfSome, Result, Ok, Err, IfOk, IsOkAnd, refl, ap, sym, subst, ◌∙◌, arith}
use Rattle.std.specs.Io.KnownBytes.{Appends, Keeps}
use Rattle.std.proofs.KnownBytes.{Appends-kept}
use Rattle.conode_io.specs.declared.ending.Ending.{Ending}
use Rattle.conode_io.specs.declared.ending.Ending.TheVariants.{Said, Unsaid}
use Rattle.conode_io.specs.declared.fault.CmdFault.{CmdFault}
use Rattle.conode_io.specs.Endings.{ending_status}
use Rattle.conode_io.specs.TraceTexts.{GaveText}
use Rattle.conode_stats_counts.specs.Buses.{Counted}
use Rattle.conode_stats_text.specs.declared.page.Page.{Page}
use Rattle.conode_stats_text.specs.Pages.{page_lines}
use Rattle.conode_stats.specs.declared.recording_file.Settings.{Settings}
use Rattle.conode_stats.specs.ExitStatus.{CountsAll, Ends, IsMade, IsPageBy, WritesPage, stats_status}
use Rattle.conode_stats.specs.Taking.{CountsText}

-- ---- what a status says

zero_of : (Whole : ℕ → Type 0) (outcome : Result ℕ CmdFault) → 0 ≡ stats_status outcome → IfOk outcome Whole → Whole 0
zero_of Whole (Ok zero) is h = h
zero_of Whole (Ok (suc more)) is h = absurd (omega arith)
zero_of Whole (Err fault) is h = absurd (omega arith)

-- with 0 the page is written, and no line is bad
pub at_zero : (Whole : ℕ → Type 0) → Ends Whole 0 → Whole 0
at_zero Whole h = zero_of Whole h.outcome h.shown h.whole

one_of : (Whole : ℕ → Type 0) (outcome : Result ℕ CmdFault) → 1 ≡ stats_status outcome → IfOk outcome Whole → ((bad : ℕ) × (0 < bad) × Whole bad) ⊎ CmdFault
one_of Whole (Ok zero) is h = absurd (omega arith)
one_of Whole (Ok (suc more)) is h = inl (suc more, omega arith, h)
one_of Whole (Err fault) is h = inr fault

-- with 1 the page is written, and a line is bad; or it stopped early, by a fault
pub at_one : (Whole : ℕ → Type 0) → Ends Whole 1 → ((bad : ℕ) × (0 < bad) × Whole bad) ⊎ CmdFault
at_one Whole h = one_of Whole h.outcome h.shown h.whole

-- ---- each outcome

-- a command that stopped, whether it could say so or not
pub stopped_one : (ending : Ending) (fault : CmdFault) {status : ℕ} → status ≡ ending_status ending → (ending ≡ Said fault) ⊎ (ending ≡ Unsaid fault) → status ≡ 1
stopped_one ending fault is (inl said) = is ∙ ap ending_status said
stopped_one ending fault is (inr unsaid) = is ∙ ap ending_status unsaid

pub ends_good : (Whole : ℕ → Type 0) (status bad : ℕ) → status ≡ 0 → bad ≡ 0 → Whole bad → Ends Whole status
ends_good Whole status bad is none h = record { outcome = Ok bad; shown = is ∙ sym (ap (λ (b : ℕ). stats_status (Ok b)) none); whole = h }

of_bad : (bad : ℕ) → bad ≢ 0 → stats_status (Ok bad) ≡ 1
of_bad zero other = absurd (other refl)
of_bad (suc more) other = refl

pub ends_bad : (Whole : ℕ → Type 0) (status bad : ℕ) → status ≡ 1 → bad ≢ 0 → Whole bad → Ends Whole status
ends_bad Whole status bad is other h = record { outcome = Ok bad; shown = is ∙ sym (of_bad bad other); whole = h }

pub ends_early : (Whole : ℕ → Type 0) (status : ℕ) (fault : CmdFault) → status ≡ 1 → Ends Whole status
ends_early Whole status fault is = record { outcome = Err fault; shown = is; whole = tt }

-- what is known of an outcome that is such a number
pub at_ok : (P : ℕ → Type 0) (outcome : Result ℕ CmdFault) (bad : ℕ) → outcome ≡ Ok bad → IfOk outcome P → P bad
at_ok P outcome bad is h = subst (λ (r : Result ℕ CmdFault). IfOk r P) is h

-- ---- what is written

some_as : (P Q : List ℕ → Type 0) → ((text : List ℕ) → P text → Q text) → (known : Option (List ℕ)) → IfSome known P → IfSome known Q
some_as P Q so None h = tt
some_as P Q so (Some text) h = so text h

-- what was made, and was written
pub both : {X E : Type 0} (items : X → List ℕ) (r : Result X E) (P Q : List ℕ → Type 0) → IsOkAnd r (λ x. P (items x)) → IfOk r (λ x. Q (items x)) → (made : List ℕ) × P made × Q made
both items (Ok x) P Q p q = (items x, p, q)
both items (Err fault) P Q p q = absurd p

-- it is of the frames of a text that were counted
module _ (settings : Settings) (counts : Counted) (bad : ℕ) (old new : Option (List ℕ)) (page : (made : List ℕ) × Appends old new made × IsMade settings counts bad made) where
  of_text : (text : List ℕ) → CountsText settings.log counts bad text → WritesPage settings old new bad text
  of_text text h = (page.0, page.1, subst (λ (all : Counted). IsMade settings all bad page.0) h.0 page.2, h.1)

  pub page_known : (known : Option (List ℕ)) → IfSome known (CountsText settings.log counts bad) → IfSome known (WritesPage settings old new bad)
  page_known known h = some_as (CountsText settings.log counts bad) (WritesPage settings old new bad) of_text known h

  pub page_any : (before after : Option (List ℕ)) → GaveText before after (CountsText settings.log counts bad) → GaveText before after (WritesPage settings old new bad)
  page_any before after h = (h.0, h.1, of_text h.0 h.2)

-- it was flushed
module _ (settings : Settings) (bad : ℕ) (old mid new : Option (List ℕ)) (kept : Keeps mid new) where
  after_flush : (text : List ℕ) → WritesPage settings old mid bad text → WritesPage settings old new bad text
  after_flush text h = (h.0, Appends-kept old mid new h.0 h.1 kept, h.2, h.3)

  pub flushed_known : (known : Option (List ℕ)) → IfSome known (WritesPage settings old mid bad) → IfSome known (WritesPage settings old new bad)
  flushed_known known h = some_as (WritesPage settings old mid bad) (WritesPage settings old new bad) after_flush known h

  pub flushed_any : (before after : Option (List ℕ)) → GaveText before after (WritesPage settings old mid bad) → GaveText before after (WritesPage settings old new bad)
  flushed_any before after h = (h.0, h.1, after_flush h.0 h.2)

-- ---- as it is asked for

-- of a page by settings that of a bit rate
by_rate : (settings : Settings) (counts : Counted) (made : List ℕ) → IsMade settings counts 0 made
    → settings.json ≡ false → (page : Page) × IsPageBy settings.bit_rate counts page × (made ≡ page_lines page)
by_rate settings counts made h text =
    let page = h text in
    (page.0, record { counted = page.1.counted; wrong = page.1.wrong; by = page.1.rate }, page.2)

all_counted : (settings : Settings) (old new before after : Option (List ℕ)) → GaveText before after (WritesPage settings old new 0)
    → CountsAll settings.bit_rate settings.json settings.log old new
all_counted settings old new before after h =
    let page = h.2 in
    (h.0, sym page.3, page.0, page.1, by_rate settings _ page.0 page.2)

pub counts_all : (settings : Settings) (old new before after : Option (List ℕ)) (status : ℕ)
    → Ends (λ bad. GaveText before after (WritesPage settings old new bad)) status → status ≡ 0
    → CountsAll settings.bit_rate settings.json settings.log old new
counts_all settings old new before after status h is =
    all_counted settings old new before after
    (at_zero (λ bad. GaveText before after (WritesPage settings old new bad)) (subst (λ (s : ℕ). Ends (λ bad. GaveText before after (WritesPage settings old new bad)) s) is h))

-- another status
pub not_zero : {P : Type 0} (status : ℕ) → (status ≡ 1) ⊎ (status ≡ 2) → status ≡ 0 → P
not_zero status (inl one) is = absurd (omega arith)
not_zero status (inr two) is = absurd (omega arith)
