-- How a command that explains a recording ends, by its exit status.
use Rattle.std.proofs.Common.{◌≡◌, ℕ, zero, suc, ◌<◌, ◌⊎◌, ◌≢◌, inl, inr, List, Option, None, Some, IfSome, Result, Ok, Err, IfOk, refl, ap, sym, subst, ◌∙◌, arith}
use Rattle.std.specs.List.{flat_map}
use Rattle.std.specs.Io.KnownBytes.{Keeps}
use Rattle.std.proofs.KnownBytes.{Appends-kept}
use Rattle.conode_io.specs.declared.ending.Ending.{Ending}
use Rattle.conode_io.specs.declared.ending.Ending.TheVariants.{Said, Unsaid}
use Rattle.conode_io.specs.declared.fault.CmdFault.{CmdFault}
use Rattle.conode_io.specs.Endings.{ending_status}
use Rattle.conode_io.specs.TraceTexts.{GaveText}
use Rattle.conode_io.specs.Written.{WritesLines}
use Rattle.conode_io.proofs.WriteLemmas.{lines_after}
use Rattle.conode_explain_cob_ids.specs.Known.{KnownSheet}
use Rattle.conode_explain.specs.declared.progress.Layout.{Layout}
use Rattle.conode_explain.specs.Explained.{explained, header_lines}
use Rattle.conode_explain.specs.ExitStatus.{Ends, EndsBy, EndsBySome, ExplainsAll, WritesAll, WritesFile, explain_status, output}
use Rattle.conode_explain.specs.Sheets.{in_order}
use Rattle.conode_explain.specs.Taking.{Explains}
use Rattle.conode_explain.proofs.WriteLemmas.{or_two}

-- ---- what a status says

zero_of : (Whole : ℕ → Type 0) (outcome : Result ℕ CmdFault) → 0 ≡ explain_status outcome → IfOk outcome Whole → Whole 0
zero_of Whole (Ok zero) is h = h
zero_of Whole (Ok (suc more)) is h = absurd (omega arith)
zero_of Whole (Err fault) is h = absurd (omega arith)

-- with 0 all is written, and no line is bad
pub at_zero : (Whole : ℕ → Type 0) → Ends Whole 0 → Whole 0
at_zero Whole h = zero_of Whole h.outcome h.shown h.whole

one_of : (Whole : ℕ → Type 0) (outcome : Result ℕ CmdFault) → 1 ≡ explain_status outcome → IfOk outcome Whole → ((bad : ℕ) × (0 < bad) × Whole bad) ⊎ CmdFault
one_of Whole (Ok zero) is h = absurd (omega arith)
one_of Whole (Ok (suc more)) is h = inl (suc more, omega arith, h)
one_of Whole (Err fault) is h = inr fault

-- with 1 all is written, and a line is bad; or it stopped early, by a fault
pub at_one : (Whole : ℕ → Type 0) → Ends Whole 1 → ((bad : ℕ) × (0 < bad) × Whole bad) ⊎ CmdFault
at_one Whole h = one_of Whole h.outcome h.shown h.whole

few : (outcome : Result ℕ CmdFault) → (explain_status outcome ≡ 0) ⊎ (explain_status outcome ≡ 1)
few (Ok zero) = inl refl
few (Ok (suc more)) = inr refl
few (Err fault) = inr refl

-- it is 0 or 1
pub is_few : (Whole : ℕ → Type 0) (status : ℕ) → Ends Whole status → (status ≡ 0) ⊎ (status ≡ 1)
is_few Whole status h = subst (λ (s : ℕ). (s ≡ 0) ⊎ (s ≡ 1)) (sym h.shown) (few h.outcome)

-- or 2
pub by_few : (form : Layout) (sheets : List KnownSheet) (old new : Option (List ℕ)) (status : ℕ) → EndsBy form sheets old new status → (status ≡ 0) ⊎ ((status ≡ 1) ⊎ (status ≡ 2))
by_few form sheets old new status (inl h) = inr (inr h.0)
by_few form sheets old new status (inr h) = or_two status (is_few (WritesFile form sheets old new) status h)

-- ---- each outcome

-- a command that stopped, whether it could say so or not
pub stopped_one : (ending : Ending) (fault : CmdFault) {status : ℕ} → status ≡ ending_status ending → (ending ≡ Said fault) ⊎ (ending ≡ Unsaid fault) → status ≡ 1
stopped_one ending fault is (inl said) = is ∙ ap ending_status said
stopped_one ending fault is (inr unsaid) = is ∙ ap ending_status unsaid

pub ends_good : (Whole : ℕ → Type 0) (status bad : ℕ) → status ≡ 0 → bad ≡ 0 → Whole bad → Ends Whole status
ends_good Whole status bad is none h = record { outcome = Ok bad; shown = is ∙ sym (ap (λ (b : ℕ). explain_status (Ok b)) none); whole = h }

of_bad : (bad : ℕ) → bad ≢ 0 → explain_status (Ok bad) ≡ 1
of_bad zero other = absurd (other refl)
of_bad (suc more) other = refl

pub ends_bad : (Whole : ℕ → Type 0) (status bad : ℕ) → status ≡ 1 → bad ≢ 0 → Whole bad → Ends Whole status
ends_bad Whole status bad is other h = record { outcome = Ok bad; shown = is ∙ sym (of_bad bad other); whole = h }

pub ends_early : (Whole : ℕ → Type 0) (status : ℕ) (fault : CmdFault) → status ≡ 1 → Ends Whole status
ends_early Whole status fault is = record { outcome = Err fault; shown = is; whole = tt }

-- ---- from what is known of a number of bad lines to what follows from it

pub ok_as : (P Q : ℕ → Type 0) → ((bad : ℕ) → P bad → Q bad) → (outcome : Result ℕ CmdFault) → IfOk outcome P → IfOk outcome Q
ok_as P Q so (Ok bad) h = so bad h
ok_as P Q so (Err fault) h = tt

pub ends_as : (P Q : ℕ → Type 0) (status : ℕ) → ((bad : ℕ) → P bad → Q bad) → Ends P status → Ends Q status
ends_as P Q status so h = record { outcome = h.outcome; shown = h.shown; whole = ok_as P Q so h.outcome h.whole }

-- what is known of an outcome that is such a number
pub at_ok : (P : ℕ → Type 0) (outcome : Result ℕ CmdFault) (bad : ℕ) → outcome ≡ Ok bad → IfOk outcome P → P bad
at_ok P outcome bad is h = subst (λ (r : Result ℕ CmdFault). IfOk r P) is h

some_as : (P Q : List ℕ → Type 0) → ((text : List ℕ) → P text → Q text) → (known : Option (List ℕ)) → IfSome known P → IfSome known Q
some_as P Q so None h = tt
some_as P Q so (Some text) h = so text h

-- ---- what is written

module _ (form : Layout) (sheets : List KnownSheet) (old mid new : Option (List ℕ)) where
  -- the first line of a table, and then the lines of the recording
  after_header : WritesLines old mid (header_lines form sheets) → (bad : ℕ) (text : List ℕ) → Explains form sheets mid new bad text → WritesAll form sheets old new bad text
  after_header first bad text h = (lines_after old mid new (header_lines form sheets) (explained form sheets text) first h.0, h.1)

  pub header_known : WritesLines old mid (header_lines form sheets) → (known : Option (List ℕ)) (bad : ℕ) → IfSome known (Explains form sheets mid new bad) → IfSome known (WritesAll form sheets old new bad)
  header_known first known bad h = some_as (Explains form sheets mid new bad) (WritesAll form sheets old new bad) (after_header first bad) known h

  pub header_any : WritesLines old mid (header_lines form sheets) → (before after : Option (List ℕ)) (bad : ℕ) → GaveText before after (Explains form sheets mid new bad) → GaveText before after (WritesAll form sheets old new bad)
  header_any first before after bad h = (h.0, h.1, after_header first bad h.0 h.2)

  -- it was flushed
  after_flush : Keeps mid new → (bad : ℕ) (text : List ℕ) → WritesAll form sheets old mid bad text → WritesAll form sheets old new bad text
  after_flush kept bad text h = (Appends-kept old mid new (flat_map (λ line. line) (output form sheets text)) h.0 kept, h.1)

  pub flushed_known : Keeps mid new → (known : Option (List ℕ)) (bad : ℕ) → IfSome known (WritesAll form sheets old mid bad) → IfSome known (WritesAll form sheets old new bad)
  flushed_known kept known bad h = some_as (WritesAll form sheets old mid bad) (WritesAll form sheets old new bad) (after_flush kept bad) known h

  pub flushed_any : Keeps mid new → (before after : Option (List ℕ)) (bad : ℕ) → GaveText before after (WritesAll form sheets old mid bad) → GaveText before after (WritesAll form sheets old new bad)
  flushed_any kept before after bad h = (h.0, h.1, after_flush kept bad h.0 h.2)

-- of a file
pub of_file : (form : Layout) (sheets : List KnownSheet) (old new before after : Option (List ℕ)) (status : ℕ) → Ends (λ bad. GaveText before after (WritesAll form sheets old new bad)) status → Ends (WritesFile form sheets old new) status
of_file form sheets old new before after status h =
    ends_as (λ bad. GaveText before after (WritesAll form sheets old new bad)) (WritesFile form sheets old new) status
    (λ bad p. (p.0, p.2)) h

-- ---- as it is asked for

all_by : (form : Layout) (sheets : List KnownSheet) (old new : Option (List ℕ)) → EndsBy form sheets old new 0 → WritesFile form sheets old new 0
all_by form sheets old new (inl h) = absurd (omega (arith, h.0))
all_by form sheets old new (inr h) = at_zero (WritesFile form sheets old new) h

pub explains_all : (form : Layout) (old new : Option (List ℕ)) (status : ℕ) → EndsBySome form old new status → status ≡ 0 → ExplainsAll form old new
explains_all form old new status h is =
    (h.0, all_by form (in_order h.0) old new (subst (λ (s : ℕ). EndsBy form (in_order h.0) old new s) is h.1))

-- another status
pub not_zero : {P : Type 0} (status : ℕ) → (status ≡ 1) ⊎ (status ≡ 2) → status ≡ 0 → P
not_zero status (inl one) is = absurd (omega arith)
not_zero status (inr two) is = absurd (omega arith)
