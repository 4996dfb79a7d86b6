-- The PDOs of one sheet after another.
use Rattle.std.proofs.Common.{◌≡◌, ℕ, ◌+◌, ◌<◌, ◌≤◌, List, [], ◌∷◌, ◌++◌, length, map, take, drop, get_or, refl, sym, ap, ◌∙◌, append_assoc, append-nil, length-append, arith}
use Rattle.std.proofs.lemmas.List.{at_drop_all, at_drop_more, take_more}
use Rattle.std.proofs.Math.Seq.{take-append_seam}
use Rattle.co_profile.specs.declared.indices.IndexRange.{IndexRange}
use Rattle.conode_explain_cob_ids.specs.declared.claim.Claim.{Claim}
use Rattle.conode_explain_cob_ids.specs.declared.known_sheet.KnownSheet.{KnownSheet as KnownSheetOfCode}
use Rattle.conode_explain_cob_ids.specs.Buses.{Bus}
use Rattle.conode_explain_cob_ids.specs.Claims.{or_assumed, sheet_claims, sheets_claims, with_sender}
use Rattle.conode_explain_cob_ids.specs.Known.{KnownSheet, known_view}

views_push : (xs : List KnownSheetOfCode) (x : KnownSheetOfCode) → map known_view (xs ++ x ∷ []) ≡ map known_view xs ++ known_view x ∷ []
views_push [] x = refl
views_push (y ∷ ys) x = ap (λ (l : List KnownSheet). known_view y ∷ l) (views_push ys x)

one_sheet : (bus : Bus) (range : IndexRange) (id : ℕ) (sheets : List KnownSheetOfCode) (place : ℕ) (d : KnownSheetOfCode) → place < length sheets
    → sheets_claims bus range id (map known_view (take place sheets)) (map known_view (drop place sheets))
    ≡ sheet_claims bus (map known_view (take place sheets)) (known_view (get_or sheets place d)) range id
    ++ sheets_claims bus range id (map known_view (take (place + 1) sheets)) (map known_view (drop (place + 1) sheets))
unfolding sheets_claims
one_sheet bus range id sheets place d lt =
    let earlier = map known_view (take place sheets) in
    let rest = map known_view (drop (place + 1) sheets) in
    let one = sheet_claims bus earlier (known_view (get_or sheets place d)) range id in
    at_drop_more (λ (l : List KnownSheetOfCode). sheets_claims bus range id earlier (map known_view l)) sheets place d lt
    ∙ ap (λ (es : List KnownSheet). one ++ sheets_claims bus range id es rest)
    (sym (ap (λ (l : List KnownSheetOfCode). map known_view l) (take_more sheets place d lt) ∙ views_push (take place sheets) (get_or sheets place d)))

-- a list with the claims of one more sheet
pub one_more : (bus : Bus) (range : IndexRange) (id : ℕ) (sheets : List KnownSheetOfCode) (place : ℕ) (d : KnownSheetOfCode) (old new all : List Claim)
    → place < length sheets → new ≡ old ++ sheet_claims bus (map known_view (take place sheets)) (known_view (get_or sheets place d)) range id
    → old ++ sheets_claims bus range id (map known_view (take place sheets)) (map known_view (drop place sheets)) ≡ all
    → new ++ sheets_claims bus range id (map known_view (take (place + 1) sheets)) (map known_view (drop (place + 1) sheets)) ≡ all
one_more bus range id sheets place d old new all lt is so_far =
    let rest = sheets_claims bus range id (map known_view (take (place + 1) sheets)) (map known_view (drop (place + 1) sheets)) in
    let one = sheet_claims bus (map known_view (take place sheets)) (known_view (get_or sheets place d)) range id in
    ap (λ (l : List Claim). l ++ rest) is ∙ append_assoc old one rest
    ∙ ap (λ (l : List Claim). old ++ l) (sym (one_sheet bus range id sheets place d lt)) ∙ so_far

-- all of them are there
pub all_there : (bus : Bus) (range : IndexRange) (id : ℕ) (sheets : List KnownSheetOfCode) (place : ℕ) (found all : List Claim)
    → length sheets ≤ place → found ++ sheets_claims bus range id (map known_view (take place sheets)) (map known_view (drop place sheets)) ≡ all → found ≡ all
unfolding sheets_claims
all_there bus range id sheets place found all le so_far =
    let earlier = map known_view (take place sheets) in
    sym (append-nil found)
    ∙ ap (λ (l : List Claim). found ++ l)
    (sym (at_drop_all (λ (l : List KnownSheetOfCode). sheets_claims bus range id earlier (map known_view l)) sheets place le))
    ∙ so_far

-- those that were added, where any were, else those that are assumed
pub some_added : (old sent assumed : List Claim) → length old < length (old ++ sent) → old ++ sent ≡ old ++ or_assumed sent assumed
some_added old [] assumed lt =
    let count = length-append old [] in
    absurd (omega (arith, lt, count))
some_added old (claim ∷ sent) assumed lt = refl

pub none_added : (old sent assumed : List Claim) → length (old ++ sent) ≤ length old → (old ++ sent) ++ assumed ≡ old ++ or_assumed sent assumed
none_added old [] assumed le = rw (append-nil old) refl
none_added old (claim ∷ sent) assumed le =
    let count = length-append old (claim ∷ sent) in
    absurd (omega (arith, le, count))

-- ---- a sender of which nothing is known

sender_before : (unseen received : List Claim) → 0 < length received → with_sender unseen [] received ≡ unseen ++ received
sender_before unseen [] lt = absurd (omega (arith, lt))
sender_before unseen (claim ∷ received) lt = refl

no_sender : (unseen received : List Claim) → length received ≤ 0 → with_sender unseen [] received ≡ []
no_sender unseen [] le = refl
no_sender unseen (claim ∷ received) le = absurd (omega (arith, le))

pub sender_kept : (old unseen received : List Claim) → length (old ++ unseen) < length ((old ++ unseen) ++ received)
    → (old ++ unseen) ++ received ≡ old ++ with_sender unseen [] received
sender_kept old unseen received lt =
    let count = length-append (old ++ unseen) received in
    rw (sender_before unseen received (omega (arith, lt, count))) (append_assoc old unseen received)

pub none_received : (old unseen received : List Claim) → length ((old ++ unseen) ++ received) ≤ length (old ++ unseen)
    → take (length old) ((old ++ unseen) ++ received) ≡ old ++ with_sender unseen [] received
none_received old unseen received le =
    let count = length-append (old ++ unseen) received in
    rw (no_sender unseen received (omega (arith, le, count)), append_assoc old unseen received, append-nil old) (take-append_seam old (unseen ++ received))

pub some_sent : (old unseen sent received : List Claim) → length old < length (old ++ sent)
    → (old ++ sent) ++ received ≡ old ++ with_sender unseen sent received
some_sent old unseen [] received lt =
    let count = length-append old [] in
    absurd (omega (arith, lt, count))
some_sent old unseen (claim ∷ sent) received lt = append_assoc old (claim ∷ sent) received

pub none_sent : (old unseen sent received : List Claim) → length (old ++ sent) ≤ length old
    → (old ++ sent) ++ with_sender unseen [] received ≡ old ++ with_sender unseen sent received
none_sent old unseen [] received le = rw (append-nil old) refl
none_sent old unseen (claim ∷ sent) received le =
    let count = length-append old (claim ∷ sent) in
    absurd (omega (arith, le, count))
