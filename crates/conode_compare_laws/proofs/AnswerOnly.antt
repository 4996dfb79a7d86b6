-- Of the findings at a frame of the channel those within its transfer: at an answer, and at a request, which may confirm a block upload.
use Rattle.std.proofs.Common.{◌≡◌, ℕ, ◌-◌, Bool, true, false, List, [], Option, Some, None, refl, sym}
use Rattle.std.specs.Prelude.{◌&&◌, if◌then◌else◌, option_map, option_and_then}
use Rattle.std.specs.Option.{option_or}
use Rattle.std.proofs.lemmas.Bool.{false≢true}
use Rattle.co_frame.specs.FrameContent.{FrameContent}
use Rattle.co_sheet.specs.Content.{Row}
use Rattle.co_value.specs.declared.key.Key.{Key}
use Rattle.conode_explain_transfers.specs.declared.ended.Ended.{Ended}
use Rattle.conode_explain_transfers.specs.declared.kinds.Side.TheVariants.{Client, Server}
use Rattle.conode_explain_transfers.specs.declared.kinds.What.{What}
use Rattle.conode_explain_transfers.specs.declared.kinds.What.TheVariants as what
use Rattle.conode_compare_values.specs.declared.written.HeldMismatch.{HeldMismatch}
use Rattle.conode_compare_values.specs.declared.written.Written.{Written}
use Rattle.conode_compare_values.specs.HeldNumbers.{held_mismatch}
use Rattle.conode_compare_values.specs.declared.mismatch.Mismatch.{Mismatch}
use Rattle.conode_compare_values.specs.SheetValues.{mismatch_at}
use Rattle.conode_compare_transfers.specs.declared.breach.Breach.{Breach}
use Rattle.conode_compare_transfers.specs.declared.breach.Breach.TheVariants.{Early}
use Rattle.conode_compare_transfers.specs.declared.dialogue.Asked.{Asked}
use Rattle.conode_compare_transfers.specs.declared.dialogue.Exchange.{Exchange}
use Rattle.conode_compare_transfers.specs.Dialogues.{exchange_in, is_timed}
use Rattle.conode_compare_transfers.specs.Timeouts.{early_abort, early_breach, early_end, is_early, times_out}
use Rattle.conode_compare_transfers.specs.Times.{is_past}
use Rattle.conode_compare_nmt.specs.declared.finding.Finding.{Finding}
use Rattle.conode_compare_nmt.specs.declared.finding.Finding.TheVariants.{AnswerStopped, Held, NoAnswer, Transfer, Unasked}
use Rattle.conode_compare_rules.specs.declared.kind.FrameKind.TheVariants.{Sdo}
use Rattle.conode_compare_nmt.specs.declared.limits.Limits.{Limits}
use Rattle.conode_compare_nmt.specs.declared.limits.Subject.{Subject}
use Rattle.conode_compare_nmt.specs.declared.nmt.Nmt.{Nmt}
use Rattle.conode_compare_rules.specs.declared.progress.Progress.{Progress}
use Rattle.conode_compare_rules.specs.Answers.{answer_finding, breach_finding, confirmed_finding, could_answer_since, ended_finding, finding_of, held_finding, is_abort, is_exact, known_answer, late_answer, overdue_answer, refuses_other, stopped_finding, stopped_with, transfer_breach, value_finding, what_finding}
use Rattle.conode_compare_nmt.specs.States.{is_stopped, is_settled, is_steady, judged_state}
use Rattle.conode_compare_rules.specs.Channels.{answer_findings, answer_nmt, confirmed_findings, exchange_at, late_noted, request_findings}
use Rattle.conode_compare_rules.specs.Progresses.{findings_in}
use Rattle.conode_compare_rules.specs.Verdicts.{found}

-- a difference within a transfer, but that the device times out early
abbrev pub is_breach : Finding → Bool
is_breach (Transfer (Early key waited time)) = false
is_breach (Transfer breach) = true
is_breach _ = false

-- a difference within a transfer
abbrev pub is_within : Finding → Bool
is_within (Transfer breach) = true
is_within _ = false

-- these are some of them
module _ (only : Option Finding → List Finding) (nothing : only None ≡ []) (others : (finding : Finding) → is_within finding ≡ false → only (Some finding) ≡ []) where
  only_or : (x y : Option Finding) → only x ≡ [] → only y ≡ [] → only (option_or x y) ≡ []
  only_or None y p q = q
  only_or (Some finding) y p q = p

  either : (b : Bool) (x : Option Finding) → only x ≡ [] → only (if b then x else None) ≡ []
  either true x p = p
  either false x p = nothing

  unless : (b : Bool) (x : Option Finding) → only x ≡ [] → only (if b then None else x) ≡ []
  unless true x p = nothing
  unless false x p = p

  no_value : (m : Option Mismatch) → only (value_finding m) ≡ []
  no_value None = nothing
  no_value (Some m) = others _ refl

  no_end : (subject : Subject) (rows : List Row) (frame : FrameContent) (ended : Option Ended) → only (ended_finding subject rows frame ended) ≡ []
  no_end subject rows frame None = nothing
  no_end subject rows frame (Some e) = unless (refuses_other frame e) _ (no_value (mismatch_at subject.node subject.facts.modular subject.rooms rows (is_exact e.protocol frame) e))

  no_held : (m : Option HeldMismatch) → only (option_map (λ m. Held m) m) ≡ []
  no_held None = nothing
  no_held (Some m) = others _ refl

  held_none : (subject : Subject) (written : Written) (x : Exchange) → only (held_finding subject written x) ≡ []
  unfolding held_finding
  held_none subject written x = no_held (held_mismatch subject.held.entries.items written x.certain x.heard.ended)

  stopped_by : (limits : Limits) (started : ℕ) (nmt : Nmt) (asked : Option Asked) → only (stopped_with limits started nmt asked) ≡ []
  stopped_by limits started nmt None = nothing
  stopped_by limits started nmt (Some a) = either (is_stopped (judged_state nmt) && (is_settled limits started nmt.commanded a.micros && is_steady limits nmt a.micros)) (Some (AnswerStopped a.key)) (others _ refl)

  stopped_none : (limits : Limits) (started : ℕ) (nmt : Nmt) (x : Exchange) → only (stopped_finding limits started nmt x) ≡ []
  unfolding stopped_finding
  stopped_none limits started nmt x = either x.certain (stopped_with limits started nmt x.asked) (stopped_by limits started nmt x.asked)

  late_none : (limits : Limits) (asked : Option Asked) (micros : ℕ) → only (late_answer limits asked micros) ≡ []
  late_none limits None micros = nothing
  late_none limits (Some a) micros = either (is_timed a.key && is_past a.micros limits.answer micros) (Some (NoAnswer a.key (micros - a.micros))) (others _ refl)

  overdue_none : (limits : Limits) (nmt : Nmt) (x : Exchange) (micros : ℕ) → only (overdue_answer limits nmt x micros) ≡ []
  overdue_none limits nmt x micros = either (x.owed && could_answer_since limits nmt x.asked) (late_answer limits x.asked micros) (late_none limits x.asked micros)

  asked_none : (f : Asked → Finding) (o : Option Asked) → ((a : Asked) → is_within (f a) ≡ false) → only (option_map f o) ≡ []
  asked_none f None h = nothing
  asked_none f (Some a) h = others (f a) (h a)

  what_by : (subject : Subject) (rows : List Row) (x : Exchange) (frame : FrameContent) (w : What) → only (finding_of subject rows x frame w) ≡ []
  what_by subject rows x frame what.Stray = unless (is_abort frame) (Some Unasked) (others _ refl)
  what_by subject rows x frame what.Overtaken = asked_none _ x.asked (λ a. refl)
  what_by subject rows x frame what.Unexpected = asked_none _ x.asked (λ a. refl)
  what_by subject rows x frame what.Part = no_end subject rows frame x.heard.ended
  what_by subject rows x frame _ = nothing

  what_none : (subject : Subject) (rows : List Row) (x : Exchange) (frame : FrameContent) → only (what_finding subject rows x frame) ≡ []
  unfolding what_finding
  what_none subject rows x frame = what_by subject rows x frame x.heard.what

  answer_none : (subject : Subject) (rows : List Row) (micros : ℕ) (nmt : Nmt) (x : Exchange) (frame : FrameContent) → (x.certain ≡ true → only (breach_finding (transfer_breach subject.limits x)) ≡ [])
      → only (answer_finding subject rows micros nmt x frame) ≡ []
  unfolding answer_finding
  answer_none subject rows micros nmt x frame h = by x.certain h
    where
      by : (certain : Bool) → (certain ≡ true → only (breach_finding (transfer_breach subject.limits x)) ≡ [])
          → only (if certain then option_or (overdue_answer subject.limits nmt x micros) (known_answer subject rows x frame) else None) ≡ []
      by false h = nothing
      by true h =
          only_or (overdue_answer subject.limits nmt x micros) (known_answer subject rows x frame) (overdue_none subject.limits nmt x micros)
          (only_or (what_finding subject rows x frame) (breach_finding (transfer_breach subject.limits x)) (what_none subject rows x frame) (h refl))

  -- an answer
  pub server_found_within : (subject : Subject) (rows : List Row) (p : Progress) (micros : ℕ) (frame : FrameContent)
      → ((exchange_in subject.limits.answer p.started p.dialogue micros Server frame).certain ≡ true → only (breach_finding (transfer_breach subject.limits (exchange_in subject.limits.answer p.started p.dialogue micros Server frame))) ≡ [])
      → only (findings_in subject rows p micros (Sdo Server frame)).frame ≡ []
  unfolding answer_findings found exchange_at late_noted
  server_found_within subject rows p micros frame h =
      let x : Exchange = exchange_in subject.limits.answer p.started p.dialogue micros Server frame in
      only_or (stopped_finding subject.limits p.started (answer_nmt subject p micros) x) _ (stopped_none subject.limits p.started (answer_nmt subject p micros) x)
      (only_or (answer_finding subject rows micros (answer_nmt subject p micros) x frame) (held_finding subject p.written x) (answer_none subject rows micros (answer_nmt subject p micros) x frame h) (held_none subject p.written x))

  confirmed_none : (o : Option Finding) → only o ≡ [] → only (confirmed_findings o).frame ≡ []
  unfolding found
  confirmed_none None h = h
  confirmed_none (Some finding) h = h

  -- a request
  pub client_found_within : (subject : Subject) (rows : List Row) (p : Progress) (micros : ℕ) (frame : FrameContent)
      → ((exchange_in subject.limits.answer p.started p.dialogue micros Client frame).certain ≡ true → only (breach_finding (exchange_in subject.limits.answer p.started p.dialogue micros Client frame).breach) ≡ [])
      → only (findings_in subject rows p micros (Sdo Client frame)).frame ≡ []
  unfolding request_findings confirmed_finding exchange_at
  client_found_within subject rows p micros frame h = by (exchange_in subject.limits.answer p.started p.dialogue micros Client frame).certain h
    where
      x : Exchange
      x = exchange_in subject.limits.answer p.started p.dialogue micros Client frame

      by : (certain : Bool) → (certain ≡ true → only (breach_finding (exchange_in subject.limits.answer p.started p.dialogue micros Client frame).breach) ≡ [])
          → only (confirmed_findings (if certain
          then option_or (breach_finding (exchange_in subject.limits.answer p.started p.dialogue micros Client frame).breach) (option_or (ended_finding subject rows frame (exchange_in subject.limits.answer p.started p.dialogue micros Client frame).heard.ended) (held_finding subject p.written (exchange_in subject.limits.answer p.started p.dialogue micros Client frame)))
          else None)).frame ≡ []
      by true h =
          confirmed_none _
          (only_or (breach_finding x.breach) (option_or (ended_finding subject rows frame x.heard.ended) (held_finding subject p.written x)) (h refl)
          (only_or (ended_finding subject rows frame x.heard.ended) (held_finding subject p.written x) (no_end subject rows frame x.heard.ended) (held_none subject p.written x)))
      by false h = confirmed_none None nothing

-- ---- where none of these is that the device times out early

outside : (finding : Finding) → is_within finding ≡ false → is_breach finding ≡ false
outside (Transfer breach) off = absurd (false≢true (sym off))
outside _ off = refl

module _ (only : Option Finding → List Finding) (nothing : only None ≡ []) (others : (finding : Finding) → is_breach finding ≡ false → only (Some finding) ≡ []) where
  early_if : (b : Bool) (key : Key) (waited time : ℕ) → only (breach_finding (if b then Some (Early key waited time) else None)) ≡ []
  early_if true key waited time = others _ refl
  early_if false key waited time = nothing

  early_by : (tolerance drift : ℕ) (key : Key) (waited : ℕ) (time : Option ℕ) → only (breach_finding (option_and_then (early_breach tolerance drift key waited) time)) ≡ []
  early_by tolerance drift key waited None = nothing
  early_by tolerance drift key waited (Some time) = early_if (is_early tolerance drift time waited) key waited time

  early_when : (tolerance drift : ℕ) (key : Key) (time awaited : Option ℕ) → only (breach_finding (option_and_then (λ waited. option_and_then (early_breach tolerance drift key waited) time) awaited)) ≡ []
  early_when tolerance drift key time None = nothing
  early_when tolerance drift key time (Some waited) = early_by tolerance drift key waited time

  early_of : (tolerance drift : ℕ) (time awaited : Option ℕ) (ended : Option Ended) → only (breach_finding (option_and_then (early_end tolerance drift time awaited) ended)) ≡ []
  early_of tolerance drift time awaited None = nothing
  early_of tolerance drift time awaited (Some e) = by (times_out e.ending)
    where
      by : (b : Bool) → only (breach_finding (if b then option_and_then (λ waited. option_and_then (early_breach tolerance drift e.key waited) time) awaited else None)) ≡ []
      by true = early_when tolerance drift e.key time awaited
      by false = nothing

  breach_or : (b e : Option Breach) → only (breach_finding b) ≡ [] → only (breach_finding e) ≡ [] → only (breach_finding (option_or b e)) ≡ []
  breach_or None e p q = q
  breach_or (Some b) e p q = p

  within_none : (limits : Limits) (x : Exchange) → only (breach_finding x.breach) ≡ [] → only (breach_finding (transfer_breach limits x)) ≡ []
  within_none limits x h =
      breach_or x.breach (early_abort limits.tolerance limits.drift limits.time x) h
      (early_of limits.tolerance limits.drift limits.time x.awaited x.heard.ended)

  pub server_found : (subject : Subject) (rows : List Row) (p : Progress) (micros : ℕ) (frame : FrameContent)
      → ((exchange_in subject.limits.answer p.started p.dialogue micros Server frame).certain ≡ true → only (breach_finding (exchange_in subject.limits.answer p.started p.dialogue micros Server frame).breach) ≡ [])
      → only (findings_in subject rows p micros (Sdo Server frame)).frame ≡ []
  server_found subject rows p micros frame h =
      server_found_within only nothing (λ finding off. others finding (outside finding off)) subject rows p micros frame
      (λ c. within_none subject.limits (exchange_in subject.limits.answer p.started p.dialogue micros Server frame) (h c))

  pub client_found : (subject : Subject) (rows : List Row) (p : Progress) (micros : ℕ) (frame : FrameContent)
      → ((exchange_in subject.limits.answer p.started p.dialogue micros Client frame).certain ≡ true → only (breach_finding (exchange_in subject.limits.answer p.started p.dialogue micros Client frame).breach) ≡ [])
      → only (findings_in subject rows p micros (Sdo Client frame)).frame ≡ []
  client_found subject rows p micros frame h = client_found_within only nothing (λ finding off. others finding (outside finding off)) subject rows p micros frame h
