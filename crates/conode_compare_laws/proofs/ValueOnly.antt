-- Of the findings at a frame of the channel those by the end of a transfer: at an answer, and at a request, which may confirm a block upload.
use Rattle.std.proofs.Common.{◌≡◌, ℕ, ◌-◌, Bool, true, false, List, [], Option, Some, None, refl, sym, subst, ap}
use Rattle.std.specs.Prelude.{◌&&◌, if◌then◌else◌, option_map, IfSome}
use Rattle.std.specs.Option.{option_or}
use Rattle.co_frame.specs.FrameContent.{FrameContent}
use Rattle.co_sheet.specs.Content.{Row}
use Rattle.conode_explain_transfers.specs.declared.ended.Ended.{Ended}
use Rattle.conode_explain_transfers.specs.declared.kinds.Side.{Side}
use Rattle.conode_explain_transfers.specs.declared.kinds.Side.TheVariants.{Client, Server}
use Rattle.conode_explain_transfers.specs.declared.kinds.What.{What}
use Rattle.conode_explain_transfers.specs.declared.kinds.What.TheVariants as what
use Rattle.conode_explain_transfers.specs.Followed.{Followed}
use Rattle.conode_explain_laws.proofs.Readings.{same as same_reading}
use Rattle.conode_compare_values.specs.declared.written.HeldMismatch.{HeldMismatch}
use Rattle.conode_compare_values.specs.declared.written.Written.{Written}
use Rattle.conode_compare_values.specs.HeldNumbers.{held_mismatch}
use Rattle.conode_compare_transfers.specs.declared.breach.Breach.{Breach}
use Rattle.conode_compare_transfers.specs.declared.dialogue.Asked.{Asked}
use Rattle.conode_compare_transfers.specs.declared.dialogue.Dialogue.{Dialogue}
use Rattle.conode_compare_transfers.specs.declared.dialogue.Exchange.{Exchange}
use Rattle.conode_compare_transfers.specs.Dialogues.{exchange_in, is_timed}
use Rattle.conode_compare_transfers.specs.Times.{is_past}
use Rattle.conode_compare_nmt.specs.declared.finding.Finding.{Finding}
use Rattle.conode_compare_nmt.specs.declared.finding.Finding.TheVariants.{AnswerStopped, Held, NoAnswer, Unasked, Value}
use Rattle.conode_compare_rules.specs.declared.kind.FrameKind.TheVariants.{Sdo}
use Rattle.conode_compare_nmt.specs.declared.limits.Limits.{Limits}
use Rattle.conode_compare_nmt.specs.declared.limits.Subject.{Subject}
use Rattle.conode_compare_nmt.specs.declared.nmt.Nmt.{Nmt}
use Rattle.conode_compare_rules.specs.declared.progress.Progress.{Progress}
use Rattle.conode_compare_rules.specs.Answers.{answer_finding, breach_finding, confirmed_finding, could_answer_since, ended_finding, finding_of, held_finding, is_abort, known_answer, known_finding, late_answer, overdue_answer, stopped_finding, stopped_with, transfer_breach, what_finding}
use Rattle.conode_compare_nmt.specs.States.{is_stopped, is_settled, is_steady, judged_state}
use Rattle.conode_compare_rules.specs.Channels.{answer_findings, answer_nmt, confirmed_findings, exchange_at, late_noted, request_findings}
use Rattle.conode_compare_rules.specs.Progresses.{findings_in}
use Rattle.conode_compare_rules.specs.Verdicts.{found}
use Rattle.conode_compare_laws.proofs.AnswerFollowed.{reads}

-- a difference between the end of a transfer and the data sheet
abbrev pub is_value : Finding → Bool
is_value (Value mismatch) = true
is_value _ = false

-- these are some of them
module _ (only : Option Finding → List Finding) (nothing : only None ≡ []) (others : (finding : Finding) → is_value finding ≡ false → only (Some finding) ≡ []) where
  only_or : (x y : Option Finding) → only x ≡ [] → only y ≡ [] → only (option_or x y) ≡ []
  only_or None y p q = q
  only_or (Some finding) y p q = p

  either : (b : Bool) (x : Option Finding) → only x ≡ [] → only (if b then x else None) ≡ []
  either true x p = p
  either false x p = nothing

  unless : (b : Bool) (x : Option Finding) → only x ≡ [] → only (if b then None else x) ≡ []
  unless true x p = nothing
  unless false x p = p

  -- the end of a transfer gives none of these
  abbrev IsFine : Subject → List Row → FrameContent → Option Ended → Type 0
  IsFine subject rows frame ended = IfSome ended (λ e. only (known_finding subject rows frame e) ≡ [])

  no_end : (subject : Subject) (rows : List Row) (frame : FrameContent) (ended : Option Ended) → IsFine subject rows frame ended → only (ended_finding subject rows frame ended) ≡ []
  no_end subject rows frame None h = nothing
  no_end subject rows frame (Some e) h = h

  no_held : (m : Option HeldMismatch) → only (option_map (λ m. Held m) m) ≡ []
  no_held None = nothing
  no_held (Some m) = others _ refl

  held_none : (subject : Subject) (written : Written) (x : Exchange) → only (held_finding subject written x) ≡ []
  unfolding held_finding
  held_none subject written x = no_held (held_mismatch subject.held.entries.items written x.certain x.heard.ended)

  stopped_by : (limits : Limits) (started : ℕ) (nmt : Nmt) (asked : Option Asked) → only (stopped_with limits started nmt asked) ≡ []
  stopped_by limits started nmt None = nothing
  stopped_by limits started nmt (Some a) = either (is_stopped (judged_state nmt) && (is_settled limits started nmt.commanded a.micros && is_steady limits nmt a.micros)) (Some (AnswerStopped a.key)) (others _ refl)

  stopped_none : (limits : Limits) (started : ℕ) (nmt : Nmt) (x : Exchange) → only (stopped_finding limits started nmt x) ≡ []
  unfolding stopped_finding
  stopped_none limits started nmt x = either x.certain (stopped_with limits started nmt x.asked) (stopped_by limits started nmt x.asked)

  late_none : (limits : Limits) (asked : Option Asked) (micros : ℕ) → only (late_answer limits asked micros) ≡ []
  late_none limits None micros = nothing
  late_none limits (Some a) micros = either (is_timed a.key && is_past a.micros limits.answer micros) (Some (NoAnswer a.key (micros - a.micros))) (others _ refl)

  overdue_none : (limits : Limits) (nmt : Nmt) (x : Exchange) (micros : ℕ) → only (overdue_answer limits nmt x micros) ≡ []
  overdue_none limits nmt x micros = either (x.owed && could_answer_since limits nmt x.asked) (late_answer limits x.asked micros) (late_none limits x.asked micros)

  asked_none : (f : Asked → Finding) (o : Option Asked) → ((a : Asked) → is_value (f a) ≡ false) → only (option_map f o) ≡ []
  asked_none f None h = nothing
  asked_none f (Some a) h = others (f a) (h a)

  breach_none : (b : Option Breach) → only (breach_finding b) ≡ []
  breach_none None = nothing
  breach_none (Some b) = others _ refl

  what_by : (subject : Subject) (rows : List Row) (x : Exchange) (frame : FrameContent) (w : What) → IsFine subject rows frame x.heard.ended → only (finding_of subject rows x frame w) ≡ []
  what_by subject rows x frame what.Stray h = unless (is_abort frame) (Some Unasked) (others _ refl)
  what_by subject rows x frame what.Overtaken h = asked_none _ x.asked (λ a. refl)
  what_by subject rows x frame what.Unexpected h = asked_none _ x.asked (λ a. refl)
  what_by subject rows x frame what.Part h = no_end subject rows frame x.heard.ended h
  what_by subject rows x frame _ h = nothing

  what_none : (subject : Subject) (rows : List Row) (x : Exchange) (frame : FrameContent) → IsFine subject rows frame x.heard.ended → only (what_finding subject rows x frame) ≡ []
  unfolding what_finding
  what_none subject rows x frame h = what_by subject rows x frame x.heard.what h

  answer_none : (subject : Subject) (rows : List Row) (micros : ℕ) (nmt : Nmt) (x : Exchange) (frame : FrameContent) → IsFine subject rows frame x.heard.ended → only (answer_finding subject rows micros nmt x frame) ≡ []
  unfolding answer_finding
  answer_none subject rows micros nmt x frame h =
      either x.certain (option_or (overdue_answer subject.limits nmt x micros) (known_answer subject rows x frame))
      (only_or (overdue_answer subject.limits nmt x micros) (known_answer subject rows x frame) (overdue_none subject.limits nmt x micros)
      (only_or (what_finding subject rows x frame) (breach_finding (transfer_breach subject.limits x)) (what_none subject rows x frame h) (breach_none (transfer_breach subject.limits x))))

  -- an answer
  server_found : (subject : Subject) (rows : List Row) (p : Progress) (micros : ℕ) (frame : FrameContent)
      → IsFine subject rows frame (exchange_in subject.limits.answer p.started p.dialogue micros Server frame).heard.ended → only (findings_in subject rows p micros (Sdo Server frame)).frame ≡ []
  unfolding answer_findings found exchange_at late_noted
  server_found subject rows p micros frame h =
      let x : Exchange = exchange_in subject.limits.answer p.started p.dialogue micros Server frame in
      only_or (stopped_finding subject.limits p.started (answer_nmt subject p micros) x) _ (stopped_none subject.limits p.started (answer_nmt subject p micros) x)
      (only_or (answer_finding subject rows micros (answer_nmt subject p micros) x frame) (held_finding subject p.written x) (answer_none subject rows micros (answer_nmt subject p micros) x frame h) (held_none subject p.written x))

  confirmed_none : (o : Option Finding) → only o ≡ [] → only (confirmed_findings o).frame ≡ []
  unfolding found
  confirmed_none None h = h
  confirmed_none (Some finding) h = h

  -- a request
  client_found : (subject : Subject) (rows : List Row) (p : Progress) (micros : ℕ) (frame : FrameContent)
      → IsFine subject rows frame (exchange_in subject.limits.answer p.started p.dialogue micros Client frame).heard.ended → only (findings_in subject rows p micros (Sdo Client frame)).frame ≡ []
  unfolding request_findings confirmed_finding exchange_at
  client_found subject rows p micros frame h =
      let x : Exchange = exchange_in subject.limits.answer p.started p.dialogue micros Client frame in
      confirmed_none _
      (either x.certain (option_or (breach_finding x.breach) (option_or (ended_finding subject rows frame x.heard.ended) (held_finding subject p.written x)))
      (only_or (breach_finding x.breach) (option_or (ended_finding subject rows frame x.heard.ended) (held_finding subject p.written x)) (breach_none x.breach)
      (only_or (ended_finding subject rows frame x.heard.ended) (held_finding subject p.written x) (no_end subject rows frame x.heard.ended h) (held_none subject p.written x))))

  -- by explain's reading of the frame
  ended_as : (answer started : ℕ) (d : Dialogue) (micros : ℕ) (side : Side) (frame : FrameContent) → (exchange_in answer started d micros side frame).heard.ended ≡ (reads d.channel micros side frame.bytes).says.ended
  unfolding exchange_in
  ended_as answer started d micros side frame = ap (λ (f : Followed). f.says.ended) (same_reading d.channel.heard d.channel.transfer micros side frame.bytes frame.bytes).followed

  pub none_found : (subject : Subject) (rows : List Row) (p : Progress) (micros : ℕ) (side : Side) (frame : FrameContent)
      → IfSome (reads p.dialogue.channel micros side frame.bytes).says.ended (λ e. only (known_finding subject rows frame e) ≡ []) → only (findings_in subject rows p micros (Sdo side frame)).frame ≡ []
  none_found subject rows p micros Server frame h =
      server_found subject rows p micros frame (subst (IsFine subject rows frame) (sym (ended_as subject.limits.answer p.started p.dialogue micros Server frame)) h)
  none_found subject rows p micros Client frame h =
      client_found subject rows p micros frame (subst (IsFine subject rows frame) (sym (ended_as subject.limits.answer p.started p.dialogue micros Client frame)) h)
