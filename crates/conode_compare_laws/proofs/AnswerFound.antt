-- What compare finds at an answer by what is known of the request before it, and at a heartbeat while a request isn't answered.
use Rattle.std.proofs.Common.{◌≡◌, ℕ, ◌-◌, ◌≤◌, Bool, true, false, List, [], Option, Some, None, refl, sym, ap, ◌∙◌, ◌⊎◌, inl, inr, arith}
use Rattle.std.specs.Prelude.{◌&&◌, if◌then◌else◌, option_map}
use Rattle.std.specs.Option.{option_map_or, option_or}
use Rattle.std.proofs.lemmas.Bool.{false≢true}
use Rattle.std.proofs.lemmas.Bool.Decides.{nat_tests}
use Rattle.co_frame.specs.FrameContent.{FrameContent}
use Rattle.co_sheet.specs.Content.{Row}
use Rattle.conode_explain_transfers.specs.declared.ended.Ended.{Ended}
use Rattle.conode_explain_transfers.specs.declared.kinds.What.{What}
use Rattle.conode_explain_transfers.specs.declared.kinds.What.TheVariants as what
use Rattle.conode_compare_values.specs.declared.written.HeldMismatch.{HeldMismatch}
use Rattle.conode_compare_values.specs.declared.written.Written.{Written}
use Rattle.conode_compare_values.specs.HeldNumbers.{held_mismatch}
use Rattle.conode_compare_values.specs.declared.mismatch.Mismatch.{Mismatch}
use Rattle.conode_compare_values.specs.SheetValues.{mismatch_at}
use Rattle.conode_compare_transfers.specs.declared.breach.Breach.{Breach}
use Rattle.conode_compare_transfers.specs.declared.dialogue.Asked.{Asked}
use Rattle.conode_compare_transfers.specs.declared.dialogue.Dialogue.{Dialogue}
use Rattle.conode_compare_transfers.specs.declared.dialogue.Exchange.{Exchange}
use Rattle.conode_compare_transfers.specs.Dialogues.{is_certain, is_timed}
use Rattle.conode_compare_transfers.specs.Times.{is_past}
use Rattle.conode_compare_nmt.specs.declared.finding.Finding.{Finding}
use Rattle.conode_compare_nmt.specs.declared.finding.Finding.TheVariants.{Held, NoAnswer}
use Rattle.conode_compare_nmt.specs.declared.limits.Limits.{Limits}
use Rattle.conode_compare_nmt.specs.declared.limits.Subject.{Subject}
use Rattle.conode_compare_nmt.specs.declared.nmt.Commanded.{Commanded}
use Rattle.conode_compare_nmt.specs.declared.nmt.Nmt.{Nmt}
use Rattle.conode_compare_rules.specs.Answers.{answer_finding, answers_in, breach_finding, could_answer_since, ended_finding, finding_of, held_finding, is_abort, is_exact, known_answer, late_after, late_answer, overdue_answer, refuses_other, shows_stopped, silence_finding, silence_of, stopped_finding, stopped_with, transfer_breach, value_finding, what_finding}
use Rattle.conode_compare_nmt.specs.States.{is_stopped, is_settled, was_running}
use Rattle.conode_compare_laws.specs.AnswerFindings.{of_answers}
use Rattle.conode_compare_laws.proofs.AnswerTurns.{is_turned}
use Rattle.conode_compare_laws.proofs.Shown.{freer_running}

-- ---- what isn't of these kinds

pub only_or : (x y : Option Finding) → of_answers x ≡ [] → of_answers y ≡ [] → of_answers (option_or x y) ≡ []
only_or None y p q = q
only_or (Some finding) y p q = p

no_breach : (b : Option Breach) → of_answers (breach_finding b) ≡ []
no_breach None = refl
no_breach (Some b) = refl

pub none_confirmed : (b : Option Breach) → of_answers (breach_finding b) ≡ []
none_confirmed b = no_breach b

no_value : (m : Option Mismatch) → of_answers (value_finding m) ≡ []
no_value None = refl
no_value (Some m) = refl

pub no_end : (subject : Subject) (rows : List Row) (frame : FrameContent) (ended : Option Ended) → of_answers (ended_finding subject rows frame ended) ≡ []
no_end subject rows frame None = refl
no_end subject rows frame (Some e) = by (refuses_other frame e)
  where
    by : (b : Bool) → of_answers (if b then None else value_finding (mismatch_at subject.node subject.facts.modular subject.rooms rows (is_exact e.protocol frame) e)) ≡ []
    by true = refl
    by false = no_value _

no_held : (m : Option HeldMismatch) → of_answers (option_map (λ m. Held m) m) ≡ []
no_held None = refl
no_held (Some m) = refl

pub held_none : (subject : Subject) (written : Written) (x : Exchange) → of_answers (held_finding subject written x) ≡ []
unfolding held_finding
held_none subject written x = no_held (held_mismatch subject.held.entries.items written x.certain x.heard.ended)

-- ---- while an earlier request may be answered

pub uncertain : (subject : Subject) (rows : List Row) (written : Written) (started micros : ℕ) (nmt : Nmt) (x : Exchange) (frame : FrameContent) → x.certain ≡ false
    → of_answers (option_or (stopped_finding subject.limits started nmt x) (option_or (answer_finding subject rows micros nmt x frame) (held_finding subject written x))) ≡ []
unfolding stopped_finding answer_finding
uncertain subject rows written started micros nmt x frame off =
    only_or (if x.certain then stopped_with subject.limits started nmt x.asked else None) _
    (ap (λ b. of_answers (if b then stopped_with subject.limits started nmt x.asked else None)) off)
    (only_or (if x.certain then option_or (overdue_answer subject.limits nmt x micros) (known_answer subject rows x frame) else None) (held_finding subject written x)
    (ap (λ b. of_answers (if b then option_or (overdue_answer subject.limits nmt x micros) (known_answer subject rows x frame) else None)) off) (held_none subject written x))

-- ---- where no initiate request is right before the answer

unasked_what : (subject : Subject) (rows : List Row) (x : Exchange) (frame : FrameContent) (w : What) → x.asked ≡ None → (is_abort frame ≡ true) ⊎ (is_turned w ≡ true) → of_answers (finding_of subject rows x frame w) ≡ []
unasked_what subject rows x frame what.Stray none (inl abort) = rw abort refl
unasked_what subject rows x frame what.Stray none (inr on) = absurd (false≢true on)
unasked_what subject rows x frame what.Overtaken none h = rw none refl
unasked_what subject rows x frame what.Unexpected none h = rw none refl
unasked_what subject rows x frame what.Part none h = no_end subject rows frame x.heard.ended
unasked_what subject rows x frame _ none h = refl

none_of_what : (subject : Subject) (rows : List Row) (x : Exchange) (frame : FrameContent) → x.asked ≡ None → (is_abort frame ≡ true) ⊎ (is_turned x.heard.what ≡ true) → of_answers (what_finding subject rows x frame) ≡ []
unfolding what_finding
none_of_what subject rows x frame none h = unasked_what subject rows x frame x.heard.what none h

unasked_late : (limits : Limits) (nmt : Nmt) (x : Exchange) (micros : ℕ) → x.asked ≡ None → of_answers (overdue_answer limits nmt x micros) ≡ []
unasked_late limits nmt x micros none = by (x.owed && could_answer_since limits nmt x.asked)
  where
    by : (owed : Bool) → of_answers (if owed then late_answer limits x.asked micros else None) ≡ []
    by true = rw none refl
    by false = refl

unasked_answer : (subject : Subject) (rows : List Row) (micros : ℕ) (nmt : Nmt) (x : Exchange) (frame : FrameContent) → x.asked ≡ None → (is_abort frame ≡ true) ⊎ (is_turned x.heard.what ≡ true)
    → of_answers (answer_finding subject rows micros nmt x frame) ≡ []
unfolding answer_finding
unasked_answer subject rows micros nmt x frame none h = by x.certain
  where
    by : (certain : Bool) → of_answers (if certain then option_or (overdue_answer subject.limits nmt x micros) (known_answer subject rows x frame) else None) ≡ []
    by true =
        only_or (overdue_answer subject.limits nmt x micros) (known_answer subject rows x frame) (unasked_late subject.limits nmt x micros none)
        (only_or (what_finding subject rows x frame) (breach_finding (transfer_breach subject.limits x)) (none_of_what subject rows x frame none h) (no_breach (transfer_breach subject.limits x)))
    by false = refl

unasked_stopped : (limits : Limits) (started : ℕ) (nmt : Nmt) (x : Exchange) → x.asked ≡ None → of_answers (stopped_finding limits started nmt x) ≡ []
unfolding stopped_finding
unasked_stopped limits started nmt x none = by x.certain
  where
    by : (certain : Bool) → of_answers (if certain then stopped_with limits started nmt x.asked else None) ≡ []
    by true = rw none refl
    by false = refl

pub unasked : (subject : Subject) (rows : List Row) (written : Written) (started micros : ℕ) (nmt : Nmt) (x : Exchange) (frame : FrameContent) → x.asked ≡ None → (is_abort frame ≡ true) ⊎ (is_turned x.heard.what ≡ true)
    → of_answers (option_or (stopped_finding subject.limits started nmt x) (option_or (answer_finding subject rows micros nmt x frame) (held_finding subject written x))) ≡ []
unasked subject rows written started micros nmt x frame none h =
    only_or (stopped_finding subject.limits started nmt x) _ (unasked_stopped subject.limits started nmt x none)
    (only_or (answer_finding subject rows micros nmt x frame) (held_finding subject written x) (unasked_answer subject rows micros nmt x frame none h) (held_none subject written x))

-- ---- the answer to an initiate request, at once

pub never_past : (micros millis : ℕ) → is_past micros millis micros ≡ false
never_past micros millis = grind (arith, nat_tests)

at_once : (limits : Limits) (a : Asked) (micros : ℕ) → a.micros ≡ micros → late_after limits a micros ≡ None
at_once limits a micros e = by (is_timed a.key) (is_past a.micros limits.answer micros) (ap (λ from. is_past from limits.answer micros) e ∙ never_past micros limits.answer)
  where
    by : (timed past : Bool) → past ≡ false → (if timed && past then Some (NoAnswer a.key (micros - a.micros)) else None) ≡ None
    by timed true off = absurd (false≢true (sym off))
    by true false off = refl
    by false false off = refl

asked_late : (limits : Limits) (nmt : Nmt) (x : Exchange) (a : Asked) (micros : ℕ) → x.asked ≡ Some a → a.micros ≡ micros → of_answers (overdue_answer limits nmt x micros) ≡ []
asked_late limits nmt x a micros is e = by (x.owed && could_answer_since limits nmt x.asked)
  where
    by : (owed : Bool) → of_answers (if owed then late_answer limits x.asked micros else None) ≡ []
    by true = ap (λ o. of_answers (late_answer limits o micros)) is ∙ ap of_answers (at_once limits a micros e)
    by false = refl

asked_stopped : (limits : Limits) (started : ℕ) (nmt : Nmt) (x : Exchange) (a : Asked) → x.asked ≡ Some a → is_stopped nmt.state ≡ false → of_answers (stopped_finding limits started nmt x) ≡ []
unfolding stopped_finding
asked_stopped limits started nmt x a is off = by x.certain
  where
    by : (certain : Bool) → of_answers (if certain then stopped_with limits started nmt x.asked else None) ≡ []
    by true = rw (is, freer_running nmt.state nmt.due off) refl
    by false = refl

asked_what : (subject : Subject) (rows : List Row) (x : Exchange) (frame : FrameContent) → x.heard.what ≡ what.Part → of_answers (what_finding subject rows x frame) ≡ []
unfolding what_finding
asked_what subject rows x frame part = ap (λ w. of_answers (finding_of subject rows x frame w)) part ∙ no_end subject rows frame x.heard.ended

asked_answer : (subject : Subject) (rows : List Row) (micros : ℕ) (nmt : Nmt) (x : Exchange) (frame : FrameContent) (a : Asked) → x.asked ≡ Some a → a.micros ≡ micros → x.heard.what ≡ what.Part
    → of_answers (answer_finding subject rows micros nmt x frame) ≡ []
unfolding answer_finding
asked_answer subject rows micros nmt x frame a is e part = by x.certain
  where
    by : (certain : Bool) → of_answers (if certain then option_or (overdue_answer subject.limits nmt x micros) (known_answer subject rows x frame) else None) ≡ []
    by true =
        only_or (overdue_answer subject.limits nmt x micros) (known_answer subject rows x frame) (asked_late subject.limits nmt x a micros is e)
        (only_or (what_finding subject rows x frame) (breach_finding (transfer_breach subject.limits x)) (asked_what subject rows x frame part) (no_breach (transfer_breach subject.limits x)))
    by false = refl

pub answered : (subject : Subject) (rows : List Row) (written : Written) (started micros : ℕ) (nmt : Nmt) (x : Exchange) (frame : FrameContent) (a : Asked) → x.asked ≡ Some a → a.micros ≡ micros
    → is_stopped nmt.state ≡ false → x.heard.what ≡ what.Part
    → of_answers (option_or (stopped_finding subject.limits started nmt x) (option_or (answer_finding subject rows micros nmt x frame) (held_finding subject written x))) ≡ []
answered subject rows written started micros nmt x frame a is e off part =
    only_or (stopped_finding subject.limits started nmt x) _ (asked_stopped subject.limits started nmt x a is off)
    (only_or (answer_finding subject rows micros nmt x frame) (held_finding subject written x) (asked_answer subject rows micros nmt x frame a is e part) (held_none subject written x))

-- ---- a heartbeat

pub silent : (limits : Limits) (started : ℕ) (nmt : Nmt) (dialogue : Dialogue) (micros byte : ℕ) → shows_stopped byte ≡ true → silence_finding limits started nmt dialogue micros byte ≡ None
unfolding silence_finding
silent limits started nmt dialogue micros byte on = rw on refl

pub none_awaited : (limits : Limits) (started : ℕ) (nmt : Nmt) (dialogue : Dialogue) (micros byte : ℕ) → dialogue.asked ≡ None → silence_finding limits started nmt dialogue micros byte ≡ None
unfolding silence_finding
none_awaited limits started nmt dialogue micros byte none = by (shows_stopped byte)
  where
    by : (b : Bool) → (if b then None else silence_of limits started nmt dialogue dialogue.asked micros) ≡ None
    by true = refl
    by false = ap (λ o. silence_of limits started nmt dialogue o micros) none

pub unsettled_after : (from millis micros : ℕ) → micros ≤ from → is_past from millis micros ≡ false
unsettled_after from millis micros h = grind (arith, nat_tests)

unsettled : (limits : Limits) (started micros : ℕ) (commanded : Option Commanded) (c : Commanded) → commanded ≡ Some c → micros ≤ c.micros → is_settled limits started commanded micros ≡ false
unfolding is_settled
unsettled limits started micros commanded c is h =
    by (is_past started limits.tolerance micros) (option_map_or (λ x. is_past x.micros limits.tolerance micros) commanded true)
    (ap (λ o. option_map_or (λ x. is_past x.micros limits.tolerance micros) o true) is ∙ unsettled_after c.micros limits.tolerance micros h)
  where
    by : (a b : Bool) → b ≡ false → (a && b) ≡ false
    by true b off = off
    by false b off = refl

pub commanded_since : (limits : Limits) (started : ℕ) (nmt : Nmt) (dialogue : Dialogue) (micros byte : ℕ) (a : Asked) (c : Commanded) → dialogue.asked ≡ Some a → nmt.commanded ≡ Some c → a.micros ≤ c.micros
    → silence_finding limits started nmt dialogue micros byte ≡ None
unfolding silence_finding
commanded_since limits started nmt dialogue micros byte a c is commanded h = by (shows_stopped byte)
  where
    certain : Bool
    certain = was_running limits nmt a.micros && is_certain limits.answer started dialogue.slow dialogue.doubted a.micros

    off : (answers settled : Bool) → settled ≡ false → (if answers && (settled && certain) then late_after limits a micros else None) ≡ None
    off answers true e = absurd (false≢true (sym e))
    off true false e = refl
    off false false e = refl

    by : (b : Bool) → (if b then None else silence_of limits started nmt dialogue dialogue.asked micros) ≡ None
    by true = refl
    by false =
        ap (λ o. silence_of limits started nmt dialogue o micros) is
        ∙ off (answers_in nmt.state) (is_settled limits started nmt.commanded a.micros) (unsettled limits started a.micros nmt.commanded c commanded h)

-- what was asked in doubt
pub doubted_silent : (limits : Limits) (started : ℕ) (nmt : Nmt) (dialogue : Dialogue) (micros byte : ℕ) (a : Asked) → dialogue.asked ≡ Some a → is_certain limits.answer started dialogue.slow dialogue.doubted a.micros ≡ false
    → silence_finding limits started nmt dialogue micros byte ≡ None
unfolding silence_finding
doubted_silent limits started nmt dialogue micros byte a is h = by (shows_stopped byte)
  where
    off : (answers settled steady certain : Bool) → certain ≡ false → (if answers && (settled && (steady && certain)) then late_after limits a micros else None) ≡ None
    off true true true certain e = rw e refl
    off true true false certain e = refl
    off true false steady certain e = refl
    off false settled steady certain e = refl

    by : (b : Bool) → (if b then None else silence_of limits started nmt dialogue dialogue.asked micros) ≡ None
    by true = refl
    by false =
        ap (λ o. silence_of limits started nmt dialogue o micros) is
        ∙ off (answers_in nmt.state) (is_settled limits started nmt.commanded a.micros) (was_running limits nmt a.micros) (is_certain limits.answer started dialogue.slow dialogue.doubted a.micros) h

-- ---- an abort, where what was asked in doubt isn't answered

-- what an abort is, whichever transfer is open
abbrev pub IsEnding : What → Type 0
IsEnding what.Overtaken = ⊥
IsEnding what.Unexpected = ⊥
IsEnding _ = Unit {0}

abort_finds : (subject : Subject) (rows : List Row) (x : Exchange) (frame : FrameContent) (w : What) → is_abort frame ≡ true → IsEnding w → of_answers (finding_of subject rows x frame w) ≡ []
abort_finds subject rows x frame what.Stray abort e = rw abort refl
abort_finds subject rows x frame what.Overtaken abort e = absurd e
abort_finds subject rows x frame what.Unexpected abort e = absurd e
abort_finds subject rows x frame what.Part abort e = no_end subject rows frame x.heard.ended
abort_finds subject rows x frame _ abort e = refl

abort_found : (subject : Subject) (rows : List Row) (x : Exchange) (frame : FrameContent) → is_abort frame ≡ true → IsEnding x.heard.what → of_answers (what_finding subject rows x frame) ≡ []
unfolding what_finding
abort_found subject rows x frame abort e = abort_finds subject rows x frame x.heard.what abort e

none_owed : (limits : Limits) (nmt : Nmt) (x : Exchange) (micros : ℕ) → x.owed ≡ false → of_answers (overdue_answer limits nmt x micros) ≡ []
none_owed limits nmt x micros off = ap (λ b. of_answers (if b && could_answer_since limits nmt x.asked then late_answer limits x.asked micros else None)) off

abort_answer : (subject : Subject) (rows : List Row) (micros : ℕ) (nmt : Nmt) (x : Exchange) (frame : FrameContent) → x.owed ≡ false → is_abort frame ≡ true → IsEnding x.heard.what → of_answers (answer_finding subject rows micros nmt x frame) ≡ []
unfolding answer_finding
abort_answer subject rows micros nmt x frame off abort e = by x.certain
  where
    by : (certain : Bool) → of_answers (if certain then option_or (overdue_answer subject.limits nmt x micros) (known_answer subject rows x frame) else None) ≡ []
    by true =
        only_or (overdue_answer subject.limits nmt x micros) (known_answer subject rows x frame) (none_owed subject.limits nmt x micros off)
        (only_or (what_finding subject rows x frame) (breach_finding (transfer_breach subject.limits x)) (abort_found subject rows x frame abort e) (no_breach (transfer_breach subject.limits x)))
    by false = refl

pub doubted_abort : (subject : Subject) (rows : List Row) (written : Written) (started micros : ℕ) (nmt : Nmt) (x : Exchange) (frame : FrameContent) (a : Asked) → x.asked ≡ Some a → x.owed ≡ false
    → is_stopped nmt.state ≡ false → is_abort frame ≡ true → IsEnding x.heard.what
    → of_answers (option_or (stopped_finding subject.limits started nmt x) (option_or (answer_finding subject rows micros nmt x frame) (held_finding subject written x))) ≡ []
doubted_abort subject rows written started micros nmt x frame a is owed off abort e =
    only_or (stopped_finding subject.limits started nmt x) _ (asked_stopped subject.limits started nmt x a is off)
    (only_or (answer_finding subject rows micros nmt x frame) (held_finding subject written x) (abort_answer subject rows micros nmt x frame owed abort e) (held_none subject written x))
