-- What reading a line finds, its grammar spells, and what the grammar spells by a line, reading finds.
use Rattle.std.proofs.Common.{◌≡◌, ℕ, suc, ◌+◌, ◌≤◌, true, false, inl, inr, List, [], ◌∷◌, ◌++◌, length, Option, Some, None, IfSome, eqb, ltb, get_or, refl, sym, ap, ◌∙◌, arith, length-append}
use Rattle.std.proofs.lemmas.Bool.{eqb-true}
use Rattle.std.proofs.lemmas.Bool.Decides.{nat_tests}
use Rattle.std.proofs.lemmas.Option.{option_and_then_some}
use Rattle.std.specs.List.{prefix_len, list_all, onto_first}
use Rattle.std.specs.Option.{option_map}
use Rattle.conode_trace.specs.declared.trace_line.TraceLine.{TraceLine}
use Rattle.conode_trace.specs.declared.trace_line.TraceLine.TheVariants.{Event}
use Rattle.conode_trace.specs.declared.event_line.EventLine.{EventLine}
use Rattle.conode_trace.specs.declared.frame_fields.Identifier.{Identifier}
use Rattle.conode_trace.specs.declared.frame_fields.Identifier.TheVariants.{Base, Extended}
use Rattle.co_text.specs.Texts.{is_blank, is_hex_digit}
use Rattle.conode_trace.specs.FrameLines.{past_run, stamp_at, is_name_byte, identifier_at, body_in, line_of, frame_at, frame_line_in, is_skipped, begins_as_event, line_in}
use Rattle.conode_trace.specs.Events.{words, event_of_one, event_of_two, event_of_three, event_in}
use Rattle.conode_trace.specs.Grammar.{IsRun, SpellsIdentifier, SpellsFrameLine, IsSkipped, IsEventLine, SpellsLine}
use Rattle.std.proofs.lemmas.Bool.{and_parts}
use Rattle.co_text.proofs.Tests.{by_test}
use Rattle.conode_trace.proofs.GrammarRuns.{if_some, past_run-is, run_passed}
use Rattle.conode_trace.proofs.GrammarFields.{stamp_is, stamp_spelled, identifier_is, identifier_spelled}
use Rattle.conode_trace.proofs.GrammarEvents.{event_is, event_spelled}
use Rattle.conode_trace.proofs.GrammarBodies.{blank_digit, body_is, body_spelled}

-- ---- what follows a run doesn't go on with it

after_blanks : (name rest : List ℕ) → IsRun is_name_byte 1 15 name → prefix_len is_blank (name ++ rest) ≡ 0
after_blanks [] rest h = absurd (omega (arith, h.enough))
after_blanks (x ∷ xs) rest h =
    let named = (and_parts (is_name_byte x) (list_all is_name_byte xs) h.all).0 in
    by_test (is_blank x) (λ e. let no : false ≡ true = rw e at named in cc) (λ e. rw e refl)

after_name : (blanks rest : List ℕ) → IsRun is_blank 1 512 blanks → prefix_len is_name_byte (blanks ++ rest) ≡ 0
after_name [] rest h = absurd (omega (arith, h.enough))
after_name (x ∷ xs) rest h = rw (and_parts (is_blank x) (list_all is_blank xs) h.all).0 refl

before_id : (id : Identifier) (text rest : List ℕ) → SpellsIdentifier id text → prefix_len is_blank (text ++ rest) ≡ 0
before_id (Base id) [] rest h = absurd (omega (arith, h.0))
before_id (Base id) (x ∷ xs) rest h =
    by_test (is_blank x) (λ e. let no : None ≡ Some id = rw (blank_digit x e) at h.1 in cc) (λ e. rw e refl)
before_id Extended [] rest h = absurd (omega (arith, h.enough))
before_id Extended (x ∷ xs) rest h =
    let digit = (and_parts (is_hex_digit x) (list_all is_hex_digit xs) h.all).0 in
    by_test (is_blank x) (λ e. let no : false ≡ true = rw (blank_digit x e) at digit in cc) (λ e. rw e refl)

-- ---- what is spelled is read

pub frame_line_is : (said : TraceLine) (line : List ℕ) → SpellsFrameLine said line → frame_line_in line ≡ Some said
unfolding frame_line_in frame_at
frame_line_is said line h =
    let tail = h.id_text ++ 35 ∷ h.body_text in
    let third = h.second_blanks ++ tail in
    let second = h.interface ++ third in
    let first = h.first_blanks ++ second in
    let stamp = stamp_is h.ms h.stamp first h.stamp_spelled in
    let name = past_run-is is_blank 1 512 h.first_blanks second h.first_run (after_blanks h.interface third h.interface_run) in
    let gap = past_run-is is_name_byte 1 15 h.interface third h.interface_run (after_name h.second_blanks tail h.second_run) in
    let frame = past_run-is is_blank 1 512 h.second_blanks tail h.second_run (before_id h.id h.id_text (35 ∷ h.body_text) h.id_spelled) in
    let id = identifier_is h.id h.id_text h.body_text h.id_spelled in
    let body = body_is h.body h.body_text h.body_spelled in
    ap frame_line_in h.joined ∙ rw (stamp, name, gap, frame, id, body, h.means) refl

not_empty : (byte : ℕ) (rest : List ℕ) → eqb (suc (length rest)) 0 ≡ false
not_empty byte rest = grind (arith, nat_tests)

skipped_is : (line : List ℕ) → IsSkipped line → is_skipped line ≡ true
skipped_is line (inl e) = rw e refl
skipped_is line (inr (rest, e)) = rw (e, not_empty 59 rest) refl

not_skipped : (said : TraceLine) (line : List ℕ) → SpellsFrameLine said line → is_skipped line ≡ false
not_skipped said line h =
    let more = (h.stamp_spelled.seconds ++ 46 ∷ (h.stamp_spelled.micros ++ 41 ∷ [])) ++ (h.first_blanks ++ (h.interface ++ (h.second_blanks ++ (h.id_text ++ 35 ∷ h.body_text)))) in
    let whole : line ≡ 40 ∷ more = rw (h.joined, h.stamp_spelled.joined) refl in
    rw (whole, not_empty 40 more) refl

not_event : (said : TraceLine) (line : List ℕ) → SpellsFrameLine said line → begins_as_event line ≡ false
not_event said line h =
    let more = (h.stamp_spelled.seconds ++ 46 ∷ (h.stamp_spelled.micros ++ 41 ∷ [])) ++ (h.first_blanks ++ (h.interface ++ (h.second_blanks ++ (h.id_text ++ 35 ∷ h.body_text)))) in
    let whole : line ≡ 40 ∷ more = rw (h.joined, h.stamp_spelled.joined) refl in
    rw whole refl

-- ---- the name of an event begins with `!`

of_one : (name word : List ℕ) (event : EventLine) → event_of_one name word ≡ Some event → eqb (get_or name 0 0) 33 ≡ true
unfolding event_of_one
of_one [] word event h = cc
of_one (byte ∷ rest) word event h = by_test (eqb byte 33) (λ same. same) (λ other. let no : None ≡ Some event = rw other at h in cc)

of_two : (name first second : List ℕ) (event : EventLine) → event_of_two name first second ≡ Some event → eqb (get_or name 0 0) 33 ≡ true
unfolding event_of_two
of_two [] first second event h = cc
of_two (byte ∷ rest) first second event h = by_test (eqb byte 33) (λ same. same) (λ other. let no : None ≡ Some event = rw other at h in cc)

of_three : (name first second third : List ℕ) (event : EventLine) → event_of_three name first second third ≡ Some event → eqb (get_or name 0 0) 33 ≡ true
unfolding event_of_three
of_three [] first second third event h = cc
of_three (byte ∷ rest) first second third event h = by_test (eqb byte 33) (λ same. same) (λ other. let no : None ≡ Some event = rw other at h in cc)

of_words : (name : List ℕ) (rest : List (List ℕ)) (event : EventLine) → event_in (name ∷ rest) ≡ Some event → eqb (get_or name 0 0) 33 ≡ true
of_words name [] event h = cc
of_words name (a ∷ []) event h = of_one name a event h
of_words name (a ∷ b ∷ []) event h = of_two name a b event h
of_words name (a ∷ b ∷ c ∷ []) event h = of_three name a b c event h
of_words name (a ∷ b ∷ c ∷ d ∷ more) event h = cc

of_longer : (byte : ℕ) (parts : List (List ℕ)) (event : EventLine) → event_in (onto_first byte parts) ≡ Some event → eqb byte 33 ≡ true
of_longer byte [] event h = cc
of_longer byte (part ∷ parts) event h = of_words (byte ∷ part) parts event h

event_begins : (line : List ℕ) (event : EventLine) → event_in (words line) ≡ Some event → begins_as_event line ≡ true
event_begins [] event h = cc
event_begins (byte ∷ text) event h = by_test (eqb byte 32)
    (λ space. let no : false ≡ true = of_words [] (words text) event (rw space at h) in cc)
    (λ other. of_longer byte (words text) event (rw other at h))

event_not_skipped : (line : List ℕ) → begins_as_event line ≡ true → is_skipped line ≡ false
event_not_skipped [] h = cc
event_not_skipped (byte ∷ text) h = rw (eqb-true byte 33 h, not_empty 33 text) refl

-- ---- a whole line

pub line_is : (said : TraceLine) (line : List ℕ) → SpellsLine said line → line_in line ≡ Some said
unfolding line_in
line_is said line (few, inl (e, skipped)) =
    let small : ltb 512 (length line) ≡ false = grind (arith, nat_tests) in
    rw (small, skipped_is line skipped, e) refl
line_is said line (few, inr (inl frame)) =
    let small : ltb 512 (length line) ≡ false = grind (arith, nat_tests) in
    rw (small, not_skipped said line frame, not_event said line frame) (frame_line_is said line frame)
line_is said line (few, inr (inr (event, spelled, e))) =
    let read = event_is event line spelled in
    let small : ltb 512 (length line) ≡ false = grind (arith, nat_tests) in
    let begins = event_begins line event read in
    rw (small, event_not_skipped line begins, begins, read, e) refl

-- ---- what is read is spelled

frame_line_spelled : (line : List ℕ) (said : TraceLine) → length line ≤ 512 → frame_line_in line ≡ Some said → SpellsFrameLine said line
unfolding frame_line_in frame_at
frame_line_spelled line said few e =
    option_and_then_some _ (stamp_at line) said e (λ stamp e0 f0.
    option_and_then_some _ (past_run is_blank 1 512 stamp.1) said f0 (λ name e1 f1.
    option_and_then_some _ (past_run is_name_byte 1 15 name) said f1 (λ gap e2 f2.
    option_and_then_some _ (past_run is_blank 1 512 gap) said f2 (λ frame e3 f3.
    option_and_then_some _ (identifier_at frame) said f3 (λ id e4 f4.
    option_and_then_some _ (body_in id.1) said f4 (λ body e5 f5.
    let s = stamp_spelled line stamp e0 in
    let first = run_passed is_blank 1 512 stamp.1 name e1 in
    let interface = run_passed is_name_byte 1 15 name gap e2 in
    let second = run_passed is_blank 1 512 gap frame e3 in
    let i = identifier_spelled frame id e4 in
    let whole : line ≡ s.0 ++ (first.0 ++ (interface.0 ++ (second.0 ++ (i.0 ++ 35 ∷ id.1)))) = rw (← i.2, ← second.2, ← interface.2, ← first.2) s.2 in
    let size : length line ≡ length s.0 + (length first.0 + (length interface.0 + (length second.0 + (length i.0 + length (35 ∷ id.1))))) = ap length whole ∙ simp length-append in
    let means : line_of stamp.0 id.0 body ≡ said = cc in
    record {
      ms = stamp.0;
      id = id.0;
      body = body;
      stamp = s.0;
      first_blanks = first.0;
      interface = interface.0;
      second_blanks = second.0;
      id_text = i.0;
      body_text = id.1;
      stamp_spelled = s.1;
      first_run = first.1;
      interface_run = interface.1;
      second_run = second.1;
      id_spelled = i.1;
      body_spelled = body_spelled id.1 body (omega arith) e5;
      joined = whole;
      means = sym means;
    }))))))

skipped_spelled : (line : List ℕ) → is_skipped line ≡ true → IsSkipped line
skipped_spelled [] e = inl refl
skipped_spelled (x ∷ xs) e =
    let some : eqb (length (x ∷ xs)) 0 ≡ false = grind (arith, nat_tests) in
    inr (xs, ap (λ (b : ℕ). b ∷ xs) (eqb-true x 59 (rw some at e)))

line_of_event : (line : List ℕ) (found : Option EventLine) (said : TraceLine) → event_in (words line) ≡ found → option_map Event found ≡ Some said → IsEventLine said line
line_of_event line None said read e = cc
line_of_event line (Some event) said read e = (event, event_spelled event line read, let same : Event event ≡ said = cc in sym same)

pub line_spelled : (line : List ℕ) → IfSome (line_in line) (λ said. SpellsLine said line)
unfolding line_in
line_spelled line = by_test (ltb 512 (length line))
    (λ long. rw long tt)
    (λ short.
    let few : length line ≤ 512 = grind (arith, nat_tests, short) in
    by_test (is_skipped line)
    (λ skipped. rw (short, skipped) (few, inl (refl, skipped_spelled line skipped)))
    (λ not_one. by_test (begins_as_event line)
    (λ event. rw (short, not_one, event) (if_some (option_map Event (event_in (words line))) (λ said e. (few, inr (inr (line_of_event line (event_in (words line)) said refl e))))))
    (λ other. rw (short, not_one, other) (if_some (frame_line_in line) (λ said e. (few, inr (inl (frame_line_spelled line said few e))))))))
