-- What reading a line finds, its grammar spells, and what the grammar spells by a line, reading finds.
use Rattle.std.proofs.Common.{◌≡◌, ℕ, suc, true, false, inl, inr, List, [], ◌∷◌, ◌++◌, length, Result, Ok, Err, IfOk, eqb, refl, ap, subst, ◌∙◌, arith}
use Rattle.std.proofs.lemmas.Bool.{eqb-true}
use Rattle.std.proofs.lemmas.Bool.Decides.{nat_tests}
use Rattle.conode_record.specs.declared.bad_line.BadLine.{BadLine}
use Rattle.conode_record.specs.declared.bad_line.BadLine.TheVariants as bad
use Rattle.conode_record.specs.declared.fields.Identifier.{Identifier}
use Rattle.conode_record.specs.declared.fields.Identifier.TheVariants.{Base, Extended, Error}
use Rattle.conode_record.specs.declared.line.Record.{Record}
use Rattle.conode_record.specs.declared.line.RecordLine.{RecordLine}
use Rattle.conode_record.specs.declared.line.RecordLine.TheVariants.{Skipped, Frame}
use Rattle.co_text.proofs.Tests.{by_test}
use Rattle.conode_record.specs.Contents.{content_in}
use Rattle.conode_record.specs.Fields.{stamp_at, interface_at, identifier_at}
use Rattle.conode_record.specs.Grammar.{SpellsIdentifier, SpellsFrame, IsSkipped, SpellsLine, IsIdentifier, HasIdentifier}
use Rattle.conode_record.specs.Lines.{frame_in, is_skipped, line_in}
use Rattle.conode_record.proofs.SpelledFields.{stamp_is, stamp_spelled, interface_is, interface_spelled, identifier_is, identifier_spelled, before_id}
use Rattle.conode_record.proofs.SpelledContents.{needed, and_then_ok, content_is, content_spelled}

-- ---- what is spelled is read

frame_is : (frame : Record) (line : List ℕ) → SpellsFrame frame line → frame_in line ≡ Ok (Frame frame)
unfolding frame_in
frame_is frame line h =
    let tail = h.id_text ++ 35 ∷ h.content_text in
    let first = h.first_blanks ++ (frame.interface ++ (h.second_blanks ++ tail)) in
    let stamp = stamp_is frame.micros h.stamp first h.stamp_spelled in
    let interface = interface_is h.first_blanks frame.interface h.second_blanks tail h.first_are h.interface_run h.second_are (before_id frame.id h.id_text (35 ∷ h.content_text) h.id_spelled) in
    let id = identifier_is frame.id h.id_text h.content_text h.id_spelled in
    let content = content_is frame.content frame.direction h.content_text h.content_spelled in
    ap frame_in h.joined ∙ rw (stamp, interface, id, content) refl

not_empty : (byte : ℕ) (rest : List ℕ) → eqb (suc (length rest)) 0 ≡ false
not_empty byte rest = grind (arith, nat_tests)

skipped_is : (line : List ℕ) → IsSkipped line → is_skipped line ≡ true
skipped_is line (inl e) = rw e refl
skipped_is line (inr (first, rest, inl comment, e)) = rw (e, comment, not_empty 59 rest) refl
skipped_is line (inr (first, rest, inr event, e)) = rw (e, event, not_empty 33 rest) refl

not_skipped : (frame : Record) (line : List ℕ) → SpellsFrame frame line → is_skipped line ≡ false
not_skipped frame line h =
    let more = (h.stamp_spelled.seconds ++ 46 ∷ (h.stamp_spelled.fraction ++ 41 ∷ [])) ++ (h.first_blanks ++ (frame.interface ++ (h.second_blanks ++ (h.id_text ++ 35 ∷ h.content_text)))) in
    let whole : line ≡ 40 ∷ more = rw (h.joined, h.stamp_spelled.joined) refl in
    rw (whole, not_empty 40 more) refl

pub line_is : (says : RecordLine) (line : List ℕ) → SpellsLine says line → line_in line ≡ Ok says
unfolding line_in
line_is Skipped line h = rw (skipped_is line h) refl
line_is (Frame frame) line h = rw (not_skipped frame line h) (frame_is frame line h)

-- ---- what is read is spelled

skipped_spelled : (line : List ℕ) → is_skipped line ≡ true → IsSkipped line
skipped_spelled [] e = inl refl
skipped_spelled (x ∷ xs) e = by_test (eqb x 59)
    (λ comment. inr (x, xs, inl (eqb-true x 59 comment), refl))
    (λ other. let event : eqb x 33 ≡ true = rw (not_empty x xs, other) at e in inr (x, xs, inr (eqb-true x 33 event), refl))

frame_spelled : (line : List ℕ) (says : RecordLine) → frame_in line ≡ Ok says → SpellsLine says line
unfolding frame_in
frame_spelled line says e =
    needed bad.Stamp _ (stamp_at line) says e (λ stamp e0 f0.
    needed bad.Interface _ (interface_at stamp.1) says f0 (λ interface e1 f1.
    needed bad.Identifier _ (identifier_at interface.1) says f1 (λ id e2 f2.
    and_then_ok _ (content_in id.1) says f2 (λ content e3 f3.
    let s = stamp_spelled line stamp e0 in
    let (first, second, first_are, named, second_are, between) = interface_spelled stamp.1 interface e1 in
    let i = identifier_spelled interface.1 id e2 in
    let frame : Record = record { micros = stamp.0; interface = interface.0; id = id.0; content = content.0; direction = content.1 } in
    let means : Frame frame ≡ says = cc in
    let whole : line ≡ s.0 ++ (first ++ (interface.0 ++ (second ++ (i.0 ++ 35 ∷ id.1)))) = rw (← i.2, ← between) s.2 in
    let spelled : SpellsLine (Frame frame) line = record {
      stamp = s.0;
      first_blanks = first;
      second_blanks = second;
      id_text = i.0;
      content_text = id.1;
      stamp_spelled = s.1;
      first_are = first_are;
      interface_run = named;
      second_are = second_are;
      id_spelled = i.1;
      content_spelled = content_spelled id.1 content e3;
      joined = whole;
    } in
    subst (λ (r : RecordLine). SpellsLine r line) means spelled))))

if_ok : {A : Type 0} {P : A → Type 0} (r : Result A BadLine) → ((x : A) → r ≡ Ok x → P x) → IfOk r P
if_ok (Err e) each = tt
if_ok (Ok x) each = each x refl

pub line_spelled : (line : List ℕ) → IfOk (line_in line) (λ says. SpellsLine says line)
unfolding line_in
line_spelled line = by_test (is_skipped line)
    (λ skipped. rw skipped (skipped_spelled line skipped))
    (λ other. rw other (if_ok (frame_in line) (λ says e. frame_spelled line says e)))

-- ---- identifiers

spelled_identifier : (id : Identifier) (text : List ℕ) → SpellsIdentifier id text → IsIdentifier id
spelled_identifier (Base id) text h = h.2
spelled_identifier (Extended id) text h = h.2
spelled_identifier (Error class) text h = h.2

has_identifier : (says : RecordLine) (line : List ℕ) → SpellsLine says line → HasIdentifier says
has_identifier Skipped line h = tt
has_identifier (Frame frame) line h = spelled_identifier frame.id h.id_text h.id_spelled

pub line_identifier : (line : List ℕ) → IfOk (line_in line) (λ says. HasIdentifier says)
line_identifier line = with (line_in line) (line_spelled line) where
  with : (r : Result RecordLine BadLine) → IfOk r (λ says. SpellsLine says line) → IfOk r (λ says. HasIdentifier says)
  with (Err e) h = tt
  with (Ok says) h = has_identifier says line h
