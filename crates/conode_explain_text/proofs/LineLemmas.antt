-- The text of a line in the order in which it is written.
use Rattle.std.specs.Prelude.{Bool}
use Rattle.std.proofs.Common.{◌≡◌, ℕ, List, [], ◌∷◌, ◌++◌, refl, ap, ◌∙◌, append_assoc}
use Rattle.std.specs.List.{flat_map}
use Rattle.std.proofs.lemmas.Grind.{flat_map-append}
use Rattle.conode_record.specs.declared.line.Record.{Record}
use Rattle.conode_explain_text.specs.declared.so_far.Times.{Times}
use Rattle.conode_explain_text.specs.declared.stamps.StampForm.{StampForm}
use Rattle.conode_explain_text.specs.Lines.{Part, after_blanks, content, front_text, gap, identifier, interface_parts, line_parts, line_text, notes, own_front, own_parts, part_text, said, stamp}
use Rattle.conode_explain_text.specs.SoFar.{SoFar, shows_interface, times_at}

-- the parts between the gap and what follows may be none
split : (first second : Part) (middle rest : List Part)
    → line_text (first ∷ second ∷ (middle ++ rest)) ≡ part_text first ++ after_blanks second ++ flat_map after_blanks middle ++ flat_map after_blanks rest ++ 10 ∷ []
unfolding line_text
split first second middle rest =
    ap (λ (others : List ℕ). part_text first ++ (after_blanks second ++ others) ++ 10 ∷ []) (flat_map-append after_blanks middle rest)
    ∙ simp append_assoc refl

regrouped : (s g m i c w n end : List ℕ) → s ++ g ++ m ++ (i ++ (c ++ (w ++ n))) ++ end ≡ (s ++ g ++ m ++ i ++ c) ++ w ++ n ++ end
regrouped s g m i c w n end = simp append_assoc refl

pub line_written : (form : StampForm) (so_far : SoFar) (frame : Record) (words : List ℕ)
    → line_text (line_parts form so_far frame words)
    ≡ front_text form (times_at so_far frame.micros) (shows_interface so_far frame.interface) frame ++ after_blanks (said words)
    ++ flat_map after_blanks (notes (times_at so_far frame.micros)) ++ 10 ∷ []
unfolding line_parts front_text
line_written form so_far frame words =
    split (stamp form (times_at so_far frame.micros)) (gap (times_at so_far frame.micros))
    (interface_parts (shows_interface so_far frame.interface) frame.interface)
    (identifier frame.id ∷ content frame.content ∷ said words ∷ notes (times_at so_far frame.micros))
    ∙ regrouped (part_text (stamp form (times_at so_far frame.micros))) (after_blanks (gap (times_at so_far frame.micros)))
    (flat_map after_blanks (interface_parts (shows_interface so_far frame.interface) frame.interface)) (after_blanks (identifier frame.id))
    (after_blanks (content frame.content)) (after_blanks (said words)) (flat_map after_blanks (notes (times_at so_far frame.micros))) (10 ∷ [])

own_split : (first last : Part) (middle : List Part)
    → line_text (first ∷ (middle ++ last ∷ [])) ≡ (part_text first ++ flat_map after_blanks middle) ++ after_blanks last ++ 10 ∷ []
unfolding line_text
own_split first last middle =
    ap (λ (others : List ℕ). part_text first ++ others ++ 10 ∷ []) (flat_map-append after_blanks middle (last ∷ []))
    ∙ simp append_assoc refl

pub own_written : (form : StampForm) (times : Times) (shows : Bool) (name words : List ℕ)
    → line_text (own_parts form times shows name words) ≡ own_front form times shows name ++ after_blanks (said words) ++ 10 ∷ []
unfolding own_parts own_front
own_written form times shows name words = own_split (stamp form times) (said words) (interface_parts shows name)
