-- The tokens of a line in the order in which they are written.
use Rattle.std.specs.Prelude.{true, Option, Some}
use Rattle.std.proofs.Common.{◌≡◌, ℕ, List, [], ◌∷◌, ◌++◌, refl, sym, ap, ◌∙◌, append_assoc}
use Rattle.std.specs.List.{flat_map}
use Rattle.json.specs.Token.{Token, begin_object, end_object}
use Rattle.json.specs.Print.{print}
use Rattle.conode_record.specs.declared.line.Record.{Record}
use Rattle.conode_explain_transfers.specs.declared.ended.Ended.{Ended}
use Rattle.conode_explain_filter.specs.declared.kind.Kind.{Kind}
use Rattle.conode_explain_filter.specs.declared.kind.Kind.TheVariants.{Sdo}
use Rattle.conode_explain_text.specs.declared.so_far.Times.{Times}
use Rattle.conode_explain_text.specs.declared.stamps.StampForm.{StampForm}
use Rattle.conode_explain_text.specs.Lines.{Part, content, gap, identifier, interface, line_parts, notes, own_parts, said, stamp}
use Rattle.conode_explain_text.specs.SoFar.{SoFar, times_at}
use Rattle.conode_explain_forms.specs.EndLines.{end_json_line, end_tokens, result_members, subject_members}
use Rattle.conode_explain_forms.specs.JsonLines.{front_tokens, json_line, kind_members, line_tokens, of_several, part_tokens}

regrouped : (b s g m i c w n k e : List Token) → b ++ ((s ++ (g ++ (m ++ (i ++ (c ++ (w ++ n)))))) ++ k ++ e) ≡ b ++ (s ++ g ++ m ++ i ++ c) ++ w ++ n ++ k ++ e
regrouped b s g m i c w n k e = simp append_assoc refl

regrouped_end : (b s m w k u r e : List Token) → b ++ ((s ++ (m ++ (w ++ []))) ++ k ++ u ++ r ++ e) ≡ b ++ s ++ m ++ w ++ k ++ u ++ r ++ e
regrouped_end b s m w k u r e = simp append_assoc refl

pub line_written : (kind : Kind) (node : Option ℕ) (form : StampForm) (so_far : SoFar) (frame : Record) (words : List ℕ)
    → line_tokens kind node (line_parts form (of_several so_far) frame words)
    ≡ begin_object ∷ [] ++ front_tokens form (times_at so_far frame.micros) frame ++ part_tokens (said words)
    ++ flat_map part_tokens (notes (times_at so_far frame.micros)) ++ kind_members kind node ++ end_object ∷ []
unfolding line_tokens line_parts front_tokens
line_written kind node form so_far frame words =
    regrouped (begin_object ∷ []) (part_tokens (stamp form (times_at so_far frame.micros))) (part_tokens (gap (times_at so_far frame.micros)))
    (part_tokens (interface frame.interface)) (part_tokens (identifier frame.id))
    (part_tokens (content frame.content)) (part_tokens (said words)) (flat_map part_tokens (notes (times_at so_far frame.micros)))
    (kind_members kind node) (end_object ∷ [])

pub end_written : (node : ℕ) (e : Ended) (form : StampForm) (times : Times) (name words : List ℕ)
    → end_tokens node e (own_parts form times true name words)
    ≡ begin_object ∷ [] ++ part_tokens (stamp form times) ++ part_tokens (interface name) ++ part_tokens (said words)
    ++ kind_members Sdo (Some node) ++ subject_members e ++ result_members e ++ end_object ∷ []
unfolding end_tokens own_parts
end_written node e form times name words =
    regrouped_end (begin_object ∷ []) (part_tokens (stamp form times)) (part_tokens (interface name)) (part_tokens (said words)) (kind_members Sdo (Some node))
    (subject_members e) (result_members e) (end_object ∷ [])

-- the text of what was written
pub line_text_of : (kind : Kind) (of : Option ℕ) (parts : List Part) (written tokens : List Token) (line : List ℕ)
    → line_tokens kind of parts ≡ tokens → written ≡ tokens → line ≡ print written ++ 10 ∷ [] → line ≡ json_line kind of parts
unfolding json_line
line_text_of kind of parts written tokens line same is e =
    e ∙ ap (λ (ts : List Token). print ts ++ 10 ∷ []) is ∙ ap (λ (ts : List Token). print ts ++ 10 ∷ []) (sym same)

pub end_text_of : (node : ℕ) (e : Ended) (parts : List Part) (written tokens : List Token) (line : List ℕ)
    → end_tokens node e parts ≡ tokens → written ≡ tokens → line ≡ print written ++ 10 ∷ [] → line ≡ end_json_line node e parts
unfolding end_json_line
end_text_of node of parts written tokens line same is e =
    e ∙ ap (λ (ts : List Token). print ts ++ 10 ∷ []) is ∙ ap (λ (ts : List Token). print ts ++ 10 ∷ []) (sym same)
