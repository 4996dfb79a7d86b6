use Rattle.std.proofs.Common.{◌≡◌, ℕ, true, List, [], ◌∷◌, ◌++◌, Option, Err, length, map, ap, sym, subst, ◌∙◌, arith, eqb, eqb-true, append-nil}
use Rattle.std.proofs.lemmas.Result.{err_from_is_err_and}
use Rattle.co_frame.specs.FrameContent.{FrameContent}
use Rattle.conode_trace.specs.Printed.{frame_line}
use Rattle.conode_io.specs.declared.fault.CmdFault.{CmdFault}
use Rattle.conode_io.specs.Written.{WritesLines}
use Rattle.conode_device.specs.Lines.{refused_lines}
use Rattle.conode_device.proofs.Inputs.{by_after, by_more}
use Rattle.conode_device.proofs.lines.print_input.Goals as goal

pub returns-in_err-print_refusal : goal.returns-in_err-print_refusal
returns-in_err-print_refusal g c =
    let passed = err_from_is_err_and c.from_residual.result c.from_residual.ensures.1 in
    by_more (g.W.Write.contents c.args.writer.now) (g.W.Write.contents c.print_refusal.new.writer) (refused_lines c.args.number c.args.answer) (map (frame_line c.args.ms) c.args.frames.now)
    c.in_err-print_refusal.field-0.0 c.from_residual.result (passed.1 ∙ ap (λ (e : CmdFault). Err e) passed.2) c.in_err-print_refusal.ensures

-- no frame is printed
none_printed : (old new : Option (List ℕ)) (lines : List (List ℕ)) (ms : ℕ) (frames : List FrameContent) → true ≡ eqb (length frames) 0
    → WritesLines old new lines → WritesLines old new (lines ++ map (frame_line ms) frames)
none_printed old new lines ms [] none written = subst (WritesLines old new) (sym (append-nil lines)) written
none_printed old new lines ms (frame ∷ frames) none written = absurd (omega (arith, eqb-true (length (frame ∷ frames)) 0 (sym none)))

pub returns-then-is_empty : goal.returns-then-is_empty
returns-then-is_empty g c =
    none_printed (g.W.Write.contents c.args.writer.now) (g.W.Write.contents c.print_refusal.new.writer) (refused_lines c.args.number c.args.answer) c.args.ms c.args.frames.now c.if-is_empty.ensures c.in_ok-print_refusal.ensures

pub returns : goal.returns
returns g c =
    by_after (g.W.Write.contents c.args.writer.now) (g.W.Write.contents c.print_frames.new.writer) (g.W.Write.contents c.print_refusal.new.writer) (refused_lines c.args.number c.args.answer) (map (frame_line c.args.ms) c.args.frames.now)
    c.print_frames.result c.in_ok-print_refusal.ensures c.print_frames.ensures
