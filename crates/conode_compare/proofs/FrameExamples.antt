-- Which lines of a text are frames that are compared, which are bad, and what a bad one leaves known.
use Rattle.std.proofs.Common.{◌≡◌, ℕ, true, List, [], ◌∷◌, ◌++◌, map, None, Some, refl}
use Rattle.std.specs.Prelude.{codes, replicate}
use Rattle.conode_convert.specs.Converted.{at_start}
use Rattle.conode_explain.specs.LogLines.{line_at}
use Rattle.conode_logs.proofs.OnLines.{logs_on_lines}
use Rattle.conode_logs.specs.declared.log.Form.TheVariants.{Unknown}
use Rattle.conode_record.specs.declared.line.Record.{Record}
use Rattle.conode_compare_nmt.specs.declared.limits.Limits.{Limits}
use Rattle.conode_compare_nmt.specs.declared.limits.Subject.{Subject}
use Rattle.conode_compare_rules.specs.declared.progress.Progress.{Progress}
use Rattle.conode_compare_rules.specs.Gaps.{before_recording, begins_anew, with_bad_line}
use Rattle.conode_compare.specs.BadLines.{has_no_frame, interface_in}
use Rattle.conode_compare.specs.ComparedFrames.{AreAllOn, BadLine, FrameIn, IsWhole, LineRead, compared_frames, read_of_line, read_of_lines, read_of_text, records_of}

-- a comment, a bad line, frames of two interfaces, and a last line without its line feed
abbrev text : List ℕ
text = codes "; node 5\n(1.000000) can0 705#00\nnothing\n(2.000000) can1 705#7F\n(3.000000) can0 705#7F\n(4.000000) can0 705#05"

-- 0 for a bad line
abbrev number : LineRead → ℕ
number (FrameIn n frame) = n
number (BadLine name) = 0

abbrev numbers : List LineRead → List ℕ
numbers lines = map number lines

all_frames : numbers (read_of_text Unknown text) ≡ 2 ∷ 0 ∷ 4 ∷ 5 ∷ []
unfolding logs_on_lines line_at read_of_lines has_no_frame interface_in
all_frames = refl

first_interface : numbers (compared_frames None Unknown text) ≡ 2 ∷ 0 ∷ 5 ∷ []
unfolding logs_on_lines line_at read_of_lines has_no_frame interface_in
first_interface = refl

named_interface : numbers (compared_frames (Some (codes "can1")) Unknown text) ≡ 0 ∷ 4 ∷ []
unfolding logs_on_lines line_at read_of_lines has_no_frame interface_in
named_interface = refl

with_last_line : map (λ frame. frame.micros) (records_of (compared_frames None Unknown (text ++ codes "\n"))) ≡ 1000000 ∷ 3000000 ∷ 4000000 ∷ []
unfolding logs_on_lines line_at read_of_lines has_no_frame interface_in
with_last_line = refl

too_long : read_of_line 1 (at_start Unknown) (codes "(1.000000) can0 705#00" ++ replicate 491 32) ≡ BadLine None ∷ []
too_long = refl

one_interface : AreAllOn (codes "can0") (compared_frames None Unknown text)
unfolding logs_on_lines line_at read_of_lines has_no_frame interface_in
one_interface = (refl, (tt, (refl, tt)))

-- ---- after a bad line the recording begins anew, whatever is known, and however soon a frame comes

bad_line : (limits : Limits) (progress : Progress) (micros : ℕ) → begins_anew limits (with_bad_line progress) micros ≡ true
bad_line limits progress micros = refl

-- before the first frame nothing is known anyway
bad_first : (subject : Subject) → with_bad_line (before_recording subject) ≡ before_recording subject
bad_first subject = refl

-- bad lines before the first frame and after the last one; and between two
whole : (frame : Record) → IsWhole (BadLine None ∷ FrameIn 2 frame ∷ FrameIn 3 frame ∷ BadLine None ∷ BadLine None ∷ [])
whole frame = (tt, tt)

broken : (frame : Record) → IsWhole (FrameIn 1 frame ∷ BadLine None ∷ FrameIn 3 frame ∷ []) → ⊥
broken frame h = h.0
