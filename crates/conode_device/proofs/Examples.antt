-- What is printed of a small device, computed from the definitions.
use Rattle.std.proofs.Common.{◌≡◌, ℕ, List, [], ◌∷◌, ◌++◌, refl}
use Rattle.std.specs.Prelude.{codes}
use Rattle.std.specs.Fmt.{digits}
use Rattle.co_text.specs.Printed.{digits_text}
use Rattle.co_frame.specs.declared.app_event.AppEvent.TheVariants as line
use Rattle.conode_trace.specs.FrameLines.{line_in, stamp_at, identifier_at, body_in, frame_at, frame_line_in}
use Rattle.conode_trace.specs.Printed.{frame_line, frame_text, seconds_text, stamp_text}
use Rattle.conode_trace.specs.Traces.{Input, frame as came, tick, app, TimedInput, timed, ticks_after, trace_from, trace_of}
use Rattle.co_node_model.specs.Device.{after_all}
use Rattle.co_node_model.proofs.ExampleNode.{device, device_with, frame, raise, start, stop, u16, searches}
use Rattle.co_profile.specs.declared.access.Access.TheVariants.{Rw}
use Rattle.conode_device.specs.Lines.{refused_line, replayed_lines, started_lines, totals_line, totals_of}

abbrev at : ℕ → ℕ → Input → TimedInput
at number ms input = record { line = number; ms = ms; input = input }

-- a line with its line feed
abbrev printed : List ℕ → List ℕ
printed text = text ++ 10 ∷ []

-- a heartbeat time of 2 ms is written at 1 s, and two ticks follow
abbrev heartbeat : List TimedInput
heartbeat = at 1 1000 (came (frame 0x605 8 0x2B17_1000_0200_0000)) ∷ at 2 1001 tick ∷ at 2 1002 tick ∷ []

-- the boot-up comes at clock 0, and each frame with the clock of its input
each_at_its_clock : started_lines device [] heartbeat
    ≡ printed (codes "(0000000000.000000) can0 705#00") ∷ printed (codes "(0000000001.000000) can0 585#6017100000000000")
    ∷ printed (codes "(0000000001.002000) can0 705#7F") ∷ []
unfolding searches frame_line stamp_text seconds_text frame_text digits_text
each_at_its_clock = refl

their_totals : totals_of device [] heartbeat ≡ record { handed = 1; printed = 3; ticks = 2 }
unfolding searches
their_totals = refl

totals_printed : totals_line (record { handed = 1; printed = 3; ticks = 1000 }) ≡ printed (codes "; in 1, out 3, ticks 1000")
unfolding totals_line digits
totals_printed = refl

-- a refused event is printed with the number of its line ..
refused : replayed_lines device [] (at 7 5 (app (line.Raise 0 1 (0 ∷ 0 ∷ 0 ∷ 0 ∷ 0 ∷ []))) ∷ [])
    ≡ printed (codes "; line 7 refused 06090030") ∷ []
unfolding searches refused_line digits digits_text
refused = refl

-- .. before the frames of its input, here an emergency that waited; an event that is done is not printed
refused_first : replayed_lines device (after_all [] (stop ∷ raise 0x1000 ∷ raise 0x1001 ∷ start ∷ [])) (at 7 5 (app (line.Event 9)) ∷ at 8 6 (app (line.Event 1)) ∷ [])
    ≡ printed (codes "; line 7 refused 06020000") ∷ printed (codes "(0000000000.005000) can0 085#0110010000000000")
    ∷ printed (codes "(0000000000.006000) can0 285#0000") ∷ []
unfolding searches refused_line digits frame_line stamp_text seconds_text frame_text digits_text
refused_first = refl

-- a frame that is older than the clock comes at the clock, without a tick
older : started_lines (device_with (u16 Rw 0x1017 0 1 ∷ [])) [] (trace_of (codes "(5.000000) can0 605#4001100000000000" ∷ codes "(4.999000) can0 605#4001100000000000" ∷ codes "(5.001000) can0 605##0" ∷ [])).inputs
    ≡ printed (codes "(0000000000.000000) can0 705#00") ∷ printed (codes "(0000000005.000000) can0 585#4F01100000000000")
    ∷ printed (codes "(0000000005.000000) can0 585#4F01100000000000") ∷ printed (codes "(0000000005.001000) can0 705#7F") ∷ []
unfolding searches frame_line stamp_text seconds_text frame_text digits_text trace_of trace_from timed ticks_after line_in frame_line_in stamp_at frame_at identifier_at body_in
older = refl
