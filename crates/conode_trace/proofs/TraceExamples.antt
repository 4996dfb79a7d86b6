-- Traces, evaluated: their inputs, the clock at each, and their first bad line.
use Rattle.std.proofs.Common.{◌≡◌, ℕ, [], ◌∷◌, ◌++◌, Some, None, refl, true, false}
use Rattle.std.specs.Prelude.{codes}
use Rattle.co_frame.specs.declared.app_event.AppEvent.TheVariants as app
use Rattle.conode_trace.specs.Clocks.{clock_at_start, move_to, move_by}
use Rattle.conode_trace.specs.Events.{event_of_one}
use Rattle.conode_trace.specs.FrameLines.{line_in, stamp_at, identifier_at, body_in, frame_at, frame_line_in}
use Rattle.std.specs.Str.Lines.{lines}
use Rattle.conode_trace.specs.Traces.{Input, frame, tick, app as application, TimedInput, timed, ticks_after, trace_from, trace_of}

abbrev at : ℕ → ℕ → Input → TimedInput
at line ms input = record { line = line; ms = ms; input = input }

-- ticks have clocks of their own; the first frame sets the clock, also backwards; a passed-over frame moves it
whole : trace_of (codes "!tick 2" ∷ codes "(0.001500) can0 000#" ∷ codes "(0.003000) can0 605##0" ∷ codes "; (0.900000)" ∷ codes "(0.004999) can0 7FF#0A" ∷ codes "!clear 01" ∷ [])
    ≡ record {
      inputs = at 1 1 tick ∷ at 1 2 tick ∷ at 2 1 (frame (record { id = 0; bytes = [] })) ∷ at 3 2 tick ∷ at 3 3 tick
          ∷ at 5 4 tick ∷ at 5 4 (frame (record { id = 0x7FF; bytes = 10 ∷ [] })) ∷ at 6 4 (application (app.Clear 1)) ∷ [];
      bad = None;
    }
unfolding trace_of trace_from timed ticks_after line_in frame_line_in stamp_at frame_at identifier_at body_in event_of_one
whole = refl

-- an older frame comes at the clock, without a tick, and the clock stays
older_frame : trace_of (codes "(5.000000) can0 001#" ∷ codes "(4.999999) can0 002#" ∷ codes "(5.001000) can0 003#" ∷ [])
    ≡ record {
      inputs = at 1 5000 (frame (record { id = 1; bytes = [] })) ∷ at 2 5000 (frame (record { id = 2; bytes = [] }))
          ∷ at 3 5001 tick ∷ at 3 5001 (frame (record { id = 3; bytes = [] })) ∷ [];
      bad = None;
    }
unfolding trace_of trace_from timed ticks_after line_in frame_line_in stamp_at frame_at identifier_at body_in
older_frame = refl

-- a passed-over frame may be the first that sets the clock; ticks move it on
passed_over_first : trace_of (codes "(1.000000) can0 00000605#" ∷ codes "!tick 1" ∷ codes "(1.002000) can0 605#R" ∷ codes "!event 3" ∷ [])
    ≡ record { inputs = at 2 1001 tick ∷ at 3 1002 tick ∷ at 4 1002 (application (app.Event 3)) ∷ []; bad = None }
unfolding trace_of trace_from timed ticks_after line_in frame_line_in stamp_at frame_at identifier_at body_in event_of_one
passed_over_first = refl

-- the first bad line ends it, whatever comes after it
bad_line : trace_of (codes "!event 1" ∷ [] ∷ codes "!event" ∷ codes "!event 2" ∷ codes "x" ∷ [])
    ≡ record { inputs = at 1 0 (application (app.Event 1)) ∷ []; bad = Some 3 }
unfolding trace_of trace_from timed ticks_after line_in event_of_one
bad_line = refl

no_lines : trace_of [] ≡ record { inputs = []; bad = None }
unfolding trace_of trace_from
no_lines = refl

-- ---- too far past the clock

too_far : trace_of (codes "(0.000000) can0 001#" ∷ codes "(86400.001000) can0 002#" ∷ [])
    ≡ record { inputs = at 1 0 (frame (record { id = 1; bytes = [] })) ∷ []; bad = Some 2 }
unfolding trace_of trace_from timed ticks_after line_in frame_line_in stamp_at frame_at identifier_at body_in
too_far = refl

-- also a frame that is passed over
too_far_passed_over : trace_of (codes "(0.000000) can0 001##" ∷ codes "(86400.001000) can0 002##" ∷ [])
    ≡ record { inputs = []; bad = Some 2 }
unfolding trace_of trace_from timed ticks_after line_in frame_line_in stamp_at frame_at identifier_at body_in
too_far_passed_over = refl

moves : move_to clock_at_start 999999999999999 ∷ move_to (record { ms = 1000; started = false }) 5
    ∷ move_to (record { ms = 1000; started = true }) 999 ∷ move_to (record { ms = 1000; started = true }) 86401000
    ∷ move_to (record { ms = 1000; started = true }) 86401001 ∷ []
    ≡ Some (0, record { ms = 999999999999999; started = true }) ∷ Some (0, record { ms = 5; started = true })
    ∷ Some (0, record { ms = 1000; started = true }) ∷ Some (86400000, record { ms = 86401000; started = true })
    ∷ None ∷ []
moves = refl

-- ticks alone don't start the clock
ticks_alone : move_by clock_at_start 86400000 ≡ (86400000, record { ms = 86400000; started = false })
ticks_alone = refl

-- ---- from the bytes of a text

-- CR LF and LF end lines; a byte order mark, and a CR at the end of a last line without LF, belong to their lines
returns : trace_of (lines (codes "!event 1" ++ 13 ∷ 10 ∷ codes "!event 2" ++ 13 ∷ []))
    ≡ record { inputs = at 1 0 (application (app.Event 1)) ∷ []; bad = Some 2 }
unfolding trace_of trace_from timed ticks_after line_in event_of_one
returns = refl

byte_order_mark : trace_of (lines (0xEF ∷ 0xBB ∷ 0xBF ∷ codes "!event 1" ++ 10 ∷ []))
    ≡ record { inputs = []; bad = Some 1 }
unfolding trace_of trace_from timed line_in frame_line_in stamp_at
byte_order_mark = refl
