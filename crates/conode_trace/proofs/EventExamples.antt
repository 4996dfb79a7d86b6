-- Event lines, evaluated: each one good and bad, and both sides of each edge.
use Rattle.std.proofs.Common.{◌≡◌, ℕ, List, [], ◌∷◌, ◌++◌, Option, Some, None, refl}
use Rattle.std.specs.Prelude.{codes, map, replicate}
use Rattle.conode_trace.specs.declared.trace_line.TraceLine.TheVariants.{Event}
use Rattle.conode_trace.specs.declared.event_line.EventLine.{EventLine}
use Rattle.conode_trace.specs.declared.event_line.EventLine.TheVariants.{Ticks, App}
use Rattle.co_frame.specs.declared.app_event.AppEvent.TheVariants as app
use Rattle.co_text.specs.HexPairs.{pairs_in, hex_in}
use Rattle.co_value.specs.KeyTexts.{key_in}
use Rattle.conode_trace.specs.Events.{words, event_of_one, event_of_two, event_of_three, event_in}
use Rattle.conode_trace.specs.FrameLines.{line_in, frame_line_in, stamp_at}

-- the events that lines are
abbrev events : List (List ℕ) → List (Option EventLine)
events lines = map (λ line. event_in (words line)) lines

ticks : events (codes "!tick 1" ∷ codes "!tick 86400000" ∷ codes "!tick 007" ∷ codes "!tick 0086400000" ∷ [])
    ≡ Some (Ticks 1) ∷ Some (Ticks 86400000) ∷ Some (Ticks 7) ∷ Some (Ticks 86400000) ∷ []
unfolding event_of_one
ticks = refl

-- out of range, a sign, another base, no digits, other letters
no_ticks : events (codes "!tick 0" ∷ codes "!tick 86400001" ∷ codes "!tick +5" ∷ codes "!tick -5" ∷ codes "!tick 0x5" ∷ codes "!tick 5a" ∷ codes "!tick " ∷ codes "!tick" ∷ codes "!TICK 5" ∷ codes "!ticks 5" ∷ codes "tick 5" ∷ [])
    ≡ replicate 11 None
unfolding event_of_one
no_ticks = refl

-- single spaces part the words: none at an end, no two in a row, no tab, no word more
spaces : events (codes " !tick 5" ∷ codes "!tick 5 " ∷ codes "!tick  5" ∷ (codes "!tick" ++ 9 ∷ codes "5") ∷ codes "! tick 5" ∷ codes "!tick 5 5" ∷ codes "!write 2002:00 00 " ∷ codes "!raise 1000 01 0000000000 " ∷ [])
    ≡ replicate 8 None
unfolding event_of_one event_of_two event_of_three
spaces = refl

-- digits in either case, and no bytes
writes : events (codes "!write 2002:00 EFbeADde" ∷ codes "!write AbCd:fF 00" ∷ codes "!write 2001:00 -" ∷ [])
    ≡ Some (App (app.Write (record { index = 0x2002; sub = 0 }) (0xEF ∷ 0xBE ∷ 0xAD ∷ 0xDE ∷ [])))
    ∷ Some (App (app.Write (record { index = 0xABCD; sub = 0xFF }) (0 ∷ [])))
    ∷ Some (App (app.Write (record { index = 0x2001; sub = 0 }) [])) ∷ []
unfolding event_of_two hex_in pairs_in key_in
writes = refl

-- half a byte, no HEX, another digit, bytes apart; a KEY that is too short, too long, or without its colon
no_writes : events (codes "!write 2002:00 EFB" ∷ codes "!write 2002:00 " ∷ codes "!write 2002:00" ∷ codes "!write 2002:00 0g" ∷ codes "!write 2002:00 --" ∷ codes "!write 2002:00 -00" ∷ codes "!write 2002:00 00 11" ∷ codes "!write 202:00 00" ∷ codes "!write 2002:0 00" ∷ codes "!write 02002:00 00" ∷ codes "!write 2002.00 00" ∷ codes "!write 200200 00" ∷ codes "!write 200g:00 00" ∷ codes "!Write 2002:00 00" ∷ [])
    ≡ replicate 14 None
unfolding event_of_one event_of_two event_of_three hex_in pairs_in key_in
no_writes = refl

tpdo_events : events (codes "!event 0" ∷ codes "!event 65535" ∷ codes "!event 000511" ∷ [])
    ≡ Some (App (app.Event 0)) ∷ Some (App (app.Event 65535)) ∷ Some (App (app.Event 511)) ∷ []
unfolding event_of_one
tpdo_events = refl

no_tpdo_events : events (codes "!event 65536" ∷ codes "!event -1" ∷ codes "!event FF" ∷ codes "!event" ∷ codes "!event 1 2" ∷ [])
    ≡ replicate 5 None
unfolding event_of_one event_of_two
no_tpdo_events = refl

changes : events (codes "!changed 1018:01" ∷ codes "!changed 1018:1" ∷ codes "!changed 101801" ∷ codes "!changed 1018:01 -" ∷ [])
    ≡ Some (App (app.Changed (record { index = 0x1018; sub = 1 }))) ∷ None ∷ None ∷ None ∷ []
unfolding event_of_one event_of_two key_in
changes = refl

raises : events (codes "!raise 8130 11 0102030405" ∷ codes "!raise 00ff Ff FFffFFffFF" ∷ [])
    ≡ Some (App (app.Raise 0x8130 0x11 (1 ∷ 2 ∷ 3 ∷ 4 ∷ 5 ∷ [])))
    ∷ Some (App (app.Raise 0xFF 0xFF (255 ∷ 255 ∷ 255 ∷ 255 ∷ 255 ∷ []))) ∷ []
unfolding event_of_three pairs_in
raises = refl

-- a part with a digit less or more, an absent part, and `-` for none
no_raises : events (codes "!raise 813 11 0102030405" ∷ codes "!raise 08130 11 0102030405" ∷ codes "!raise 8130 1 0102030405" ∷ codes "!raise 8130 011 0102030405" ∷ codes "!raise 8130 11 01020304" ∷ codes "!raise 8130 11 010203040506" ∷ codes "!raise 8130 11 010203040" ∷ codes "!raise 8130 11" ∷ codes "!raise 8130 11 -" ∷ [])
    ≡ replicate 9 None
unfolding event_of_two event_of_three pairs_in
no_raises = refl

clears : events (codes "!clear 1f" ∷ codes "!clear 1" ∷ codes "!clear 01F" ∷ codes "!clear" ∷ codes "!clear 0x1f" ∷ [])
    ≡ Some (App (app.Clear 0x1F)) ∷ None ∷ None ∷ None ∷ None ∷ []
unfolding event_of_one
clears = refl

other_words : events ([] ∷ codes "!" ∷ codes "!reset 05" ∷ codes "!tick !tick" ∷ [])
    ≡ replicate 4 None
unfolding event_of_one
other_words = refl

-- ---- as lines of a trace

event_lines : map line_in (codes "!tick 5" ∷ codes "!tick 5 " ∷ (codes "!tick 5" ++ 13 ∷ []) ∷ codes " !tick 5" ∷ codes "!" ∷ [])
    ≡ Some (Event (Ticks 5)) ∷ None ∷ None ∷ None ∷ None ∷ []
unfolding line_in frame_line_in stamp_at event_of_one event_of_two
event_lines = refl

-- zeros may lead, up to the 512 bytes of a line
longest_line : line_in (codes "!tick " ++ replicate 505 48 ++ codes "9") ≡ Some (Event (Ticks 9))
unfolding line_in event_of_one
longest_line = refl

too_long_line : line_in (codes "!tick " ++ replicate 506 48 ++ codes "9") ≡ None
unfolding line_in
too_long_line = refl
