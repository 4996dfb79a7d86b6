-- Inputs in parts: what a device takes, and the lines of it.
use Rattle.std.proofs.Common.{◌≡◌, ℕ, zero, suc, ◌+◌, ◌-◌, ◌<◌, ◌≤◌, List, [], ◌∷◌, ◌++◌, length, map, take, Option, Some, None, Result, Ok, Err, refl, ap, sym, subst, ◌∙◌, arith, le_antisymm, append_assoc, append-nil, length-append}
use Rattle.std.specs.Prelude.{sum_by, IfErr, OnOk}
use Rattle.std.specs.List.{flat_map}
use Rattle.std.specs.Io.KnownBytes.{Appends}
use Rattle.std.proofs.KnownBytes.{Appends-trans, Appends-nil}
use Rattle.std.proofs.Math.Nat.{add-zero, suc-add, zero-add}
use Rattle.std.specs.Option.{option_map_or}
use Rattle.std.proofs.lemmas.List.Sums.{sum_by-append}
use Rattle.std.proofs.lemmas.Grind.{flat_map-append}
use Rattle.co_frame.specs.FrameContent.{FrameContent}
use Rattle.conode_trace.specs.declared.timed_line.TimedLine.{TimedLine}
use Rattle.conode_trace.specs.declared.trace_line.TraceLine.{TraceLine}
use Rattle.conode_trace.specs.declared.trace_line.TraceLine.TheVariants.{Skipped, PassedOver, Data, Event}
use Rattle.conode_trace.specs.declared.event_line.EventLine.TheVariants.{Ticks, App}
use Rattle.conode_trace.specs.Traces.{Input, TimedInput, inputs_of, own_input, ticks_after, tick}
use Rattle.conode_trace.specs.Printed.{frame_line}
use Rattle.conode_io.specs.declared.fault.CmdFault.{CmdFault}
use Rattle.conode_io.specs.declared.fault.CmdFault.TheVariants.{Read, Write, BadLine, Memory, NeverEnds}
use Rattle.conode_io.specs.Written.{AppendsFront, WritesFront, WritesLines, WritesSome}
use Rattle.conode_io.proofs.WriteLemmas.{front_after_lines, front_alone, front_of_more, line_alone, lines_after, no_lines, some_after_lines, some_of_more}
use Rattle.co_node_model.specs.Inputs.{Inputs, Ticked}
use Rattle.co_node_model.specs.declared.app_answer.AppAnswer.{AppAnswer}
use Rattle.co_node_model.specs.Moments.{Constants}
use Rattle.co_node_model.specs.Device.{all_frames, app_after, prescribed}
use Rattle.co_node.specs.declared.node.Node.{Node}
use Rattle.co_node.specs.Nodes.{Stands}
use Rattle.conode_device.specs.declared.totals.Totals.{Totals}
use Rattle.conode_device.specs.Counts.{counted, handed_in}
use Rattle.conode_device.specs.Lines.{after_inputs, handed_by, input_lines, own_inputs, refused_lines, replayed_lines, ticks_by, totals_of, view_of, views_of}
use Rattle.conode_device.specs.Runs.{AfterAny, HasPrinted, PrintedBy, StopsIn, TakesOwn, WritesPart, WritesWhole, WrittenAfter, WrittenBy}

-- ---- inputs in two parts

pub after_append : (before : Inputs) (xs ys : List TimedInput) → after_inputs before (xs ++ ys) ≡ after_inputs (after_inputs before xs) ys
after_append before [] ys = refl
after_append before (x ∷ xs) ys = after_append (view_of x.input ∷ before) xs ys

pub replayed_append : (k : Constants) (before : Inputs) (xs ys : List TimedInput) → replayed_lines k before (xs ++ ys) ≡ replayed_lines k before xs ++ replayed_lines k (after_inputs before xs) ys
replayed_append k before [] ys = refl
replayed_append k before (x ∷ xs) ys =
    ap (λ (lines : List (List ℕ)). input_lines k before x ++ lines) (replayed_append k (view_of x.input ∷ before) xs ys)
    ∙ sym (append_assoc (input_lines k before x) (replayed_lines k (view_of x.input ∷ before) xs) (replayed_lines k (after_inputs (view_of x.input ∷ before) xs) ys))

pub frames_append : (k : Constants) (before : Inputs) (xs ys : List TimedInput) → all_frames k before (views_of (xs ++ ys)) ≡ all_frames k before (views_of xs) ++ all_frames k (after_inputs before xs) (views_of ys)
frames_append k before [] ys = refl
frames_append k before (x ∷ xs) ys =
    ap (λ (frames : List FrameContent). prescribed k before (view_of x.input) ++ frames) (frames_append k (view_of x.input ∷ before) xs ys)
    ∙ sym (append_assoc (prescribed k before (view_of x.input)) (all_frames k (view_of x.input ∷ before) (views_of xs)) (all_frames k (after_inputs (view_of x.input ∷ before) xs) (views_of ys)))

-- ---- ticks of a line

pub ticks_split : (line ms first more : ℕ) → ticks_after line ms (first + more) ≡ ticks_after line ms first ++ ticks_after line (ms + first) more
unfolding ticks_after
ticks_split line ms zero more =
    let clock : ms ≡ ms + 0 = omega arith in
    ap (ticks_after line ms) (zero-add more) ∙ ap (λ (from : ℕ). ticks_after line from more) clock
ticks_split line ms (suc first) more =
    let clock : ms + 1 + first ≡ ms + suc first = omega arith in
    ap (ticks_after line ms) (suc-add first more)
    ∙ ap (λ (later : List TimedInput). record { line = line; ms = ms + 1; input = tick } ∷ later)
    (ticks_split line (ms + 1) first more ∙ ap (λ (from : ℕ). ticks_after line (ms + 1) first ++ ticks_after line from more) clock)

-- the tick after so many, and those after it
pub ticks_at : (line ms done count : ℕ) → done < count
    → (later : List TimedInput) × (ticks_after line ms count ≡ ticks_after line ms done ++ record { line = line; ms = ms + 1 + done; input = tick } ∷ later)
unfolding ticks_after
ticks_at line ms done count within =
    let more = count - suc done in
    let parts : count ≡ done + suc more = omega (arith, within) in
    let clock : ms + done + 1 ≡ ms + 1 + done = omega arith in (
      ticks_after line (ms + done + 1) more,
      ap (ticks_after line ms) parts ∙ ticks_split line ms done (suc more)
          ∙ ap (λ (at : ℕ). ticks_after line ms done ++ record { line = line; ms = at; input = tick } ∷ ticks_after line (ms + done + 1) more) clock,
    )

-- ---- what is written in two parts

module _ (old mid new : Option (List ℕ)) (first : List (List ℕ)) (written : WritesLines old mid first) where
  pub part_after : (next : List (List ℕ)) → WritesFront mid new next → WritesPart old new first next
  part_after next (front, is, appended) = (front, is, Appends-trans old mid new (flat_map (λ line. line) first) front written appended)

  pub whole_after : (next : List (List ℕ)) → WritesSome mid new next → WritesWhole old new first next
  whole_after next (number, within, appended) = (number, within, lines_after old mid new first (take number next) written appended)

  -- after lines, and other lines
  pub part_more : (whole next : List (List ℕ)) → WritesPart mid new whole next → WritesPart old new (first ++ whole) next
  part_more whole next (front, is, appended) = (
    front,
    is,
    subst (Appends old new) (sym (ap (λ (bytes : List ℕ). bytes ++ front) (flat_map-append (λ line. line) first whole) ∙ append_assoc (flat_map (λ line. line) first) (flat_map (λ line. line) whole) front))
        (Appends-trans old mid new (flat_map (λ line. line) first) (flat_map (λ line. line) whole ++ front) written appended),
  )

  pub whole_more : (whole next : List (List ℕ)) → WritesWhole mid new whole next → WritesWhole old new (first ++ whole) next
  whole_more whole next (number, within, appended) =
      (number, within, subst (WritesLines old new) (sym (append_assoc first whole (take number next))) (lines_after old mid new first (whole ++ take number next) written appended))

-- ---- many inputs

pub printed_none : (k : Constants) (before : Inputs) (held : Option (List ℕ)) (node : Node) → Stands k node before → HasPrinted k before held held node 0 []
printed_none k before held node stands = record { stands = stands; written = Appends-nil held; frames = refl }

-- those of some inputs and of more
pub printed_more : (k : Constants) (before : Inputs) (old mid new : Option (List ℕ)) (between node : Node) (first then : ℕ) (xs ys : List TimedInput)
    → HasPrinted k before old mid between first xs → HasPrinted k (after_inputs before xs) mid new node then ys → HasPrinted k before old new node (first + then) (xs ++ ys)
printed_more k before old mid new between node first then xs ys h more = record {
  stands = subst (Stands k node) (sym (after_append before xs ys)) more.stands;
  written = subst (WritesLines old new) (sym (replayed_append k before xs ys)) (lines_after old mid new (replayed_lines k before xs) (replayed_lines k (after_inputs before xs) ys) h.written more.written);
  frames =
      ap (λ (n : ℕ). n + then) h.frames ∙ ap (λ (n : ℕ). length (all_frames k before (views_of xs)) + n) more.frames
      ∙ sym (length-append (all_frames k before (views_of xs)) (all_frames k (after_inputs before xs) (views_of ys))) ∙ ap length (sym (frames_append k before xs ys));
}

-- of one input
pub printed_one : (k : Constants) (before : Inputs) (old new : Option (List ℕ)) (node : Node) (t : TimedInput) (sent : List FrameContent) (count : ℕ)
    → Stands k node (view_of t.input ∷ before) → WritesLines old new (input_lines k before t) → sent ≡ prescribed k before (view_of t.input) → count ≡ length sent
    → HasPrinted k before old new node count (t ∷ [])
printed_one k before old new node t sent count stands written is counts = record {
  stands = stands;
  written = subst (WritesLines old new) (sym (append-nil (input_lines k before t))) written;
  frames = counts ∙ ap length (is ∙ sym (append-nil (prescribed k before (view_of t.input))));
}

-- all ticks of a line
pub printed_ticks : (k : Constants) (before : Inputs) (old new : Option (List ℕ)) (node : Node) (printed line ms done count : ℕ) → done ≤ count → count ≤ done
    → HasPrinted k before old new node printed (ticks_after line ms done) → HasPrinted k before old new node printed (ticks_after line ms count)
printed_ticks k before old new node printed line ms done count within past h =
    subst (λ (n : ℕ). HasPrinted k before old new node printed (ticks_after line ms n)) (le_antisymm within past) h

-- ---- where they break off

module _ (k : Constants) (before : Inputs) (node : Node) where
  -- at one input
  pub stops_one : (Writes : List (List ℕ) → List (List ℕ) → Type 0) (t : TimedInput) → Stands k node (view_of t.input ∷ before) → Writes [] (input_lines k before t) → StopsIn k before node Writes (t ∷ [])
  stops_one Writes t stands writes = (record { earlier = []; last = t; later = []; joined = refl; stands = stands }, writes)

  -- before more inputs
  pub stops_later : (Writes : List (List ℕ) → List (List ℕ) → Type 0) (xs ys : List TimedInput) → StopsIn k before node Writes xs → StopsIn k before node Writes (xs ++ ys)
  stops_later Writes xs ys (at, writes) = (
    record {
      earlier = at.earlier;
      last = at.last;
      later = at.later ++ ys;
      joined = ap (λ (all : List TimedInput). all ++ ys) at.joined ∙ append_assoc at.earlier (at.last ∷ at.later) ys;
      stands = at.stands;
    },
    writes,
  )

-- after other inputs
pub stops_after : (k : Constants) (before : Inputs) (node : Node) (First Whole : List (List ℕ) → List (List ℕ) → Type 0) (xs ys : List TimedInput)
    → ((whole next : List (List ℕ)) → First whole next → Whole (replayed_lines k before xs ++ whole) next)
    → StopsIn k (after_inputs before xs) node First ys → StopsIn k before node Whole (xs ++ ys)
stops_after k before node First Whole xs ys more (at, writes) = (
  record {
    earlier = xs ++ at.earlier;
    last = at.last;
    later = at.later;
    joined = ap (λ (all : List TimedInput). xs ++ all) at.joined ∙ sym (append_assoc xs at.earlier (at.last ∷ at.later));
    stands = subst (Stands k node) (sym (ap (after_inputs before) (append_assoc xs at.earlier (at.last ∷ [])) ∙ after_append before xs (at.earlier ++ at.last ∷ []))) at.stands;
  },
  subst (λ (lines : List (List ℕ)). Whole lines (input_lines k (after_inputs before (xs ++ at.earlier)) at.last)) (sym (replayed_append k before xs at.earlier))
      (subst (λ (inputs : Inputs). Whole (replayed_lines k before xs ++ replayed_lines k (after_inputs before xs) at.earlier) (input_lines k inputs at.last)) (sym (after_append before xs at.earlier))
      (more (replayed_lines k (after_inputs before xs) at.earlier) (input_lines k (after_inputs (after_inputs before xs) at.earlier) at.last) writes)),
)

-- ---- one tick more of a line

module _ (k : Constants) (before : Inputs) (old mid new : Option (List ℕ)) (between node : Node) (printed line ms done clock : ℕ) (at_clock : clock ≡ ms + 1 + done)
    (h : HasPrinted k before old mid between printed (ticks_after line ms done)) (stands : AfterAny between (λ k before. Stands k node (Ticked ∷ before))) where
  pub printed_tick : (sent : List FrameContent) (count : ℕ) → AfterAny between (λ k before. sent ≡ prescribed k before Ticked)
      → AfterAny between (λ k before. WritesLines mid new (input_lines k before (record { line = line; ms = clock; input = tick }))) → count ≡ length sent
      → HasPrinted k before old new node (printed + count) (ticks_after line ms (done + 1))
  unfolding ticks_after
  printed_tick sent count frames written counts =
      let ticks : List TimedInput = ticks_after line ms done in
      let last : List TimedInput = record { line = line; ms = ms + 1 + done; input = tick } ∷ [] in
      let shift : ms + done + 1 ≡ ms + 1 + done = omega arith in
      let all : ticks_after line ms (done + 1) ≡ ticks ++ last = ticks_split line ms done 1 ∙ ap (λ (at : ℕ). ticks ++ record { line = line; ms = at; input = tick } ∷ []) shift in
      let so_far : Inputs = after_inputs before ticks in
      subst (HasPrinted k before old new node (printed + count)) (sym all)
      (printed_more k before old mid new between node printed count ticks last h
      (printed_one k so_far mid new node (record { line = line; ms = ms + 1 + done; input = tick }) sent count (stands k so_far h.stands) (subst (λ (c : ℕ). WritesLines mid new (input_lines k so_far (record { line = line; ms = c; input = tick }))) at_clock (written k so_far h.stands)) (frames k so_far h.stands) counts))

  stops_tick : (count : ℕ) → done < count → (Part Whole : List (List ℕ) → List (List ℕ) → Type 0)
      → ((whole next : List (List ℕ)) → Part whole next → Whole (replayed_lines k before (ticks_after line ms done) ++ whole) next)
      → Part [] (input_lines k (after_inputs before (ticks_after line ms done)) (record { line = line; ms = ms + 1 + done; input = tick })) → StopsIn k before node Whole (ticks_after line ms count)
  stops_tick count within Part Whole after writes =
      let ticks : List TimedInput = ticks_after line ms done in
      let last : TimedInput = record { line = line; ms = ms + 1 + done; input = tick } in
      let so_far : Inputs = after_inputs before ticks in
      let at = ticks_at line ms done count within in
      subst (StopsIn k before node Whole) (sym at.1)
      (stops_after k before node Part Whole ticks (last ∷ at.0) after
      (stops_later k so_far node Part (last ∷ []) at.0 (stops_one k so_far node Part last (stands k so_far h.stands) writes)))

  pub part_tick : (count : ℕ) → done < count → AfterAny between (λ k before. WritesFront mid new (input_lines k before (record { line = line; ms = clock; input = tick })))
      → StopsIn k before node (WritesPart old new) (ticks_after line ms count)
  part_tick count within front =
      stops_tick count within (WritesPart mid new) (WritesPart old new) (part_more old mid new (replayed_lines k before (ticks_after line ms done)) h.written)
      (subst (λ (c : ℕ). WritesFront mid new (input_lines k (after_inputs before (ticks_after line ms done)) (record { line = line; ms = c; input = tick }))) at_clock (front k (after_inputs before (ticks_after line ms done)) h.stands))

  pub whole_tick : (count : ℕ) → done < count → AfterAny between (λ k before. WritesSome mid new (input_lines k before (record { line = line; ms = clock; input = tick })))
      → StopsIn k before node (WritesWhole old new) (ticks_after line ms count)
  whole_tick count within some =
      stops_tick count within (WritesWhole mid new) (WritesWhole old new) (whole_more old mid new (replayed_lines k before (ticks_after line ms done)) h.written)
      (subst (λ (c : ℕ). WritesSome mid new (input_lines k (after_inputs before (ticks_after line ms done)) (record { line = line; ms = c; input = tick }))) at_clock (some k (after_inputs before (ticks_after line ms done)) h.stands))

-- it is not printed
module _ (first between node : Node) (old mid new : Option (List ℕ)) (printed line ms done clock : ℕ) (at_clock : clock ≡ ms + 1 + done)
    (h : AfterAny first (λ k before. HasPrinted k before old mid between printed (ticks_after line ms done))) (stands : AfterAny between (λ k before. Stands k node (Ticked ∷ before))) where
  pub ticks_break : (count : ℕ) → done < count → (fault : CmdFault) (result : Result ℕ CmdFault) → result ≡ Err fault
      → WrittenAfter between mid new (λ k before. input_lines k before (record { line = line; ms = clock; input = tick })) (Err fault) → PrintedBy first old new node (ticks_after line ms count) result
  ticks_break count within fault result is written = subst (PrintedBy first old new node (ticks_after line ms count)) (sym is) (at_fault fault written)
    where
      at_fault : (fault : CmdFault) → WrittenAfter between mid new (λ k before. input_lines k before (record { line = line; ms = clock; input = tick })) (Err fault)
          → PrintedBy first old new node (ticks_after line ms count) (Err fault)
      at_fault Write front = λ k before held. part_tick k before old mid new between node printed line ms done clock at_clock (h k before held) stands count within front
      at_fault Memory some = λ k before held. whole_tick k before old mid new between node printed line ms done clock at_clock (h k before held) stands count within some
      at_fault Read written = absurd written
      at_fault NeverEnds written = absurd written
      at_fault (BadLine number) written = absurd written

-- ---- inputs in two parts, by how that ended

pub break_later : (first node : Node) (old new : Option (List ℕ)) (xs ys : List TimedInput) (fault : CmdFault) (result : Result ℕ CmdFault) → result ≡ Err fault
    → PrintedBy first old new node xs (Err fault) → PrintedBy first old new node (xs ++ ys) result
break_later first node old new xs ys fault result is broke = subst (PrintedBy first old new node (xs ++ ys)) (sym is) (at_fault fault broke)
  where
    at_fault : (fault : CmdFault) → PrintedBy first old new node xs (Err fault) → PrintedBy first old new node (xs ++ ys) (Err fault)
    at_fault Write stops = λ k before stands. stops_later k before node (WritesPart old new) xs ys (stops k before stands)
    at_fault Memory stops = λ k before stands. stops_later k before node (WritesWhole old new) xs ys (stops k before stands)
    at_fault Read broke = absurd broke
    at_fault NeverEnds broke = absurd broke
    at_fault (BadLine number) broke = absurd broke

module _ (first between node : Node) (old mid new : Option (List ℕ)) (xs ys : List TimedInput) (printed : ℕ) (h : AfterAny first (λ k before. HasPrinted k before old mid between printed xs)) where
  pub break_after : (fault : CmdFault) (result : Result ℕ CmdFault) → result ≡ Err fault → PrintedBy between mid new node ys (Err fault) → PrintedBy first old new node (xs ++ ys) result
  break_after fault result is broke = subst (PrintedBy first old new node (xs ++ ys)) (sym is) (at_fault fault broke)
    where
      at_fault : (fault : CmdFault) → PrintedBy between mid new node ys (Err fault) → PrintedBy first old new node (xs ++ ys) (Err fault)
      at_fault Write stops = λ k before stands.
          stops_after k before node (WritesPart mid new) (WritesPart old new) xs ys (part_more old mid new (replayed_lines k before xs) (h k before stands).written) (stops k (after_inputs before xs) (h k before stands).stands)
      at_fault Memory stops = λ k before stands.
          stops_after k before node (WritesWhole mid new) (WritesWhole old new) xs ys (whole_more old mid new (replayed_lines k before xs) (h k before stands).written) (stops k (after_inputs before xs) (h k before stands).stands)
      at_fault Read broke = absurd broke
      at_fault NeverEnds broke = absurd broke
      at_fault (BadLine number) broke = absurd broke

  pub printed_both : (then : ℕ) → AfterAny between (λ k before. HasPrinted k before mid new node then ys) → AfterAny first (λ k before. HasPrinted k before old new node (printed + then) (xs ++ ys))
  printed_both then more k before stands =
      let so_far = h k before stands in
      printed_more k before old mid new between node printed then xs ys so_far (more k (after_inputs before xs) so_far.stands)

-- no fault of a reader comes of it
pub printed_not : (first node : Node) (old new : Option (List ℕ)) (inputs : List TimedInput) (fault other : CmdFault) → PrintedBy first old new node inputs (Err fault)
    → fault ≡ other → PrintedBy first old new node inputs (Err other)
printed_not first node old new inputs fault other broke is = subst (λ (f : CmdFault). PrintedBy first old new node inputs (Err f)) is broke

-- ---- lines, by how that ended

module _ (old new : Option (List ℕ)) where
  -- a line is handed over
  pub line_by : (line : List ℕ) (result : Result (Unit {0}) CmdFault) → OnOk result (Appends old new line) → IfErr result (λ fault. fault ≡ Write) → IfErr result (λ fault. AppendsFront old new line)
      → WrittenBy old new (line ∷ []) result
  line_by line (Ok done) all fault front = line_alone old new line all
  line_by line (Err fault) all is front = subst (λ (f : CmdFault). WrittenBy old new (line ∷ []) (Err f)) (sym is) (front_alone old new line front)

  -- the writer fails
  pub front_by : (lines : List (List ℕ)) (result : Result (Unit {0}) CmdFault) → result ≡ Err Write → WritesFront old new lines → WrittenBy old new lines result
  front_by lines result is front = subst (WrittenBy old new lines) (sym is) front

  -- no more is written
  pub by_more : (lines more : List (List ℕ)) (fault : CmdFault) (result : Result (Unit {0}) CmdFault) → result ≡ Err fault → WrittenBy old new lines (Err fault) → WrittenBy old new (lines ++ more) result
  by_more lines more fault result is written = subst (WrittenBy old new (lines ++ more)) (sym is) (at_fault fault written)
    where
      at_fault : (fault : CmdFault) → WrittenBy old new lines (Err fault) → WrittenBy old new (lines ++ more) (Err fault)
      at_fault Write front = front_of_more old new lines more front
      at_fault Memory some = some_of_more old new lines more some
      at_fault Read written = absurd written
      at_fault NeverEnds written = absurd written
      at_fault (BadLine number) written = absurd written

  -- after other lines
  pub by_after : (mid : Option (List ℕ)) (lines more : List (List ℕ)) (result : Result (Unit {0}) CmdFault) → WritesLines old mid lines → WrittenBy mid new more result → WrittenBy old new (lines ++ more) result
  by_after mid lines more (Ok done) first written = lines_after old mid new lines more first written
  by_after mid lines more (Err Write) first front = front_after_lines old mid new lines more first front
  by_after mid lines more (Err Memory) first some = some_after_lines old mid new lines more first some
  by_after mid lines more (Err Read) first written = absurd written
  by_after mid lines more (Err NeverEnds) first written = absurd written
  by_after mid lines more (Err (BadLine number)) first written = absurd written

  -- they are those that what the device took before prescribes
  pub after_by : (node : Node) (lines : List (List ℕ)) (prescribed_lines : Constants → Inputs → List (List ℕ)) → AfterAny node (λ k before. lines ≡ prescribed_lines k before)
      → (result : Result (Unit {0}) CmdFault) → WrittenBy old new lines result → WrittenAfter node old new prescribed_lines result
  after_by node lines prescribed_lines same (Ok done) written = λ k before stands. subst (WritesLines old new) (same k before stands) written
  after_by node lines prescribed_lines same (Err Write) front = λ k before stands. subst (WritesFront old new) (same k before stands) front
  after_by node lines prescribed_lines same (Err Memory) some = λ k before stands. subst (WritesSome old new) (same k before stands) some
  after_by node lines prescribed_lines same (Err Read) written = absurd written
  after_by node lines prescribed_lines same (Err NeverEnds) written = absurd written
  after_by node lines prescribed_lines same (Err (BadLine number)) written = absurd written

-- a line is not made
pub none_by : (held : Option (List ℕ)) (line : List ℕ) (result : Result (Unit {0}) CmdFault) → result ≡ Err Memory → WrittenBy held held (line ∷ []) result
none_by held line result is = subst (WrittenBy held held (line ∷ [])) (sym is) (no_lines held line [])

-- ---- an input

-- what was printed of it is its lines
pub input_printed : (k : Constants) (before : Inputs) (t : TimedInput) (answer : AppAnswer) (sent : List FrameContent) (P : List (List ℕ) → Type 0)
    → answer ≡ app_after k (view_of t.input ∷ before) → sent ≡ prescribed k before (view_of t.input) → P (refused_lines t.line answer ++ map (frame_line t.ms) sent) → P (input_lines k before t)
input_printed k before t answer sent P answered frames printed =
    subst (λ (a : AppAnswer). P (refused_lines t.line a ++ map (frame_line t.ms) (prescribed k before (view_of t.input)))) answered
    (subst (λ (s : List FrameContent). P (refused_lines t.line answer ++ map (frame_line t.ms) s)) frames printed)

pub input_same : (k : Constants) (before : Inputs) (t : TimedInput) (answer : AppAnswer) (sent : List FrameContent)
    → answer ≡ app_after k (view_of t.input ∷ before) → sent ≡ prescribed k before (view_of t.input) → refused_lines t.line answer ++ map (frame_line t.ms) sent ≡ input_lines k before t
input_same k before t answer sent answered frames = input_printed k before t answer sent (λ lines. refused_lines t.line answer ++ map (frame_line t.ms) sent ≡ lines) answered frames refl

-- the own input of a line, and the only one of its list
own_alone : (t : TimedLine) (input : Input) → own_input t.said ≡ Some input → own_inputs t ≡ record { line = t.number; ms = t.ms; input = input } ∷ []
own_alone t input is = ap (λ (own : Option Input). option_map_or (λ i. record { line = t.number; ms = t.ms; input = i } ∷ []) own []) is

module _ (k : Constants) (before : Inputs) (old new : Option (List ℕ)) (first last : Node) (t : TimedLine) (sent : List FrameContent) (answer : AppAnswer) (takes : TakesOwn first last t.said sent)
    (stands : Stands k first before) (answered : AfterAny last (λ k before. answer ≡ app_after k before)) where
  pub printed_own : (count : ℕ) → WritesLines old new (refused_lines t.number answer ++ map (frame_line t.ms) sent) → count ≡ length sent → HasPrinted k before old new last count (own_inputs t)
  printed_own count written counts =
      let own : TimedInput = record { line = t.number; ms = t.ms; input = takes.input } in
      let then = takes.stands k before stands in
      let frames = takes.frames k before stands in
      subst (HasPrinted k before old new last count) (sym (own_alone t takes.input takes.is_own))
      (printed_one k before old new last own sent count then
      (input_printed k before own answer sent (WritesLines old new) (answered k (view_of takes.input ∷ before) then) frames written) frames counts)

  stops_own : (Writes : List (List ℕ) → List (List ℕ) → Type 0) → Writes [] (refused_lines t.number answer ++ map (frame_line t.ms) sent) → StopsIn k before last Writes (own_inputs t)
  stops_own Writes writes =
      let own : TimedInput = record { line = t.number; ms = t.ms; input = takes.input } in
      let then = takes.stands k before stands in
      subst (StopsIn k before last Writes) (sym (own_alone t takes.input takes.is_own))
      (stops_one k before last Writes own then (input_printed k before own answer sent (Writes []) (answered k (view_of takes.input ∷ before) then) (takes.frames k before stands) writes))

-- by how that ended
module _ (first last : Node) (old new : Option (List ℕ)) (t : TimedLine) (sent : List FrameContent) (answer : AppAnswer) (takes : TakesOwn first last t.said sent)
    (answered : AfterAny last (λ k before. answer ≡ app_after k before)) where
  pub own_printed : (count : ℕ) → WritesLines old new (refused_lines t.number answer ++ map (frame_line t.ms) sent) → count ≡ length sent → AfterAny first (λ k before. HasPrinted k before old new last count (own_inputs t))
  own_printed count written counts k before stands = printed_own k before old new first last t sent answer takes stands answered count written counts

  pub own_breaks : (fault : CmdFault) (result : Result ℕ CmdFault) → result ≡ Err fault → WrittenBy old new (refused_lines t.number answer ++ map (frame_line t.ms) sent) (Err fault) → PrintedBy first old new last (own_inputs t) result
  own_breaks fault result is written = subst (PrintedBy first old new last (own_inputs t)) (sym is) (at_fault fault written)
    where
      at_fault : (fault : CmdFault) → WrittenBy old new (refused_lines t.number answer ++ map (frame_line t.ms) sent) (Err fault) → PrintedBy first old new last (own_inputs t) (Err fault)
      at_fault Write front = λ k before stands. stops_own k before old new first last t sent answer takes stands answered (WritesPart old new) front
      at_fault Memory some = λ k before stands. stops_own k before old new first last t sent answer takes stands answered (WritesWhole old new) some
      at_fault Read written = absurd written
      at_fault NeverEnds written = absurd written
      at_fault (BadLine number) written = absurd written

-- a line without an own input
pub own_none : (first last : Node) (held : Option (List ℕ)) (t : TimedLine) → (own_input t.said ≡ None) × (last ≡ first) → AfterAny first (λ k before. HasPrinted k before held held last 0 (own_inputs t))
own_none first last held t (none, same) k before stands =
    let no_inputs : own_inputs t ≡ [] = ap (λ (own : Option Input). option_map_or (λ i. record { line = t.number; ms = t.ms; input = i } ∷ []) own []) none in
    subst (HasPrinted k before held held last 0) (sym no_inputs) (printed_none k before held last (subst (λ (node : Node). Stands k node before) (sym same) stands))

-- ---- totals

no_frame_ticks : (line ms count : ℕ) → sum_by (λ (t : TimedInput). handed_by t.input) (ticks_after line ms count) ≡ 0
unfolding ticks_after
no_frame_ticks line ms zero = refl
no_frame_ticks line ms (suc count) = no_frame_ticks line (ms + 1) count

all_ticks : (line ms count : ℕ) → sum_by (λ (t : TimedInput). ticks_by t.input) (ticks_after line ms count) ≡ count
unfolding ticks_after
all_ticks line ms zero = refl
all_ticks line ms (suc count) =
    let next : 1 + count ≡ suc count = omega arith in
    sum_by-append (λ (t : TimedInput). ticks_by t.input) (record { line = line; ms = ms + 1; input = tick } ∷ []) (ticks_after line (ms + 1) count)
    ∙ ap (λ (n : ℕ). 1 + n) (all_ticks line (ms + 1) count) ∙ next

own_handed : (number ms : ℕ) (said : TraceLine) → sum_by (λ (t : TimedInput). handed_by t.input) (option_map_or (λ input. record { line = number; ms = ms; input = input } ∷ []) (own_input said) []) ≡ handed_in said
own_handed number ms Skipped = refl
own_handed number ms (PassedOver stamp) = refl
own_handed number ms (Data stamp content) = refl
own_handed number ms (Event (Ticks count)) = refl
own_handed number ms (Event (App event)) = refl

own_ticks : (number ms : ℕ) (said : TraceLine) → sum_by (λ (t : TimedInput). ticks_by t.input) (option_map_or (λ input. record { line = number; ms = ms; input = input } ∷ []) (own_input said) []) ≡ 0
own_ticks number ms Skipped = refl
own_ticks number ms (PassedOver stamp) = refl
own_ticks number ms (Data stamp content) = refl
own_ticks number ms (Event (Ticks count)) = refl
own_ticks number ms (Event (App event)) = refl

totals_are : (a b c d e f : ℕ) → a ≡ d → b ≡ e → c ≡ f → ◌≡◌ {A = Totals} (record { handed = a; printed = b; ticks = c }) (record { handed = d; printed = e; ticks = f })
totals_are a b c d e f p q r = rw (p, q, r) refl

-- the totals of a line more
pub counted_more : (k : Constants) (before : Inputs) (totals : Totals) (t : TimedLine) (printed : ℕ) (inputs : List TimedInput) → totals ≡ totals_of k before inputs
    → printed ≡ length (all_frames k (after_inputs before inputs) (views_of (inputs_of t))) → counted totals t printed ≡ totals_of k before (inputs ++ inputs_of t)
counted_more k before totals t printed inputs are frames =
    let ticks : List TimedInput = ticks_after t.number t.before t.ticks in
    let own : List TimedInput = own_inputs t in
    let handed_line : sum_by (λ (u : TimedInput). handed_by u.input) (inputs_of t) ≡ handed_in t.said =
    sum_by-append (λ (u : TimedInput). handed_by u.input) ticks own
    ∙ ap (λ (n : ℕ). n + sum_by (λ (u : TimedInput). handed_by u.input) own) (no_frame_ticks t.number t.before t.ticks) ∙ zero-add _ ∙ own_handed t.number t.ms t.said in
    let ticks_line : sum_by (λ (u : TimedInput). ticks_by u.input) (inputs_of t) ≡ t.ticks =
    sum_by-append (λ (u : TimedInput). ticks_by u.input) ticks own
    ∙ ap (λ (n : ℕ). n + sum_by (λ (u : TimedInput). ticks_by u.input) own) (all_ticks t.number t.before t.ticks)
    ∙ ap (λ (n : ℕ). t.ticks + n) (own_ticks t.number t.ms t.said) ∙ add-zero t.ticks in
    ap (λ (so_far : Totals). counted so_far t printed) are
    ∙ totals_are _ _ _ _ _ _
    (ap (λ (n : ℕ). sum_by (λ (u : TimedInput). handed_by u.input) inputs + n) (sym handed_line) ∙ sym (sum_by-append (λ (u : TimedInput). handed_by u.input) inputs (inputs_of t)))
    (let both : length (all_frames k before (views_of (inputs ++ inputs_of t))) ≡ length (all_frames k before (views_of inputs)) + length (all_frames k (after_inputs before inputs) (views_of (inputs_of t))) =
    ap length (frames_append k before inputs (inputs_of t)) ∙ length-append (all_frames k before (views_of inputs)) (all_frames k (after_inputs before inputs) (views_of (inputs_of t))) in
    omega (arith, both, frames))
    (ap (λ (n : ℕ). sum_by (λ (u : TimedInput). ticks_by u.input) inputs + n) (sym ticks_line) ∙ sym (sum_by-append (λ (u : TimedInput). ticks_by u.input) inputs (inputs_of t)))
