-- The bytes that a line writes are few.
use Rattle.std.proofs.Common.{◌≡◌, ℕ, ◌+◌, ◌≤◌, List, [], ◌∷◌, length, Option, Some, None, IfSome, eqb, ltb, codes, ap, arith}
use Rattle.std.specs.Prelude.{bytes_eq, option_and_then}
use Rattle.std.specs.List.{onto_first}
use Rattle.std.specs.Option.{option_map}
use Rattle.std.proofs.lemmas.Bool.Decides.{nat_tests}
use Rattle.co_value.specs.declared.key.Key.{Key}
use Rattle.conode_trace.specs.declared.trace_line.TraceLine.{TraceLine}
use Rattle.conode_trace.specs.declared.trace_line.TraceLine.TheVariants.{Event}
use Rattle.conode_trace.specs.declared.frame_fields.Identifier.{Identifier}
use Rattle.conode_trace.specs.declared.frame_fields.Identifier.TheVariants.{Base, Extended}
use Rattle.conode_trace.specs.declared.frame_fields.Body.{Body}
use Rattle.conode_trace.specs.declared.frame_fields.Body.TheVariants.{Bytes, Other}
use Rattle.conode_trace.specs.declared.event_line.EventLine.{EventLine}
use Rattle.conode_trace.specs.declared.event_line.EventLine.TheVariants.{Ticks, App}
use Rattle.co_frame.specs.declared.app_event.AppEvent.TheVariants as app
use Rattle.co_text.specs.Texts.{◌>>=◌, is_blank, decimal_in}
use Rattle.co_text.specs.HexPairs.{pairs_at, pairs_in, hex_in, byte_in, word_in, bytes_in}
use Rattle.co_value.specs.KeyTexts.{key_in}
use Rattle.conode_trace.specs.Events.{words, event_of_one, event_of_two, event_of_three, event_in, HasFewBytes}
use Rattle.conode_trace.specs.FrameLines.{stamp_at, identifier_at, body_in, past_run, is_name_byte, line_of, frame_at, frame_line_in, is_skipped, begins_as_event, line_in, WritesFewBytes}
use Rattle.co_text.proofs.Tests.{by_test, guarded}
use Rattle.conode_trace.proofs.GrammarRuns.{if_some}
use Rattle.co_text.proofs.Pairs.{length-pairs}

-- ---- a word is no longer than its line

abbrev AreWithin : ℕ → List (List ℕ) → Type 0
AreWithin most [] = Unit {0}
AreWithin most (part ∷ parts) = (length part ≤ most) × AreWithin most parts

within_more : (less most : ℕ) (parts : List (List ℕ)) → less ≤ most → AreWithin less parts → AreWithin most parts
within_more less most [] le h = tt
within_more less most (part ∷ parts) le h = (omega (arith, le, h.0), within_more less most parts le h.1)

within_onto : (byte less most : ℕ) (parts : List (List ℕ)) → less + 1 ≤ most → AreWithin less parts → AreWithin most (onto_first byte parts)
within_onto byte less most [] le h = (omega (arith, le), tt)
within_onto byte less most (part ∷ parts) le h = (omega (arith, le, h.0), within_more less most parts (omega (arith, le)) h.1)

words_within : (text : List ℕ) → AreWithin (length text) (words text)
words_within [] = (omega arith, tt)
words_within (byte ∷ text) = by_test (eqb byte 32)
    (λ space. rw space (omega arith, within_more (length text) (length (byte ∷ text)) (words text) (omega arith) (words_within text)))
    (λ other. rw other (within_onto byte (length text) (length (byte ∷ text)) (words text) (omega arith) (words_within text)))

-- ---- the bytes of a word

hex_few : (word bytes : List ℕ) → hex_in word ≡ Some bytes → length word ≤ 512 → length bytes ≤ 256
unfolding hex_in pairs_in
hex_few word bytes e few = by_test (eqb (length word) 0)
    (λ empty. let no : None ≡ Some bytes = rw empty at e in absurd cc)
    (λ some. by_test (bytes_eq word (codes "-"))
    (λ dash.
    let is : Some [] ≡ Some bytes = rw (some, dash) at e in
    let same : [] ≡ bytes = cc in
    omega (arith, ap length same))
    (λ pairs.
    let g = guarded (eqb (length (pairs_at word).1) 0) (pairs_at word).0 bytes (rw (some, pairs) at e) in
    omega (arith, length-pairs word, ap length g.1)))

-- ---- an event

abbrev AreFew : Option EventLine → Type 0
AreFew event = IfSome event (λ said. HasFewBytes said)

mapped : {A : Type 0} (f : A → EventLine) → ((a : A) → HasFewBytes (f a)) → (o : Option A) → AreFew (option_map f o)
mapped f each None = tt
mapped f each (Some a) = each a

one_few : (name word : List ℕ) → AreFew (event_of_one name word)
unfolding event_of_one
one_few name word = by_test (bytes_eq name (codes "!tick"))
    (λ a. rw a (mapped Ticks (λ _. tt) (decimal_in 1 86400000 word)))
    (λ a. by_test (bytes_eq name (codes "!event"))
    (λ b. rw (a, b) (mapped (λ (k : ℕ). App (app.Event k)) (λ _. tt) (decimal_in 0 65535 word)))
    (λ b. by_test (bytes_eq name (codes "!changed"))
    (λ c. rw (a, b, c) (mapped (λ (key : Key). App (app.Changed key)) (λ _. tt) (key_in word)))
    (λ c. by_test (bytes_eq name (codes "!clear"))
    (λ d. rw (a, b, c, d) (mapped (λ (bits : ℕ). App (app.Clear bits)) (λ _. tt) (byte_in word)))
    (λ d. rw (a, b, c, d) tt))))

write_few : (key : Option Key) (bytes : Option (List ℕ)) → IfSome bytes (λ b. length b ≤ 256) → AreFew (key >>= λ k. bytes >>= λ b. Some (App (app.Write k b)))
write_few None bytes h = tt
write_few (Some key) None h = tt
write_few (Some key) (Some bytes) h = h

two_few : (name first second : List ℕ) → length second ≤ 512 → AreFew (event_of_two name first second)
unfolding event_of_two
two_few name first second few = by_test (bytes_eq name (codes "!write"))
    (λ a. rw a (write_few (key_in first) (hex_in second) (if_some (hex_in second) (λ bytes e. hex_few second bytes e few))))
    (λ a. rw a tt)

raise_few : (code bits : Option ℕ) (extra : Option (List ℕ)) → AreFew (code >>= λ c. bits >>= λ b. extra >>= λ e. Some (App (app.Raise c b e)))
raise_few None bits extra = tt
raise_few (Some c) None extra = tt
raise_few (Some c) (Some b) None = tt
raise_few (Some c) (Some b) (Some e) = tt

three_few : (name first second third : List ℕ) → AreFew (event_of_three name first second third)
unfolding event_of_three
three_few name first second third = by_test (bytes_eq name (codes "!raise"))
    (λ a. rw a (raise_few (word_in first) (byte_in second) (bytes_in 5 third)))
    (λ a. rw a tt)

event_few : (parts : List (List ℕ)) → AreWithin 512 parts → AreFew (event_in parts)
event_few [] h = tt
event_few (name ∷ []) h = tt
event_few (name ∷ a ∷ []) h = one_few name a
event_few (name ∷ a ∷ b ∷ []) h = two_few name a b h.1.1.0
event_few (name ∷ a ∷ b ∷ c ∷ []) h = three_few name a b c
event_few (name ∷ a ∷ b ∷ c ∷ d ∷ more) h = tt

-- ---- a line

each : {A : Type 0} (f : A → Option TraceLine) (o : Option A) → ((a : A) → IfSome (f a) (λ said. WritesFewBytes said)) → IfSome (option_and_then f o) (λ said. WritesFewBytes said)
each f None h = tt
each f (Some a) h = h a

line_of_few : (stamp : ℕ) (id : Identifier) (body : Body) → WritesFewBytes (line_of stamp id body)
line_of_few stamp (Base id) (Bytes bytes) = tt
line_of_few stamp (Base id) Other = tt
line_of_few stamp Extended body = tt

frame_few : (line : List ℕ) → IfSome (frame_line_in line) (λ said. WritesFewBytes said)
unfolding frame_line_in frame_at
frame_few line =
    each _ (stamp_at line) (λ stamp.
    each _ (past_run is_blank 1 512 stamp.1) (λ name.
    each _ (past_run is_name_byte 1 15 name) (λ gap.
    each _ (past_run is_blank 1 512 gap) (λ frame.
    each _ (identifier_at frame) (λ id.
    each _ (body_in id.1) (λ body. line_of_few stamp.0 id.0 body))))))

as_line : (event : Option EventLine) → AreFew event → IfSome (option_map Event event) (λ said. WritesFewBytes said)
as_line None h = tt
as_line (Some event) h = h

pub line_few : (line : List ℕ) → IfSome (line_in line) (λ said. WritesFewBytes said)
unfolding line_in
line_few line = by_test (ltb 512 (length line))
    (λ long. rw long tt)
    (λ short.
    let few : length line ≤ 512 = grind (arith, nat_tests, short) in
    by_test (is_skipped line)
    (λ skipped. rw (short, skipped) tt)
    (λ not_one. by_test (begins_as_event line)
    (λ event. rw (short, not_one, event) (as_line (event_in (words line)) (event_few (words line) (within_more (length line) 512 (words line) few (words_within line)))))
    (λ other. rw (short, not_one, other) (frame_few line))))
