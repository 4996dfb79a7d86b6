-- When a heartbeat is due and when one is lost, computed from the definitions: both sides of each edge.
use Rattle.std.proofs.Common.{◌≡◌, ℕ, Bool, true, false, List, [], ◌∷◌, refl}
use Rattle.std.specs.Prelude.{map, zero, suc}
use Rattle.co_node_parts.specs.declared.heartbeat_producer.ProducerEvent.{ProducerEvent}
use Rattle.co_node_parts.specs.declared.heartbeat_producer.ProducerEvent.TheVariants as own
use Rattle.co_node_parts.specs.declared.heartbeat_consumer.ConsumerEvent.{ConsumerEvent}
use Rattle.co_node_parts.specs.declared.heartbeat_consumer.ConsumerEvent.TheVariants as other
use Rattle.co_node_parts.specs.declared.heartbeat_consumers.ConsumersEvent.TheVariants.{Begin, Heard, Tick}
use Rattle.co_node_parts.specs.Producers.{ProducerLog, is_heartbeat_due}
use Rattle.co_node_parts.specs.Consumers.{ConsumerLog, time_in, node_in, is_used, is_lost}
use Rattle.co_node_parts.specs.ConsumerTables.{ConsumersLog, Noted, AllBegun, entry_subs, lost_at}

-- ---- the producer

-- whether a heartbeat is due at each of these, one after another
abbrev due_at : ProducerLog → List ProducerEvent → List Bool
due_at log [] = []
due_at log (event ∷ events) = is_heartbeat_due event log ∷ due_at (event ∷ log) events

before_the_begin : due_at [] (own.Tick ∷ own.Tick ∷ []) ≡ false ∷ false ∷ []
before_the_begin = refl

period_3 : due_at [] (own.Begin 3 ∷ own.Tick ∷ own.Tick ∷ own.Tick ∷ own.Tick ∷ own.Tick ∷ own.Tick ∷ []) ≡ false ∷ false ∷ false ∷ true ∷ false ∷ false ∷ true ∷ []
period_3 = refl

period_1 : due_at [] (own.Begin 1 ∷ own.Tick ∷ own.Tick ∷ []) ≡ false ∷ true ∷ true ∷ []
period_1 = refl

period_0 : due_at [] (own.Begin 0 ∷ own.Tick ∷ own.Tick ∷ []) ≡ false ∷ false ∷ false ∷ []
period_0 = refl

switched_off : due_at [] (own.Begin 1 ∷ own.Tick ∷ own.Begin 0 ∷ own.Tick ∷ []) ≡ false ∷ true ∷ false ∷ false ∷ []
switched_off = refl

-- the same period again counts anew, from a count of 2 on
same_again : due_at [] (own.Begin 3 ∷ own.Tick ∷ own.Tick ∷ own.Begin 3 ∷ own.Tick ∷ own.Tick ∷ own.Tick ∷ []) ≡ false ∷ false ∷ false ∷ false ∷ false ∷ false ∷ true ∷ []
same_again = refl

quiet_between : due_at [] (own.Begin 2 ∷ own.Tick ∷ own.Quiet ∷ own.Quiet ∷ own.Tick ∷ []) ≡ false ∷ false ∷ false ∷ false ∷ true ∷ []
quiet_between = refl

-- ---- the word of an entry

time_100 : time_in 0x00070064 ≡ 100
time_100 = refl

node_7 : node_in 0x00070064 ≡ 7
node_7 = refl

high_bits : node_in 0xFF070064 ≡ 7
high_bits = refl

used : map is_used (0x00010001 ∷ 0x007FFFFF ∷ 0xFF070064 ∷ []) ≡ true ∷ true ∷ true ∷ []
used = refl

no_time : is_used 0x00070000 ≡ false
no_time = refl

no_node : is_used 0x00000064 ≡ false
no_node = refl

node_128 : is_used 0x00800064 ≡ false
node_128 = refl

-- ---- one entry

-- whether the heartbeat is lost at each of these, one after another
abbrev lost_in : ConsumerLog → List ConsumerEvent → List Bool
lost_in log [] = []
lost_in log (event ∷ events) = is_lost event log ∷ lost_in (event ∷ log) events

-- node 7, 3 ms
abbrev three : ConsumerEvent
three = other.Begin 0x00070003

third_tick : lost_in (three ∷ []) (other.Heard 7 ∷ other.Tick ∷ other.Tick ∷ other.Tick ∷ []) ≡ false ∷ false ∷ false ∷ true ∷ []
third_tick = refl

once : lost_in (three ∷ []) (other.Heard 7 ∷ other.Tick ∷ other.Tick ∷ other.Tick ∷ other.Tick ∷ other.Tick ∷ other.Tick ∷ []) ≡ false ∷ false ∷ false ∷ true ∷ false ∷ false ∷ false ∷ []
once = refl

never_heard : lost_in (three ∷ []) (other.Tick ∷ other.Tick ∷ other.Tick ∷ other.Tick ∷ []) ≡ false ∷ false ∷ false ∷ false ∷ []
never_heard = refl

of_another : lost_in (three ∷ []) (other.Heard 8 ∷ other.Tick ∷ other.Tick ∷ other.Tick ∷ []) ≡ false ∷ false ∷ false ∷ false ∷ []
of_another = refl

heard_again : lost_in (three ∷ []) (other.Heard 7 ∷ other.Tick ∷ other.Tick ∷ other.Heard 7 ∷ other.Tick ∷ other.Tick ∷ other.Tick ∷ []) ≡ false ∷ false ∷ false ∷ false ∷ false ∷ false ∷ true ∷ []
heard_again = refl

-- another's heartbeat doesn't set the time anew
another_between : lost_in (three ∷ []) (other.Heard 7 ∷ other.Tick ∷ other.Tick ∷ other.Heard 8 ∷ other.Tick ∷ []) ≡ false ∷ false ∷ false ∷ false ∷ true ∷ []
another_between = refl

heard_after_loss : lost_in (three ∷ []) (other.Heard 7 ∷ other.Tick ∷ other.Tick ∷ other.Tick ∷ other.Heard 7 ∷ other.Tick ∷ other.Tick ∷ other.Tick ∷ []) ≡ false ∷ false ∷ false ∷ true ∷ false ∷ false ∷ false ∷ true ∷ []
heard_after_loss = refl

-- after a begin, of the same word too, the first heartbeat is waited for
begun_again : lost_in (three ∷ []) (other.Heard 7 ∷ other.Tick ∷ three ∷ other.Tick ∷ other.Tick ∷ other.Tick ∷ []) ≡ false ∷ false ∷ false ∷ false ∷ false ∷ false ∷ []
begun_again = refl

begun_with_another : lost_in (three ∷ []) (other.Heard 7 ∷ other.Begin 0x00080001 ∷ other.Heard 7 ∷ other.Tick ∷ other.Heard 8 ∷ other.Tick ∷ []) ≡ false ∷ false ∷ false ∷ false ∷ false ∷ true ∷ []
begun_with_another = refl

unused : lost_in (other.Begin 0x00800001 ∷ []) (other.Heard 128 ∷ other.Tick ∷ []) ≡ false ∷ false ∷ []
unused = refl

time_of_0 : lost_in (other.Begin 0x00070000 ∷ []) (other.Heard 7 ∷ other.Tick ∷ []) ≡ false ∷ false ∷ []
time_of_0 = refl

-- so many ticks more
abbrev after_ticks : ℕ → ConsumerLog → ConsumerLog
after_ticks zero log = log
after_ticks (suc n) log = other.Tick ∷ after_ticks n log

-- 100 ms: not at tick 99, at tick 100
tick_99 : is_lost other.Tick (after_ticks 98 (other.Heard 7 ∷ other.Begin 0x00070064 ∷ [])) ≡ false
tick_99 = refl

tick_100 : is_lost other.Tick (after_ticks 99 (other.Heard 7 ∷ other.Begin 0x00070064 ∷ [])) ≡ true
tick_100 = refl

-- ---- all entries

-- nodes 7 and 8, 1 ms each, at sub-indices 1 and 2
abbrev two : ConsumersLog
two = AllBegun (0x00070001 ∷ 0x00080001 ∷ []) ∷ []

both_in_one_tick : lost_at Tick (Noted (Heard 7) ∷ Noted (Heard 8) ∷ two) ≡ 1 ∷ 2 ∷ []
unfolding entry_subs
both_in_one_tick = refl

one_of_two : lost_at Tick (Noted (Heard 8) ∷ two) ≡ 2 ∷ []
unfolding entry_subs
one_of_two = refl

heard_is_no_loss : lost_at (Heard 7) (Noted (Heard 7) ∷ two) ≡ []
unfolding entry_subs
heard_is_no_loss = refl

none_twice : lost_at Tick (Noted Tick ∷ Noted (Heard 7) ∷ Noted (Heard 8) ∷ two) ≡ []
unfolding entry_subs
none_twice = refl

begun_alone : lost_at Tick (Noted (Begin 2 0x00070001) ∷ Noted (Heard 7) ∷ Noted (Heard 8) ∷ two) ≡ 1 ∷ []
unfolding entry_subs
begun_alone = refl

all_begun_again : lost_at Tick (AllBegun (0x00070001 ∷ []) ∷ Noted (Heard 7) ∷ Noted (Heard 8) ∷ two) ≡ []
unfolding entry_subs
all_begun_again = refl

first_and_last : lost_at Tick (Noted (Heard 7) ∷ Noted (Begin 127 0x00070001) ∷ Noted (Begin 1 0x00070001) ∷ []) ≡ 1 ∷ 127 ∷ []
unfolding entry_subs
first_and_last = refl

outside : lost_at Tick (Noted (Heard 7) ∷ Noted (Begin 128 0x00070001) ∷ Noted (Begin 0 0x00070001) ∷ []) ≡ []
unfolding entry_subs
outside = refl

past_the_words : lost_at Tick (Noted (Heard 7) ∷ AllBegun (0x00070001 ∷ []) ∷ Noted (Begin 2 0x00070001) ∷ []) ≡ 1 ∷ []
unfolding entry_subs
past_the_words = refl
