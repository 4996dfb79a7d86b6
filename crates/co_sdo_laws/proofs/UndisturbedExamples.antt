-- Transfers that nothing disturbs over the dictionary of two entries: there are some, and what is none.
use Rattle.std.proofs.Common.{◌≡◌, ℕ, ◌≤◌, Bool, true, false, List, [], ◌∷◌, length, codes, Some, None, refl, sym, subst, arith, map}
use Rattle.std.proofs.lemmas.Int.{ints}
use Rattle.std.specs.Prelude.{is_some}
use Rattle.std.specs.List.{list_any}
use Rattle.co_value.specs.declared.key.Key.{Key}
use Rattle.co_value.specs.Keys.{same_key, same_key-is}
use Rattle.co_value.specs.Numbers.{AreBytes}
use Rattle.co_value.specs.declared.data_type.DataType.TheVariants.{VisibleString, Domain}
use Rattle.co_profile.specs.FixedTypes.{fixed_type_of}
use Rattle.co_value.specs.Types.{width_of}
use Rattle.co_frame.specs.SdoRequests.{request_row_in}
use Rattle.co_frame.specs.SdoResponses.{response_row_in}
use Rattle.co_dict.specs.declared.row.Row.{Row}
use Rattle.co_dict.specs.Rows.{fits}
use Rattle.co_dict.specs.Objects.{has_object}
use Rattle.co_dict.specs.Stores.{IsFilled, IsKey, HasLimits, IsDescription, IsDictionary}
use Rattle.co_sdo_client.specs.declared.mode.Mode.TheVariants.{Segmented, Block, Plain}
use Rattle.co_sdo_client.specs.declared.state.ClientState.TheVariants.{Done, Waiting}
use Rattle.co_sdo_client.specs.Calls.{Download, Upload, Call, Job}
use Rattle.co_sdo_client.specs.Outcomes.{outcome}
use Rattle.co_sdo.specs.Refused.{reading_refusal, initiate_refusal, completion_refusal}
use Rattle.co_sdo.specs.Opened.{opened_after}
use Rattle.co_sdo_laws.specs.World.{Setup, World, WorldEvent, Requests, Answers, Lost, Repeated, ClientTicked, ChannelTicked, world_after}
use Rattle.co_sdo_laws.specs.Undisturbed.{IsCalm, AreCalm, IsPermitted, IsUndisturbed, rounds_after, GoesInTurns, arrived, IsOver}
use Rattle.co_sdo_laws.proofs.Channel.{tick_opens, is_filled}
use Rattle.co_sdo_laws.proofs.Permits.{none≢some}
use Rattle.co_sdo_laws.proofs.Progress.{rounds_calm}
use Rattle.co_sdo_laws.proofs.Transfers.{segmented}
use Rattle.co_sdo_laws.proofs.Examples.{string_key, domain_key, row, row_in, bytes_in, dictionary, r, a, ten, fourteen, nine_in_blocks, setup, after, AllShow, waits, is_done}
use Rattle.co_sdo.specs.Log.{exchanges}
use Rattle.co_sdo.specs.OpenTransfers.{open_transfer}
use Rattle.co_sdo_client.specs.declared.mode.Mode.{Mode}
use Rattle.co_sdo_laws.specs.Chains.{Server, Transfer, outcomes, results, server_after_all, contents_after_all, all_bytes_given, MayCall, MayCallAll, IsWhole, IsReady, IsChain, frames_needed, all_in_rounds}
use Rattle.co_sdo_laws.proofs.Chains.{all_end, chain_in_rounds}

-- ---- the example's dictionary is one

-- what holds of both keys, and of each without an entry, holds of every key
each_key : (P : Key → Type 0) → P string_key → P domain_key
    → ((key : Key) → same_key key string_key ≡ false → same_key key domain_key ≡ false → P key)
    → (key : Key) → P key
each_key P first second others key = by (same_key key string_key) (same_key key domain_key) refl refl
  where
    by : (a b : Bool) → same_key key string_key ≡ a → same_key key domain_key ≡ b → P key
    by true b e f = subst P (sym (same_key-is key string_key e)) first
    by false true e f = subst P (sym (same_key-is key domain_key f)) second
    by false false e f = others key e f

some_is : {A : Type 0} (x y : A) → Some x ≡ Some y → y ≡ x
some_is x y e = cc

-- what holds of both rows holds of each
at_each : (P : Key → Row → Type 0) → P string_key (row VisibleString 16) → P domain_key (row Domain 20) → (key : Key) (held : Row)
    → row_in key ≡ Some held → P key held
at_each P first second = each_key (λ k. (held : Row) → row_in k ≡ Some held → P k held)
    (λ held h. rw (some_is (row VisibleString 16) held h) first) (λ held h. rw (some_is (row Domain 20) held h) second)
    (λ key e f held h. let none : row_in key ≡ None = rw (e, f) refl in cc)

filled : IsFilled row_in bytes_in
filled = record {
  present = each_key (λ k. is_some (bytes_in k) ≡ is_some (row_in k)) refl refl (λ key e f. rw (e, f) refl);
  fitting = λ key held bytes h g. at_each (λ k r. bytes_in k ≡ Some bytes → fits r (length bytes) ≡ true)
      (λ e. rw (some_is (codes "ABCDEFGHI") bytes e) refl) (λ e. rw (some_is [] bytes e) refl) key held h g;
  bytes = λ key bytes. each_key (λ k. bytes_in k ≡ Some bytes → AreBytes bytes)
      (λ e. rw (some_is (codes "ABCDEFGHI") bytes e) (omega arith)) (λ e. rw (some_is [] bytes e) tt)
      (λ other e f g. let none : bytes_in other ≡ None = rw (e, f) refl in cc) key;
}

described : IsDescription dictionary
described = record {
  first_node = omega arith;
  last_node = omega arith;
  finite = each_key (λ k. is_some (row_in k) ≡ list_any (same_key k) (string_key ∷ domain_key ∷ []))
      refl refl (λ key e f. rw (e, f) refl);
  width = λ key held width h g. at_each (λ k r. width_of r.data_type ≡ Some width → r.capacity ≡ width)
      (λ e. let none : None ≡ Some width = e in cc) (λ e. let none : None ≡ Some width = e in cc) key held h g;
  fixed = λ key held t h g. at_each (λ k r. fixed_type_of k ≡ Some t → r.data_type ≡ t)
      (λ e. let none : None ≡ Some t = e in cc) (λ e. let none : None ≡ Some t = e in cc) key held h g;
  key = at_each (λ k r. IsKey k) (record { index = omega arith; sub = omega arith }) (record { index = omega arith; sub = omega arith });
  from_1000 = at_each (λ k r. 0x1000 ≤ k.index) (omega arith) (omega arith);
  capacity = at_each (λ k r. r.capacity ≤ 65535) (omega arith) (omega arith);
  limits = at_each (λ k r. HasLimits r)
      (record { ordered = omega (arith, ints); low = λ width g. cc; high = λ width g. cc })
      (record { ordered = omega (arith, ints); low = λ width g. cc; high = λ width g. cc });
  dummies = λ index h. cc;
}

pub is_dictionary : IsDictionary dictionary bytes_in
is_dictionary = record { description = described; initially = filled; filled = filled }

-- ---- ten bytes to the string, in segments: the client waits 3 ms, the channel 2 ms

-- the begin arrives, each end ticks without its time being over, its answer arrives, and then all the rest; newest first
abbrev pub ten_events : List WorldEvent
ten_events = a ∷ r ∷ a ∷ r ∷ a ∷ ChannelTicked ∷ ClientTicked ∷ ClientTicked ∷ r ∷ []

ten_calm : AreCalm ten ten_events
unfolding request_row_in response_row_in reading_refusal initiate_refusal completion_refusal has_object
ten_calm = (tt, (tt, (tt, (tt, (tt, (refl, ((λ waits. refl), ((λ waits. refl), (tt, tt)))))))))

pub ten_undisturbed : IsUndisturbed ten ten_events
unfolding reading_refusal initiate_refusal completion_refusal has_object
ten_undisturbed = record { dictionary = is_dictionary; key = omega arith; job = omega arith; permitted = refl; idle = refl; calm = ten_calm }

ten_done : outcome ten.call (world_after ten ten_events).events ≡ Done
unfolding request_row_in response_row_in reading_refusal initiate_refusal completion_refusal has_object
ten_done = refl

-- so that the law says how it goes
ten_goes : GoesInTurns ten.call 3 (world_after ten ten_events)
ten_goes = (segmented ten ten_events ten_undisturbed refl).turns ten_events ten_calm

-- ---- and in blocks: any number of rounds

pub fourteen_undisturbed : (n : ℕ) → IsUndisturbed fourteen (rounds_after n [])
unfolding reading_refusal initiate_refusal completion_refusal has_object
fourteen_undisturbed n = record { dictionary = is_dictionary; key = omega arith; job = omega arith; permitted = refl; idle = refl; calm = rounds_calm fourteen n [] tt }

pub nine_undisturbed : (n : ℕ) → IsUndisturbed nine_in_blocks (rounds_after n [])
unfolding reading_refusal initiate_refusal completion_refusal has_object
nine_undisturbed n = record { dictionary = is_dictionary; key = omega arith; job = omega arith; permitted = refl; idle = refl; calm = rounds_calm nine_in_blocks n [] tt }

-- ---- what disturbs it

-- a third tick of the client while it waits
third_tick : IsCalm ten ClientTicked (world_after ten (ClientTicked ∷ ClientTicked ∷ r ∷ [])) → ⊥
unfolding request_row_in response_row_in reading_refusal initiate_refusal completion_refusal has_object
third_tick calm = let e : true ≡ false = calm refl in cc

-- a second tick of the channel while the transfer is open
second_tick : IsCalm ten ChannelTicked (world_after ten (ChannelTicked ∷ r ∷ [])) → ⊥
unfolding request_row_in response_row_in reading_refusal initiate_refusal completion_refusal has_object
second_tick calm = let e : true ≡ false = calm in cc

-- a lost or a repeated frame
lost_frame : IsCalm ten (Lost Requests) (world_after ten []) → ⊥
lost_frame calm = calm

repeated_frame : IsCalm ten (Repeated Answers) (world_after ten (r ∷ [])) → ⊥
repeated_frame calm = calm

-- ---- ticks after it

-- any tick of a client that is done
done_ticks : (s : Setup) (w : World) → outcome s.call w.events ≡ Done → IsCalm s ClientTicked w
done_ticks s w done waits = cc

-- any tick of a channel where no transfer is open
idle_ticks : (s : Setup) (w : World) → opened_after w.log ≡ None → IsCalm s ChannelTicked w
idle_ticks s w idle = rw (tick_opens w.log, idle) refl

-- as with ten bytes, when all have arrived
ten_ticks_later : AreCalm ten (ClientTicked ∷ ClientTicked ∷ ClientTicked ∷ ClientTicked ∷ ChannelTicked ∷ ChannelTicked ∷ ChannelTicked ∷ ten_events)
unfolding request_row_in response_row_in reading_refusal initiate_refusal completion_refusal has_object
ten_ticks_later = ((λ waits. cc), ((λ waits. cc), ((λ waits. cc), ((λ waits. cc), (refl, (refl, (refl, ten_calm)))))))

-- ---- what isn't permitted

-- 17 bytes don't fit the string
too_long : IsPermitted dictionary bytes_in string_key (Download (codes "0123456789ABCDEFG") true) → ⊥
unfolding reading_refusal initiate_refusal completion_refusal has_object
too_long h = none≢some _ 0x06070012 h refl

-- there is no entry 2002:00
not_there : IsPermitted dictionary bytes_in (record { index = 0x2002; sub = 0 }) (Upload 9) → ⊥
unfolding reading_refusal initiate_refusal completion_refusal has_object
not_there h = none≢some _ 0x06020000 h refl

-- so that nothing is an undisturbed transfer of 17 bytes
never_undisturbed : (events : List WorldEvent) → IsUndisturbed (setup string_key Segmented (Download (codes "0123456789ABCDEFG") true)) events → ⊥
never_undisturbed events u = too_long u.permitted

-- ---- a channel that has a past

-- another client begins in a world that events, newest first, came to
abbrev then_call : Setup → List WorldEvent → Call → Setup
then_call s events call = record {
  call = call;
  time = s.time;
  description = s.description;
  contents = (world_after s events).contents;
  past = (world_after s events).log;
}

-- ---- after a transfer that was finished

-- ten bytes were written to the string in segments, and are read again
abbrev read_again : Setup
read_again = then_call ten (rounds_after 3 []) (record { key = string_key; mode = Segmented; time = 3; job = Upload 16 })

three_exchanges : length (exchanges read_again.past) ≡ 3
unfolding request_row_in response_row_in reading_refusal initiate_refusal completion_refusal has_object
three_exchanges = refl

read_dictionary : IsDictionary dictionary read_again.contents
unfolding request_row_in response_row_in reading_refusal initiate_refusal completion_refusal has_object
read_dictionary = record {
  description = is_dictionary.description;
  initially = is_dictionary.initially;
  filled = is_filled row_in bytes_in string_key (codes "0123456789") is_dictionary.filled refl (omega arith);
}

read_undisturbed : (n : ℕ) → IsUndisturbed read_again (rounds_after n [])
unfolding request_row_in response_row_in reading_refusal initiate_refusal completion_refusal has_object
read_undisturbed n = record { dictionary = read_dictionary; key = omega arith; job = omega arith; permitted = refl; idle = refl; calm = rounds_calm read_again n [] tt }

-- those that arrived before don't count
read_arrived : map (λ n. arrived (world_after read_again (rounds_after n []))) (0 ∷ 1 ∷ 2 ∷ 3 ∷ 4 ∷ []) ≡ 0 ∷ 2 ∷ 4 ∷ 6 ∷ 6 ∷ []
unfolding request_row_in response_row_in reading_refusal initiate_refusal completion_refusal has_object
read_arrived = refl

-- ---- after a transfer that the channel gave up

-- the first segment of ten bytes was lost, and the channel's time was over
abbrev lost_events : List WorldEvent
lost_events = ChannelTicked ∷ ChannelTicked ∷ Lost Requests ∷ a ∷ r ∷ []

-- while the transfer is open the channel isn't idle
open_before : open_transfer (world_after ten (a ∷ r ∷ [])).log ≡ None → ⊥
unfolding request_row_in response_row_in reading_refusal initiate_refusal completion_refusal has_object
open_before e = cc

abbrev write_again : Setup
write_again = then_call ten lost_events ten.call

-- the channel is idle, and each number of rounds is undisturbed
write_undisturbed : (n : ℕ) → IsUndisturbed write_again (rounds_after n [])
unfolding request_row_in response_row_in reading_refusal initiate_refusal completion_refusal has_object
write_undisturbed n = record { dictionary = is_dictionary; key = omega arith; job = omega arith; permitted = refl; idle = refl; calm = rounds_calm write_again n [] tt }

write_goes : (n : ℕ) → GoesInTurns write_again.call 3 (world_after write_again (rounds_after n []))
write_goes n = (segmented write_again (rounds_after n []) (write_undisturbed n) refl).turns (rounds_after n []) (write_undisturbed n).calm

-- ---- a channel that isn't idle

-- fourteen bytes were begun in blocks, and their client is gone: the sub-block takes the next begin for a segment that isn't
-- awaited, no answer comes, and nothing is on its way
abbrev inside_blocks : Setup
inside_blocks = then_call fourteen (a ∷ r ∷ []) ten.call

still_open : open_transfer inside_blocks.past ≡ None → ⊥
unfolding request_row_in response_row_in reading_refusal initiate_refusal completion_refusal has_object
still_open e = cc

with_a_past : AllShow (
    after read_again (r ∷ a ∷ r ∷ a ∷ r ∷ a ∷ []) (is_done 3 [] [] (codes "0123456789") (codes "0123456789"))
    ∷ after write_again (r ∷ a ∷ r ∷ a ∷ r ∷ a ∷ []) (is_done 3 [] [] (codes "0123456789") [])
    ∷ after inside_blocks (r ∷ []) (waits 1 [] [] (codes "ABCDEFGHI"))
    ∷ [])
unfolding request_row_in response_row_in reading_refusal initiate_refusal completion_refusal has_object
with_a_past = refl

-- ---- chains of transfers

abbrev server : Server
server = record { time = 2; description = dictionary; contents = bytes_in; past = [] }

ready : IsReady server
ready = record { idle = refl; dictionary = is_dictionary }

abbrev call_for : Key → Mode → Job → Call
call_for key mode job = record { key = key; mode = mode; time = 3; job = job }

-- ---- the string is read, written, and read again

abbrev write_ten : Call
write_ten = call_for string_key Segmented (Download (codes "0123456789") true)

abbrev read_string : Mode → Call
read_string mode = call_for string_key mode (Upload 16)

abbrev read_and_write : List Call
read_and_write = read_string Segmented ∷ write_ten ∷ read_string Block ∷ []

abbrev write_three : Call
write_three = call_for string_key Plain (Download (codes "abc") false)

by_the_entries : map (all_bytes_given bytes_in) (
    -- the second reading gives what was written, the first what was there before
    read_and_write
    -- the later of two writings counts
    ∷ (write_ten ∷ write_three ∷ read_string Plain ∷ [])
    -- nothing else is read of what was written
    ∷ (write_ten ∷ call_for domain_key Plain (Upload 20) ∷ [])
    ∷ [])
    ≡ (codes "ABCDEFGHI" ∷ [] ∷ codes "0123456789" ∷ []) ∷ ([] ∷ [] ∷ codes "abc" ∷ []) ∷ ([] ∷ [] ∷ []) ∷ []
by_the_entries = refl

entries_after : map (contents_after_all bytes_in read_and_write) (string_key ∷ domain_key ∷ [])
    ≡ Some (codes "0123456789") ∷ Some [] ∷ []
entries_after = refl

-- the same of the worlds
all_are_done : outcomes server (all_in_rounds bytes_in read_and_write) ≡ Done ∷ Done ∷ Done ∷ []
unfolding request_row_in response_row_in reading_refusal initiate_refusal completion_refusal has_object
all_are_done = refl

string_written : (server_after_all server (all_in_rounds bytes_in read_and_write)).contents string_key
    ≡ Some (codes "0123456789")
unfolding request_row_in response_row_in reading_refusal initiate_refusal completion_refusal has_object
string_written = refl

-- ---- the law is about them

may_read_and_write : MayCallAll dictionary bytes_in read_and_write
unfolding reading_refusal initiate_refusal completion_refusal has_object
may_read_and_write = (
  record { key = omega arith; job = omega arith; permitted = refl; fits = omega arith },
  (
    record { key = omega arith; job = omega arith; permitted = refl; fits = omega arith },
    (record { key = omega arith; job = omega arith; permitted = refl; fits = omega arith }, tt),
  ),
)

chain : IsChain server (all_in_rounds bytes_in read_and_write)
chain = chain_in_rounds server read_and_write ready may_read_and_write

by_the_law : results server (all_in_rounds bytes_in read_and_write)
    ≡ codes "ABCDEFGHI" ∷ [] ∷ codes "0123456789" ∷ []
by_the_law = (all_end server (all_in_rounds bytes_in read_and_write) chain.ready chain.permitted chain.whole).values

-- ---- what is no such chain

-- a client without room for the bytes that were written before
too_little_room : MayCallAll dictionary bytes_in (write_ten ∷ call_for string_key Segmented (Upload 9) ∷ []) → ⊥
too_little_room may = let fits = may.1.0.fits in omega arith

-- what is no byte, and an index of more than 16 bits
no_byte : MayCall dictionary bytes_in (call_for domain_key Plain (Download (256 ∷ []) true)) → ⊥
no_byte may = let fits = may.fits in omega arith

long_index : MayCall dictionary bytes_in (call_for (record { index = 65536; sub = 0 }) Plain (Upload 9)) → ⊥
long_index may = let key = may.key in omega arith

-- a channel with a download open
not_ready : IsReady (record server { past = (world_after ten (a ∷ r ∷ [])).log }) → ⊥
not_ready ready = open_before ready.idle

-- a transfer that is left while a frame is on its way
abbrev left_early : Transfer
left_early = record { call = write_ten; events = rounds_after 2 [] }

not_whole : IsWhole server left_early → ⊥
unfolding request_row_in response_row_in reading_refusal initiate_refusal completion_refusal has_object
not_whole whole = let rests = whole.rests in cc

-- its client waits
waits_still : outcomes server (left_early ∷ []) ≡ Waiting ∷ []
unfolding request_row_in response_row_in reading_refusal initiate_refusal completion_refusal has_object
waits_still = refl

-- the client of a block upload is done when it has sent its end, and the channel not before that has come
nine_done : outcome nine_in_blocks.call (world_after nine_in_blocks (a ∷ r ∷ a ∷ a ∷ r ∷ a ∷ r ∷ [])).events ≡ Done
unfolding request_row_in response_row_in reading_refusal initiate_refusal completion_refusal has_object
nine_done = refl

nine_not_over : IsOver nine_in_blocks (world_after nine_in_blocks (a ∷ r ∷ a ∷ a ∷ r ∷ a ∷ r ∷ [])) → ⊥
unfolding request_row_in response_row_in reading_refusal initiate_refusal completion_refusal has_object
nine_not_over over = let idle = over.idle in cc

nine_over : open_transfer (world_after nine_in_blocks (r ∷ a ∷ r ∷ a ∷ a ∷ r ∷ a ∷ r ∷ [])).log ≡ None
unfolding request_row_in response_row_in reading_refusal initiate_refusal completion_refusal has_object
nine_over = refl

-- ---- how many frames a transfer takes

-- of ten bytes to the string, of four, of its nine bytes and of none
some_frames : map (λ (x : Key × Job).
    map (λ mode. frames_needed mode bytes_in x.0 x.1) (Plain ∷ Segmented ∷ Block ∷ [])) (
    (string_key, Download (codes "0123456789") true)
    ∷ (string_key, Download (codes "0123") true)
    ∷ (string_key, Upload 16)
    ∷ (domain_key, Upload 16)
    ∷ [])
    ≡ (6 ∷ 6 ∷ 7 ∷ []) ∷ (2 ∷ 4 ∷ 6 ∷ []) ∷ (6 ∷ 6 ∷ 8 ∷ []) ∷ (4 ∷ 4 ∷ 7 ∷ []) ∷ []
some_frames = refl
