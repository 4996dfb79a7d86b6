-- Worked transfers that are disturbed, computed from the definitions over the dictionary of two entries: the client waits 3 ms
-- for an answer, the channel 2 ms for a request. The first event stands first.
use Rattle.std.proofs.Common.{map, ◌≡◌, List, [], ◌∷◌, refl, codes, Some, true, false, reverse, ap, arith}
use Rattle.co_value.specs.Numbers.{AreBytes}
use Rattle.co_frame.specs.SdoRequests.{request_row_in}
use Rattle.co_frame.specs.SdoResponses.{response_row_in}
use Rattle.co_dict.specs.Objects.{has_object}
use Rattle.co_sdo_client.specs.declared.mode.Mode.TheVariants.{Plain, Segmented, Block}
use Rattle.co_sdo_client.specs.Calls.{Download, Upload}
use Rattle.co_sdo_client.specs.Segments.{bytes_of}
use Rattle.co_sdo_client.specs.Outcomes.{result}
use Rattle.co_sdo.specs.Refused.{reading_refusal, initiate_refusal, completion_refusal}
use Rattle.co_sdo_laws.specs.Undisturbed.{IsUndisturbed}
use Rattle.co_sdo_laws.specs.World.{Setup, WorldEvent, Requests, Answers, Delivered, Lost, Repeated, ClientTicked, ChannelTicked, world_after}
use Rattle.co_sdo_laws.proofs.Examples.{hex, string_key, Report, report, waits, is_done, has_failed, r, a, ten, fourteen, nine, nine_in_blocks, after, AllShow}
use Rattle.co_sdo_laws.proofs.UndisturbedExamples.{is_dictionary, ten_events, ten_undisturbed, fourteen_undisturbed, nine_undisturbed}
use Rattle.co_sdo_loss_laws.specs.Disturbed.{IsAlone, is_plain_download, is_repeat}
use Rattle.co_sdo_loss_laws.proofs.Laws.{download_sets, upload_gives, block_upload_gives, block_download_sets}

-- ---- which laws speak of which transfers

which : map (λ job. map (λ mode. is_plain_download mode job) (Plain ∷ Segmented ∷ Block ∷ []))
    (Download (codes "a") true ∷ Upload 9 ∷ [])
    ≡ (true ∷ true ∷ false ∷ []) ∷ (false ∷ false ∷ false ∷ []) ∷ []
which = refl

-- each transfer that the laws of undisturbed ones speak of is alone
alone : (s : Setup) (events : List WorldEvent) → IsUndisturbed s events → AreBytes (bytes_of s.call.job) → IsAlone s
alone s events u small = record { dictionary = u.dictionary; key = u.key; bytes = small; idle = u.idle }

-- its client, of a report
state_of : {x y : Report} → x ≡ y → x.state ≡ y.state
state_of e = ap (λ (report : Report). report.state) e

is_repeat_rows : map is_repeat (Delivered Requests ∷ Lost Answers ∷ Repeated Answers ∷ Repeated Requests ∷ ClientTicked ∷ ChannelTicked ∷ []) ≡ false ∷ false ∷ true ∷ true ∷ false ∷ false ∷ []
is_repeat_rows = refl

-- ---- clients that fail, or wait still

disturbed : AllShow (
    -- the first segment is lost, and the channel's time is over: the client fails, and the entry is as it was
    after ten (r ∷ a ∷ Lost Requests ∷ ChannelTicked ∷ ChannelTicked ∷ a ∷ []) (has_failed 0x05040000 2 [] [] (codes "ABCDEFGHI"))
    -- the answer to the first segment comes again: its toggle isn't the awaited one
    ∷ after ten (r ∷ a ∷ r ∷ Repeated Answers ∷ a ∷ [])
    (has_failed 0x05030000 4 (hex (codes "1937383900000000") ∷ hex (codes "8001200000000305") ∷ []) [] (codes "ABCDEFGHI"))
    -- and where the last segment is lost as well, the repeated answer isn't taken for its answer: the abort arrives, and the
    -- entry is as it was
    ∷ after ten (r ∷ a ∷ r ∷ Repeated Answers ∷ Lost Requests ∷ a ∷ r ∷ []) (has_failed 0x05030000 4 [] [] (codes "ABCDEFGHI"))
    -- the last answer is lost, and the client's time is over: it fails, though the entry is set. So it is of a client that is
    -- done alone that the law can speak.
    ∷ after ten (r ∷ a ∷ r ∷ a ∷ r ∷ Lost Answers ∷ ClientTicked ∷ ClientTicked ∷ ClientTicked ∷ [])
    (has_failed 0x05040000 4 (hex (codes "8001200000000405") ∷ []) [] (codes "0123456789"))
    -- the request of the first segment comes twice: the second has the wrong toggle, and nothing is open after it
    ∷ after nine (r ∷ a ∷ Repeated Requests ∷ r ∷ a ∷ r ∷ a ∷ [])
    (has_failed 0x05030000 3 [] (hex (codes "8000000001000405") ∷ []) (codes "ABCDEFGHI"))
    -- in blocks the first of two segments is lost: the second isn't taken, and the sub-block is acknowledged as of none
    ∷ after nine_in_blocks (r ∷ a ∷ r ∷ Lost Answers ∷ a ∷ []) (waits 3 (hex (codes "A2007F0000000000") ∷ []) [] (codes "ABCDEFGHI"))
    ∷ after fourteen (r ∷ a ∷ Lost Requests ∷ r ∷ []) (waits 3 [] (hex (codes "A2007F0000000000") ∷ []) [])
    -- the last segment is lost: the sub-block doesn't end, and the channel's time is over
    ∷ after nine_in_blocks (r ∷ a ∷ r ∷ a ∷ Lost Answers ∷ ChannelTicked ∷ ChannelTicked ∷ a ∷ [])
    (has_failed 0x05040000 2 [] [] (codes "ABCDEFGHI"))
    -- the channel's time is over before the segments come: it hears them as requests, and none of its answers is awaited
    ∷ after fourteen (r ∷ a ∷ ChannelTicked ∷ ChannelTicked ∷ Lost Answers ∷ r ∷ a ∷ [])
    (has_failed 0x05040001 3 (hex (codes "8237383941424344") ∷ []) [] [])
    ∷ [])
unfolding request_row_in response_row_in reading_refusal initiate_refusal completion_refusal has_object
disturbed = refl

-- ---- clients that are done

-- the begin comes twice, and one of its two answers is lost; the channel ticks; the last segment comes twice, and the second is
-- refused: the client is done, and an abort is left
abbrev disturbed_events : List WorldEvent
disturbed_events = Repeated Requests ∷ r ∷ a ∷ Lost Answers ∷ r ∷ ChannelTicked ∷ a ∷ Repeated Requests ∷ r ∷ a ∷ []

disturbed_ten : report ten disturbed_events ≡ is_done 3 [] (hex (codes "8000000001000405") ∷ []) (codes "0123456789") []
unfolding request_row_in response_row_in reading_refusal initiate_refusal completion_refusal has_object
disturbed_ten = refl

-- it is alone, so that the law says what the entry has
ten_alone : IsAlone ten
ten_alone = alone ten ten_events ten_undisturbed (omega arith)

disturbed_entry : (world_after ten (reverse disturbed_events)).contents string_key ≡ Some (codes "0123456789")
disturbed_entry = download_sets ten (reverse disturbed_events) ten_alone refl (state_of disturbed_ten)

-- the begin comes twice, and the second is lost on its way: the client is done
abbrev disturbed_reading : List WorldEvent
disturbed_reading = Repeated Requests ∷ Lost Requests ∷ a ∷ r ∷ ClientTicked ∷ a ∷ r ∷ a ∷ []

disturbed_nine : report nine disturbed_reading ≡ is_done 3 [] [] (codes "ABCDEFGHI") (codes "ABCDEFGHI")
unfolding request_row_in response_row_in reading_refusal initiate_refusal completion_refusal has_object
disturbed_nine = refl

nine_alone : IsAlone nine
unfolding reading_refusal initiate_refusal completion_refusal has_object
nine_alone = alone nine [] (record { dictionary = is_dictionary; key = omega arith; job = omega arith; permitted = refl; idle = refl; calm = tt }) tt

disturbed_value : result nine.call (world_after nine (reverse disturbed_reading)).events ≡ codes "ABCDEFGHI"
disturbed_value = upload_gives nine (reverse disturbed_reading) nine_alone refl (state_of disturbed_nine)

-- in blocks the first of two segments is lost, and both are sent again: the client is done
abbrev disturbed_blocks : List WorldEvent
disturbed_blocks = r ∷ a ∷ r ∷ Lost Answers ∷ a ∷ r ∷ ClientTicked ∷ a ∷ a ∷ r ∷ a ∷ []

disturbed_blocks_done : report nine_in_blocks disturbed_blocks
    ≡ is_done 5 (hex (codes "A100000000000000") ∷ []) [] (codes "ABCDEFGHI") (codes "ABCDEFGHI")
unfolding request_row_in response_row_in reading_refusal initiate_refusal completion_refusal has_object
disturbed_blocks_done = refl

nine_in_blocks_alone : IsAlone nine_in_blocks
nine_in_blocks_alone = alone nine_in_blocks [] (nine_undisturbed 0) tt

disturbed_blocks_value : result nine_in_blocks.call (world_after nine_in_blocks (reverse disturbed_blocks)).events ≡ codes "ABCDEFGHI"
disturbed_blocks_value = block_upload_gives nine_in_blocks (reverse disturbed_blocks) nine_in_blocks_alone refl refl (state_of disturbed_blocks_done)

abbrev disturbed_fourteen : List WorldEvent
disturbed_fourteen = r ∷ a ∷ Lost Requests ∷ r ∷ a ∷ r ∷ ChannelTicked ∷ r ∷ a ∷ r ∷ a ∷ []

fourteen_done : report fourteen disturbed_fourteen ≡ is_done 6 [] [] (codes "0123456789ABCD") []
unfolding request_row_in response_row_in reading_refusal initiate_refusal completion_refusal has_object
fourteen_done = refl

fourteen_alone : IsAlone fourteen
fourteen_alone = alone fourteen [] (fourteen_undisturbed 0) (omega arith)

fourteen_entry : (world_after fourteen (reverse disturbed_fourteen)).contents fourteen.call.key ≡ Some (codes "0123456789ABCD")
fourteen_entry = block_download_sets fourteen (reverse disturbed_fourteen) fourteen_alone refl refl (state_of fourteen_done)
