-- How long the device awaits its client, and which servers time out too early or too late, on both sides of each edge, computed from the
-- definitions.
use Rattle.std.proofs.Common.{◌≡◌, ℕ, List, [], ◌∷◌, true, false, map, Option, Some, None, refl}
use Rattle.co_frame.specs.SdoRequests.{request_row_in}
use Rattle.co_frame.specs.SdoResponses.{response_row_in}
use Rattle.co_value.specs.declared.key.Key.{Key}
use Rattle.conode_explain_transfers.specs.declared.ended.Ending.{Ending}
use Rattle.conode_explain_transfers.specs.declared.ended.Ending.TheVariants.{Aborted, Done}
use Rattle.conode_explain_transfers.specs.declared.kinds.Direction.TheVariants.{Upload}
use Rattle.conode_explain_transfers.specs.declared.kinds.Protocol.TheVariants.{Segmented}
use Rattle.conode_explain_transfers.specs.declared.kinds.Side.{Side}
use Rattle.conode_explain_transfers.specs.declared.kinds.Side.TheVariants.{Client, Server}
use Rattle.conode_explain_transfers.specs.declared.kinds.What.TheVariants.{Initiate, OutOfSequence, Part, Segment, Stray, Unexpected}
use Rattle.conode_compare_transfers.specs.declared.breach.Breach.TheVariants.{Early}
use Rattle.conode_compare_transfers.specs.declared.dialogue.Dialogue.{Dialogue}
use Rattle.conode_compare_transfers.specs.declared.dialogue.Exchange.{Exchange}
use Rattle.conode_compare_transfers.specs.declared.newest.Newest.TheVariants.{Acknowledge, AllAcknowledged, Answer, Data, LaterAcknowledge, LaterData, LastData, Request}
use Rattle.conode_compare_transfers.specs.Breaches.{breach_at}
use Rattle.conode_compare_transfers.specs.Dialogues.{awaited_for, dialogue_heard, exchange_in, is_certain, nothing_asked}
use Rattle.conode_compare_transfers.specs.NewestFrames.{newest_after, newest_with}
use Rattle.conode_compare_transfers.specs.Timeouts.{early_abort, is_late, resumed_after, served_key}

abbrev entry : ℕ → Key
entry index = record { index = index; sub = 1 }

abbrev sent : Dialogue → ℕ → Side → List ℕ → Dialogue
sent dialogue micros side bytes = dialogue_heard 1000 0 dialogue micros side (record { id = 0x585; bytes = bytes })

-- ---- how long the client is awaited

awaiting : map (λ newest. awaited_for (Some newest) 1000 1500) (Answer ∷ Data ∷ LastData 3 ∷ LaterData ∷ [])
    ≡ Some 500 ∷ Some 500 ∷ Some 500 ∷ Some 500 ∷ []
awaiting = refl

-- it is to answer, or a frame came out of its turn
not_awaiting : map (λ newest. awaited_for newest 1000 1500) (Some Request ∷ Some Acknowledge ∷ Some LaterAcknowledge ∷ Some AllAcknowledged ∷ None ∷ [])
    ≡ None ∷ None ∷ None ∷ None ∷ None ∷ []
not_awaiting = refl

-- an upload of 2000:01 in segments: initiated, answered 200 ms later, and the client's next frame
-- 700 ms after its first one
abbrev uploading : Dialogue
uploading = sent (sent nothing_asked 2000000 Client (0x40 ∷ 0 ∷ 0x20 ∷ 1 ∷ 0 ∷ 0 ∷ 0 ∷ 0 ∷ [])) 2200000 Server (0x41 ∷ 0 ∷ 0x20 ∷ 1 ∷ 9 ∷ 0 ∷ 0 ∷ 0 ∷ [])

abbrev awaited_at : Dialogue → ℕ → Side → List ℕ → Option ℕ
awaited_at d micros side bytes = (exchange_in 1000 0 d micros side (record { id = 0x600; bytes = bytes })).awaited

awaited_since_request : awaited_at uploading 2700000 Client (0x60 ∷ 0 ∷ 0 ∷ 0 ∷ 0 ∷ 0 ∷ 0 ∷ 0 ∷ []) ≡ Some 700000
unfolding dialogue_heard exchange_in is_certain newest_after newest_with breach_at request_row_in response_row_in
awaited_since_request = refl

-- the client's frame isn't answered yet
awaited_no_more : awaited_at (sent uploading 2700000 Client (0x60 ∷ 0 ∷ 0 ∷ 0 ∷ 0 ∷ 0 ∷ 0 ∷ 0 ∷ [])) 2800000 Server (0x80 ∷ 0 ∷ 0x20 ∷ 1 ∷ 0 ∷ 0 ∷ 4 ∷ 5 ∷ [])
    ≡ None
unfolding dialogue_heard exchange_in is_certain newest_after newest_with breach_at request_row_in response_row_in
awaited_no_more = refl

-- ---- a server that times out

-- the transfer of 2000:01 ends so; how long the device has awaited the client then
abbrev ended_by : Ending → Option ℕ → Exchange
ended_by ending awaited = record {
  heard = record {
    what = Part;
    of = None;
    ended = Some (record {
      key = entry 0x2000;
      direction = Upload;
      protocol = Segmented;
      bytes = 7;
      first = record { items = [] };
      frames = 5;
      begun = 1;
      newest = 2;
      end = 3;
      ending = ending;
      fault = None;
    });
  };
  asked = None;
  owed = false;
  certain = true;
  breach = None;
  awaited = awaited;
}

abbrev server_aborts : ℕ → Ending
server_aborts code = Aborted Server (record { 0 = code })

-- 1000 ms, less 10 ms and 1 %
early_aborts : map (λ awaited. early_abort 10 1 (Some 1000) (ended_by (server_aborts 0x05040000) awaited)) (Some 979999 ∷ Some 980000 ∷ Some 3000000 ∷ None ∷ [])
    ≡ Some (Early (entry 0x2000) 979999 1000) ∷ None ∷ None ∷ None ∷ []
early_aborts = refl

-- it isn't known when the server times out; it never does
timeouts : map (λ time. early_abort 10 1 time (ended_by (server_aborts 0x05040000) (Some 3000000))) (None ∷ Some 0 ∷ Some 3030 ∷ Some 3050 ∷ [])
    ≡ None ∷ Some (Early (entry 0x2000) 3000000 0) ∷ None ∷ Some (Early (entry 0x2000) 3000000 3050) ∷ []
timeouts = refl

-- the client's abort, another code, and a transfer that is done
no_timeouts : map (λ ending. early_abort 10 1 (Some 1000) (ended_by ending (Some 1))) (Aborted Client (record { 0 = 0x05040000 }) ∷ server_aborts 0x05040001 ∷ Done false ∷ [])
    ≡ None ∷ None ∷ None ∷ []
no_timeouts = refl

-- 1000 ms, with 10 ms and 1 %; without a timeout nothing is late
late_frames : is_late 10 1 1000 1020000 ∷ is_late 10 1 1000 1020001 ∷ is_late 10 1 0 5000000 ∷ [] ≡ false ∷ true ∷ false ∷ []
late_frames = refl

-- the client's frame, a first segment, a later one; another transfer begins
resumed_by : map (λ what. resumed_after Client what (Some 5) (Some 3)) (Part ∷ Segment 1 ∷ OutOfSequence 3 2 ∷ Initiate ∷ Stray ∷ [])
    ≡ Some 5 ∷ Some 5 ∷ Some 5 ∷ None ∷ None ∷ []
unfolding resumed_after
resumed_by = refl

-- the next segment of the sub-block, which the device doesn't await so; the device's answer
resumed_before : resumed_after Client (Segment 2) None (Some 3) ∷ resumed_after Server Part (Some 5) (Some 3) ∷ [] ≡ Some 3 ∷ None ∷ []
unfolding resumed_after
resumed_before = refl

-- an answer within the transfer, its end, an abort, and a frame of no transfer
served_by : served_key (record { what = Part; of = Some (entry 0x2000); ended = None }) ∷ served_key (ended_by (Done false) None).heard
    ∷ served_key (ended_by (server_aborts 0x05040000) None).heard ∷ served_key (record { what = Unexpected; of = Some (entry 0x2000); ended = None }) ∷ []
    ≡ Some (entry 0x2000) ∷ Some (entry 0x2000) ∷ None ∷ None ∷ []
unfolding served_key
served_by = refl
