-- Lines of transfers that ended, computed from the definitions.
use Rattle.std.proofs.Common.{◌≡◌, ℕ, true, false, List, [], ◌∷◌, refl, codes, map}
use Rattle.std.specs.Prelude.{Some, None, ◌++◌}
use Rattle.std.specs.Fmt.{digits}
use Rattle.co_text.specs.Printed.{digits_text}
use Rattle.conode_text.specs.Filled.{filled}
use Rattle.conode_explain_transfers.specs.declared.ended.Ended.{Ended}
use Rattle.conode_explain_transfers.specs.declared.ended.Ending.{Ending}
use Rattle.conode_explain_transfers.specs.declared.ended.Ending.TheVariants.{Done, Aborted, Unanswered, Repeated, Interrupted, Unfinished, Irregular, SizeDiffers, CrcDiffers}
use Rattle.conode_explain_transfers.specs.declared.kinds.Direction.{Direction}
use Rattle.conode_explain_transfers.specs.declared.kinds.Direction.TheVariants.{Download, Upload}
use Rattle.conode_explain_transfers.specs.declared.kinds.Protocol.TheVariants.{Segmented}
use Rattle.conode_explain_transfers.specs.declared.kinds.Side.TheVariants.{Client, Server}
use Rattle.conode_explain_transfers.specs.declared.kinds.What.TheVariants.{Part, OutOfSequence, LastAgain, Repeated as AskedAgain, BegunBefore}
use Rattle.conode_explain_entries.specs.Ends.{count_text, end_text, entry_text, transfer_text, aborted_text, ending_words, size_text, crc_text}
use Rattle.conode_explain_entries.specs.Frames.{segment_number, service_text, numbers_text, segment_text, remark_words, awaited_text, of_text, after_text}
use Rattle.conode_explain_entries.specs.Numbers.{millions, thousands, grouped, known_seconds, seconds_text}

-- of 2100:00, from 1 s to 1.182 s, the newest frame at 1.18 s
abbrev transfer : Direction → ℕ → ℕ → Ending → Ended
transfer direction bytes frames ending = record {
  key = record { index = 0x2100; sub = 0 };
  direction = direction;
  protocol = Segmented;
  bytes = bytes;
  first = record { items = [] };
  frames = frames;
  begun = 1000000;
  newest = 1180000;
  end = 1182999;
  ending = ending;
  fault = None;
}

-- the line of one whose value isn't shown
abbrev line_text : Ended → List ℕ → List ℕ → List ℕ
line_text e name words = transfer_text e name ++ end_text e words

done_download : line_text (transfer Download 1024 150 (Done false)) (codes "Firmware") []
    ≡ codes "SDO download 2100:00 \"Firmware\" 1,024 bytes in 150 frames, 0.182 s: done"
unfolding end_text transfer_text count_text entry_text aborted_text ending_words size_text crc_text grouped thousands millions known_seconds digits_text digits filled
done_download = refl

done_upload : line_text (transfer Upload 1 1000 (Done true)) [] []
    ≡ codes "SDO upload 2100:00 1 byte in 1,000 frames, 0.182 s: done, CRC right"
unfolding end_text transfer_text count_text entry_text aborted_text ending_words size_text crc_text grouped thousands millions known_seconds digits_text digits filled
done_upload = refl

aborted : line_text (transfer Upload 0 1 (Aborted Server (record { 0 = 0x06020000 }))) [] (codes "object missing")
    ≡ codes "SDO upload 2100:00 0 bytes in 1 frame, 0.182 s: aborted by the server with 06020000 (object missing)"
unfolding end_text transfer_text count_text entry_text aborted_text ending_words size_text crc_text grouped thousands millions known_seconds digits_text digits filled
aborted = refl

aborted_otherwise : line_text (transfer Upload 999 2 (Aborted Client (record { 0 = 0x12345678 }))) [] []
    ≡ codes "SDO upload 2100:00 999 bytes in 2 frames, 0.182 s: aborted by the client with 12345678"
unfolding end_text transfer_text count_text entry_text aborted_text ending_words size_text crc_text grouped thousands millions known_seconds digits_text digits filled
aborted_otherwise = refl

unanswered : line_text (transfer Upload 999999 2 Unanswered) [] []
    ≡ codes "SDO upload 2100:00 999,999 bytes in 2 frames, 0.182 s: no answer in 0.002 s"
unfolding end_text transfer_text count_text entry_text aborted_text ending_words size_text crc_text grouped thousands millions known_seconds digits_text digits filled
unanswered = refl

repeated : line_text (transfer Upload 1000000 2 Repeated) [] []
    ≡ codes "SDO upload 2100:00 1,000,000 bytes in 2 frames, 0.182 s: requested again after 0.002 s"
unfolding end_text transfer_text count_text entry_text aborted_text ending_words size_text crc_text grouped thousands millions known_seconds digits_text digits filled
repeated = refl

interrupted : line_text (transfer Download 4294967295 2 Interrupted) [] []
    ≡ codes "SDO download 2100:00 4,294,967,295 bytes in 2 frames, 0.182 s: interrupted"
unfolding end_text transfer_text count_text entry_text aborted_text ending_words size_text crc_text grouped thousands millions known_seconds digits_text digits filled
interrupted = refl

unfinished : line_text (transfer Download 999999999 2 Unfinished) [] []
    ≡ codes "SDO download 2100:00 999,999,999 bytes in 2 frames, 0.182 s: unfinished where the recording ends, 0.002 s after its last frame"
unfolding end_text transfer_text count_text entry_text aborted_text ending_words size_text crc_text grouped thousands millions known_seconds digits_text digits filled
unfinished = refl

irregular : line_text (transfer Download 7 2 Irregular) [] []
    ≡ codes "SDO download 2100:00 7 bytes in 2 frames, 0.182 s: confirmed, but frames are missing or repeated in the recording"
unfolding end_text transfer_text count_text entry_text aborted_text ending_words size_text crc_text grouped thousands millions known_seconds digits_text digits filled
irregular = refl

other_size : line_text (transfer Download 9 2 (SizeDiffers 10)) [] []
    ≡ codes "SDO download 2100:00 9 bytes in 2 frames, 0.182 s: confirmed, but size 10 indicated, 9 came"
unfolding end_text transfer_text count_text entry_text aborted_text ending_words size_text crc_text grouped thousands millions known_seconds digits_text digits filled
other_size = refl

other_crc : line_text (transfer Download 9 2 (CrcDiffers 0x3F21 0x9A02)) [] []
    ≡ codes "SDO download 2100:00 9 bytes in 2 frames, 0.182 s: confirmed, but CRC 3F21, computed 9A02"
unfolding end_text transfer_text count_text entry_text aborted_text ending_words size_text crc_text grouped thousands millions known_seconds digits_text digits filled
other_crc = refl

-- ---- times: both at 0, one after it, both at another stamp, and a clock that steps back

times : map {A = ℕ × ℕ} (λ stamps. seconds_text stamps.0 stamps.1) ((0, 0) ∷ (0, 1000) ∷ (5, 5) ∷ (1000000, 3002999) ∷ (5, 4) ∷ (1, 0) ∷ [])
    ≡ codes "? s" ∷ codes "0.001 s" ∷ codes "0.000 s" ∷ codes "2.002 s" ∷ codes "? s" ∷ codes "? s" ∷ []
unfolding known_seconds digits_text digits
times = refl

without_stamps : line_text (record (transfer Upload 1 2 (Done false)) { begun = 0; newest = 0; end = 0 }) [] []
    ≡ codes "SDO upload 2100:00 1 byte in 2 frames, ? s: done"
unfolding end_text transfer_text count_text entry_text ending_words grouped digits_text digits filled
without_stamps = refl

-- ---- frames

segment : segment_text Client 5 3 ≡ codes "SDO request node 5 block segment 3"
unfolding numbers_text service_text digits
segment = refl

answered_segment : segment_text Server 127 127 ≡ codes "SDO answer node 127 block segment 127"
unfolding numbers_text service_text digits
answered_segment = refl

of_a_download : after_text Part (Some (record { index = 0x2100; sub = 0 })) (codes "Firmware") ≡ codes " of 2100:00 \"Firmware\""
unfolding after_text of_text entry_text remark_words digits_text digits
of_a_download = refl

out_of_sequence : after_text (OutOfSequence 5 3) (Some (record { index = 0x2100; sub = 0 })) [] ≡ codes " of 2100:00 (3 is awaited)"
unfolding after_text of_text entry_text awaited_text digits_text digits filled
out_of_sequence = refl

last_segment_again : after_text (LastAgain 2) (Some (record { index = 0x2100; sub = 0 })) [] ≡ codes " of 2100:00 (repeated)"
unfolding after_text of_text entry_text remark_words digits_text digits
last_segment_again = refl

last_segment_number : segment_number (LastAgain 2) ≡ Some 2
last_segment_number = refl

odd_frames : after_text BegunBefore None [] ++ after_text AskedAgain None [] ≡ codes " (its begin isn't in the recording) (repeated)"
unfolding after_text of_text remark_words
odd_frames = refl
