-- SDO transfers that failed, evaluated.
use Rattle.std.proofs.Common.{List, [], ◌∷◌, ◌≡◌, Some, None, true, false, refl}
use Rattle.conode_explain_transfers.specs.declared.ended.Ending.TheVariants.{Aborted, Unanswered, Repeated, Interrupted, Unfinished, Done, Irregular, SizeDiffers, CrcDiffers}
use Rattle.conode_explain_transfers.specs.declared.kinds.Side.TheVariants.{Client, Server}
use Rattle.conode_record.specs.declared.content.Content.TheVariants.{Data, Remote}
use Rattle.conode_record.specs.declared.fields.Identifier.TheVariants.{Base, Extended}
use Rattle.conode_stats_counts.specs.declared.failure.Failure.{Failure}
use Rattle.conode_stats_counts.specs.declared.failure.Reason.TheVariants.{Code, NoCode, OtherSize, WrongCrc}
use Rattle.conode_stats_counts.specs.Failures.{cause_of, failure_by, failure_row, first_failure, plain, same_cause}
use Rattle.conode_stats_counts.specs.Groups.{grouped, keys_of, left_out}

-- ---- what failed

aborted_by_server : failure_by 5 40 (Aborted Server (record { 0 = 0x06020000 }))
    ≡ Some (record { cause = record { node = 5; reason = Code 0x06020000 }; micros = 40 })
aborted_by_server = refl

aborted_by_client : failure_by 5 40 (Aborted Client (record { 0 = 0x05040000 }))
    ≡ Some (record { cause = record { node = 5; reason = Code 0x05040000 }; micros = 40 })
aborted_by_client = refl

unanswered : failure_by 6 40 Unanswered ≡ Some (record { cause = record { node = 6; reason = NoCode }; micros = 40 })
unanswered = refl

repeated : failure_by 6 40 Repeated ≡ Some (record { cause = record { node = 6; reason = NoCode }; micros = 40 })
repeated = refl

done : failure_by 6 40 (Done true) ≡ None
done = refl

interrupted : failure_by 6 40 Interrupted ≡ None
interrupted = refl

irregular : failure_by 6 40 Irregular ≡ None
irregular = refl

other_size : failure_by 6 40 (SizeDiffers 3) ≡ Some (record { cause = record { node = 6; reason = OtherSize }; micros = 40 })
other_size = refl

other_crc : failure_by 6 40 (CrcDiffers 3 4) ≡ Some (record { cause = record { node = 6; reason = WrongCrc }; micros = 40 })
other_crc = refl

done_without_crc : failure_by 6 40 (Done false) ≡ None
done_without_crc = refl

unfinished : failure_by 6 40 Unfinished ≡ None
unfinished = refl

-- ---- which frames have a channel

data_frame : plain (Base 0x585) (Data (0x80 ∷ [])) ≡ Some (record { id = 0x585; bytes = 0x80 ∷ [] })
data_frame = refl

remote_frame : plain (Base 0x585) (Remote 8) ≡ None
remote_frame = refl

extended_frame : plain (Extended 0x585) (Data (0x80 ∷ [])) ≡ None
extended_frame = refl

-- ---- by node and reason, the newest first

other_node : same_cause (record { node = 5; reason = NoCode }) (record { node = 6; reason = NoCode }) ≡ false
other_node = refl

other_code : same_cause (record { node = 5; reason = Code 1 }) (record { node = 5; reason = Code 2 }) ≡ false
other_code = refl

no_code : same_cause (record { node = 5; reason = Code 0 }) (record { node = 5; reason = NoCode }) ≡ false
no_code = refl

same_crc : same_cause (record { node = 5; reason = WrongCrc }) (record { node = 5; reason = WrongCrc }) ≡ true
same_crc = refl

crc_of_other_node : same_cause (record { node = 5; reason = WrongCrc }) (record { node = 6; reason = WrongCrc }) ≡ false
crc_of_other_node = refl

size_and_crc : same_cause (record { node = 5; reason = OtherSize }) (record { node = 5; reason = WrongCrc }) ≡ false
size_and_crc = refl

size_and_no_code : same_cause (record { node = 5; reason = OtherSize }) (record { node = 5; reason = NoCode }) ≡ false
size_and_no_code = refl

abbrev failures : List Failure
failures =
    record { cause = record { node = 5; reason = Code 1 }; micros = 30 }
    ∷ record { cause = record { node = 5; reason = NoCode }; micros = 20 }
    ∷ record { cause = record { node = 5; reason = Code 1 }; micros = 10 } ∷ []

two_rows : grouped same_cause cause_of 2 failure_row failures
    ≡ record { cause = record { node = 5; reason = Code 1 }; count = 2; first = 10; last = 30 }
    ∷ record { cause = record { node = 5; reason = NoCode }; count = 1; first = 20; last = 20 } ∷ []
unfolding grouped keys_of first_failure
two_rows = refl

-- without room for a second
one_row : grouped same_cause cause_of 1 failure_row failures
    ≡ record { cause = record { node = 5; reason = Code 1 }; count = 2; first = 10; last = 30 } ∷ []
unfolding grouped keys_of first_failure
one_row = refl

one_without : left_out same_cause cause_of 1 failures ≡ 1
unfolding left_out keys_of
one_without = refl
