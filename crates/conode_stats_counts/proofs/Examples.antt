-- Bits of frames, evaluated.
use Rattle.std.proofs.Common.{[], ◌∷◌, ◌≡◌, refl}
use Rattle.std.specs.Prelude.{◌+◌, ◌-◌, ◌*◌, ◌^◌, codes}
use Rattle.conode_record.specs.declared.content.Content.TheVariants.{Data, Remote, Fd}
use Rattle.conode_record.specs.declared.fields.Identifier.TheVariants.{Base, Extended, Error}
use Rattle.conode_stats_counts.specs.Bits.{bits_of, crc_of, crc_with, data_bits, frame_bits, most_bits, stuff_bits, stuffed_from}
use Rattle.conode_stats_counts.specs.Gaps.{gaps, greatest, oldest, smallest, step_from, step_to, steps_back}
use Rattle.conode_stats_counts.specs.Sizes.{size_of}
use Rattle.conode_stats_counts.specs.declared.tally.Tally.{Tally}
use Rattle.conode_stats_counts.specs.Tallies.{elapsed, tally_of}

-- ---- the CRC: the check value of CRC-15/CAN in the catalogue of parametrised CRC algorithms

check_value : crc_of (data_bits (codes "123456789")) ≡ 0x059E
unfolding bits_of crc_with
check_value = refl

-- ---- stuff bits

-- five bits that are the same end it, and a stuff bit follows
at_the_end : stuff_bits (1 ∷ 0 ∷ 0 ∷ 0 ∷ 0 ∷ 0 ∷ []) ≡ 1
unfolding stuffed_from
at_the_end = refl

four_at_the_end : stuff_bits (1 ∷ 0 ∷ 0 ∷ 0 ∷ 0 ∷ []) ≡ 0
unfolding stuffed_from
four_at_the_end = refl

-- a stuff bit counts itself: four bits like it follow, and the next one is put in
after_a_stuff_bit : stuff_bits (0 ∷ 0 ∷ 0 ∷ 0 ∷ 0 ∷ 1 ∷ 1 ∷ 1 ∷ 1 ∷ []) ≡ 2
unfolding stuffed_from
after_a_stuff_bit = refl

-- the bus is recessive before the first bit
before_the_first : stuff_bits (0 ∷ 0 ∷ 0 ∷ 0 ∷ []) ≡ 0
unfolding stuffed_from
before_the_first = refl

-- ---- frames, against a second count (fields, polynomial division, stuffing of a stream)

no_data : size_of (Base 0x000) (Data []) ≡ record { bits = 53; most = 55 }
unfolding size_of frame_bits bits_of crc_with stuffed_from
no_data = refl

one_byte : size_of (Base 0x014) (Data (0x01 ∷ [])) ≡ record { bits = 58; most = 65 }
unfolding size_of frame_bits bits_of crc_with stuffed_from
one_byte = refl

eight_bytes : size_of (Base 0x605) (Data (0x40 ∷ 0x18 ∷ 0x10 ∷ 0x01 ∷ 0x00 ∷ 0x00 ∷ 0x00 ∷ 0x00 ∷ [])) ≡ record { bits = 122; most = 135 }
unfolding size_of frame_bits bits_of crc_with stuffed_from
eight_bytes = refl

all_recessive : size_of (Base 0x7FF) (Data (0xFF ∷ 0xFF ∷ 0xFF ∷ 0xFF ∷ 0xFF ∷ 0xFF ∷ 0xFF ∷ 0xFF ∷ [])) ≡ record { bits = 126; most = 135 }
unfolding size_of frame_bits bits_of crc_with stuffed_from
all_recessive = refl

remote : size_of (Base 0x18F) (Remote 8) ≡ record { bits = 48; most = 55 }
unfolding size_of frame_bits bits_of crc_with stuffed_from
remote = refl

upper_recessive : size_of (Extended 0x1FFC0000) (Data []) ≡ record { bits = 74; most = 80 }
unfolding size_of frame_bits bits_of crc_with stuffed_from
upper_recessive = refl

extended : size_of (Extended 0x18FEF100) (Data (0x01 ∷ 0x02 ∷ 0x03 ∷ 0x04 ∷ 0x05 ∷ 0x06 ∷ 0x07 ∷ 0x08 ∷ [])) ≡ record { bits = 143; most = 160 }
unfolding size_of frame_bits bits_of crc_with stuffed_from
extended = refl

extended_remote : size_of (Extended 0x12) (Remote 2) ≡ record { bits = 71; most = 80 }
unfolding size_of frame_bits bits_of crc_with stuffed_from
extended_remote = refl

error_frame : size_of (Error 0x80) (Data (0x00 ∷ 0x00 ∷ 0x00 ∷ 0x00 ∷ 0x00 ∷ 0x00 ∷ 0x00 ∷ 0x00 ∷ [])) ≡ record { bits = 0; most = 0 }
unfolding size_of frame_bits bits_of crc_with stuffed_from
error_frame = refl

fd : size_of (Base 0x123) (Fd 1 (0xAA ∷ [])) ≡ record { bits = 0; most = 0 }
unfolding size_of frame_bits bits_of crc_with stuffed_from
fd = refl

-- ---- what canbusload counts at most: 55 + 10 n and 80 + 10 n bits for n bytes

most_of_eight : most_bits (34 + 8 * 8) ≡ 135
most_of_eight = refl

most_of_extended : most_bits (54 + 8 * 8) ≡ 160
most_of_extended = refl

-- ---- stamps, the newest first

stepping : tally_of (40 ∷ 10 ∷ 30 ∷ 20 ∷ []) ≡ record { first = 20; last = 40; frames = 4; steps_back = 1; step_from = 30; step_to = 10; gaps = 2; total = 40; smallest = 10; greatest = 30 }
unfolding tally_of gaps oldest step_from step_to steps_back smallest greatest
stepping = refl

alike : tally_of (20 ∷ 20 ∷ []) ≡ record { first = 20; last = 20; frames = 2; steps_back = 0; step_from = 0; step_to = 0; gaps = 1; total = 0; smallest = 0; greatest = 0 }
unfolding tally_of gaps oldest step_from step_to steps_back smallest greatest
alike = refl

single : tally_of (20 ∷ []) ≡ record { first = 20; last = 20; frames = 1; steps_back = 0; step_from = 0; step_to = 0; gaps = 0; total = 0; smallest = 2 ^ 64 - 1; greatest = 0 }
unfolding tally_of gaps oldest step_from step_to steps_back smallest greatest
single = refl

-- ---- the time since a stamp

-- stamps from 1000 to 5000, set back to 200, and up to 700
abbrev set_back : Tally
set_back = record {
  first = 1000;
  last = 700;
  frames = 90;
  steps_back = 1;
  step_from = 5000;
  step_to = 200;
  gaps = 88;
  total = 4500;
  smallest = 1;
  greatest = 99;
}

-- up to 5000, and from 200 on
since_before : elapsed set_back 4000 ≡ 1500
since_before = refl

since_after : elapsed set_back 300 ≡ 400
since_after = refl

since_the_last : elapsed set_back 700 ≡ 0
since_the_last = refl

-- the first stamp above the last one
since_above : elapsed set_back 701 ≡ 4799
since_above = refl
