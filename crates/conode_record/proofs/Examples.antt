-- Lines of a recording, evaluated: both sides of each edge.
use Rattle.std.proofs.Common.{◌≡◌, [], ◌∷◌, ◌++◌, Option, Some, None, Result, Ok, Err, refl}
use Rattle.std.specs.Prelude.{codes, replicate}
use Rattle.conode_record.specs.declared.bad_line.BadLine.{BadLine}
use Rattle.conode_record.specs.declared.bad_line.BadLine.TheVariants as bad
use Rattle.conode_record.specs.declared.content.Content.{Content}
use Rattle.conode_record.specs.declared.content.Content.TheVariants.{Data, Remote, Fd}
use Rattle.conode_record.specs.declared.content.Direction.{Direction}
use Rattle.conode_record.specs.declared.content.Direction.TheVariants.{Received, Sent}
use Rattle.conode_record.specs.declared.fields.Identifier.{Identifier}
use Rattle.conode_record.specs.declared.fields.Identifier.TheVariants.{Base, Extended, Error}
use Rattle.conode_record.specs.declared.line.RecordLine.{RecordLine}
use Rattle.conode_record.specs.declared.line.RecordLine.TheVariants.{Skipped, Frame}
use Rattle.conode_record.specs.Contents.{content_in}
use Rattle.conode_record.specs.Fields.{stamp_at, interface_at, identifier_at}
use Rattle.conode_record.specs.Lines.{frame_in, line_in}

-- a frame on can0 at 1 s
abbrev frame : Identifier → Content → Option Direction → Result RecordLine BadLine
frame id content direction = Ok (Frame (record { micros = 1000000; interface = codes "can0"; id = id; content = content; direction = direction }))

-- ---- the stamp

greatest_stamp : stamp_at (codes "(999999999999.999999) ") ≡ Some (999999999999999999, codes " ")
unfolding stamp_at
greatest_stamp = refl

seconds_of_13_digits : stamp_at (codes "(1000000000000.000000)") ≡ None
unfolding stamp_at
seconds_of_13_digits = refl

no_seconds : stamp_at (codes "(.000000)") ≡ None
unfolding stamp_at
no_seconds = refl

five_digits : stamp_at (codes "(1.00000)") ≡ None
unfolding stamp_at
five_digits = refl

seven_digits : stamp_at (codes "(1.0000000)") ≡ None
unfolding stamp_at
seven_digits = refl

-- ---- the interface

name_of_15 : interface_at (codes " 0123456789abcde 1") ≡ Some (codes "0123456789abcde", codes "1")
unfolding interface_at
name_of_15 = refl

name_of_16 : interface_at (codes " 0123456789abcdef 1") ≡ None
unfolding interface_at
name_of_16 = refl

blanks_of_both_kinds : interface_at (32 ∷ 9 ∷ codes "a" ++ 9 ∷ 32 ∷ codes "1") ≡ Some (codes "a", codes "1")
unfolding interface_at
blanks_of_both_kinds = refl

no_blank_before : interface_at (codes "can0 1") ≡ None
unfolding interface_at
no_blank_before = refl

no_blank_after : interface_at (codes " can0") ≡ None
unfolding interface_at
no_blank_after = refl

-- ---- the identifier

greatest_base : identifier_at (codes "7fF#") ≡ Some (Base 0x7FF, [])
unfolding identifier_at
greatest_base = refl

base_above : identifier_at (codes "800#") ≡ None
unfolding identifier_at
base_above = refl

least_extended : identifier_at (codes "00000000#1") ≡ Some (Extended 0, codes "1")
unfolding identifier_at
least_extended = refl

greatest_extended : identifier_at (codes "1FFFFFFF#") ≡ Some (Extended 0x1FFFFFFF, [])
unfolding identifier_at
greatest_extended = refl

least_error : identifier_at (codes "20000000#") ≡ Some (Error 0, [])
unfolding identifier_at
least_error = refl

greatest_error : identifier_at (codes "3FFFFFFF#") ≡ Some (Error 0x1FFFFFFF, [])
unfolding identifier_at
greatest_error = refl

error_above : identifier_at (codes "40000000#") ≡ None
unfolding identifier_at
error_above = refl

four_digits : identifier_at (codes "0185#") ≡ None
unfolding identifier_at
four_digits = refl

no_digit : identifier_at (codes "18G#") ≡ None
unfolding identifier_at
no_digit = refl

-- ---- what follows the number sign

eight_bytes : content_in (codes "0102030405060708") ≡ Ok (Data (1 ∷ 2 ∷ 3 ∷ 4 ∷ 5 ∷ 6 ∷ 7 ∷ 8 ∷ []), None)
unfolding content_in
eight_bytes = refl

nine_bytes : content_in (codes "010203040506070809") ≡ Err bad.TooManyBytes
unfolding content_in
nine_bytes = refl

eight_and_direction : content_in (codes "0102030405060708 R") ≡ Ok (Data (1 ∷ 2 ∷ 3 ∷ 4 ∷ 5 ∷ 6 ∷ 7 ∷ 8 ∷ []), Some Received)
unfolding content_in
eight_and_direction = refl

odd_digits : content_in (codes "010") ≡ Err bad.Data
unfolding content_in
odd_digits = refl

sent : content_in (9 ∷ codes " T") ≡ Ok (Data [], Some Sent)
unfolding content_in
sent = refl

blank_alone : content_in (codes "01 ") ≡ Err bad.Ending
unfolding content_in
blank_alone = refl

other_mark : content_in (codes "01 S") ≡ Err bad.Ending
unfolding content_in
other_mark = refl

mark_without_blank : content_in (codes "01T") ≡ Err bad.Data
unfolding content_in
mark_without_blank = refl

remote_without_length : content_in (codes "R") ≡ Ok (Remote 0, None)
unfolding content_in
remote_without_length = refl

remote_of_eight : content_in (codes "R8 T") ≡ Ok (Remote 8, Some Sent)
unfolding content_in
remote_of_eight = refl

remote_of_nine : content_in (codes "R9") ≡ Err bad.Length
unfolding content_in
remote_of_nine = refl

remote_of_two_digits : content_in (codes "R00") ≡ Err bad.Data
unfolding content_in
remote_of_two_digits = refl

fd_without_data : content_in (codes "#f") ≡ Ok (Fd 15 [], None)
unfolding content_in
fd_without_data = refl

fd_without_flags : content_in (codes "#") ≡ Err bad.Flags
unfolding content_in
fd_without_flags = refl

fd_with_bad_flags : content_in (codes "#g") ≡ Err bad.Flags
unfolding content_in
fd_with_bad_flags = refl

fd_of_64_bytes : content_in (codes "#1" ++ replicate 128 48) ≡ Ok (Fd 1 (replicate 64 0), None)
unfolding content_in
fd_of_64_bytes = refl

fd_of_65_bytes : content_in (codes "#1" ++ replicate 130 48) ≡ Err bad.TooManyBytes
unfolding content_in
fd_of_65_bytes = refl

-- ---- whole lines

data_frame : line_in (codes "(1.000000) can0 185#E803 R") ≡ frame (Base 0x185) (Data (0xE8 ∷ 0x03 ∷ [])) (Some Received)
unfolding line_in frame_in stamp_at interface_at identifier_at content_in
data_frame = refl

remote_frame : line_in (codes "(1.000000)  can0  705#R") ≡ frame (Base 0x705) (Remote 0) None
unfolding line_in frame_in stamp_at interface_at identifier_at content_in
remote_frame = refl

first_wrong_part : line_in (codes "(1.000000) can0 800#9") ≡ Err bad.Identifier
unfolding line_in frame_in stamp_at interface_at identifier_at content_in
first_wrong_part = refl

no_stamp : line_in (codes " (1.000000) can0 185#") ≡ Err bad.Stamp
unfolding line_in frame_in stamp_at interface_at identifier_at content_in
no_stamp = refl

empty : line_in [] ≡ Ok Skipped
unfolding line_in
empty = refl

comment : line_in (codes "; (") ≡ Ok Skipped
unfolding line_in
comment = refl

event : line_in (codes "!tick 5") ≡ Ok Skipped
unfolding line_in
event = refl
