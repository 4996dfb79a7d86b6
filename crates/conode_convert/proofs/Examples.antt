-- The lines of frames, evaluated, and what a recording's reader makes of each: the frame again.
use Rattle.std.proofs.Common.{◌≡◌, ℕ, List, [], ◌∷◌, Option, Some, None, Result, Ok, refl}
use Rattle.std.specs.Prelude.{codes, replicate}
use Rattle.std.specs.Fmt.{digits}
use Rattle.co_text.specs.Printed.{digits_text}
use Rattle.conode_trace.specs.Printed.{seconds_text}
use Rattle.conode_record.specs.declared.bad_line.BadLine.{BadLine}
use Rattle.conode_record.specs.declared.content.Content.{Content}
use Rattle.conode_record.specs.declared.content.Content.TheVariants as content
use Rattle.conode_record.specs.declared.content.Direction.{Direction}
use Rattle.conode_record.specs.declared.content.Direction.TheVariants.{Received, Sent}
use Rattle.conode_record.specs.declared.fields.Identifier.{Identifier}
use Rattle.conode_record.specs.declared.fields.Identifier.TheVariants.{Base, Extended, Error}
use Rattle.conode_record.specs.declared.line.RecordLine.{RecordLine}
use Rattle.conode_record.specs.declared.line.RecordLine.TheVariants as record_line
use Rattle.conode_record.specs.Contents.{content_in}
use Rattle.conode_record.specs.Fields.{stamp_at, interface_at, identifier_at}
use Rattle.conode_record.specs.Lines.{frame_in, line_in}
use Rattle.conode_record.specs.declared.frame.LogContent.{LogContent}
use Rattle.conode_record.specs.declared.frame.LogContent.TheVariants.{Data, Remote, Fd}
use Rattle.conode_record.specs.declared.frame.LogFrame.{LogFrame}
use Rattle.conode_record.specs.declared.frame.Place.{Place}
use Rattle.conode_record.specs.declared.frame.Place.TheVariants.{Interface, Channel}
use Rattle.conode_convert.specs.Printed.{frame_text, line_text, stamp_text}

-- a frame at 1.0125 s
abbrev seen : Place → Identifier → LogContent → Option Direction → LogFrame
seen place id content direction = record { micros = 1012500; place = place; id = id; content = content; direction = direction }

-- what a recording's reader makes of its line
abbrev again : LogFrame → Result RecordLine BadLine
again frame = line_in (frame_text frame)

-- the frame as it is read
abbrev read : List ℕ → Identifier → Content → Option Direction → Result RecordLine BadLine
read interface id content direction = Ok (record_line.Frame (record { micros = 1012500; interface = interface; id = id; content = content; direction = direction }))

-- ---- stamps

first_stamp : stamp_text 0 ≡ codes "(0000000000.000000)"
unfolding stamp_text seconds_text digits_text digits
first_stamp = refl

stamp_of_ten_digits : stamp_text 9999999999999999 ≡ codes "(9999999999.999999)"
unfolding stamp_text seconds_text digits_text digits
stamp_of_ten_digits = refl

stamp_of_eleven_digits : stamp_text 10000000000000001 ≡ codes "(10000000000.000001)"
unfolding stamp_text seconds_text digits_text digits
stamp_of_eleven_digits = refl

-- ---- lines

data_sent : line_text (seen (Channel 1) (Base 0x605) (Data (0x40 ∷ 0xFF ∷ [])) (Some Sent)) ≡ codes "(0000000001.012500) can0 605#40FF T\n"
unfolding line_text frame_text stamp_text seconds_text digits_text digits
data_sent = refl

data_sent_again : again (seen (Channel 1) (Base 0x605) (Data (0x40 ∷ 0xFF ∷ [])) (Some Sent)) ≡ read (codes "can0") (Base 0x605) (content.Data (0x40 ∷ 0xFF ∷ [])) (Some Sent)
unfolding frame_text stamp_text seconds_text digits_text digits line_in frame_in stamp_at interface_at identifier_at content_in
data_sent_again = refl

no_data : line_text (seen (Interface (codes "vcan0")) (Base 0x5) (Data []) (Some Received)) ≡ codes "(0000000001.012500) vcan0 005# R\n"
unfolding line_text frame_text stamp_text seconds_text digits_text digits
no_data = refl

no_data_again : again (seen (Interface (codes "vcan0")) (Base 0x5) (Data []) (Some Received)) ≡ read (codes "vcan0") (Base 0x5) (content.Data []) (Some Received)
unfolding frame_text stamp_text seconds_text digits_text digits line_in frame_in stamp_at interface_at identifier_at content_in
no_data_again = refl

eight_bytes : line_text (seen (Channel 255) (Base 0x7FF) (Data (0x01 ∷ 0x02 ∷ 0x03 ∷ 0x04 ∷ 0x05 ∷ 0x06 ∷ 0x07 ∷ 0x08 ∷ [])) None) ≡ codes "(0000000001.012500) can254 7FF#0102030405060708\n"
unfolding line_text frame_text stamp_text seconds_text digits_text digits
eight_bytes = refl

eight_bytes_again : again (seen (Channel 255) (Base 0x7FF) (Data (0x01 ∷ 0x02 ∷ 0x03 ∷ 0x04 ∷ 0x05 ∷ 0x06 ∷ 0x07 ∷ 0x08 ∷ [])) None) ≡ read (codes "can254") (Base 0x7FF) (content.Data (0x01 ∷ 0x02 ∷ 0x03 ∷ 0x04 ∷ 0x05 ∷ 0x06 ∷ 0x07 ∷ 0x08 ∷ [])) None
unfolding frame_text stamp_text seconds_text digits_text digits line_in frame_in stamp_at interface_at identifier_at content_in
eight_bytes_again = refl

extended : line_text (seen (Channel 2) (Extended 0x1FFFFFFF) (Data (0 ∷ [])) None) ≡ codes "(0000000001.012500) can1 1FFFFFFF#00\n"
unfolding line_text frame_text stamp_text seconds_text digits_text digits
extended = refl

extended_again : again (seen (Channel 2) (Extended 0x1FFFFFFF) (Data (0 ∷ [])) None) ≡ read (codes "can1") (Extended 0x1FFFFFFF) (content.Data (0 ∷ [])) None
unfolding frame_text stamp_text seconds_text digits_text digits line_in frame_in stamp_at interface_at identifier_at content_in
extended_again = refl

small_extended : line_text (seen (Channel 1) (Extended 0x12) (Data []) None) ≡ codes "(0000000001.012500) can0 00000012#\n"
unfolding line_text frame_text stamp_text seconds_text digits_text digits
small_extended = refl

small_extended_again : again (seen (Channel 1) (Extended 0x12) (Data []) None) ≡ read (codes "can0") (Extended 0x12) (content.Data []) None
unfolding frame_text stamp_text seconds_text digits_text digits line_in frame_in stamp_at interface_at identifier_at content_in
small_extended_again = refl

error_frame : line_text (seen (Channel 1) (Error 0x80) (Data (replicate 8 0)) None) ≡ codes "(0000000001.012500) can0 20000080#0000000000000000\n"
unfolding line_text frame_text stamp_text seconds_text digits_text digits
error_frame = refl

error_frame_again : again (seen (Channel 1) (Error 0x80) (Data (replicate 8 0)) None) ≡ read (codes "can0") (Error 0x80) (content.Data (replicate 8 0)) None
unfolding frame_text stamp_text seconds_text digits_text digits line_in frame_in stamp_at interface_at identifier_at content_in
error_frame_again = refl

remote : line_text (seen (Channel 1) (Base 0x18F) (Remote 8) (Some Received)) ≡ codes "(0000000001.012500) can0 18F#R8 R\n"
unfolding line_text frame_text stamp_text seconds_text digits_text digits
remote = refl

remote_again : again (seen (Channel 1) (Base 0x18F) (Remote 8) (Some Received)) ≡ read (codes "can0") (Base 0x18F) (content.Remote 8) (Some Received)
unfolding frame_text stamp_text seconds_text digits_text digits line_in frame_in stamp_at interface_at identifier_at content_in
remote_again = refl

remote_of_nothing : line_text (seen (Channel 1) (Base 0x18F) (Remote 0) None) ≡ codes "(0000000001.012500) can0 18F#R\n"
unfolding line_text frame_text stamp_text seconds_text digits_text digits
remote_of_nothing = refl

remote_of_nothing_again : again (seen (Channel 1) (Base 0x18F) (Remote 0) None) ≡ read (codes "can0") (Base 0x18F) (content.Remote 0) None
unfolding frame_text stamp_text seconds_text digits_text digits line_in frame_in stamp_at interface_at identifier_at content_in
remote_of_nothing_again = refl

fd : line_text (seen (Channel 1) (Base 0x123) (Fd 3 (0xAA ∷ 0xBB ∷ 0xCC ∷ [])) (Some Received)) ≡ codes "(0000000001.012500) can0 123##3AABBCC R\n"
unfolding line_text frame_text stamp_text seconds_text digits_text digits
fd = refl

fd_again : again (seen (Channel 1) (Base 0x123) (Fd 3 (0xAA ∷ 0xBB ∷ 0xCC ∷ [])) (Some Received)) ≡ read (codes "can0") (Base 0x123) (content.Fd 3 (0xAA ∷ 0xBB ∷ 0xCC ∷ [])) (Some Received)
unfolding frame_text stamp_text seconds_text digits_text digits line_in frame_in stamp_at interface_at identifier_at content_in
fd_again = refl

fd_without_data : line_text (seen (Channel 1) (Extended 0x123) (Fd 0 []) None) ≡ codes "(0000000001.012500) can0 00000123##0\n"
unfolding line_text frame_text stamp_text seconds_text digits_text digits
fd_without_data = refl

fd_without_data_again : again (seen (Channel 1) (Extended 0x123) (Fd 0 []) None) ≡ read (codes "can0") (Extended 0x123) (content.Fd 0 []) None
unfolding frame_text stamp_text seconds_text digits_text digits line_in frame_in stamp_at interface_at identifier_at content_in
fd_without_data_again = refl
