-- What a proof unfolds to compute what a line that is written out says.
use Rattle.std.specs.Prelude.{⊤}
use Rattle.conode_record.specs.Contents.{content_in}
use Rattle.conode_record.specs.Fields.{identifier_at, interface_at}
use Rattle.conode_record.specs.Lines.{frame_in, line_in}
use Rattle.conode_record.proofs.OnLines.{parts_on_lines}
use Rattle.conode_logs.specs.Asc.{asc_content, asc_event, asc_fd, asc_fd_content, asc_fd_frame, asc_flags_at, asc_frame, asc_id_at, asc_kind, asc_length_at, asc_line, asc_on, asc_timed, base_at, flags_after, form_in, is_header, is_note, past_name, relative_in, remote_length}
use Rattle.conode_logs.specs.Logs.{form_of, says, says_by, unknown_line}
use Rattle.conode_logs.specs.Screen.{flag_at, flags_at, mark_at, marks_at, screen_content, screen_ends, screen_frame, screen_id_at, screen_line, screen_stamp_at, screen_timed}
use Rattle.conode_logs.specs.Trc.{bus_at, columns_of, fd_length_at, message_at, new_line, new_message, new_on, old_line, old_message, past_reserved, trc_bytes, trc_classic, trc_comment, trc_content, trc_direction_at, trc_frame, trc_id_at, trc_line, trc_message, trc_on, version_of}

unfoldable pub logs_on_lines : ⊤
unfolding parts_on_lines content_in identifier_at interface_at frame_in line_in asc_content asc_event asc_fd asc_fd_content asc_fd_frame asc_flags_at asc_frame asc_id_at asc_kind asc_length_at asc_line asc_on asc_timed base_at flags_after form_in is_header is_note past_name relative_in remote_length form_of says says_by unknown_line flag_at flags_at mark_at marks_at screen_content screen_ends screen_frame screen_id_at screen_line screen_stamp_at screen_timed bus_at columns_of fd_length_at message_at new_line new_message new_on old_line old_message past_reserved trc_bytes trc_classic trc_comment trc_content trc_direction_at trc_frame trc_id_at trc_line trc_message trc_on version_of
logs_on_lines = tt
