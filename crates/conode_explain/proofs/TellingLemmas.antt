-- Of most frames no channel says anything.
use Rattle.std.proofs.Common.{◌≡◌, ℕ, Bool, true, false, List, length, ltb, refl, ap, ◌∙◌, arith}
use Rattle.std.specs.Prelude.{◌==◌, ◌&&◌, ◌||◌, Option, None, slice_index}
use Rattle.std.proofs.lemmas.Bool.{or_parts}
use Rattle.std.proofs.lemmas.Bool.Decides.{nat_tests}
use Rattle.co_text.proofs.Tests.{by_test}
use Rattle.conode_record.specs.declared.content.Content.{Content}
use Rattle.conode_record.specs.declared.content.Content.TheVariants.{Data, Remote, Fd}
use Rattle.conode_record.specs.declared.fields.Identifier.{Identifier}
use Rattle.conode_record.specs.declared.fields.Identifier.TheVariants.{Base, Extended, Error}
use Rattle.conode_record.specs.declared.line.Record.{Record}
use Rattle.conode_explain_transfers.specs.declared.track.Track.{Track}
use Rattle.conode_explain_transfers.specs.Tellings.{is_answer_id, is_boot_up, is_error_control_id, is_request_id, telling}
use Rattle.conode_explain_transfers.specs.Tracks.{Telling}
use Rattle.conode_explain_entries.specs.declared.further.Place.{Place}
use Rattle.conode_explain_cob_ids.specs.Known.{KnownSheet}
use Rattle.conode_explain.specs.declared.progress.Layout.{Layout}
use Rattle.conode_explain.specs.declared.progress.Progress.{Progress}
use Rattle.conode_explain.specs.Nodes.{packed_of}
use Rattle.conode_explain.specs.Explained.{frame_lines, heard_at, lines_by, may_be_told, place_for, progress_by, progress_with, telling_by, telling_in, telling_of, told_at}

abbrev is_zero : List ℕ → Bool
is_zero bytes = (length bytes == 1) && (slice_index bytes 0 == 0)

no_second : (a b : Bool) → b ≡ false → (a && b) ≡ false
no_second true b is = is
no_second false b is = refl

by_first : (a b : Bool) → a ≡ true → (a && b) ≡ false → b ≡ false
by_first true b first none = none
by_first false b first none = absurd cc

-- it is none of the three kinds
by_kind : (channels : List Track) (frame : Record) (id : ℕ) (bytes : List ℕ) → is_answer_id id ≡ false → is_request_id id ≡ false → is_boot_up (record { id = id; bytes = bytes }) ≡ false
    → telling_by channels frame (record { id = id; bytes = bytes }) ≡ record { told = None; tracks = channels }
unfolding telling
by_kind channels frame id bytes answer request boot = rw (answer, request, boot) (rw boot refl)

nothing_said_data : (channels : List Track) (frame : Record) (id : ℕ) (bytes : List ℕ) → (ltb 0x580 id && (ltb id 0x680 || is_zero bytes)) ≡ false
    → telling_by channels frame (record { id = id; bytes = bytes }) ≡ record { told = None; tracks = channels }
nothing_said_data channels frame id bytes is = by_test (ltb 0x580 id)
    (λ above.
    let parts = or_parts (ltb id 0x680) (is_zero bytes) (by_first (ltb 0x580 id) (ltb id 0x680 || is_zero bytes) above is) in
    let low : ltb id 0x600 ≡ false = grind (arith, nat_tests, parts.0) in
    by_kind channels frame id bytes (no_second (ltb 0x580 id) (ltb id 0x600) low) (no_second (ltb 0x600 id) (ltb id 0x680) parts.0)
    (no_second (is_error_control_id id) (is_zero bytes) parts.1))
    (λ below.
    let request : ltb 0x600 id ≡ false = grind (arith, nat_tests, below) in
    let control : ltb 0x700 id ≡ false = grind (arith, nat_tests, below) in
    by_kind channels frame id bytes (rw below refl) (rw request refl) (rw control refl))

nothing_said_in : (channels : List Track) (frame : Record) (id : Identifier) (has : Content) → may_be_told id has ≡ false
    → telling_in channels frame (packed_of id has) ≡ record { told = None; tracks = channels }
nothing_said_in channels frame (Base id) (Data bytes) is = nothing_said_data channels frame id bytes is
nothing_said_in channels frame (Base id) (Remote count) is = refl
nothing_said_in channels frame (Base id) (Fd flags bytes) is = refl
nothing_said_in channels frame (Extended id) has is = refl
nothing_said_in channels frame (Error class) has is = refl

pub nothing_said : (channels : List Track) (frame : Record) → may_be_told frame.id frame.content ≡ false
    → telling_of channels frame ≡ record { told = None; tracks = channels }
unfolding telling_of
nothing_said channels frame is = nothing_said_in channels frame frame.id frame.content is

-- so most frames have the lines of one of no channel
pub quiet_lines : (form : Layout) (sheets : List KnownSheet) (progress : Progress) (frame : Record) → place_for sheets progress frame ≡ None → may_be_told frame.id frame.content ≡ false
    → frame_lines form sheets progress frame ≡ lines_by form sheets progress None frame None
unfolding frame_lines
quiet_lines form sheets progress frame none quiet =
    ap (λ (place : Option Place). lines_by form sheets (heard_at progress frame place) place frame (told_at progress frame place)) none
    ∙ ap (λ (telling : Telling). lines_by form sheets (record progress { channels = telling.tracks }) None frame telling.told) (nothing_said progress.channels frame quiet)

pub quiet_progress : (form : Layout) (sheets : List KnownSheet) (progress : Progress) (frame : Record) → place_for sheets progress frame ≡ None → may_be_told frame.id frame.content ≡ false
    → progress_with form sheets progress frame ≡ progress_by form sheets progress None frame None
unfolding progress_with
quiet_progress form sheets progress frame none quiet =
    ap (λ (place : Option Place). progress_by form sheets (heard_at progress frame place) place frame (told_at progress frame place)) none
    ∙ ap (λ (telling : Telling). progress_by form sheets (record progress { channels = telling.tracks }) None frame telling.told) (nothing_said progress.channels frame quiet)
