-- Which differences the end of a transfer gives by the data sheet: those of its values by an upload that is done, of its access and limits by
-- a download that is done.
use Rattle.std.proofs.Common.{◌≡◌, ℕ, ◌+◌, ◌≤◌, Bool, true, false, not, List, [], Option, Some, None, refl, sym, ap, ◌∙◌, subst, arith}
use Rattle.std.specs.Prelude.{◌&&◌, ◌||◌, ◌==◌, if◌then◌else◌, nat_le, nat_lt, length, option_and_then, IfSome}
use Rattle.std.specs.Option.{option_or}
use Rattle.std.proofs.lemmas.Bool.{false≢true}
use Rattle.std.proofs.lemmas.Bool.Decides.{nat_tests}
use Rattle.co_frame.specs.FrameContent.{FrameContent}
use Rattle.co_frame_aborts.specs.declared.abort_code.AbortCode.{AbortCode}
use Rattle.co_sheet.specs.Content.{Row}
use Rattle.co_sheet.specs.Limits.{Default, absent, number, node_id, text, pairs}
use Rattle.co_sheet_changes.specs.Names.{row_at}
use Rattle.co_value.specs.Numbers as numbers
use Rattle.co_value.specs.Types.{width_of}
use Rattle.conode_explain_transfers.specs.declared.ended.Ended.{Ended}
use Rattle.conode_explain_transfers.specs.declared.ended.Ending.{Ending}
use Rattle.conode_explain_transfers.specs.declared.ended.Ending.TheVariants.{Aborted, Done}
use Rattle.conode_explain_transfers.specs.declared.kinds.Direction.{Direction}
use Rattle.conode_explain_transfers.specs.declared.kinds.Direction.TheVariants.{Download, Upload}
use Rattle.conode_explain_transfers.specs.declared.kinds.Protocol.{Protocol}
use Rattle.conode_explain_transfers.specs.declared.kinds.Protocol.TheVariants.{Expedited}
use Rattle.conode_explain_transfers.specs.declared.kinds.Side.TheVariants.{Client, Server}
use Rattle.conode_compare_values.specs.declared.mismatch.Mismatch.{Mismatch}
use Rattle.conode_compare_values.specs.declared.mismatch.Mismatch.TheVariants.{AboveLimit, BelowLimit, BeyondRoom, ConstText, ReadRefused, ReadServed, ValueConst, ValueLength, Written}
use Rattle.conode_compare_values.specs.declared.rooms.Rooms.{Rooms}
use Rattle.conode_compare_values.specs.SheetValues.{beyond_mismatch, constant_mismatch, denies, download_mismatch, has_limits, has_room, has_width, held_number, is_above, is_below, is_by_modules, is_closed, is_comparable, is_held_text, is_number, is_other_text, is_other_value, is_readable, is_stored, least_bytes, limit_mismatch, long_mismatch, mismatch_at, mismatch_by, over_room, read_mismatch, refused_mismatch, room_mismatch, room_of, row_mismatch, served_mismatch, shown_number, text_mismatch, text_with, unless_modules, value_by, value_mismatch, width_mismatch, written_bytes, written_mismatch}
use Rattle.conode_compare_nmt.specs.declared.finding.Finding.{Finding}
use Rattle.conode_compare_nmt.specs.declared.finding.Finding.TheVariants.{Value}
use Rattle.conode_compare_nmt.specs.declared.limits.Subject.{Subject}
use Rattle.conode_compare_rules.specs.Answers.{is_exact, known_finding, refuses_other, value_finding}

-- ---- some of the differences

-- of a value that is uploaded
abbrev pub is_data : Mismatch → Bool
is_data (ValueLength key came width) = true
is_data (ValueConst key shown held) = true
is_data (ConstText key) = true
is_data _ = false

-- where it is another than the sheet's
abbrev pub is_const : Mismatch → Bool
is_const (ValueConst key shown held) = true
is_const (ConstText key) = true
is_const _ = false

-- by a download
abbrev pub is_write : Mismatch → Bool
is_write (Written key) = true
is_write (AboveLimit key) = true
is_write (BelowLimit key) = true
is_write (BeyondRoom key came room) = true
is_write _ = false

-- of a number that is beyond limits
abbrev pub is_limit : Mismatch → Bool
is_limit (AboveLimit key) = true
is_limit (BelowLimit key) = true
is_limit _ = false

abbrev pub is_room : Mismatch → Bool
is_room (BeyondRoom key came room) = true
is_room _ = false

abbrev pub is_refusal : Mismatch → Bool
is_refusal (ReadRefused key code) = true
is_refusal _ = false

-- of an entry that is write only
abbrev pub is_served : Mismatch → Bool
is_served (ReadServed key) = true
is_served _ = false

abbrev pub AreOnly : (Mismatch → Bool) → Option Mismatch → Type 0
AreOnly is m = IfSome m (λ x. is x ≡ true)

module _ (is : Mismatch → Bool) where
  only_if : (b : Bool) (x y : Option Mismatch) → AreOnly is x → AreOnly is y → AreOnly is (if b then x else y)
  only_if true x y p q = p
  only_if false x y p q = q

  -- they are these, too
  widened : (wide : Mismatch → Bool) → ((m : Mismatch) → is m ≡ true → wide m ≡ true) → (m : Option Mismatch) → AreOnly is m → AreOnly wide m
  widened wide f None h = tt
  widened wide f (Some m) h = f m h

constants_data : (m : Mismatch) → is_const m ≡ true → is_data m ≡ true
constants_data (ValueConst key shown held) h = refl
constants_data (ConstText key) h = refl
constants_data _ h = absurd (false≢true h)

limits_write : (m : Mismatch) → is_limit m ≡ true → is_write m ≡ true
limits_write (AboveLimit key) h = refl
limits_write (BelowLimit key) h = refl
limits_write _ h = absurd (false≢true h)

rooms_write : (m : Mismatch) → is_room m ≡ true → is_write m ≡ true
rooms_write (BeyondRoom key came room) h = refl
rooms_write _ h = absurd (false≢true h)

-- ---- an upload that is done

pub constants_only : (row : Row) (shown held : Option ℕ) → AreOnly is_const (constant_mismatch row shown held)
constants_only row None held = tt
constants_only row (Some shown) None = tt
constants_only row (Some shown) (Some held) = only_if is_const (is_other_value row shown held) (Some (ValueConst row.key shown held)) None refl tt

pub texts_only : (row : Row) (exact : Bool) (default : Default) (shown : List ℕ) → AreOnly is_const (text_with row exact default shown)
texts_only row exact (text bytes) shown = only_if is_const (is_held_text row && (is_comparable bytes && is_other_text exact bytes shown)) (Some (ConstText row.key)) None refl tt
texts_only row exact absent shown = tt
texts_only row exact (number n) shown = tt
texts_only row exact (node_id n) shown = tt
texts_only row exact (pairs digits) shown = tt

longs_only : (node : ℕ) (row : Row) (exact : Bool) (count : ℕ) (bytes : List ℕ) (width : ℕ) → AreOnly is_data (long_mismatch node row exact count bytes width)
longs_only node row exact count bytes width =
    only_if is_data (has_width exact width count) (constant_mismatch row (shown_number width bytes) (held_number node row)) (Some (ValueLength row.key count width))
    (widened is_const is_data constants_data (constant_mismatch row (shown_number width bytes) (held_number node row)) (constants_only row (shown_number width bytes) (held_number node row))) refl

widths_only : (node : ℕ) (row : Row) (exact : Bool) (protocol : Protocol) (count : ℕ) (bytes : List ℕ) (width : ℕ) → AreOnly is_data (width_mismatch node row exact protocol count bytes width)
widths_only node row exact Expedited count bytes width =
    only_if is_data (nat_lt 4 width || (exact && not (width == length bytes))) (Some (ValueLength row.key (length bytes) width)) (constant_mismatch row (shown_number width bytes) (held_number node row)) refl
    (widened is_const is_data constants_data (constant_mismatch row (shown_number width bytes) (held_number node row)) (constants_only row (shown_number width bytes) (held_number node row)))
widths_only node row exact _ count bytes width = longs_only node row exact count bytes width

pub values_only : (node : ℕ) (row : Row) (exact : Bool) (e : Ended) → AreOnly is_data (value_mismatch node row exact e)
unfolding value_mismatch
values_only node row exact e = by (width_of row.data_type)
  where
    by : (width : Option ℕ) → AreOnly is_data (value_by node row exact e width)
    by None = widened is_const is_data constants_data (text_mismatch row exact e.first.items) (texts_only row exact row.default e.first.items)
    by (Some width) = widths_only node row exact e.protocol e.bytes e.first.items width

-- ---- an upload that is refused

pub refusals_only : (modular : Bool) (row : Row) (code : AbortCode) → AreOnly is_refusal (refused_mismatch modular row code)
refusals_only modular row code = only_if is_refusal (not modular && (denies row.key code.0 && is_readable row.access)) (Some (ReadRefused row.key code)) None refl tt

-- ---- a download that is done

pub limits_only : (row : Row) (bytes : List ℕ) → AreOnly is_limit (beyond_mismatch row bytes)
limits_only row bytes =
    only_if is_limit (has_limits row && is_number row bytes) (limit_mismatch row (numbers.number_of row.data_type bytes)) None
    (only_if is_limit (is_above row.high (numbers.number_of row.data_type bytes)) (Some (AboveLimit row.key)) _ refl
    (only_if is_limit (is_below row.low (numbers.number_of row.data_type bytes)) (Some (BelowLimit row.key)) None refl tt))
    tt

pub rooms_only : (rooms : Rooms) (row : Row) (protocol : Protocol) (count : ℕ) → AreOnly is_room (room_mismatch rooms row protocol count)
rooms_only rooms row protocol count = by (room_of rooms row)
  where
    by : (room : Option ℕ) → AreOnly is_room (option_and_then (over_room row protocol count) room)
    by None = tt
    by (Some room) = only_if is_room (nat_lt room (least_bytes protocol count)) (Some (BeyondRoom row.key count room)) None refl tt

or_only : (x y : Option Mismatch) → AreOnly is_write x → AreOnly is_write y → AreOnly is_write (option_or x y)
or_only None y p q = q
or_only (Some m) y p q = p

writes_only : (rooms : Rooms) (row : Row) (e : Ended) → AreOnly is_write (download_mismatch rooms row e)
writes_only rooms row e =
    let bytes : List ℕ = written_bytes row.data_type e.protocol e.first.items in
    or_only (written_mismatch row bytes) (room_mismatch rooms row e.protocol e.bytes)
    (only_if is_write (is_closed row) (Some (Written row.key)) (beyond_mismatch row bytes) refl (widened is_limit is_write limits_write (beyond_mismatch row bytes) (limits_only row bytes)))
    (widened is_room is_write rooms_write (room_mismatch rooms row e.protocol e.bytes) (rooms_only rooms row e.protocol e.bytes))

nothing_more : (b : Bool) → (b && false) ≡ false
nothing_more true = refl
nothing_more false = refl

-- ---- what is picked of them

module _ (only : Option Finding → List Finding) (nothing : only None ≡ []) where
  -- none of these differences is picked
  abbrev pub Passes : (Mismatch → Bool) → Type 0
  Passes is = (m : Mismatch) → is m ≡ true → only (Some (Value m)) ≡ []

  pub passed : (is : Mismatch → Bool) → Passes is → (m : Option Mismatch) → AreOnly is m → only (value_finding m) ≡ []
  passed is passes None h = nothing
  passed is passes (Some m) h = passes m h

  pub or_none : (x y : Option Mismatch) → only (value_finding x) ≡ [] → only (value_finding y) ≡ [] → only (value_finding (option_or x y)) ≡ []
  or_none None y p q = q
  or_none (Some m) y p q = p

  pub if_none : (b : Bool) (x y : Option Mismatch) → (b ≡ true → only (value_finding x) ≡ []) → (b ≡ false → only (value_finding y) ≡ []) → only (value_finding (if b then x else y)) ≡ []
  if_none true x y p q = p refl
  if_none false x y p q = q refl

  -- modules take differences away
  modules_none : (modular : Bool) (m : Option Mismatch) → only (value_finding m) ≡ [] → only (value_finding (unless_modules modular m)) ≡ []
  modules_none modular None h = nothing
  modules_none modular (Some m) h = by (modular && is_by_modules m)
    where
      by : (b : Bool) → only (value_finding (if b then None else Some m)) ≡ []
      by true = nothing
      by false = h

  -- an entry that is write only is read
  read_none : (node : ℕ) (modular : Bool) (row : Row) (exact : Bool) (e : Ended) → Passes is_served → only (value_finding (value_mismatch node row exact e)) ≡ []
      → only (value_finding (read_mismatch node modular row exact e)) ≡ []
  read_none node modular row exact e served h = by (is_readable row.access) (modular || is_stored row.key.index)
    where
      by : (readable b : Bool) → only (value_finding (if readable then unless_modules modular (value_mismatch node row exact e) else (if b then None else Some (ReadServed row.key)))) ≡ []
      by true b = modules_none modular (value_mismatch node row exact e) h
      by false true = nothing
      by false false = served (ReadServed row.key) refl

  -- of an entry of the sheet
  pub known_none : (subject : Subject) (rows : List Row) (frame : FrameContent) (e : Ended)
      → ((row : Row) → row_at rows e.key ≡ Some row → only (value_finding (row_mismatch subject.node subject.facts.modular subject.rooms row (is_exact e.protocol frame) e)) ≡ [])
      → only (known_finding subject rows frame e) ≡ []
  unfolding mismatch_at
  known_none subject rows frame e h = by (refuses_other frame e)
    where
      at : (o : Option Row) → row_at rows e.key ≡ o
          → only (value_finding (option_and_then (λ row. row_mismatch subject.node subject.facts.modular subject.rooms row (is_exact e.protocol frame) e) o)) ≡ []
      at None is = nothing
      at (Some row) is = h row is

      by : (b : Bool) → only (if b then None else value_finding (option_and_then (λ row. row_mismatch subject.node subject.facts.modular subject.rooms row (is_exact e.protocol frame) e) (row_at rows e.key))) ≡ []
      by true = nothing
      by false = at (row_at rows e.key) refl

  -- of one whose entry a frame that is an abort names
  pub named_none : (subject : Subject) (rows : List Row) (frame : FrameContent) (e : Ended)
      → (refuses_other frame e ≡ false → (row : Row) → row_at rows e.key ≡ Some row → only (value_finding (row_mismatch subject.node subject.facts.modular subject.rooms row (is_exact e.protocol frame) e)) ≡ [])
      → only (known_finding subject rows frame e) ≡ []
  unfolding mismatch_at
  named_none subject rows frame e h = by (refuses_other frame e) refl
    where
      at : (o : Option Row) → row_at rows e.key ≡ o → refuses_other frame e ≡ false
          → only (value_finding (option_and_then (λ row. row_mismatch subject.node subject.facts.modular subject.rooms row (is_exact e.protocol frame) e) o)) ≡ []
      at None is off = nothing
      at (Some row) is off = h off row is

      by : (b : Bool) → refuses_other frame e ≡ b
          → only (if b then None else value_finding (option_and_then (λ row. row_mismatch subject.node subject.facts.modular subject.rooms row (is_exact e.protocol frame) e) (row_at rows e.key))) ≡ []
      by true off = nothing
      by false off = at (row_at rows e.key) refl off

  -- by how the transfer ends
  pub downloads_none : (node : ℕ) (modular : Bool) (rooms : Rooms) (row : Row) (exact : Bool) (e : Ended) → Passes is_data → Passes is_refusal → Passes is_served
      → ((crc : Bool) → e.direction ≡ Download → e.ending ≡ Done crc → only (value_finding (download_mismatch rooms row e)) ≡ [])
      → only (value_finding (row_mismatch node modular rooms row exact e)) ≡ []
  unfolding row_mismatch
  downloads_none node modular rooms row exact e values refusals served h = by e.direction e.ending refl refl
    where
      by : (direction : Direction) (ending : Ending) → e.direction ≡ direction → e.ending ≡ ending → only (value_finding (mismatch_by node modular rooms row exact e direction ending)) ≡ []
      by Upload (Done crc) d s = read_none node modular row exact e served (passed is_data values (value_mismatch node row exact e) (values_only node row exact e))
      by Download (Done crc) d s = h crc d s
      by Upload (Aborted Server code) d s = passed is_refusal refusals (refused_mismatch modular row code) (refusals_only modular row code)
      by Upload (Aborted Client code) d s = nothing
      by Upload _ d s = nothing
      by Download _ d s = nothing

  pub uploads_none : (node : ℕ) (modular : Bool) (rooms : Rooms) (row : Row) (exact : Bool) (e : Ended) → Passes is_write → Passes is_refusal → Passes is_served
      → ((crc : Bool) → e.direction ≡ Upload → e.ending ≡ Done crc → only (value_finding (value_mismatch node row exact e)) ≡ [])
      → only (value_finding (row_mismatch node modular rooms row exact e)) ≡ []
  unfolding row_mismatch
  uploads_none node modular rooms row exact e writes refusals served h = by e.direction e.ending refl refl
    where
      by : (direction : Direction) (ending : Ending) → e.direction ≡ direction → e.ending ≡ ending → only (value_finding (mismatch_by node modular rooms row exact e direction ending)) ≡ []
      by Upload (Done crc) d s = read_none node modular row exact e served (h crc d s)
      by Download (Done crc) d s = passed is_write writes (download_mismatch rooms row e) (writes_only rooms row e)
      by Upload (Aborted Server code) d s = passed is_refusal refusals (refused_mismatch modular row code) (refusals_only modular row code)
      by Upload (Aborted Client code) d s = nothing
      by Upload _ d s = nothing
      by Download _ d s = nothing

  pub refusals_none : (node : ℕ) (modular : Bool) (rooms : Rooms) (row : Row) (exact : Bool) (e : Ended) → Passes is_data → Passes is_write → Passes is_served
      → ((code : AbortCode) → e.direction ≡ Upload → e.ending ≡ Aborted Server code → only (value_finding (refused_mismatch modular row code)) ≡ [])
      → only (value_finding (row_mismatch node modular rooms row exact e)) ≡ []
  unfolding row_mismatch
  refusals_none node modular rooms row exact e values writes served h = by e.direction e.ending refl refl
    where
      by : (direction : Direction) (ending : Ending) → e.direction ≡ direction → e.ending ≡ ending → only (value_finding (mismatch_by node modular rooms row exact e direction ending)) ≡ []
      by Upload (Done crc) d s = read_none node modular row exact e served (passed is_data values (value_mismatch node row exact e) (values_only node row exact e))
      by Download (Done crc) d s = passed is_write writes (download_mismatch rooms row e) (writes_only rooms row e)
      by Upload (Aborted Server code) d s = h code d s
      by Upload (Aborted Client code) d s = nothing
      by Upload _ d s = nothing
      by Download _ d s = nothing

  -- only where an entry that is write only is read
  pub served_none : (node : ℕ) (modular : Bool) (rooms : Rooms) (row : Row) (exact : Bool) (e : Ended) → Passes is_data → Passes is_write → Passes is_refusal
      → ((crc : Bool) → e.direction ≡ Upload → e.ending ≡ Done crc → is_readable row.access ≡ true)
      → only (value_finding (row_mismatch node modular rooms row exact e)) ≡ []
  unfolding row_mismatch
  served_none node modular rooms row exact e values writes refusals h = by e.direction e.ending refl refl
    where
      readable : (b : Bool) → b ≡ true → only (value_finding (if b then unless_modules modular (value_mismatch node row exact e) else served_mismatch modular row)) ≡ []
      readable true on = modules_none modular (value_mismatch node row exact e) (passed is_data values (value_mismatch node row exact e) (values_only node row exact e))
      readable false on = absurd (false≢true on)

      by : (direction : Direction) (ending : Ending) → e.direction ≡ direction → e.ending ≡ ending → only (value_finding (mismatch_by node modular rooms row exact e direction ending)) ≡ []
      by Upload (Done crc) d s = readable (is_readable row.access) (h crc d s)
      by Download (Done crc) d s = passed is_write writes (download_mismatch rooms row e) (writes_only rooms row e)
      by Upload (Aborted Server code) d s = passed is_refusal refusals (refused_mismatch modular row code) (refusals_only modular row code)
      by Upload (Aborted Client code) d s = nothing
      by Upload _ d s = nothing
      by Download _ d s = nothing

  -- of a number that has the width of its type, where it doesn't come expedited, or is short enough
  pub number_none : (node : ℕ) (row : Row) (exact : Bool) (e : Ended) (w : ℕ) → width_of row.data_type ≡ Some w → (e.protocol ≡ Expedited → w ≤ 4) → e.bytes ≡ w → length e.first.items ≡ w
      → only (value_finding (constant_mismatch row (shown_number w e.first.items) (held_number node row))) ≡ [] → only (value_finding (value_mismatch node row exact e)) ≡ []
  unfolding value_mismatch
  number_none node row exact e w wide short count first h = subst (λ width. only (value_finding (value_by node row exact e width)) ≡ []) (sym wide) (by e.protocol short)
    where
      same : (w == w) ≡ true
      same = grind (arith, nat_tests)

      room : has_room w w ≡ true
      room = let a : nat_le w w ≡ true = grind (arith, nat_tests) in let b : nat_le w (w + 6) ≡ true = grind (arith, nat_tests) in rw (a, b) refl

      fits : (b : Bool) → has_width b w w ≡ true
      fits true = same
      fits false = room

      long : only (value_finding (long_mismatch node row exact e.bytes e.first.items w)) ≡ []
      long = subst (λ n. only (value_finding (long_mismatch node row exact n e.first.items w)) ≡ []) (sym count) (rw (fits exact) h)

      by : (protocol : Protocol) → (protocol ≡ Expedited → w ≤ 4) → only (value_finding (width_mismatch node row exact protocol e.bytes e.first.items w)) ≡ []
      by Expedited short =
          let few : w ≤ 4 = short refl in
          let less : nat_lt 4 w ≡ false = grind (arith, nat_tests) in
          let whole : (exact && not (w == length e.first.items)) ≡ false = ap (λ n. exact && not (w == n)) first ∙ ap (λ b. exact && not b) same ∙ nothing_more exact in
          rw (less, whole) h
      by _ short = long
