-- A small device with node-ID 5, whose entries the closed examples look at.
use Rattle.std.proofs.Common.{ℕ, List, [], ◌∷◌, None, true, false}
use Rattle.std.specs.Prelude.{Bool, pos, negsuc, ◌==◌, ◌||◌, find, map, option_map, unwrap_or}
use Rattle.co_value.specs.declared.key.Key.{Key}
use Rattle.co_value.specs.declared.data_type.DataType.{DataType}
use Rattle.co_value.specs.declared.data_type.DataType.TheVariants.{Unsigned8, Unsigned16, Unsigned32, Integer16, Boolean, VisibleString, Domain}
use Rattle.co_value.specs.Keys.{same_key}
use Rattle.co_value.specs.Types.{width_of, least_of, greatest_of}
use Rattle.co_value.specs.Numbers.{low_bytes}
use Rattle.co_profile.specs.declared.access.Access.{Access}
use Rattle.co_profile.specs.declared.access.Access.TheVariants.{Ro, Wo, Rw, Rwr, Rww, Constant}
use Rattle.co_dict.specs.declared.row.Row.{Row}
use Rattle.co_dict.specs.Rows.{Rows, Contents, written}
use Rattle.co_dict.specs.Stores.{Description}
use Rattle.co_dict.specs.Objects.{has_object, subs_present}
use Rattle.co_dict.specs.SdoChannels.{is_sdo_id}
use Rattle.co_dict.specs.ConsumerHeartbeats.{is_consumed_elsewhere}

-- a key
abbrev pub at : ℕ → ℕ → Key
at index sub = record { index = index; sub = sub }

-- a numeric entry with the limits of its type
abbrev pub number_row : DataType → Access → Bool → Row
number_row t access mappable = record {
  data_type = t;
  access = access;
  low = unwrap_or (least_of t) (pos 0);
  high = unwrap_or (greatest_of t) (pos 0);
  capacity = unwrap_or (width_of t) 0;
  mappable = mappable;
}

-- an entry that is a string or a domain
abbrev pub text_row : DataType → ℕ → Row
text_row t capacity = record { data_type = t; access = Rw; low = pos 0; high = pos 0; capacity = capacity; mappable = false }

abbrev device_rows : List (Key × Row)
device_rows =
    (at 0x1000 0, number_row Unsigned32 Ro false)
    ∷ (at 0x1003 0, number_row Unsigned8 Rw false)
    ∷ (at 0x1003 1, number_row Unsigned32 Ro false)
    ∷ (at 0x1003 2, number_row Unsigned32 Ro false)
    ∷ (at 0x1005 0, number_row Unsigned32 Rw false)
    ∷ (at 0x1010 1, number_row Unsigned32 Rw false)
    ∷ (at 0x1014 0, number_row Unsigned32 Rw false)
    ∷ (at 0x1016 1, number_row Unsigned32 Rw false)
    ∷ (at 0x1016 2, number_row Unsigned32 Rw false)
    ∷ (at 0x1016 0x7F, number_row Unsigned32 Rw false)
    ∷ (at 0x1016 0x80, number_row Unsigned32 Rw false)
    ∷ (at 0x1018 0, number_row Unsigned8 Ro false)
    ∷ (at 0x1019 0, number_row Unsigned8 Rw false)
    ∷ (at 0x1029 1, number_row Unsigned8 Rw false)
    ∷ (at 0x1201 1, number_row Unsigned32 Rw false)
    ∷ (at 0x1201 2, number_row Unsigned32 Rw false)
    ∷ (at 0x1400 1, number_row Unsigned32 Rw false)
    ∷ (at 0x1400 2, number_row Unsigned8 Rw false)
    ∷ (at 0x1600 0, number_row Unsigned8 Rw false)
    ∷ (at 0x1600 1, number_row Unsigned32 Rw false)
    ∷ (at 0x1600 2, number_row Unsigned32 Rw false)
    ∷ (at 0x1600 4, number_row Unsigned32 Rw false)
    ∷ (at 0x1800 1, number_row Unsigned32 Rw false)
    ∷ (at 0x1800 2, number_row Unsigned8 Rw false)
    ∷ (at 0x1800 3, number_row Unsigned16 Rw false)
    ∷ (at 0x1800 6, number_row Unsigned8 Rw false)
    ∷ (at 0x1A00 0, number_row Unsigned8 Rw false)
    ∷ (at 0x1A00 1, number_row Unsigned32 Rw false)
    ∷ (at 0x1A00 2, number_row Unsigned32 Rw false)
    ∷ (at 0x1A00 3, number_row Unsigned32 Rw false)
    ∷ (at 0x1FFF 0, number_row Unsigned8 Rw true)
    ∷ (at 0x2000 0, number_row Unsigned8 Rw true)
    ∷ (at 0x2001 0, text_row VisibleString 16)
    ∷ (at 0x2002 0, number_row Unsigned32 Rw true)
    ∷ (at 0x2003 0, record (number_row Unsigned16 Rw true) { high = pos 1000 })
    ∷ (at 0x2004 0, number_row Unsigned16 Wo true)
    ∷ (at 0x2005 0, record (number_row Integer16 Rw false) { low = negsuc 9; high = pos 10 })
    ∷ (at 0x2006 1, number_row Unsigned8 Ro true)
    ∷ (at 0x2006 2, number_row Unsigned8 Rwr true)
    ∷ (at 0x2006 3, number_row Unsigned8 Rww true)
    ∷ (at 0x2006 4, number_row Unsigned8 Constant true)
    ∷ (at 0x2007 0, record (text_row VisibleString 1) { mappable = true })
    ∷ (at 0x2008 0, number_row Boolean Rw true)
    ∷ (at 0x2100 0, text_row Domain 889)
    ∷ []

-- the rows of the device
abbrev pub rows : Rows
rows key = option_map (λ entry. entry.1) (find (λ entry. same_key key entry.0) device_rows)

-- node-ID 5; the dummies 0003h and 0005h may be mapped
abbrev pub device : Description
device = record {
  node = 5;
  rows = rows;
  initial = λ key. None;
  dummies = λ index. (index == 0x0003) || (index == 0x0005);
  keys = map (λ entry. entry.0) device_rows;
}

-- contents in which no entry has bytes
abbrev pub nothing : Contents
nothing = λ key. None

-- the contents with a number of so many bytes more
abbrev pub with_u8 : ℕ → ℕ → ℕ → Contents → Contents
with_u8 index sub number contents = written contents (at index sub) (low_bytes 1 number)

abbrev pub with_u32 : ℕ → ℕ → ℕ → Contents → Contents
with_u32 index sub number contents = written contents (at index sub) (low_bytes 4 number)

-- what the examples compute by going through all sub-indices, channels and consumers
unfoldable pub searches : Unit {0}
unfolding has_object subs_present is_sdo_id is_consumed_elsewhere
searches = tt
