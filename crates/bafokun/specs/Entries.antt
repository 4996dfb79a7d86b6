-- An entry of a device for C.
use Rattle.std.specs.Prelude.{◌≡◌, ℕ, Bool, true, false, List, length, Option, Some, None}
use Rattle.std.specs.Option.{option_and_then, option_map_or}
use Rattle.co_value.specs.declared.key.Key.{Key}
use Rattle.co_value.specs.Types.{code_of}
use Rattle.co_profile.specs.declared.access.Access.{Access}
use Rattle.co_profile.specs.declared.access.Access.TheVariants.{Ro, Wo, Rw, Rwr, Rww, Constant}
use Rattle.co_dict.specs.Rows.{Contents}
use Rattle.co_dict_table.specs.Entries.{EntryContent, entry_at}
use Rattle.bafokun.specs.declared.entries.Entry.{Entry}
use Rattle.bafokun.specs.declared.entries.Named.{Named}
use Rattle.bafokun.specs.declared.entries.Named.TheVariants as named

-- an access as a number
abbrev pub access_code : Access → ℕ
access_code Ro = 1
access_code Wo = 2
access_code Rw = 3
access_code Rwr = 4
access_code Rww = 5
access_code Constant = 6

-- how many bytes an entry has
abbrev pub length_in : Contents → EntryContent → ℕ
length_in contents e = option_map_or (λ bytes. length bytes) (contents e.facts.key) 0

-- the form of an entry for C, with `size` bytes now
abbrev pub c_entry : EntryContent → ℕ → Entry
c_entry e size = record {
  index = e.facts.key.index;
  sub_index = e.facts.key.sub;
  access = access_code e.facts.access;
  data_type = code_of e.facts.data_type;
  original_type = e.facts.original;
  capacity = e.facts.capacity;
  length = size;
}

-- if there is a number, C gets it; else nothing changes
abbrev pub IsNumber : Option ℕ → ℕ → ℕ → Bool → Type 0
IsNumber None before after found = (after ≡ before) × (found ≡ false)
IsNumber (Some number) before after found = (after ≡ number) × (found ≡ true)

-- if there is an entry, C gets it, with the number of its bytes in these contents; else nothing
-- changes
abbrev pub IsEntry : Option EntryContent → Contents → Entry → Entry → Bool → Type 0
IsEntry None contents before after found = (after ≡ before) × (found ≡ false)
IsEntry (Some e) contents before after found = (after ≡ c_entry e (length_in contents e)) × (found ≡ true)

-- the key of the entry with a number; 0000:00, which no entry has, if there is no such entry
abbrev pub key_numbered : List EntryContent → ℕ → Key
key_numbered entries number = option_map_or (λ e. e.facts.key) (entry_at entries number) (record { index = 0; sub = 0 })

-- the bytes of the entry with a number in these contents
abbrev pub value_numbered : List EntryContent → Contents → ℕ → Option (List ℕ)
value_numbered entries contents number = option_and_then (λ e. contents e.facts.key) (entry_at entries number)

-- the key of an entry that C names
abbrev pub key_named : List EntryContent → Named → Key
key_named entries (named.Key key) = key
key_named entries (named.Number number) = key_numbered entries number
