-- An entry that nobody writes has the bytes throughout that it began with: no error, no data of RPDOs and no reset changes it.
use Rattle.std.proofs.Common.{◌≡◌, ℕ, ◌≤◌, Bool, true, false, List, [], ◌∷◌, take, drop, Option, Some, None, refl, ap, sym, ◌∙◌, lit≤, arith}
use Rattle.std.specs.Prelude.{if◌then◌else◌, ◌==◌, ◌&&◌, ◌||◌, nat_le, nat_lt, is_some, length, option_and_then}
use Rattle.std.specs.List.{list_all}
use Rattle.std.specs.Option.{option_map_or}
use Rattle.std.proofs.lemmas.Bool.{and_parts, false≢true}
use Rattle.std.proofs.lemmas.Bool.Decides.{nat_tests}
use Rattle.co_value.specs.declared.key.Key.{Key}
use Rattle.co_value.specs.Keys.{same_key, same_key-is}
use Rattle.co_value.specs.Numbers.{low_bytes}
use Rattle.co_value.specs.Types.{width_of}
use Rattle.co_profile.specs.Keys.{error_register_key}
use Rattle.co_dict.specs.declared.area.Area.{Area}
use Rattle.co_dict.specs.declared.row.Row.{Row}
use Rattle.co_dict.specs.declared.side.Side.TheVariants.{Rpdo}
use Rattle.co_dict.specs.ErrorField.{error_key, error_room, moved_bytes, moved_down, next_count, pushed}
use Rattle.co_dict.specs.MappingWords.{may_be_mapped}
use Rattle.co_dict.specs.Objects.{has_sub, subs_present}
use Rattle.co_dict.specs.Rows.{Contents, Rows, is_in_area, restored, with_number, written}
use Rattle.co_dict.specs.Stores.{Description}
use Rattle.co_pdo.specs.declared.mapping.Mapped.{Mapped}
use Rattle.co_pdo.specs.declared.mapping.Mapped.TheVariants.{Dummy, Entry}
use Rattle.co_pdo.specs.Images.{any_outside, contents_after, with_parts, written_in_order}
use Rattle.co_pdo.specs.Mappings.{mapping_of, total_of}
use Rattle.co_node_model.specs.Device.{contents_of, moment, moments}
use Rattle.co_node_model.specs.Inputs.{Inputs, InputView}
use Rattle.co_node_model.specs.Moments.{Constants}
use Rattle.conode_compare_laws.proofs.AlwaysFitted.{Any, any_frames}
use Rattle.conode_compare_laws.proofs.Fitting.{mapping_passes, moved_key, no_more}
use Rattle.conode_compare_laws.proofs.KeptEntries.{GoodInput, Keeps, next}

-- ---- what the data of an RPDO may write

-- an entry that may be mapped into an RPDO
abbrev pub is_received : Rows → Key → Bool
is_received rows key = option_map_or (λ (row : Row). may_be_mapped Rpdo key.index row) (rows key) false

abbrev takes_data : Rows → Mapped → Bool
takes_data rows (Entry key w) = is_received rows key
takes_data rows (Dummy w) = true

received_row : (index : ℕ) (o : Option Row) (w : ℕ) → option_and_then (λ row. if may_be_mapped Rpdo index row then width_of row.data_type else None) o ≡ Some w → option_map_or (λ (row : Row). may_be_mapped Rpdo index row) o false ≡ true
received_row index None w h = absurd (cc)
received_row index (Some row) w h = by (may_be_mapped Rpdo index row) h
  where
    by : (b : Bool) → (if b then width_of row.data_type else None) ≡ Some w → b ≡ true
    by true g = refl
    by false g = absurd (cc)

all_received : (d : Description) (c : Contents) (n : ℕ) → list_all (takes_data d.rows) (mapping_of Rpdo d c n) ≡ true
all_received d c n = mapping_passes Rpdo d (takes_data d.rows) (λ w. refl) (λ key w is. received_row key.index (d.rows key) w is) c n

-- ---- which entries are meant

-- none that an error changes or an RPDO writes, and each begins with what a reset restores
pub record AreSteady (d : Description) (start : Contents) (steady : Key → Bool) : Type 0 where
  pub register : steady error_register_key ≡ false
  pub errors : (sub : ℕ) → sub ≤ 254 → steady (error_key sub) ≡ false
  pub received : (key : Key) → is_received d.rows key ≡ true → steady key ≡ false
  pub restored : (key : Key) → steady key ≡ true → d.initial key ≡ start key

-- they have the bytes that they began with
abbrev pub AreSame : Contents → (Key → Bool) → Contents → Type 0
AreSame start steady c = (key : Key) → steady key ≡ true → c key ≡ start key

-- what is written is none of them
abbrev pub IsBeside : (Key → Bool) → Key → List ℕ → Type 0
IsBeside steady key bytes = steady key ≡ false

module _ (d : Description) (start : Contents) (steady : Key → Bool) (is : AreSteady d start steady) where
  -- ---- a write of another entry

  write_same : (c : Contents) (other : Key) (bytes : List ℕ) → steady other ≡ false → AreSame start steady c → AreSame start steady (written c other bytes)
  write_same c other bytes off h = λ key on. by key on (same_key key other) refl
    where
      by : (key : Key) → steady key ≡ true → (b : Bool) → same_key key other ≡ b → (if b then Some bytes else c key) ≡ start key
      by key on true e = absurd (false≢true (sym off ∙ ap steady (sym (same_key-is key other e)) ∙ on))
      by key on false e = h key on

  -- ---- errors

  register_same : (c : Contents) (n : ℕ) → AreSame start steady c → AreSame start steady (with_number d.rows error_register_key n c)
  register_same c n h = by (is_some (d.rows error_register_key))
    where
      by : (b : Bool) → AreSame start steady (if b then written c error_register_key (low_bytes 1 n) else c)
      by true = write_same c error_register_key (low_bytes 1 n) is.register h
      by false = h

  moved_same : (c : Contents) (first : List ℕ) (last : ℕ) → last ≤ 254 → AreSame start steady c → AreSame start steady (moved_down c first last)
  moved_same c first last few h = λ key on. by key on ((key.index == 0x1003) && nat_le 1 key.sub && nat_le key.sub last) refl
    where
      by : (key : Key) → steady key ≡ true → (b : Bool) → ((key.index == 0x1003) && nat_le 1 key.sub && nat_le key.sub last) ≡ b → (if b then moved_bytes c first key.sub else c key) ≡ start key
      by key on false e = h key on
      by key on true e =
          let both = and_parts ((key.index == 0x1003) && nat_le 1 key.sub) (nat_le key.sub last) e in
          let index = and_parts (key.index == 0x1003) (nat_le 1 key.sub) both.0 in
          let high : key.sub ≤ 254 = grind (arith, nat_tests, both.1) in
          absurd (false≢true (sym (is.errors key.sub high) ∙ ap steady (moved_key key index.0) ∙ on))

  few_errors : error_room d.rows ≤ 254
  few_errors = by (has_sub d.rows 0x1003 0)
    where
      by : (b : Bool) → (if b then subs_present d.rows 0x1003 254 else 0) ≤ 254
      by true = no_more d.rows 0x1003 254
      by false = lit≤ tt

  error_same : (c : Contents) (code : ℕ) → AreSame start steady c → AreSame start steady (pushed d.rows code c)
  error_same c code h = by (nat_lt 0 (error_room d.rows))
    where
      by : (b : Bool)
          → AreSame start steady (if b then written (moved_down c (low_bytes 4 code) (error_room d.rows)) (error_key 0) (low_bytes 1 (next_count c (error_room d.rows))) else c)
      by true =
          write_same (moved_down c (low_bytes 4 code) (error_room d.rows)) (error_key 0) (low_bytes 1 (next_count c (error_room d.rows))) (is.errors 0 (lit≤ tt))
          (moved_same c (low_bytes 4 code) (error_room d.rows) few_errors h)
      by false = h

  -- ---- the data of an RPDO

  in_order_same : (mapping : List Mapped) (bytes : List ℕ) (c : Contents) → list_all (takes_data d.rows) mapping ≡ true → AreSame start steady c → AreSame start steady (written_in_order c (with_parts mapping bytes))
  in_order_same [] bytes c all h = h
  in_order_same (Dummy w ∷ mapping) bytes c all h = in_order_same mapping (drop w bytes) c all h
  in_order_same (Entry key w ∷ mapping) bytes c all h =
      let both = and_parts (is_received d.rows key) (list_all (takes_data d.rows) mapping) all in
      in_order_same mapping (drop w bytes) (written c key (take w bytes)) both.1 (write_same c key (take w bytes) (is.received key both.0) h)

  data_same : (mapping : List Mapped) (bytes : List ℕ) (c : Contents) → list_all (takes_data d.rows) mapping ≡ true → AreSame start steady c → AreSame start steady (contents_after d.rows mapping bytes c)
  data_same mapping bytes c all h = by (nat_lt (length bytes) (total_of mapping) || any_outside d.rows mapping bytes)
    where
      by : (b : Bool) → AreSame start steady (if b then c else written_in_order c (with_parts mapping bytes))
      by true = h
      by false = in_order_same mapping bytes c all h

  -- ---- a reset

  reset_same : (area : Area) (c : Contents) → AreSame start steady c → AreSame start steady (restored area d.initial c)
  reset_same area c h = λ key on. by key on (is_in_area area key)
    where
      by : (key : Key) → steady key ≡ true → (b : Bool) → (if b then d.initial key else c key) ≡ start key
      by key on true = is.restored key on
      by key on false = h key on

  same_keeps : Keeps d (AreSame start steady) (IsBeside steady) Any
  same_keeps = record {
    write = λ c key bytes off h. write_same c key bytes off h;
    register = λ c n h. register_same c n h;
    error = λ c code h. error_same c code h;
    data_taken = λ c n bytes good h. data_same (mapping_of Rpdo d c n) bytes c (all_received d c n) h;
    reset = λ area c h. reset_same area c h;
  }

-- ---- an input

pub same_next : (k : Constants) (steady : Key → Bool) → AreSteady k.description k.start steady → (before : Inputs) (input : InputView) → GoodInput k (IsBeside steady) (moments k before) input
    → AreSame k.start steady (contents_of k before) → AreSame k.start steady (contents_of k (input ∷ before))
same_next k steady is before input good h =
    next k (AreSame k.start steady) (IsBeside steady) Any (same_keeps k.description k.start steady is) (moments k before) input good (any_frames (moment k (moments k before) input).taken) h
