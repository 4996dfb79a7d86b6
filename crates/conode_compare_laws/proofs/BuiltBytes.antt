-- A device that is built from a data sheet has the bytes throughout with which it was built: those of each entry that is const there; and
-- those of its device type, vendor-ID and product code, where none of them can be written.
use Rattle.std.proofs.Common.{◌≡◌, ℕ, ◌≤◌, Bool, true, false, not, List, [], ◌∷◌, map, Option, Some, None, refl, sym, ap, ◌∙◌, ◌⊎◌, inl, inr, subst, arith}
use Rattle.std.specs.Prelude.{◌==◌, ◌&&◌, ◌||◌, nat_le}
use Rattle.std.specs.Option.{option_map_or}
use Rattle.std.proofs.lemmas.Bool.{and_parts, false≢true}
use Rattle.std.proofs.lemmas.Bool.Decides.{nat_tests}
use Rattle.co_value.specs.declared.key.Key.{Key}
use Rattle.co_value.specs.Keys.{same_key, same_key-is, same_key-refl}
use Rattle.co_profile.specs.declared.access.Access.{Access}
use Rattle.co_profile.specs.declared.access.Access.TheVariants.{Constant, Ro}
use Rattle.co_dict.specs.declared.row.Row.{Row as DictionaryRow}
use Rattle.co_dict.specs.declared.side.Side.TheVariants.{Rpdo}
use Rattle.co_dict.specs.ErrorField.{error_key}
use Rattle.co_dict.specs.MappingWords.{is_mapped_access, is_mapped_index, may_be_mapped}
use Rattle.co_dict.specs.Rows.{Contents, Rows}
use Rattle.co_dict.specs.Stores.{Description}
use Rattle.co_dict.specs.WriteRefusals.{is_constant, is_read_only}
use Rattle.co_dict_build.specs.Built.{Plan, entry_of}
use Rattle.co_dict_build.specs.Capacities.{Limits}
use Rattle.co_dict_build.specs.ListedEntries.{rows_in}
use Rattle.co_sheet.specs.Content.{Row}
use Rattle.co_node.specs.Built.{IsBuilt}
use Rattle.co_node_model.specs.Device.{contents_of, moments}
use Rattle.co_node_model.specs.Inputs.{AppView, Applied, ChangedAt, Cleared, EventOn, Framed, Inputs, InputView, Raised, Ticked, Written}
use Rattle.co_node_model.specs.Moments.{Constants, History, channels, contents_at}
use Rattle.co_node_model.specs.Sdo.{channel_logs}
use Rattle.conode_compare_values.specs.SheetValues as sheet
use Rattle.conode_compare_laws.specs.IdentityEntries.{AllHaveIdentity, AreNeverWritten, HasIdentity, is_identity, may_change}
use Rattle.conode_compare_laws.specs.OtherWriters.{AllWriteNot, WritesNot}
use Rattle.conode_compare_laws.specs.Recordings.{Stamped}
use Rattle.conode_compare_laws.proofs.ConstantEntries.{by_application, by_sdo, is_closed, is_held, open_to_sdo}
use Rattle.conode_compare_laws.proofs.KeptEntries.{GoodEvent, GoodInput, SetsPermitted}
use Rattle.conode_compare_laws.proofs.SheetNumbers.{same_back}
use Rattle.conode_compare_laws.proofs.SteadyEntries.{AreSame, AreSteady, IsBeside, same_next}
use Rattle.conode_compare_laws.proofs.TpdoKept.{begins_as_built}

-- ---- entries that are const

-- the error register and the errors
abbrev pub is_error : Key → Bool
is_error key = ((key.index == 0x1001) && (key.sub == 0)) || ((key.index == 0x1003) && nat_le key.sub 254)

-- an entry that is const, or isn't there
abbrev pub is_fixed : Rows → Key → Bool
is_fixed rows key = not (is_error key) && is_held rows key

no_error : (sub : ℕ) → sub ≤ 254 → is_error (error_key sub) ≡ true
no_error sub few = let b : nat_le sub 254 ≡ true = grind (arith, nat_tests) in rw b refl

written_access : (access : Access) → is_mapped_access Rpdo access ≡ true → is_constant access ≡ false
written_access Constant h = absurd (false≢true h)
written_access _ h = refl

-- what an RPDO writes isn't const, and is from 2000h on
not_const : (index : ℕ) (o : Option DictionaryRow) → option_map_or (λ (row : DictionaryRow). may_be_mapped Rpdo index row) o false ≡ true → option_map_or (λ (row : DictionaryRow). is_constant row.access) o true ≡ false
not_const index None h = absurd (false≢true h)
not_const index (Some row) h =
    let first = and_parts (row.mappable && is_mapped_access Rpdo row.access) (is_mapped_index Rpdo index) h in
    written_access row.access (and_parts row.mappable (is_mapped_access Rpdo row.access) first.0).1

from_2000 : (index : ℕ) (o : Option DictionaryRow) → option_map_or (λ (row : DictionaryRow). may_be_mapped Rpdo index row) o false ≡ true → nat_le 0x2000 index ≡ true
from_2000 index None h = absurd (false≢true h)
from_2000 index (Some row) h = (and_parts (row.mappable && is_mapped_access Rpdo row.access) (is_mapped_index Rpdo index) h).1

if_off : (b x : Bool) → x ≡ false → (b && x) ≡ false
if_off true x h = h
if_off false x h = refl

fixed_steady : (d : Description) (start : Contents) → ((key : Key) → d.initial key ≡ start key) → AreSteady d start (is_fixed d.rows)
fixed_steady d start begins = record {
  register = refl;
  errors = λ sub few. ap (λ b. not b && is_held d.rows (error_key sub)) (no_error sub few);
  received = λ key may. if_off (not (is_error key)) (is_held d.rows key) (not_const key.index (d.rows key) may);
  restored = λ key on. begins key;
}

-- nobody writes them
fixed_event : (d : Description) (c : Contents) (event : AppView) → GoodEvent d (IsBeside (is_fixed d.rows)) c event
fixed_event d c (Written key bytes) = λ is. if_off (not (is_error key)) (is_held d.rows key) (by_application d c key bytes is)
fixed_event d c (EventOn n) = tt
fixed_event d c (ChangedAt key) = tt
fixed_event d c (Raised code bits manufacturer) = tt
fixed_event d c (Cleared bits) = tt

fixed_input : SetsPermitted → (k : Constants) (history : History) (input : InputView) → GoodInput k (IsBeside (is_fixed k.description.rows)) history input
fixed_input permitted k history (Framed frame) = λ w is.
    if_off (not (is_error w.key)) (is_held k.description.rows w.key)
    (by_sdo k.description (contents_at k history) w.key w.indicated w.bytes (permitted (channels k) k.description (contents_at k history) (channel_logs history) frame w is))
fixed_input permitted k history Ticked = tt
fixed_input permitted k history (Applied event) = fixed_event k.description (contents_at k history) event

pub always_fixed : SetsPermitted → (plan : Plan) (k : Constants) → IsBuilt plan k → (inputs : Inputs) → AreSame k.start (is_fixed k.description.rows) (contents_of k inputs)
always_fixed permitted plan k is [] = λ key on. refl
always_fixed permitted plan k is (input ∷ inputs) =
    same_next k (is_fixed k.description.rows) (fixed_steady k.description k.start (begins_as_built plan k is)) inputs input (fixed_input permitted k (moments k inputs) input) (always_fixed permitted plan k is inputs)

-- ---- the device type, the vendor-ID and the product code

-- an entry is const, or isn't there, or it may change
either_way : (o : Option DictionaryRow) → (option_map_or (λ (row : DictionaryRow). is_constant row.access) o true ≡ true) ⊎ (option_map_or (λ (row : DictionaryRow). not (sheet.is_constant row.access)) o false ≡ true)
either_way None = inl refl
either_way (Some row) = by row.access
  where
    by : (access : Access) → (is_constant access ≡ true) ⊎ (not (sheet.is_constant access) ≡ true)
    by Constant = inl refl
    by _ = inr refl

no_error_there : (key : Key) (device : Bool) → (key.index == 0x1000) ≡ device → is_identity key ≡ true → is_error key ≡ false
no_error_there key true is on =
    let register : (key.index == 0x1001) ≡ false = grind (arith, nat_tests) in
    let errors : (key.index == 0x1003) ≡ false = grind (arith, nat_tests) in
    rw (register, errors) refl
no_error_there key false is on =
    let other : ((key.index == 0x1018) && ((key.sub == 1) || (key.sub == 2))) ≡ true = sym (ap (λ b. b || ((key.index == 0x1018) && ((key.sub == 1) || (key.sub == 2)))) is) ∙ on in
    let index : (key.index == 0x1018) ≡ true = (and_parts (key.index == 0x1018) ((key.sub == 1) || (key.sub == 2)) other).0 in
    let register : (key.index == 0x1001) ≡ false = grind (arith, nat_tests) in
    let errors : (key.index == 0x1003) ≡ false = grind (arith, nat_tests) in
    rw (register, errors) refl

-- those that are const have their bytes in any case
pub identity_same : SetsPermitted → (plan : Plan) (k : Constants) → IsBuilt plan k → (before : Inputs) → HasIdentity k (contents_of k before) → AreSame k.start is_identity (contents_of k before)
identity_same permitted plan k is before has = λ key on. by key on (either_way (k.description.rows key))
  where
    by : (key : Key) → is_identity key ≡ true → (is_held k.description.rows key ≡ true) ⊎ (may_change k.description.rows key ≡ true) → contents_of k before key ≡ k.start key
    by key on (inl held) =
        always_fixed permitted plan k is before key (ap (λ b. not b && is_held k.description.rows key) (no_error_there key (key.index == 0x1000) refl on) ∙ held)
    by key on (inr may) = has key on may

-- ---- where none of them can be written

high_other : (key : Key) → nat_le 0x2000 key.index ≡ true → is_identity key ≡ false
high_other key high = grind (arith, nat_tests)

identity_steady : (d : Description) (start : Contents) → ((key : Key) → d.initial key ≡ start key) → AreSteady d start is_identity
identity_steady d start begins = record {
  register = refl;
  errors = λ sub few. refl;
  received = λ key may. high_other key (from_2000 key.index (d.rows key) may);
  restored = λ key on. begins key;
}

-- no client can write an entry, and the application can't or doesn't, at these inputs
record IsUnwritten (rows : Rows) (inputs : List Stamped) (key : Key) : Type 0 where
  closed : is_closed rows key ≡ true
  unwritten : (is_held rows key ≡ true) ⊎ AllWriteNot key inputs

same_constant : (access : Access) → sheet.is_constant access ≡ true → is_constant access ≡ true
same_constant Constant h = refl
same_constant _ h = absurd (false≢true h)

same_read_only : (access : Access) → sheet.is_read_only access ≡ true → is_read_only access ≡ true
same_read_only Ro h = refl
same_read_only Constant h = refl
same_read_only _ h = absurd (false≢true h)

constant_closed : (access : Access) → is_constant access ≡ true → is_read_only access ≡ true
constant_closed Constant h = refl
constant_closed _ h = absurd (false≢true h)

unwritten_row : (inputs : List Stamped) (row : Row) → (sheet.is_constant row.access ≡ true) ⊎ ((sheet.is_read_only row.access ≡ true) × AllWriteNot row.key inputs)
    → (is_read_only row.access ≡ true) × ((is_constant row.access ≡ true) ⊎ AllWriteNot row.key inputs)
unwritten_row inputs row (inl h) = let on : is_constant row.access ≡ true = same_constant row.access h in (constant_closed row.access on, inl on)
unwritten_row inputs row (inr h) = (same_read_only row.access h.0, inr h.1)

unwritten_built : (node : ℕ) (limits : Limits) (inputs : List Stamped) (rows : List Row) (key : Key) → AreNeverWritten inputs rows → is_identity key ≡ true → IsUnwritten (rows_in (map (entry_of node limits) rows)) inputs key
unwritten_built node limits inputs [] key never on = record { closed = refl; unwritten = inl refl }
unwritten_built node limits inputs (row ∷ rows) key never on = by (same_key row.key key) refl (unwritten_built node limits inputs rows key never.1 on)
  where
    by : (b : Bool) → same_key row.key key ≡ b → IsUnwritten (rows_in (map (entry_of node limits) rows)) inputs key → IsUnwritten (rows_in (map (entry_of node limits) (row ∷ rows))) inputs key
    by true is later =
        let at : row.key ≡ key = same_key-is row.key key is in
        let known = unwritten_row inputs row (never.0 (ap is_identity at ∙ on)) in
        record {
          closed = rw (same_back row.key key true is) known.0;
          unwritten = rw (same_back row.key key true is) (subst (λ (x : Key). (is_constant row.access ≡ true) ⊎ AllWriteNot x inputs) at known.1);
        }
    by false is later = record { closed = rw (same_back row.key key false is) later.closed; unwritten = rw (same_back row.key key false is) later.unwritten }

module _ (permitted : SetsPermitted) (k : Constants) (begins : (key : Key) → k.description.initial key ≡ k.start key) (closed : (key : Key) → is_identity key ≡ true → is_closed k.description.rows key ≡ true) where
  -- of an input, this is known of the application
  abbrev IsLeft : InputView → Type 0
  IsLeft input = (key : Key) → is_identity key ≡ true → (is_held k.description.rows key ≡ true) ⊎ WritesNot key input

  -- what a client writes is another entry
  sdo_beside : (c : Contents) (key : Key) → is_closed k.description.rows key ≡ false → is_identity key ≡ false
  sdo_beside c key free = by (is_identity key) refl
    where
      by : (b : Bool) → is_identity key ≡ b → b ≡ false
      by false is = refl
      by true is = absurd (false≢true (sym free ∙ closed key is))

  app_beside : (c : Contents) (key : Key) (bytes : List ℕ) → IsLeft (Applied (Written key bytes)) → is_held k.description.rows key ≡ false → is_identity key ≡ false
  app_beside c key bytes left free = by (is_identity key) refl
    where
      by : (b : Bool) → is_identity key ≡ b → b ≡ false
      by false is = refl
      by true is = elim (left key is) [
        | inl held ↦ absurd (false≢true (sym free ∙ held))
        | inr off ↦ absurd (false≢true (sym off ∙ same_key-refl key))
      ]

  left_event : (c : Contents) (event : AppView) → IsLeft (Applied event) → GoodEvent k.description (IsBeside is_identity) c event
  left_event c (Written key bytes) left = λ is. app_beside c key bytes left (by_application k.description c key bytes is)
  left_event c (EventOn n) left = tt
  left_event c (ChangedAt key) left = tt
  left_event c (Raised code bits manufacturer) left = tt
  left_event c (Cleared bits) left = tt

  left_input : (history : History) (input : InputView) → IsLeft input → GoodInput k (IsBeside is_identity) history input
  left_input history (Framed frame) left = λ w is.
      sdo_beside (contents_at k history) w.key
      (open_to_sdo k.description (contents_at k history) w.key w.indicated w.bytes (permitted (channels k) k.description (contents_at k history) (channel_logs history) frame w is))
  left_input history Ticked left = tt
  left_input history (Applied event) left = left_event (contents_at k history) event left

  all_identity : (inputs : List Stamped) (before : Inputs) → ((key : Key) → is_identity key ≡ true → (is_held k.description.rows key ≡ true) ⊎ AllWriteNot key inputs) → AreSame k.start is_identity (contents_of k before) → AllHaveIdentity k before inputs
  all_identity [] before left h = tt
  all_identity (s ∷ later) before left h = (
    λ key on may. h key on,
    all_identity later (s.input ∷ before) (λ key on. tail key (left key on))
        (same_next k is_identity (identity_steady k.description k.start begins) before s.input (left_input (moments k before) s.input (λ key on. head key (left key on))) h),
  )
    where
      head : (key : Key) → (is_held k.description.rows key ≡ true) ⊎ AllWriteNot key (s ∷ later) → (is_held k.description.rows key ≡ true) ⊎ WritesNot key s.input
      head key (inl held) = inl held
      head key (inr off) = inr off.0

      tail : (key : Key) → (is_held k.description.rows key ≡ true) ⊎ AllWriteNot key (s ∷ later) → (is_held k.description.rows key ≡ true) ⊎ AllWriteNot key later
      tail key (inl held) = inl held
      tail key (inr off) = inr off.1

pub keeps_identity : SetsPermitted → (plan : Plan) (k : Constants) → IsBuilt plan k → (inputs : List Stamped) → AreNeverWritten inputs plan.rows → AllHaveIdentity k [] inputs
keeps_identity permitted plan k is inputs never =
    let known : (key : Key) → is_identity key ≡ true → IsUnwritten k.description.rows inputs key =
    λ key on. subst (λ (d : Description). IsUnwritten d.rows inputs key) (sym is.description) (unwritten_built plan.node plan.limits inputs plan.rows key never on) in
    all_identity permitted k (begins_as_built plan k is) (λ key on. (known key on).closed) inputs [] (λ key on. (known key on).unwritten) (λ key on. refl)
