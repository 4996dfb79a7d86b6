-- What compare knows of 1017:00 and 1015:00 by a data sheet is what a device that is built of it begins with; an entry that is constant
-- there is so in the device.
use Rattle.std.proofs.Common.{◌≡◌, ℕ, ◌≤◌, Bool, true, false, List, [], ◌∷◌, map, Option, Some, None, refl, sym, ap, ◌∙◌, subst}
use Rattle.std.specs.Prelude.{if◌then◌else◌, option_map, ◌||◌, IfSome}
use Rattle.std.specs.List.{All}
use Rattle.std.specs.Option.{option_map_or}
use Rattle.std.proofs.lemmas.Bool.{false≢true}
use Rattle.co_value.specs.declared.data_type.DataType.TheVariants.{Unsigned16}
use Rattle.co_value.specs.declared.key.Key.{Key}
use Rattle.co_value.specs.Keys.{same_key}
use Rattle.co_profile.specs.declared.access.Access.{Access}
use Rattle.co_profile.specs.declared.access.Access.TheVariants.{Constant}
use Rattle.co_profile.specs.Indices.{store_parameters}
use Rattle.co_profile.specs.Keys.{emergency_inhibit_key, producer_key}
use Rattle.co_dict.specs.declared.row.Row.{Row as DictionaryRow}
use Rattle.co_dict.specs.Rows.{Contents, number_at}
use Rattle.co_dict.specs.Stores.{Description}
use Rattle.co_dict.specs.WriteRefusals.{is_constant as is_constant_row}
use Rattle.co_dict_build.specs.Built.{Plan, built_contents, entry_of}
use Rattle.co_dict_build.specs.BuildFaults.{value_out_of_range}
use Rattle.co_dict_build.specs.Capacities.{Limits}
use Rattle.co_dict_build.specs.ListedEntries.{ListedEntry, entry_at}
use Rattle.co_sheet.specs.Content.{Row}
use Rattle.co_sheet.specs.SheetLaws.{IsSheetRow}
use Rattle.co_sheet_changes.specs.Names.{row_at}
use Rattle.co_node.specs.Built.{IsBuilt}
use Rattle.co_node_model.specs.Moments.{Constants}
use Rattle.conode_compare_pdos.specs.Identifiers.{is_constant_access}
use Rattle.conode_compare_pdos.specs.SheetNumbers.{preset_at, small, time_at}
use Rattle.conode_compare_nmt.specs.declared.entries.Entries.{Entries}
use Rattle.conode_compare_nmt.specs.declared.entries.Facts.{Facts}
use Rattle.conode_compare_nmt.specs.declared.limits.Subject.{Subject}
use Rattle.conode_compare_nmt.specs.EntriesInForce.{facts_of, has_object, initial_entries, is_constant, sheet_entries, with_master}
use Rattle.conode_compare_nmt.specs.OtherClients.{clients_of, has_hidden_channel}
use Rattle.conode_compare_laws.specs.Periods.{KnowsInhibit, KnowsPeriod}
use Rattle.conode_compare_laws.proofs.Begins.{node_ok, to_127}
use Rattle.conode_compare_laws.proofs.ConstantEntries.{is_held}
use Rattle.conode_compare_laws.proofs.SheetNumbers.{from_some, preset_is, same_back, small_is, time_is, word}
use Rattle.conode_compare_laws.proofs.TpdoMapped.{none_out}

-- ---- an entry that is constant

same_access : (access : Access) → is_constant_access access ≡ true → is_constant_row access ≡ true
same_access Constant h = refl
same_access _ h = absurd (false≢true h)

held_found : (node : ℕ) (limits : Limits) (rows : List Row) (key : Key) → is_constant rows key ≡ true
    → option_map_or (λ (row : DictionaryRow). is_constant_row row.access) (option_map (λ (e : ListedEntry). e.row) (entry_at (map (entry_of node limits) rows) key)) true ≡ true
held_found node limits [] key h = refl
held_found node limits (row ∷ rows) key h = by (same_key row.key key) refl h (held_found node limits rows key)
  where
    by : (b : Bool) → same_key row.key key ≡ b → option_map_or (λ (r : Row). is_constant_access r.access) (if b then Some row else row_at rows key) true ≡ true
        → (is_constant rows key ≡ true → option_map_or (λ (r : DictionaryRow). is_constant_row r.access) (option_map (λ (e : ListedEntry). e.row) (entry_at (map (entry_of node limits) rows) key)) true ≡ true)
        → option_map_or (λ (r : DictionaryRow). is_constant_row r.access) (option_map (λ (e : ListedEntry). e.row) (entry_at (map (entry_of node limits) (row ∷ rows)) key)) true ≡ true
    by true is g later = rw (same_back row.key key true is) (same_access row.access g)
    by false is g later = rw (same_back row.key key false is) (later g)

pub constant_held : (plan : Plan) (k : Constants) → IsBuilt plan k → (key : Key) → is_constant plan.rows key ≡ true → is_held k.description.rows key ≡ true
constant_held plan k is key on = subst (λ (d : Description). is_held d.rows key ≡ true) (sym is.description) (held_found plan.node plan.limits plan.rows key on)

-- ---- the times

either : (P : Entries → Type 0) (b : Bool) (x y : Entries) → P x → P y → P (if b then x else y)
either P true x y p q = p
either P false x y p q = q

kept_if : (P : ℕ → Type 0) (b : Bool) (o : Option ℕ) → IfSome o P → IfSome (if b then o else None) P
kept_if P true o h = h
kept_if P false o h = tt

module _ (plan : Plan) (k : Constants) (is : IsBuilt plan k) (lawful : All IsSheetRow plan.rows) where
  last : plan.node ≤ 127
  last = to_127 plan.node (node_ok plan is.faultless)

  inside : value_out_of_range plan.node plan.rows ≡ None
  inside = none_out plan is.faultless

  -- the number that an entry begins with
  abbrev Begins : Key → ℕ → Type 0
  Begins key n = n ≡ number_at k.start key

  begins : (key : Key) (n : ℕ) → number_at (built_contents plan) key ≡ n → Begins key n
  begins key n h = sym (ap (λ (c : Contents). number_at c key) is.start ∙ h)

  record AreOf (e : Entries) : Type 0 where
    period : IfSome e.period (Begins producer_key)
    inhibit : IfSome e.inhibit (Begins emergency_inhibit_key)

  sheet_are : AreOf (sheet_entries plan.rows plan.node)
  unfolding sheet_entries
  sheet_are = record {
    period = from_some (Begins producer_key) (small (preset_at plan.rows plan.node producer_key))
        (λ n h. begins producer_key n
        (preset_is plan last lawful inside producer_key Unsigned16 n word (record { request = refl; answer = refl; fixed = refl; numeric = refl }) (small_is (preset_at plan.rows plan.node producer_key) n h)));
    inhibit = from_some (Begins emergency_inhibit_key) (time_at plan.rows plan.node emergency_inhibit_key)
        (λ n h. begins emergency_inhibit_key n (time_is plan last lawful inside emergency_inhibit_key n (record { request = refl; answer = refl; fixed = refl; numeric = refl }) h));
  }

  initial_are : AreOf (initial_entries plan.rows (sheet_entries plan.rows plan.node))
  unfolding initial_entries
  initial_are = record {
    period = kept_if (Begins producer_key) (is_constant plan.rows producer_key) (sheet_entries plan.rows plan.node).period sheet_are.period;
    inhibit = kept_if (Begins emergency_inhibit_key) (is_constant plan.rows emergency_inhibit_key) (sheet_entries plan.rows plan.node).inhibit sheet_are.inhibit;
  }

  module _ (configured : Bool) where
    before_are : AreOf (facts_of plan.rows plan.node configured).before
    unfolding facts_of
    before_are = initial_are

    booted_are : AreOf (facts_of plan.rows plan.node configured).booted
    unfolding facts_of
    booted_are = either AreOf (has_object plan.rows store_parameters || (configured || has_hidden_channel plan.rows plan.node)) _ _ initial_are sheet_are

    -- a device that may be the NMT master has them, too
    before_with : (master : Bool) → AreOf (with_master master (facts_of plan.rows plan.node configured)).before
    before_with true = before_are
    before_with false = before_are

    booted_with : (master : Bool) → AreOf (with_master master (facts_of plan.rows plan.node configured)).booted
    booted_with true = booted_are
    booted_with false = booted_are

    module _ (master : Bool) (subject : Subject) (same : subject.facts ≡ with_master master (facts_of plan.rows plan.node configured)) where
      before_of : AreOf subject.facts.before
      before_of = subst (λ (f : Facts). AreOf f.before) (sym same) (before_with master)

      booted_of : AreOf subject.facts.booted
      booted_of = subst (λ (f : Facts). AreOf f.booted) (sym same) (booted_with master)

      pub knows_period : KnowsPeriod (number_at k.start producer_key) subject
      knows_period = record { before = before_of.period; booted = booted_of.period }

      pub knows_inhibit : KnowsInhibit (number_at k.start emergency_inhibit_key) subject
      knows_inhibit = record { before = before_of.inhibit; booted = booted_of.inhibit }

-- before a boot-up it isn't known, unless it is constant
unknown_facts : (plan : Plan) (configured : Bool) → is_constant plan.rows producer_key ≡ false → (facts_of plan.rows plan.node configured).before.period ≡ None
unfolding facts_of initial_entries
unknown_facts plan configured off = ap (λ b. if b then (sheet_entries plan.rows plan.node).period else None) off

unknown_with : (plan : Plan) (configured : Bool) (master : Bool) → is_constant plan.rows producer_key ≡ false → (with_master master (facts_of plan.rows plan.node configured)).before.period ≡ None
unknown_with plan configured true off = unknown_facts plan configured off
unknown_with plan configured false off = unknown_facts plan configured off

pub unknown_before : (plan : Plan) (configured : Bool) (master : Bool) (subject : Subject) → subject.facts ≡ with_master master (facts_of plan.rows plan.node configured) → is_constant plan.rows producer_key ≡ false → subject.facts.before.period ≡ None
unknown_before plan configured master subject same off = ap (λ (f : Facts). f.before.period) same ∙ unknown_with plan configured master off

-- ---- the clients of other SDO channels

clients_in : (plan : Plan) (configured : Bool) → (facts_of plan.rows plan.node configured).clients ≡ clients_of plan.rows plan.node
unfolding facts_of
clients_in plan configured = refl

clients_with : (plan : Plan) (configured : Bool) (master : Bool) → (with_master master (facts_of plan.rows plan.node configured)).clients ≡ clients_of plan.rows plan.node
clients_with plan configured true = clients_in plan configured
clients_with plan configured false = clients_in plan configured

pub clients_are : (plan : Plan) (configured : Bool) (master : Bool) (subject : Subject) → subject.facts ≡ with_master master (facts_of plan.rows plan.node configured) → subject.facts.clients ≡ clients_of plan.rows plan.node
clients_are plan configured master subject same = ap (λ (f : Facts). f.clients) same ∙ clients_with plan configured master
