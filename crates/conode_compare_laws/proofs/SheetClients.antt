-- The frames of the clients of a device's other SDO channels are such for compare, by the data sheet that the device is built of.
use Rattle.std.proofs.Common.{◌≡◌, ◌≢◌, ℕ, ◌+◌, ◌<◌, Bool, true, false, not, List, [], ◌∷◌, map, Option, Some, None, refl, sym, ap, ◌∙◌, ◌⊎◌, inl, inr, subst, arith}
use Rattle.std.specs.Prelude.{◌==◌, ◌&&◌, ◌||◌, if◌then◌else◌, nat_le, nat_lt, is_none, is_some, option_and_then, filter}
use Rattle.std.specs.List.{All, AllByRecursion, list_any, range_with_len}
use Rattle.std.specs.Option.{option_map_or}
use Rattle.std.proofs.Math.Nat.{mod-eq_of_lt}
use Rattle.std.proofs.lemmas.Bool.{and_parts, false≢true, ltb-true, ne_eqb, or_parts}
use Rattle.std.proofs.lemmas.Bool.Decides.{nat_tests}
use Rattle.co_value.specs.declared.data_type.DataType.TheVariants.{Unsigned32}
use Rattle.co_value.specs.declared.key.Key.{Key}
use Rattle.co_value.specs.Keys.{same_key, same_key-is}
use Rattle.co_value.specs.Numbers.{unsigned_of}
use Rattle.co_profile.specs.FixedTypes.{fixed_type_of}
use Rattle.co_dict.specs.CobIds.{identifier_of, is_valid}
use Rattle.co_dict.specs.Rows.{Contents, number_at}
use Rattle.co_dict.specs.SdoChannels.{answer_key, is_channel, request_key}
use Rattle.co_dict.specs.Stores.{Description}
use Rattle.co_dict_build.specs.Built.{Plan, built_contents}
use Rattle.co_dict_build.specs.InitialBytes.{initial_of}
use Rattle.co_sheet.specs.Content.{Row}
use Rattle.co_sheet.specs.SheetLaws.{IsSheetRow}
use Rattle.co_sheet_changes.specs.Names.{row_at}
use Rattle.co_sdo.specs.Channels.{ChannelSettings, channels_below, settings_for}
use Rattle.co_node.specs.Built.{IsBuilt}
use Rattle.co_node_model.specs.Inputs.{InputView}
use Rattle.co_node_model.specs.Moments.{Constants, channels}
use Rattle.conode_compare_pdos.specs.Identifiers.{may_have}
use Rattle.conode_compare_pdos.specs.SheetNumbers.{number_of, preset_at}
use Rattle.conode_compare_nmt.specs.declared.clients.OtherClients.{OtherClients}
use Rattle.conode_compare_nmt.specs.OtherClients.{client_id, clients_from, clients_of, clients_with, has_hidden_channel, is_apart, is_hidden, is_of_device, is_open, is_open_channel, may_send, no_clients, told_id}
use Rattle.conode_compare_nmt.specs.OtherClients as others
use Rattle.conode_compare_laws.specs.Identifiers.{IsElsewhere}
use Rattle.conode_compare_laws.specs.OtherWriters.{AllGiven, AllToTold, GivesNumber, IsTold}
use Rattle.conode_compare_laws.specs.Recordings.{Stamped}
use Rattle.conode_compare_laws.proofs.Begins.{node_ok, to_127}
use Rattle.conode_compare_laws.proofs.SheetNumbers.{IsOwnKey, long, number_found, preset_is}
use Rattle.conode_compare_laws.proofs.TpdoMapped.{none_out}

-- ---- from the lowest identifier to the highest

widened : (lowest highest x id : ℕ) → (nat_le lowest id && nat_le id highest) ≡ true → (nat_le (if nat_lt x lowest then x else lowest) id && nat_le id (if nat_lt highest x then x else highest)) ≡ true
widened lowest highest x id h = by (nat_lt x lowest) (nat_lt highest x) refl refl
  where
    by : (a b : Bool) → nat_lt x lowest ≡ a → nat_lt highest x ≡ b → (nat_le (if a then x else lowest) id && nat_le id (if b then x else highest)) ≡ true
    by true true p q = grind (arith, nat_tests)
    by true false p q = grind (arith, nat_tests)
    by false true p q = grind (arith, nat_tests)
    by false false p q = h

between : (lowest highest x : ℕ) → (nat_le (if nat_lt x lowest then x else lowest) x && nat_le x (if nat_lt highest x then x else highest)) ≡ true
between lowest highest x = by (nat_lt x lowest) (nat_lt highest x) refl refl
  where
    by : (a b : Bool) → nat_lt x lowest ≡ a → nat_lt highest x ≡ b → (nat_le (if a then x else lowest) x && nat_le x (if b then x else highest)) ≡ true
    by true true p q = grind (arith, nat_tests)
    by true false p q = grind (arith, nat_tests)
    by false true p q = grind (arith, nat_tests)
    by false false p q = grind (arith, nat_tests)

-- ---- the rows of a sheet

-- what holds of each row holds of the one with a key
row_such : (P : Row → Type 0) (rows : List Row) (key : Key) (row : Row) → row_at rows key ≡ Some row → AllByRecursion P rows → P row × (row.key ≡ key)
row_such P [] key row is all = absurd (cc)
row_such P (r ∷ rows) key row is all = by (same_key r.key key) refl is (λ e. row_such P rows key row e all.1)
  where
    by : (b : Bool) → same_key r.key key ≡ b → (if b then Some r else row_at rows key) ≡ Some row → (row_at rows key ≡ Some row → P row × (row.key ≡ key)) → P row × (row.key ≡ key)
    by true same e later =
        let own : r ≡ row = cc in
        (subst P own all.0, subst (λ (x : Row). x.key ≡ key) own (same_key-is r.key key same))
    by false same e later = later e

none_hidden : (node : ℕ) (all rows : List Row) → list_any (is_hidden all node) rows ≡ false → AllByRecursion (λ row. is_hidden all node row ≡ false) rows
none_hidden node all [] h = tt
none_hidden node all (row ∷ rows) h =
    let both = or_parts (is_hidden all node row) (list_any (is_hidden all node) rows) h in
    (both.0, none_hidden node all rows both.1)

module _ (node : ℕ) (all : List Row) where
  with_kept : (clients : OtherClients) (o : Option ℕ) (id : ℕ) → may_send clients id ≡ true → may_send (clients_with clients o) id ≡ true
  with_kept clients None id h = h
  with_kept clients (Some x) id h = widened clients.lowest clients.highest x id h

  from_kept : (rows : List Row) (clients : OtherClients) (id : ℕ) → may_send clients id ≡ true → may_send (clients_from all node clients rows) id ≡ true
  from_kept [] clients id h = h
  from_kept (row ∷ rows) clients id h = from_kept rows (clients_with clients (client_id all node row)) id (with_kept clients (client_id all node row) id h)

  one_sends : (clients : OtherClients) (o : Option ℕ) (id : ℕ) → o ≡ Some id → may_send (clients_with clients o) id ≡ true
  one_sends clients None id is = absurd (cc)
  one_sends clients (Some x) id is = let same : x ≡ id = cc in subst (λ n. may_send (clients_with clients (Some x)) n ≡ true) same (between clients.lowest clients.highest x)

  sends : (rows : List Row) (clients : OtherClients) (key : Key) (row : Row) (id : ℕ) → row_at rows key ≡ Some row → client_id all node row ≡ Some id → may_send (clients_from all node clients rows) id ≡ true
  sends [] clients key row id is own = absurd (cc)
  sends (r ∷ rows) clients key row id is own = by (same_key r.key key) is (λ e. sends rows (clients_with clients (client_id all node r)) key row id e own)
    where
      by : (b : Bool) → (if b then Some r else row_at rows key) ≡ Some row → (row_at rows key ≡ Some row → may_send (clients_from all node (clients_with clients (client_id all node r)) rows) id ≡ true)
          → may_send (clients_from all node (clients_with clients (client_id all node r)) rows) id ≡ true
      by true e later =
          let same : r ≡ row = cc in
          from_kept rows (clients_with clients (client_id all node r)) id (one_sends clients (client_id all node r) id (ap (client_id all node) same ∙ own))
      by false e later = later e

  -- a channel that is open, and isn't hidden
  client_is : (row : Row) (id : ℕ) → number_of node row.default ≡ Some id → is_open_channel node row ≡ true → is_hidden all node row ≡ false → (client_id all node row ≡ Some id) × (is_apart all node id ≡ true)
  client_is row id number opened shown = by (is_apart all node id) refl
    where
      told : client_id all node row ≡ told_id all node (Some id)
      told = ap (λ b. if b then told_id all node (number_of node row.default) else None) opened ∙ ap (told_id all node) number

      by : (b : Bool) → is_apart all node id ≡ b → (client_id all node row ≡ Some id) × (is_apart all node id ≡ true)
      by true is = (told ∙ ap (λ b. if b then Some id else None) is, is)
      by false is =
          absurd (false≢true (sym shown ∙ ap (λ b. b && is_none (client_id all node row)) opened ∙ ap is_none (told ∙ ap (λ b. if b then Some id else None) is)))

-- ---- a channel of a device that is built

valid_open : (word : ℕ) → is_valid word ≡ true → is_open (Some word) ≡ true
valid_open word h = grind (arith, nat_tests)

in_server : (n : ℕ) → n ≢ 0 → nat_le n 127 ≡ true → others.is_channel (request_key n) ≡ true
in_server n some few = grind (arith, nat_tests, some)

fixed_request : (n : ℕ) → nat_le n 127 ≡ true → fixed_type_of (request_key n) ≡ Some Unsigned32
fixed_request n few = grind (arith, nat_tests)

own_request : (n : ℕ) → n ≢ 0 → nat_le n 127 ≡ true → IsOwnKey (request_key n) Unsigned32
own_request n some few = record {
  request = grind (arith, nat_tests, some);
  answer = grind (arith, nat_tests);
  fixed = fixed_request n few;
  numeric = refl;
}

low_of : (word : ℕ) → nat_lt word 0x800 ≡ true → identifier_of word ≡ word
low_of word h = let less : word < 0x800 = ltb-true word 0x800 h in mod-eq_of_lt less

module _ (plan : Plan) (k : Constants) (is : IsBuilt plan k) (lawful : All IsSheetRow plan.rows) (given : AllGiven plan.node plan.rows) (shown : has_hidden_channel plan.rows plan.node ≡ false) where
  last : plan.node < 128
  last = let few = to_127 plan.node (node_ok plan is.faultless) in omega (arith, few)

  abbrev clients : OtherClients
  clients = clients_of plan.rows plan.node

  abbrev word_at : ℕ → ℕ
  word_at n = number_at (built_contents plan) (request_key n)

  -- a word that the sheet gives
  by_number : (n word : ℕ) (row : Row) → n ≢ 0 → nat_le n 127 ≡ true → row_at plan.rows (request_key n) ≡ Some row → number_of plan.node row.default ≡ Some word → is_valid word ≡ true → IsTold plan.node clients (identifier_of word)
  by_number n word row some few found number valid =
      let hidden = row_such (λ r. is_hidden plan.rows plan.node r ≡ false) plan.rows (request_key n) row found (none_hidden plan.node plan.rows plan.rows shown) in
      let channel : (others.is_channel row.key && (row.key.sub == 1)) ≡ true = ap (λ (x : Key). others.is_channel x && (x.sub == 1)) hidden.1 ∙ ap (λ b. b && true) (in_server n some few) in
      let opened : is_open_channel plan.node row ≡ true = ap (λ b. b && is_open (number_of plan.node row.default)) channel ∙ ap is_open number ∙ valid_open word valid in
      let client = client_is plan.node plan.rows row word number opened hidden.0 in
      let apart = and_parts (nat_lt word 0x800) (not (is_of_device plan.node word || may_have plan.rows plan.node word)) client.1 in
      let device = or_parts (is_of_device plan.node word) (may_have plan.rows plan.node word) (off _ apart.1) in
      subst (IsTold plan.node clients) (sym (low_of word apart.0))
      (record { command = positive word valid; device = device.0; client = sends plan.node plan.rows plan.rows no_clients (request_key n) row word found client.0 })
    where
      off : (b : Bool) → not b ≡ true → b ≡ false
      off true h = absurd (false≢true h)
      off false h = refl

      positive : (word : ℕ) → is_valid word ≡ true → (word == 0) ≡ false
      positive word h = grind (arith, nat_tests)

  -- that of the entry
  by_word : (n : ℕ) → n ≢ 0 → nat_le n 127 ≡ true → is_valid (word_at n) ≡ true → IsTold plan.node clients (identifier_of (word_at n))
  by_word n some few valid = by (row_at plan.rows (request_key n)) refl
    where
      by_default : (row : Row) (o : Option ℕ) → row_at plan.rows (request_key n) ≡ Some row → number_of plan.node row.default ≡ o → is_some o ≡ true → IsTold plan.node clients (identifier_of (word_at n))
      by_default row None found number there = absurd (false≢true there)
      by_default row (Some word) found number there =
          let preset : preset_at plan.rows plan.node (request_key n) ≡ Some word = ap (option_and_then (λ r. number_of plan.node r.default)) found ∙ number in
          let same : word_at n ≡ word = preset_is plan (to_127 plan.node (node_ok plan is.faultless)) lawful (none_out plan is.faultless) (request_key n) Unsigned32 word long (own_request n some few) preset in
          subst (λ w. IsTold plan.node clients (identifier_of w)) (sym same) (by_number n word row some few found number (subst (λ w. is_valid w ≡ true) same valid))

      zero_word : word_at n ≡ 0 → IsTold plan.node clients (identifier_of (word_at n))
      zero_word zero = absurd (false≢true (sym (ap is_valid zero) ∙ valid))

      by : (o : Option Row) → row_at plan.rows (request_key n) ≡ o → IsTold plan.node clients (identifier_of (word_at n))
      by None none = zero_word (number_found plan.node plan.limits plan.rows (request_key n) ∙ ap (λ o. option_map_or (λ row. unsigned_of (initial_of plan.node row)) o 0) none)
      by (Some row) found =
          let gives = row_such (GivesNumber plan.node) plan.rows (request_key n) row found given in
          elim (gives.0 (ap (λ (x : Key). others.is_channel x && (x.sub == 1)) gives.1 ∙ ap (λ b. b && true) (in_server n some few))) [
            | inl there ↦ by_default row (number_of plan.node row.default) found refl there
            | inr zero ↦ zero_word (number_found plan.node plan.limits plan.rows (request_key n) ∙ ap (λ o. option_map_or (λ row. unsigned_of (initial_of plan.node row)) o 0) found ∙ zero)
          ]

  abbrev Told : ChannelSettings → Type 0
  Told c = c.number ≢ 0 → IsTold k.description.node clients c.request

  one_told : (n : ℕ) → is_channel k.start n ≡ true → Told (settings_for k.description k.start k.greatest k.time n)
  one_told n there = λ some.
      let zero : (n == 0) ≡ false = ne_eqb n 0 some in
      let parts = and_parts (nat_le n 127 && is_valid (number_at k.start (request_key n))) (is_valid (number_at k.start (answer_key n)))
      (sym (ap (λ b. b || (nat_le n 127 && is_valid (number_at k.start (request_key n)) && is_valid (number_at k.start (answer_key n)))) zero) ∙ there) in
      let first = and_parts (nat_le n 127) (is_valid (number_at k.start (request_key n))) parts.0 in
      let told : IsTold plan.node clients (identifier_of (word_at n)) = by_word n some first.0 (subst (λ (c : Contents). is_valid (number_at c (request_key n)) ≡ true) is.start first.1) in
      subst (λ id. IsTold k.description.node clients id) (sym (ap (λ b. if b then 0x600 + k.description.node else identifier_of (number_at k.start (request_key n))) zero))
      (subst (λ (c : Contents). IsTold k.description.node clients (identifier_of (number_at c (request_key n)))) (sym is.start)
      (subst (λ (d : Description). IsTold d.node clients (identifier_of (word_at n))) (sym is.description) told))

  each_told : (numbers : List ℕ) → AllByRecursion Told (map (settings_for k.description k.start k.greatest k.time) (filter (is_channel k.start) numbers))
  each_told [] = tt
  each_told (n ∷ numbers) = by (is_channel k.start n) refl (each_told numbers)
    where
      by : (b : Bool) → is_channel k.start n ≡ b → AllByRecursion Told (map (settings_for k.description k.start k.greatest k.time) (filter (is_channel k.start) numbers))
          → AllByRecursion Told (map (settings_for k.description k.start k.greatest k.time) (if b then n ∷ filter (is_channel k.start) numbers else filter (is_channel k.start) numbers))
      by true there later = (one_told n there, later)
      by false there later = later

  channels_told : AllByRecursion Told (channels k)
  unfolding channels_below
  channels_told = each_told (range_with_len 0 128)

  input_told : (input : InputView) (cs : List ChannelSettings) → AllByRecursion Told cs → AllByRecursion (λ c. c.number ≢ 0 → IsTold k.description.node clients c.request ⊎ IsElsewhere c.request input) cs
  input_told input [] h = tt
  input_told input (c ∷ cs) h = (λ some. inl (h.0 some), input_told input cs h.1)

  pub all_told : (inputs : List Stamped) → AllToTold k clients inputs
  all_told [] = tt
  all_told (s ∷ later) = (input_told s.input (channels k) channels_told, all_told later)
