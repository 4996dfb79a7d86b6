-- 1017:00 of a device that is built from a data sheet, where clients alone write it: what the laws about heartbeats ask of its numbers. And
-- so of 1015:00, what the laws about EMCY ask.
use Rattle.std.proofs.Common.{◌≡◌, ℕ, ◌+◌, ◌≤◌, Bool, true, false, List, [], ◌∷◌, Option, refl, sym, ap, ◌∙◌, subst, arith}
use Rattle.std.specs.Prelude.{unwrap_or}
use Rattle.std.proofs.lemmas.Bool.{false≢true}
use Rattle.co_value.specs.declared.key.Key.{Key}
use Rattle.co_value.specs.Numbers.{unsigned_of}
use Rattle.co_profile.specs.Indices.{communication_profile, is_within}
use Rattle.co_profile.specs.Keys.{emergency_inhibit_key, producer_key}
use Rattle.co_dict.specs.Rows.{number_at}
use Rattle.co_node_laws.proofs.Below.{Below}
use Rattle.co_node_model.specs.Device.{contents_of, moment, moments}
use Rattle.co_node_model.specs.Inputs.{Inputs, InputView}
use Rattle.co_node_model.specs.Keys.{is_set}
use Rattle.co_node_model.specs.Marks.{marked_key}
use Rattle.co_node_model.specs.Moments.{Constants}
use Rattle.co_node_model.specs.Nmt.{is_reset}
use Rattle.co_node_model.specs.Sync.{is_sync_id}
use Rattle.conode_compare_nmt.specs.declared.clients.OtherClients.{OtherClients}
use Rattle.conode_compare_laws.specs.Periods.{AllFollowPeriod, AllHaveInhibit, AllKeepPeriod, AllWriteFirst, AllWriteSeen}
use Rattle.conode_compare_laws.specs.Recordings.{Stamped}
use Rattle.conode_compare_laws.specs.ShownWords.{AllAskPeriod, AllKeepWord, KeepsWord}
use Rattle.conode_compare_laws.proofs.ConstantEntries.{held_unwritten, is_held}
use Rattle.conode_compare_laws.proofs.Fitting.{HaveTypes}
use Rattle.conode_compare_laws.proofs.KeptEntries.{SetsPermitted}
use Rattle.conode_compare_laws.proofs.WrittenNumbers.{leaves_asked, reset_same, unwritten_same}

-- the number of the bytes that an entry has, if it is there
abbrev number_in : Option (List ℕ) → ℕ
number_in bytes = unsigned_of (unwrap_or bytes [])

-- ---- how an entry of the communication profile changes

module _ (below : Below) (k : Constants) (begins : (key : Key) → k.description.initial key ≡ k.start key) where
  module _ (key : Key) (low : 0x1004 ≤ key.index) (high : key.index ≤ 0x1FFF) (within : is_within communication_profile key.index ≡ true) where
    restored : (before : Inputs) (input : InputView) → is_reset (moment k (moments k before) input).mark ≡ true → contents_of k (input ∷ before) key ≡ k.start key
    restored before input reset = reset_same key within k before input reset ∙ begins key

    kept : (before : Inputs) (input : InputView) → is_set (marked_key (moment k (moments k before) input).mark) key ≡ false → is_reset (moment k (moments k before) input).mark ≡ false
        → contents_of k (input ∷ before) key ≡ contents_of k before key
    kept before input off reset = unwritten_same below key low high k before input off reset

    -- where it isn't written it has the number that it began with, if it had it before
    same : (before : Inputs) (input : InputView) → is_set (marked_key (moment k (moments k before) input).mark) key ≡ false → number_at (contents_of k before) key ≡ number_at k.start key
        → number_at (contents_of k (input ∷ before)) key ≡ number_at k.start key
    same before input off h = by (is_reset (moment k (moments k before) input).mark) refl
      where
        by : (reset : Bool) → is_reset (moment k (moments k before) input).mark ≡ reset → number_at (contents_of k (input ∷ before)) key ≡ number_at k.start key
        by true reset = ap number_in (restored before input reset)
        by false reset = ap number_in (kept before input off reset) ∙ h

  -- ---- 1017:00, which clients write

  pub all_follow : (clients : OtherClients) (inputs : List Stamped) (before : Inputs) → AllWriteSeen clients producer_key k before inputs → AllFollowPeriod clients k before inputs
  all_follow clients [] before by = tt
  all_follow clients (s ∷ later) before by = (
    record {
      by = by.0;
      kept = λ off reset. ap number_in (kept producer_key (omega arith) (omega arith) refl before s.input off reset);
      restored = λ reset. ap number_in (restored producer_key (omega arith) (omega arith) refl before s.input reset);
    },
    all_follow clients later (s.input ∷ before) by.1,
  )

  -- where it is constant
  module _ (held : is_held k.description.rows producer_key ≡ true) where
    pub all_keep : (inputs : List Stamped) (before : Inputs) → number_at (contents_of k before) producer_key ≡ number_at k.start producer_key → AllKeepPeriod (number_at k.start producer_key) k before inputs
    all_keep [] before h = tt
    all_keep (s ∷ later) before h =
        let off = held_unwritten below.permitted k producer_key held (moments k before) s.input in
        let next = same producer_key (omega arith) (omega arith) refl before s.input off h in
        (record { unwritten = off; number = next }, all_keep later (s.input ∷ before) next)

  -- ---- 1015:00, which is written with its first number

  pub all_first : (inputs : List Stamped) (before : Inputs) → AllWriteFirst emergency_inhibit_key k before inputs → number_at (contents_of k before) emergency_inhibit_key ≡ number_at k.start emergency_inhibit_key
      → AllHaveInhibit (number_at k.start emergency_inhibit_key) k before inputs
  all_first [] before first h = tt
  all_first (s ∷ later) before first h =
      let next = by (is_set (marked_key (moment k (moments k before) s.input).mark) emergency_inhibit_key) refl in
      (next, all_first later (s.input ∷ before) first.1 next)
    where
      by : (b : Bool) → is_set (marked_key (moment k (moments k before) s.input).mark) emergency_inhibit_key ≡ b
          → number_at (contents_of k (s.input ∷ before)) emergency_inhibit_key ≡ number_at k.start emergency_inhibit_key
      by true on = first.0 on
      by false off = same emergency_inhibit_key (omega arith) (omega arith) refl before s.input off h

-- ---- what expedited downloads ask for

module _ (k : Constants) (types : HaveTypes k.description.rows) (sync : (all : Inputs) → is_sync_id (contents_of k all) (0x600 + k.description.node) ≡ false) where
  pub all_ask : (inputs : List Stamped) (before : Inputs) → AllAskPeriod k before inputs
  all_ask [] before = tt
  all_ask (s ∷ later) before = (leaves_asked k types producer_key refl before (sync before) s.input, all_ask later (s.input ∷ before))

  pub all_word : (inhibit : ℕ) (inputs : List Stamped) (before : Inputs) → AllHaveInhibit inhibit k before inputs → AllKeepWord emergency_inhibit_key inhibit k before inputs
  all_word inhibit [] before has = tt
  all_word inhibit (s ∷ later) before has = (
    subst (λ n. KeepsWord emergency_inhibit_key n k before s.input) has.0 (leaves_asked k types emergency_inhibit_key refl before (sync before) s.input),
    all_word inhibit later (s.input ∷ before) has.1,
  )

-- ---- an entry that is constant

module _ (permitted : SetsPermitted) (k : Constants) (key : Key) (held : is_held k.description.rows key ≡ true) where
  never : (before : Inputs) (input : InputView) → is_set (marked_key (moment k (moments k before) input).mark) key ≡ true → ⊥
  never before input on = false≢true (sym (held_unwritten permitted k key held (moments k before) input) ∙ on)

  pub all_seen : (clients : OtherClients) (inputs : List Stamped) (before : Inputs) → AllWriteSeen clients key k before inputs
  all_seen clients [] before = tt
  all_seen clients (s ∷ later) before = (λ on. absurd (never before s.input on), all_seen clients later (s.input ∷ before))

  pub all_unwritten : (inputs : List Stamped) (before : Inputs) → AllWriteFirst key k before inputs
  all_unwritten [] before = tt
  all_unwritten (s ∷ later) before = (λ on. absurd (never before s.input on), all_unwritten later (s.input ∷ before))
