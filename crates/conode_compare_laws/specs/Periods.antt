-- Heartbeats of one period, EMCY of one inhibit time, and the SDO timeout: what the laws about them ask of a device, of its data sheet,
-- and of the limits.
use Rattle.std.specs.Prelude.{◌≡◌, ◌⊎◌, ℕ, ◌+◌, ◌<◌, ◌≤◌, true, false, List, [], ◌∷◌, IfSome}
use Rattle.co_value.specs.declared.key.Key.{Key}
use Rattle.co_profile.specs.Keys.{emergency_inhibit_key, producer_key}
use Rattle.co_dict.specs.Rows.{number_at}
use Rattle.co_node_model.specs.Inputs.{Applied, Framed, Inputs, InputView, Ticked}
use Rattle.co_node_model.specs.Keys.{is_set}
use Rattle.co_node_model.specs.Marks.{marked_key}
use Rattle.co_node_model.specs.Moments.{Constants, Moment}
use Rattle.co_node_model.specs.Device.{contents_of, moment, moments}
use Rattle.co_node_model.specs.Nmt.{is_reset}
use Rattle.conode_compare_nmt.specs.declared.clients.OtherClients.{OtherClients}
use Rattle.conode_compare_nmt.specs.declared.limits.Subject.{Subject}
use Rattle.conode_compare_laws.specs.OtherWriters.{IsTold}
use Rattle.conode_compare_laws.specs.Recordings.{Stamped}

-- 1017:00 isn't written at an input, and has this number after it
pub record KeepsPeriod (period : ℕ) (m : Moment) : Type 0 where
  pub unwritten : is_set (marked_key m.mark) producer_key ≡ false
  pub number : number_at m.contents producer_key ≡ period

-- at each of these inputs, which come after those before
abbrev pub AllKeepPeriod : ℕ → Constants → Inputs → List Stamped → Type 0
AllKeepPeriod period k before [] = Unit {0}
AllKeepPeriod period k before (s ∷ later) = KeepsPeriod period (moment k (moments k before) s.input) × AllKeepPeriod period k (s.input ∷ before) later

-- ---- 1017:00 is written

-- an input is a frame of the client of the default SDO channel
abbrev pub IsOfClient : ℕ → InputView → Type 0
IsOfClient node (Framed frame) = frame.id ≡ 0x600 + node
IsOfClient node Ticked = ⊥
IsOfClient node (Applied event) = ⊥

-- an input is a frame of the client of another SDO channel, and compare takes it for one
abbrev pub IsOfOther : ℕ → OtherClients → InputView → Type 0
IsOfOther node clients (Framed frame) = IsTold node clients frame.id
IsOfOther node clients Ticked = ⊥
IsOfOther node clients (Applied event) = ⊥

-- an entry that is written at an input is written by one of these clients: compare sees the write
abbrev pub WritesSeen : OtherClients → Key → Constants → Moment → InputView → Type 0
WritesSeen clients key k m input = is_set (marked_key m.mark) key ≡ true → IsOfClient k.description.node input ⊎ IsOfOther k.description.node clients input

-- at each of these inputs, which come after those before
abbrev pub AllWriteSeen : OtherClients → Key → Constants → Inputs → List Stamped → Type 0
AllWriteSeen clients key k before [] = Unit {0}
AllWriteSeen clients key k before (s ∷ later) = WritesSeen clients key k (moment k (moments k before) s.input) s.input × AllWriteSeen clients key k (s.input ∷ before) later

-- the number of 1017:00 after inputs
abbrev pub period_after : Constants → Inputs → ℕ
period_after k before = number_at (contents_of k before) producer_key

-- 1017:00 changes at an input where one of these clients writes it, and at a reset, which restores its
-- first number
pub record FollowsPeriod (clients : OtherClients) (k : Constants) (before : Inputs) (input : InputView) (m : Moment) : Type 0 where
  pub by : WritesSeen clients producer_key k m input
  pub kept : is_set (marked_key m.mark) producer_key ≡ false → is_reset m.mark ≡ false → number_at m.contents producer_key ≡ period_after k before
  pub restored : is_reset m.mark ≡ true → number_at m.contents producer_key ≡ number_at k.start producer_key

-- at each of these inputs, which come after those before
abbrev pub AllFollowPeriod : OtherClients → Constants → Inputs → List Stamped → Type 0
AllFollowPeriod clients k before [] = Unit {0}
AllFollowPeriod clients k before (s ∷ later) = FollowsPeriod clients k before s.input (moment k (moments k before) s.input) × AllFollowPeriod clients k (s.input ∷ before) later

-- ---- what is known of it

-- what is known of 1017:00 by the data sheet, before a boot-up and after one, is nothing or this
pub record KnowsPeriod (period : ℕ) (subject : Subject) : Type 0 where
  pub before : IfSome subject.facts.before.period (λ known. known ≡ period)
  pub booted : IfSome subject.facts.booted.period (λ known. known ≡ period)

-- ---- the inhibit time of EMCY

-- 1015:00 has this number after each of these inputs, which come after those before
abbrev pub AllHaveInhibit : ℕ → Constants → Inputs → List Stamped → Type 0
AllHaveInhibit inhibit k before [] = Unit {0}
AllHaveInhibit inhibit k before (s ∷ later) =
    (number_at (moment k (moments k before) s.input).contents emergency_inhibit_key ≡ inhibit) × AllHaveInhibit inhibit k (s.input ∷ before) later

-- where an entry is written at one of these inputs, which come after those before, it then has the
-- number that it began with
abbrev pub AllWriteFirst : Key → Constants → Inputs → List Stamped → Type 0
AllWriteFirst key k before [] = Unit {0}
AllWriteFirst key k before (s ∷ later) =
    (is_set (marked_key (moment k (moments k before) s.input).mark) key ≡ true → number_at (moment k (moments k before) s.input).contents key ≡ number_at k.start key)
    × AllWriteFirst key k (s.input ∷ before) later

-- what is known of 1015:00 by the data sheet, before a boot-up and after one, is nothing or this
pub record KnowsInhibit (inhibit : ℕ) (subject : Subject) : Type 0 where
  pub before : IfSome subject.facts.before.inhibit (λ known. known ≡ inhibit)
  pub booted : IfSome subject.facts.booted.inhibit (λ known. known ≡ inhibit)

-- ---- the time after which the SDO server times out

-- what is said of it is nothing, or no longer than the device's own, in ms, and not 0; a device whose
-- own is 0 never does, so of it anything may be said
abbrev pub KnowsTimeout : Constants → Subject → Type 0
KnowsTimeout k subject = IfSome subject.limits.time (λ time. 0 < k.time → (0 < time) × (time ≤ k.time))
