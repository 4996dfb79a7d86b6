-- The default SDO channel of a node takes the frames with its identifier.
use Rattle.std.proofs.Common.{◌≡◌, ℕ, ◌+◌, Bool, true, false, List, ◌∷◌, map, Some, refl, arith}
use Rattle.std.specs.Prelude.{◌==◌, find}
use Rattle.std.specs.List.{filter, range_with_len}
use Rattle.std.proofs.lemmas.Bool.Decides.{nat_tests}
use Rattle.co_sdo.specs.Channels.{ChannelSettings, settings_for, channels_below}
use Rattle.co_sdo.specs.Events.{receiver}
use Rattle.co_dict.specs.SdoChannels.{is_channel}
use Rattle.co_node_model.specs.Sync.{is_sync_id}
use Rattle.co_node_model.specs.declared.address.Address.TheVariants.{Channel}
use Rattle.co_node_model.specs.Moments.{Constants, History, channels, contents_at}
use Rattle.co_node_model.specs.Addresses.{address_at}

find_first : {A B : Type 0} (p : B → Bool) (f : A → B) (q : A → Bool) (x : A) (xs : List A) → q x ≡ true → p (f x) ≡ true
    → find p (map f (filter q (x ∷ xs))) ≡ Some (f x)
find_first p f q x xs holds found = rw (holds, found) refl

pub same_number : (n : ℕ) → n == n ≡ true
same_number n = grind (arith, nat_tests)

-- what never changes of it
abbrev pub default_channel : Constants → ChannelSettings
default_channel k = settings_for k.description k.start k.greatest k.time 0

pub receives : (k : Constants) → receiver (channels k) (0x600 + k.description.node) ≡ Some (default_channel k)
unfolding channels_below
receives k =
    find_first (λ c. c.request == (0x600 + k.description.node)) (settings_for k.description k.start k.greatest k.time) (is_channel k.start) 0 (range_with_len 1 127) refl (same_number (0x600 + k.description.node))

not_nmt : (n : ℕ) → (0x600 + n) == 0 ≡ false
not_nmt n = grind (arith, nat_tests)

pub takes : (k : Constants) (history : History) → is_sync_id (contents_at k history) (0x600 + k.description.node) ≡ false
    → address_at k history (0x600 + k.description.node) ≡ Channel 0
takes k history sync = rw (not_nmt k.description.node, sync, receives k) refl
