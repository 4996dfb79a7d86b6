-- What a device holds for the transfer of an SDO channel is no more than its room, and than the greatest capacity and 889.
use Rattle.std.proofs.Common.{◌≡◌, ℕ, ◌+◌, ◌≤◌, ◌<◌, ◌⊎◌, inl, inr, Bool, true, false, cond, suc, List, [], ◌∷◌, length, map, Option, Some, None, refl, sym, subst, arith}
use Rattle.std.specs.Prelude.{◌==◌}
use Rattle.std.specs.List.{filter, find, range_with_len, slice_index_or}
use Rattle.std.specs.Option.{option_map_or}
use Rattle.std.proofs.lemmas.Bool.Decides.{nat_tests}
use Rattle.co_value.specs.declared.key.Key.{Key}
use Rattle.co_frame.specs.SdoRequests.{request_in}
use Rattle.co_frame.specs.declared.sdo_request.SdoRequest.{SdoRequest}
use Rattle.co_frame.specs.declared.sdo_request.SdoRequest.TheVariants.{DownloadInitiate, Upload, BlockUploadInitiate, BlockDownloadInitiate}
use Rattle.co_dict.specs.Rows.{Rows, Contents, capacity_at}
use Rattle.co_dict.specs.SdoChannels.{is_channel}
use Rattle.co_dict.specs.Stores.{Description}
use Rattle.co_sdo.specs.Log.{Log}
use Rattle.co_sdo.specs.OpenTransfers.{Transfer, open_transfer}
use Rattle.co_sdo.specs.Opened.{OpenTransfer, opened, opened_by, opened_after, bytes_held, held_bytes}
use Rattle.co_sdo.specs.Standing.{is_under_way, is_transfer_after, room_after}
use Rattle.co_sdo.specs.declared.channels.NumberedChannel.{NumberedChannel}
use Rattle.co_sdo.specs.Banks.{all_settings, settings_of}
use Rattle.co_sdo.specs.Channels.{ChannelSettings, HaveRoom, channels_below, settings_for}
use Rattle.co_sdo.specs.Events.{held_on}
use Rattle.co_node_model.specs.Inputs.{Inputs}
use Rattle.co_node_model.specs.Moments.{Constants, channels}
use Rattle.co_node_model.specs.Sdo.{channel_logs}
use Rattle.co_node_model.specs.Device.{moments, held_of, room_of}
use Rattle.co_node.specs.declared.node.Node.{Node}
use Rattle.co_node.specs.Held.{HoldsWithin}
use Rattle.co_node.specs.Nodes.{Stands, description_of}

-- ---- one transfer

within_by : (rows : Rows) (r : Option SdoRequest) (t : Transfer) → is_transfer_after rows r t → bytes_held (opened_by r t) ≤ option_map_or (λ o. capacity_at rows o.key + 889) (opened_by r t) 0
within_by rows (Some (DownloadInitiate key size)) t under = omega (arith, under.bytes)
within_by rows (Some (Upload key)) t under = omega (arith, under)
within_by rows (Some (BlockUploadInitiate key size threshold)) t under = omega (arith, under)
within_by rows (Some (BlockDownloadInitiate key size)) t under = omega (arith, under.bytes)
within_by rows _ t under = absurd under

within : (rows : Rows) (t : Option Transfer) → is_under_way rows t → bytes_held (opened t) ≤ option_map_or (λ o. capacity_at rows o.key + 889) (opened t) 0
within rows None under = omega arith
within rows (Some t) under = within_by rows (request_in t.begin.request) t under

-- ---- all channels

abbrev AllUnderWay : Rows → List NumberedChannel → (ℕ → Log) → Type 0
AllUnderWay rows bank logs = (i : ℕ) (e : NumberedChannel) → i < length bank → is_under_way rows (open_transfer (logs (slice_index_or bank i e).number))

same : (a b : ℕ) → (a == b) ≡ true → a ≡ b
same a b e = grind (arith, nat_tests)

held_in : (rows : Rows) (bank : List NumberedChannel) (logs : ℕ → Log) (j : ℕ) → AllUnderWay rows bank logs → held_on (all_settings bank) logs j ≤ room_after rows (logs j)
held_in rows [] logs j all = omega arith
held_in rows (b ∷ bank) logs j all = by_number (b.number == j) refl (held_in rows bank logs j (λ i e below. all (suc i) e (omega arith)))
  where
    by_number : (here : Bool) → (b.number == j) ≡ here → held_on (all_settings bank) logs j ≤ room_after rows (logs j)
        → option_map_or (λ (c : ChannelSettings). held_bytes (logs c.number)) (cond here (Some (settings_of b)) (find (λ c. c.number == j) (all_settings bank))) 0 ≤ room_after rows (logs j)
    by_number true is later = subst (λ (n : ℕ). held_bytes (logs b.number) ≤ room_after rows (logs n)) (same b.number j is) (within rows (open_transfer (logs b.number)) (all 0 b (omega arith)))
    by_number false is later = later

-- ---- the greatest capacity

room_within : (rows : Rows) (greatest : ℕ) (o : Option OpenTransfer) → ((key : Key) → capacity_at rows key ≤ greatest) → option_map_or (λ o. capacity_at rows o.key + 889) o 0 ≤ greatest + 889
room_within rows greatest None each = omega arith
room_within rows greatest (Some o) each = let le : capacity_at rows o.key ≤ greatest = each o.key in omega arith

-- there is no channel, or no entry has more than the greatest capacity
enough_in : (rows : Rows) (d : Description) (contents : Contents) (greatest time : ℕ) (numbers : List ℕ) → HaveRoom rows (map (settings_for d contents greatest time) numbers)
    → (map (settings_for d contents greatest time) numbers ≡ []) ⊎ ((key : Key) → capacity_at rows key ≤ greatest)
enough_in rows d contents greatest time [] room = inl refl
enough_in rows d contents greatest time (n ∷ numbers) room = inr (λ key. room 0 (settings_for d contents greatest time n) key (omega arith))

enough : (rows : Rows) (k : Constants) → HaveRoom rows (channels k) → (channels k ≡ []) ⊎ ((key : Key) → capacity_at rows key ≤ k.greatest)
unfolding channels_below
enough rows k room = enough_in rows k.description k.start k.greatest k.time (filter (is_channel k.start) (range_with_len 0 128)) room

none_held : (cs : List ChannelSettings) (logs : ℕ → Log) (j bound : ℕ) → cs ≡ [] → held_on cs logs j ≤ bound
none_held cs logs j bound none = subst (λ (cs : List ChannelSettings). held_on cs logs j ≤ bound) (sym none) (let le : 0 ≤ bound = omega arith in le)

-- ---- a device

pub holds_within : (k : Constants) (inputs : Inputs) (node : Node) → Stands k node inputs → HoldsWithin k inputs
holds_within k inputs node stands =
    let logs : ℕ → Log = channel_logs (moments k inputs) in
    let d : Description = description_of node.device.store in
    let rooms : (j : ℕ) → held_of k inputs j ≤ room_of k inputs j = λ j.
    subst (λ (cs : List ChannelSettings). held_on cs logs j ≤ room_of k inputs j) stands.channels.settings
    (subst (λ (d' : Description). held_on (all_settings node.device.parts.bank) logs j ≤ room_after d'.rows (logs j)) stands.description
    (held_in d.rows node.device.parts.bank logs j (λ i e below. (stands.channels.each i e below).under_way))) in
    record {
      room = rooms;
      greatest = λ j. elim (enough k.description.rows k
          (subst (λ (d' : Description). HaveRoom d'.rows (channels k)) stands.description
          (subst (λ (cs : List ChannelSettings). HaveRoom d.rows cs) stands.channels.settings node.device.fits))) [
            | inl none ↦ none_held (channels k) logs j (k.greatest + 889) none
            | inr each ↦ let more = room_within k.description.rows k.greatest (opened_after (logs j)) each in let less = rooms j in omega arith
          ];
    }
