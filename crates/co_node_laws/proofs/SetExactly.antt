-- Which entry a frame to an SDO channel sets.
use Rattle.std.proofs.Common.{◌≡◌, ◌≢◌, ℕ, Bool, true, false, cond, ◌∷◌, Option, Some, None, refl, ap, ◌∙◌, arith}
use Rattle.std.specs.Prelude.{◌==◌, length}
use Rattle.std.proofs.lemmas.Bool.Decides.{nat_tests}
use Rattle.co_frame.specs.FrameContent.{FrameContent}
use Rattle.co_dict.specs.Rows.{Contents, written}
use Rattle.co_dict.specs.Stores.{Description}
use Rattle.co_sdo.specs.Completed.{completed_by, permitted, contents_with, unless}
use Rattle.co_sdo.specs.Downloads.{Download}
use Rattle.co_sdo.specs.Log.{Log}
use Rattle.co_sdo.specs.OpenTransfers.{open_transfer}
use Rattle.co_sdo.specs.Refused.{completion_refusal}
use Rattle.co_node_parts.specs.declared.nmt_state.NodeState.{NodeState}
use Rattle.co_node_parts.specs.declared.nmt_state.NodeState.TheVariants.{PreOperational, Operational, Stopped}
use Rattle.co_node_parts.specs.NmtStates.{is_state}
use Rattle.co_node_model.specs.Inputs.{Inputs, Framed}
use Rattle.co_node_model.specs.declared.address.Address.TheVariants.{Channel}
use Rattle.co_node_model.specs.Moments.{Constants}
use Rattle.co_node_model.specs.Sdo.{channel_logs}
use Rattle.co_node_model.specs.Addresses.{address_at}
use Rattle.co_node_model.specs.Device.{moments, contents_of, state_of}
use Rattle.co_node_laws.specs.Changes.{download_set, changed_by_request}
use Rattle.co_node_laws.proofs.Changed.{by_address}

none_set : (d : Description) (c : Contents) (log : Log) (frame : FrameContent) (state : NodeState) → download_set d c log frame ≡ None → changed_by_request d state log frame c ≡ c
none_set d c log frame Stopped e = refl
none_set d c log frame PreOperational e = ap (contents_with c) e
none_set d c log frame Operational e = ap (contents_with c) e

running_sets : (d : Description) (c : Contents) (log : Log) (frame : FrameContent) (state : NodeState) → is_state Stopped state ≡ false → changed_by_request d state log frame c ≡ contents_with c (download_set d c log frame)
running_sets d c log frame Stopped off = absurd (cc)
running_sets d c log frame PreOperational off = refl
running_sets d c log frame Operational off = refl

none_of : (eight : Bool) (d : Description) (c : Contents) (completed : Option Download) → permitted d c completed ≡ None → cond eight (permitted d c completed) None ≡ None
none_of true d c completed e = e
none_of false d c completed e = refl

pub incomplete : (k : Constants) (inputs : Inputs) (frame : FrameContent) (j : ℕ) → address_at k (moments k inputs) frame.id ≡ Channel j
    → completed_by k.description.rows (open_transfer (channel_logs (moments k inputs) j)) frame.bytes ≡ None
    → contents_of k (Framed frame ∷ inputs) ≡ contents_of k inputs
incomplete k inputs frame j is none =
    let d = k.description in
    let c = contents_of k inputs in
    by_address k inputs frame (Channel j) is
    ∙ none_set d c (channel_logs (moments k inputs) j) frame (state_of k inputs) (none_of (length frame.bytes == 8) d c _ (ap (permitted d c) none))

pub refused : (k : Constants) (inputs : Inputs) (frame : FrameContent) (j : ℕ) (w : Download) (code : ℕ) → address_at k (moments k inputs) frame.id ≡ Channel j
    → completed_by k.description.rows (open_transfer (channel_logs (moments k inputs) j)) frame.bytes ≡ Some w
    → completion_refusal k.description (contents_of k inputs) w.key w.indicated w.bytes ≡ Some code
    → contents_of k (Framed frame ∷ inputs) ≡ contents_of k inputs
refused k inputs frame j w code is completes refusal =
    let d = k.description in
    let c = contents_of k inputs in
    by_address k inputs frame (Channel j) is
    ∙ none_set d c (channel_logs (moments k inputs) j) frame (state_of k inputs)
    (none_of (length frame.bytes == 8) d c _ (ap (permitted d c) completes ∙ ap (λ r. unless r (Some w)) refusal))

pub ignored : (k : Constants) (inputs : Inputs) (frame : FrameContent) (j : ℕ) → address_at k (moments k inputs) frame.id ≡ Channel j → length frame.bytes ≢ 8
    → contents_of k (Framed frame ∷ inputs) ≡ contents_of k inputs
ignored k inputs frame j is other =
    let d = k.description in
    let c = contents_of k inputs in
    let log = channel_logs (moments k inputs) j in
    let no : (length frame.bytes == 8) ≡ false = grind (arith, nat_tests) in
    by_address k inputs frame (Channel j) is
    ∙ none_set d c log frame (state_of k inputs) (ap (λ b. cond b (permitted d c (completed_by d.rows (open_transfer log) frame.bytes)) None) no)

pub set : (k : Constants) (inputs : Inputs) (frame : FrameContent) (j : ℕ) (w : Download) → address_at k (moments k inputs) frame.id ≡ Channel j → is_state Stopped (state_of k inputs) ≡ false → length frame.bytes ≡ 8
    → completed_by k.description.rows (open_transfer (channel_logs (moments k inputs) j)) frame.bytes ≡ Some w
    → completion_refusal k.description (contents_of k inputs) w.key w.indicated w.bytes ≡ None
    → contents_of k (Framed frame ∷ inputs) ≡ written (contents_of k inputs) w.key w.bytes
set k inputs frame j w is running eight completes permits =
    let d = k.description in
    let c = contents_of k inputs in
    let log = channel_logs (moments k inputs) j in
    let yes : (length frame.bytes == 8) ≡ true = grind (arith, nat_tests) in
    by_address k inputs frame (Channel j) is
    ∙ running_sets d c log frame (state_of k inputs) running
    ∙ ap (λ b. contents_with c (cond b (permitted d c (completed_by d.rows (open_transfer log) frame.bytes)) None)) yes
    ∙ ap (λ x. contents_with c (permitted d c x)) completes
    ∙ ap (λ r. contents_with c (unless r (Some w))) permits
