-- The channel's uploads have no more bytes than they indicate, and end with as many: where the client aborts one, nothing was wrong with its
-- data.
use Rattle.std.proofs.Common.{◌≡◌, ℕ, ◌+◌, ◌-◌, ◌*◌, ◌^◌, ◌<◌, ◌≤◌, Bool, true, false, List, [], length, take, Option, Some, None, refl, sym, ap, ◌∙◌, subst, arith, length-take}
use Rattle.std.specs.Prelude.{if◌then◌else◌, min, nat_lt, ◌==◌}
use Rattle.std.proofs.lemmas.Bool.{eqb-true, false≢true}
use Rattle.std.proofs.lemmas.Bool.Decides.{nat_tests}
use Rattle.co_sdo.specs.Uploads.{segment_count}
use Rattle.conode_explain_transfers.specs.declared.digest.Digest.{Digest}
use Rattle.conode_explain_transfers.specs.declared.ended.Fault.{Fault}
use Rattle.conode_explain_transfers.specs.declared.kinds.Direction.TheVariants.{Download}
use Rattle.conode_explain_transfers.specs.declared.stage.Stage.{Stage}
use Rattle.conode_explain_transfers.specs.declared.stage.Stage.TheVariants.{Initiated, UploadTaken, UploadAsked, BlockInitiated, SubBlock, AllAcknowledged, BlockEnded}
use Rattle.conode_explain_transfers.specs.declared.transfer.Transfer.{Transfer}
use Rattle.conode_explain_transfers.specs.Digests.{counted, digest_of}
use Rattle.conode_explain_transfers.specs.Endings.{bytes_come, excess, fault_at, pending_data, size_fault, upload_fault}
use Rattle.conode_explain_transfers.specs.Transfers.{is_download}
use Rattle.conode_explain_laws.proofs.UploadBlocks.{InSubBlock}
use Rattle.conode_explain_laws.proofs.UploadStanding.{AtEnd, InBegun, InUpload, is_sending, size_is}

-- ---- what has come is within the size

least : (n most : ℕ) → min n most ≤ n
least n most = omega arith

within : (size : Option ℕ) (count : ℕ) (bytes : List ℕ) → size ≡ Some (length bytes) → count ≤ length bytes → excess size count ≡ None
within size count bytes s few =
    let below : nat_lt (length bytes) count ≡ false = grind (arith, nat_tests) in
    rw (s, below) refl

come_few : (t : Transfer) (got bytes : List ℕ) (n : ℕ) → t.taken ≡ digest_of got → pending_data t.stage (length t.pending.items) ≡ n → length got + n ≤ length bytes → t.size ≡ Some (length bytes)
    → excess t.size (bytes_come t) ≡ None
come_few t got bytes n kept p few s =
    let taken : t.taken.count ≤ length got = subst (λ c. c ≤ length got) (sym (ap (λ (g : Digest). g.count) kept)) (least (length got) (2 ^ 64 - 1)) in
    let sum : t.taken.count + pending_data t.stage (length t.pending.items) ≤ length bytes = subst (λ m. t.taken.count + m ≤ length bytes) (sym p) (omega (arith, taken, few)) in
    let all : bytes_come t ≤ t.taken.count + pending_data t.stage (length t.pending.items) = least _ _ in
    within t.size (bytes_come t) bytes s (omega (arith, sum, all))

pub upload_within : (t : Transfer) (got bytes : List ℕ) (sent : ℕ) → InUpload t bytes sent → got ≡ take (7 * sent) bytes → t.taken ≡ digest_of got → excess t.size (bytes_come t) ≡ None
upload_within t got bytes sent h g kept =
    let long : length got ≡ length (take (7 * sent) bytes) = ap length g in
    let n = length-take (7 * sent) bytes in
    come_few t got bytes 0 kept (ap (λ stage. pending_data stage (length t.pending.items)) h.stage ∙ ap length h.pending) (omega (arith, long, n)) h.size

pub begun_within : (t : Transfer) (got bytes : List ℕ) (block_size : ℕ) → InBegun t bytes block_size → got ≡ [] → t.taken ≡ digest_of got → excess t.size (bytes_come t) ≡ None
begun_within t got bytes block_size h g kept =
    let long : length got ≡ 0 = ap length g in
    come_few t got bytes 0 kept (ap (λ stage. pending_data stage (length t.pending.items)) h.stage ∙ ap length h.pending) (omega (arith, long)) h.is.size

pub blocks_within : (t : Transfer) (got bytes : List ℕ) (position sent : ℕ) → InSubBlock t got bytes position sent → t.taken ≡ digest_of got → excess t.size (bytes_come t) ≡ None
blocks_within t got bytes position sent h kept = by (position + sent == segment_count bytes) refl
  where
    long : length got ≡ 7 * position
    long = let first = h.first in ap length h.before ∙ (let n = length-take (7 * position) bytes in omega (arith, first))

    by : (last : Bool) → (position + sent == segment_count bytes) ≡ last → excess t.size (bytes_come t) ≡ None
    by true e =
        let whole : position + sent ≡ segment_count bytes = eqb-true _ _ e in
        let first = h.first in
        come_few t got bytes (7 * sent - 7) kept (ap (λ stage. pending_data stage (length t.pending.items)) (h.stage ∙ ap (λ b. SubBlock b) e) ∙ ap (λ n. n - 7) h.pending) (omega (arith, long, whole, first)) h.is.size
    by false e =
        let most = h.most in
        let under : position + sent < segment_count bytes = grind (arith, nat_tests) in
        come_few t got bytes (7 * sent) kept (ap (λ stage. pending_data stage (length t.pending.items)) (h.stage ∙ ap (λ b. SubBlock b) e) ∙ h.pending) (omega (arith, long, under)) h.is.size

-- ---- nothing is wrong with its data

unless : (down : Bool) (f : Option Fault) → f ≡ None → (if down then None else f) ≡ None
unless true f h = refl
unless false f h = h

upload_right : (u : Transfer) → fault_at u.stage u ≡ None → upload_fault u ≡ None
upload_right u h = unless (is_download u.direction) (fault_at u.stage u) h

sending_at : (u : Transfer) (stage : Stage) → is_sending stage ≡ true → excess u.size (bytes_come u) ≡ None → fault_at stage u ≡ None
sending_at u (UploadTaken toggle) s h = unless u.irregular _ h
sending_at u (UploadAsked toggle) s h = unless u.irregular _ h
sending_at u BlockInitiated s h = unless u.irregular _ h
sending_at u (SubBlock last) s h = unless u.irregular _ h
sending_at u AllAcknowledged s h = unless u.irregular _ h
sending_at u _ s h = absurd (false≢true s)

pub sending_right : (u : Transfer) → is_sending u.stage ≡ true → excess u.size (bytes_come u) ≡ None → upload_fault u ≡ None
sending_right u s h = upload_right u (sending_at u u.stage s h)

pub first_right : (u : Transfer) → u.stage ≡ Initiated → upload_fault u ≡ None
first_right u e = upload_right u (ap (λ stage. fault_at stage u) e)

pub download_right : (u : Transfer) → u.direction ≡ Download → upload_fault u ≡ None
download_right u d = rw d refl

worn_at : (u : Transfer) (stage : Stage) → u.irregular ≡ true → fault_at stage u ≡ None
worn_at u Initiated i = refl
worn_at u (BlockEnded crc) i = rw i refl
worn_at u _ i = rw i refl

pub worn_right : (u : Transfer) → u.irregular ≡ true → upload_fault u ≡ None
worn_right u i = upload_right u (worn_at u u.stage i)

-- after the server's end, without a CRC
pub end_right : (u : Transfer) (got bytes : List ℕ) (crc : ℕ) → AtEnd u bytes crc → got ≡ bytes → u.taken ≡ digest_of got → upload_fault u ≡ None
end_right u got bytes crc h g kept = upload_right u (ap (λ stage. fault_at stage u) h.stage ∙ rw (h.is.crc, h.is.regular, right) refl)
  where
    right : size_fault u.size u.taken.count ≡ None
    right = size_is u.size u.taken.count bytes h.is.size (ap (λ (x : Digest). x.count) kept ∙ ap (λ xs. counted (length xs)) g) h.is.few
