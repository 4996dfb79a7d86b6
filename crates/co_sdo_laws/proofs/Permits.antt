-- What a permitted download needs on its way: its begin isn't refused, the entry has room, and its size is as indicated.
use Rattle.std.proofs.Common.{◌≡◌, ℕ, ◌<◌, ◌≤◌, Bool, true, false, not, List, [], ◌∷◌, length, Option, Some, None, refl, sym, ap, ◌∙◌, arith, subst}
use Rattle.std.specs.Prelude.{nat_lt, ◌||◌, is_none, option_and_then, nat_le}
use Rattle.std.specs.Option.{option_map_or}
use Rattle.std.proofs.lemmas.Bool.{false≢true, and_parts, not-true}
use Rattle.std.proofs.lemmas.Bool.Decides.{nat_tests}
use Rattle.co_value.specs.declared.key.Key.{Key}
use Rattle.co_value.specs.Keys.{same_key-refl}
use Rattle.co_dict.specs.declared.row.Row.{Row}
use Rattle.co_dict.specs.Rows.{Contents, written}
use Rattle.co_dict.specs.Stores.{Description, IsDescription, IsDictionary}
use Rattle.co_dict.specs.Refusals.{refused_if, first_of, first_refusal}
use Rattle.co_dict.specs.Objects.{has_object}
use Rattle.co_dict.specs.OwnRules.{own_refusal}
use Rattle.co_dict.specs.WriteRefusals.{is_read_only, is_sdo_parameter, size_refusal, total_refusal, limit_refusal}
use Rattle.co_sdo.specs.OpenTransfers.{open_transfer}
use Rattle.co_sdo.specs.Refused.{capacity_at, reading_refusal, initiate_refusal, completion_refusal}
use Rattle.co_sdo.specs.Uploads.{value_at}
use Rattle.co_sdo.proofs.RefusalLemmas.{first_none, second_none, allowed}
use Rattle.co_sdo.proofs.StoreLemmas.{value_fits}
use Rattle.co_sdo_client.specs.declared.mode.Mode.{Mode}
use Rattle.co_sdo_client.specs.Calls.{Job, Download, Upload}
use Rattle.co_sdo_client.specs.Segments.{bytes_of, cap_of, size_sent, transfer_of, transfer_by}
use Rattle.co_sdo_laws.specs.World.{Setup}
use Rattle.co_sdo_laws.specs.Undisturbed.{IsJob, IsPermitted, is_short, is_expedited_download, is_segmented_download, is_plain_upload, is_block_download, is_block_upload}
use Rattle.co_sdo_laws.proofs.Frames.{size_read, small_size}
use Rattle.co_sdo_client.specs.declared.mode.Mode.TheVariants.{Plain, Segmented, Block}

total_same : (size : ℕ) → total_refusal size size ≡ None
total_same size = let same : nat_lt size size ≡ false = grind (arith, nat_tests) in rw same refl

-- the refusals of a write, by an entry's row
abbrev by_row : Option Row → Bool → (Row → List (Option ℕ)) → ℕ → ℕ → Option ℕ
by_row row found refusals c1 c2 = first_of (first_refusal (refused_if (not found) c1 ∷ refused_if (is_none row) c2 ∷ [])) (option_and_then (λ r. first_refusal (refusals r)) row)

record Permits (row : Option Row) (found : Bool) (size : ℕ) (a : Row → Option ℕ) (rest : Row → List (Option ℕ)) (c1 c2 : ℕ) : Type 0 where
  begin : by_row row found (λ r. a r ∷ None ∷ []) c1 c2 ≡ None
  initiate_indicated : by_row row found (λ r. a r ∷ size_refusal r size ∷ []) c1 c2 ≡ None
  indicated : by_row row found (λ r. a r ∷ size_refusal r size ∷ total_refusal size size ∷ first_refusal (size_refusal r size ∷ rest r) ∷ []) c1 c2 ≡ None

permits_row : (row : Option Row) (found : Bool) (size : ℕ) (a : Row → Option ℕ) (rest : Row → List (Option ℕ)) (c1 c2 : ℕ)
    → by_row row found (λ r. a r ∷ None ∷ None ∷ first_refusal (size_refusal r size ∷ rest r) ∷ []) c1 c2 ≡ None → Permits row found size a rest c1 c2
permits_row None true size a rest c1 c2 h = cc
permits_row None false size a rest c1 c2 h = cc
permits_row (Some r) false size a rest c1 c2 h = cc
permits_row (Some r) true size a rest c1 c2 h =
    let may : a r ≡ None = first_none _ _ h in
    let value : first_of (size_refusal r size) (first_refusal (rest r)) ≡ None = first_none _ _ (second_none (a r) _ h) in
    let fits : size_refusal r size ≡ None = first_none (size_refusal r size) _ value in
    let others : first_refusal (rest r) ≡ None = second_none (size_refusal r size) _ value in
    record {
      begin = rw may refl;
      initiate_indicated = rw (may, fits) refl;
      indicated = rw (may, fits, others, total_same size) refl;
    }

-- what is permitted without a size is permitted with it
pub record MayBegin (d : Description) (contents : Contents) (key : Key) (bytes : List ℕ) : Type 0 where
  pub begin : initiate_refusal d key None ≡ None
  pub initiate_indicated : initiate_refusal d key (Some (length bytes)) ≡ None
  pub complete_indicated : completion_refusal d contents key (Some (length bytes)) bytes ≡ None
  pub room : length bytes ≤ capacity_at d.rows key

pub may_begin : (d : Description) (contents : Contents) (key : Key) (bytes : List ℕ) → completion_refusal d contents key None bytes ≡ None → MayBegin d contents key bytes
unfolding initiate_refusal completion_refusal
may_begin d contents key bytes h =
    let p = permits_row (d.rows key) (has_object d.rows key.index) (length bytes) (λ row. refused_if (is_read_only row.access || is_sdo_parameter key.index) 0x06010002)
    (λ row. limit_refusal row bytes ∷ own_refusal d contents key bytes ∷ []) 0x06020000 0x06090011 h in
    record { begin = p.begin; initiate_indicated = p.initiate_indicated; complete_indicated = p.indicated; room = (allowed d contents key None bytes h).room }

-- whether it indicates its size or not
abbrev pub is_download : Job → Bool
is_download (Download bytes tells) = true
is_download (Upload cap) = false

pub record MaySend (d : Description) (contents : Contents) (key : Key) (job : Job) : Type 0 where
  pub begin : initiate_refusal d key (size_read (size_sent job)) ≡ None
  pub complete : completion_refusal d contents key (size_read (size_sent job)) (bytes_of job) ≡ None
  pub at_once : completion_refusal d contents key None (bytes_of job) ≡ None
  pub room : length (bytes_of job) ≤ capacity_at d.rows key

pub may_send : (d : Description) (contents : Contents) (key : Key) (job : Job) → is_download job ≡ true → IsJob job
    → IsPermitted d contents key job → MaySend d contents key job
may_send d contents key (Download bytes true) t few free =
    let may = may_begin d contents key bytes free in
    let size = small_size (length bytes) (omega arith) in
    record {
      begin = ap (initiate_refusal d key) size ∙ may.initiate_indicated;
      complete = ap (λ (n : Option ℕ). completion_refusal d contents key n bytes) size ∙ may.complete_indicated;
      at_once = free;
      room = may.room;
    }
may_send d contents key (Download bytes false) t few free =
    let may = may_begin d contents key bytes free in
    record { begin = may.begin; complete = free; at_once = free; room = may.room }
may_send d contents key (Upload cap) t few free = absurd (false≢true t)

-- ---- protocols, each by a mode and a job that go by it

abbrev pub Protocol : Type 0
Protocol = Mode × Job

abbrev pub sends_at_once : Protocol
sends_at_once = (Plain, Download (0 ∷ []) true)

abbrev pub sends_in_segments : Protocol
sends_in_segments = (Segmented, Download [] true)

abbrev pub sends_in_blocks : Protocol
sends_in_blocks = (Block, Download [] true)

abbrev pub reads_in_segments : Protocol
reads_in_segments = (Segmented, Upload 0)

abbrev pub reads_in_blocks : Protocol
reads_in_blocks = (Block, Upload 0)

-- ---- a download by this protocol, at an idle channel; where `p` holds it is permitted

abbrev pub bytes : Setup → List ℕ
bytes s = bytes_of s.call.job

abbrev pub indicated : Setup → Option ℕ
indicated s = size_read (size_sent s.call.job)

pub record IsDownload (s : Setup) (p : Type 0) (protocol : Protocol) : Type 0 where
  pub dictionary : IsDictionary s.description s.contents
  pub key : s.call.key.index < 65536
  pub idle : open_transfer s.past ≡ None
  pub transfer : transfer_of s.call ≡ transfer_by protocol.0 protocol.1
  pub may_begin : p → initiate_refusal s.description s.call.key (indicated s) ≡ None
  pub may_complete : p → completion_refusal s.description s.contents s.call.key (indicated s) (bytes s) ≡ None
  pub room : p → length (bytes s) ≤ capacity_at s.description.rows s.call.key

pub none≢some : {A : Type 0} (x : Option A) (y : A) → x ≡ None → x ≡ Some y → ⊥
none≢some x y e f = cc

pub entry_is : (contents : Contents) (key : Key) (v : List ℕ) → written contents key v key ≡ Some v
entry_is contents key v = rw (same_key-refl key) refl

-- ---- an upload by this protocol: where `p` holds it is permitted, and the client has room for the value

abbrev pub value : Setup → List ℕ
value s = value_at s.contents s.call.key

pub record IsUpload (s : Setup) (p : Type 0) (protocol : Protocol) : Type 0 where
  pub dictionary : IsDictionary s.description s.contents
  pub key : s.call.key.index < 65536
  pub idle : open_transfer s.past ≡ None
  pub transfer : transfer_of s.call ≡ transfer_by protocol.0 protocol.1
  pub may_read : p → reading_refusal s.description s.contents s.call.key ≡ None
  pub fits : p → length (value s) ≤ cap_of s.call.job

pub not_above : (cap n : ℕ) → n ≤ cap → nat_lt cap n ≡ true → ⊥
not_above cap n few above = absurd (grind (arith, nat_tests))

pub below_itself : (n : ℕ) → nat_lt n n ≡ false
below_itself n = grind (arith, nat_tests)

pub lawful_of : (s : Setup) → IsDictionary s.description s.contents → (contents : Contents) → contents ≡ s.contents
    → IsDictionary s.description contents
lawful_of s lawful contents e = subst (IsDictionary s.description) (sym e) lawful

small_row : (d : Description) (key : Key) (row : Option Row) → IsDescription d → d.rows key ≡ row
    → option_map_or (λ (r : Row). r.capacity) row 0 ≤ 65535
small_row d key None h e = omega arith
small_row d key (Some row) h e = h.capacity key row e

pub small_value : (s : Setup) → IsDictionary s.description s.contents → length (value s) ≤ 65535
small_value s lawful =
    let fits : length (value s) ≤ capacity_at s.description.rows s.call.key = value_fits s.description s.contents s.call.key lawful in
    let small : capacity_at s.description.rows s.call.key ≤ 65535 =
    small_row s.description s.call.key (s.description.rows s.call.key) lawful.description refl in
    omega arith

-- ---- by which protocol a call's transfer goes

-- by this one, to the entry or not
pub record Goes (mode : Mode) (job : Job) (protocol : Protocol) (to_entry : Bool) : Type 0 where
  pub by : transfer_by mode job ≡ transfer_by protocol.0 protocol.1
  pub sends : is_download job ≡ to_entry

pub in_segments : (mode : Mode) (job : Job) → is_segmented_download mode job ≡ true → Goes mode job sends_in_segments true
in_segments Plain (Download bytes tells) h = record { by = rw (not-true (is_short (length bytes)) h) refl; sends = refl }
in_segments Segmented (Download bytes tells) h = record { by = refl; sends = refl }
in_segments _ _ h = cc

pub short_bytes : (n : ℕ) → is_short n ≡ true → (1 ≤ n) × (n ≤ 4)
short_bytes n h =
    let both = and_parts (nat_le 1 n) (nat_le n 4) h in
    let low = both.0 in
    let high = both.1 in
    (grind (arith, nat_tests), grind (arith, nat_tests))

pub at_once : (mode : Mode) (job : Job) → is_expedited_download mode job ≡ true → Goes mode job sends_at_once true
at_once Plain (Download bytes tells) h = record { by = rw h refl; sends = refl }
at_once _ _ h = cc

pub at_once_few : (mode : Mode) (job : Job) → is_expedited_download mode job ≡ true → is_short (length (bytes_of job)) ≡ true
at_once_few Plain (Download bytes tells) h = h
at_once_few _ _ h = cc

pub in_blocks : (mode : Mode) (job : Job) → is_block_download mode job ≡ true → Goes mode job sends_in_blocks true
in_blocks Block (Download bytes tells) h = record { by = refl; sends = refl }
in_blocks _ _ h = cc

pub upload : (mode : Mode) (job : Job) → is_plain_upload mode job ≡ true → Goes mode job reads_in_segments false
upload Plain (Upload cap) h = record { by = refl; sends = refl }
upload Segmented (Upload cap) h = record { by = refl; sends = refl }
upload Block (Upload cap) h = cc
upload Plain (Download bytes tells) h = cc
upload Segmented (Download bytes tells) h = cc
upload Block (Download bytes tells) h = cc

pub block_upload : (mode : Mode) (job : Job) → is_block_upload mode job ≡ true → Goes mode job reads_in_blocks false
block_upload Block (Upload cap) h = record { by = refl; sends = refl }
block_upload _ _ h = cc

pub may_read : (d : Description) (contents : Contents) (key : Key) (job : Job) → is_download job ≡ false
    → IsPermitted d contents key job → reading_refusal d contents key ≡ None
may_read d contents key (Upload cap) t free = free
may_read d contents key (Download bytes tells) t free = cc
