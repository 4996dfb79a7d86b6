-- The laws about values and access of a device that is built from a data sheet, of that sheet.
use Rattle.std.proofs.Common.{◌≡◌, ◌+◌, ◌∙◌, true, false, ap, List, [], ◌∷◌, Option, Some, None, refl, sym, subst}
use Rattle.std.specs.List.{All, AllByRecursion}
use Rattle.co_value.specs.declared.key.Key.{Key}
use Rattle.co_dict.specs.Rows.{Contents}
use Rattle.co_dict.specs.Stores.{Description, IsDescription, IsDictionary}
use Rattle.co_dict_build.specs.Built.{Plan, built_contents}
use Rattle.co_node.specs.Built.{IsBuilt}
use Rattle.co_node_model.specs.Device.{contents_of}
use Rattle.co_node_model.specs.Inputs.{Inputs}
use Rattle.co_node_model.specs.Moments.{Constants, channels}
use Rattle.co_node_model.specs.Sync.{is_sync_id}
use Rattle.co_sdo.specs.Refused.{reading_refusal}
use Rattle.co_sheet.specs.SheetLaws.{IsSheetRow}
use Rattle.conode_compare_nmt.specs.declared.finding.Finding.{Finding}
use Rattle.conode_compare_nmt.specs.declared.limits.Subject.{Subject}
use Rattle.conode_compare_laws.specs.AnswerEntries.{AllAreHeld}
use Rattle.conode_compare_laws.specs.AnswerSenders.{AllSendOther, HaveBytes, HaveOtherChannels}
use Rattle.conode_compare_laws.specs.Differences.{differences_in}
use Rattle.conode_compare_laws.specs.GivenRooms.{AreAmple, AreRoomsOf}
use Rattle.conode_compare_laws.specs.Identifiers.{AreElsewhere, IsAside}
use Rattle.conode_compare_laws.specs.IdentityEntries.{AllHaveIdentity, HasIdentity}
use Rattle.conode_compare_laws.specs.Recordings.{Stamped, recording}
use Rattle.conode_compare_laws.specs.ValueFindings.{constant_differences, length_differences, limit_differences, read_differences, of_constants, of_lengths, of_limits, of_served, of_writes, on_channel, refusal_differences, served_differences, write_differences, of_rooms, room_differences}
use Rattle.conode_compare_laws.proofs.Begins.{node_ok, to_127}
use Rattle.conode_compare_laws.proofs.BuiltBytes.{always_fixed, identity_same, is_fixed}
use Rattle.conode_compare_laws.proofs.Heard.{of_device}
use Rattle.conode_compare_laws.proofs.KeptEntries.{SetsPermitted}
use Rattle.conode_compare_laws.proofs.ReadAllowed.{Any}
use Rattle.conode_compare_laws.proofs.ReadInputs as refused
use Rattle.conode_compare_laws.proofs.ReadServed.{MayRead, both_none, may_read, no_served, served_picks}
use Rattle.conode_compare_laws.proofs.TpdoMapped.{none_out}
use Rattle.conode_compare_laws.proofs.ValueConstants.{HoldsSheet, constant_picks, no_constant}
use Rattle.conode_compare_laws.proofs.ValueDownloads.{Picks, Standing, obeys}
use Rattle.conode_compare_laws.proofs.ValueInputs.{AllHold, none_in}
use Rattle.conode_compare_laws.proofs.ValueLengths.{length_picks, no_length}
use Rattle.conode_compare_laws.proofs.ValueOnly.{is_value}
use Rattle.conode_compare_laws.proofs.ValueRefused.{Milds, built_milds}
use Rattle.conode_compare_laws.proofs.ValueRooms.{no_room, room_picks}
use Rattle.conode_compare_laws.proofs.ValueUploads as uploaded
use Rattle.conode_compare_laws.proofs.ValueWrites.{limit_picks, no_limit, no_write, write_picks}

all_held : (k : Constants) (inputs : List Stamped) (before : Inputs) → AllAreHeld k before inputs → AllHold (IsDictionary k.description) k before inputs
all_held k [] before h = tt
all_held k (s ∷ later) before h = (h.0, all_held k later (s.input ∷ before) h.1)

-- before each input the entries that are compared have the bytes with which the device was built
holds_sheet : SetsPermitted → (plan : Plan) (k : Constants) → IsBuilt plan k → (before : Inputs) → IsDictionary k.description (contents_of k before) → HasIdentity k (contents_of k before) → HoldsSheet plan (contents_of k before)
holds_sheet permitted plan k is before lawful identity =
    let start : (key : Key) → k.start key ≡ built_contents plan key = λ key. ap (λ (c : Contents). c key) is.start in
    record {
      lawful = subst (λ (d : Description). IsDictionary d (contents_of k before)) is.description lawful;
      fixed = λ key on. always_fixed permitted plan k is before key (subst (λ (d : Description). is_fixed d.rows key ≡ true) (sym is.description) on) ∙ start key;
      identity = λ key on. identity_same permitted plan k is before identity key on ∙ start key;
    }

all_hold_sheet : SetsPermitted → (plan : Plan) (k : Constants) → IsBuilt plan k → (inputs : List Stamped) (before : Inputs) → AllAreHeld k before inputs → AllHaveIdentity k before inputs → AllHold (HoldsSheet plan) k before inputs
all_hold_sheet permitted plan k is [] before held identity = tt
all_hold_sheet permitted plan k is (s ∷ later) before held identity =
    (holds_sheet permitted plan k is before held.0 identity.0, all_hold_sheet permitted plan k is later (s.input ∷ before) held.1 identity.1)

module _ (plan : Plan) (k : Constants) (is : IsBuilt plan k) (subject : Subject) (inputs : List Stamped) (same : subject.node ≡ k.description.node) (bytes : HaveBytes inputs) (held : AllAreHeld k [] inputs) (answers : AreElsewhere (0x580 + k.description.node) inputs) (other : AllSendOther k [] inputs) (sync : (all : Inputs) → is_sync_id (contents_of k all) (0x600 + k.description.node) ≡ false) (others : HaveOtherChannels k) (aside : AllByRecursion (λ c. IsAside k.description.node c.response) (channels k)) where
  -- of downloads that are done
  downloads : (only : Option Finding → List Finding) (nothing : only None ≡ []) → ((finding : Finding) → is_value finding ≡ false → only (Some finding) ≡ []) → Picks only (of_device k subject) plan.rows k.description
      → differences_in (on_channel only) subject plan.rows (recording k inputs) ≡ []
  downloads only nothing besides picks =
      none_in k subject plan.rows (on_channel only) (IsDictionary k.description) (Standing k.description) (obeys only nothing besides (of_device k subject) plan.rows k.description picks) inputs same answers bytes
      (all_held k inputs [] held) other sync others aside

  pub no_writes : differences_in write_differences subject plan.rows (recording k inputs) ≡ []
  no_writes = downloads of_writes refl no_write (subst (Picks of_writes (of_device k subject) plan.rows) (sym is.description) (write_picks plan (of_device k subject)))

  pub no_limits : differences_in limit_differences subject plan.rows (recording k inputs) ≡ []
  no_limits = downloads of_limits refl no_limit (subst (Picks of_limits (of_device k subject) plan.rows) (sym is.description) (limit_picks plan (of_device k subject)))

  pub no_rooms : AreRoomsOf plan.limits subject.rooms → AreAmple subject.rooms → differences_in room_differences subject plan.rows (recording k inputs) ≡ []
  no_rooms are ample = downloads of_rooms refl no_room (subst (Picks of_rooms (of_device k subject) plan.rows) (sym is.description) (room_picks plan (of_device k subject) are ample))

  -- of uploads that are done
  uploads : (only : Option Finding → List Finding) (nothing : only None ≡ []) → ((finding : Finding) → is_value finding ≡ false → only (Some finding) ≡ []) → (P : Contents → Type 0) (R : Key → Type 0) → ((c : Contents) → P c → IsDictionary k.description c)
      → ((c : Contents) (key : Key) → reading_refusal k.description c key ≡ None → R key) → uploaded.Picks P R only (of_device k subject) plan.rows → AllHold P k [] inputs → differences_in (on_channel only) subject plan.rows (recording k inputs) ≡ []
  uploads only nothing besides P R lawful allows picks hold =
      none_in k subject plan.rows (on_channel only) P (uploaded.Stands P R k.description) (uploaded.obeys P R only nothing besides (of_device k subject) plan.rows k.description lawful allows picks) inputs same answers bytes hold other sync others aside

  pub no_lengths : differences_in length_differences subject plan.rows (recording k inputs) ≡ []
  no_lengths =
      uploads of_lengths refl no_length (IsDictionary k.description) Any (λ c h. h) (λ c key none. tt)
      (subst (λ (d : Description). uploaded.Picks (IsDictionary d) Any of_lengths (of_device k subject) plan.rows) (sym is.description) (length_picks plan (of_device k subject))) (all_held k inputs [] held)

  pub no_constants : SetsPermitted → All IsSheetRow plan.rows → AllHaveIdentity k [] inputs → differences_in constant_differences subject plan.rows (recording k inputs) ≡ []
  no_constants permitted lawful identity =
      uploads of_constants refl no_constant (HoldsSheet plan) Any (λ c h. subst (λ (d : Description). IsDictionary d c) (sym is.description) h.lawful) (λ c key none. tt)
      (constant_picks plan (of_device k subject) (ap (λ (d : Description). d.node) is.description) (to_127 plan.node (node_ok plan is.faultless)) lawful (none_out plan is.faultless))
      (all_hold_sheet permitted plan k is inputs [] held identity)

  -- of uploads of write-only entries
  no_served_reads : differences_in served_differences subject plan.rows (recording k inputs) ≡ []
  no_served_reads =
      uploads of_served refl no_served (IsDictionary k.description) (MayRead k.description) (λ c h. h) (may_read k.description)
      (subst (λ (d : Description). uploaded.Picks (IsDictionary d) (MayRead d) of_served (of_device k subject) plan.rows) (sym is.description) (served_picks plan (of_device k subject))) (all_held k inputs [] held)

  -- of uploads that are refused
  no_refusals : differences_in refusal_differences subject plan.rows (recording k inputs) ≡ []
  no_refusals =
      none_in k subject plan.rows refusal_differences (IsDictionary k.description) (refused.Stands k.description)
      (refused.obeys (of_device k subject) plan.rows k.description (subst (λ (d : Description). IsDescription d → Milds plan.rows d) (sym is.description) (built_milds plan))) inputs same answers bytes
      (all_held k inputs [] held) other sync others aside

  pub no_reads : differences_in read_differences subject plan.rows (recording k inputs) ≡ []
  no_reads = both_none subject plan.rows (recording k inputs) no_refusals no_served_reads
