-- A SYNC that comes to a device, and to compare: what a law says of TPDOs before it and after it (`Syncs`).
use Rattle.std.proofs.Common.{◌≡◌, ◌≢◌, ℕ, ◌+◌, Bool, true, false, List, [], ◌∷◌, ◌++◌, Option, Some, None, refl, ap, sym, ◌∙◌, subst, ◌⊎◌, inl, inr}
use Rattle.std.specs.Prelude.{◌==◌, IfSome}
use Rattle.std.specs.List.{AllByRecursion}
use Rattle.std.proofs.lemmas.Bool.{and_parts, eq-eqb, eqb-true, ne_eqb}
use Rattle.co_frame.specs.FrameContent.{FrameContent}
use Rattle.co_dict.specs.CobIds.{identifier_of}
use Rattle.co_dict.specs.Rows.{number_at}
use Rattle.co_profile.specs.Keys.{sync_key}
use Rattle.co_sheet.specs.Content.{Row}
use Rattle.co_node_model.specs.Device.{contents_of, moment, moments, prescribed}
use Rattle.co_node_model.specs.Inputs.{Applied, Framed, Inputs, InputView, Ticked}
use Rattle.co_node_model.specs.Moments.{Constants, Moment}
use Rattle.co_node_model.specs.Tpdos.{turn_at}
use Rattle.conode_compare_pdos.specs.declared.deviation.Deviation.{Deviation}
use Rattle.conode_compare_pdos.specs.declared.deviation.Moment.{Moment as Judged}
use Rattle.conode_compare_pdos.specs.declared.pdos.Pdos.{Pdos}
use Rattle.conode_compare_pdos.specs.Followed.{framed, sighting, synced}
use Rattle.conode_compare_pdos.specs.Tpdos.{is_id}
use Rattle.conode_compare_rules.specs.declared.kind.FrameKind.TheVariants.{Process}
use Rattle.conode_compare_nmt.specs.declared.limits.Subject.{Subject}
use Rattle.conode_compare_rules.specs.declared.progress.Progress.{Progress}
use Rattle.conode_compare_rules.specs.FrameKinds.{data_kind, length_of}
use Rattle.conode_compare_rules.specs.Gaps.{begun}
use Rattle.conode_compare_rules.specs.NmtFrames.{is_overdue}
use Rattle.conode_compare_rules.specs.Processes.{after_process, is_of_client, late_by_tpdo, moment_at, process_findings, sighted}
use Rattle.conode_compare_laws.specs.Identifiers.{AreElsewhere, IsElsewhere}
use Rattle.conode_compare_laws.specs.NamedTpdos.{AreNoSdoSyncs, IsNoSdoSync, NamesNoTpdo}
use Rattle.conode_compare_laws.specs.Recordings.{Recorded, Stamped, frame_of, heard_from, recording, stamped}
use Rattle.conode_compare_laws.specs.TpdoDifferences.{tpdo_differences}
use Rattle.conode_compare_laws.specs.TpdoFrames.{IsNoTpdo, is_followed}
use Rattle.conode_compare_laws.specs.TpdoParameters.{AllKeepTpdos, AreTpdosOf, KeepsTpdos}
use Rattle.conode_compare_laws.proofs.Heard.{of_device}
use Rattle.conode_compare_laws.proofs.NamedKeys.{first_of, last_of}
use Rattle.conode_compare_laws.proofs.Runs.{AllRun}
use Rattle.conode_compare_laws.proofs.TpdoDue.{number_kept}
use Rattle.conode_compare_laws.proofs.TpdoInputs.{AllInputs, AreClear}
use Rattle.conode_compare_laws.proofs.TpdoNames.{AllNameNone}
use Rattle.conode_compare_laws.proofs.TpdoOthers.{Holds, IsKept, IsNewest, Knows, Passes, all_fine, begun_kept, begun_newest, either_kept, fresh, one, others, overdue_fine, sighted_none, unseen}
use Rattle.conode_compare_laws.proofs.TpdoParts.{came_other, weaken}
use Rattle.conode_compare_laws.proofs.TpdoTurns.{IsSync, is_sync_turn, no_sync_turn, sync_or}

-- ---- a SYNC to compare

-- what holds before a SYNC, and after it, where compare knows its identifier and where it doesn't
pub record Syncs (facts : Pdos) (I J : Pdos → Type 0) : Type 0 where
  pub after : IsKept facts J
  pub unknown : (pdos : Pdos) → pdos.sync ≡ None → I pdos → J pdos
  pub comes : (pdos : Pdos) (length : ℕ) → I pdos → J (synced pdos length)

process_kind : (node : ℕ) (frame : FrameContent) → (frame.id == 0) ≡ false → (frame.id == 0x80 + node) ≡ false → (frame.id == 0x580 + node) ≡ false → (frame.id == 0x600 + node) ≡ false → (frame.id == 0x700 + node) ≡ false
    → data_kind node frame ≡ Process frame.id (length_of frame)
process_kind node frame a b c d e = rw (a, b, c, d, e) refl

known_sync : (facts pdos : Pdos) (id : ℕ) → Knows facts pdos → IfSome facts.sync (λ known. known ≡ id) → (pdos.sync ≡ None) ⊎ (is_id pdos.sync id ≡ true)
known_sync facts pdos id knows same = by facts.sync knows.sync same
  where
    by : (known : Option ℕ) → (pdos.sync ≡ None) ⊎ (pdos.sync ≡ known) → IfSome known (λ n. n ≡ id) → (pdos.sync ≡ None) ⊎ (is_id pdos.sync id ≡ true)
    by known (inl none) h = inl none
    by None (inr none) h = inl none
    by (Some n) (inr is) h = inr (ap (λ o. is_id o id) is ∙ eq-eqb n id h)

never_known : (facts pdos : Pdos) → facts.sync ≡ None → Knows facts pdos → pdos.sync ≡ None
never_known facts pdos none knows = elim knows.sync [ inl is ↦ is | inr same ↦ same ∙ none ]

module _ (is : Deviation → Bool) (I J : Pdos → Type 0) (subject : Subject) (rows : List Row) (kept : IsKept subject.facts.pdos I) (syncs : Syncs subject.facts.pdos I J) where
  abbrev facts : Pdos
  facts = subject.facts.pdos

  synced_holds : (pdos : Pdos) (moment : Judged) (id length : ℕ) → is_followed facts id ≡ false → (pdos.sync ≡ None) ⊎ (is_id pdos.sync id ≡ true) → I pdos → J (framed pdos moment id length)
  unfolding framed
  synced_holds pdos moment id length off (inl none) h = syncs.after.other pdos moment id length off (syncs.unknown pdos none h)
  synced_holds pdos moment id length off (inr here) h = rw here (syncs.comes pdos length h)

  sync_passes : (p : Progress) (micros id length : ℕ) → IsNewest micros p → is_followed facts id ≡ false → IfSome facts.sync (λ known. known ≡ id) → I p.pdos → Passes is J subject rows p micros (Process id length)
  unfolding process_findings after_process
  sync_passes p micros id length new off same h =
      let knows : Knows facts p.pdos = kept.knows p.pdos h in
      record {
        none = sighted_none is (late_by_tpdo subject p micros id length) id length (sighted subject p micros id length)
            (overdue_fine is (is_overdue subject p) (sighting (moment_at subject p micros) p.pdos id length)
            (all_fine is (moment_at subject p micros) p.pdos id length (unseen is (moment_at subject p micros) facts p.pdos id length knows off)));
        after = record {
          fresh = fresh micros p new;
          kept = either_kept J (is_of_client subject id) _ _ syncs.after.unknown (synced_holds p.pdos (moment_at subject p micros) id length off (known_sync facts p.pdos id knows same) h);
        };
      }

  sync_comes : (micros : ℕ) (frame : FrameContent) (p : Progress) → data_kind subject.node frame ≡ Process frame.id (length_of frame) → NamesNoTpdo subject.node frame → is_followed facts frame.id ≡ false → IfSome facts.sync (λ known. known ≡ frame.id)
      → Holds I p → AllRun (tpdo_differences is) subject rows micros p (frame ∷ []) (Holds J)
  sync_comes micros frame p kind names off same h =
      one is J subject rows micros p frame (Process frame.id (length_of frame)) kind names h.opened
      (sync_passes (begun subject p micros) micros frame.id (length_of frame) (begun_newest subject p micros h.fresh) off same (begun_kept subject I p micros kept h.kept))

  -- a frame that is a SYNC to the device
  framed_sync : (micros : ℕ) (frame : FrameContent) (p : Progress) (sync : Option ℕ) → facts.sync ≡ sync → IfSome sync (λ known. known ≡ frame.id) → (frame.id == 0) ≡ false → frame.id ≢ 0x700 + subject.node → is_followed facts frame.id ≡ false
      → frame.id ≢ 0x80 + subject.node → NamesNoTpdo subject.node frame → IsNoSdoSync facts subject.node frame → Holds I p → AllRun (tpdo_differences is) subject rows micros p (frame ∷ []) (Holds J)
  framed_sync micros frame p None none same command control foreign emergency names apart h =
      weaken (tpdo_differences is) subject rows micros (frame ∷ []) p (Holds I) (Holds J)
      (λ q g. record { fresh = g.fresh; kept = syncs.unknown q.pdos (never_known facts q.pdos none (kept.knows q.pdos g.kept)) g.kept; opened = g.opened })
      (others is I subject rows micros (frame ∷ []) p kept ((control, foreign, names), tt) h)
  framed_sync micros frame p (Some known) known_is same command control foreign emergency names apart h =
      let node : ℕ = subject.node in
      let sdo : (frame.id ≢ 0x580 + node) × (frame.id ≢ 0x600 + node) = apart (ap (λ o. is_id o frame.id) known_is ∙ eq-eqb known frame.id same) in
      sync_comes micros frame p
      (process_kind node frame command (ne_eqb frame.id (0x80 + node) emergency) (ne_eqb frame.id (0x580 + node) sdo.0) (ne_eqb frame.id (0x600 + node) sdo.1) (ne_eqb frame.id (0x700 + node) control))
      names foreign (subst (λ o. IfSome o (λ n. n ≡ frame.id)) (sym known_is) same) h

-- ---- the frame of an input

-- what the laws of SYNC ask of an input
pub record IsMet (pdos : Pdos) (k : Constants) (before : Inputs) (s : Stamped) : Type 0 where
  pub clear : AreClear pdos k before s
  pub emergency : IsElsewhere (0x80 + k.description.node) s.input
  pub apart : AllByRecursion (IsNoSdoSync pdos k.description.node) (frame_of s.input)
  pub keeps : KeepsTpdos k (moment k (moments k before) s.input)
  pub sync : number_at (contents_of k before) sync_key ≡ number_at k.start sync_key

sent_id : (known : Option ℕ) (word id : ℕ) → IfSome known (λ n. identifier_of word ≡ n) → identifier_of word ≡ id → IfSome known (λ n. n ≡ id)
sent_id None word id h is = tt
sent_id (Some n) word id h is = sym h ∙ is

came_sync : (is : Deviation → Bool) (I J : Pdos → Type 0) (k : Constants) (subject : Subject) (rows : List Row) (before : Inputs) (s : Stamped) (p : Progress) → IsKept subject.facts.pdos I → Syncs subject.facts.pdos I J → AreTpdosOf k subject.facts.pdos
    → IsMet subject.facts.pdos k before s → AllNameNone k.description.node (frame_of s.input) → IsSync (contents_of k before) s.input → Holds I p → AllRun (tpdo_differences is) (of_device k subject) rows s.micros p (frame_of s.input) (Holds J)
came_sync is I J k subject rows before s p kept syncs of met none here h = by s.input met.clear.control met.clear.foreign met.emergency none met.apart here
  where
    node : ℕ
    node = k.description.node

    by : (input : InputView) → IsElsewhere (0x700 + node) input → IsNoTpdo subject.facts.pdos input → IsElsewhere (0x80 + node) input → AllNameNone node (frame_of input) → AllByRecursion (IsNoSdoSync subject.facts.pdos node) (frame_of input)
        → IsSync (contents_of k before) input
        → AllRun (tpdo_differences is) (of_device k subject) rows s.micros p (frame_of input) (Holds J)
    by (Framed frame) control foreign emergency names apart sync =
        let there : identifier_of (number_at (contents_of k before) sync_key) ≡ frame.id = eqb-true _ frame.id (and_parts _ _ sync.1).1 in
        let id : identifier_of (number_at k.start sync_key) ≡ frame.id = ap identifier_of (sym met.sync) ∙ there in
        framed_sync is I J (of_device k subject) rows kept syncs s.micros frame p subject.facts.pdos.sync refl (sent_id subject.facts.pdos.sync (number_at k.start sync_key) frame.id of.sync id)
        sync.0 control foreign emergency names.0 apart.0 h
    by Ticked control foreign emergency names apart sync = absurd sync
    by (Applied event) control foreign emergency names apart sync = absurd sync

-- whether it is a SYNC to the schedule
pub came_either : (is : Deviation → Bool) (I J : Pdos → Type 0) (k : Constants) (subject : Subject) (rows : List Row) (before : Inputs) (s : Stamped) (p : Progress) (turns : Bool) → is_sync_turn (turn_at (moment k (moments k before) s.input) (moments k before)) ≡ turns
    → IsKept subject.facts.pdos I → (turns ≡ true → Syncs subject.facts.pdos I J) → (turns ≡ false → (pdos : Pdos) → I pdos → J pdos) → AreTpdosOf k subject.facts.pdos → IsMet subject.facts.pdos k before s → AllNameNone k.description.node (frame_of s.input)
    → Holds I p → AllRun (tpdo_differences is) (of_device k subject) rows s.micros p (frame_of s.input) (Holds J)
came_either is I J k subject rows before s p false off kept syncs quiet of met none h =
    weaken (tpdo_differences is) (of_device k subject) rows s.micros (frame_of s.input) p (Holds I) (Holds J)
    (λ q g. record { fresh = g.fresh; kept = quiet refl q.pdos g.kept; opened = g.opened })
    (others is I (of_device k subject) rows s.micros (frame_of s.input) p kept (came_other subject.facts.pdos k.description.node s.input none met.clear.control met.clear.foreign) h)
came_either is I J k subject rows before s p true on kept syncs quiet of met none h =
    let m : Moment = moment k (moments k before) s.input in
    elim (sync_or k (moments k before) s.input) [
      | inl off ↦ absurd (let no : is_sync_turn (turn_at m (moments k before)) ≡ false = no_sync_turn m (moments k before) off in cc)
      | inr sync ↦ came_sync is I J k subject rows before s p kept (syncs refl) of met none sync h
    ]

-- ---- all inputs

unstamped_syncs : (pdos : Pdos) (node micros : ℕ) (frames : List FrameContent) → AreNoSdoSyncs pdos node (stamped micros frames) → AllByRecursion (IsNoSdoSync pdos node) frames
unstamped_syncs pdos node micros [] h = tt
unstamped_syncs pdos node micros (frame ∷ frames) h = (h.0, unstamped_syncs pdos node micros frames h.1)

pub syncs_later : (pdos : Pdos) (k : Constants) (inputs : List Stamped) → AreNoSdoSyncs pdos k.description.node (recording k inputs) → AreNoSdoSyncs pdos k.description.node (heard_from k [] inputs)
syncs_later pdos k [] apart = tt
syncs_later pdos k (s ∷ later) apart = apart.1

pub all_met : (pdos : Pdos) (k : Constants) (inputs : List Stamped) (before : Inputs) (last : ℕ) → AllInputs (λ b l s. AreClear pdos k b s) before last inputs → AreElsewhere (0x80 + k.description.node) inputs
    → AreNoSdoSyncs pdos k.description.node (heard_from k before inputs) → AllKeepTpdos k before inputs → number_at (contents_of k before) sync_key ≡ number_at k.start sync_key → AllInputs (λ b l s. IsMet pdos k b s) before last inputs
all_met pdos k [] before last clear emergency apart keeps sync = tt
all_met pdos k (s ∷ later) before last clear emergency apart keeps sync =
    let node : ℕ = k.description.node in
    let frames : List FrameContent = frame_of s.input ++ prescribed k before s.input in
    let rest : List Recorded = heard_from k (s.input ∷ before) later in
    let N : Recorded → Type 0 = λ r. IsNoSdoSync pdos node r.frame in (
      record {
        clear = clear.0;
        emergency = emergency.0;
        apart = first_of (IsNoSdoSync pdos node) (frame_of s.input) (prescribed k before s.input) (unstamped_syncs pdos node s.micros frames (first_of N (stamped s.micros frames) rest apart));
        keeps = keeps.0;
        sync = sync;
      },
      all_met pdos k later (s.input ∷ before) s.micros clear.1 emergency.1 (last_of N (stamped s.micros frames) rest apart) keeps.1 (number_kept k (moment k (moments k before) s.input) sync_key keeps.0 refl),
    )
