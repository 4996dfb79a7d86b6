use Rattle.std.proofs.Common.{◌≡◌, ◌<◌, ◌≤◌, ◌+◌, Bool, List, length, get_or, sym, ap, ◌∙◌, subst, arith}
use Rattle.co_dict.specs.Rows.{is_in_area}
use Rattle.co_dict_build.specs.ListedEntries.{ListedEntry, contents_in, description_in}
use Rattle.co_dict_build.proofs.Changes.{AreResetUpTo, reset_all, fixed_parts, fixed_parts-reset, contents_in-reset, same_description}
use Rattle.co_dict_image.specs.declared.image_store.ImageStore.{ImageStore}
use Rattle.co_dict_image.specs.Slots.{entry_in}
use Rattle.co_dict_image.specs.Images.{entries_of}
use Rattle.co_dict_image.proofs.Entries.{entries_len, slots_len, reset_restored, reset_passed}
use Rattle.co_dict_image.proofs.Puts.{entry_at_slot}
use Rattle.co_dict_image.proofs.image_store.ImageStoreObjectStore.reset.Goals.{then-contains, else-contains}
use Rattle.co_dict_image.proofs.image_store.ImageStoreObjectStore.reset.Goals as goal

pub loop-at-preserved : goal.loop-at-preserved
loop-at-preserved c =
    let old = c.args.self.now in
    let now = c.loop-at.self in
    let at = c.loop-at.at in
    let slot = c.index.result.now in
    let d : ListedEntry = entry_in now.values.items.items now.initial.items.items slot in
    let here : is_in_area c.args.area (get_or (entries_of now) at d).key ≡ c.contains.result =
    ap (λ (e : ListedEntry). is_in_area c.args.area e.key) (sym (entry_at_slot now.values.items.items now.initial.items.items now.slots.items.items at slot c.index.ensures)) ∙ sym c.contains.ensures in
    let many = entries_len now.values.items.items now.initial.items.items now.slots.items.items in
    let within : at < length (entries_of now) = omega (arith, c.loop-at-test.true, c.len-at-end.ensures, old.slots.items.ok.0, c.loop-at.invariant.slots, many) in
    elim c.if-contains.branch [
      | then-contains w ↦ record {
        up_to = subst (λ (s : ImageStore). AreResetUpTo c.args.area (entries_of old) (entries_of s) (at + 1)) (sym w.self-is)
            (reset_restored c.args.area (entries_of old) (entries_of now) (entries_of w.restore.new.self) at d within c.loop-at.invariant.up_to (here ∙ w.if-contains.true) (w.restore.ensures.entries d));
        node = ap (λ (s : ImageStore). s.node_id) w.self-is ∙ w.restore.ensures.node ∙ c.loop-at.invariant.node;
        dummies = ap (λ (s : ImageStore). s.dummies) w.self-is ∙ w.restore.ensures.dummies ∙ c.loop-at.invariant.dummies;
        slots = ap (λ (s : ImageStore). length s.slots.items.items) w.self-is ∙ slots_len w.restore.new.self.slots.items.items now.slots.items.items w.restore.ensures.keys ∙ c.loop-at.invariant.slots;
      }
      | else-contains w ↦ record {
        up_to = subst (λ (s : ImageStore). AreResetUpTo c.args.area (entries_of old) (entries_of s) (at + 1)) (sym w.self-is)
            (reset_passed c.args.area (entries_of old) (entries_of now) at d within c.loop-at.invariant.up_to (here ∙ w.if-contains.false));
        node = ap (λ (s : ImageStore). s.node_id) w.self-is ∙ c.loop-at.invariant.node;
        dummies = ap (λ (s : ImageStore). s.dummies) w.self-is ∙ c.loop-at.invariant.dummies;
        slots = ap (λ (s : ImageStore). length s.slots.items.items) w.self-is ∙ c.loop-at.invariant.slots;
      }
    ]

pub returns-clause-contents : goal.returns-clause-contents
returns-clause-contents c =
    let old = c.args.self.now in
    let now = c.loop-at.self in
    let before = entries_len old.values.items.items old.initial.items.items old.slots.items.items in
    let after = entries_len now.values.items.items now.initial.items.items now.slots.items.items in
    let same : length (entries_of now) ≡ length (entries_of old) = after ∙ c.loop-at.invariant.slots ∙ sym before in
    let past : length (entries_of old) ≤ c.loop-at.at = omega (arith, c.loop-at-test.false, c.len-at-end.ensures, old.slots.items.ok.0, before) in
    ap contents_in (reset_all c.args.area (entries_of old) (entries_of now) c.loop-at.at same past c.loop-at.invariant.up_to) ∙ contents_in-reset c.args.area (entries_of old)

pub returns-clause-description : goal.returns-clause-description
returns-clause-description c =
    let old = c.args.self.now in
    let now = c.loop-at.self in
    let before = entries_len old.values.items.items old.initial.items.items old.slots.items.items in
    let after = entries_len now.values.items.items now.initial.items.items now.slots.items.items in
    let same : length (entries_of now) ≡ length (entries_of old) = after ∙ c.loop-at.invariant.slots ∙ sym before in
    let past : length (entries_of old) ≤ c.loop-at.at = omega (arith, c.loop-at-test.false, c.len-at-end.ensures, old.slots.items.ok.0, before) in
    let reset = reset_all c.args.area (entries_of old) (entries_of now) c.loop-at.at same past c.loop-at.invariant.up_to in
    ap (λ node. description_in node now.dummies (entries_of now)) c.loop-at.invariant.node
    ∙ ap (λ (dummies : List Bool). description_in old.node_id dummies (entries_of now)) c.loop-at.invariant.dummies
    ∙ same_description old.node_id old.dummies (entries_of old) (entries_of now) (ap fixed_parts reset ∙ fixed_parts-reset c.args.area (entries_of old))
