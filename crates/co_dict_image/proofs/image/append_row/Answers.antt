use Rattle.std.proofs.Common.{◌++◌, ◌∷◌, [], sym, ap, ◌∙◌}
use Rattle.co_dict_build.specs.ListedEntries.{ListedEntry}
use Rattle.co_dict_build.specs.StoredEntries.{entry_view}
use Rattle.co_dict_image.specs.Slots.{entries_in}
use Rattle.co_dict_image.proofs.Appends.{IsNext, entries_appended, lined_appended, all_bytes}
use Rattle.co_dict_image.proofs.image.append_row.Goals as goal

pub returns-clause-entries : goal.returns-clause-entries
returns-clause-entries c =
    let e = entry_view c.in_ok-entry.entry in
    let made = c.in_ok-entry.ensures in
    let next : IsNext c.args.bytes.now.items c.room.result.now c.new.result e = record {
      start = c.new.ensures.start ∙ c.len.ensures ∙ c.args.bytes.now.ok.0;
      key = c.new.ensures.key;
      row = c.new.ensures.row;
      size = c.new.ensures.size;
      initial_size = c.new.ensures.initial_size;
      room = c.room.ensures.len;
      front = c.room.ensures.front;
      initially = ap (λ (e : ListedEntry). e.initial) made ∙ sym (ap (λ (e : ListedEntry). e.bytes) made);
    } in
    entries_appended c.args.bytes.now.items c.room.result.now c.new.result e next _ c.args.slots.now.items _ c.in_ok-extend_from_slice.ensures.items c.in_ok-push.ensures.items c.requires.lined
    ∙ ap (λ (e : ListedEntry). entries_in c.args.bytes.now.items c.args.bytes.now.items c.args.slots.now.items ++ e ∷ []) made

pub returns-clause-lined : goal.returns-clause-lined
returns-clause-lined c =
    let e = entry_view c.in_ok-entry.entry in
    let made = c.in_ok-entry.ensures in
    let next : IsNext c.args.bytes.now.items c.room.result.now c.new.result e = record {
      start = c.new.ensures.start ∙ c.len.ensures ∙ c.args.bytes.now.ok.0;
      key = c.new.ensures.key;
      row = c.new.ensures.row;
      size = c.new.ensures.size;
      initial_size = c.new.ensures.initial_size;
      room = c.room.ensures.len;
      front = c.room.ensures.front;
      initially = ap (λ (e : ListedEntry). e.initial) made ∙ sym (ap (λ (e : ListedEntry). e.bytes) made);
    } in
    lined_appended c.args.bytes.now.items c.room.result.now c.new.result e next _ c.args.slots.now.items _ c.in_ok-extend_from_slice.ensures.items c.in_ok-push.ensures.items c.requires.lined

pub returns-clause-bytes : goal.returns-clause-bytes
returns-clause-bytes c = all_bytes _ c.type_inv.bytes
