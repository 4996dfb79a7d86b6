use Rattle.std.proofs.Common.{[], Some, cond, refl, map}
use Rattle.co_sheet_text_warnings.specs.declared.keys.Topic.TheVariants.{FileInfo}
use Rattle.co_sheet_text_warnings.specs.declared.keys.WrittenKey.{WrittenKey}
use Rattle.co_sheet_text_warnings.specs.Infos.{is_key, key_at}
use Rattle.co_sheet_text_warnings.specs.Views.{key_view}
use Rattle.co_sheet_text_warnings.proofs.PieceLemmas.{search-end, search-turn}
use Rattle.co_sheet_text_warnings.proofs.infos.key_at.Goals.{else-is_info-via-then-is_info+else-same_name, else-is_info-via-else-is_info}
use Rattle.co_sheet_text_warnings.proofs.infos.key_at.Goals as goal

pub loop-key-preserved : goal.loop-key-preserved
loop-key-preserved c =
    let info = c.args.info in
    let known = c.args.known in
    let nothing : WrittenKey = record { topic = FileInfo; name = record { ref_ptr = (0, 0); now = [] }; value = record { ref_ptr = (0, 0); now = [] }; line = 0 } in
    search-turn (λ keys. key_at info (map key_view keys) known) (λ key. is_key info known (key_view key)) (λ key b rest. cond b (Some (key_view key)) rest) (λ key keys. refl) (λ key rest. refl)
    c.args.keys.now c.loop-key.key-index nothing _ c.loop-key-test.true
    (rw (← c.is_info.ensures) (elim c.else-is_info.branch [
      | else-is_info-via-then-is_info+else-same_name w ↦ rw (w.if-is_info.true, ← w.text.ensures, ← w.same_name.ensures) w.if-same_name.false
      | else-is_info-via-else-is_info w ↦ rw (w.if-is_info.false) refl
    ]))
    c.loop-key.invariant

pub returns : goal.returns
returns c = search-end (λ keys. key_at c.args.info (map key_view keys) c.args.known) c.args.keys.now c.loop-key.key-index _ c.loop-key-test.false c.loop-key.invariant
