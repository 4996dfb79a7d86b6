use Rattle.std.proofs.Common.{◌≡◌, ◌+◌, Some}
use Rattle.co_dict.specs.ErrorField.{moved_bytes, moved_down}
use Rattle.co_dict.proofs.error_field.move_down.Given as goal

-- so many errors have moved, and the next one to move is carried
abbrev pub invariant-loop-earlier : goal.invariant-loop-earlier
invariant-loop-earlier g l =
    let before = g.S.ObjectStore.contents l.initial.store in
    record {
      contents : g.S.ObjectStore.contents l.store ≡ moved_down before l.fn.first l.earlier;
      description : g.S.ObjectStore.description l.store ≡ g.S.ObjectStore.description l.initial.store;
      carried : moved_bytes before l.fn.first (l.earlier + 1) ≡ Some l.error;
    }
