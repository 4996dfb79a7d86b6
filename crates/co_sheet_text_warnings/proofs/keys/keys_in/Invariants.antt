use Rattle.std.proofs.Common.{◌≡◌, ◌+◌, ◌++◌, drop, map}
use Rattle.std.specs.Prelude.{filter}
use Rattle.co_sheet_text_warnings.specs.Keys.{keys_from}
use Rattle.co_sheet_text_warnings.specs.KnownKeys.{is_telling, telling_keys}
use Rattle.co_sheet_text_warnings.specs.Lines.{numbered}
use Rattle.co_sheet_text_warnings.specs.Views.{key_view}
use Rattle.co_sheet_text_warnings.proofs.keys.keys_in.Given as goal

-- those so far, and after them those of the rest
abbrev pub invariant-loop-line : goal.invariant-loop-line
invariant-loop-line l = record {
  found : map key_view l.keys.items ++ filter is_telling (keys_from l.topic (numbered l.number (map (λ line. line.now) (drop l.line-index l.lines))))
      ≡ telling_keys (numbered 1 (map (λ line. line.now) l.lines));
  next : l.number ≡ l.line-index + 1;
}
