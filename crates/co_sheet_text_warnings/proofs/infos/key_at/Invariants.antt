use Rattle.std.proofs.Common.{◌≡◌, drop, map}
use Rattle.co_sheet_text_warnings.specs.Infos.{key_at}
use Rattle.co_sheet_text_warnings.specs.Views.{key_view}
use Rattle.co_sheet_text_warnings.proofs.infos.key_at.Given as goal

-- what is found in the rest is found in all
abbrev pub invariant-loop-key : goal.invariant-loop-key
invariant-loop-key l = key_at l.info (map key_view (drop l.key-index l.keys)) l.known ≡ key_at l.info (map key_view l.keys) l.known
