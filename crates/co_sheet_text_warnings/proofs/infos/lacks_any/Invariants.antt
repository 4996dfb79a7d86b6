use Rattle.std.proofs.Common.{◌≡◌, drop, map}
use Rattle.co_sheet_text_warnings.specs.Infos.{lacks_any}
use Rattle.co_sheet_text_warnings.specs.Views.{key_view}
use Rattle.co_sheet_text_warnings.proofs.infos.lacks_any.Given as goal

-- what the rest lacks is what is lacking
abbrev pub invariant-loop-known : goal.invariant-loop-known
invariant-loop-known l = lacks_any l.info (map key_view l.keys) (drop l.known-index l.required) ≡ lacks_any l.info (map key_view l.keys) l.required
