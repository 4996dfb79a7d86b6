use Rattle.std.proofs.Common.{◌≡◌, ◌<◌, ℕ, Bool, length, get_or, map}
use Rattle.co_sheet_text_warnings.specs.declared.known_key.KnownKey.{KnownKey}
use Rattle.co_sheet_text_warnings.specs.Infos.{is_missing}
use Rattle.co_sheet_text_warnings.specs.Views.{key_view}
use Rattle.co_sheet_text_warnings.proofs.infos.note_missing.Given as goal

-- those before the place are noted
abbrev pub invariant-loop-place : goal.invariant-loop-place
invariant-loop-place l = record {
  room : length l.missing ≡ length l.required;
  noted : (j : ℕ) (known : KnownKey) (d : Bool) → j < l.place → get_or l.missing j d ≡ is_missing l.info (map key_view l.keys) (get_or l.required j known);
}
