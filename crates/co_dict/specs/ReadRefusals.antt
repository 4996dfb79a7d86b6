-- Why reading an entry is refused (CiA 301, 7.2.4.3.17).
use Rattle.std.specs.Prelude.{ℕ, Bool, true, false, Option, [], ◌∷◌}
use Rattle.co_value.specs.declared.key.Key.{Key}
use Rattle.co_profile.specs.declared.access.Access.{Access}
use Rattle.co_profile.specs.declared.access.Access.TheVariants.{Wo}
use Rattle.co_dict.specs.Rows.{Rows, Contents}
use Rattle.co_dict.specs.Refusals.{refused_if}
use Rattle.co_dict.specs.Objects.{entry_refusal}
use Rattle.co_dict.specs.ErrorField.{is_past_errors}
use Rattle.co_frame_aborts.specs.AbortCodes.{write_only, no_value}

-- an entry can't be read
abbrev pub is_write_only : Access → Bool
is_write_only Wo = true
is_write_only access = false

-- why reading is refused: the entry is absent; it is write only; it is an error that isn't there
abbrev pub reading_refusal : Rows → Contents → Key → Option ℕ
reading_refusal rows contents key = entry_refusal rows key (λ row.
    refused_if (is_write_only row.access) write_only
    ∷ refused_if (is_past_errors contents key) no_value
    ∷ [])
