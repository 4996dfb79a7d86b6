-- Entries of UNSIGNED16 of a device that is built from a data sheet: they have two bytes throughout.
use Rattle.std.proofs.Common.{◌≡◌, ℕ, Bool, true, false, List, [], ◌∷◌, length, Option, Some, None, refl, sym, ◌∙◌, ◌⊎◌, inl, inr}
use Rattle.std.specs.Prelude.{is_some, unwrap_or}
use Rattle.std.specs.List.{All}
use Rattle.std.proofs.lemmas.Bool.{false≢true}
use Rattle.co_value.specs.declared.data_type.DataType.TheVariants.{Unsigned16}
use Rattle.co_value.specs.declared.key.Key.{Key}
use Rattle.co_profile.specs.FixedTypes.{fixed_type_of}
use Rattle.co_profile.specs.Keys.{emergency_inhibit_key, producer_key}
use Rattle.co_dict.specs.Rows.{Contents, Rows, number_at}
use Rattle.co_dict_build.specs.Built.{Plan}
use Rattle.co_node.specs.Built.{IsBuilt}
use Rattle.co_node_model.specs.Device.{contents_of}
use Rattle.co_node_model.specs.Inputs.{Inputs}
use Rattle.co_node_model.specs.Moments.{Constants}
use Rattle.co_sdo.specs.Uploads.{value_at}
use Rattle.co_sheet.specs.SheetLaws.{IsSheetRow}
use Rattle.conode_compare_laws.specs.Periods.{AllHaveInhibit, AllKeepPeriod}
use Rattle.conode_compare_laws.specs.Recordings.{Stamped}
use Rattle.conode_compare_laws.specs.ShownWords.{AllHavePeriodBytes, AllHaveWord}
use Rattle.conode_compare_laws.proofs.AlwaysFitted.{built_fitted, built_types}
use Rattle.conode_compare_laws.proofs.Fitting.{AreFitted, HaveTypes, bytes_wide, fixed_width, present}
use Rattle.conode_compare_laws.proofs.KeptEntries.{SetsPermitted}

-- two bytes, or none
abbrev IsWord : Key → Contents → Type 0
IsWord key contents = (length (value_at contents key) ≡ 0) ⊎ (length (value_at contents key) ≡ 2)

no_bytes : (o : Option (List ℕ)) → is_some o ≡ false → length (unwrap_or o []) ≡ 0
no_bytes None h = refl
no_bytes (Some bytes) h = absurd (false≢true (sym h))

is_word : (rows : Rows) (contents : Contents) (key : Key) → AreFitted rows contents → HaveTypes rows → fixed_type_of key ≡ Some Unsigned16 → IsWord key contents
is_word rows contents key fitted types fixed = by (is_some (rows key)) refl
  where
    by : (b : Bool) → is_some (rows key) ≡ b → IsWord key contents
    by true there = inr (bytes_wide rows contents key 2 fitted (fixed_width rows key Unsigned16 2 types fixed refl there))
    by false there = inl (no_bytes (contents key) (present rows contents key fitted ∙ there))

-- of a device that is built
module _ (permitted : SetsPermitted) (plan : Plan) (k : Constants) (is : IsBuilt plan k) (lawful : All IsSheetRow plan.rows) where
  each : (key : Key) → fixed_type_of key ≡ Some Unsigned16 → (inputs : Inputs) → IsWord key (contents_of k inputs)
  each key fixed inputs = is_word k.description.rows (contents_of k inputs) key (built_fitted permitted plan k is lawful inputs) (built_types plan k is lawful) fixed

  pub periods_held : (period : ℕ) (inputs : List Stamped) (before : Inputs) → number_at (contents_of k before) producer_key ≡ period → AllKeepPeriod period k before inputs → AllHaveWord producer_key period k before inputs
  periods_held period [] before number keep = tt
  periods_held period (s ∷ later) before number keep = (record { bytes = each producer_key refl before; number = number }, periods_held period later (s.input ∷ before) keep.0.number keep.1)

  pub bytes_held : (inputs : List Stamped) (before : Inputs) → AllHavePeriodBytes k before inputs
  bytes_held [] before = tt
  bytes_held (s ∷ later) before = (each producer_key refl before, bytes_held later (s.input ∷ before))

  pub inhibits_held : (inhibit : ℕ) (inputs : List Stamped) (before : Inputs) → number_at (contents_of k before) emergency_inhibit_key ≡ inhibit → AllHaveInhibit inhibit k before inputs
      → AllHaveWord emergency_inhibit_key inhibit k before inputs
  inhibits_held inhibit [] before number same = tt
  inhibits_held inhibit (s ∷ later) before number same = (record { bytes = each emergency_inhibit_key refl before; number = number }, inhibits_held inhibit later (s.input ∷ before) same.0 same.1)
