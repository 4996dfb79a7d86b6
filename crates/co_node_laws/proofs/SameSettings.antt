-- What leaves the entries from 1004h to 1FFFh, those of TPDOs among them, as they are: errors and the data of RPDOs.
use Rattle.std.proofs.Common.{◌≡◌, ℕ, ◌≤◌, Bool, true, false, cond, eqb, leb, List, [], ◌∷◌, Option, refl, sym, ◌∙◌, arith}
use Rattle.std.specs.Prelude.{◌&&◌, nat_lt, is_some}
use Rattle.std.proofs.lemmas.Grind.{common_steps}
use Rattle.std.proofs.lemmas.Bool.Decides.{nat_tests}
use Rattle.co_value.specs.declared.key.Key.{Key}
use Rattle.co_value.specs.Keys.{same_key}
use Rattle.co_value.specs.Numbers.{low_bytes}
use Rattle.co_dict.specs.Rows.{Rows, Contents, written}
use Rattle.co_dict.specs.ErrorField.{error_key, error_room, moved_bytes, moved_down, pushed}
use Rattle.co_profile.specs.Keys.{error_register_key}
use Rattle.co_node_model.specs.declared.device_error.DeviceError.{DeviceError}
use Rattle.co_node_model.specs.Emergencies.{with_register, raised, all_raised}
use Rattle.co_node_model.specs.Mappings.{is_mapping_key, AgreeOnMappings}
use Rattle.co_node_laws.specs.Settings.{HasSameSettings}

pub same_none : (c : Contents) → HasSameSettings c c
same_none c = record { same = λ key low high. refl }

pub same_both : (a b c : Contents) → HasSameSettings a b → HasSameSettings b c → HasSameSettings a c
same_both a b c first next = record { same = λ key low high. first.same key low high ∙ next.same key low high }

pub written_other : (c : Contents) (key other : Key) (bytes : List ℕ) → same_key key other ≡ false → written c key bytes other ≡ c other
written_other c key other bytes differs = grind (arith, common_steps)

-- an entry outside was set
same_written : (c : Contents) (key : Key) (bytes : List ℕ) → ((other : Key) → 0x1004 ≤ other.index → other.index ≤ 0x1FFF → same_key key other ≡ false) → HasSameSettings c (written c key bytes)
same_written c key bytes outside = record { same = λ other low high. sym (written_other c key other bytes (outside other low high)) }

-- ---- errors

same_register_by : (rows : Rows) (register : ℕ) (c : Contents) (here : Bool) → is_some (rows error_register_key) ≡ here → HasSameSettings c (with_register rows register c)
same_register_by rows register c true is = rw is (same_written c error_register_key (low_bytes 1 register) (λ other low high. grind (arith, nat_tests)))
same_register_by rows register c false is = rw is (same_none c)

pub same_register : (rows : Rows) (register : ℕ) (c : Contents) → HasSameSettings c (with_register rows register c)
same_register rows register c = same_register_by rows register c (is_some (rows error_register_key)) refl

not_moved : (index low until : Bool) (moved held : Option (List ℕ)) → index ≡ false → held ≡ cond (index && low && until) moved held
not_moved false low until moved held is = refl
not_moved true low until moved held is = absurd (cc)

same_moved : (c : Contents) (first : List ℕ) (last : ℕ) → HasSameSettings c (moved_down c first last)
same_moved c first last = record { same = λ key low high. not_moved (eqb key.index 0x1003) (leb 1 key.sub) (leb key.sub last) (moved_bytes c first key.sub) (c key) (grind (arith, nat_tests)) }

same_pushed : (rows : Rows) (code : ℕ) (c : Contents) (room : Bool) → nat_lt 0 (error_room rows) ≡ room → HasSameSettings c (pushed rows code c)
same_pushed rows code c false is = rw is (same_none c)
same_pushed rows code c true is = rw is (same_both _ _ _ (same_moved c (low_bytes 4 code) (error_room rows)) (same_written _ (error_key 0) _ (λ other low high. grind (arith, nat_tests))))

pub same_raised : (rows : Rows) (error : DeviceError) (c : Contents) → HasSameSettings c (raised rows error c)
same_raised rows error c = same_both _ _ _ (same_register rows _ c) (same_pushed rows error.code (with_register rows _ c) _ refl)

pub same_all_raised : (rows : Rows) (errors : List DeviceError) (c : Contents) → HasSameSettings c (all_raised rows errors c)
same_all_raised rows [] c = same_none c
same_all_raised rows (error ∷ errors) c = same_both c (raised rows error c) _ (same_raised rows error c) (same_all_raised rows errors (raised rows error c))

-- ---- mapping parameters, 1600h to 17FFh and 1A00h to 1BFFh, are among them

pub from_1600 : (key : Key) → is_mapping_key key ≡ true → 0x1600 ≤ key.index
from_1600 key there = grind (arith, nat_tests)

pub to_1BFF : (key : Key) → is_mapping_key key ≡ true → key.index ≤ 0x1BFF
to_1BFF key there = grind (arith, nat_tests)

pub same_mappings : (c e : Contents) → HasSameSettings c e → AgreeOnMappings c e
same_mappings c e same key there =
    let low : 0x1600 ≤ key.index = from_1600 key there in
    let high : key.index ≤ 0x1BFF = to_1BFF key there in
    same.same key (omega arith) (omega arith)
