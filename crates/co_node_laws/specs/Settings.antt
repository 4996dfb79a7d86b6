-- The entries that errors and the data of RPDOs never change.
use Rattle.std.specs.Prelude.{◌≡◌, ◌≤◌}
use Rattle.co_value.specs.declared.key.Key.{Key}
use Rattle.co_dict.specs.Rows.{Contents}

-- the entries from 1004h to 1FFFh are the same
pub record HasSameSettings (c e : Contents) : Type 0 where
  pub same : (key : Key) → 0x1004 ≤ key.index → key.index ≤ 0x1FFF → c key ≡ e key
