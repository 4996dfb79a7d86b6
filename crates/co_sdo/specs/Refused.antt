-- Why the dictionary refuses an upload, an initiate of a download, and its completion. Proofs here
-- don't unfold these definitions.
use Rattle.std.specs.Prelude.{ℕ, List, Option}
use Rattle.co_value.specs.declared.key.Key.{Key}
use Rattle.co_dict.specs.Rows.{Contents}
pub use Rattle.co_dict.specs.Rows.{capacity_at}
use Rattle.co_dict.specs.Stores.{Description}
use Rattle.co_dict.specs.ReadRefusals.{reading_refusal as read_refusal}
use Rattle.co_dict.specs.WriteRefusals.{initiate_refusal as write_refusal, writing_refusal}

-- why an entry can't be read
unfoldable pub reading_refusal : Description → Contents → Key → Option ℕ
reading_refusal d contents key = read_refusal d.rows contents key

-- why an entry can't be written, as far as initiate shows
unfoldable pub initiate_refusal : Description → Key → Option ℕ → Option ℕ
initiate_refusal d key indicated = write_refusal d.rows key indicated

-- why these bytes can't be written to an entry when the download completes
unfoldable pub completion_refusal : Description → Contents → Key → Option ℕ → List ℕ → Option ℕ
completion_refusal d contents key indicated bytes = writing_refusal d contents key indicated bytes
