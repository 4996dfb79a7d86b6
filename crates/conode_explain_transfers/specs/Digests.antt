-- What is kept of the data of a transfer.
use Rattle.std.specs.Prelude.{ℕ, ◌+◌, ◌-◌, ◌^◌, min, List, [], ◌++◌, length, take, Option, Some, None}
use Rattle.conode_explain_transfers.specs.declared.digest.Digest.{Digest}
use Rattle.conode_explain_transfers.specs.Crc.{crc_from, crc_of}

-- how many bytes are kept
abbrev pub shown_bytes : ℕ
shown_bytes = 64

-- a count stays at 2^64 - 1
abbrev pub counted : ℕ → ℕ
counted count = min count (2 ^ 64 - 1)

-- of all the data: how many bytes there are, their CRC, and the first 64
abbrev pub digest_of : List ℕ → Digest
digest_of bytes = record { count = counted (length bytes); crc = crc_of bytes; first = record { items = take shown_bytes bytes } }

abbrev pub no_bytes : Digest
no_bytes = record { count = 0; crc = 0; first = record { items = [] } }

-- of data that goes on with these bytes
abbrev pub digest_with : Digest → List ℕ → Digest
digest_with digest bytes = record {
  count = counted (digest.count + length bytes);
  crc = crc_from digest.crc bytes;
  first = record { items = take shown_bytes (digest.first.items ++ bytes) };
}

-- and with what a frame takes, if it takes any
abbrev pub digest_taking : Digest → Option (List ℕ) → Digest
digest_taking digest None = digest
digest_taking digest (Some bytes) = digest_with digest bytes
