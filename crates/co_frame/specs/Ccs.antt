-- The client command specifiers, ccs, in bits 7 to 5 of a request's command byte
-- (CiA 301, 7.2.4.3).
use Rattle.std.specs.Prelude.{ℕ}

-- download SDO segment
abbrev pub download_segment : ℕ
download_segment = 0

-- initiate SDO download
abbrev pub initiate_download : ℕ
initiate_download = 1

-- initiate SDO upload
abbrev pub initiate_upload : ℕ
initiate_upload = 2

-- upload SDO segment
abbrev pub upload_segment : ℕ
upload_segment = 3

-- abort SDO transfer
abbrev pub abort : ℕ
abort = 4

-- SDO block upload: initiate, end, block upload and start by the subcommand
abbrev pub block_upload : ℕ
block_upload = 5

-- SDO block download: initiate and end by bit 0
abbrev pub block_download : ℕ
block_download = 6
