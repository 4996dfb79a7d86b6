-- The server command specifiers, scs, in bits 7 to 5 of a response's command byte
-- (CiA 301, 7.2.4.3).
use Rattle.std.specs.Prelude.{ℕ}

-- upload SDO segment
abbrev pub upload_segment : ℕ
upload_segment = 0

-- download SDO segment
abbrev pub download_segment : ℕ
download_segment = 1

-- initiate SDO upload
abbrev pub initiate_upload : ℕ
initiate_upload = 2

-- initiate SDO download
abbrev pub initiate_download : ℕ
initiate_download = 3

-- abort SDO transfer
abbrev pub abort : ℕ
abort = 4

-- SDO block download: initiate, end and block download by the subcommand
abbrev pub block_download : ℕ
block_download = 5

-- SDO block upload: initiate and end by bit 0
abbrev pub block_upload : ℕ
block_upload = 6
