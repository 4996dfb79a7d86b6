-- The subcommands of a block transfer, cs of a client and ss of a server (CiA 301, 7.2.4.3.9 to
-- 7.2.4.3.15).
use Rattle.std.specs.Prelude.{ℕ}

-- initiate the transfer
abbrev pub initiate : ℕ
initiate = 0

-- end the transfer
abbrev pub end : ℕ
end = 1

-- acknowledge a sub-block
abbrev pub acknowledge : ℕ
acknowledge = 2

-- start the upload
abbrev pub start : ℕ
start = 3
