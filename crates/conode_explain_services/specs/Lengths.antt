-- Frames whose number of bytes isn't that of their service (CiA 301, 7.2.4 to 7.2.8; CiA 305).
use Rattle.std.specs.Prelude.{ℕ, ◌%◌, ◌==◌, nat_lt, Bool, ◌&&◌, if◌then◌else◌, List, [], ◌++◌, codes, decimal, length, Option, Some, None, option_and_then}
use Rattle.co_frame.specs.FrameContent.{FrameContent}
use Rattle.conode_explain_services.specs.declared.lengths.Fixed.{Fixed}
use Rattle.conode_explain_services.specs.declared.lengths.Fixed.TheVariants.{Nmt, Sync, Emergency, Time, SdoAnswer, SdoRequest, ErrorControl, Lss}
use Rattle.conode_explain_services.specs.Nodes.{is_error_control_id}
use Rattle.conode_explain_services.specs.Reserved.{is_lss_id}

abbrev pub is_between : ℕ → ℕ → ℕ → Bool
is_between low high id = nat_lt low id && nat_lt id high

-- the service of an identifier that fixes the number of bytes (CiA 301, 7.3.3)
unfoldable pub fixed_at : ℕ → Option Fixed
fixed_at id =
    if id == 0x000 then Some Nmt
    else (if id == 0x080 then Some Sync
    else (if is_between 0x080 0x100 id then Some Emergency
    else (if id == 0x100 then Some Time
    else (if is_between 0x580 0x600 id then Some SdoAnswer
    else (if is_between 0x600 0x680 id then Some SdoRequest
    else (if is_error_control_id id then Some ErrorControl
    else (if is_lss_id id then Some Lss else None)))))))

-- so many bytes it may have
abbrev pub fits : Fixed → ℕ → Bool
fits Nmt count = count == 2
fits Sync count = nat_lt count 2
fits Emergency count = count == 8
fits Time count = count == 6
fits SdoAnswer count = count == 8
fits SdoRequest count = count == 8
fits ErrorControl count = count == 1
fits Lss count = count == 8

abbrev pub due_words : Fixed → List ℕ
due_words Nmt = codes " in place of 2)"
due_words Sync = codes " in place of 0 or 1)"
due_words Emergency = codes " in place of 8)"
due_words Time = codes " in place of 6)"
due_words SdoAnswer = codes " in place of 8)"
due_words SdoRequest = codes " in place of 8)"
due_words ErrorControl = codes " in place of 1)"
due_words Lss = codes " in place of 8)"

abbrev pub fixed_name : Fixed → List ℕ
fixed_name Nmt = codes "NMT"
fixed_name Sync = codes "SYNC"
fixed_name Emergency = codes "EMCY"
fixed_name Time = codes "TIME"
fixed_name SdoAnswer = codes "SDO answer"
fixed_name SdoRequest = codes "SDO request"
fixed_name ErrorControl = codes "error control"
fixed_name Lss = codes "LSS"

-- the node in the identifier, of a service of a node
abbrev pub node_words : Fixed → ℕ → List ℕ
node_words Nmt id = []
node_words Sync id = []
node_words Emergency id = codes " node " ++ decimal (id % 128)
node_words Time id = []
node_words SdoAnswer id = codes " node " ++ decimal (id % 128)
node_words SdoRequest id = codes " node " ++ decimal (id % 128)
node_words ErrorControl id = codes " node " ++ decimal (id % 128)
node_words Lss id = []

unfoldable pub odd_length : Fixed → ℕ → ℕ → List ℕ
odd_length fixed id count =
    fixed_name fixed ++ node_words fixed id ++ codes " (length " ++ decimal count ++ due_words fixed

-- what is said of such a frame
abbrev pub odd_by : ℕ → ℕ → Fixed → Option (List ℕ)
odd_by id count fixed = if fits fixed count then None else Some (odd_length fixed id count)

abbrev pub length_words : FrameContent → Option (List ℕ)
length_words frame = option_and_then (odd_by frame.id (length frame.bytes)) (fixed_at frame.id)
