-- What `explain` says in words of its own, evaluated: each text once, and both sides of each edge.
use Rattle.std.proofs.Common.{◌≡◌, ℕ, List, [], ◌∷◌, Option, Some, None, refl}
use Rattle.std.specs.Prelude.{codes}
use Rattle.std.specs.Fmt.{digits}
use Rattle.co_frame.specs.SdoRequests.{request_row_in}
use Rattle.co_frame.specs.SdoResponses.{response_row_in}
use Rattle.co_sheet_changes.specs.Names.{Names, name_of}
use Rattle.co_text.specs.Printed.{digits_text}
use Rattle.conode_decode.specs.Names.{name_text}
use Rattle.conode_explain.specs.OwnWords.{counted_text, own_words, service_to_all, sized_in, sized_text}
use Rattle.conode_explain.specs.Transfers.{service_text}

abbrev no_names : Names
no_names = record { sheet = None; only = None; originals = λ line. None }

abbrev said : ℕ → List ℕ → Option (List ℕ)
said id bytes = own_words no_names (record { id = id; bytes = bytes })

-- ---- requests

download : said 0x605 (0x21 ∷ 0x01 ∷ 0x20 ∷ 0x00 ∷ 0x0A ∷ 0x00 ∷ 0x00 ∷ 0x00 ∷ []) ≡ Some (codes "SDO request node 5 download 2001:00 10 bytes")
unfolding own_words sized_in sized_text counted_text service_text service_to_all name_text name_of digits digits_text request_row_in response_row_in
download = refl

one_byte : said 0x601 (0x21 ∷ 0x01 ∷ 0x20 ∷ 0x00 ∷ 0x01 ∷ 0x00 ∷ 0x00 ∷ 0x00 ∷ []) ≡ Some (codes "SDO request node 1 download 2001:00 1 byte")
unfolding own_words sized_in sized_text counted_text service_text service_to_all name_text name_of digits digits_text request_row_in response_row_in
one_byte = refl

-- its size isn't indicated
no_size : said 0x605 (0x20 ∷ 0x01 ∷ 0x20 ∷ 0x00 ∷ 0x0A ∷ 0x00 ∷ 0x00 ∷ 0x00 ∷ []) ≡ None
unfolding own_words sized_in sized_text counted_text service_text service_to_all name_text name_of digits digits_text request_row_in response_row_in
no_size = refl

expedited : said 0x605 (0x2B ∷ 0x17 ∷ 0x10 ∷ 0x00 ∷ 0xE8 ∷ 0x03 ∷ 0x00 ∷ 0x00 ∷ []) ≡ None
unfolding own_words sized_in sized_text counted_text service_text service_to_all name_text name_of digits digits_text request_row_in response_row_in
expedited = refl

block_download : said 0x67F (0xC2 ∷ 0x01 ∷ 0x20 ∷ 0x00 ∷ 0x0E ∷ 0x00 ∷ 0x00 ∷ 0x00 ∷ []) ≡ Some (codes "SDO request node 127 block download 2001:00 14 bytes")
unfolding own_words sized_in sized_text counted_text service_text service_to_all name_text name_of digits digits_text request_row_in response_row_in
block_download = refl

block_without_size : said 0x605 (0xC0 ∷ 0x01 ∷ 0x20 ∷ 0x00 ∷ 0x0E ∷ 0x00 ∷ 0x00 ∷ 0x00 ∷ []) ≡ None
unfolding own_words sized_in sized_text counted_text service_text service_to_all name_text name_of digits digits_text request_row_in response_row_in
block_without_size = refl

block_upload : said 0x605 (0xA4 ∷ 0x00 ∷ 0x21 ∷ 0x00 ∷ 0x7F ∷ 0x00 ∷ 0x00 ∷ 0x00 ∷ []) ≡ Some (codes "SDO request node 5 block upload 2100:00 block size 127")
unfolding own_words sized_in sized_text counted_text service_text service_to_all name_text name_of digits digits_text request_row_in response_row_in
block_upload = refl

client_acknowledges : said 0x605 (0xA2 ∷ 0x05 ∷ 0x7F ∷ 0x00 ∷ 0x00 ∷ 0x00 ∷ 0x00 ∷ 0x00 ∷ []) ≡ Some (codes "SDO request node 5 block ack 5 block size 127")
unfolding own_words sized_in sized_text counted_text service_text service_to_all name_text name_of digits digits_text request_row_in response_row_in
client_acknowledges = refl

upload : said 0x605 (0x40 ∷ 0x00 ∷ 0x21 ∷ 0x00 ∷ 0x00 ∷ 0x00 ∷ 0x00 ∷ 0x00 ∷ []) ≡ None
unfolding own_words sized_in sized_text counted_text service_text service_to_all name_text name_of digits digits_text request_row_in response_row_in
upload = refl

-- ---- answers

uploaded : said 0x585 (0x41 ∷ 0x08 ∷ 0x10 ∷ 0x00 ∷ 0x09 ∷ 0x00 ∷ 0x00 ∷ 0x00 ∷ []) ≡ Some (codes "SDO answer node 5 upload 1008:00 9 bytes")
unfolding own_words sized_in sized_text counted_text service_text service_to_all name_text name_of digits digits_text request_row_in response_row_in
uploaded = refl

uploaded_without_size : said 0x585 (0x40 ∷ 0x08 ∷ 0x10 ∷ 0x00 ∷ 0x00 ∷ 0x00 ∷ 0x00 ∷ 0x00 ∷ []) ≡ None
unfolding own_words sized_in sized_text counted_text service_text service_to_all name_text name_of digits digits_text request_row_in response_row_in
uploaded_without_size = refl

block_uploaded : said 0x5FF (0xC6 ∷ 0x00 ∷ 0x21 ∷ 0x00 ∷ 0x79 ∷ 0x03 ∷ 0x00 ∷ 0x00 ∷ []) ≡ Some (codes "SDO answer node 127 block upload 2100:00 889 bytes")
unfolding own_words sized_in sized_text counted_text service_text service_to_all name_text name_of digits digits_text request_row_in response_row_in
block_uploaded = refl

block_downloaded : said 0x585 (0xA4 ∷ 0x01 ∷ 0x20 ∷ 0x00 ∷ 0x15 ∷ 0x00 ∷ 0x00 ∷ 0x00 ∷ []) ≡ Some (codes "SDO answer node 5 block download 2001:00 block size 21")
unfolding own_words sized_in sized_text counted_text service_text service_to_all name_text name_of digits digits_text request_row_in response_row_in
block_downloaded = refl

server_acknowledges : said 0x585 (0xA2 ∷ 0x02 ∷ 0x01 ∷ 0x00 ∷ 0x00 ∷ 0x00 ∷ 0x00 ∷ 0x00 ∷ []) ≡ Some (codes "SDO answer node 5 block ack 2 block size 1")
unfolding own_words sized_in sized_text counted_text service_text service_to_all name_text name_of digits digits_text request_row_in response_row_in
server_acknowledges = refl

block_done : said 0x585 (0xA1 ∷ 0x00 ∷ 0x00 ∷ 0x00 ∷ 0x00 ∷ 0x00 ∷ 0x00 ∷ 0x00 ∷ []) ≡ None
unfolding own_words sized_in sized_text counted_text service_text service_to_all name_text name_of digits digits_text request_row_in response_row_in
block_done = refl

-- ---- identifiers beside those of the default channels, and other lengths

before_answers : said 0x580 (0x41 ∷ 0x08 ∷ 0x10 ∷ 0x00 ∷ 0x09 ∷ 0x00 ∷ 0x00 ∷ 0x00 ∷ []) ≡ None
unfolding own_words sized_in sized_text counted_text service_text service_to_all name_text name_of digits digits_text request_row_in response_row_in
before_answers = refl

before_requests : said 0x600 (0x21 ∷ 0x01 ∷ 0x20 ∷ 0x00 ∷ 0x0A ∷ 0x00 ∷ 0x00 ∷ 0x00 ∷ []) ≡ None
unfolding own_words sized_in sized_text counted_text service_text service_to_all name_text name_of digits digits_text request_row_in response_row_in
before_requests = refl

after_requests : said 0x680 (0x21 ∷ 0x01 ∷ 0x20 ∷ 0x00 ∷ 0x0A ∷ 0x00 ∷ 0x00 ∷ 0x00 ∷ []) ≡ None
unfolding own_words sized_in sized_text counted_text service_text service_to_all name_text name_of digits digits_text request_row_in response_row_in
after_requests = refl

seven_bytes : said 0x605 (0x21 ∷ 0x01 ∷ 0x20 ∷ 0x00 ∷ 0x0A ∷ 0x00 ∷ 0x00 ∷ []) ≡ None
unfolding own_words sized_in sized_text counted_text service_text service_to_all name_text name_of digits digits_text request_row_in response_row_in
seven_bytes = refl

-- ---- commands to all nodes, and to one

start : said 0x000 (0x01 ∷ 0x00 ∷ []) ≡ Some (codes "NMT start all nodes")
unfolding own_words sized_in sized_text counted_text service_text service_to_all name_text name_of digits digits_text request_row_in response_row_in
start = refl

stop : said 0x000 (0x02 ∷ 0x00 ∷ []) ≡ Some (codes "NMT stop all nodes")
unfolding own_words sized_in sized_text counted_text service_text service_to_all name_text name_of digits digits_text request_row_in response_row_in
stop = refl

enter_pre_operational : said 0x000 (0x80 ∷ 0x00 ∷ []) ≡ Some (codes "NMT pre-operational all nodes")
unfolding own_words sized_in sized_text counted_text service_text service_to_all name_text name_of digits digits_text request_row_in response_row_in
enter_pre_operational = refl

reset_nodes : said 0x000 (0x81 ∷ 0x00 ∷ []) ≡ Some (codes "NMT reset-node all nodes")
unfolding own_words sized_in sized_text counted_text service_text service_to_all name_text name_of digits digits_text request_row_in response_row_in
reset_nodes = refl

reset_communications : said 0x000 (0x82 ∷ 0x00 ∷ []) ≡ Some (codes "NMT reset-communication all nodes")
unfolding own_words sized_in sized_text counted_text service_text service_to_all name_text name_of digits digits_text request_row_in response_row_in
reset_communications = refl

start_one : said 0x000 (0x01 ∷ 0x01 ∷ []) ≡ None
unfolding own_words sized_in sized_text counted_text service_text service_to_all name_text name_of digits digits_text request_row_in response_row_in
start_one = refl

no_command : said 0x000 (0x03 ∷ 0x00 ∷ []) ≡ None
unfolding own_words sized_in sized_text counted_text service_text service_to_all name_text name_of digits digits_text request_row_in response_row_in
no_command = refl

longer_command : said 0x000 (0x01 ∷ 0x00 ∷ 0x00 ∷ []) ≡ None
unfolding own_words sized_in sized_text counted_text service_text service_to_all name_text name_of digits digits_text request_row_in response_row_in
longer_command = refl
