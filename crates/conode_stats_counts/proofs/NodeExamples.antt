-- What nodes show, evaluated.
use Rattle.std.proofs.Common.{ℕ, List, [], ◌∷◌, ◌≡◌, Some, None, true, false, refl}
use Rattle.conode_explain_transfers.specs.declared.ended.Ended.{Ended}
use Rattle.conode_explain_transfers.specs.declared.ended.Ending.{Ending}
use Rattle.conode_explain_transfers.specs.declared.ended.Ending.TheVariants.{Done, Irregular}
use Rattle.conode_explain_transfers.specs.declared.kinds.Direction.TheVariants.{Upload}
use Rattle.conode_record.specs.declared.content.Content.TheVariants.{Data, Remote}
use Rattle.conode_record.specs.declared.fields.Identifier.TheVariants.{Base, Extended}
use Rattle.conode_stats_counts.specs.declared.sdo_frame.SdoFrame.TheVariants.{Abort, Request, Response}
use Rattle.conode_stats_counts.specs.declared.sign.Sign.TheVariants.{Reset, Shows, Exchanges, Asks, Other}
use Rattle.conode_stats_counts.specs.declared.state.NmtState.TheVariants.{BootUp, PreOperational, Operational, Stopped, Unknown}
use Rattle.conode_stats_counts.specs.Nodes.{log_timed, log_with, sign_as, table}
use Rattle.conode_stats_counts.specs.ShownTimes.{time_by}
use Rattle.conode_stats_counts.specs.Heartbeats.{longest_answer, pending}
use Rattle.conode_stats_counts.specs.Restarts.{last_restart, restarts}
use Rattle.conode_stats_counts.specs.States.{NodeEvent, Commanded, Sent, Exchanged, Timed, Asked, boot_ups, is_commanded, newest, state_of, time_in}

-- ---- what a byte of error control shows (CiA 301, 7.2.8.3.2)

boot_up_byte : state_of 0x00 ≡ BootUp
boot_up_byte = refl

stopped_byte : state_of 0x04 ≡ Stopped
stopped_byte = refl

operational_byte : state_of 0x05 ≡ Operational
operational_byte = refl

pre_operational_byte : state_of 0x7F ≡ PreOperational
pre_operational_byte = refl

-- with the toggle bit of node guarding
toggled_stopped : state_of 0x84 ≡ Stopped
toggled_stopped = refl

toggled_pre_operational : state_of 0xFF ≡ PreOperational
toggled_pre_operational = refl

no_state : state_of 0x06 ≡ Unknown
no_state = refl

toggled_zero : state_of 0x80 ≡ Unknown
toggled_zero = refl

-- ---- what a frame shows

reset_node : sign_as (Base 0x000) (Data (0x81 ∷ 5 ∷ [])) ≡ Reset 5
reset_node = refl

reset_communication : sign_as (Base 0x000) (Data (0x82 ∷ 0 ∷ [])) ≡ Reset 0
reset_communication = refl

last_node : sign_as (Base 0x000) (Data (0x81 ∷ 127 ∷ [])) ≡ Reset 127
last_node = refl

no_node : sign_as (Base 0x000) (Data (0x81 ∷ 128 ∷ [])) ≡ Other
no_node = refl

pre_operational_command : sign_as (Base 0x000) (Data (0x80 ∷ 5 ∷ [])) ≡ Other
pre_operational_command = refl

another_command : sign_as (Base 0x000) (Data (0x83 ∷ 5 ∷ [])) ≡ Other
another_command = refl

-- in more than two bytes some devices take it, in fewer it has no node
longer_command : sign_as (Base 0x000) (Data (0x81 ∷ 5 ∷ 0 ∷ [])) ≡ Reset 5
longer_command = refl

longest_command : sign_as (Base 0x000) (Data (0x82 ∷ 0 ∷ 0 ∷ 0 ∷ 0 ∷ 0 ∷ 0 ∷ 0 ∷ [])) ≡ Reset 0
longest_command = refl

longer_to_no_node : sign_as (Base 0x000) (Data (0x81 ∷ 128 ∷ 0 ∷ [])) ≡ Other
longer_to_no_node = refl

longer_start : sign_as (Base 0x000) (Data (0x01 ∷ 5 ∷ 0 ∷ [])) ≡ Other
longer_start = refl

shorter_command : sign_as (Base 0x000) (Data (0x81 ∷ [])) ≡ Other
shorter_command = refl

first_control : sign_as (Base 0x701) (Data (0x05 ∷ [])) ≡ Shows 1 Operational false
first_control = refl

last_control : sign_as (Base 0x77F) (Data (0x00 ∷ [])) ≡ Shows 127 BootUp false
last_control = refl

-- bit 7 is the toggle bit
greatest_without_toggle : sign_as (Base 0x705) (Data (0x7F ∷ [])) ≡ Shows 5 PreOperational false
greatest_without_toggle = refl

least_with_toggle : sign_as (Base 0x705) (Data (0x80 ∷ [])) ≡ Shows 5 Unknown true
least_with_toggle = refl

before_control : sign_as (Base 0x700) (Data (0x05 ∷ [])) ≡ Other
before_control = refl

after_control : sign_as (Base 0x780) (Data (0x05 ∷ [])) ≡ Other
after_control = refl

longer_control : sign_as (Base 0x705) (Data (0x05 ∷ 0x00 ∷ [])) ≡ Other
longer_control = refl

first_guarding_request : sign_as (Base 0x701) (Remote 1) ≡ Asks 1
first_guarding_request = refl

last_guarding_request : sign_as (Base 0x77F) (Remote 0) ≡ Asks 127
last_guarding_request = refl

before_guarding_requests : sign_as (Base 0x700) (Remote 1) ≡ Other
before_guarding_requests = refl

after_guarding_requests : sign_as (Base 0x780) (Remote 1) ≡ Other
after_guarding_requests = refl

extended_guarding_request : sign_as (Extended 0x705) (Remote 1) ≡ Other
extended_guarding_request = refl

extended_control : sign_as (Extended 0x705) (Data (0x05 ∷ [])) ≡ Other
extended_control = refl

-- ---- SDO frames on default channels (CiA 301, 7.2.4.3)

downloads : sign_as (Base 0x605) (Data (0x2B ∷ 0x17 ∷ 0x10 ∷ 0x00 ∷ 0xF4 ∷ 0x01 ∷ 0 ∷ 0 ∷ [])) ≡ Exchanges 5 Request
downloads = refl

last_request : sign_as (Base 0x67F) (Data (0x40 ∷ 0x17 ∷ 0x10 ∷ 0x00 ∷ 0 ∷ 0 ∷ 0 ∷ 0 ∷ [])) ≡ Exchanges 127 Request
last_request = refl

client_aborts : sign_as (Base 0x605) (Data (0x80 ∷ 0x17 ∷ 0x10 ∷ 0x00 ∷ 0 ∷ 0 ∷ 4 ∷ 5 ∷ [])) ≡ Exchanges 5 Abort
client_aborts = refl

confirms : sign_as (Base 0x585) (Data (0x60 ∷ 0x17 ∷ 0x10 ∷ 0x00 ∷ 0 ∷ 0 ∷ 0 ∷ 0 ∷ [])) ≡ Exchanges 5 Response
confirms = refl

-- an abort of the server is a response
server_aborts : sign_as (Base 0x5FF) (Data (0x80 ∷ 0x17 ∷ 0x10 ∷ 0x00 ∷ 0x30 ∷ 0 ∷ 9 ∷ 6 ∷ [])) ≡ Exchanges 127 Response
server_aborts = refl

short_request : sign_as (Base 0x605) (Data (0x2B ∷ 0x17 ∷ 0x10 ∷ 0x00 ∷ 0xF4 ∷ 0x01 ∷ 0 ∷ [])) ≡ Other
short_request = refl

before_responses : sign_as (Base 0x580) (Data (0x60 ∷ 0x17 ∷ 0x10 ∷ 0x00 ∷ 0 ∷ 0 ∷ 0 ∷ 0 ∷ [])) ≡ Other
before_responses = refl

before_requests : sign_as (Base 0x600) (Data (0x2B ∷ 0x17 ∷ 0x10 ∷ 0x00 ∷ 0xF4 ∷ 0x01 ∷ 0 ∷ 0 ∷ [])) ≡ Other
before_requests = refl

after_requests : sign_as (Base 0x680) (Data (0x2B ∷ 0x17 ∷ 0x10 ∷ 0x00 ∷ 0xF4 ∷ 0x01 ∷ 0 ∷ 0 ∷ [])) ≡ Other
after_requests = refl

-- ---- to which nodes it matters

to_all : log_with 6 (Reset 0) 10 [] ≡ Commanded ∷ []
to_all = refl

to_it : log_with 6 (Reset 6) 10 [] ≡ Commanded ∷ []
to_it = refl

to_another : log_with 6 (Reset 7) 10 [] ≡ []
to_another = refl

of_another : log_with 6 (Shows 7 BootUp false) 10 [] ≡ []
of_another = refl

shown : log_with 6 (Shows 6 Operational true) 10 [] ≡ Sent Operational true 10 ∷ []
shown = refl

asked : log_with 6 (Asks 6) 10 [] ≡ Asked 10 ∷ []
asked = refl

asked_another : log_with 6 (Asks 7) 10 [] ≡ []
asked_another = refl

timed : log_timed 6 (Some (record { node = 6; direction = Upload; time = 500 })) 10 [] ≡ Timed Upload 500 10 ∷ []
timed = refl

timed_another : log_timed 6 (Some (record { node = 7; direction = Upload; time = 500 })) 10 [] ≡ []
timed_another = refl

-- ---- the producer heartbeat time in a transfer that ended

module _ (transfer : Ended) where
  abbrev ended : ℕ → ℕ → Ending → List ℕ → Ended
  ended index sub ending bytes =
      record transfer { key = record { index = index; sub = sub }; direction = Upload; ending = ending; first = record { items = bytes } }

  of_500 : time_by 5 (ended 0x1017 0 (Done false) (0xF4 ∷ 0x01 ∷ [])) ≡ Some (record { node = 5; direction = Upload; time = 500 })
  of_500 = refl

  -- an expedited transfer without a size has four bytes
  of_four_bytes : time_by 5 (ended 0x1017 0 (Done true) (0xF4 ∷ 0x01 ∷ 0 ∷ 0 ∷ [])) ≡ Some (record { node = 5; direction = Upload; time = 500 })
  of_four_bytes = refl

  of_one_byte : time_by 5 (ended 0x1017 0 (Done false) (0xF4 ∷ [])) ≡ None
  of_one_byte = refl

  of_sub_index : time_by 5 (ended 0x1017 1 (Done false) (0xF4 ∷ 0x01 ∷ [])) ≡ None
  of_sub_index = refl

  of_next_index : time_by 5 (ended 0x1018 0 (Done false) (0xF4 ∷ 0x01 ∷ [])) ≡ None
  of_next_index = refl

  with_frames_missing : time_by 5 (ended 0x1017 0 Irregular (0xF4 ∷ 0x01 ∷ [])) ≡ None
  with_frames_missing = refl

-- ---- times and restarts, the newest first

-- 20 µs after the boot-up message, 100 + 130 operational, 0 where a stamp steps back, 50 pre-operational
abbrev session : List NodeEvent
session = Sent Stopped false 330 ∷ Sent PreOperational false 280 ∷ Sent Operational false 290 ∷ Sent Operational false 160 ∷ Commanded ∷ Sent Operational false 60 ∷ Sent BootUp false 40 ∷ []

operational_time : time_in Operational session ≡ 230
unfolding time_in newest
operational_time = refl

pre_operational_time : time_in PreOperational session ≡ 50
unfolding time_in newest
pre_operational_time = refl

boot_up_time : time_in BootUp session ≡ 20
unfolding time_in newest
boot_up_time = refl

-- after frames with a number that no state has, 30 and 10 µs
unknown_time : time_in Unknown (Sent Operational false 90 ∷ Sent Unknown false 80 ∷ Sent Operational false 70 ∷ Sent Unknown false 40 ∷ []) ≡ 40
unfolding time_in newest
unknown_time = refl

-- after the last frame no time is counted
stopped_time : time_in Stopped session ≡ 0
unfolding time_in newest
stopped_time = refl

newest_of_session : newest (Commanded ∷ session) ≡ Some (record { state = Stopped; micros = 330 })
unfolding newest
newest_of_session = refl

-- the first frame of a recording is no restart
first_boot : restarts (Sent BootUp false 40 ∷ []) ≡ 0
unfolding restarts newest longest_answer is_commanded
first_boot = refl

-- nor is a boot-up after a command, with a heartbeat between them that was on its way
commanded_boot : restarts (Sent BootUp false 40 ∷ Sent Operational false 30 ∷ Commanded ∷ Sent Operational false 20 ∷ []) ≡ 0
unfolding restarts newest longest_answer is_commanded
commanded_boot = refl

-- nor are those after a command before the first frame
early_command : restarts (Sent BootUp false 40 ∷ Sent Operational false 30 ∷ Commanded ∷ []) ≡ 0
unfolding restarts newest longest_answer is_commanded
early_command = refl

-- one command is for one boot-up
second_boot : restarts (Sent BootUp false 50 ∷ Sent BootUp false 40 ∷ Commanded ∷ Sent Operational false 20 ∷ []) ≡ 1
unfolding restarts newest longest_answer is_commanded
second_boot = refl

-- a boot-up in the middle of a recording
restarted : restarts (Sent Operational false 60 ∷ Sent BootUp false 40 ∷ Sent Operational false 20 ∷ []) ≡ 1
unfolding restarts newest longest_answer is_commanded
restarted = refl

restarted_at : last_restart (Sent Operational false 60 ∷ Sent BootUp false 40 ∷ Sent Operational false 20 ∷ []) ≡ 40
unfolding last_restart newest longest_answer is_commanded
restarted_at = refl

-- the newer of two
restarted_again_at : last_restart (Sent BootUp false 70 ∷ Sent Operational false 60 ∷ Sent BootUp false 40 ∷ Sent Operational false 20 ∷ []) ≡ 70
unfolding last_restart newest longest_answer is_commanded
restarted_again_at = refl

-- of a node without heartbeats that answered a request before
restarted_server : restarts (Sent BootUp false 40 ∷ Exchanged Response 20 ∷ Exchanged Request 10 ∷ []) ≡ 1
unfolding restarts newest longest_answer pending is_commanded
restarted_server = refl

-- a guarding request shows nothing of the node
asked_before : restarts (Sent BootUp false 40 ∷ Asked 20 ∷ []) ≡ 0
unfolding restarts newest longest_answer is_commanded
asked_before = refl

-- one that didn't answer may have been switched on since
switched_on : restarts (Sent BootUp false 40 ∷ Exchanged Request 10 ∷ []) ≡ 0
unfolding restarts newest longest_answer pending is_commanded
switched_on = refl

booted_twice : boot_ups (Sent Operational false 60 ∷ Sent BootUp false 40 ∷ Commanded ∷ Sent BootUp false 20 ∷ []) ≡ 2
unfolding boot_ups
booted_twice = refl

-- ---- tables

three : table {A = ℕ} (λ n. 10) 5 3 ≡ 10 ∷ 10 ∷ 10 ∷ []
unfolding table
three = refl

from_five : table {A = ℕ} (λ n. n) 5 3 ≡ 5 ∷ 6 ∷ 7 ∷ []
unfolding table
from_five = refl
