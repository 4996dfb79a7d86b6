-- Byte 0 of what is written is 80h exactly for an abort.
use Rattle.std.proofs.Common.{◌≡◌, ℕ, ◌≤◌, Bool, true, false, Some, None, List, [], length, slice_index, eqb, refl, arith}
use Rattle.std.specs.Prelude.{◌↔◌, ◌≢◌}
use Rattle.std.proofs.lemmas.Bool.{eqb-true, and_parts}
use Rattle.std.proofs.lemmas.Bool.Decides.{nat_tests}
use Rattle.co_frame.specs.declared.block_segment.BlockSegment.{BlockSegment}
use Rattle.co_frame.specs.declared.sdo_request.ExpeditedData.TheVariants.{Indicated, NotIndicated}
use Rattle.co_frame.specs.declared.sdo_request.SdoRequest.{SdoRequest}
use Rattle.co_frame.specs.declared.sdo_request.SdoRequest.TheVariants as requests
use Rattle.co_frame.specs.declared.sdo_response.SdoResponse.{SdoResponse}
use Rattle.co_frame.specs.declared.sdo_response.SdoResponse.TheVariants as responses
use Rattle.co_frame.specs.BlockSegments.{IsBlockSegment, SpellsBlockSegment, block_segment_bytes, is_abort_in_sub_block}
use Rattle.co_frame.specs.SdoFields.{specifier, key_in}
use Rattle.co_frame.specs.SdoParts.{code_in}
use Rattle.co_frame.specs.SdoRequests.{request_in, request_bytes, IsAbortRequest}
use Rattle.co_frame.specs.SdoResponses.{response_in, response_bytes, IsAbortResponse}
use Rattle.co_frame.proofs.Requests.{spelled_request}
use Rattle.co_frame.proofs.Responses.{spelled_response}

pub request_aborts : (request : SdoRequest) → (slice_index (request_bytes request) 0 ≡ 0x80) ↔ IsAbortRequest request
request_aborts (requests.Abort key code) = (λ _. tt, λ _. refl)
request_aborts (requests.DownloadSegment true segment true) = (λ e. omega arith, λ h. absurd h)
request_aborts (requests.DownloadSegment true segment false) = (λ e. omega arith, λ h. absurd h)
request_aborts (requests.DownloadSegment false segment true) = (λ e. omega arith, λ h. absurd h)
request_aborts (requests.DownloadSegment false segment false) = (λ e. omega arith, λ h. absurd h)
request_aborts (requests.DownloadExpedited key (Indicated counted)) = (λ e. omega arith, λ h. absurd h)
request_aborts (requests.DownloadExpedited key (NotIndicated four)) = (λ e. omega arith, λ h. absurd h)
request_aborts (requests.DownloadInitiate key (Some size)) = (λ e. omega arith, λ h. absurd h)
request_aborts (requests.DownloadInitiate key None) = (λ e. omega arith, λ h. absurd h)
request_aborts (requests.UploadSegment true) = (λ e. omega arith, λ h. absurd h)
request_aborts (requests.UploadSegment false) = (λ e. omega arith, λ h. absurd h)
request_aborts (requests.BlockDownloadInitiate key (Some size)) = (λ e. omega arith, λ h. absurd h)
request_aborts (requests.BlockDownloadInitiate key None) = (λ e. omega arith, λ h. absurd h)
request_aborts other = (λ e. omega arith, λ h. absurd h)

pub response_aborts : (response : SdoResponse) → (slice_index (response_bytes response) 0 ≡ 0x80) ↔ IsAbortResponse response
response_aborts (responses.Abort key code) = (λ _. tt, λ _. refl)
response_aborts (responses.UploadSegment true segment true) = (λ e. omega arith, λ h. absurd h)
response_aborts (responses.UploadSegment true segment false) = (λ e. omega arith, λ h. absurd h)
response_aborts (responses.UploadSegment false segment true) = (λ e. omega arith, λ h. absurd h)
response_aborts (responses.UploadSegment false segment false) = (λ e. omega arith, λ h. absurd h)
response_aborts (responses.UploadExpedited key (Indicated counted)) = (λ e. omega arith, λ h. absurd h)
response_aborts (responses.UploadExpedited key (NotIndicated four)) = (λ e. omega arith, λ h. absurd h)
response_aborts (responses.UploadInitiated key (Some size)) = (λ e. omega arith, λ h. absurd h)
response_aborts (responses.UploadInitiated key None) = (λ e. omega arith, λ h. absurd h)
response_aborts (responses.DownloadSegmentDone true) = (λ e. omega arith, λ h. absurd h)
response_aborts (responses.DownloadSegmentDone false) = (λ e. omega arith, λ h. absurd h)
response_aborts (responses.BlockUploadInitiated key (Some size)) = (λ e. omega arith, λ h. absurd h)
response_aborts (responses.BlockUploadInitiated key None) = (λ e. omega arith, λ h. absurd h)
response_aborts other = (λ e. omega arith, λ h. absurd h)

-- no segment of a block transfer that can be spelled
not_an_abort : (last : Bool) (sequence : ℕ) → 1 ≤ sequence → sequence ≤ 127 → slice_index (block_segment_bytes (record { last = last; sequence = sequence; bytes = [] })) 0 ≢ 0x80
not_an_abort true sequence some few e = omega arith
not_an_abort false sequence some few e = omega arith

pub segment_never_aborts : (segment : BlockSegment) → IsBlockSegment segment → slice_index (block_segment_bytes segment) 0 ≢ 0x80
segment_never_aborts segment h = not_an_abort segment.last segment.sequence h.0 (omega (arith, h.1))

-- an abort inside a sub-block is no segment
pub abort_is_no_segment : (segment : BlockSegment) (bytes : List ℕ) → SpellsBlockSegment segment bytes → is_abort_in_sub_block bytes ≡ false
abort_is_no_segment segment bytes h =
    let other : eqb (slice_index bytes 0) 0x80 ≡ false = grind (arith, nat_tests) in
    rw (h.length, other) refl

-- the command specifier of 80h
long_and_four : (bytes : List ℕ) → is_abort_in_sub_block bytes ≡ true → (length bytes ≡ 8) × (specifier bytes ≡ 4)
long_and_four bytes h =
    let tests = and_parts (eqb (length bytes) 8) (eqb (slice_index bytes 0) 0x80) h in
    let first = eqb-true (slice_index bytes 0) 0x80 tests.1 in
    (eqb-true (length bytes) 8 tests.0, omega arith)

-- and outside of one it reads as an abort
pub request_reads : (bytes : List ℕ) → is_abort_in_sub_block bytes ≡ true → request_in bytes ≡ Some (requests.Abort (key_in bytes) (code_in bytes))
request_reads bytes h =
    let facts = long_and_four bytes h in
    spelled_request (requests.Abort (key_in bytes) (code_in bytes)) bytes (facts.0, (facts.1, (refl, refl)))

pub response_reads : (bytes : List ℕ) → is_abort_in_sub_block bytes ≡ true → response_in bytes ≡ Some (responses.Abort (key_in bytes) (code_in bytes))
response_reads bytes h =
    let facts = long_and_four bytes h in
    spelled_response (responses.Abort (key_in bytes) (code_in bytes)) bytes (facts.0, (facts.1, (refl, refl)))
