-- What is read of a response's bytes is what they spell, and nothing else.
use Rattle.std.proofs.Common.{◌≡◌, ℕ, Some, None, IfSome, List, length, refl, sym, ap, eqb}
use Rattle.std.proofs.lemmas.Bool.{eqb-true}
use Rattle.co_frame.specs.declared.sdo_request.ExpeditedData.TheVariants.{Indicated, NotIndicated}
use Rattle.co_frame.specs.declared.sdo_response.SdoResponse.{SdoResponse}
use Rattle.co_frame.specs.declared.sdo_response.SdoResponse.TheVariants.{DownloadDone, DownloadSegmentDone, UploadExpedited, UploadInitiated, UploadSegment, Abort, BlockDownloadInitiated, BlockDownloadDone, BlockDownloadAcknowledge, BlockUploadInitiated, BlockUploadEnd}
use Rattle.co_frame.specs.SdoFields.{specifier, subcommand, has_bit, key_in}
use Rattle.co_frame.specs.SdoResponses.{SpellsSdoResponse, response_row_in, response_in}
use Rattle.co_frame.proofs.Branches.{branches, some_branches}
use Rattle.co_frame.proofs.Parts.{expedited_spelled, initiate_spelled, block_initiate_spelled}

-- ---- what is spelled is read

pub spelled_response : (response : SdoResponse) (bytes : List ℕ) → SpellsSdoResponse response bytes → response_in bytes ≡ Some response
unfolding response_row_in
spelled_response (UploadSegment toggle segment last) bytes h =
    rw (h.0, h.1.0, h.1.1.0, h.1.1.2) (ap (λ (xs : List ℕ). Some (UploadSegment (has_bit 4 bytes) (record { items = xs }) (has_bit 0 bytes))) (sym h.1.1.1))
spelled_response (DownloadSegmentDone toggle) bytes h = rw (h.0, h.1.0, h.1.1) refl
spelled_response (UploadExpedited key (Indicated counted)) bytes h =
    rw (h.0, h.1.0, h.1.1.0, h.1.1.1, h.1.1.2) (ap (λ (xs : List ℕ). Some (UploadExpedited (key_in bytes) (Indicated (record { items = xs })))) (sym h.1.1.3))
spelled_response (UploadExpedited key (NotIndicated four)) bytes h = rw (h.0, h.1.0, h.1.1.0, h.1.1.1, h.1.1.2, h.1.1.3) refl
spelled_response (UploadInitiated key (Some size)) bytes h = rw (h.0, h.1.0, h.1.1.0, h.1.1.1, h.1.1.2, h.1.1.3) refl
spelled_response (UploadInitiated key None) bytes h = rw (h.0, h.1.0, h.1.1.0, h.1.1.1, h.1.1.2) refl
spelled_response (DownloadDone key) bytes h = rw (h.0, h.1.0, h.1.1) refl
spelled_response (Abort key code) bytes h =
    rw (h.0, h.1.0, h.1.1.0) (ap (λ (n : ℕ). Some (Abort (key_in bytes) (record { 0 = n }))) (sym h.1.1.1))
spelled_response (BlockDownloadInitiated key block_size) bytes h = rw (h.0, h.1.0, h.1.1, h.1.2, h.1.3) refl
spelled_response BlockDownloadDone bytes h = rw (h.0, h.1.0, h.1.1) refl
spelled_response (BlockDownloadAcknowledge sequence block_size) bytes h = rw (h.0, h.1.0, h.1.1, h.1.2.0, h.1.2.1) refl
spelled_response (BlockUploadInitiated key (Some size)) bytes h = rw (h.0, h.1.0, h.1.1.0, h.1.1.1, h.1.1.2, h.1.1.3) refl
spelled_response (BlockUploadInitiated key None) bytes h = rw (h.0, h.1.0, h.1.1.0, h.1.1.1, h.1.1.2) refl
spelled_response (BlockUploadEnd unused) bytes h = rw (h.0, h.1.0, h.1.1.0, h.1.1.1) refl

-- ---- what is read is spelled

pub response_spelled : (bytes : List ℕ) → IfSome (response_in bytes) (λ response. SpellsSdoResponse response bytes)
unfolding response_row_in
response_spelled bytes =
    let P : SdoResponse → Type 0 = λ response. SpellsSdoResponse response bytes in
    some_branches P (eqb (length bytes) 8) _ _
    (λ long. let n = eqb-true (length bytes) 8 long in
    some_branches P (eqb (specifier bytes) 0) _ _ (λ e. (n, (eqb-true (specifier bytes) 0 e, (refl, refl, refl))))
    (λ _. some_branches P (eqb (specifier bytes) 1) _ _ (λ e. (n, (eqb-true (specifier bytes) 1 e, refl)))
    (λ _. some_branches P (eqb (specifier bytes) 2) _ _ (λ e. let top = eqb-true (specifier bytes) 2 e in
    branches P (has_bit 1 bytes) _ _ (λ b. (n, (top, expedited_spelled bytes b))) (λ b. (n, (top, initiate_spelled bytes b))))
    (λ _. some_branches P (eqb (specifier bytes) 3) _ _ (λ e. (n, (eqb-true (specifier bytes) 3 e, refl)))
    (λ _. some_branches P (eqb (specifier bytes) 4) _ _ (λ e. (n, (eqb-true (specifier bytes) 4 e, (refl, refl))))
    (λ _. some_branches P (eqb (specifier bytes) 5) _ _ (λ e. let top = eqb-true (specifier bytes) 5 e in
    some_branches P (eqb (subcommand bytes) 0) _ _ (λ s. (n, (top, eqb-true (subcommand bytes) 0 s, refl, refl)))
    (λ _. some_branches P (eqb (subcommand bytes) 1) _ _ (λ s. (n, (top, eqb-true (subcommand bytes) 1 s)))
    (λ _. some_branches P (eqb (subcommand bytes) 2) _ _ (λ s. (n, (top, eqb-true (subcommand bytes) 2 s, (refl, refl))))
    (λ _. tt))))
    (λ _. some_branches P (eqb (specifier bytes) 6) _ _ (λ e. let top = eqb-true (specifier bytes) 6 e in
    branches P (has_bit 0 bytes) _ _ (λ b. (n, (top, (b, refl)))) (λ b. (n, (top, block_initiate_spelled bytes b))))
    (λ _. tt))))))))
    (λ _. tt)
