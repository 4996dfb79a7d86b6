-- What is read of a request's bytes is what they spell, and nothing else.
use Rattle.std.proofs.Common.{◌≡◌, ℕ, ◌%◌, arith, false, Some, None, IfSome, List, length, refl, sym, ap, eqb}
use Rattle.std.proofs.lemmas.Bool.{eqb-true}
use Rattle.std.proofs.lemmas.Bool.Decides.{nat_tests}
use Rattle.co_frame.specs.declared.sdo_request.ExpeditedData.TheVariants.{Indicated, NotIndicated}
use Rattle.co_frame.specs.declared.sdo_request.SdoRequest.{SdoRequest}
use Rattle.co_frame.specs.declared.sdo_request.SdoRequest.TheVariants.{DownloadExpedited, DownloadInitiate, DownloadSegment, Upload, UploadSegment, Abort, BlockUploadInitiate, BlockUploadEnd, BlockUploadAcknowledge, BlockUploadStart, BlockDownloadInitiate, BlockDownloadEnd}
use Rattle.co_frame.specs.SdoFields.{command, specifier, subcommand, has_bit, key_in}
use Rattle.co_frame.specs.SdoRequests.{SpellsSdoRequest, request_row_in, request_in}
use Rattle.co_frame.proofs.Branches.{branches, some_branches}
use Rattle.co_frame.proofs.Parts.{expedited_spelled, initiate_spelled, block_initiate_spelled}

-- ---- what is spelled is read

pub spelled_request : (request : SdoRequest) (bytes : List ℕ) → SpellsSdoRequest request bytes → request_in bytes ≡ Some request
unfolding request_row_in
spelled_request (DownloadSegment toggle segment last) bytes h =
    rw (h.0, h.1.0, h.1.1.0, h.1.1.2) (ap (λ (xs : List ℕ). Some (DownloadSegment (has_bit 4 bytes) (record { items = xs }) (has_bit 0 bytes))) (sym h.1.1.1))
spelled_request (DownloadExpedited key (Indicated counted)) bytes h =
    rw (h.0, h.1.0, h.1.1.0, h.1.1.1, h.1.1.2) (ap (λ (xs : List ℕ). Some (DownloadExpedited (key_in bytes) (Indicated (record { items = xs })))) (sym h.1.1.3))
spelled_request (DownloadExpedited key (NotIndicated four)) bytes h = rw (h.0, h.1.0, h.1.1.0, h.1.1.1, h.1.1.2, h.1.1.3) refl
spelled_request (DownloadInitiate key (Some size)) bytes h = rw (h.0, h.1.0, h.1.1.0, h.1.1.1, h.1.1.2, h.1.1.3) refl
spelled_request (DownloadInitiate key None) bytes h = rw (h.0, h.1.0, h.1.1.0, h.1.1.1, h.1.1.2) refl
spelled_request (Upload key) bytes h = rw (h.0, h.1.0, h.1.1) refl
spelled_request (UploadSegment toggle) bytes h = rw (h.0, h.1.0, h.1.1) refl
spelled_request (Abort key code) bytes h =
    rw (h.0, h.1.0, h.1.1.0) (ap (λ (n : ℕ). Some (Abort (key_in bytes) (record { 0 = n }))) (sym h.1.1.1))
spelled_request (BlockUploadInitiate key block_size threshold) bytes h = rw (h.0, h.1.0, h.1.1, h.1.2, h.1.3, h.1.4) refl
spelled_request BlockUploadEnd bytes h = rw (h.0, h.1.0, h.1.1) refl
spelled_request (BlockUploadAcknowledge sequence block_size) bytes h = rw (h.0, h.1.0, h.1.1, h.1.2.0, h.1.2.1) refl
spelled_request BlockUploadStart bytes h = rw (h.0, h.1.0, h.1.1) refl
spelled_request (BlockDownloadInitiate key (Some size)) bytes h = rw (h.0, h.1.0, h.1.1.0, h.1.1.1, h.1.1.2, h.1.1.3) refl
spelled_request (BlockDownloadInitiate key None) bytes h = rw (h.0, h.1.0, h.1.1.0, h.1.1.1, h.1.1.2) refl
spelled_request (BlockDownloadEnd unused) bytes h = rw (h.0, h.1.0, h.1.1.0, h.1.1.1) refl

-- ---- what is read is spelled

-- of the four subcommands the last is left
subcommand_is_three : (n : ℕ) → eqb (n % 4) 0 ≡ false → eqb (n % 4) 1 ≡ false → eqb (n % 4) 2 ≡ false → n % 4 ≡ 3
subcommand_is_three n zeroth first second = grind (arith, nat_tests)

pub request_spelled : (bytes : List ℕ) → IfSome (request_in bytes) (λ request. SpellsSdoRequest request bytes)
unfolding request_row_in
request_spelled bytes =
    let P : SdoRequest → Type 0 = λ request. SpellsSdoRequest request bytes in
    some_branches P (eqb (length bytes) 8) _ _
    (λ long. let n = eqb-true (length bytes) 8 long in
    some_branches P (eqb (specifier bytes) 0) _ _ (λ e. (n, (eqb-true (specifier bytes) 0 e, (refl, refl, refl))))
    (λ _. some_branches P (eqb (specifier bytes) 1) _ _ (λ e. let top = eqb-true (specifier bytes) 1 e in
    branches P (has_bit 1 bytes) _ _ (λ b. (n, (top, expedited_spelled bytes b))) (λ b. (n, (top, initiate_spelled bytes b))))
    (λ _. some_branches P (eqb (specifier bytes) 2) _ _ (λ e. (n, (eqb-true (specifier bytes) 2 e, refl)))
    (λ _. some_branches P (eqb (specifier bytes) 3) _ _ (λ e. (n, (eqb-true (specifier bytes) 3 e, refl)))
    (λ _. some_branches P (eqb (specifier bytes) 4) _ _ (λ e. (n, (eqb-true (specifier bytes) 4 e, (refl, refl))))
    (λ _. some_branches P (eqb (specifier bytes) 5) _ _ (λ e. let top = eqb-true (specifier bytes) 5 e in
    branches P (eqb (subcommand bytes) 0) _ _ (λ s. (n, (top, eqb-true (subcommand bytes) 0 s, refl, refl, refl)))
    (λ zeroth. branches P (eqb (subcommand bytes) 1) _ _ (λ s. (n, (top, eqb-true (subcommand bytes) 1 s)))
    (λ first. branches P (eqb (subcommand bytes) 2) _ _ (λ s. (n, (top, eqb-true (subcommand bytes) 2 s, (refl, refl))))
    (λ second. (n, (top, subcommand_is_three (command bytes) zeroth first second))))))
    (λ _. some_branches P (eqb (specifier bytes) 6) _ _ (λ e. let top = eqb-true (specifier bytes) 6 e in
    branches P (has_bit 0 bytes) _ _ (λ b. (n, (top, (b, refl)))) (λ b. (n, (top, block_initiate_spelled bytes b))))
    (λ _. tt))))))))
    (λ _. tt)
