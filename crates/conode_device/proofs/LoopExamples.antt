-- The last line, computed from the definitions.
use Rattle.std.proofs.Common.{◌≡◌, [], ◌∷◌, ◌++◌, refl}
use Rattle.std.specs.Prelude.{codes}
use Rattle.std.specs.Fmt.{digits}
use Rattle.co_text.specs.Printed.{digits_text}
use Rattle.co_sdo_client.specs.declared.state.ClientState.TheVariants.{Waiting, Done, Failed}
use Rattle.conode_device.specs.Printed.{last_line, requests_text}

gave_up : last_line Waiting 1 ≡ codes "; gave up" ++ 10 ∷ []
unfolding last_line
gave_up = refl

done : last_line Done 3 ≡ codes "; done, 3 requests" ++ 10 ∷ []
unfolding last_line requests_text digits
done = refl

failed : last_line (Failed (record { 0 = 0x0607_0012 })) 1 ≡ codes "; failed 06070012, 1 requests" ++ 10 ∷ []
unfolding last_line requests_text digits digits_text
failed = refl
