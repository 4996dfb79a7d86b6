-- What a frame sets, its channel sets: so it is permitted.
use Rattle.std.proofs.Common.{◌≡◌, ℕ, Bool, true, false, cond, eqb, List, length, refl, ap, ◌∙◌, arith, Some, None, Option}
use Rattle.std.specs.Prelude.{◌&&◌}
use Rattle.std.proofs.lemmas.Bool.Decides.{nat_tests}
use Rattle.co_frame.specs.FrameContent.{FrameContent}
use Rattle.co_dict.specs.Rows.{Contents}
use Rattle.co_dict.specs.Stores.{Description}
use Rattle.co_sdo.specs.Completed.{set_by}
use Rattle.co_sdo.specs.Downloads.{Download}
use Rattle.co_sdo.specs.Log.{Log, is_request_on}
use Rattle.co_sdo.specs.Refused.{completion_refusal}
use Rattle.co_sdo.specs.Standing.{set_on}
use Rattle.co_sdo.specs.Channels.{ChannelSettings}
use Rattle.co_sdo.specs.Events.{exchange_at, exchange_on, receiver, set_at, set_of}

abbrev pub IsPermitted : Description → Contents → Download → Type 0
IsPermitted d contents download = completion_refusal d contents download.key download.indicated download.bytes ≡ None

module _ (of_channel : (id : ℕ) (d : Description) (contents : Contents) (log : Log) (frame : FrameContent) (download : Download) → set_on id d contents log frame ≡ Some download → IsPermitted d contents download) where
  -- eight bytes are a request on their own identifier
  own_request : (frame : FrameContent) (b : Bool) → eqb (length frame.bytes) 8 ≡ b → is_request_on frame.id frame ≡ b
  own_request frame b e = let own : eqb frame.id frame.id ≡ true = grind (arith, nat_tests) in ap (λ t. t && eqb (length frame.bytes) 8) own ∙ e

  by_receiver : (c : Option ChannelSettings) (d : Description) (contents : Contents) (logs : ℕ → Log) (frame : FrameContent) (download : Download) → set_at (exchange_at c d contents logs frame) d contents logs frame ≡ Some download → IsPermitted d contents download
  by_receiver None d contents logs frame download e = cc
  by_receiver (Some c) d contents logs frame download e = by_test (eqb (length frame.bytes) 8) refl e
    where
      by_test : (b : Bool) → eqb (length frame.bytes) 8 ≡ b → set_at (cond b (Some (exchange_on c d contents (logs c.number) frame.bytes)) None) d contents logs frame ≡ Some download → IsPermitted d contents download
      by_test true h e = of_channel frame.id d contents (logs c.number) frame download (ap (λ t. cond t (set_by d contents (logs c.number) frame.bytes) None) (own_request frame true h) ∙ e)
      by_test false h e = cc

  pub set_permitted : (channels : List ChannelSettings) (d : Description) (contents : Contents) (logs : ℕ → Log) (frame : FrameContent) (download : Download) → set_of channels d contents logs frame ≡ Some download → IsPermitted d contents download
  set_permitted channels d contents logs frame download e = by_receiver (receiver channels frame.id) d contents logs frame download e
