use Rattle.std.proofs.Common.{subst}
use Rattle.co_node_model.specs.Moments.{channels}
use Rattle.co_node_model.specs.Addresses.{address_at}
use Rattle.co_node_model.specs.Sdo.{channel_logs}
use Rattle.co_node_model.specs.Inputs.{Written, app_view}
use Rattle.co_node_device.specs.declared.given.Given.{Given}
use Rattle.co_node_device.specs.Given.{IsPlaced}
use Rattle.co_node_device.proofs.Receptions.{at_address, event_frames, event_channels, write_queues}
use Rattle.co_node_device.proofs.receiving.receive.Goals as goal

pub returns-in-Tick-clause-mark : goal.returns-in-Tick-clause-mark
returns-in-Tick-clause-mark g c = λ k history before addressed.
    rw c.in-Tick.is (c.take_tick.ensures.mark _ (channels k) (channel_logs history) before.channels)

pub returns-in-Tick-clause-frames : goal.returns-in-Tick-clause-frames
returns-in-Tick-clause-frames g c = λ k history before addressed.
    rw c.in-Tick.is (c.take_tick.ensures.frames _ (channels k) (channel_logs history) before.channels)

pub returns-in-Tick-clause-channels : goal.returns-in-Tick-clause-channels
returns-in-Tick-clause-channels g c = λ k history before addressed.
    rw c.in-Tick.is (c.take_tick.ensures.channels _ (channels k) (channel_logs history) before.channels)

pub write-requires : goal.write-requires
write-requires g c =
    subst (λ (given : Given). IsPlaced (g.S.ObjectStore.description c.args.store.now) given) c.in-WriteAt.is c.requires.placed

pub returns-in-WriteAt-clause-frames : goal.returns-in-WriteAt-clause-frames
returns-in-WriteAt-clause-frames g c = λ k history before addressed.
    rw c.in-WriteAt.is (event_frames k history (Written c.in-WriteAt.key c.in-WriteAt.bytes.now) c.args.outbox.now.items)

pub returns-in-WriteAt-clause-channels : goal.returns-in-WriteAt-clause-channels
returns-in-WriteAt-clause-channels g c = λ k history before addressed.
    rw c.in-WriteAt.is (event_channels k history _ c.args.bank.now (Written c.in-WriteAt.key c.in-WriteAt.bytes.now) before.channels)

pub returns-in-WriteAt-clause-emergencies : goal.returns-in-WriteAt-clause-emergencies
returns-in-WriteAt-clause-emergencies g c = λ k history log before addressed stands.
    rw c.in-WriteAt.is (write_queues k history c.args.emergencies.now log c.in-WriteAt.key c.in-WriteAt.bytes.now stands)

pub returns-in-App-clause-frames : goal.returns-in-App-clause-frames
returns-in-App-clause-frames g c = λ k history before addressed.
    rw c.in-App.is (event_frames k history (app_view c.in-App.event) c.args.outbox.now.items)

pub returns-in-App-clause-channels : goal.returns-in-App-clause-channels
returns-in-App-clause-channels g c = λ k history before addressed.
    rw c.in-App.is (event_channels k history _ c.args.bank.now (app_view c.in-App.event) before.channels)

pub returns-in-Frame-clause-mark : goal.returns-in-Frame-clause-mark
returns-in-Frame-clause-mark g c = rw c.in-Frame.is (λ k history before addressed.
    (at_address c.args.frame.now c.args.address (address_at k history c.args.frame.now.id) addressed (c.take_frame.ensures.received k history before)).mark)

pub returns-in-Frame-clause-contents : goal.returns-in-Frame-clause-contents
returns-in-Frame-clause-contents g c = rw c.in-Frame.is (λ k history before addressed.
    (at_address c.args.frame.now c.args.address (address_at k history c.args.frame.now.id) addressed (c.take_frame.ensures.received k history before)).contents)

pub returns-in-Frame-clause-channels : goal.returns-in-Frame-clause-channels
returns-in-Frame-clause-channels g c = rw c.in-Frame.is (λ k history before addressed.
    (at_address c.args.frame.now c.args.address (address_at k history c.args.frame.now.id) addressed (c.take_frame.ensures.received k history before)).channels)
