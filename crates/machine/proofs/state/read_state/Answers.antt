-- Each number is the one in the bytes. Assumes nothing.
use Rattle.paper.specs.State.{addresses_in, state_of}
use Rattle.machine.proofs.state.read_state.Goals as goal

pub returns : goal.returns
unfolding state_of
returns c =
    let flag0 = c.read2-flag0.ensures in
    let flag1 = c.read2-flag1.ensures in
    let place = c.read2-place.ensures in
    let channels = c.read_channels.ensures in (
      (λ registers. λ i. record {
        store = record { registers = registers; flag0 = flag0.0 i; flag1 = flag1.0 i; addresses = addresses_in c.args.bytes.now };
        channels = channels.0 i;
        place = place.0 i;
      }),
      λ t. record { channels = channels.1 t; flag0 = flag0.1; flag1 = flag1.1; place = place.1 },
    )
