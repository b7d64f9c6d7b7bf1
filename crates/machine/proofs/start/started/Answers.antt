-- The masks are the given one and none, so the channels are awake where it has 1 and off where it has 0. Assumes nothing.
use lib.Dec.{lit<}
use lib.ListN.{replicate}
use native.Mathlib.Omega.{arith}
use Rattle.machine.specs.Steps.{start_channels_lem, start_sane}
use Rattle.machine.proofs.start.started.Goals as goal

pub returns : goal.returns
returns c =
    let mask = c.args.mask in (
      (λ registers. λ i. record {
        store = record { registers = registers; flag0 = c.args.flag0; flag1 = c.args.flag1; addresses = replicate 16 0 };
        channels = start_channels_lem mask i;
        place = 0;
      }),
      record { channels = start_sane mask (omega arith); flag0 = omega arith; flag1 = omega arith; place = lit< tt },
    )
