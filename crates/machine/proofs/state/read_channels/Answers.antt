-- The masks and the places are those in the bytes. Assumes nothing.
use Rattle.machine.specs.States.{read_channels, read_sane}
use Rattle.machine.proofs.state.read_channels.Goals as goal

pub returns : goal.returns
returns c =
    let bytes = c.args.bytes.now in
    let awakes = c.read2.ensures in
    let waits = c.read2-2.ensures in
    let places = c.read_places.ensures in
    (read_channels bytes _ awakes.0 waits.0 places.0, λ t. read_sane bytes _ awakes.0 waits.0 places.0 (rw awakes.0 at awakes.1) (rw waits.0 at waits.1) places.1 t)
