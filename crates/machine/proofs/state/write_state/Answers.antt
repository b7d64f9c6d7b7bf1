-- The numbers stored one behind the other are the state's bytes. Assumes nothing.
use native.Mathlib.Omega.{arith}
use Rattle.machine.specs.States.{state_written}
use Rattle.machine.proofs.state.write_state.Goals as goal

pub returns : goal.returns
returns c =
    λ registers. rw (c.write_places.ensures, c.write-5.ensures, c.from-4.ensures, c.write-4.ensures, c.from-3.ensures, c.write-3.ensures, c.write-2.ensures, c.from-2.ensures, c.write.ensures, c.from.ensures)
    (state_written registers c.args.s c.requires c.args.bytes.now (omega arith))
