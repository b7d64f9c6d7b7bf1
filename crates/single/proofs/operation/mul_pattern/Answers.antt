-- What the three calls ensure, put together. Assumes nothing.
use Rattle.single.proofs.operation.mul_pattern.Goals as goal

pub returns : goal.returns
returns c = cc
