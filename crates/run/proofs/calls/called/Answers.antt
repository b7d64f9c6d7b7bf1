-- By what is said of the kernel and the state. Assumes nothing.
use native.Mathlib.Omega.{arith}
use Rattle.std.proofs.lemmas.Result.{err_from_is_err_and}
use Rattle.run.specs.Answers.{sizes_right, call_barred, lawful}
use Rattle.run.proofs.calls.called.Goals as goal

pub returns-in_err-admit : goal.returns-in_err-admit
returns-in_err-admit c =
    let z = sizes_right _ _ c.args.registers.now c.args.state.now c.requires.0 (omega arith) (omega arith) in
    let p = err_from_is_err_and c.from_residual.result c.from_residual.ensures.1 in
    rw (p.1, p.2) (call_barred _ _ _ _ z _ _ (c.admit.ensures _) _ c.in_err-admit.was c.args.call c.requires.1)

pub made_lawful-requires : goal.made_lawful-requires
made_lawful-requires c =
    let z = sizes_right _ _ c.args.registers.now c.args.state.now c.requires.0 (omega arith) (omega arith) in
    let l = lawful _ _ _ _ z _ _ (c.admit.ensures _) _ c.in_ok-admit.was in
    record { allowed = (record { sizes = z; lawful = l.0; marked = l.1 }, c.requires.1) }
