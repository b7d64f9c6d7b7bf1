-- By what reading answered, the kernel is written, or the lines of a refusal are.
use Rattle.std.proofs.Common.{ap, ap₂, sym, ◌∙◌, refl, length-take-le, arith}
use Rattle.front.proofs.Said.{of_ok, of_err, quiet, unasked, all_written, part_written}
use Rattle.restorer.specs.Counted.{counted_fits}
use Rattle.std.specs.Prelude.{[]}
use Rattle.restorer.specs.Restored.{refused_lines, output_by, errors_by, output_of, errors_of}
use Rattle.restorer.proofs.Said.{asked}
use Rattle.restorer.proofs.restore.put_restored.Goals as goal

pub slice_bounds-kernel-end : goal.slice_bounds-kernel-end
slice_bounds-kernel-end g c = omega (arith, counted_fits _ _ _ _ c.in-Ok.told.count c.in-Ok.ensures.0, c.read.auto.out)

pub slice_bounds-write_full-end : goal.slice_bounds-write_full-end
slice_bounds-write_full-end g c =
    sym (length-take-le c.in-Ok.told.count c.read.new.out (omega (arith, counted_fits _ _ _ _ c.in-Ok.told.count c.in-Ok.ensures.0, c.read.auto.out)))

pub returns-in-Ok-clause-output : goal.returns-in-Ok-clause-output
returns-in-Ok-clause-output g c =
    all_written _ _ _ _ _ (ap₂ output_by c.in-Ok.ensures.0 c.in-Ok.ensures.1 ∙ ap output_of (asked c.args.input.now _ _ _ _ c.min.ensures c.split_at.ensures.front c.split_at.ensures.back refl)) c.write_full.ensures.ok

pub returns-in-Ok-clause-errors : goal.returns-in-Ok-clause-errors
returns-in-Ok-clause-errors g c =
    of_ok _ (quiet (g.E.Write.contents c.args.errors.now) _ (ap errors_by c.in-Ok.ensures.0 ∙ ap errors_of (asked c.args.input.now _ _ _ _ c.min.ensures c.split_at.ensures.front c.split_at.ensures.back refl)))

pub returns-in-Ok-clause-output_err : goal.returns-in-Ok-clause-output_err
returns-in-Ok-clause-output_err g c =
    part_written _ _ _ _ _ (ap₂ output_by c.in-Ok.ensures.0 c.in-Ok.ensures.1 ∙ ap output_of (asked c.args.input.now _ _ _ _ c.min.ensures c.split_at.ensures.front c.split_at.ensures.back refl)) c.write_full.ensures.err

pub returns-in-Ok-clause-errors_err : goal.returns-in-Ok-clause-errors_err
returns-in-Ok-clause-errors_err g c =
    of_err _ (unasked (g.E.Write.contents c.args.errors.now) _)

pub returns-in-Err-clause-output : goal.returns-in-Err-clause-output
returns-in-Err-clause-output g c =
    of_ok _ (quiet (g.W.Write.contents c.args.output.now) _ (sym (refused_lines _ _ c.in-Err.refusing.count _).0 ∙ ap₂ output_by c.in-Err.ensures.0 c.in-Err.ensures.1 ∙ ap output_of (asked c.args.input.now _ _ _ _ c.min.ensures c.split_at.ensures.front c.split_at.ensures.back refl)))

pub returns-in-Err-clause-errors : goal.returns-in-Err-clause-errors
returns-in-Err-clause-errors g c =
    all_written _ _ _ _ _ (sym (refused_lines _ _ c.in-Err.refusing.count []).1 ∙ ap errors_by c.in-Err.ensures.0 ∙ ap errors_of (asked c.args.input.now _ _ _ _ c.min.ensures c.split_at.ensures.front c.split_at.ensures.back refl)) c.say.ensures.ok

pub returns-in-Err-clause-errors_err : goal.returns-in-Err-clause-errors_err
returns-in-Err-clause-errors_err g c =
    part_written _ _ _ _ _ (sym (refused_lines _ _ c.in-Err.refusing.count []).1 ∙ ap errors_by c.in-Err.ensures.0 ∙ ap errors_of (asked c.args.input.now _ _ _ _ c.min.ensures c.split_at.ensures.front c.split_at.ensures.back refl)) c.say.ensures.err

pub returns-in-Err-clause-output_err : goal.returns-in-Err-clause-output_err
returns-in-Err-clause-output_err g c =
    of_err _ (unasked (g.W.Write.contents c.args.output.now) _)
