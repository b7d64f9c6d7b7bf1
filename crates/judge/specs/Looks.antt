-- 9 by the table: where 7 has passed, one look at a source's bits tells 9 of it. Assumes nothing.
use Rattle.std.specs.Prelude.{Bool, true, not, ◌≡◌, ℕ, ◌<◌, eqb, leb}
use Rattle.std.proofs.Math.Bool.{not-not}
use Rattle.std.proofs.Common.{ap, ap₂, ◌∙◌, sym, arith, leb-true}
use Rattle.paper.specs.Word.{Source, src0, src1, access_mode, acc_wr_ctrl, exec_size, dst_stride, src_field}
use Rattle.paper.specs.Operation.{Plain, traits}
use Rattle.paper.specs.Legal.{control_served, plain_served, shape_refused, src_shape_broken, shape_broken}
use Rattle.laws.specs.Truth.{both_true}
use Rattle.table.specs.Entries.{entry_bit}
use Rattle.judge.specs.Rules.{plain_served_lem, operand_test, shape_rule, look_refuses}

-- What 7 gives: ExecSize has a meaning.
control_size : (compares saturates : Bool) (w : ℕ) → control_served compares saturates w ≡ true → exec_size w < 5
unfolding control_served
control_size compares saturates w e =
    let a = both_true (eqb (access_mode w) 0) _ e in
    let b = both_true (eqb (acc_wr_ctrl w) 0) _ a.1 in
    omega (arith, leb-true (exec_size w) 4 (both_true (leb (exec_size w) 4) _ b.1).0)

-- The look is then 9, whatever else the bits say.
look_source : (x : Source) (w : ℕ) → exec_size w < 5 → src_shape_broken w x ≡ look_refuses x w
look_source x w h =
    sym (ap not (entry_bit (src_field x w) (exec_size w) h) ∙ not-not (shape_refused (exec_size w) (src_field x w)))

pub look_rule : (p : Plain) (w : ℕ) → plain_served p w ≡ true
    → shape_broken p w ≡ operand_test p w (eqb (dst_stride w) 0) (look_refuses src0 w) (look_refuses src1 w)
look_rule p w s =
    let c = both_true (control_served (traits p).compares (traits p).saturates w) _ (sym (plain_served_lem p w) ∙ s) in
    let h = control_size (traits p).compares (traits p).saturates w c.0 in
    shape_rule p w ∙ ap₂ (operand_test p w (eqb (dst_stride w) 0)) (look_source src0 w h) (look_source src1 w h)
