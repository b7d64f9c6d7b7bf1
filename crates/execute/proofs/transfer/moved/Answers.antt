-- What is read is the file that src0 stands in; its elements, saturated if asked for, are what a mov makes. Assumes nothing.
use mathlib.Core.Path.{sym, ap, ◌∙◌}
use Prim.Native.Nat.{ℕ}
use lib.Dec.{eqb}
use Rattle.paper.specs.Word.{src0}
use Rattle.paper.specs.Operation.{mov}
use Rattle.paper.specs.Legal.{bytes_in}
use Rattle.laws.specs.Sources.{first_source}
use Rattle.words.specs.Words.{to_word}
use Rattle.execute.specs.Readable.{legal-count, legal-whole, legal_readable}
use Rattle.execute.specs.Results.{moved_made}
use Rattle.execute.proofs.transfer.moved.Goals as goal

pub channels-n-requires : goal.channels-n-requires
channels-n-requires c = legal-count _ _ c.requires.0.acting

pub operand_by_element-requires : goal.operand_by_element-requires
operand_by_element-requires c =
    let a0 = sym c.src_is_a0.ensures ∙ c.if-src_is_a0.true in
    (legal_readable mov (to_word c.args.w) c.requires.0 src0 (first_source mov), c.channels-n.ensures.0, c.requires.1 ∙ ap bytes_in (sym a0))

pub clamp_all-requires : goal.clamp_all-requires
clamp_all-requires c =
    (c.channels-n.ensures.1, rw c.dst_type.ensures.0 (legal-whole _ _ c.requires.0))

pub returns-then-src_is_a0 : goal.returns-then-src_is_a0
returns-then-src_is_a0 c =
    let a0 = sym c.src_is_a0.ensures ∙ c.if-src_is_a0.true in
    rw a0 (moved_made (to_word c.args.w) c.requires.0 c.args.addresses.now _ _ _ _ c.operand_by_element.ensures c.channels-n.ensures.0 c.channels-n.ensures.1 _ _
    c.dst_type.ensures.0 (ap (λ (x : ℕ). eqb x 1) c.saturate.ensures.0) c.clamp_all.ensures)

pub operand_by_element-requires-else-src_is_a0 : goal.operand_by_element-requires-else-src_is_a0
operand_by_element-requires-else-src_is_a0 c =
    let a0 = sym c.src_is_a0.ensures ∙ c.if-src_is_a0.false in
    (legal_readable mov (to_word c.args.w) c.requires.0 src0 (first_source mov), c.channels-n.ensures.0, c.told-registers ∙ ap bytes_in (sym a0))

pub clamp_all-requires-else-src_is_a0 : goal.clamp_all-requires-else-src_is_a0
clamp_all-requires-else-src_is_a0 c =
    (c.channels-n.ensures.1, rw c.dst_type-else-src_is_a0.ensures.0 (legal-whole _ _ c.requires.0))

pub returns-else-src_is_a0 : goal.returns-else-src_is_a0
returns-else-src_is_a0 c =
    let a0 = sym c.src_is_a0.ensures ∙ c.if-src_is_a0.false in
    rw a0 (moved_made (to_word c.args.w) c.requires.0 c.args.registers.now _ _ _ _ c.operand_by_element-else-src_is_a0.ensures c.channels-n.ensures.0 c.channels-n.ensures.1 _ _
    c.dst_type-else-src_is_a0.ensures.0 (ap (λ (x : ℕ). eqb x 1) c.saturate-else-src_is_a0.ensures.0) c.clamp_all-else-src_is_a0.ensures)
