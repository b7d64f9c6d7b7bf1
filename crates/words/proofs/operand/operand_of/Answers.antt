-- Four restricted floats are 32 bits; any other immediate's field has as many bits as its type; a region is the source's. Assumes nothing.
use mathlib.Core.Bool.{◌&&◌}
use mathlib.Core.Path.{sym, ap, ◌∙◌}
use Prim.Native.Nat.{ℕ, ◌*◌}
use lib.Dec.{eqb}
use borrow.Author.Tests.{eqb-true}
use Rattle.paper.specs.Value.{type_vf, size_of}
use Rattle.laws.specs.Truth.{both_true}
use Rattle.words.specs.Words.{to_word, source_is}
use Rattle.words.specs.Operands.{fixed_named, not_vector, vector_named, direct_named}
use Rattle.words.proofs.operand.operand_of.Goals as goal

pub returns-then-is_vector : goal.returns-then-is_vector
returns-then-is_vector c =
    let kind = (both_true c.args.floats _ (sym c.is_vector.ensures ∙ c.if-is_vector.true)).1 in
    vector_named (source_is c.args.x) (to_word c.args.w) _ (sym c.is_immediate.ensures ∙ c.if-is_immediate.true)
    (sym c.src_type-kind.ensures.0 ∙ eqb-true _ type_vf kind) c.high.ensures

pub returns-then-is_immediate : goal.returns-then-is_immediate
returns-then-is_immediate c =
    let immediate = sym c.is_immediate.ensures ∙ c.if-is_immediate.true in
    let other = ap (λ (n : ℕ). c.args.floats && eqb n type_vf) (sym c.src_type-kind.ensures.0) ∙ sym c.is_vector.ensures ∙ c.if-is_vector.false in
    fixed_named (source_is c.args.x) (to_word c.args.w) _ _ immediate
    (not_vector (source_is c.args.x) (to_word c.args.w) c.args.floats c.requires.0 immediate other)
    (ap (λ (n : ℕ). 8 * n) (c.size_of.ensures.0 ∙ ap size_of c.src_type-kind.ensures.0)) c.high-then-is_immediate.ensures

pub src_region-requires : goal.src_region-requires
src_region-requires c = c.requires.1

pub returns : goal.returns
returns c =
    direct_named (source_is c.args.x) (to_word c.args.w) _ (sym c.is_immediate.ensures ∙ c.if-is_immediate.false) c.src_region.ensures
