-- The operands of one channel, its result, what is stored. Assumes nothing.
use mathlib.Core.Bool.{true, false}
use mathlib.Core.Path.{refl, sym, ◌∙◌}
use lib.Dec.{lit<}
use borrow.Author.Tests.{eq-eqb, ne_eqb}
use Rattle.paper.specs.Word.{src0, dst_type}
use Rattle.words.specs.Operations.{plain_is}
use Rattle.laws.specs.Sources.{first_source}
use Rattle.words.specs.Words.{to_word}
use Rattle.execute.specs.Readable.{legal-whole, legal_readable, not_source}
use Rattle.execute.specs.Results.{read_operands, kept_stays, kept_clamped}
use Rattle.execute.specs.Single.{made_alone}
use Rattle.execute.proofs.one.result_of.Goals as goal

pub number_of-a-requires : goal.number_of-a-requires
number_of-a-requires c =
    let p = plain_is c.args.p in
    (legal_readable p (to_word c.args.w) c.requires.0 src0 (first_source p), c.requires.1, not_source p (to_word c.args.w) c.requires.3 src0 (first_source p))

pub compute-v-requires : goal.compute-v-requires
compute-v-requires c =
    read_operands c.args.p (to_word c.args.w) c.args.registers.now _ _ _ _ c.number_of-a.ensures c.second_of-b.ensures c.requires.0 0 (lit< tt)

pub clamp-requires : goal.clamp-requires
clamp-requires c = rw c.dst_type.ensures.0 (legal-whole _ _ c.requires.0)

pub returns-then-saturate-eq1 : goal.returns-then-saturate-eq1
returns-then-saturate-eq1 c =
    let on = sym (eq-eqb _ _ (sym c.saturate.ensures.0 ∙ c.if-saturate-eq1.true)) in
    made_alone c.args.p (to_word c.args.w) c.args.registers.now _ _ c.number_of-a.ensures c.second_of-b.ensures c.requires.0 c.requires.2 c.args.predicate _ _ true _ _
    c.cond_modifier.ensures.0 c.dst_type.ensures.0 on (rw (← c.bit.ensures) c.compute-v.ensures) (kept_clamped _ _ _ c.clamp.ensures)

pub returns-else-saturate-eq1 : goal.returns-else-saturate-eq1
returns-else-saturate-eq1 c =
    let w = to_word c.args.w in
    let off = sym (ne_eqb _ _ (λ e. c.if-saturate-eq1.false (c.saturate.ensures.0 ∙ e))) in
    made_alone c.args.p w c.args.registers.now _ _ c.number_of-a.ensures c.second_of-b.ensures c.requires.0 c.requires.2 c.args.predicate _ (dst_type w) false _ _
    c.cond_modifier.ensures.0 refl off (rw (← c.bit.ensures) c.compute-v.ensures) (kept_stays (dst_type w) _)
