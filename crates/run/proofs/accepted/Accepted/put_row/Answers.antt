-- What is marked is fetched, and its three numbers are stored; elsewhere there is nothing to store. Assumes nothing.
use mathlib.Core.Path.{refl, sym, ◌∙◌, subst}
use native.Mathlib.Omega.{arith}
use Prim.Native.Nat.{◌*◌}
use lib.ListN.{length-set}
use Rattle.paper.specs.Machine.{ways_of}
use Rattle.words.specs.Words.{to_word}
use Rattle.kernel.specs.Jumps.{instr_of}
use Rattle.machine.specs.Branches.{ways_is, Within}
use Rattle.run.specs.Kernels.{bytes_there, bytes_fetched, bytes_within, none_fetched}
use Rattle.run.specs.Tables.{ways_from_lem, entered_none, entered_three}
use Rattle.run.proofs.accepted.Accepted.put_row.Goals as goal

pub word_at-f-requires : goal.word_at-f-requires
word_at-f-requires c =
    let p = c.requires in
    let there = sym (p.0.marked _) ∙ sym c.is_marked.ensures ∙ c.if-is_marked.true in
    bytes_there _ _ p.0.takes _ there (λ e. omega (arith, p.1))

pub bounds-table-i-then-is_marked : goal.bounds-table-i-then-is_marked
bounds-table-i-then-is_marked c =
    let p = c.requires in
    let a = c.args in
    omega (arith, p.2, length-set a.table.now (3 * a.p) c.word_at-f.result.word.lo)

pub code_of-requires : goal.code_of-requires
code_of-requires c =
    let p = c.requires in
    let there = sym (p.0.marked _) ∙ sym c.is_marked.ensures ∙ c.if-is_marked.true in
    let near = bytes_within _ _ p.0.takes _ there (λ e. omega (arith, p.1)) _ _ c.word_at-f.ensures in
    let same = sym c.ways_of.ensures in
    let within : Within 65536 (ways_is c.ways_of.result) = subst (Within 65536) same near in
    (within.next, within.jump, within.wait)

pub returns-then-is_marked : goal.returns-then-is_marked
returns-then-is_marked c =
    let p = c.requires in
    let there = sym (p.0.marked _) ∙ sym c.is_marked.ensures ∙ c.if-is_marked.true in
    let f = c.word_at-f.ensures in
    let fetched = bytes_fetched _ _ p.0.takes _ there (λ e. omega (arith, p.1)) _ _ f in
    let near = bytes_within _ _ p.0.takes _ there (λ e. omega (arith, p.1)) _ _ f in
    let e = c.ways_of.ensures in
    let a = c.args in
    let fetch = c.word_at-f.result in
    let ways = ways_from_lem (ways_of (instr_of a.p fetch.size (to_word fetch.word))) c.code_of.result c.is_unusual.result near.next near.jump near.wait (rw (← e) c.code_of.ensures) in
    entered_three _ _ _ _ _ _ _ p.2 fetched refl ways.0 (λ l. c.is_unusual.ensures (sym ways.1 ∙ l))

pub returns-else-is_marked : goal.returns-else-is_marked
returns-else-is_marked c =
    let p = c.requires in
    entered_none _ _ _ (none_fetched _ _ p.0.takes _ (sym (p.0.marked _) ∙ sym c.is_marked.ensures ∙ c.if-is_marked.false))
