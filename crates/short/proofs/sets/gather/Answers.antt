-- At first no set has an index; each number joins its three. Assumes nothing.
use Rattle.paper.specs.Dictionary.{dictionary_of}
use Rattle.short.specs.SetLaws.{none_gathered, one_more}
use Rattle.short.proofs.sets.gather.Goals as goal

pub loop-i-init : goal.loop-i-init
loop-i-init c = none_gathered (dictionary_of c.args.dictionary.now) c.args.base c.args.width

pub loop-i-preserved : goal.loop-i-preserved
loop-i-preserved c =
    one_more (dictionary_of c.args.dictionary.now) c.args.base c.args.width c.loop-i.sets c.join.new.sets c.loop-i.i _ _ c.join.array_long c.join.ensures
    c.loop-i.invariant (rw (c.number.ensures.0, c.power-modulus.ensures.0)) c.alone.ensures
