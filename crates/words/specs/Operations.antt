-- The code's operations are the paper's. Assumes nothing.
use Rattle.paper.specs.Operation as paper
use Rattle.words.specs.declared.operation.Plain.{Plain}
use Rattle.words.specs.declared.operation.Branch.{Branch}
use Rattle.words.specs.declared.operation.Operation.{Operation}
use Rattle.words.specs.declared.operation.Plain.TheVariants.{Mov, Sel, Not, And, Or, Xor, Shr, Shl, Asr, Cmp, Add, Mul, Avg}
use Rattle.words.specs.declared.operation.Branch.TheVariants.{Jmpi, If, Else, Endif, While, Break, Cont}
use Rattle.words.specs.declared.operation.Operation.TheVariants.{Makes, Nop, Jumps, Unlisted}

abbrev pub plain_is : Plain → paper.Plain
plain_is Mov = paper.mov
plain_is Sel = paper.sel
plain_is Not = paper.not
plain_is And = paper.and
plain_is Or = paper.or
plain_is Xor = paper.xor
plain_is Shr = paper.shr
plain_is Shl = paper.shl
plain_is Asr = paper.asr
plain_is Cmp = paper.cmp
plain_is Add = paper.add
plain_is Mul = paper.mul
plain_is Avg = paper.avg

abbrev pub branch_is : Branch → paper.Branch
branch_is Jmpi = paper.jmpi
branch_is If = paper.if
branch_is Else = paper.else
branch_is Endif = paper.endif
branch_is While = paper.while
branch_is Break = paper.break
branch_is Cont = paper.cont

abbrev pub operation_is : Operation → paper.Operation
operation_is (Makes p) = paper.plain (plain_is p)
operation_is Nop = paper.nop
operation_is (Jumps b) = paper.branch (branch_is b)
operation_is Unlisted = paper.unlisted
