-- The operations (the paper, "Operations"). Assumes nothing.
use Rattle.std.specs.Prelude.{Bool, true, false, cond, List, [], ◌∷◌, ℕ, eqb}
use Rattle.paper.specs.Word.{Source, src0, src1, opcode}

-- Operations that make a result of their sources.
pub data Plain : Type 0 where
  mov sel not and or xor shr shl asr cmp add mul avg : Plain

pub data Branch : Type 0 where
  jmpi if else endif while break cont : Branch

pub data Operation : Type 0 where
  plain : Plain → Operation
  nop : Operation
  branch : Branch → Operation
  unlisted : Operation

-- The operation of an opcode.
unfoldable pub operation_of : ℕ → Operation
operation_of n =
    cond (eqb n 0x01) (plain mov)
    (cond (eqb n 0x02) (plain sel)
    (cond (eqb n 0x04) (plain not)
    (cond (eqb n 0x05) (plain and)
    (cond (eqb n 0x06) (plain or)
    (cond (eqb n 0x07) (plain xor)
    (cond (eqb n 0x08) (plain shr)
    (cond (eqb n 0x09) (plain shl)
    (cond (eqb n 0x0C) (plain asr)
    (cond (eqb n 0x10) (plain cmp)
    (cond (eqb n 0x40) (plain add)
    (cond (eqb n 0x41) (plain mul)
    (cond (eqb n 0x42) (plain avg)
    (cond (eqb n 0x7E) nop
    (cond (eqb n 0x20) (branch jmpi)
    (cond (eqb n 0x22) (branch if)
    (cond (eqb n 0x24) (branch else)
    (cond (eqb n 0x25) (branch endif)
    (cond (eqb n 0x27) (branch while)
    (cond (eqb n 0x28) (branch break)
    (cond (eqb n 0x29) (branch cont)
    unlisted))))))))))))))))))))

abbrev pub operation : ℕ → Operation
operation w = operation_of (opcode w)

abbrev pub is_listed : Operation → Bool
is_listed (plain p) = true
is_listed nop = true
is_listed (branch b) = true
is_listed unlisted = false

abbrev pub is_branch : Operation → Bool
is_branch (plain p) = false
is_branch nop = false
is_branch (branch b) = true
is_branch unlisted = false

abbrev pub is_mov : Plain → Bool
is_mov mov = true
is_mov sel = false
is_mov not = false
is_mov and = false
is_mov or = false
is_mov xor = false
is_mov shr = false
is_mov shl = false
is_mov asr = false
is_mov cmp = false
is_mov add = false
is_mov mul = false
is_mov avg = false

-- What the rules ask of an operation: the sources that it reads (what it does not read is carried, not judged), whether Saturate is served on
-- it, whether its sources may have modifiers, whether floats are served on it, whether it is cmp, which has a condition code and sets flags, and whether its predicate masks its channels: sel's
-- chooses a source, and masks nothing.
pub record Traits : Type 0 where
  pub sources : List Source
  pub saturates : Bool
  pub modifiers : Bool
  pub floats : Bool
  pub compares : Bool
  pub masks : Bool

abbrev one : List Source
one = src0 ∷ []

abbrev two : List Source
two = src0 ∷ src1 ∷ []

abbrev pub traits : Plain → Traits
traits mov = record { sources = one; saturates = true; modifiers = true; floats = true; compares = false; masks = true }
traits sel = record { sources = two; saturates = true; modifiers = true; floats = false; compares = false; masks = false }
traits not = record { sources = one; saturates = false; modifiers = false; floats = false; compares = false; masks = true }
traits and = record { sources = two; saturates = false; modifiers = false; floats = false; compares = false; masks = true }
traits or = record { sources = two; saturates = false; modifiers = false; floats = false; compares = false; masks = true }
traits xor = record { sources = two; saturates = false; modifiers = false; floats = false; compares = false; masks = true }
traits shr = record { sources = two; saturates = false; modifiers = false; floats = false; compares = false; masks = true }
traits shl = record { sources = two; saturates = false; modifiers = false; floats = false; compares = false; masks = true }
traits asr = record { sources = two; saturates = false; modifiers = false; floats = false; compares = false; masks = true }
traits cmp = record { sources = two; saturates = false; modifiers = true; floats = true; compares = true; masks = true }
traits add = record { sources = two; saturates = true; modifiers = true; floats = true; compares = false; masks = true }
traits mul = record { sources = two; saturates = true; modifiers = true; floats = true; compares = false; masks = true }
traits avg = record { sources = two; saturates = true; modifiers = true; floats = false; compares = false; masks = true }

abbrev pub sources : Plain → List Source
sources p = (traits p).sources
