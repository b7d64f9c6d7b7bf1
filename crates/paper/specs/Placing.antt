-- Where a tile goes (02 §8): a placement of six floats, the van's order, the plain answers, the fixed kernel that gives the same bits, and the three calls.
-- Floats are 32-bit patterns here; the plain formula is said of values too, as a program has them. Assumes nothing.
use Rattle.std.specs.Prelude.{Bool, not, cond, ◌&&◌, List, [], ◌∷◌, ◌++◌, ℕ, ◌+◌, ◌*◌, eqb, ltb, length, take, drop, Float}
use Rattle.std.specs.Float.{binary32}
use Rattle.std.specs.Float.Ieee.{add, mul}
use Rattle.paper.specs.Bits.{number_at, bytes_of}
use Rattle.paper.specs.Limits.{register_bytes}
use Rattle.paper.specs.Value.{type_f}
use Rattle.paper.specs.Single.{sum, product}
use Rattle.paper.specs.Calls.{verdict, refusal, Written, kept, deliver}
use Rattle.paper.specs.Assembler.{to, from0, from1, op, long}

-- ---- the plain answers

-- One coordinate of a·x + b·y + c: products first, then sums from the left, each rounded once. On values,
abbrev pub placed_value : Float → Float → Float → Float → Float → Float
placed_value a b c x y = add binary32 (add binary32 (mul binary32 a x) (mul binary32 b y)) c

-- and on patterns.
abbrev pub placed : ℕ → ℕ → ℕ → ℕ → ℕ → ℕ
placed a b c x y = sum (sum (product a x) (product b y)) c

-- A tile's placement.
pub record Placement : Type 0 where
  pub a : ℕ
  pub b : ℕ
  pub c : ℕ
  pub d : ℕ
  pub e : ℕ
  pub f : ℕ

-- Where something is.
pub record Point : Type 0 where
  pub x : ℕ
  pub y : ℕ

-- What a placement answers: a·x + b·y + c and d·x + e·y + f.
abbrev pub placed_by : Placement → Point → Point
placed_by p at =
    record {
      x = placed p.a p.b p.c at.x at.y;
      y = placed p.d p.e p.f at.x at.y;
    }

-- The van's order for a tile: keep, shift by two floats c and f, or place by a full record.
pub data Order : Type 0 where
  keep : Order
  shift : ℕ → ℕ → Order
  place : Placement → Order

-- Its answer. keep leaves the bits.
abbrev pub answered : Order → Point → Point
answered keep at = at
answered (shift c f) at = record { x = sum at.x c; y = sum at.y f }
answered (place p) at = placed_by p at

-- ---- as bytes

-- A record's bytes: a to f, four each, the lowest first; and a point's.
abbrev pub record_bytes : ℕ
record_bytes = 24

unfoldable pub placement_of : List ℕ → Placement
placement_of bytes =
    record {
      a = number_at bytes 0 4;
      b = number_at bytes 4 4;
      c = number_at bytes 8 4;
      d = number_at bytes 12 4;
      e = number_at bytes 16 4;
      f = number_at bytes 20 4;
    }

unfoldable pub point_bytes : Point → List ℕ
point_bytes at = bytes_of 4 at.x ++ bytes_of 4 at.y

-- An order by its number, 0 keep, 1 shift, 2 place, and the record that it takes its floats from. There is no other (`is_order`).
unfoldable pub order_of : ℕ → Placement → Order
order_of number p = cond (eqb number 0) keep (cond (eqb number 1) (shift p.c p.f) (place p))

abbrev pub is_order : ℕ → Bool
is_order number = ltb number 3

-- ---- the fixed kernel: sixteen tiles at once

-- Where it finds and leaves things: x in r2 and r3, y in r4 and r5, the record in r6 from its first byte, the answers in r8 and r9, r10 and r11. r12 and r13 are
-- its own.

-- Sixteen floats in two registers, as first and as second source.
abbrev sixteen0 : ℕ → ℕ
sixteen0 register = from0 type_f register 0 4 3 1

abbrev sixteen1 : ℕ → ℕ
sixteen1 register = from1 type_f register 0 4 3 1

-- Float k of the record, 0 to 5, for every channel.
abbrev every0 : ℕ → ℕ
every0 k = from0 type_f 6 (4 * k) 0 0 0

abbrev every1 : ℕ → ℕ
every1 k = from1 type_f 6 (4 * k) 0 0 0

-- mul(16) and add(16) into two registers.
abbrev mul16 : ℕ → ℕ → ℕ → ℕ
mul16 register first second = op 0x41 4 + to type_f register 0 + first + second

abbrev add16 : ℕ → ℕ → ℕ → ℕ
add16 register first second = op 0x40 4 + to type_f register 0 + first + second

-- One coordinate, by the record's floats from k on.
abbrev coordinate : ℕ → ℕ → List ℕ
coordinate register k =
    mul16 register (every0 k) (sixteen1 2)
    ∷ mul16 12 (every0 (k + 1)) (sixteen1 4)
    ∷ add16 register (sixteen0 register) (sixteen1 12)
    ∷ add16 register (sixteen0 register) (every1 (k + 2))
    ∷ []

-- The kernel, in long words.
unfoldable pub place_kernel : List ℕ
place_kernel = long (coordinate 8 0 ++ coordinate 10 3)

-- Registers with a record's bytes in r6.
unfoldable pub loaded_with : List ℕ → List ℕ → List ℕ
loaded_with bytes registers = take (6 * 32) registers ++ (bytes ++ drop (6 * 32 + record_bytes) registers)

-- ---- the calls

-- The answer to an order, as the bytes of two patterns: 1 of the record, 7 where there is no such order, 14.
unfoldable pub place_call : ℕ → List ℕ → Point → List ℕ → Written
place_call order bytes at out =
    cond (not (eqb (length bytes) record_bytes)) (kept (refusal 1 0) out)
    (cond (not (is_order order)) (kept (refusal 7 0) out)
    (deliver (point_bytes (answered (order_of order (placement_of bytes)) at)) out))

-- The fixed kernel's bytes: 14.
unfoldable pub place_kernel_call : List ℕ → Written
place_kernel_call out = deliver place_kernel out

-- A record put where the kernel finds it: 1 of the record and of the registers.
unfoldable pub place_load_call : List ℕ → List ℕ → Written
place_load_call bytes registers =
    cond (eqb (length bytes) record_bytes && eqb (length registers) register_bytes)
    (record { answer = verdict 0 0; output = loaded_with bytes registers })
    (kept (refusal 1 0) registers)
