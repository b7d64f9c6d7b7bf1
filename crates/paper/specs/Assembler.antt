-- Words, kernels and states written out for the bench sheet's rows. Assumes nothing.
use Rattle.std.specs.Prelude.{List, [], ◌∷◌, ◌++◌, ℕ, zero, suc, ◌+◌, replicate, set}
use Rattle.paper.specs.Bits.{◌at◌, bytes_of, put_at}
use Rattle.paper.specs.Limits.{register_bytes, state_length}
use Rattle.paper.specs.Calls.{start_call}

-- ---- words

-- Four dwords, the lowest first.
unfoldable pub dwords : ℕ → ℕ → ℕ → ℕ → ℕ
dwords a b c d = a + b at 32 + c at 64 + d at 96

-- A destination in registers with stride 1: its type, register and subregister.
unfoldable pub to : ℕ → ℕ → ℕ → ℕ
to t register sub = 1 at 32 + t at 34 + sub at 48 + register at 53 + 1 at 61

-- The first and the second source in registers: type, register, subregister, and the codes of VertStride, Width, HorzStride.
unfoldable pub from0 : ℕ → ℕ → ℕ → ℕ → ℕ → ℕ → ℕ
from0 t register sub v w h = 1 at 37 + t at 39 + sub at 64 + register at 69 + h at 80 + w at 82 + v at 85

unfoldable pub from1 : ℕ → ℕ → ℕ → ℕ → ℕ → ℕ → ℕ
from1 t register sub v w h = 1 at 42 + t at 44 + sub at 96 + register at 101 + h at 112 + w at 114 + v at 117

-- An immediate of 32 bits as first and as second source.
unfoldable pub immediate0 : ℕ → ℕ → ℕ
immediate0 t v = 3 at 37 + t at 39 + v at 96

unfoldable pub immediate1 : ℕ → ℕ → ℕ
immediate1 t v = 3 at 42 + t at 44 + v at 96

-- An opcode with an ExecSize code.
unfoldable pub op : ℕ → ℕ → ℕ
op code size = code + size at 21

-- if, else, endif or while with a distance of 16 bits; jmpi with one of 32.
unfoldable pub structured_to : ℕ → ℕ → ℕ
structured_to code distance = op code 4 + distance at 48

unfoldable pub jmpi_to : ℕ → ℕ
jmpi_to distance = op 0x20 0 + immediate1 1 distance

-- break (0x28) or cont (0x29) with the distances JIP and UIP, of 16 bits each.
unfoldable pub leave_to : ℕ → ℕ → ℕ → ℕ
leave_to code jip uip = op code 4 + jip at 96 + uip at 112

unfoldable pub nop_word : ℕ
nop_word = 0x7E

-- ---- kernels

-- Long words one after the other.
unfoldable pub long : List ℕ → List ℕ
long [] = []
long (w ∷ ws) = bytes_of 16 w ++ long ws

-- n copies.
unfoldable pub copies : ℕ → List ℕ → List ℕ
copies zero xs = []
copies (suc n) xs = xs ++ copies n xs

-- ---- dictionaries: 128 numbers, four bytes each

unfoldable pub numbers : List ℕ → List ℕ
numbers [] = []
numbers (n ∷ ns) = bytes_of 4 n ++ numbers ns

unfoldable pub zeros : List ℕ
zeros = replicate 128 0

unfoldable pub blank_dictionary : List ℕ
blank_dictionary = numbers zeros

-- Case A's: control 1, datatype 2, source 3.
unfoldable pub dictionary_a : List ℕ
dictionary_a = numbers (set (set (set zeros 1 0x6000) 34 0x94A5) 99 0x468)

-- ---- registers and states

unfoldable pub clear : List ℕ
clear = replicate register_bytes 0

-- `count` elements of `size` bytes each from byte `from` on: v, v + step, v + 2 × step, ….
unfoldable pub ramp : ℕ → ℕ → ℕ → ℕ → ℕ → List ℕ → List ℕ
ramp zero size from v step registers = registers
ramp (suc count) size from v step registers = ramp count size (from + size) (v + step) step (put_at registers from size v)

-- The state from which a run starts.
unfoldable pub begin : ℕ → ℕ → ℕ → List ℕ
begin mask flag0 flag1 = (start_call mask flag0 flag1 (replicate state_length 0)).output
