-- A listing of an accepted kernel, six lines an instruction, and what is read of a text (02 §1): the lines, the instructions whose lines they are, where the
-- first faulty ones begin, and the full outcome of both calls. Assumes nothing.
use Rattle.std.specs.Prelude.{Bool, true, false, not, cond, ◌&&◌, List, [], ◌∷◌, ◌++◌, ℕ, zero, suc, ◌+◌, ◌*◌, eqb, ltb, length, drop, get_or}
use Rattle.std.proofs.Math.Option.{Option, none, some}
use Rattle.paper.specs.Bits.{bits, ◌at◌}
use Rattle.paper.specs.Limits.{dictionary_bytes, instruction_limit}
use Rattle.paper.specs.Dictionary.{Dictionary, dictionary_of, in_range}
use Rattle.paper.specs.Expand.{is_short}
use Rattle.paper.specs.Shorten.{shorten}
use Rattle.paper.specs.Operation.{operation, is_listed}
use Rattle.paper.specs.Legal.{refusal_of}
use Rattle.paper.specs.Kernel.{Instr, long_and_short, Parsed, bad, good}
use Rattle.paper.specs.Jump.{next_of, targets_of, targets_land}
use Rattle.paper.specs.Packing.{encode}
use Rattle.paper.specs.Text.{decimal, hexes, line, Found, whole, torn, other, found, hex_from}
use Rattle.paper.specs.Log.{place_name}
use Rattle.paper.specs.Calls.{refusal, Written, kept, deliver, accepted}

-- ---- what is listed

-- `form=`, and its two values, `long` and `short`.
abbrev pub form_name : List ℕ
form_name = 102 ∷ 111 ∷ 114 ∷ 109 ∷ 61 ∷ []

abbrev pub long_name : List ℕ
long_name = 108 ∷ 111 ∷ 110 ∷ 103 ∷ []

abbrev pub short_name : List ℕ
short_name = 115 ∷ 104 ∷ 111 ∷ 114 ∷ 116 ∷ []

-- The form of an instruction of so many places: short if it has one.
abbrev pub form_of : ℕ → List ℕ
form_of size = cond (eqb size 1) short_name long_name

-- `w0=` to `w3=`.
abbrev pub dword_name : ℕ → List ℕ
dword_name n = 119 ∷ (48 + n) ∷ 61 ∷ []

-- Dword n of a word, the lowest first, and its line.
abbrev pub dword : ℕ → ℕ → ℕ
dword w n = bits w (32 * n) 32

abbrev pub dword_line : ℕ → ℕ → List ℕ
dword_line w n = line (dword_name n) (hexes 8 (dword w n))

-- An instruction: its place, its form and the four dwords of its expanded word.
unfoldable pub instr_text : Instr → List ℕ
instr_text i =
    line place_name (decimal i.place)
    ++ (line form_name (form_of i.size)
    ++ (dword_line i.word 0 ++ (dword_line i.word 1 ++ (dword_line i.word 2 ++ dword_line i.word 3))))

-- A kernel: its instructions one after the other.
unfoldable pub listing : List Instr → List ℕ
listing [] = []
listing (i ∷ k) = instr_text i ++ listing k

-- ---- which instructions can be read

-- The bench takes the word: bit 29 is clear, its operation is listed (4), and it breaks none of 6 to 11.
unfoldable pub word_taken : ℕ → Bool
word_taken w = not (is_short w) && (is_listed (operation w) && eqb (refusal_of w) 0)

abbrev pub present : Option ℕ → Bool
present none = false
present (some s) = true

-- It can have its form: to be short there must be a short word for it, which no branch has (5).
unfoldable pub form_taken : Dictionary → Instr → Bool
form_taken D i = cond (eqb i.size 1) (present (shorten D i.word)) true

abbrev pub taken : Dictionary → Instr → Bool
taken D i = word_taken i.word && form_taken D i

-- ---- what is read

-- The number of dword n's eight digits, if the four lines of a word begin at a byte of the text; and the word.
abbrev pub dword_at : List ℕ → ℕ → ℕ → ℕ
dword_at s from n = hex_from 0 8 (drop (from + (12 * n + 3)) s)

abbrev pub word_at : List ℕ → ℕ → ℕ
word_at s from = dword_at s from 0 + dword_at s from 1 at 32 + dword_at s from 2 at 64 + dword_at s from 3 at 96

-- The one instruction at place p whose lines can begin at a byte of the text: its form goes by the first letter where that stands, its word by the digits
-- after it. Whether these are its lines is still to be seen.
unfoldable pub candidate : List ℕ → ℕ → ℕ → Instr
candidate s p from =
    let value = from + length (line place_name (decimal p)) + length form_name in
    let size : ℕ = cond (eqb (get_or s value 0) 115) 1 2 in
    record { place = p; size = size; word = word_at s (value + length (form_of size) + 1) }

abbrev pub is_whole : Found → Bool
is_whole whole = true
is_whole torn = false
is_whole other = false

-- The instruction at place p whose six lines begin at that byte, if it can be read.
unfoldable pub instr_at : Dictionary → List ℕ → ℕ → ℕ → Option Instr
instr_at D s p from =
    let i = candidate s p from in
    cond (is_whole (found (instr_text i) (drop from s)) && taken D i) (some i) none

-- What is read of a text: its instructions; or the byte at which the first faulty instruction's lines begin.
pub data Listing : Type 0 where
  faulty : ℕ → Listing
  listed : List Instr → Listing

abbrev pub follow : Instr → Listing → Listing
follow i (faulty from) = faulty from
follow i (listed k) = listed (i ∷ k)

-- By the instruction whose lines begin at a byte, and what is read after them at the next place.
abbrev pub lined : ℕ → Option Instr → (ℕ → ℕ → Listing) → Listing
lined from none next = faulty from
lined from (some i) next = follow i (next (next_of i) (from + length (instr_text i)))

-- The instructions from place p on, whose lines begin at byte `from` of the text, of which there may be n more: one more is faulty.
module _ (D : Dictionary) (s : List ℕ) where
  unfoldable pub lines_from : ℕ → ℕ → ℕ → Listing
  lines_from zero p from = cond (ltb from (length s)) (faulty from) (listed [])
  lines_from (suc n) p from =
      let rest = lined from (instr_at D s p from) (lines_from n) in
      cond (ltb from (length s)) rest (listed [])

-- Jumps come after all the rest. The byte at which the lines of the first branch begin, of which a target is no instruction's start and not the end, where
-- the lines of the first instruction begin at `from`.
unfoldable pub astray_lines : List Instr → List Instr → ℕ → Option ℕ
astray_lines k [] from = none
astray_lines k (i ∷ rest) from =
    let later = astray_lines k rest (from + length (instr_text i)) in
    cond (targets_land k (targets_of i)) later (some from)

abbrev pub landed : List Instr → Option ℕ → Listing
landed k none = listed k
landed k (some from) = faulty from

unfoldable pub with_targets : Listing → Listing
with_targets (faulty from) = faulty from
with_targets (listed k) = landed k (astray_lines k k 0)

-- A whole text.
unfoldable pub read_listing : Dictionary → List ℕ → Listing
read_listing D s = with_targets (lines_from D s instruction_limit 0 0)

-- ---- the kernel that was read

-- The smallest short word, where an instruction is short.
unfoldable pub short_of : Dictionary → Instr → Option ℕ
short_of D i = cond (eqb i.size 1) (shorten D i.word) none

-- Its bytes.
unfoldable pub kernel_of : Dictionary → List Instr → List ℕ
kernel_of D [] = []
kernel_of D (i ∷ k) = encode (short_of D i) i.word ++ kernel_of D k

-- ---- the calls

-- What check refuses, then 14; how many bytes of text, and the text.
abbrev pub listed_as : List ℕ → Parsed → Written
listed_as out (bad number offset) = kept (refusal number offset) out
listed_as out (good k) = deliver (listing k) out

unfoldable pub list_call : List ℕ → List ℕ → List ℕ → Written
list_call dictionary kernel out = listed_as out (accepted long_and_short dictionary kernel)

-- 30, then 14; how many bytes of kernel, and the kernel.
abbrev pub read_as : Dictionary → List ℕ → Listing → Written
read_as D out (faulty from) = kept (refusal 30 from) out
read_as D out (listed k) = deliver (kernel_of D k) out

-- 1 of the dictionary alone: a text may have any length. Then 2.
unfoldable pub read_call : List ℕ → List ℕ → List ℕ → Written
read_call dictionary text out =
    let D = dictionary_of dictionary in
    cond (not (eqb (length dictionary) dictionary_bytes)) (kept (refusal 1 0) out)
    (cond (not (in_range D)) (kept (refusal 2 0) out)
    (read_as D out (read_listing D text)))
