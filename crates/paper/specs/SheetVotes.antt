-- Any and all, over groups of 2, 4, 8 and 16: rows worked out from 02 §2 by hand. Steps by them stand in crate `worked`. Assumes nothing.
use Rattle.std.specs.Prelude.{List, [], ◌∷◌, map, ℕ, ◌+◌}
use Rattle.paper.specs.Bits.{◌at◌}
use Rattle.paper.specs.Enable.{of_bits, predicate}
use Rattle.paper.specs.Assembler.{to, from0, immediate1, op, structured_to, jmpi_to, nop_word}
use Rattle.paper.specs.Sheet.{Row, ◌gives◌}
use Rattle.paper.specs.SheetMore.{sevens}
use Rattle.paper.specs.SheetRefusals.{second_word}

-- ---- the predicates of the 16 channels

-- They are given as one number, for PredInv 0 and for PredInv 1.
unfoldable pub predicates : ℕ → ℕ → List ℕ
predicates control flag = map (λ inversion. of_bits (predicate control inversion flag) 16) (0 ∷ 1 ∷ [])

unfoldable pub rows_vote : List Row
rows_vote =
    -- no predicate, inverted or not; and each channel by itself
    (predicates 0 0xA5C3 gives 0xFFFF ∷ 0xFFFF ∷ [])
    ∷ (predicates 1 0xA5C3 gives 0xA5C3 ∷ 0x5A3C ∷ [])
    -- groups of 2 with the bits 00, 01, 10 and 11, from channel 0 on; the eight channels above them have none
    ∷ (predicates 4 0x00E4 gives 0x00FC ∷ 0xFF03 ∷ [])
    ∷ (predicates 5 0x00E4 gives 0x00C0 ∷ 0xFF3F ∷ [])
    -- groups of 4 with no bit, the first, all, and the last
    ∷ (predicates 6 0x8F10 gives 0xFFF0 ∷ 0x000F ∷ [])
    ∷ (predicates 7 0x8F10 gives 0x0F00 ∷ 0xF0FF ∷ [])
    -- groups of 8 with no bit and one; with all but one and all
    ∷ (predicates 8 0x0800 gives 0xFF00 ∷ 0x00FF ∷ [])
    ∷ (predicates 9 0xFFF7 gives 0xFF00 ∷ 0x00FF ∷ [])
    -- the group of 16 with no bit, one, all but one, and all
    ∷ (predicates 10 0 gives 0 ∷ 0xFFFF ∷ [])
    ∷ (predicates 10 0x0400 gives 0xFFFF ∷ 0 ∷ [])
    ∷ (predicates 11 0xFBFF gives 0 ∷ 0xFFFF ∷ [])
    ∷ (predicates 11 0xFFFF gives 0xFFFF ∷ 0 ∷ [])
    ∷ []

-- ---- 7 and 8

-- mov of the word 7 into words of r4, at a code of ExecSize and a PredCtrl: what the bench says of it.
unfoldable pub votes_at : ℕ → ℕ → List ℕ
votes_at size control = second_word (sevens size + control at 16)

-- if, else, endif or while with a PredCtrl.
unfoldable pub branch_votes : ℕ → ℕ → List ℕ
branch_votes code control = second_word (structured_to code 2 + control at 16)

-- sel of r2's dwords with a PredCtrl.
unfoldable pub sel_votes : ℕ → List ℕ
sel_votes control = second_word (op 0x02 3 + control at 16 + to 1 4 0 + from0 1 2 0 4 3 1 + immediate1 0 1)

unfoldable pub rows_vote_refused : List Row
rows_vote_refused =
    -- codes that are not served
    (votes_at 4 2 gives 7 ∷ 16 ∷ 0 ∷ [])
    ∷ (votes_at 4 3 gives 7 ∷ 16 ∷ 0 ∷ [])
    ∷ (votes_at 4 12 gives 7 ∷ 16 ∷ 0 ∷ [])
    ∷ (votes_at 4 13 gives 7 ∷ 16 ∷ 0 ∷ [])
    ∷ (votes_at 4 14 gives 7 ∷ 16 ∷ 0 ∷ [])
    ∷ (votes_at 4 15 gives 7 ∷ 16 ∷ 0 ∷ [])
    -- a group as large as ExecSize, and one that is larger
    ∷ (votes_at 4 11 gives 0 ∷ 0 ∷ 2 ∷ [])
    ∷ (votes_at 3 10 gives 7 ∷ 16 ∷ 0 ∷ [])
    ∷ (votes_at 3 9 gives 0 ∷ 0 ∷ 2 ∷ [])
    ∷ (votes_at 2 8 gives 7 ∷ 16 ∷ 0 ∷ [])
    ∷ (votes_at 2 7 gives 0 ∷ 0 ∷ 2 ∷ [])
    ∷ (votes_at 1 6 gives 7 ∷ 16 ∷ 0 ∷ [])
    ∷ (votes_at 1 5 gives 0 ∷ 0 ∷ 2 ∷ [])
    ∷ (votes_at 0 4 gives 7 ∷ 16 ∷ 0 ∷ [])
    ∷ (votes_at 0 1 gives 0 ∷ 0 ∷ 2 ∷ [])
    -- branches: all served codes on if, else, endif and while, 0 and 1 on jmpi
    ∷ (branch_votes 0x22 10 gives 0 ∷ 0 ∷ 2 ∷ [])
    ∷ (branch_votes 0x24 4 gives 0 ∷ 0 ∷ 2 ∷ [])
    ∷ (branch_votes 0x25 7 gives 0 ∷ 0 ∷ 2 ∷ [])
    ∷ (branch_votes 0x27 9 gives 0 ∷ 0 ∷ 2 ∷ [])
    ∷ (branch_votes 0x25 3 gives 7 ∷ 16 ∷ 0 ∷ [])
    ∷ (second_word (jmpi_to 0 + 1 at 16) gives 0 ∷ 0 ∷ 2 ∷ [])
    ∷ (second_word (jmpi_to 0 + 4 at 16) gives 7 ∷ 16 ∷ 0 ∷ [])
    ∷ (second_word (jmpi_to 0 + 11 at 16) gives 7 ∷ 16 ∷ 0 ∷ [])
    -- sel takes any code but 0, of those that are served
    ∷ (sel_votes 0 gives 8 ∷ 16 ∷ 0 ∷ [])
    ∷ (sel_votes 1 gives 0 ∷ 0 ∷ 2 ∷ [])
    ∷ (sel_votes 8 gives 0 ∷ 0 ∷ 2 ∷ [])
    ∷ (sel_votes 3 gives 7 ∷ 16 ∷ 0 ∷ [])
    ∷ (sel_votes 10 gives 7 ∷ 16 ∷ 0 ∷ [])
    -- nop's PredCtrl is not judged
    ∷ (second_word (nop_word + 15 at 16) gives 0 ∷ 0 ∷ 2 ∷ [])
    ∷ []
