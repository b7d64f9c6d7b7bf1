-- The eight words of the fixed kernel of 02 §8, and that they are accepted with every legal dictionary. Assumes nothing.
use Rattle.std.specs.Prelude.{Bool, true, not, ◌&&◌, List, [], ◌∷◌, ◌++◌, ◌≡◌, refl, ℕ, ◌+◌, ◌*◌, ◌^◌, eqb, ltb, length}
use Rattle.std.proofs.Math.Option.{none}
use Rattle.std.proofs.Common.{ap, ◌∙◌, lit≤, eq-eqb, eqb-true, ltb-true}
use Rattle.std.proofs.Math.Pow.{are_bytes}
use Rattle.std.proofs.lemmas.Bool.{not-true}
use Rattle.paper.specs.Bits.{bytes_of}
use Rattle.paper.specs.Limits.{dictionary_bytes}
use Rattle.paper.specs.Word.{immediate_form}
use Rattle.paper.specs.Operation.{operation_of, operation, is_listed}
use Rattle.paper.specs.Dictionary.{Dictionary, dictionary_of, in_range}
use Rattle.paper.specs.Expand.{is_short}
use Rattle.paper.specs.Region.{element_at}
use Rattle.paper.specs.Legal.{reserved_set, control_served, dst_served, src_served, uses_a0, moves_words, uses_floats, floats_served, plain_served, mixed, operand_rule_broken, hangs, shape_refused, shape_broken, alignment_broken, too_far, reach_broken, later, refusal_of}
use Rattle.paper.specs.Kernel.{Instr, long_and_short, good, parse}
use Rattle.paper.specs.Jump.{with_jumps, first_astray}
use Rattle.paper.specs.Assembler.{to, from0, from1, op, long}
use Rattle.paper.specs.Placing.{place_kernel}
use Rattle.paper.specs.Calls.{verdict, judged_kernel, accepted, check_call}
use Rattle.laws.specs.Truth.{both_true}
use Rattle.laws.specs.Expand.{expand-operation}
use Rattle.laws.specs.Items.{Item, all_bytes, instrs_from, is_long, AllFormed, parse_items}

-- ---- the words

-- Float k of the record times x, into two registers;
unfoldable pub times_x : ℕ → ℕ → ℕ
times_x register k = op 0x41 4 + to 7 register 0 + from0 7 6 (4 * k) 0 0 0 + from1 7 2 0 4 3 1

-- float k of the record times y, into r12 and r13;
unfoldable pub times_y : ℕ → ℕ
times_y k = op 0x41 4 + to 7 12 0 + from0 7 6 (4 * k) 0 0 0 + from1 7 4 0 4 3 1

-- the two products' sum;
unfoldable pub both_times : ℕ → ℕ
both_times register = op 0x40 4 + to 7 register 0 + from0 7 register 0 4 3 1 + from1 7 12 0 4 3 1

-- and float k of the record added to it.
unfoldable pub shifted : ℕ → ℕ → ℕ
shifted register k = op 0x40 4 + to 7 register 0 + from0 7 register 0 4 3 1 + from1 7 6 (4 * k) 0 0 0

-- The eight.
abbrev pub place_words : List ℕ
place_words = times_x 8 0 ∷ times_y 1 ∷ both_times 8 ∷ shifted 8 2 ∷ times_x 10 3 ∷ times_y 4 ∷ both_times 10 ∷ shifted 10 5 ∷ []

-- They are the kernel.
pub kernel_words : place_kernel ≡ long place_words
unfolding place_kernel times_x times_y both_times shifted to from0 from1 op
kernel_words = refl

-- ---- each passes

-- A word is listed, breaks no rule, and is a long one of 128 bits.
passes : ℕ → Bool
passes w = is_listed (operation w) && (eqb (refusal_of w) 0 && (ltb w (2 ^ 128) && not (is_short w)))

-- So is every word of a list.
all_pass : List ℕ → Bool
all_pass [] = true
all_pass (w ∷ ws) = passes w && all_pass ws

-- The eight are, as is computed.
eight_pass : all_pass place_words ≡ true
unfolding all_pass passes times_x times_y both_times shifted to from0 from1 op operation_of immediate_form reserved_set control_served dst_served src_served uses_a0 moves_words uses_floats floats_served plain_served mixed operand_rule_broken hangs shape_refused shape_broken alignment_broken too_far reach_broken later refusal_of element_at
eight_pass = refl

-- ---- the kernel is accepted

-- Words as items that are laid out long.
long_items : List ℕ → List Item
long_items [] = []
long_items (w ∷ ws) = record { short = none; word = w } ∷ long_items ws

-- They are the same bytes,
items_bytes : (ws : List ℕ) → long ws ≡ all_bytes (long_items ws)
unfolding long_items all_bytes long
items_bytes [] = refl
items_bytes (w ∷ ws) = ap (λ (l : List ℕ). bytes_of 16 w ++ l) (items_bytes ws)

-- and are formed as they should be, if each word passes, whatever the dictionary.
items_formed : (D : Dictionary) (ws : List ℕ) → all_pass ws ≡ true → AllFormed long_and_short D (long_items ws)
unfolding all_pass passes long_items AllFormed
items_formed D [] h = tt
items_formed D (w ∷ ws) h =
    let p = both_true (passes w) (all_pass ws) h in
    let q = both_true (is_listed (operation w)) _ p.0 in
    let r = both_true (eqb (refusal_of w) 0) _ q.1 in
    let t = both_true (ltb w (2 ^ 128)) _ r.1 in (
      record { listed = q.0; passes = eqb-true (refusal_of w) 0 r.0 },
      is_long (ltb-true w (2 ^ 128) t.0) (not-true (is_short w) t.1),
      items_formed D ws p.1,
    )

-- A long instruction takes two places.
abbrev pub two_at : ℕ → ℕ → Instr
two_at place word = record { place = place; size = 2; word = word }

-- The kernel's instructions.
unfoldable pub place_instrs : List Instr
place_instrs =
    two_at 0 (times_x 8 0)
    ∷ two_at 2 (times_y 1)
    ∷ two_at 4 (both_times 8)
    ∷ two_at 6 (shifted 8 2)
    ∷ two_at 8 (times_x 10 3)
    ∷ two_at 10 (times_y 4)
    ∷ two_at 12 (both_times 10)
    ∷ two_at 14 (shifted 10 5)
    ∷ []

-- So it parses to them,
kernel_parses : (D : Dictionary) → parse long_and_short D place_kernel ≡ good place_instrs
unfolding place_instrs long_items instrs_from
kernel_parses D =
    parse_items long_and_short D (expand-operation D) place_kernel (long_items place_words) (lit≤ tt) (kernel_words ∙ items_bytes place_words) (items_formed D place_words eight_pass)

-- none of them jumps,
no_jump : with_jumps (good place_instrs) ≡ good place_instrs
unfolding with_jumps first_astray place_instrs times_x times_y both_times shifted to from0 from1 op operation_of
no_jump = refl

-- and it has 128 bytes.
pub kernel_length : length place_kernel ≡ 128
unfolding place_kernel long bytes_of
kernel_length = refl

-- So with every legal dictionary the kernel is accepted as these eight.
pub kernel_accepted : (dictionary : List ℕ) → length dictionary ≡ dictionary_bytes → in_range (dictionary_of dictionary) ≡ true
    → accepted long_and_short dictionary place_kernel ≡ good place_instrs
unfolding accepted judged_kernel
kernel_accepted dictionary sized legal =
    rw (eq-eqb (length dictionary) dictionary_bytes sized, kernel_length, legal, kernel_parses (dictionary_of dictionary)) no_jump

-- And a check says so.
pub kernel_checked : (dictionary : List ℕ) → length dictionary ≡ dictionary_bytes → in_range (dictionary_of dictionary) ≡ true
    → check_call dictionary place_kernel ≡ verdict 0 8
unfolding check_call place_instrs
kernel_checked dictionary sized legal = rw (kernel_accepted dictionary sized legal)

-- It is bytes.
pub kernel_bytes : are_bytes place_kernel ≡ true
unfolding place_kernel long bytes_of to from0 from1 op
kernel_bytes = refl
