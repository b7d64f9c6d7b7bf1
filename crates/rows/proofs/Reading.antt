-- Reading a number on from a place: what one byte more does. Assumes nothing.
use Rattle.std.specs.Prelude.{Option, None, Some, unwrap_or}
use Rattle.std.proofs.Common.{◌≡◌, ℕ, ◌+◌, ◌*◌, ◌<◌, ◌≤◌, List, length, get_or, drop, sym, add-one, drop_of_length-le, drop-cons, le-leb}
use borrow.Author.Tests.{lt-leb}
use Rattle.rows.specs.Text.{digit_of, digit_more, hex_from}

-- `whole` is what the text writes, if `number` is what its first i bytes write.
module _ (whole number : Option ℕ) (text : List ℕ) (i : ℕ) (passed : whole ≡ hex_from number (drop i text)) where
  -- The text ends here.
  pub hex_end : length text ≤ i → number ≡ whole
  unfolding hex_from
  hex_end h = sym (rw (drop_of_length-le text {i = i} h) at passed)

  -- So does the field.
  pub hex_stop : i < length text → get_or text i 0 ≤ 32 → number ≡ whole
  unfolding hex_from
  hex_stop h e = sym (rw (drop-cons text i 0 h, le-leb _ _ e) at passed)

  -- What is no digit makes it no number.
  pub hex_none : i < length text → 32 < get_or text i 0 → digit_of (get_or text i 0) ≡ None → None ≡ whole
  unfolding hex_from digit_more
  hex_none h e d = sym (rw (drop-cons text i 0 h, lt-leb _ _ e, d) at passed)

  -- So does a digit too many.
  pub hex_wide : i < length text → 32 < get_or text i 0 → (d : ℕ) → digit_of (get_or text i 0) ≡ Some d → 268435456 ≤ unwrap_or number 0 → None ≡ whole
  unfolding hex_from digit_more
  hex_wide h e d is w = sym (rw (drop-cons text i 0 h, lt-leb _ _ e, is, le-leb _ _ w) at passed)

  -- Any other is a digit more.
  pub hex_on : i < length text → 32 < get_or text i 0 → (d : ℕ) → digit_of (get_or text i 0) ≡ Some d → unwrap_or number 0 < 268435456
      → whole ≡ hex_from (Some (unwrap_or number 0 * 16 + d)) (drop (i + 1) text)
  unfolding hex_from digit_more
  hex_on h e d is w = rw (add-one i) (rw (drop-cons text i 0 h, lt-leb _ _ e, is, lt-leb _ _ w) at passed)
