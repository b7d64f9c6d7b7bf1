-- A value that was written as a pattern is read back as itself, so a chain of operations on patterns is the chain on values, written at its end. Assumes nothing.
use Rattle.std.specs.Prelude.{◌≡◌, true, ℕ, T, Float}
use Rattle.std.proofs.Common.{sym, ◌∙◌, subst}
use Rattle.std.specs.Float.{binary32}
use Rattle.std.specs.Float.Ieee.{fits, add, mul}
use Rattle.std.specs.Float.Ieee.Bits.{of_bits-to_bits}
use Rattle.std.specs.Float.Ieee.Fits.{add-fits, mul-fits}
use Rattle.paper.specs.Single.{float, pattern, sum}
use Rattle.paper.specs.Placing.{placed_value, placed}

-- What a single float holds: every value of Rattle's f32 is such a one, a NaN too.
abbrev pub Single : Float → Type 0
Single v = fits binary32 v ≡ true

pub read_back : (v : Float) → Single v → float (pattern v) ≡ v
read_back v h = of_bits-to_bits binary32 v (subst T (sym h) tt)

pub sum_read : (x y : Float) → float (pattern (add binary32 x y)) ≡ add binary32 x y
sum_read x y = of_bits-to_bits binary32 (add binary32 x y) (add-fits binary32 x y)

pub product_read : (x y : Float) → float (pattern (mul binary32 x y)) ≡ mul binary32 x y
product_read x y = of_bits-to_bits binary32 (mul binary32 x y) (mul-fits binary32 x y)

-- ---- the placement formula: whatever six patterns a kernel has, NaN's among them

pub placed_patterns : (a b c x y : ℕ) → placed a b c x y ≡ pattern (placed_value (float a) (float b) (float c) (float x) (float y))
placed_patterns a b c x y = rw (product_read (float a) (float x), product_read (float b) (float y), sum_read)

-- ---- and where they were loaded from floats

pub placed_loaded : (a b c x y : Float) → Single a → Single b → Single c → Single x → Single y
    → placed (pattern a) (pattern b) (pattern c) (pattern x) (pattern y) ≡ pattern (placed_value a b c x y)
placed_loaded a b c x y ha hb hc hx hy =
    placed_patterns (pattern a) (pattern b) (pattern c) (pattern x) (pattern y)
    ∙ rw (read_back a ha, read_back b hb, read_back c hc, read_back x hx, read_back y hy)

pub shifted_loaded : (x c : Float) → Single x → Single c → sum (pattern x) (pattern c) ≡ pattern (add binary32 x c)
shifted_loaded x c hx hc = rw (read_back x hx, read_back c hc)
