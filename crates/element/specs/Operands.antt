-- What an operation's operands have to be, and what is known of types and modifiers there. Assumes nothing.
use Rattle.std.specs.Prelude.{◌≡◌, refl, Bool, true, false, cond, List, [], ◌∷◌, ℕ, ◌*◌, ◌≤◌, ltb, ℤ}
use Rattle.std.proofs.Common.{arith, lit≤, lt-ltb, le-ltb}
use Rattle.paper.specs.Operation as paper
use Rattle.paper.specs.Word.{Source, src0, src1}
use Rattle.paper.specs.Value.{width, modified}
use Rattle.paper.specs.Element.{result}
use Rattle.laws.specs.Values.{IsWhole, by_code}
use Rattle.words.specs.Operations.{plain_is}
use Rattle.words.specs.declared.operation.Plain.{Plain}
use Rattle.element.specs.Biased.{Near}

-- Operands are no greater than a dword holds; mul's no greater than a word holds.
pub record Operands (p : Plain) (a b : ℕ) : Type 0 where
  pub first : Near 32 a
  pub second : Near 32 b
  pub factors : plain_is p ≡ paper.mul → Near 16 a × Near 16 b

-- A type has 32 bits at most.
pub width_most : (t : ℕ) → width t ≤ 32
width_most = by_code (λ size bits. bits ≤ 32) (lit≤ tt) (lit≤ tt) (lit≤ tt) (lit≤ tt)

-- A word or a byte has 16 at most.
pub width_short : (t : ℕ) → 2 ≤ t → IsWhole t → width t ≤ 16
width_short t h is = rw (le-ltb t 2 h, lt-ltb t 6 is) (pick (ltb t 4))
  where
    pick : (q : Bool) → 8 * cond q 2 1 ≤ 16
    pick true = lit≤ tt
    pick false = lit≤ tt

-- No modifier changes nothing: so an immediate is read with modifier 0.
pub modified_none : (v : ℤ) → modified 0 v ≡ v
unfolding modified
modified_none v = refl

-- ---- operations that read one source

two_one : ◌≡◌ {A = List Source} (src0 ∷ src1 ∷ []) (src0 ∷ []) → ⊥
two_one e = let z : ◌≡◌ {A = ℕ} 0 1 = cc in omega arith

-- What reads src0 alone makes the same of any second value: so any pattern serves for the source that is not read.
pub result_one : (p : paper.Plain) (c : ℕ) (h : Bool) (a b b' : ℤ) → paper.sources p ≡ src0 ∷ [] → result p c h a b ≡ result p c h a b'
unfolding result
result_one paper.mov c h a b b' e = refl
result_one paper.sel c h a b b' e = absurd (two_one e)
result_one paper.not c h a b b' e = refl
result_one paper.and c h a b b' e = absurd (two_one e)
result_one paper.or c h a b b' e = absurd (two_one e)
result_one paper.xor c h a b b' e = absurd (two_one e)
result_one paper.shr c h a b b' e = absurd (two_one e)
result_one paper.shl c h a b b' e = absurd (two_one e)
result_one paper.asr c h a b b' e = absurd (two_one e)
result_one paper.cmp c h a b b' e = absurd (two_one e)
result_one paper.add c h a b b' e = absurd (two_one e)
result_one paper.mul c h a b b' e = absurd (two_one e)
result_one paper.avg c h a b b' e = absurd (two_one e)
