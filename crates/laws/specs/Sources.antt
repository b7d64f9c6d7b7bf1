-- The sources that an operation reads: src0 alone, or src0 and src1. Assumes nothing.
use Rattle.std.specs.Prelude.{◌≡◌, refl, Bool, true, false, cond, eqb, length}
use Rattle.std.proofs.Common.{sym, ap, ◌∙◌, subst}
use mathlib.Core.List.{List, [], ◌∷◌, Memᴰ}
use Rattle.paper.specs.Word.{Source, src0, src1}
use Rattle.paper.specs.Operation.{Plain, sources}

-- There is a second source among them.
abbrev pub has_second : List Source → Bool
has_second [] = false
has_second (x ∷ []) = false
has_second (x ∷ (y ∷ l)) = true

-- The operation reads two sources.
abbrev pub reads_two : Plain → Bool
reads_two p = has_second (sources p)

-- The sources, by whether there are two.
abbrev pub one_or_two : Bool → List Source
one_or_two b = cond b (src0 ∷ src1 ∷ []) (src0 ∷ [])

-- Every operation reads src0, and those of two sources src1 after it. What follows goes by this, and has no clause for an operation.
pub sources_told : (p : Plain) → sources p ≡ one_or_two (reads_two p)
sources_told Plain.mov = refl
sources_told Plain.sel = refl
sources_told Plain.not = refl
sources_told Plain.and = refl
sources_told Plain.or = refl
sources_told Plain.xor = refl
sources_told Plain.shr = refl
sources_told Plain.shl = refl
sources_told Plain.asr = refl
sources_told Plain.cmp = refl
sources_told Plain.add = refl
sources_told Plain.mul = refl
sources_told Plain.avg = refl

-- The rules' test, that there are 2, is this one.
pub two_counted : (p : Plain) → eqb (length (sources p)) 2 ≡ reads_two p
two_counted p = ap (λ (l : List Source). eqb (length l) 2) (sources_told p) ∙ go (reads_two p)
  where
    go : (t : Bool) → eqb (length (one_or_two t)) 2 ≡ t
    go true = refl
    go false = refl

pub first_source : (p : Plain) → Memᴰ src0 (sources p)
first_source p = subst (Memᴰ src0) (sym (sources_told p)) (go (reads_two p))
  where
    go : (t : Bool) → Memᴰ src0 (one_or_two t)
    go true = Memᴰ.head refl
    go false = Memᴰ.head refl

pub second_source : (p : Plain) → reads_two p ≡ true → Memᴰ src1 (sources p)
second_source p e = subst (Memᴰ src1) (sym (sources_told p ∙ ap one_or_two e)) (Memᴰ.tail (Memᴰ.head refl))

pub one_source : (p : Plain) → reads_two p ≡ false → sources p ≡ src0 ∷ []
one_source p e = sources_told p ∙ ap one_or_two e
