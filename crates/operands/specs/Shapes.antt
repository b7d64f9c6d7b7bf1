-- The two plain shapes of a region: elements side by side, and one element for all channels. Assumes nothing.
use Rattle.std.specs.Prelude.{◌≡◌, List, ℕ, ◌+◌, ◌*◌, ◌/◌, ◌%◌, ◌<◌, get_or}
use Rattle.std.proofs.Common.{ap, sym, ◌∙◌, subst, arith, div-add-mod', mul-one, mul-zero}
use Rattle.paper.specs.Bits.{number_at}
use Rattle.paper.specs.Region.{Region, element_at}
use Rattle.words.specs.declared.region.Region as declared
use Rattle.lanes.specs.Mapped.{Mapped, mapped_weaker}
use Rattle.operands.specs.Reads.{Reads, ElementRead, ElementsRead}

-- The region of five numbers.
abbrev pub region_from : ℕ → ℕ → ℕ → ℕ → ℕ → declared.Region
region_from origin vert code horz size = record { origin = origin; vert = vert; code = code; horz = horz; size = size }

-- A region of elements of four bytes.
pub of_four : (r : declared.Region) → r.size ≡ 4 → region_from r.origin r.vert r.code r.horz 4 ≡ r
of_four r e = ap (λ (size : ℕ). region_from r.origin r.vert r.code r.horz size) (sym e)

-- Where HorzStride is 1 and VertStride is the width, the elements lie side by side.
pub beside_at : (r : Region) (k : ℕ) → r.horz ≡ 1 → r.vert ≡ r.wide → r.origin + k * r.size ≡ element_at r k
unfolding element_at
beside_at r k h v =
    let row : k / r.wide * r.wide + k % r.wide * 1 ≡ k = ap (λ (x : ℕ). k / r.wide * r.wide + x) (mul-one (k % r.wide)) ∙ div-add-mod' k r.wide in
    rw (h, v) (sym (ap (λ (x : ℕ). r.origin + x * r.size) row))

-- Where both strides are 0, all channels read one element.
pub single_at : (r : Region) (k : ℕ) → r.horz ≡ 0 → r.vert ≡ 0 → r.origin ≡ element_at r k
unfolding element_at
single_at r k h v = rw (h, v, mul-zero (k / r.wide), mul-zero (k % r.wide)) (omega arith)

-- ---- what is read

-- Elements at equal bytes are the same.
pub elements_same : (registers : List ℕ) (f g : ℕ → ℕ) (kind size n : ℕ) (old new : List ℕ) → ((k : ℕ) → k < n → f k ≡ g k)
    → ElementsRead registers f kind size n old new → ElementsRead registers g kind size n old new
unfolding ElementsRead
elements_same registers f g kind size n old new e m =
    mapped_weaker _ _ n old new (λ k a b h r. subst (λ (x : ℕ). ElementRead registers x kind size b) (e k h) r) m

-- One element for all channels.
pub elements_single : (registers : List ℕ) (from : ℕ) (f : ℕ → ℕ) (kind size n v : ℕ) (old new : List ℕ) → ((k : ℕ) → from ≡ f k)
    → ElementRead registers from kind size v → Mapped (λ k a b. b ≡ v) n old new → ElementsRead registers f kind size n old new
unfolding ElementsRead
elements_single registers from f kind size n v old new e r m =
    mapped_weaker _ _ n old new
    (λ k a b h q. subst (λ (y : ℕ). ElementRead registers (f k) kind size y) (sym q)
    (subst (λ (x : ℕ). ElementRead registers x kind size v) (e k) r)) m

-- Patterns that are read, and then what each means.
pub elements_patterns : (registers : List ℕ) (element : ℕ → ℕ) (kind size n : ℕ) (zeros patterns old new : List ℕ)
    → Mapped (λ k a b. b ≡ number_at registers (element k) size) n zeros patterns → Mapped (λ k a b. Reads kind (get_or patterns k 0) b) n old new
    → ElementsRead registers element kind size n old new
unfolding ElementsRead ElementRead
elements_patterns registers element kind size n zeros patterns old new read means =
    mapped_weaker _ _ n old new (λ k a b h r. subst (λ (x : ℕ). Reads kind x b) (read.done k h) r) means

-- Elements of an equal size are the same.
pub elements_sized : (registers : List ℕ) (f : ℕ → ℕ) (kind n : ℕ) (old new : List ℕ) (a b : ℕ) → a ≡ b
    → ElementsRead registers f kind b n old new → ElementsRead registers f kind a n old new
elements_sized registers f kind n old new a b e m = subst (λ (z : ℕ). ElementsRead registers f kind z n old new) (sym e) m
