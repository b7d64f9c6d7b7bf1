-- What a source reads is the paper's operand, channel by channel. Assumes nothing.
use Rattle.std.specs.Prelude.{◌≡◌, Bool, true, false, cond, ◌&&◌, List, ℕ, ◌+◌, ◌≤◌, ◌<◌, eqb, pos, length, get_or}
use Rattle.std.proofs.Math.Path.{sym, ap}
use Rattle.std.proofs.Common.{◌∙◌, subst, arith, ne_eqb, pow_mono, pow_pos}
use Rattle.paper.specs.Bits.{number_at}
use Rattle.paper.specs.Value.{type_f, type_vf, width, value, modified}
use Rattle.paper.specs.Word.{Source, exec_size, src_type, src_modifier, src_is_a0, is_immediate, immediate}
use Rattle.paper.specs.Legal.{bytes_in}
use Rattle.paper.specs.Region.{src_is_vector, Region, channels, element_at, src_region, operand_of}
use Rattle.paper.specs.Single.{sign_modified}
use Rattle.paper.specs.Element.{meaning}
use Rattle.paper.specs.Effect.{pattern_at, operand}
use Rattle.laws.specs.Values.{IsWhole}
use Rattle.laws.specs.Regions.{Inside}
use Rattle.element.specs.Biased.{ex, Near, Keeps, near_mono}
use Rattle.element.specs.Operands.{width_most}
use Rattle.lanes.specs.Mapped.{Mapped, mapped_weaker}
use Rattle.operands.specs.Reads.{Reads, ElementRead, ElementsRead}

-- Source x of a word can be read: there are 16 channels at most, its type is one of whole numbers, and what is no immediate lies inside its file.
pub record Readable (x : Source) (w : ℕ) : Type 0 where
  pub count : exec_size w ≤ 4
  pub type : IsWhole (src_type x w)
  pub whole : src_is_vector x w ≡ false
  pub inside : is_immediate x w ≡ false → Inside (bytes_in (src_is_a0 x w)) (src_region x w) (channels w)

-- Of sixteen numbers, each of the n first stands for what its channel of source x reads, as near to 0 as the type's values; the others stay.
unfoldable pub OperandRead : ℕ → List ℕ → Source → ℕ → List ℕ → List ℕ → Type 0
OperandRead w registers x n old new = Mapped (λ k a b. (ex b ≡ meaning (operand w registers x k)) × Near (width (src_type x w)) b) n old new

-- ---- operands

-- An element of whole numbers means what its type says.
whole-meaning : (kind modifier pattern : ℕ) → IsWhole kind
    → meaning (record { kind = kind; modifier = modifier; pattern = pattern }) ≡ modified modifier (value kind pattern)
whole-meaning kind modifier pattern h =
    ap (λ (b : Bool). cond b (pos (sign_modified modifier pattern)) (modified modifier (value kind pattern))) (ne_eqb kind type_f (λ e. omega arith))

-- So does what a source of whole numbers reads,
meaning_read : (w : ℕ) (registers : List ℕ) (x : Source) (k : ℕ) → Readable x w
    → meaning (operand w registers x k)
    ≡ modified (cond (is_immediate x w) 0 (src_modifier x w)) (value (src_type x w) (pattern_at registers (operand_of x w) k))
unfolding operand
meaning_read w registers x k is =
    let modifier : ℕ = cond (is_immediate x w) 0 (src_modifier x w) in
    let pattern : ℕ = pattern_at registers (operand_of x w) k in
    ap (λ (b : Bool). meaning (record { kind = cond b type_f (src_type x w); modifier = modifier; pattern = pattern })) is.whole
    ∙ whole-meaning (src_type x w) modifier pattern is.type

-- be it an immediate,
meaning_fixed : (w : ℕ) (registers : List ℕ) (x : Source) (k : ℕ) → Readable x w → is_immediate x w ≡ true
    → meaning (operand w registers x k) ≡ value (src_type x w) (immediate (width (src_type x w)) w)
unfolding pattern_at modified
meaning_fixed w registers x k is e =
    let other : eqb (src_type x w) type_vf ≡ false = ap (λ (b : Bool). b && eqb (src_type x w) type_vf) (sym e) ∙ is.whole in
    meaning_read w registers x k is ∙ rw (e, other)

-- or an element.
meaning_direct : (w : ℕ) (registers : List ℕ) (x : Source) (k : ℕ) → Readable x w → is_immediate x w ≡ false
    → meaning (operand w registers x k)
    ≡ modified (src_modifier x w) (value (src_type x w) (number_at registers (element_at (src_region x w) k) (src_region x w).size))
unfolding pattern_at
meaning_direct w registers x k is e = meaning_read w registers x k is ∙ rw e

module _ (w : ℕ) (registers : List ℕ) (x : Source) (n : ℕ) (old new : List ℕ) where
  -- An immediate, the same for all channels.
  pub operand_fixed : Readable x w → (kind pattern v : ℕ) → is_immediate x w ≡ true → kind ≡ src_type x w → pattern ≡ immediate (width (src_type x w)) w
      → Reads kind pattern v → Mapped (λ k a b. b ≡ v) n old new → OperandRead w registers x n old new
  unfolding OperandRead
  operand_fixed is kind pattern v e ek ep r m =
      let read : Reads (src_type x w) (immediate (width (src_type x w)) w) v = rw (← ep, ← ek) r in
      mapped_weaker _ _ n old new
      (λ k a b h q. let same : b ≡ v = q in (ap ex same ∙ read.0 ∙ sym (meaning_fixed w registers x k is e), rw same read.1)) m

  -- Elements, modified.
  pub operand_direct : Readable x w → (kind modifier : ℕ) (r : Region) (mid : List ℕ) → is_immediate x w ≡ false → kind ≡ src_type x w → modifier ≡ src_modifier x w → r ≡ src_region x w
      → ElementsRead registers (element_at r) kind r.size n old mid
      → Mapped (λ k a b. (ex b ≡ modified modifier (ex a)) × Keeps a b) n mid new → OperandRead w registers x n old new
  unfolding OperandRead ElementsRead ElementRead
  operand_direct is kind modifier r mid e ek em er m p =
      go (subst (λ (s : Region). ElementsRead registers (element_at s) (src_type x w) s.size n old mid) er
      (subst (λ (t : ℕ). ElementsRead registers (element_at r) t r.size n old mid) ek m))
      (subst (λ (t : ℕ). Mapped (λ k a b. (ex b ≡ modified t (ex a)) × Keeps a b) n mid new) em p)
    where
      go : ElementsRead registers (element_at (src_region x w)) (src_type x w) (src_region x w).size n old mid
          → Mapped (λ k a b. (ex b ≡ modified (src_modifier x w) (ex a)) × Keeps a b) n mid new → OperandRead w registers x n old new
      go m p =
          record {
            sixteen = p.sixteen;
            done = λ k q.
                let r = m.done k q in
                ((p.done k q).0 ∙ ap (modified (src_modifier x w)) r.0 ∙ sym (meaning_direct w registers x k is e), (p.done k q).1 (width (src_type x w)) r.1);
            kept = λ k q. p.kept k q ∙ m.kept k q;
          }

-- Elements of any type are no greater than a dword holds.
pub elements_near : (registers : List ℕ) (f : ℕ → ℕ) (kind size n : ℕ) (old new : List ℕ) → ElementsRead registers f kind size n old new
    → (k : ℕ) → k < n → Near 32 (get_or new k 0)
unfolding ElementsRead ElementRead
elements_near registers f kind size n old new m k h = near_mono (width_most kind) (m.done k h).1

pub elements_sixteen : (registers : List ℕ) (f : ℕ → ℕ) (kind size n : ℕ) (old new : List ℕ) → ElementsRead registers f kind size n old new → length new ≡ 16
unfolding ElementsRead
elements_sixteen registers f kind size n old new m = m.sixteen

-- ---- what gathering asks for

-- There are 16 channels at most, and one at least.
pub count-channels : (w : ℕ) → exec_size w ≤ 4 → channels w ≤ 16
count-channels w h = omega (arith, pow_mono {i = exec_size w} {j = 4} h)

pub channels_some : (w : ℕ) → 0 < channels w
channels_some w = pow_pos (exec_size w)

-- What is gathered lies inside the file.
pub region_read : (x : Source) (w : ℕ) (r : Region) → Readable x w → is_immediate x w ≡ false → r ≡ src_region x w
    → (n bytes : ℕ) → n ≡ channels w → bytes ≡ bytes_in (src_is_a0 x w) → (k : ℕ) → k < n → element_at r k + r.size ≤ bytes
region_read x w r readable e er n bytes count size k q =
    subst (λ (s : Region). element_at s k + s.size ≤ bytes) (sym er) (rw size (readable.inside e k (rw (← count) q)))
