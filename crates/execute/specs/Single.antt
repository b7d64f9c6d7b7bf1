-- One channel's result as the sixteen of an array, of which the others are 0. Assumes nothing.
use Rattle.std.specs.Prelude.{◌≡◌, refl, Bool, false, List, ℕ, zero, suc, ◌+◌, ◌%◌, ◌^◌, ◌≤◌, ◌<◌, eqb}
use Rattle.std.proofs.Common.{sym, ◌∙◌, subst, arith, lit<}
use Rattle.std.proofs.Math.Path.{ap}
use Rattle.std.proofs.Math.Bool.{cond}
use Rattle.std.proofs.Math.ListN.{get_or}
use Rattle.paper.specs.Legal.{bytes_in}
use Rattle.paper.specs.Bits.{bit, put_at}
use Rattle.paper.specs.Word.{src0, cond_modifier, saturate, dst_type, is_null, dst_is_a0}
use Rattle.paper.specs.Value.{width, stored}
use Rattle.paper.specs.Element.{result}
use Rattle.paper.specs.Region.{Region, channels, dst_size, dst_element}
use Rattle.paper.specs.Enable.{of_bits}
use Rattle.paper.specs.Effect.{scattered}
use Rattle.words.specs.Operations.{plain_is}
use Rattle.laws.specs.Regions.{dst_region}
use Rattle.words.specs.declared.operation.Plain.{Plain}
use Rattle.element.specs.Biased.{ex, Near}
use Rattle.operands.specs.Sources.{OperandRead}
use Rattle.operands.specs.Single.{alone, none, mapped_alone}
use Rattle.execute.specs.Readable.{Counting, Writable}
use Rattle.execute.specs.Results.{SecondRead, Combined, Kept, Makes, results_made}
use Rattle.execute.specs.Compared.{lowest_bits, lowest_more}
use Rattle.execute.specs.Effects.{written}

-- What stands for 0 is near.
pub zero_near : (v : ℕ) → v ≡ 2 ^ 63 → (k : ℕ) → k < 1 → Near 8 (get_or (alone v) k 0)
zero_near v e zero h = rw e (record { above = lit< tt; below = lit< tt })
zero_near v e (suc k) h = absurd (omega arith)

-- The result of one channel's operands is what the channel makes.
pub made_alone : (p : Plain) (w : ℕ) (registers : List ℕ) (a b : ℕ) → OperandRead w registers src0 1 none (alone a)
    → SecondRead (plain_is p) w registers 1 (alone b) → Counting (plain_is p) w → channels w ≡ 1 → (predicate c kind : ℕ) (saturated : Bool) (v r : ℕ)
    → c ≡ cond_modifier w → kind ≡ dst_type w → saturated ≡ eqb (saturate w) 1
    → ex v ≡ result (plain_is p) c (bit predicate 0) (ex a) (ex b) → r % 2 ^ width kind ≡ stored saturated kind (ex v)
    → Makes (plain_is p) w predicate registers (alone r)
unfolding Combined Kept
made_alone p w registers a b ra rb legal one predicate c kind saturated v r ec ek es computed kept =
    results_made p w registers 1 none (alone a) (alone b) ra rb legal predicate c kind saturated (alone v) (alone r) (sym one) ec ek es
    (mapped_alone (λ k x y. ex y ≡ result (plain_is p) c (bit predicate k) (ex x) (ex (get_or (alone b) k 0))) a v computed)
    (mapped_alone (λ k x y. y % 2 ^ width kind ≡ stored saturated kind (ex x)) v r kept)

-- Its lowest bit is the mask of the lowest bits.
pub lowest_alone : (w v : ℕ) → channels w ≡ 1 → v % 2 ≡ lowest_bits (alone v) (channels w)
unfolding lowest_bits of_bits
lowest_alone w v one = go (channels w) one
  where
    none_yet : lowest_bits (alone v) 0 ≡ 0
    none_yet = refl

    go : (n : ℕ) → n ≡ 1 → v % 2 ≡ lowest_bits (alone v) n
    go n e = rw e (omega (arith, none_yet, lowest_more (alone v) 0 (lit< tt)))

-- ---- what is stored

module _ (w : ℕ) (one : channels w ≡ 1) (r : Region) (is : r ≡ dst_region w) (kept : is_null w ≡ false) where
  first_byte : dst_element w 0 ≡ r.origin
  first_byte = rw is (omega arith)

  -- It lies inside its file.
  pub store_inside : Writable w → (bytes : ℕ) → bytes ≡ bytes_in (dst_is_a0 w) → r.origin + r.size ≤ bytes
  store_inside writable bytes e =
      let h = writable.inside kept 0 (omega (arith, one)) in
      rw (e, ap (λ (s : Region). s.size) is) (subst (λ (at : ℕ). at + dst_size w ≤ bytes_in (dst_is_a0 w)) first_byte h)

  -- One channel's store is what is written.
  pub written-alone : (enable v : ℕ) (registers after : List ℕ) → after ≡ cond (bit enable 0) (put_at registers r.origin r.size v) registers
      → after ≡ written w enable registers (alone v)
  unfolding written scattered
  written-alone enable v registers after e = e ∙ rw kept (sym (stores (channels w) one))
    where
      stores : (n : ℕ) → n ≡ 1
          → scattered registers (dst_element w) (dst_size w) (bit enable) (λ k. get_or (alone v) k 0) n
          ≡ cond (bit enable 0) (put_at registers r.origin r.size v) registers
      stores n h = rw (h, ← first_byte, ap (λ (s : Region). s.size) is)
