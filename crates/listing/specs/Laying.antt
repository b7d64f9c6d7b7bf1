-- A pass over a text that can be read that lays down its kernel's bytes. Assumes nothing.
use Rattle.std.specs.Prelude.{cond, ◌≡◌, refl, ℕ, zero, suc, ◌+◌, ◌*◌, ◌/◌, ◌%◌, ◌<◌, ◌≤◌, eqb, length, set}
use mathlib.Core.List.{List, ◌∷◌, ◌++◌}
use Rattle.std.proofs.Math.Option.{Option, none}
use Rattle.std.proofs.Math.Path.{sym, ap, subst}
use Rattle.std.proofs.Common.{◌∙◌, arith, add-one, length-append, eq-eqb, ne_eqb}
use Rattle.std.proofs.Math.Seq.{sets}
use Rattle.paper.specs.Bits.{put_at, bytes_of}
use Rattle.paper.specs.Dictionary.{Dictionary, dictionary_of}
use Rattle.paper.specs.Shorten.{shorten}
use Rattle.paper.specs.Kernel.{Instr}
use Rattle.paper.specs.Packing.{encode}
use Rattle.paper.specs.Listing.{instr_text, candidate, short_of, kernel_of}
use Rattle.text.specs.Written.{sets-append}
use Rattle.laws.specs.Items.{length-encode}
use Rattle.kernel.specs.Jumps.{instr_of}
use Rattle.listing.specs.Texts.{Readable}
use Rattle.listing.specs.Kernels.{one_form}
use Rattle.listing.specs.Again.{lines_in, CanRead, Coming, coming_all, none-coming, Next, next_coming}

-- Bytes stored one after the other.
pub put_sets : (n : ℕ) (l : List ℕ) (from v : ℕ) → put_at l from n v ≡ sets l from (bytes_of n v)
unfolding put_at bytes_of
put_sets zero l from v = refl
put_sets (suc n) l from v =
    ap (λ (x : ℕ). put_at (set l from (v % 256)) x n (v / 256)) (add-one from) ∙ put_sets n (set l from (v % 256)) (suc from) (v / 256)

-- The short word, if any, of a word in the form of so many places.
abbrev pub form_in : Dictionary → ℕ → ℕ → Option ℕ
form_in D size w = cond (eqb size 1) (shorten D w) none

pub form_none : (D : Dictionary) (size w : ℕ) → (size ≡ 1 → ⊥) → encode (form_in D size w) w ≡ bytes_of 16 w
form_none D size w h = rw (ne_eqb size 1 h)

pub form_is : (D : Dictionary) (size w : ℕ) → size ≡ 1 → (o : Option ℕ) → o ≡ shorten D w → encode (form_in D size w) w ≡ encode o w
form_is D size w h o e = rw (eq-eqb size 1 h, e)

-- ---- the pass

-- The bytes of the instructions before place p stand in `out`, and nothing else of it has changed.
pub record Laying (dictionary s out₀ out : List ℕ) (p from : ℕ) : Type 0 where
  pub rest : List Instr
  pub coming : Coming (dictionary_of dictionary) s p from rest
  pub reaches : 8 * p + length (kernel_of (dictionary_of dictionary) rest) ≡ length (kernel_of (dictionary_of dictionary) (lines_in dictionary s))
  pub is : sets out (8 * p) (kernel_of (dictionary_of dictionary) rest) ≡ sets out₀ 0 (kernel_of (dictionary_of dictionary) (lines_in dictionary s))

module _ (dictionary s out₀ : List ℕ) where
  pub laying_start : CanRead dictionary s → Laying dictionary s out₀ out₀ 0 0
  laying_start r = record { rest = lines_in dictionary s; coming = coming_all dictionary s r; reaches = omega arith; is = refl }

  module _ (out : List ℕ) (p from : ℕ) (l : Laying dictionary s out₀ out p from) where
    pub laying_end : length s ≤ from → out ≡ sets out₀ 0 (kernel_of (dictionary_of dictionary) (lines_in dictionary s))
    unfolding kernel_of
    laying_end h =
        let e = none-coming (dictionary_of dictionary) s p from l.rest l.coming h in
        sym (ap (λ (k : List Instr). sets out (8 * p) (kernel_of (dictionary_of dictionary) k)) e) ∙ l.is

    module _ (inside : from < length s) (size w : ℕ) (e : instr_of p size w ≡ candidate s p from) where
      pub laying_next : Next (dictionary_of dictionary) s p from size w l.rest
      laying_next = next_coming (dictionary_of dictionary) s p from l.rest l.coming inside size w e

      abbrev bytes : List ℕ
      bytes = encode (form_in (dictionary_of dictionary) size w) w

      -- the next one's bytes, and how many there are
      split_bytes : kernel_of (dictionary_of dictionary) l.rest ≡ bytes ++ kernel_of (dictionary_of dictionary) laying_next.later
      unfolding kernel_of short_of
      split_bytes = ap (kernel_of (dictionary_of dictionary)) laying_next.split

      bytes-length : length bytes ≡ 8 * size
      unfolding Readable short_of
      bytes-length =
          let D = dictionary_of dictionary in
          let able : Readable D (instr_of p size w ∷ laying_next.later) = subst (λ (k : List Instr). Readable D k) laying_next.split l.coming.able in
          let f = one_form D (instr_of p size w) able.0 able.1 in
          length-encode (form_in D size w) w ∙ ap (λ (x : ℕ). 8 * x) f.0

      pub laying_room : length (kernel_of (dictionary_of dictionary) (lines_in dictionary s)) ≤ length out → 8 * p + length bytes ≤ length out
      laying_room h =
          omega (arith, l.reaches, ap length split_bytes, length-append bytes (kernel_of (dictionary_of dictionary) laying_next.later))

      pub laying_more : (n : ℕ) (out' : List ℕ) → n ≡ length (instr_text (instr_of p size w)) → out' ≡ sets out (8 * p) bytes → Laying dictionary s out₀ out' (p + size) (from + n)
      laying_more n out' q d =
          let D = dictionary_of dictionary in
          let x = laying_next in
          let to : 8 * (p + size) ≡ 8 * p + length bytes = omega (arith, bytes-length) in
          record {
            rest = x.later;
            coming = subst (λ (m : ℕ). Coming D s (p + size) (from + m) x.later) (sym q) x.coming;
            reaches = omega (arith, l.reaches, ap length split_bytes, length-append bytes (kernel_of D x.later), bytes-length);
            is =
                ap (λ (o : List ℕ). sets o (8 * (p + size)) (kernel_of D x.later)) d
                ∙ (ap (λ (m : ℕ). sets (sets out (8 * p) bytes) m (kernel_of D x.later)) to
                ∙ (sets-append bytes (kernel_of D x.later) out (8 * p)
                ∙ (sym (ap (sets out (8 * p)) split_bytes) ∙ l.is)));
          }
