-- One instruction of the fixed kernel of 02 §8: what it does to the registers, said once for all eight. Assumes nothing.
use Rattle.std.specs.Prelude.{Bool, true, false, cond, ◌&&◌, List, map, ◌≡◌, refl, ℕ, zero, suc, ◌+◌, ◌*◌, ◌^◌, ◌/◌, ◌%◌, ◌<◌, ◌≤◌, length, get_or}
use Rattle.std.proofs.lemmas.Bool.{false≢true}
use Rattle.std.proofs.Common.{sym, ap, ◌∙◌, arith, mod-eq_of_lt, add-zero, suc-add, add-suc, zero-add}
use Rattle.paper.specs.Bits.{bit, number_at}
use Rattle.paper.specs.Store.{Store}
use Rattle.paper.specs.Single.{sum, product, sign_modified}
use Rattle.paper.specs.Operation.{Plain, plain, operation_of, operation}
use Rattle.paper.specs.Value.{mod_z, stored}
use Rattle.paper.specs.Region.{element_at}
use Rattle.paper.specs.Legal.{alignment_broken, too_far, reach_broken}
use Rattle.paper.specs.Element.{float_result, result_of, made}
use Rattle.paper.specs.Enable.{predicate, holds, enabled}
use Rattle.paper.specs.Address.{dst_direct, src_direct, settled, some_outside, address_broken, address_stops}
use Rattle.paper.specs.Effect.{pattern_at, operand, channel_stores, scattered, registers_after, addresses_after, plain_effect, effect}
use Rattle.paper.specs.Machine.{off, awake, is_awake, start_from}
use Rattle.paper.specs.Assembler.{to, from0, from1, op}
use Rattle.laws.specs.Scatter.{number_at_same, length-scattered, scattered_other, scattered-holds}
use Rattle.laws.specs.PlacedWords.{times_x, times_y, both_times, shifted}

-- ---- what a word does

-- Channel n's element of sixteen floats side by side from byte `from` on, and of one float there for every channel, as regions say it.
abbrev pub side_at : ℕ → ℕ → ℕ
side_at from n = from + (n / 8 * 8 + n % 8 * 1) * 4

abbrev pub one_at : ℕ → ℕ → ℕ
one_at from n = from + (n / 1 * 0 + n % 1 * 0) * 4

-- Registers with f of the numbers at bytes `a n` and `b n` stored for each awake channel n, side by side from byte `into` on.
abbrev pub spread : (ℕ → ℕ → ℕ) → ℕ → (ℕ → ℕ) → (ℕ → ℕ) → List Bool → List ℕ → List ℕ
spread f into a b awakes registers =
    scattered registers (λ n. into + n * 1 * 4) 4 (λ n. get_or awakes (0 + n) false && true)
    (λ n. f (number_at registers (a n) 4) (number_at registers (b n) 4) % 2 ^ 32) 16

-- Word w does that and nothing else, and no address stops it.
pub record Works (w : ℕ) (f : ℕ → ℕ → ℕ) (into : ℕ) (a b : ℕ → ℕ) : Type 0 where
  pub kind : Plain
  pub listed : operation w ≡ plain kind
  pub direct : (addresses : List ℕ) → address_stops addresses w ≡ false
  pub acts : (awakes : List Bool) (st : Store) → effect w awakes st
      ≡ record { registers = spread f into a b awakes st.registers; flag0 = st.flag0; flag1 = st.flag1; addresses = st.addresses }

-- What the eight words do, by bytes: r8 begins at 256, r10 at 320, r12 at 384, x at 64, y at 128, the record at 192.
abbrev pub EightWork : Type 0
EightWork =
    Works (times_x 8 0) product 256 (one_at 192) (side_at 64)
    × Works (times_y 1) product 384 (one_at 196) (side_at 128)
    × Works (both_times 8) sum 256 (side_at 256) (side_at 384)
    × Works (shifted 8 2) sum 256 (side_at 256) (one_at 200)
    × Works (times_x 10 3) product 320 (one_at 204) (side_at 64)
    × Works (times_y 4) product 384 (one_at 208) (side_at 128)
    × Works (both_times 10) sum 320 (side_at 320) (side_at 384)
    × Works (shifted 10 5) sum 320 (side_at 320) (one_at 212)

-- They do, as is computed for every store.
pub eight_work : EightWork
unfolding times_x times_y both_times shifted to from0 from1 op operation_of mod_z stored element_at alignment_broken too_far reach_broken float_result result_of made sign_modified predicate holds enabled dst_direct src_direct settled some_outside address_broken address_stops pattern_at operand channel_stores registers_after addresses_after plain_effect effect
eight_work = (
  record { kind = Plain.mul; listed = refl; direct = λ _. refl; acts = λ _ _. refl },
  record { kind = Plain.mul; listed = refl; direct = λ _. refl; acts = λ _ _. refl },
  record { kind = Plain.add; listed = refl; direct = λ _. refl; acts = λ _ _. refl },
  record { kind = Plain.add; listed = refl; direct = λ _. refl; acts = λ _ _. refl },
  record { kind = Plain.mul; listed = refl; direct = λ _. refl; acts = λ _ _. refl },
  record { kind = Plain.mul; listed = refl; direct = λ _. refl; acts = λ _ _. refl },
  record { kind = Plain.add; listed = refl; direct = λ _. refl; acts = λ _ _. refl },
  record { kind = Plain.add; listed = refl; direct = λ _. refl; acts = λ _ _. refl },
)

-- ---- what is read back

-- Channel k of a start is awake where its bit of the mask is 1.
pub awake-bit : (mask n c k : ℕ) → k < c → get_or (map is_awake (start_from mask n c)) k false ≡ bit mask (n + k)
unfolding start_from
awake-bit mask n zero k h = absurd (omega arith)
awake-bit mask n (suc c) zero h = first (bit mask n) ∙ ap (bit mask) (sym (add-zero n))
  where
    first : (t : Bool) → is_awake (cond t awake off) ≡ t
    first true = refl
    first false = refl
awake-bit mask n (suc c) (suc k) h = awake-bit mask (suc n) c k (omega arith) ∙ ap (bit mask) (suc-add n k ∙ sym (add-suc n k))

-- Byte i lies in no awake channel's element of the sixteen side by side from byte `into` on.
abbrev pub Spared : ℕ → ℕ → ℕ → Type 0
Spared mask into i = (n : ℕ) → n < 16 → bit mask n ≡ true → into + 4 * n ≤ i → i < into + 4 * n + 4 → ⊥

-- So lies a byte outside of their 64 bytes,
pub outside_spared : (mask into i : ℕ) → (into ≤ i → i < into + 64 → ⊥) → Spared mask into i
outside_spared mask into i h n few on low high = h (omega arith) (omega arith)

-- and a byte in the element of a channel that is off.
pub off_spared : (mask into m j : ℕ) → bit mask m ≡ false → j < 4 → Spared mask into (into + 4 * m + j)
off_spared mask into m j idle less n few on low high =
    let same : m ≡ n = omega arith in false≢true (sym idle ∙ ap (bit mask) same ∙ on)

-- Sixteen patterns written side by side from byte `into` on: of channels with a 1 in the mask they are there; no other byte changes.
pub record Wrote (mask into : ℕ) (value : ℕ → ℕ) (before after : List ℕ) : Type 0 where
  pub there : (n : ℕ) → n < 16 → bit mask n ≡ true → number_at after (into + 4 * n) 4 ≡ value n
  pub others : (i : ℕ) → Spared mask into i → get_or after i 0 ≡ get_or before i 0
  pub long : length after ≡ length before

-- What such a word leaves in the registers, from a start's channels.
abbrev pub left : ℕ → (ℕ → ℕ → ℕ) → ℕ → (ℕ → ℕ) → (ℕ → ℕ) → List ℕ → List ℕ
left mask f into a b registers = spread f into a b (map is_awake (start_from mask 0 16)) registers

-- So a word does that does what those eight do, if its results are of 32 bits and its destination lies inside of the registers.
pub left_wrote : (mask : ℕ) (f : ℕ → ℕ → ℕ) → ((x y : ℕ) → f x y < 2 ^ 32) → (into : ℕ) (a b : ℕ → ℕ) (registers : List ℕ) → into + 64 ≤ length registers
    → Wrote mask into (λ n. f (number_at registers (a n) 4) (number_at registers (b n) 4)) registers (left mask f into a b registers)
left_wrote mask f small into a b registers room =
    record {
      there = λ n h e.
          let p : into + 4 * n ≡ into + n * 1 * 4 = omega arith in
          ap (λ (x : ℕ). number_at after x 4) p
          ∙ scattered-holds registers element 4 on pattern 16 n h (awake-on n h ∙ e) (λ j q. omega arith) (λ i j q r. omega arith)
          ∙ (mod-eq_of_lt (omega (arith, kept n)) ∙ mod-eq_of_lt (small (number_at registers (a n) 4) (number_at registers (b n) 4)));
      others = λ i h. scattered_other registers element 4 on pattern 16 i (λ k q o l r. h k q (sym (awake-on k q) ∙ o) (omega arith) (omega arith));
      long = length-scattered registers element 4 on pattern 16;
    }
  where
    element : ℕ → ℕ
    element n = into + n * 1 * 4

    on : ℕ → Bool
    on n = get_or (map is_awake (start_from mask 0 16)) (0 + n) false && true

    pattern : ℕ → ℕ
    pattern n = f (number_at registers (a n) 4) (number_at registers (b n) 4) % 2 ^ 32

    after : List ℕ
    after = scattered registers element 4 on pattern 16

    and-true : (t : Bool) → (t && true) ≡ t
    and-true true = refl
    and-true false = refl

    awake-on : (n : ℕ) → n < 16 → on n ≡ bit mask n
    awake-on n h = and-true _ ∙ ap (λ (x : ℕ). get_or (map is_awake (start_from mask 0 16)) x false) (zero-add n) ∙ awake-bit mask 0 16 n h ∙ ap (bit mask) (zero-add n)

    kept : (n : ℕ) → pattern n < 256 ^ 4
    kept n = omega arith

-- A number outside of what is written stays.
pub stays : (mask into : ℕ) (value : ℕ → ℕ) (before after : List ℕ) → Wrote mask into value before after
    → (from : ℕ) → ((j : ℕ) → j < 4 → Spared mask into (from + j)) → number_at after from 4 ≡ number_at before from 4
stays mask into value before after w from h = number_at_same 4 after before from (λ j q. w.others (from + j) (h j q))
