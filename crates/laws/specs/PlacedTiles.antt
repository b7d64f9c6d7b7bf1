-- The promise of 02 §8 on the fixed kernel: with every legal dictionary it is accepted, and from a start with any mask and flags, on registers into which a
-- record was loaded, it ends after eight steps, and each awake channel's two answers are the plain formula's bits. Assumes nothing.
use Rattle.std.specs.Prelude.{true, false, ◌≡◌, refl, get_or, take, replicate}
use mathlib.Core.List.{List, ◌++◌}
use Rattle.std.proofs.Math.Path.{sym, ap}
use Rattle.std.proofs.Common.{◌∙◌, subst, arith, lit<, length-append, take-append-drop, drop-drop, length-take-le, eq-eqb, le-ltb}
use Prim.Native.Nat.{ℕ, ◌+◌, ◌*◌, ◌-◌, ◌^◌, ◌<◌, ◌≤◌}
use Rattle.std.proofs.Math.ListN.{length, drop, length-drop}
use Rattle.std.proofs.Math.Seq.{drop-append_seam}
use Rattle.paper.specs.Bits.{bit, number, number_at}
use Rattle.paper.specs.Limits.{register_bytes, dictionary_bytes, address_bytes, state_length, budget_limit}
use Rattle.paper.specs.Dictionary.{dictionary_of, in_range}
use Rattle.paper.specs.Kernel.{long_and_short}
use Rattle.paper.specs.Jump.{end_from, end_of}
use Rattle.paper.specs.Machine.{State, run}
use Rattle.paper.specs.State.{state_of, state_bytes}
use Rattle.paper.specs.Placing.{Point, placed, placed_by, record_bytes, placement_of, place_kernel, loaded_with, place_kernel_call, place_load_call}
use Rattle.paper.specs.Calls.{verdict, deliver, start_call, Changed, ran_as, run_call}
use Rattle.laws.specs.Bytes.{number_at-append}
use Rattle.laws.specs.Names.{Sound}
use Rattle.laws.specs.Packing.{kernel_of_lem, accepted_parts}
use Rattle.laws.specs.Lasting.{Lasting}
use Rattle.laws.specs.Demands.{begun, run_ready, stored_back, stored_ready, start_lasting, start_bytes}
use Rattle.laws.specs.PlacedWords.{place_instrs, kernel_length, kernel_accepted, kernel_bytes}
use Rattle.laws.specs.PlacedStep.{Spared, outside_spared, off_spared}
use Rattle.laws.specs.PlacedAnswers.{Coordinate, coordinate_stays, after_four, four_coordinate}
use Rattle.laws.specs.PlacedRun.{after_eight, standing, run_eight}

-- ---- the loaded registers

module _ (six registers : List ℕ) (short : length six ≡ record_bytes) (long : length registers ≡ register_bytes) where
  abbrev loaded : List ℕ
  loaded = loaded_with six registers

  -- What lies below r6 has its length,
  first_length : length (take 192 registers) ≡ 192
  first_length = let h : 192 ≤ length registers = omega (arith, long) in length-take-le 192 registers h

  -- and all are as many as before.
  pub loaded-length : length loaded ≡ register_bytes
  unfolding loaded_with
  loaded-length = simp (length-append, length-drop, first_length, short, long)

  -- What lies below r6 is as it was,
  pub loaded_below : (from : ℕ) → from + 4 ≤ 192 → number_at loaded from 4 ≡ number_at registers from 4
  unfolding loaded_with
  loaded_below from h =
      let room : from + 4 ≤ length (take 192 registers) = omega (arith, first_length) in
      number_at-append 4 (take 192 registers) (six ++ drop 216 registers) from room
      ∙ sym (number_at-append 4 (take 192 registers) (drop 192 registers) from room)
      ∙ ap (λ (l : List ℕ). number_at l from 4) (take-append-drop 192 registers)

  -- and r6 has the record's floats.
  pub loaded_float : (from : ℕ) → from + 4 ≤ 24 → number_at loaded (192 + from) 4 ≡ number_at six from 4
  unfolding loaded_with number_at
  loaded_float from h =
      let rest : List ℕ = six ++ drop 216 registers in
      let seam : drop 192 (take 192 registers ++ rest) ≡ rest =
      ap (λ (n : ℕ). drop n (take 192 registers ++ rest)) (sym first_length) ∙ drop-append_seam (take 192 registers) rest in
      ap (number 4) (sym (drop-drop from 192 (take 192 registers ++ rest)) ∙ ap (drop from) seam)
      ∙ number_at-append 4 six (drop 216 registers) from (omega (arith, short))

-- ---- what the calls hand over

-- Loading a record answers 0 and leaves these registers.
pub load_leaves : (six registers : List ℕ) → length six ≡ record_bytes → length registers ≡ register_bytes
    → place_load_call six registers ≡ record { answer = verdict 0 0; output = loaded_with six registers }
unfolding place_load_call
load_leaves six registers short long = rw (eq-eqb (length six) record_bytes short, eq-eqb (length registers) register_bytes long)

-- The kernel is written where there is room for it.
pub kernel_written : (out : List ℕ) → 128 ≤ length out
    → place_kernel_call out ≡ record { answer = verdict 0 128; output = place_kernel ++ drop 128 out }
unfolding place_kernel_call deliver
kernel_written out room = rw (kernel_length, le-ltb (length out) 128 room)

-- ---- the promise

-- Where tile n is, as the kernel finds it, and where it goes, as the kernel leaves it.
abbrev pub tile_in : List ℕ → ℕ → Point
tile_in registers n = record { x = number_at registers (2 * 32 + 4 * n) 4; y = number_at registers (4 * 32 + 4 * n) 4 }

abbrev pub tile_out : List ℕ → ℕ → Point
tile_out registers n = record { x = number_at registers (8 * 32 + 4 * n) 4; y = number_at registers (10 * 32 + 4 * n) 4 }

-- What a run of the kernel comes to that has a record's bytes, registers and a mask: it ends after eight steps; each awake channel's answers are the plain
-- formula's; where the answers of one that is off would go, nothing changes; and no byte outside of r8 to r13 is other than it was loaded.
pub record Placed (six registers : List ℕ) (mask : ℕ) (after : Changed) : Type 0 where
  pub ends : after.answer ≡ verdict 20 8
  pub answers : (n : ℕ) → n < 16 → bit mask n ≡ true → tile_out after.registers n ≡ placed_by (placement_of six) (tile_in registers n)
  pub idle : (n : ℕ) → n < 16 → bit mask n ≡ false → tile_out after.registers n ≡ tile_out (loaded_with six registers) n
  pub others : (i : ℕ) → (8 * 32 ≤ i → i < 14 * 32 → ⊥) → get_or after.registers i 0 ≡ get_or (loaded_with six registers) i 0
  pub same : length after.registers ≡ register_bytes

module _ (six registers : List ℕ) (short : length six ≡ record_bytes) (long : length registers ≡ register_bytes) (mask : ℕ) where
  abbrev start : List ℕ
  start = loaded_with six registers

  -- Registers after the first coordinate, and after both.
  abbrev half : List ℕ
  half = after_four mask 256 192 196 200 start

  abbrev whole : List ℕ
  whole = after_eight mask start

  -- The first four instructions write one coordinate,
  first : Coordinate mask 256 192 196 200 start half
  first =
      four_coordinate mask 256 192 196 200 (omega arith) (omega arith) (omega arith) (omega arith) (omega arith)
      start (omega (arith, loaded-length six registers short long))

  -- the others the other.
  second : Coordinate mask 320 204 208 212 half whole
  second =
      let l : length half ≡ length start = first.long in
      four_coordinate mask 320 204 208 212 (omega arith) (omega arith) (omega arith) (omega arith) (omega arith)
      half (omega (arith, loaded-length six registers short long))

  -- Outside of what is written nothing changes.
  abbrev spared : (into i : ℕ) → (into ≤ i → i < into + 64 → ⊥) → Spared mask into i
  spared into i h = outside_spared mask into i h

  -- What lies below r8 is as it was loaded after the first.
  low : (from : ℕ) → from + 4 ≤ 256 → number_at half from 4 ≡ number_at start from 4
  low from h = coordinate_stays mask 256 192 196 200 start half first from
      (λ j q. spared 256 (from + j) (λ l u. omega arith)) (λ j q. spared 384 (from + j) (λ l u. omega arith))

  -- The formula on floats of r6 is that on the record's.
  same-placed : (a b c n : ℕ) → a + 4 ≤ 24 → b + 4 ≤ 24 → c + 4 ≤ 24 → n < 16
      → placed (number_at start (192 + a) 4) (number_at start (192 + b) 4) (number_at start (192 + c) 4) (number_at start (64 + 4 * n) 4) (number_at start (128 + 4 * n) 4)
      ≡ placed (number_at six a 4) (number_at six b 4) (number_at six c 4) (number_at registers (64 + 4 * n) 4) (number_at registers (128 + 4 * n) 4)
  same-placed a b c n ha hb hc h =
      rw (
        loaded_float six registers short long a ha,
        loaded_float six registers short long b hb,
        loaded_float six registers short long c hc,
        loaded_below six registers short long (64 + 4 * n) (omega arith),
        loaded_below six registers short long (128 + 4 * n) (omega arith),
      )

  -- The first coordinate, which the second leaves,
  across : (n : ℕ) → n < 16 → bit mask n ≡ true → number_at whole (256 + 4 * n) 4
      ≡ placed (number_at six 0 4) (number_at six 4 4) (number_at six 8 4) (number_at registers (64 + 4 * n) 4) (number_at registers (128 + 4 * n) 4)
  across n h on =
      coordinate_stays mask 320 204 208 212 half whole second (256 + 4 * n)
      (λ j q. spared 320 (256 + 4 * n + j) (λ l u. omega arith)) (λ j q. spared 384 (256 + 4 * n + j) (λ l u. omega arith))
      ∙ first.there n h on
      ∙ same-placed 0 4 8 n (omega arith) (omega arith) (omega arith) h

  -- and the second.
  down : (n : ℕ) → n < 16 → bit mask n ≡ true → number_at whole (320 + 4 * n) 4
      ≡ placed (number_at six 12 4) (number_at six 16 4) (number_at six 20 4) (number_at registers (64 + 4 * n) 4) (number_at registers (128 + 4 * n) 4)
  down n h on =
      second.there n h on
      ∙ rw (low 204 (omega arith), low 208 (omega arith), low 212 (omega arith), low (64 + 4 * n) (omega arith), low (128 + 4 * n) (omega arith))
      (same-placed 12 16 20 n (omega arith) (omega arith) (omega arith) h)

  -- A channel that is off keeps what stood where its answers go.
  across_off : (n : ℕ) → n < 16 → bit mask n ≡ false → number_at whole (256 + 4 * n) 4 ≡ number_at start (256 + 4 * n) 4
  across_off n h idle =
      coordinate_stays mask 320 204 208 212 half whole second (256 + 4 * n)
      (λ j q. spared 320 (256 + 4 * n + j) (λ l u. omega arith)) (λ j q. spared 384 (256 + 4 * n + j) (λ l u. omega arith))
      ∙ coordinate_stays mask 256 192 196 200 start half first (256 + 4 * n)
      (λ j q. off_spared mask 256 n j idle q) (λ j q. spared 384 (256 + 4 * n + j) (λ l u. omega arith))

  down_off : (n : ℕ) → n < 16 → bit mask n ≡ false → number_at whole (320 + 4 * n) 4 ≡ number_at start (320 + 4 * n) 4
  down_off n h idle =
      coordinate_stays mask 320 204 208 212 half whole second (320 + 4 * n)
      (λ j q. off_spared mask 320 n j idle q) (λ j q. spared 384 (320 + 4 * n + j) (λ l u. omega arith))
      ∙ coordinate_stays mask 256 192 196 200 start half first (320 + 4 * n)
      (λ j q. spared 256 (320 + 4 * n + j) (λ l u. omega arith)) (λ j q. spared 384 (320 + 4 * n + j) (λ l u. omega arith))

  -- So it is with the state that the eight steps leave.
  all_placed : (flag0 flag1 : ℕ) → Placed six registers mask (ran_as (record { verdict = 20; steps = 8; state = standing mask flag0 flag1 (replicate address_bytes 0) whole 16 }))
  unfolding placement_of
  all_placed flag0 flag1 = record {
    ends = refl;
    answers = λ n h on. λ i. record { x = across n h on i; y = down n h on i };
    idle = λ n h off. λ i. record { x = across_off n h off i; y = down_off n h off i };
    others = λ i h.
        second.others i (spared 320 i (λ l u. h (omega arith) (omega arith))) (spared 384 i (λ l u. h (omega arith) (omega arith)))
        ∙ first.others i (spared 256 i (λ l u. h (omega arith) (omega arith))) (spared 384 i (λ l u. h (omega arith) (omega arith)));
    same = second.long ∙ first.long ∙ loaded-length six registers short long;
  }

-- The kernel's end lies near.
near : end_of place_instrs < 2 ^ 16
unfolding place_instrs end_from
near = lit< tt

-- With every legal dictionary, from a start with any mask and flags on registers with the record loaded, and with a budget of eight steps or more, a run of the
-- kernel comes to that.
pub kernel_places : (dictionary : List ℕ) → length dictionary ≡ dictionary_bytes → in_range (dictionary_of dictionary) ≡ true
    → (six registers bytes : List ℕ) → length six ≡ record_bytes → length registers ≡ register_bytes → length bytes ≡ state_length
    → (mask flag0 flag1 : ℕ) → flag0 < 2 ^ 16 → flag1 < 2 ^ 16 → (budget : ℕ) → 8 ≤ budget → budget ≤ budget_limit
    → Placed six registers mask (run_call dictionary place_kernel budget (loaded_with six registers) (start_call mask flag0 flag1 bytes).output)
kernel_places dictionary sized legal six registers bytes short long room mask flag0 flag1 f0 f1 budget least most =
    let acc = kernel_accepted dictionary sized legal in
    let parts = accepted_parts dictionary place_kernel place_instrs acc in
    let sound : Sound place_instrs = (kernel_of_lem long_and_short dictionary place_kernel kernel_bytes place_instrs acc).sound in
    let start : List ℕ = loaded_with six registers in
    let s : State = begun start flag0 flag1 mask in
    let lasts : Lasting place_instrs register_bytes s = start_lasting place_instrs sound start flag0 flag1 mask (loaded-length six registers short long) f0 f1 in
    let ready = stored_ready dictionary place_kernel place_instrs sound near parts.0 parts.1 s lasts in
    let back : state_of start (state_bytes s) ≡ s = stored_back dictionary place_kernel place_instrs sound near parts.0 parts.1 s lasts in
    let enough : budget ≡ 8 + (budget - 8) = omega arith in
    let ran : run_call dictionary place_kernel budget start (start_call mask flag0 flag1 bytes).output
    ≡ ran_as (record { verdict = 20; steps = 8; state = standing mask flag0 flag1 (replicate address_bytes 0) (after_eight mask start) 16 }) =
    ap (run_call dictionary place_kernel budget start) (start_bytes start flag0 flag1 mask bytes room)
    ∙ run_ready dictionary place_kernel start (state_bytes s) place_instrs ready budget most
    ∙ ap (λ (x : State). ran_as (run place_instrs budget x)) back
    ∙ ap (λ (n : ℕ). ran_as (run place_instrs n s)) enough
    ∙ ap ran_as (run_eight mask flag0 flag1 (replicate address_bytes 0) (budget - 8) start) in
    subst (λ (r : Changed). Placed six registers mask r) (sym ran) (all_placed six registers short long mask flag0 flag1)
