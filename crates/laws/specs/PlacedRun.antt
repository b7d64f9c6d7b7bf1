-- The fixed kernel of 02 §8 run from a start: eight steps to the end, whatever the mask and the flags. Assumes nothing.
use Rattle.std.specs.Prelude.{Bool, true, false, cond, List, ◌∷◌, map, ◌≡◌}
use Rattle.std.proofs.Math.Option.{none, some}
use Rattle.std.proofs.Math.Path.{refl, ap}
use Rattle.std.proofs.Common.{ap₂, ◌∙◌}
use Prim.Native.Nat.{ℕ, zero, suc, ◌+◌}
use native.Mathlib.Omega.{arith}
use Rattle.paper.specs.Bits.{bit}
use Rattle.paper.specs.Kernel.{Instr}
use Rattle.paper.specs.Jump.{next_of, fetch}
use Rattle.paper.specs.Machine.{Channel, off, awake, wake, State, start_from, perform, step_on, step, stops, run}
use Rattle.laws.specs.Runs.{more, still, run-zero, run_stop, run_on}
use Rattle.laws.specs.PlacedWords.{times_x, times_y, both_times, shifted, two_at, place_instrs}
use Rattle.laws.specs.PlacedStep.{Works, eight_work, left}
use Rattle.laws.specs.PlacedAnswers.{after_four}

-- Nobody waits after a start, so nobody wakes.
none_wakes : (here mask n c : ℕ) → map (wake here) (start_from mask n c) ≡ start_from mask n c
unfolding start_from wake
none_wakes here mask n zero = refl
none_wakes here mask n (suc c) = ap₂ {C = List Channel} (λ (x : Channel) (xs : List Channel). x ∷ xs) (one (bit mask n)) (none_wakes here mask (suc n) c)
  where
    one : (t : Bool) → wake here (cond t awake off) ≡ cond t awake off
    one true = refl
    one false = refl

-- What the kernel leaves in the registers.
abbrev pub after_eight : ℕ → List ℕ → List ℕ
after_eight mask registers = after_four mask 320 204 208 212 (after_four mask 256 192 196 200 registers)

module _ (mask flag0 flag1 : ℕ) (addresses : List ℕ) where
  -- The channels of the mask awake, at a place, with these registers.
  abbrev pub standing : List ℕ → ℕ → State
  standing registers place = record {
    store = record { registers = registers; flag0 = flag0; flag1 = flag1; addresses = addresses };
    channels = start_from mask 0 16;
    place = place;
  }

  -- An instruction of a kernel whose word works so.
  module _ (k : List Instr) (i : Instr) (found : fetch k i.place ≡ some i) (f : ℕ → ℕ → ℕ) (into : ℕ) (a b : ℕ → ℕ)
      (works : Works i.word f into a b) where
    -- A step of such an instruction writes the registers and goes on.
    step_there : (registers : List ℕ) → step k (standing registers i.place) ≡ standing (left mask f into a b registers) (next_of i)
    unfolding step_on perform
    step_there registers = rw (found, works.listed, none_wakes i.place mask 0 16, works.acts)

    -- Nothing stops it.
    goes_on : (registers : List ℕ) → stops k (standing registers i.place) ≡ none
    goes_on registers = rw (found, works.direct addresses)

    -- So a run is that step and the rest.
    run_there : (n : ℕ) (registers : List ℕ) → run k (suc n) (standing registers i.place) ≡ more (run k n (standing (left mask f into a b registers) (next_of i)))
    run_there n registers =
        run_on (stops k) (step k) n (standing registers i.place) (goes_on registers) ∙ ap (λ (s : State). more (run k n s)) (step_there registers)

  -- ---- the eight

  -- At its end a run makes no step.
  run_end : (n : ℕ) (registers : List ℕ) → run place_instrs n (standing registers 16) ≡ still 20 (standing registers 16)
  unfolding place_instrs fetch
  run_end zero registers = run-zero (stops place_instrs) (step place_instrs) (standing registers 16)
  run_end (suc n) registers = run_stop (stops place_instrs) (step place_instrs) n (standing registers 16) 20 refl

  -- From the start it makes eight.
  pub run_eight : (n : ℕ) (registers : List ℕ)
      → run place_instrs (8 + n) (standing registers 0) ≡ record { verdict = 20; steps = 8; state = standing (after_eight mask registers) 16 }
  unfolding place_instrs fetch
  run_eight n registers =
      let enough : 8 + n ≡ suc (suc (suc (suc (suc (suc (suc (suc n))))))) = omega arith in
      ap (λ (m : ℕ). run place_instrs m (standing registers 0)) enough
      ∙ run_there place_instrs (two_at 0 (times_x 8 0)) refl _ _ _ _ eight_work.0 _ _
      ∙ ap more (run_there place_instrs (two_at 2 (times_y 1)) refl _ _ _ _ eight_work.1 _ _
      ∙ ap more (run_there place_instrs (two_at 4 (both_times 8)) refl _ _ _ _ eight_work.2 _ _
      ∙ ap more (run_there place_instrs (two_at 6 (shifted 8 2)) refl _ _ _ _ eight_work.3 _ _
      ∙ ap more (run_there place_instrs (two_at 8 (times_x 10 3)) refl _ _ _ _ eight_work.4 _ _
      ∙ ap more (run_there place_instrs (two_at 10 (times_y 4)) refl _ _ _ _ eight_work.5 _ _
      ∙ ap more (run_there place_instrs (two_at 12 (both_times 10)) refl _ _ _ _ eight_work.6 _ _
      ∙ ap more (run_there place_instrs (two_at 14 (shifted 10 5)) refl _ _ _ _ eight_work.7 _ _
      ∙ ap more (run_end n (after_eight mask registers)))))))))
