-- When a kernel must finish (02 §14): where a step leads, and what it does to registers and flags. Assumes nothing.
-- That, where every jump goes forward, each step leads to an instruction of a higher number, or to the end, so that a run ends, is in proofs/FinishHolds.
use Rattle.std.specs.Prelude.{Bool, true, ◌&&◌, ◌||◌, List, [], ◌∷◌, map, ◌≡◌, ℕ, ℤ}
use Rattle.std.proofs.Common.{ap, ◌∙◌}
use Rattle.std.proofs.Math.Option.{some}
use Rattle.std.proofs.Math.Path.{refl, sym}
use Rattle.paper.specs.Operation.{Branch, jmpi, if, else, endif, while, break, cont, Operation, plain, nop, branch, unlisted, operation}
use Rattle.paper.specs.Store.{Store}
use Rattle.paper.specs.Enable.{holds}
use Rattle.paper.specs.Address.{settled}
use Rattle.paper.specs.Effect.{plain_effect, effect}
use Rattle.paper.specs.Kernel.{Instr}
use Rattle.paper.specs.Jump.{next_of, distances_of, distances, reached, targets_of, place_of, fetch}
use Rattle.paper.specs.Forward.{lie_after, forward}
use Rattle.paper.specs.Machine.{Channel, State, Ways, wake, is_awake, waits_at, someone, onward, act, perform, leads, step_on, step}
use Rattle.laws.specs.Places.{of_fetched}
use Rattle.laws.specs.Rename.{cond_at, AtPlaces}
use Rattle.laws.specs.Truth.{both_true}

-- ---- where a step leads, and what it leaves in the store

-- A state stands at a place with P, and holds the store st.
pub record Led (P : ℕ → Type 0) (st : Store) (s : State) : Type 0 where
  pub place : P s.place
  pub store : s.store ≡ st

module _ (P : ℕ → Type 0) (i : Instr) (next : P (next_of i)) (st : Store) (cs : List Channel) where
  -- The ways of i by some distances.
  abbrev ways_by : Operation → Ways
  ways_by o = leads (next_of i) (map place_of (reached (distances o) i))

  -- A fork between ways that have P leads to one of them.
  fork_leads : (ways : Ways) → P ways.next → P ways.jump → (ds : List Channel) → P (onward ways ds)
  unfolding onward
  fork_leads ways n j ds = cond_at P (someone (λ _ c. is_awake c || waits_at ways.next c) 0 ds) ways.next ways.jump n j

  -- A branch goes to the next place or to a target, and keeps the store. (One clause for each branch: the only place here that tells them apart.)
  branch_leads : (b : Branch) → AtPlaces P (map place_of (reached (distances_of b) i)) → Led P st (act b i.word (ways_by (branch b)) st cs)
  unfolding act
  branch_leads if t = record { place = fork_leads (ways_by (branch if)) next t.0 _; store = refl }
  branch_leads else t = record { place = fork_leads (ways_by (branch else)) next t.0 _; store = refl }
  branch_leads endif t = record { place = fork_leads (ways_by (branch endif)) next t.0 cs; store = refl }
  branch_leads while t =
      cond_at (Led P st) (someone (λ n c. is_awake c && holds i.word st n) 0 cs) _ _
      (record { place = t.0; store = refl })
      (record { place = next; store = refl })
  branch_leads break t = record { place = fork_leads (ways_by (branch break)) next t.0 _; store = refl }
  branch_leads cont t = record { place = fork_leads (ways_by (branch cont)) next t.0 _; store = refl }
  branch_leads jmpi t = record { place = cond_at P (holds i.word st 0) _ _ t.0 next; store = refl }

  -- A branch has no effect on registers and flags.
  branch_idle : (b : Branch) → operation i.word ≡ branch b → st ≡ effect i.word (map is_awake cs) st
  unfolding effect
  branch_idle b e =
      sym (ap {B = Store} (λ (o : Operation). elim o [ plain p ↦ plain_effect p (settled p st.addresses i.word) (map is_awake cs) st | nop ↦ st | branch c ↦ st | unlisted ↦ st ]) e)

  -- Every instruction goes to the next place or to a target, and leaves the store of its effect.
  operation-leads : (o : Operation) → operation i.word ≡ o → AtPlaces P (map place_of (reached (distances o) i))
      → Led P (effect i.word (map is_awake cs) st) (perform o i.word (ways_by o) st cs)
  unfolding perform
  operation-leads (plain p) e t = record { place = next; store = refl }
  operation-leads nop e t = record { place = next; store = refl }
  operation-leads (branch b) e t = let l = branch_leads b t in record { place = l.place; store = l.store ∙ branch_idle b e }
  operation-leads unlisted e t = record { place = next; store = refl }

-- The channels that a step of instruction i finds awake, those that waited at its place among them.
abbrev pub woken : Instr → State → List Bool
woken i s = map is_awake (map (wake i.place) s.channels)

-- So does a step.
pub step-leads : (P : ℕ → Type 0) (k : List Instr) (s : State) (i : Instr) → fetch k s.place ≡ some i
    → P (next_of i) → AtPlaces P (map place_of (targets_of i)) → Led P (effect i.word (woken i s) s.store) (step k s)
unfolding step_on
step-leads P k s i e next t =
    rw e (operation-leads P i next s.store (map (wake i.place) s.channels) (operation i.word) refl t)

-- What a step does to registers and flags, wherever it leads.
pub step-store : (k : List Instr) (s : State) (i : Instr) → fetch k s.place ≡ some i → (step k s).store ≡ effect i.word (woken i s) s.store
step-store k s i e = (step-leads (λ _. Unit {0}) k s i e tt (everywhere (targets_of i))).store
  where
    everywhere : (zs : List ℤ) → AtPlaces (λ _. Unit {0}) (map place_of zs)
    everywhere [] = tt
    everywhere (z ∷ zs) = (tt, everywhere zs)

-- ---- forward jumps

-- Where every instruction's targets lie after it, those of each that is fetched do.
pub forward_at : (k : List Instr) (p : ℕ) (i : Instr) → forward k ≡ true → fetch k p ≡ some i → lie_after i.place (targets_of i) ≡ true
unfolding forward
forward_at =
    of_fetched (λ k. forward k ≡ true) (λ i. lie_after i.place (targets_of i) ≡ true)
    (λ j k f. both_true (lie_after j.place (targets_of j)) (forward k) f)
