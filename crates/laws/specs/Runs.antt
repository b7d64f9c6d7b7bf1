-- Runs: a run is that many single steps; and a run carried over to another machine. Assumes nothing.
use Rattle.std.specs.Prelude.{◌≡◌, Bool, true, false, cond, ◌⊎◌, List}
use Rattle.std.proofs.Math.Path.{refl}
use Rattle.std.proofs.Common.{ap, sym, ◌∙◌, inl, inr, arith, eq-or-lt_of_le}
use Rattle.std.proofs.Math.Option.{Option, none, some, none-ne-some, some-injective}
use Prim.Native.Nat.{ℕ, zero, suc, ◌<◌, ◌≤◌}
use Rattle.paper.specs.Kernel.{Instr}
use Rattle.paper.specs.Jump.{fetch}
use Rattle.paper.specs.Address.{address_stops}
use Rattle.paper.specs.Machine.{State, Outcome, stops_on, stops, or_spent, step, run_with, run}

-- An outcome after one step more.
abbrev pub more : Outcome → Outcome
more o = record { verdict = o.verdict; steps = suc o.steps; state = o.state }

-- The outcome of a run that makes no step, with verdict v.
abbrev pub still : ℕ → State → Outcome
still v s = record { verdict = v; steps = 0; state = s }

-- The state after n single steps.
unfoldable pub iterate : (State → State) → ℕ → State → State
iterate f zero s = s
iterate f (suc n) s = iterate f n (f s)

module _ (stop : State → Option ℕ) (next : State → State) where
  -- With no budget a run says whether it stands at the end.
  pub run-zero : (s : State) → run_with stop next zero s ≡ still (or_spent (stop s)) s
  unfolding run_with
  run-zero s = refl

  -- A state that stops a run is left as it is.
  pub run_stop : (n : ℕ) (s : State) (v : ℕ) → stop s ≡ some v → run_with stop next (suc n) s ≡ still v s
  unfolding run_with
  run_stop n s v e = rw (e, run_with)

  -- Else the run goes on from the next state with one step less.
  pub run_on : (n : ℕ) (s : State) → stop s ≡ none → run_with stop next (suc n) s ≡ more (run_with stop next n (next s))
  unfolding run_with
  run_on n s e = rw (e, run_with)

-- A map of states that keeps `stop` and commutes with the step where G holds, which the step keeps, carries a run over.
module _ (f : State → State) (stop stop' : State → Option ℕ) (next next' : State → State) (G : State → Type 0)
    (keeps : (s : State) → G s → G (next s))
    (same_stop : (s : State) → G s → stop' (f s) ≡ stop s)
    (commutes : (s : State) → G s → f (next s) ≡ next' (f s)) where
  -- An outcome, its state carried over by the map.
  abbrev pub carried : Outcome → Outcome
  carried o = record { verdict = o.verdict; steps = o.steps; state = f o.state }

  -- The outcome of a run, carried over, is that of the run from the state carried over.
  pub run-carried : (n : ℕ) (s : State) → G s → carried (run_with stop next n s) ≡ run_with stop' next' n (f s)
  run-carried zero s g =
      ap carried (run-zero stop next s) ∙ ap (λ (o : Option ℕ). still (or_spent o) (f s)) (sym (same_stop s g)) ∙ sym (run-zero stop' next' (f s))
  run-carried (suc n) s g = go (stop s) refl (run-carried n (next s) (keeps s g))
    where
      go : (o : Option ℕ) → stop s ≡ o → carried (run_with stop next n (next s)) ≡ run_with stop' next' n (f (next s))
          → carried (run_with stop next (suc n) s) ≡ run_with stop' next' (suc n) (f s)
      go (some v) e h = ap carried (run_stop stop next n s v e) ∙ sym (run_stop stop' next' n (f s) v (same_stop s g ∙ e))
      go none e h =
          ap carried (run_on stop next n s e)
          ∙ ap more (h ∙ ap (run_with stop' next' n) (commutes s g))
          ∙ sym (run_on stop' next' n (f s) (same_stop s g ∙ e))

-- What a run's outcome says: its state is that many single steps, no more than the budget, none of them from a state that stops; where budget is left, the
-- verdict is the one with which the state stops; where it is spent, 20 at the end and 21 short of it.
pub record Ran (stop : State → Option ℕ) (next : State → State) (n : ℕ) (s : State) (o : Outcome) : Type 0 where
  pub reached : o.state ≡ iterate next o.steps s
  pub within : o.steps ≤ n
  pub before : (m : ℕ) → m < o.steps → stop (iterate next m s) ≡ none
  pub stopped : o.steps < n → stop o.state ≡ some o.verdict
  pub spent : o.steps ≡ n → o.verdict ≡ or_spent (stop o.state)

module _ (stop : State → Option ℕ) (next : State → State) where
  -- A run that stops at once.
  ran_still : (n : ℕ) (s : State) (v : ℕ) → stop s ≡ some v → Ran stop next (suc n) s (still v s)
  unfolding iterate
  ran_still n s v e = record {
    reached = refl;
    within = omega arith;
    before = λ m h. absurd (omega arith);
    stopped = λ _. e;
    spent = λ f. absurd (omega arith);
  }

  -- A run that goes on.
  ran_more : (n : ℕ) (s : State) (o : Outcome) → stop s ≡ none → Ran stop next n (next s) o → Ran stop next (suc n) s (more o)
  unfolding iterate
  ran_more n s o e r = record {
    reached = r.reached;
    within = omega (arith, r.within);
    before = bef;
    stopped = λ h. r.stopped (omega arith);
    spent = λ f. r.spent (omega arith);
  }
    where
      bef : (m : ℕ) → m < suc o.steps → stop (iterate next m s) ≡ none
      bef zero h = e
      bef (suc m) h = r.before m (omega arith)

  -- Every run is so.
  pub ran : (n : ℕ) (s : State) → Ran stop next n s (run_with stop next n s)
  unfolding iterate run_with
  ran zero s = record { reached = refl; within = omega arith; before = λ m h. absurd (omega arith); stopped = λ h. absurd (omega arith); spent = λ _. refl }
  ran (suc n) s = go (stop s) refl (ran n (next s))
    where
      go : (o : Option ℕ) → stop s ≡ o → Ran stop next n (next s) (run_with stop next n (next s))
          → Ran stop next (suc n) s (run_with stop next (suc n) s)
      go (some v) e r = rw (run_stop stop next n s v e) (ran_still n s v e)
      go none e r = rw (run_on stop next n s e) (ran_more n s (run_with stop next n (next s)) e r)

-- ---- verdicts

-- What a verdict of a run says of the state that it left: 20, it stands where no instruction starts; 21, it stands at an instruction, and the budget is spent; 22,
-- it stands at an instruction of which an address is broken, and budget is left.
pub data Verdict (k : List Instr) (n : ℕ) (o : Outcome) : Type 0 where
  ended : o.verdict ≡ 20 → fetch k o.state.place ≡ none → Verdict k n o
  spent : o.verdict ≡ 21 → o.steps ≡ n → (i : Instr) → fetch k o.state.place ≡ some i → Verdict k n o
  astray : o.verdict ≡ 22 → o.steps < n → (i : Instr) → fetch k o.state.place ≡ some i
      → address_stops o.state.store.addresses i.word ≡ true → Verdict k n o

module _ (k : List Instr) (n : ℕ) (o : Outcome) where
  -- By the instruction at which the run left the state.
  left : (t : Option Instr) → fetch k o.state.place ≡ t
      → (o.steps < n → stops_on t o.state.store.addresses ≡ some o.verdict)
      → (o.steps ≡ n → o.verdict ≡ or_spent (stops_on t o.state.store.addresses))
      → (o.steps ≡ n) ⊎ (o.steps < n) → Verdict k n o
  left none e h g (inl q) = ended (g q) e
  left none e h g (inr q) = ended (sym (some-injective _ _ (h q))) e
  left (some i) e h g (inl q) = spent (g q ∙ spends (address_stops o.state.store.addresses i.word)) q i e
    where
      spends : (t : Bool) → or_spent (cond t (some 22) none) ≡ 21
      spends true = refl
      spends false = refl
  left (some i) e h g (inr q) = by (address_stops o.state.store.addresses i.word) refl (h q)
    where
      by : (t : Bool) → address_stops o.state.store.addresses i.word ≡ t → cond t (some 22) none ≡ some o.verdict → Verdict k n o
      by true a f = astray (sym (some-injective _ _ f)) q i e a
      by false a f = absurd (none-ne-some o.verdict f)

-- Every run's verdict is one of the three, and says so.
pub verdict_says : (k : List Instr) (n : ℕ) (s : State) → Verdict k n (run k n s)
verdict_says k n s =
    let r = ran (stops k) (step k) n s in
    left k n (run k n s) (fetch k (run k n s).state.place) refl r.stopped r.spent (eq-or-lt_of_le r.within)
