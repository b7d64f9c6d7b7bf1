-- Where every jump goes forward, each step leads to an instruction of a higher number, or to the end, so a run ends. Assumes nothing.
use Rattle.std.specs.Prelude.{Bool, true, false, cond, List, [], ◌∷◌, map, ◌⊎◌, ◌≡◌, ℕ, zero, suc, ◌+◌, ◌<◌, ◌≤◌, ltb, ℤ, pos, negsuc, length}
use Rattle.std.proofs.lemmas.Bool.{false≢true}
use Rattle.std.proofs.Common.{inl, inr, ap, ◌∙◌, subst, arith, ltb-true}
use Rattle.std.proofs.Math.Option.{Option, none, some}
use Rattle.std.proofs.Math.Path.{refl}
use Rattle.paper.specs.Address.{address_stops}
use Rattle.paper.specs.Kernel.{Instr}
use Rattle.paper.specs.Jump.{targets_of, place_of, fetch}
use Rattle.paper.specs.Forward.{lie_after, forward}
use Rattle.paper.specs.Machine.{State, step, stops_on, stops, Outcome, run}
use Rattle.paper.specs.Packing.{index}
use Rattle.laws.specs.Names.{Laid}
use Rattle.laws.specs.Places.{index_le, found}
use Rattle.laws.specs.Rename.{AtPlaces}
use Rattle.laws.specs.Runs.{run-zero, run_stop, run_on}
use Rattle.laws.specs.Forward.{later_number}
use Rattle.laws.specs.Truth.{both_true}
use Rattle.laws.specs.Finish.{step-leads, forward_at}

-- ---- forward jumps

module _ (k : List Instr) (laid : Laid 0 k) where
  -- Targets after an instruction have higher numbers.
  numbers_after : (p : ℕ) → index k p < length k → (zs : List ℤ) → lie_after p zs ≡ true → AtPlaces (λ q. index k p < index k q) (map place_of zs)
  numbers_after p h [] e = tt
  numbers_after p h (pos q ∷ zs) e =
      let b = both_true (ltb p q) (lie_after p zs) e in
      (later_number 0 k p q laid h (ltb-true p q b.0), numbers_after p h zs b.1)
  numbers_after p h (negsuc q ∷ zs) e = absurd (false≢true e)

  module _ (ahead : forward k ≡ true) where
    -- A step leads to an instruction of a higher number, or to the end.
    step_rises : (s : State) (i : Instr) → fetch k s.place ≡ some i → index k s.place < index k (step k s).place
    step_rises s i e =
        let f = found 0 k s.place i laid e in
        let after : lie_after s.place (targets_of i) ≡ true = subst (λ (p : ℕ). lie_after p (targets_of i) ≡ true) f.starts (forward_at k s.place i ahead e) in
        (step-leads (λ q. index k s.place < index k q) k s i e (omega (arith, f.next)) (numbers_after s.place f.inside (targets_of i) after)).place

    -- What a run that ends says: 20, or 22 where an address is broken, and no more steps than there are instructions from its place on.
    abbrev Ends : State → Outcome → Type 0
    Ends s o = ((o.verdict ≡ 20) ⊎ (o.verdict ≡ 22)) × (o.steps + index k s.place ≤ length k)

    -- So from any state, wherever it stands and whatever it holds, a run with a budget of that many steps ends.
    pub ends_within : (n : ℕ) (s : State) → length k ≤ n + index k s.place → Ends s (run k n s)
    ends_within zero s h = go (fetch k s.place) refl
      where
        go : (o : Option Instr) → fetch k s.place ≡ o → Ends s (run k zero s)
        go none e = rw (run-zero (stops k) (step k) s, e) (inl refl, omega (arith, index_le k s.place))
        go (some i) e = absurd (omega (arith, (found 0 k s.place i laid e).inside))
    ends_within (suc n) s h = go (fetch k s.place) refl (ends_within n (step k s))
      where
        go : (o : Option Instr) → fetch k s.place ≡ o → (length k ≤ n + index k (step k s).place → Ends (step k s) (run k n (step k s))) → Ends s (run k (suc n) s)
        go none e ih =
            rw (run_stop (stops k) (step k) n s 20 (ap (λ (t : Option Instr). stops_on t s.store.addresses) e)) (inl refl, omega (arith, index_le k s.place))
        go (some i) e ih = by (address_stops s.store.addresses i.word) refl
          where
            stops_by : (t : Bool) → address_stops s.store.addresses i.word ≡ t → stops k s ≡ cond t (some 22) none
            stops_by t a = ap (λ (q : Option Instr). stops_on q s.store.addresses) e ∙ ap (λ (b : Bool). cond b (some 22) none) a

            by : (t : Bool) → address_stops s.store.addresses i.word ≡ t → Ends s (run k (suc n) s)
            by true a = rw (run_stop (stops k) (step k) n s 22 (stops_by true a)) (inr refl, omega (arith, index_le k s.place))
            by false a =
                let rises = step_rises s i e in
                let r = ih (omega arith) in
                rw (run_on (stops k) (step k) n s (stops_by false a)) (r.0, omega (arith, r.1))
