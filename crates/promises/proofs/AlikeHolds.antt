-- Kernels with one program run alike (`program_alike`), and so do a kernel and its packed or unpacked form. Assumes nothing.
use Rattle.std.specs.Prelude.{Bool, true, cond, List, ◌≡◌, ℕ, ◌*◌, ◌≤◌, length}
use Rattle.std.proofs.Common.{inl, inr, sym, ap, ◌∙◌, eq-eqb, ne_eqb}
use Rattle.std.proofs.Math.Pow.{are_bytes}
use Rattle.paper.specs.Limits.{register_bytes, state_length, budget_limit}
use Rattle.paper.specs.Dictionary.{dictionary_of}
use Rattle.paper.specs.Shorten.{shorten}
use Rattle.paper.specs.Kernel.{Instr, long_and_short, long_only, good}
use Rattle.paper.specs.Machine.{State, Outcome, run}
use Rattle.paper.specs.State.{half, state_of}
use Rattle.paper.specs.Calls.{as_number, verdict, refusal_with, Changed, accepted, stopped_as, ran_as, run_call, number_of, count_of}
use Rattle.paper.specs.Program.{program}
use Rattle.laws.specs.Names.{named, named_outcome, relaid_by, long_form}
use Rattle.laws.specs.Same.{same_runs}
use Rattle.laws.specs.Packing.{kernel_of_lem, long_accepted, accepted_parts}
use Rattle.laws.proofs.PackingHolds.{packed-accepted, packed-program, unpacked-accepted, unpacked-program}
use Rattle.laws.specs.Runs.{ended, spent, astray, verdict_says}
use Rattle.laws.specs.Calls.{stopped_number, stopped_count}
use Rattle.laws.specs.Demands.{Ready, run_ready}
use Rattle.contracts.specs.Contracts.{number_in, offset_in, count_in, PackPromise, UnpackPromise, RunPromise}
use Rattle.promises.specs.Stepping.{buffers, legal_parts, run_leaves_bytes, run_leaves_ready, run_leaves}
use Rattle.promises.specs.Making.{run_made}
use Rattle.promises.specs.Promises.{result, RunVerdict, Begun, Legal, Same, RanAlike, Alike}
use Rattle.promises.specs.OutcomesHold.{answers}
use Rattle.promises.specs.PackingHolds.{pack_wrote, unpack_wrote, relaid_bytes}
use Rattle.promises.specs.Starts.{started_bytes, start_ready, start_names}

-- ---- what names the same

-- Registers and states name the same where they read the same by the numbers of their instructions.
same_of : (k l : List Instr) (registers state registers' state' : List ℕ) → Legal k registers state → Legal l registers' state'
    → named k (state_of registers state) ≡ named l (state_of registers' state') → Same k l registers state registers' state'
unfolding state_of
same_of k l registers state registers' state' legal legal' e =
    record {
      legal = legal;
      legal' = legal';
      same_registers = ap (λ (s : State). s.store.registers) e;
      same_flag0 = ap (λ (s : State). s.store.flag0) e;
      same_flag1 = ap (λ (s : State). s.store.flag1) e;
      same_addresses = ap (λ (s : State). s.store.addresses) e;
      same_place = ap (λ (s : State). s.place) e;
      same_channels = ap (λ (s : State). s.channels) e;
    }

named_of : (k l : List Instr) (registers state registers' state' : List ℕ) → Same k l registers state registers' state'
    → named k (state_of registers state) ≡ named l (state_of registers' state')
unfolding state_of
named_of k l registers state registers' state' s = λ i. record {
  store = record { registers = s.same_registers i; flag0 = s.same_flag0 i; flag1 = s.same_flag1 i; addresses = s.same_addresses i };
  channels = s.same_channels i;
  place = s.same_place i;
}

-- ---- one kernel

module _ (dictionary kernel : List ℕ) (right : are_bytes kernel ≡ true) (k : List Instr) (taken : accepted long_and_short dictionary kernel ≡ good k) where
  -- With legal registers and state nothing that is lent is refused; and the other way.
  legal_ready : (registers state : List ℕ) → Legal k registers state → Ready dictionary kernel registers state k
  legal_ready registers state h =
      let parts = accepted_parts dictionary kernel k taken in
      record {
        sizes = rw (parts.0, eq-eqb (length registers) register_bytes h.registers_whole, eq-eqb (length state) state_length h.state_whole);
        judged = parts.1;
        legal = h.legal;
      }

  ready_legal : (registers state : List ℕ) → are_bytes state ≡ true → Ready dictionary kernel registers state k → Legal k registers state
  ready_legal registers state small r =
      let b = buffers dictionary kernel registers state right small k r in
      record { registers_whole = b.0; state_whole = b.1; bytes = small; legal = r.legal }

  -- What a run from there answers and leaves, by the machine's run.
  module _ (registers state : List ℕ) (h : Legal k registers state) (budget : ℕ) (le : budget ≤ budget_limit)
      (r : ℕ) (registers₁ state₁ : List ℕ) (p : RunPromise dictionary kernel budget registers state r registers₁ state₁) where
    abbrev outcome : Outcome
    outcome = run k budget (state_of registers state)

    made : run_call dictionary kernel budget registers state ≡ ran_as outcome
    made = run_ready dictionary kernel registers state k (legal_ready registers state h) budget le

    -- The answer, by the machine's outcome.
    after_answer : r ≡ as_number (stopped_as outcome.verdict outcome.state.place outcome.steps)
    after_answer = p.0 ∙ ap (λ (c : Changed). as_number c.answer) made

    pub after_ran : (number_in r ≡ outcome.verdict) × (count_in r ≡ outcome.steps)
    after_ran =
        let t = answers.run dictionary kernel budget registers state r registers₁ state₁ p in (
          t.number ∙ ap (λ (c : Changed). number_of c.answer) made ∙ stopped_number outcome.verdict outcome.state.place outcome.steps,
          t.count ∙ ap (λ (c : Changed). count_of c.answer) made ∙ stopped_count outcome.verdict outcome.state.place outcome.steps,
        )

    pub after_verdict : RunVerdict (number_in r)
    after_verdict =
        elim (verdict_says k budget (state_of registers state)) [
          | ended e f ↦ inl (after_ran.0 ∙ e)
          | spent e n i f ↦ inr (inl (after_ran.0 ∙ e))
          | astray e n i f a ↦ inr (inr (after_ran.0 ∙ e))
        ]

    -- 22 names the byte of the instruction at the place where the run stopped.
    after_names : number_in r ≡ 22 → offset_in r ≡ 8 * half state₁ 4
    after_names e =
        let t = answers.run dictionary kernel budget registers state r registers₁ state₁ p in
        let m = run_made dictionary kernel right budget le registers state h.bytes in
        t.offset ∙ m.names (sym t.number ∙ e) ∙ ap (λ (l : List ℕ). 8 * half l 4) (sym p.2)

    -- Any other answer says nothing of a place.
    after_other : (number_in r ≡ 22 → ⊥) → r ≡ as_number (verdict outcome.verdict outcome.steps)
    after_other other =
        after_answer
        ∙ ap (λ (t : Bool). as_number (cond t (refusal_with 22 (8 * outcome.state.place) outcome.steps) (verdict outcome.verdict outcome.steps)))
        (ne_eqb outcome.verdict 22 (λ e. other (after_ran.0 ∙ e)))

    after_state : state_of registers₁ state₁ ≡ outcome.state
    after_state =
        (λ i. state_of (p.1 i) (p.2 i)) ∙ run_leaves dictionary kernel registers state right h.bytes k (legal_ready registers state h) budget le

    after_legal : Legal k registers₁ state₁
    after_legal =
        let bytes : are_bytes state₁ ≡ true =
        ap are_bytes p.2 ∙ run_leaves_bytes dictionary kernel registers state right h.bytes k (legal_ready registers state h) budget le in
        ready_legal registers₁ state₁ bytes
        (rw (p.1, p.2) (run_leaves_ready dictionary kernel registers state right h.bytes k (legal_ready registers state h) budget le))

  -- A start leaves such registers and state.
  pub start_legal : (state registers : List ℕ) → Begun state registers → Legal k registers state
  start_legal state registers b =
      ready_legal registers state (started_bytes state registers b) (start_ready state registers b dictionary kernel right k taken)

-- ---- two kernels with one program

module _ (dictionary kernel kernel' : List ℕ) (right : are_bytes kernel ≡ true) (right' : are_bytes kernel' ≡ true) (k l : List Instr)
    (taken : accepted long_and_short dictionary kernel ≡ good k) (taken' : accepted long_and_short dictionary kernel' ≡ good l) (one : program k ≡ program l) where
  runs_alike : (registers state registers' state' : List ℕ) → Same k l registers state registers' state' → (budget : ℕ) → budget ≤ budget_limit
      → (r : ℕ) (registers₁ state₁ : List ℕ) → RunPromise dictionary kernel budget registers state r registers₁ state₁
      → (q : ℕ) (registers₂ state₂ : List ℕ) → RunPromise dictionary kernel' budget registers' state' q registers₂ state₂
      → RanAlike k l r registers₁ state₁ q registers₂ state₂
  runs_alike registers state registers' state' s budget le r registers₁ state₁ p q registers₂ state₂ p' =
      let h = kernel_of_lem long_and_short dictionary kernel right k taken in
      let h' = kernel_of_lem long_and_short dictionary kernel' right' l taken' in
      let ready = legal_ready dictionary kernel right k taken registers state s.legal in
      let ready' = legal_ready dictionary kernel' right' l taken' registers' state' s.legal' in
      let lands = (legal_parts dictionary kernel registers state right s.legal.bytes k ready).1 in
      let lands' = (legal_parts dictionary kernel' registers' state' right' s.legal'.bytes l ready').1 in
      let same : named_outcome k (run k budget (state_of registers state)) ≡ named_outcome l (run l budget (state_of registers' state')) =
      same_runs k l h.sound h'.sound one (state_of registers state) (state_of registers' state') lands lands'
      (named_of k l registers state registers' state' s) budget in
      let told = after_ran dictionary kernel right k taken registers state s.legal budget le r registers₁ state₁ p in
      let told' = after_ran dictionary kernel' right' l taken' registers' state' s.legal' budget le q registers₂ state₂ p' in
      let number : number_in r ≡ number_in q = told.0 ∙ ap (λ (o : Outcome). o.verdict) same ∙ sym told'.0 in
      record {
        same_number = number;
        same_count = told.1 ∙ ap (λ (o : Outcome). o.steps) same ∙ sym told'.1;
        answered = after_verdict dictionary kernel right k taken registers state s.legal budget le r registers₁ state₁ p;
        same_answer = λ other.
            after_other dictionary kernel right k taken registers state s.legal budget le r registers₁ state₁ p other
            ∙ ap (λ (o : Outcome). as_number (verdict o.verdict o.steps)) same
            ∙ sym (after_other dictionary kernel' right' l taken' registers' state' s.legal' budget le q registers₂ state₂ p' (λ e. other (number ∙ e)));
        names = λ e. (
          after_names dictionary kernel right k taken registers state s.legal budget le r registers₁ state₁ p e,
          after_names dictionary kernel' right' l taken' registers' state' s.legal' budget le q registers₂ state₂ p' (sym number ∙ e),
        );
        left =
            same_of k l registers₁ state₁ registers₂ state₂
            (after_legal dictionary kernel right k taken registers state s.legal budget le r registers₁ state₁ p)
            (after_legal dictionary kernel' right' l taken' registers' state' s.legal' budget le q registers₂ state₂ p')
            (ap (named k) (after_state dictionary kernel right k taken registers state s.legal budget le r registers₁ state₁ p)
            ∙ ap (λ (o : Outcome). o.state) same
            ∙ sym (ap (named l) (after_state dictionary kernel' right' l taken' registers' state' s.legal' budget le q registers₂ state₂ p')));
      }

  starts_alike : (state registers : List ℕ) → Begun state registers → Same k l registers state registers state
  starts_alike state registers b =
      same_of k l registers state registers state
      (start_legal dictionary kernel right k taken state registers b) (start_legal dictionary kernel' right' l taken' state registers b)
      (start_names state registers b dictionary kernel right k taken ∙ sym (start_names state registers b dictionary kernel' right' l taken'))

  pub program_alike : Alike dictionary kernel kernel'
  program_alike =
      record {
        k = k;
        l = l;
        taken = taken;
        taken' = taken';
        runs = runs_alike;
        starts = starts_alike;
        from_start = λ state registers b. runs_alike registers state registers state (starts_alike state registers b);
      }

-- ---- packed and unpacked

module _ (dictionary kernel out : List ℕ) (right : are_bytes kernel ≡ true) (p : ℕ) (out' : List ℕ) where
  pub packed_alike : PackPromise dictionary kernel out p out' → number_in p ≡ 0 → Alike dictionary kernel (result p out')
  packed_alike pack zero =
      let w = pack_wrote dictionary kernel out right p out' pack zero in
      let k = w.instrs in
      program_alike dictionary kernel (result p out') right (relaid_bytes w) k (relaid_by (shorten (dictionary_of dictionary)) k)
      (long_accepted dictionary kernel k (kernel_of_lem long_only dictionary kernel right k w.given))
      (ap (accepted long_and_short dictionary) w.are ∙ packed-accepted dictionary kernel right k w.given)
      (sym (packed-program dictionary kernel right k w.given))

  pub unpacked_alike : UnpackPromise dictionary kernel out p out' → number_in p ≡ 0 → Alike dictionary kernel (result p out')
  unpacked_alike unpack zero =
      let w = unpack_wrote dictionary kernel out right p out' unpack zero in
      let k = w.instrs in
      let l = relaid_by long_form k in
      let bytes = relaid_bytes w in
      let taken = ap (accepted long_only dictionary) w.are ∙ unpacked-accepted dictionary kernel right k w.given in
      program_alike dictionary kernel (result p out') right bytes k l w.given
      (long_accepted dictionary (result p out') l (kernel_of_lem long_only dictionary (result p out') bytes l taken))
      (sym (unpacked-program dictionary kernel right k w.given))
