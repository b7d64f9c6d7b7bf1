-- The promises of Finishing hold: where every jump goes forward a run ends, and one that comes back never does. (What a step changes is in ChangesHold.) Assumes nothing.
use Rattle.std.specs.Prelude.{Bool, true, false, List, ◌⊎◌, ◌≡◌, refl, ℕ, zero, suc, ◌-◌, ◌<◌, ◌≤◌}
use Rattle.std.proofs.Common.{inl, inr, ◌∙◌, subst, arith}
use Rattle.std.proofs.Math.Path.{sym, ap}
use Rattle.std.proofs.Math.ListN.{length, length-map}
use Rattle.std.proofs.Math.Pow.{are_bytes}
use Rattle.paper.specs.Limits.{budget_limit}
use Rattle.paper.specs.Dictionary.{dictionary_of}
use Rattle.paper.specs.Shorten.{shorten}
use Rattle.paper.specs.Enable.{digit}
use Rattle.paper.specs.Kernel.{Instr, long_and_short, long_only, Parsed, bad, good}
use Rattle.paper.specs.Forward.{forward}
use Rattle.paper.specs.State.{state_of}
use Rattle.paper.specs.Calls.{verdict, as_number, accepted, checked_as, check_call, forward_as, forward_call, number_of, offset_of, count_of}
use Rattle.laws.specs.Names.{relaid_by, long_form}
use Rattle.paper.specs.Program.{line_of, program}
use Rattle.laws.proofs.ForwardHolds.{forward_same}
use Rattle.laws.proofs.FinishHolds.{ends_within}
use Rattle.laws.specs.Packing.{kernel_of_lem, long_accepted}
use Rattle.laws.proofs.PackingHolds.{packed-accepted, packed-program, unpacked-accepted, unpacked-program}
use Rattle.contracts.specs.Contracts.{number_in, offset_in, count_in, CheckPromise, ForwardPromise, PackPromise, UnpackPromise, StepPromise, RunPromise}
use Rattle.contracts.proofs.OneOutcomeHolds.{one_outcome}
use Rattle.promises.specs.Promises.{result, Steps, nothing, onward, Legal}
use Rattle.promises.specs.Finishing.{Ahead, Ends, EndsFromStart, Finishing}
use Rattle.promises.specs.OutcomesHold.{answers}
use Rattle.promises.specs.PackingHolds.{Relaid, check_counts, pack_wrote, unpack_wrote, relaid_bytes}
use Rattle.promises.proofs.AlikeHolds.{after_ran, start_legal}
use Rattle.promises.proofs.RunningHolds.{run_was_steps}
use Rattle.promises.proofs.ChangesHold.{step_changes}

-- ---- what forward says

-- Of an accepted kernel.
forward-good : (dictionary kernel : List ℕ) (k : List Instr) → accepted long_and_short dictionary kernel ≡ good k
    → forward_call dictionary kernel ≡ verdict 0 (digit (forward k))
unfolding forward_call
forward-good dictionary kernel k e = ap forward_as e

-- Its refusals are check's.
same_refusals : (dictionary kernel : List ℕ)
    → (number_of (forward_call dictionary kernel) ≡ number_of (check_call dictionary kernel)) × (offset_of (forward_call dictionary kernel) ≡ offset_of (check_call dictionary kernel))
unfolding forward_call check_call
same_refusals dictionary kernel = go (accepted long_and_short dictionary kernel)
  where
    go : (q : Parsed) → (number_of (forward_as q) ≡ number_of (checked_as q)) × (offset_of (forward_as q) ≡ offset_of (checked_as q))
    go (bad number offset) = (refl, refl)
    go (good k) = (refl, refl)

forward_refuses : (dictionary kernel : List ℕ) (f : ℕ) → ForwardPromise dictionary kernel f → (c : ℕ) → CheckPromise dictionary kernel c
    → (number_in f ≡ number_in c) × (offset_in f ≡ offset_in c)
forward_refuses dictionary kernel f p c q =
    let t = answers.forward dictionary kernel f p in
    let u = answers.check dictionary kernel c q in
    let s = same_refusals dictionary kernel in
    (t.number ∙ s.0 ∙ sym u.number, t.offset ∙ s.1 ∙ sym u.offset)

forward_tells : (dictionary kernel : List ℕ) (k : List Instr) → accepted long_and_short dictionary kernel ≡ good k
    → (f : ℕ) → ForwardPromise dictionary kernel f → (number_in f ≡ 0) × (count_in f ≡ digit (forward k))
forward_tells dictionary kernel k e f p =
    let t = answers.forward dictionary kernel f p in
    let g = forward-good dictionary kernel k e in
    (t.number ∙ ap number_of g, t.count ∙ ap count_of g)

-- A count of 1 says that every jump goes forward.
digit_one : (b : Bool) → digit b ≡ 1 → b ≡ true
digit_one true e = refl
digit_one false e = absurd (omega arith)

-- ---- a kernel whose jumps go forward

module _ (dictionary kernel : List ℕ) (right : are_bytes kernel ≡ true) (count : ℕ) (ahead : Ahead dictionary kernel count) where
  -- check accepts it,
  check_zero : number_in ahead.check ≡ 0
  check_zero = sym (forward_refuses dictionary kernel ahead.answer ahead.asked ahead.check ahead.checked).0 ∙ ahead.zero

  module _ (k : List Instr) (taken : accepted long_and_short dictionary kernel ≡ good k) where
    -- it has `count` instructions,
    count_is : length k ≡ count
    count_is =
        let g = check_counts dictionary kernel ahead.check ahead.checked check_zero in
        let same : good g.instrs ≡ good k = sym g.are ∙ taken in
        let these : g.instrs ≡ k = cc in
        ap length (sym these) ∙ sym g.count ∙ ahead.counts

    -- and their jumps go forward.
    all_ahead : forward k ≡ true
    all_ahead = digit_one (forward k) (sym (forward_tells dictionary kernel k taken ahead.answer ahead.asked).1 ∙ ahead.every)

    -- So it ends, from whatever is legal.
    legal_ends : (registers state : List ℕ) → Legal k registers state → Ends dictionary kernel count registers state
    legal_ends registers state legal budget low high r registers' state' p =
        let laid = (kernel_of_lem long_and_short dictionary kernel right k taken).sound.laid in
        let told = after_ran dictionary kernel right k taken registers state legal budget high r registers' state' p in
        let e = ends_within k laid all_ahead budget (state_of registers state) (omega (arith, count_is)) in
        (elim e.0 [ inl v ↦ inl (told.0 ∙ v) | inr v ↦ inr (told.0 ∙ v) ], omega (arith, told.1, e.1, count_is))

  -- From a start too.
  start_ends : EndsFromStart dictionary kernel count
  start_ends state registers b =
      let g = check_counts dictionary kernel ahead.check ahead.checked check_zero in
      legal_ends g.instrs g.are registers state (start_legal dictionary kernel right g.instrs g.are state registers b)

-- ---- two kernels with one program

module _ (dictionary kernel kernel' : List ℕ) (right : are_bytes kernel ≡ true) (right' : are_bytes kernel' ≡ true) (k l : List Instr)
    (taken : accepted long_and_short dictionary kernel ≡ good k) (taken' : accepted long_and_short dictionary kernel' ≡ good l) (one : program k ≡ program l) where
  -- Forward answers both alike,
  call_alike : forward_call dictionary kernel ≡ forward_call dictionary kernel'
  call_alike =
      let h = kernel_of_lem long_and_short dictionary kernel right k taken in
      let h' = kernel_of_lem long_and_short dictionary kernel' right' l taken' in
      forward-good dictionary kernel k taken
      ∙ ap (λ (b : Bool). verdict 0 (digit b)) (forward_same k l h.sound h'.sound one)
      ∙ sym (forward-good dictionary kernel' l taken')

  forward_alike : (f g : ℕ) → ForwardPromise dictionary kernel f → ForwardPromise dictionary kernel' g → f ≡ g
  forward_alike f g p q = p ∙ ap as_number call_alike ∙ sym q

  -- and check too.
  check_alike : check_call dictionary kernel ≡ check_call dictionary kernel'
  unfolding check_call
  check_alike =
      let same : length k ≡ length l = sym (length-map k (line_of k)) ∙ ap length one ∙ length-map l (line_of l) in
      ap checked_as taken ∙ ap (verdict 0) same ∙ sym (ap checked_as taken')

  -- So where the jumps of one go forward those of the other do,
  ahead_alike : (count : ℕ) → Ahead dictionary kernel count → Ahead dictionary kernel' count
  ahead_alike count a =
      record {
        answer = a.answer;
        asked = a.asked ∙ ap as_number call_alike;
        zero = a.zero;
        every = a.every;
        check = a.check;
        checked = a.checked ∙ ap as_number check_alike;
        counts = a.counts;
      }

  -- and the other ends as the one does.
  ends_alike : (count : ℕ) → Ahead dictionary kernel count → EndsFromStart dictionary kernel' count
  ends_alike count a = start_ends dictionary kernel' right' count (ahead_alike count a)

-- ---- packed and unpacked

module _ (dictionary kernel out : List ℕ) (right : are_bytes kernel ≡ true) (p : ℕ) (out' : List ℕ) where
  module _ (pack : PackPromise dictionary kernel out p out') (zero : number_in p ≡ 0) where
    abbrev written : Relaid long_only (shorten (dictionary_of dictionary)) dictionary kernel (result p out')
    written = pack_wrote dictionary kernel out right p out' pack zero

    abbrev own : accepted long_and_short dictionary kernel ≡ good written.instrs
    own = long_accepted dictionary kernel written.instrs (kernel_of_lem long_only dictionary kernel right written.instrs written.given)

    abbrev its : accepted long_and_short dictionary (result p out') ≡ good (relaid_by (shorten (dictionary_of dictionary)) written.instrs)
    its = ap (accepted long_and_short dictionary) written.are ∙ packed-accepted dictionary kernel right written.instrs written.given

    abbrev same : program written.instrs ≡ program (relaid_by (shorten (dictionary_of dictionary)) written.instrs)
    same = sym (packed-program dictionary kernel right written.instrs written.given)

    packed_forward : (f g : ℕ) → ForwardPromise dictionary kernel f → ForwardPromise dictionary (result p out') g → f ≡ g
    packed_forward = forward_alike dictionary kernel (result p out') right (relaid_bytes written) written.instrs _ own its same

    packed_ends : (count : ℕ) → Ahead dictionary kernel count → EndsFromStart dictionary (result p out') count
    packed_ends = ends_alike dictionary kernel (result p out') right (relaid_bytes written) written.instrs _ own its same

  module _ (unpack : UnpackPromise dictionary kernel out p out') (zero : number_in p ≡ 0) where
    abbrev long : Relaid long_and_short long_form dictionary kernel (result p out')
    long = unpack_wrote dictionary kernel out right p out' unpack zero

    abbrev long_its : accepted long_and_short dictionary (result p out') ≡ good (relaid_by long_form long.instrs)
    long_its =
        long_accepted dictionary (result p out') (relaid_by long_form long.instrs)
        (kernel_of_lem long_only dictionary (result p out') (relaid_bytes long) (relaid_by long_form long.instrs)
        (ap (accepted long_only dictionary) long.are ∙ unpacked-accepted dictionary kernel right long.instrs long.given))

    abbrev long_same : program long.instrs ≡ program (relaid_by long_form long.instrs)
    long_same = sym (unpacked-program dictionary kernel right long.instrs long.given)

    unpacked_forward : (f g : ℕ) → ForwardPromise dictionary kernel f → ForwardPromise dictionary (result p out') g → f ≡ g
    unpacked_forward = forward_alike dictionary kernel (result p out') right (relaid_bytes long) long.instrs _ long.given long_its long_same

    unpacked_ends : (count : ℕ) → Ahead dictionary kernel count → EndsFromStart dictionary (result p out') count
    unpacked_ends = ends_alike dictionary kernel (result p out') right (relaid_bytes long) long.instrs _ long.given long_its long_same

-- ---- a run that comes back

module _ (dictionary kernel : List ℕ) where
  -- Some steps, and one more.
  steps_last : {n r : ℕ} {registers state registers₁ state₁ registers₂ state₂ : List ℕ} → Steps dictionary kernel n registers state registers₁ state₁
      → StepPromise dictionary kernel registers₁ state₁ r registers₂ state₂ → number_in r ≡ 0 → Steps dictionary kernel (suc n) registers state registers₂ state₂
  steps_last nothing one z = onward one z nothing
  steps_last (onward first y rest) one z = onward first y (steps_last rest one z)

  -- Round and round: from a circle of steps there are as many as one likes. What follows the first step is a circle again.
  go_round : (m n : ℕ) (registers state : List ℕ) → Steps dictionary kernel (suc n) registers state registers state
      → (registers' : List ℕ) × (state' : List ℕ) × Steps dictionary kernel m registers state registers' state'
  go_round zero n registers state circle = (registers, state, nothing)
  go_round (suc m) n registers state (onward {registers₁ = registers₁} {state₁ = state₁} one z rest) =
      let more = go_round m n registers₁ state₁ (steps_last rest one z) in
      (more.0, more.1, onward one z more.2)

  -- A step that is made from here.
  record Another (registers state : List ℕ) : Type 0 where
    answer : ℕ
    registers₁ : List ℕ
    state₁ : List ℕ
    made : StepPromise dictionary kernel registers state answer registers₁ state₁
    zero : number_in answer ≡ 0

  -- Where n steps lead, another is made if n + 1 are: a step has one outcome.
  another : {n : ℕ} {registers state registers₁ state₁ registers₂ state₂ : List ℕ} → Steps dictionary kernel n registers state registers₁ state₁
      → Steps dictionary kernel (suc n) registers state registers₂ state₂ → Another registers₁ state₁
  another nothing (onward one z rest) = record { answer = _; registers₁ = _; state₁ = _; made = one; zero = z }
  another {registers₂ = u} {state₂ = v} (onward {r = a} {registers = x} {state = y} {registers₁ = x₁} {state₁ = y₁} first e rest) (onward {r = b} {registers₁ = x₂} {state₁ = y₂} one z more) =
      let same = one_outcome.step dictionary kernel x y a b x₁ x₂ y₁ y₂ first one in
      another {registers₂ = u} {state₂ = v} rest (rw (same.1, same.2) more)

module _ (dictionary kernel registers state : List ℕ) (right : are_bytes kernel ≡ true) (small : are_bytes state ≡ true)
    (budget : ℕ) (some : 0 < budget) (le : budget ≤ budget_limit) (r : ℕ) (p : RunPromise dictionary kernel budget registers state r registers state)
    (spent : number_in r ≡ 21) where
  -- The circle that the run has made.
  circle : (n : ℕ) → budget ≡ suc n → Steps dictionary kernel (suc n) registers state registers state
  circle n e =
      let w = run_was_steps dictionary kernel registers state right small budget le r registers state p in
      subst (λ (m : ℕ). Steps dictionary kernel m registers state registers state) (w.spent spent ∙ e) w.steps

  comes_back : (m : ℕ) → (registers' : List ℕ) × (state' : List ℕ) × Steps dictionary kernel m registers state registers' state'
  comes_back m = go_round dictionary kernel m (budget - 1) registers state (circle (budget - 1) (omega arith))

  never_ends : (other : ℕ) → other ≤ budget_limit → (q : ℕ) (registers' state' : List ℕ)
      → RunPromise dictionary kernel other registers state q registers' state' → (number_in q ≡ 20) ⊎ (number_in q ≡ 22) → ⊥
  never_ends other le' q registers' state' p' =
      let w = run_was_steps dictionary kernel registers state right small other le' q registers' state' p' in
      let a = another dictionary kernel w.steps (comes_back (suc (count_in q))).2 in
      λ s. elim s [
        | inl e ↦ (let z = w.ended e a.answer a.registers₁ a.state₁ a.made in omega (arith, a.zero))
        | inr e ↦ (let z = (w.astray e a.answer a.registers₁ a.state₁ a.made).0 in omega (arith, a.zero))
      ]

-- ---- all of it

pub finishing : Finishing
finishing =
    record {
      refuses = forward_refuses;
      tells = forward_tells;
      ends = start_ends;
      ends_anywhere = legal_ends;
      packed = λ dictionary kernel out right p out' pack zero. packed_forward dictionary kernel out right p out' pack zero;
      ends_packed = λ dictionary kernel out right p out' pack zero. packed_ends dictionary kernel out right p out' pack zero;
      unpacked = λ dictionary kernel out right p out' unpack zero. unpacked_forward dictionary kernel out right p out' unpack zero;
      ends_unpacked = λ dictionary kernel out right p out' unpack zero. unpacked_ends dictionary kernel out right p out' unpack zero;
      comes_back = comes_back;
      never_ends = never_ends;
      changes = step_changes;
    }
