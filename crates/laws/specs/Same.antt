-- Demand 3: two sound kernels with one program run alike, and so does a kernel and the same laid out anew. Assumes nothing.
use Rattle.std.specs.Prelude.{◌≡◌, ◌⊎◌, Bool, true, false, not, ◌&&◌, List, [], ◌∷◌, map, eqb}
use Rattle.std.proofs.Math.Path.{refl, ap, sym}
use Rattle.std.proofs.Common.{ap₂, ◌∙◌, inl, inr, arith, pow_pos}
use Rattle.std.proofs.Math.Bool.{cond}
use Rattle.std.proofs.lemmas.Simd.{map-map}
use Rattle.std.proofs.Math.Option
use Rattle.std.proofs.Math.Option.{Option, none, some}
use Prim.Native.Nat.{ℕ, zero, suc, ◌+◌, ◌^◌, ◌<◌, ◌≤◌}
use Rattle.std.proofs.Math.ListN.{get_elem?}
use Rattle.paper.specs.Bits.{bits, bit, put}
use Rattle.paper.specs.Operation.{Branch, jmpi, if, else, endif, while, break, cont, Operation, plain, nop, branch, unlisted, operation_of, operation}
use Rattle.paper.specs.Store.{Store}
use Rattle.paper.specs.Enable.{predicate, holds}
use Rattle.paper.specs.Address.{address_broken, address_stops}
use Rattle.paper.specs.Kernel.{Instr}
use Rattle.paper.specs.Jump.{next_of, Distance, distances_of, distances, targets_of, place_of, fetch, lands}
use Rattle.paper.specs.Machine.{Channel, off, awake, waiting, State, Ways, wake, park, is_awake, each, someone, fork, act, perform, step_at}
use Rattle.paper.specs.Machine.{leads, ways_of, step_on, step, stops_on, stops, run_with, run, start_from, start}
use Rattle.paper.specs.State.{waits_land, state_lands}
use Rattle.paper.specs.Packing.{index, Form}
use Rattle.paper.specs.Program.{blanked, blank, goal_of, Line, line_of, program}
use Rattle.laws.specs.Names.{Laid, Sound, rename_c, named, named_outcome, new_end, relaid_by}
use Rattle.laws.specs.Put.{put_below, put_above}
use Rattle.laws.specs.Rename.{cond-ap, AtState, AtChannels, AtWays, rename_ways, leads_at, leads-rename, step_at_at, step_at-rename}
use Rattle.laws.specs.Places.{Names, apart, found, fetch-index, start_zero, zero_lands, lands_names, next_names, jump_lands_lem, targets_name}
use Rattle.laws.specs.Runs.{run-carried}
use Rattle.laws.specs.Moved.{Clears, clear_more, clear, clears, relaid_program, relaid_sound}
use Rattle.laws.specs.Truth.{both_true}

-- ---- a step reads no distance but by its target

-- Words that agree in what a branch reads of them besides its distance: opcode, PredCtrl, PredInv and flag choice.
record Alike (v w : ℕ) : Type 0 where
  op : bits v 0 7 ≡ bits w 0 7
  ctrl : bits v 16 4 ≡ bits w 16 4
  inv : bits v 20 1 ≡ bits w 20 1
  choice : bits v 89 1 ≡ bits w 89 1

-- A word without a distance keeps its flag choice.
put-choice : (f : Distance) (w : ℕ) → (f.lo + f.width ≤ 89) ⊎ (90 ≤ f.lo) → bits (put w f.lo f.width 0) 89 1 ≡ bits w 89 1
put-choice f w (inl h) = put_above w f.lo f.width 0 89 1 (pow_pos f.width) h
put-choice f w (inr h) = put_below w f.lo f.width 0 89 1 (omega arith)

-- A word and the same without some distances agree so.
blank_alike : (fs : List Distance) → Clears fs → (w : ℕ) → Alike (blanked fs w) w
unfolding blanked
blank_alike [] c w = record { op = refl; ctrl = refl; inv = refl; choice = refl }
blank_alike (f ∷ fs) (clear_more c a cs) w =
    let r = blank_alike fs cs (put w f.lo f.width 0) in
    record {
      op = r.op ∙ put_below w f.lo f.width 0 0 7 (omega (arith, c.low));
      ctrl = r.ctrl ∙ put_below w f.lo f.width 0 16 4 (omega (arith, c.low));
      inv = r.inv ∙ put_below w f.lo f.width 0 20 1 (omega (arith, c.low));
      choice = r.choice ∙ put-choice f w c.beside;
    }

-- Their predicates are the same.
alike_holds : (v w : ℕ) (st : Store) → Alike v w → holds v st ≡ holds w st
unfolding holds
alike_holds v w st a = λ i n. predicate (a.ctrl i) (a.inv i) (cond (eqb (a.choice i) 0) st.flag0 st.flag1) n

-- A branch depends on its word by the predicate alone.
act_alike : (b : Branch) (v w : ℕ) (ways : Ways) (st : Store) (cs : List Channel) → holds v st ≡ holds w st → act b v ways st cs ≡ act b w ways st cs
unfolding act
act_alike if v w ways st cs e = ap (λ (f : ℕ → Bool). fork ways st (each (λ n. park (not (f n)) ways.wait) 0 cs)) e
act_alike else v w ways st cs e = refl
act_alike endif v w ways st cs e = refl
act_alike while v w ways st cs e =
    ap {B = State} (λ (f : ℕ → Bool). cond (someone (λ n c. is_awake c && f n) 0 cs)
    (record { store = st; channels = each (λ n. park (not (f n)) ways.next) 0 cs; place = ways.jump })
    (record { store = st; channels = cs; place = ways.next })) e
act_alike break v w ways st cs e = ap (λ (f : ℕ → Bool). fork ways st (each (λ n. park (f n) ways.wait) 0 cs)) e
act_alike cont v w ways st cs e = ap (λ (f : ℕ → Bool). fork ways st (each (λ n. park (f n) ways.wait) 0 cs)) e
act_alike jmpi v w ways st cs e =
    ap {B = State} (λ (f : ℕ → Bool). record { store = st; channels = cs; place = cond (f 0) ways.jump ways.next }) e

-- An instruction does what it does without its distances, if it leads to the same places.
blank_performs : (o : Operation) (w : ℕ) (ways : Ways) (st : Store) (cs : List Channel)
    → perform o (blanked (distances o) w) ways st cs ≡ perform o w ways st cs
unfolding perform blanked
blank_performs (plain p) w ways st cs = refl
blank_performs nop w ways st cs = refl
blank_performs (branch b) w ways st cs =
    act_alike b (blanked (distances_of b) w) w ways st cs (alike_holds (blanked (distances_of b) w) w st (blank_alike (distances_of b) (clear b) w))
blank_performs unlisted w ways st cs = refl

-- So for a whole step.
blank_step : (w here : ℕ) (ways : Ways) (s : State) → step_at (blank w) here ways s ≡ step_at w here ways s
blank_step w here ways s =
    let cs : List Channel = map (wake here) s.channels in
    ap (λ (o : Operation). perform o (blank w) ways s.store cs) (ap operation_of (blank_alike (distances (operation w)) (clears (operation w)) w).op)
    ∙ blank_performs (operation w) w ways s.store cs

-- ---- a kernel's steps, by its program

-- The machine of a program, whose places are the lines' numbers: what a line does, if there is one.
line_on : Option Line → State → State
line_on none s = s
line_on (some l) s = step_at l.word s.place (leads (suc s.place) l.goals) s

-- A step by the program: the line that the state stands at, if there is one.
line_step : List Line → State → State
line_step q s = line_on (get_elem? q s.place) s

-- A run by the program stops where there is no line, and where an address of the line is broken.
line_stops_on : Option Line → List ℕ → Option ℕ
line_stops_on none addresses = some 20
line_stops_on (some l) addresses = cond (address_stops addresses l.word) (some 22) none

line_stops : List Line → State → Option ℕ
line_stops q s = line_stops_on (get_elem? q s.place) s.store.addresses

-- Distances are no addresses: a branch has no operand by address.
blank-stops : (addresses : List ℕ) (w : ℕ) → address_stops addresses (blank w) ≡ address_stops addresses w
unfolding address_stops blanked
blank-stops addresses w = same (operation w) refl
  where
    told : Operation → ℕ → Bool
    told o v = elim o [ plain p ↦ address_broken p addresses v | nop ↦ false | branch b ↦ false | unlisted ↦ false ]

    opcode : operation (blank w) ≡ operation w
    opcode = ap operation_of (blank_alike (distances (operation w)) (clears (operation w)) w).op

    same : (o : Operation) → operation w ≡ o → told (operation (blank w)) (blank w) ≡ told (operation w) w
    same (plain p) e = rw (opcode, e)
    same nop e = rw (opcode, e)
    same (branch b) e = rw (opcode, e)
    same unlisted e = rw (opcode, e)

module _ (k : List Instr) (sound : Sound k) where
  -- The ways of a sound kernel's instructions lead to what names an instruction or the end.
  ways_names : (p : ℕ) (i : Instr) → fetch k p ≡ some i → AtWays (Names k) (ways_of i)
  ways_names p i e =
      leads_at (Names k) (next_of i) (map place_of (targets_of i)) (next_names k p i (found 0 k p i sound.laid e))
      (lands_names k sound.laid 0 (zero_lands k sound.laid))
      (targets_name k sound.laid (targets_of i) (jump_lands_lem k k p i sound.land e))

  -- Read by instruction numbers, they are the ways of its line.
  ways_named : (i : Instr) → rename_ways (index k) (ways_of i) ≡ leads (index k (next_of i)) (map (goal_of k) (targets_of i))
  ways_named i =
      leads-rename (index k) (start_zero 0 k sound.laid) (next_of i) (map place_of (targets_of i))
      ∙ ap (leads (index k (next_of i))) (map-map (index k) place_of (targets_of i))

  -- So a step from places that name something leads to such places.
  pub step_names : (s : State) → AtState (Names k) s → AtState (Names k) (step k s)
  unfolding step_on
  step_names s v = go (fetch k s.place) refl
    where
      go : (o : Option Instr) → fetch k s.place ≡ o → AtState (Names k) (step_on o s)
      go none e = v
      go (some i) e = step_at_at (Names k) i.word i.place (ways_of i) (ways_names s.place i e) s v

  -- Read by instruction numbers, a step of the kernel is a step by its program.
  step-named : (s : State) → AtState (Names k) s → named k (step k s) ≡ line_step (program k) (named k s)
  unfolding step_on line_step line_on
  step-named s v = go (fetch k s.place) refl ∙ sym (ap (λ (o : Option Line). line_on o (named k s)) (fetch-index (line_of k) k s.place))
    where
      go : (o : Option Instr) → fetch k s.place ≡ o → named k (step_on o s) ≡ line_on (Option.map (line_of k) o) (named k s)
      go none e = refl
      go (some i) e =
          let f = found 0 k s.place i sound.laid e in
          let h : Names k i.place = rw f.starts v.current in
          let ways : ℕ → Ways = (λ n. leads n (map (goal_of k) (targets_of i))) in
          step_at-rename (index k) (Names k) (apart k) i.word i.place (ways_of i) h (ways_names s.place i e) s v
          ∙ ap (λ (x : Ways). step_at i.word (index k i.place) x (named k s)) (ways_named i)
          ∙ (λ j. step_at i.word (index k (f.starts j)) (ways (f.next j)) (named k s))
          ∙ sym (blank_step i.word (index k s.place) (ways (suc (index k s.place))) (named k s))

  -- Both stop at the same states, with the same verdict.
  stops_named : (s : State) → AtState (Names k) s → line_stops (program k) (named k s) ≡ stops k s
  unfolding line_stops line_stops_on
  stops_named s v =
      ap (λ (o : Option Line). line_stops_on o s.store.addresses) (fetch-index (line_of k) k s.place) ∙ go (fetch k s.place)
    where
      go : (o : Option Instr) → line_stops_on (Option.map (line_of k) o) s.store.addresses ≡ stops_on o s.store.addresses
      go none = refl
      go (some i) = ap (λ (t : Bool). cond t (some 22) none) (blank-stops s.store.addresses i.word)

  -- So a run of the kernel is a run by its program.
  run-named : (n : ℕ) (s : State) → AtState (Names k) s
      → named_outcome k (run k n s) ≡ run_with (line_stops (program k)) (line_step (program k)) n (named k s)
  run-named n s v =
      run-carried (named k) (stops k) (line_stops (program k)) (step k) (line_step (program k)) (AtState (Names k))
      step_names stops_named step-named n s v

-- Waiting places that land name something.
waits_names : (k : List Instr) → Laid 0 k → (cs : List Channel) → waits_land k cs ≡ true → AtChannels (Names k) cs
unfolding waits_land
waits_names k l [] e = tt
waits_names k l (off ∷ cs) e = (tt, waits_names k l cs e)
waits_names k l (awake ∷ cs) e = (tt, waits_names k l cs e)
waits_names k l (waiting p ∷ cs) e =
    let h = both_true (lands k p) (waits_land k cs) e in (lands_names k l p h.0, waits_names k l cs h.1)

-- So do all the places of a state that lands.
pub state_names : (k : List Instr) → Sound k → (s : State) → state_lands k s ≡ true → AtState (Names k) s
state_names k a s e =
    let h = both_true (lands k s.place) (waits_land k s.channels) e in
    record { current = lands_names k a.laid s.place h.0; waits = waits_names k a.laid s.channels h.1 }

-- ---- runs

-- Two sound kernels with one program: from states that name the same instructions each run has the same verdict, step count, registers and
-- flags, and the current place and each channel's waiting place name the same instruction.
pub same_runs : (k k' : List Instr) → Sound k → Sound k' → program k ≡ program k'
    → (s s' : State) → state_lands k s ≡ true → state_lands k' s' ≡ true → named k s ≡ named k' s'
    → (n : ℕ) → named_outcome k (run k n s) ≡ named_outcome k' (run k' n s')
same_runs k k' a a' e s s' v v' d n =
    run-named k a n s (state_names k a s v)
    ∙ (λ i. run_with (line_stops (e i)) (line_step (e i)) n (d i))
    ∙ sym (run-named k' a' n s' (state_names k' a' s' v'))

-- At the start no channel waits.
start_waits : (k : List Instr) (mask n c : ℕ) → waits_land k (start_from mask n c) ≡ true
unfolding start_from waits_land
start_waits k mask n zero = refl
start_waits k mask n (suc c) = go (bit mask n) (start_waits k mask (suc n) c)
  where
    go : (b : Bool) → waits_land k (start_from mask (suc n) c) ≡ true → waits_land k (cond b awake off ∷ start_from mask (suc n) c) ≡ true
    go true e = e
    go false e = e

-- So the start's channels are the same under every renaming.
start_rename : (φ : ℕ → ℕ) (mask n c : ℕ) → map (rename_c φ) (start_from mask n c) ≡ start_from mask n c
unfolding start_from rename_c
start_rename φ mask n zero = refl
start_rename φ mask n (suc c) =
    ap₂ {C = List Channel} (λ x y. x ∷ y) (cond-ap (rename_c φ) (bit mask n) awake off) (start_rename φ mask (suc n) c)

-- The start state of a sound kernel stands at an instruction or the end.
pub start-lands : (k : List Instr) → Sound k → (st : Store) (mask : ℕ) → state_lands k (start st mask) ≡ true
start-lands k a st mask = rw (zero_lands k a.laid) (start_waits k mask 0 16)

-- It reads the same by instruction numbers.
pub start-named : (k : List Instr) → Sound k → (st : Store) (mask : ℕ) → named k (start st mask) ≡ start st mask
start-named k a st mask = λ i. record { store = st; channels = start_rename (index k) mask 0 16 i; place = start_zero 0 k a.laid i }

-- Demand 3 for a kernel and the same laid out anew: from any start, for every number of steps, the runs have the same verdict, step count,
-- registers and flags, and the current place and each channel's waiting place name the same instruction.
pub demand_3 : (form : Form) (k : List Instr) → Sound k → new_end form k < 2 ^ 15 → (st : Store) (mask n : ℕ)
    → named_outcome k (run k n (start st mask)) ≡ named_outcome (relaid_by form k) (run (relaid_by form k) n (start st mask))
demand_3 form k a end st mask n =
    let b = relaid_sound form k a.laid end in
    same_runs k (relaid_by form k) a b (sym (relaid_program form k a.laid end)) (start st mask) (start st mask)
    (start-lands k a st mask) (start-lands (relaid_by form k) b st mask)
    (start-named k a st mask ∙ sym (start-named (relaid_by form k) b st mask)) n
