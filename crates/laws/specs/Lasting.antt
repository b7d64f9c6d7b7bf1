-- What every step keeps: sixteen channels, flags of 16 bits, as many register bytes and bytes of a0, and places that name an instruction or the end. So a state
-- that can be stored in the lent bytes stays one. Assumes nothing.
use Rattle.std.specs.Prelude.{Bool, true, cond, ◌&&◌, List, [], ◌∷◌, map, ◌≡◌, refl, ℕ, zero, suc, ◌^◌, ◌<◌, ◌≤◌, eqb, length, get_or}
use Rattle.std.proofs.Math.Bool.{or-true}
use Rattle.std.proofs.Math.Option.{Option, none, some, none-ne-some}
use Rattle.std.proofs.Common.{sym, ap, ◌∙◌, arith, eq-eqb, eqb-true}
use Rattle.std.proofs.lemmas.List.{length-map}
use Rattle.paper.specs.Limits.{address_bytes}
use Rattle.paper.specs.Word.{flag_choice}
use Rattle.paper.specs.Operation.{Plain, Branch, jmpi, if, else, endif, while, break, cont, Operation, plain, nop, branch, unlisted, operation, traits}
use Rattle.paper.specs.Store.{Store}
use Rattle.paper.specs.Enable.{chosen_flag, holds, flag_after}
use Rattle.paper.specs.Address.{settled}
use Rattle.paper.specs.Effect.{compared_flag, plain_effect, effect}
use Rattle.paper.specs.Kernel.{Instr}
use Rattle.paper.specs.Jump.{next_of, fetch, found, end_from, end_of, lands}
use Rattle.paper.specs.Machine.{Channel, off, awake, waiting, State, Ways, wake, is_awake, each, someone, act, perform, step_on, step, stops, run}
use Rattle.paper.specs.State.{place_in, waits_land, state_lands}
use Rattle.laws.specs.Masks.{of_bits_less}
use Rattle.laws.specs.Scatter.{registers_length, addresses_length}
use Rattle.laws.specs.Names.{Laid, Sound}
use Rattle.laws.specs.Rename.{cond_at, AtChannels, AtState}
use Rattle.laws.specs.Places.{here, there, at, fetch-there, Names, none-length, end_after}
use Rattle.laws.specs.Runs.{iterate, ran}
use Rattle.laws.specs.Same.{step_names}
use Rattle.laws.specs.StateBytes.{Storable}

-- ---- places

-- What names an instruction or the end lands there.
pub names_lands : (k : List Instr) (p : ℕ) → Names k p → lands k p ≡ true
unfolding lands
names_lands k p n = go (fetch k p) refl
  where
    go : (o : Option Instr) → fetch k p ≡ o → lands k p ≡ true
    go (some i) e = rw e
    go none e = rw (eq-eqb p (end_of k) (n.last (none-length k p e))) (or-true (found (fetch k p)))

waits_land_lem : (k : List Instr) (cs : List Channel) → AtChannels (Names k) cs → waits_land k cs ≡ true
unfolding waits_land
waits_land_lem k [] v = refl
waits_land_lem k (off ∷ cs) v = waits_land_lem k cs v.1
waits_land_lem k (awake ∷ cs) v = waits_land_lem k cs v.1
waits_land_lem k (waiting p ∷ cs) v = rw (names_lands k p v.0) (waits_land_lem k cs v.1)

pub state_lands_lem : (k : List Instr) (s : State) → AtState (Names k) s → state_lands k s ≡ true
state_lands_lem k s v = rw (names_lands k s.place v.current) (waits_land_lem k s.channels v.waits)

-- No place of a kernel lies past its end.
fetch_before : (a : ℕ) (k : List Instr) (p : ℕ) (i : Instr) → Laid a k → fetch k p ≡ some i → p ≤ end_from a k
unfolding Laid end_from fetch
fetch_before a [] p i l e = absurd (none-ne-some i e)
fetch_before a (j ∷ k) p i l e =
    elim (at j p) [
      | here h ↦ omega (arith, l.1, end_after (next_of j) k l.2)
      | there h ↦ fetch_before (next_of j) k p i l.2 (sym (fetch-there j k p h) ∙ e)
    ]

pub lands_before : (k : List Instr) → Laid 0 k → (p : ℕ) → lands k p ≡ true → p ≤ end_of k
unfolding lands
lands_before k l p e = go (fetch k p) refl
  where
    go : (o : Option Instr) → fetch k p ≡ o → p ≤ end_of k
    go (some i) f = fetch_before 0 k p i l f
    go none f = let h : p ≡ end_of k = eqb-true p (end_of k) (rw f at e) in omega arith

-- ---- flags and registers

-- Flags of 16 bits, n register bytes, and the sixteen bytes of a0.
pub record Fit (n : ℕ) (st : Store) : Type 0 where
  pub bytes : length st.registers ≡ n
  pub flag0 : st.flag0 < 2 ^ 16
  pub flag1 : st.flag1 < 2 ^ 16
  pub addresses : length st.addresses ≡ address_bytes

chosen_less : (w n : ℕ) (st : Store) → Fit n st → chosen_flag w st < 2 ^ 16
chosen_less w n st h = cond_at (λ (x : ℕ). x < 2 ^ 16) (eqb (flag_choice w) 0) st.flag0 st.flag1 h.flag0 h.flag1

compared_less : (w : ℕ) (woken : List Bool) (st : Store) → compared_flag w woken st < 2 ^ 16
unfolding compared_flag flag_after
compared_less w woken st = of_bits_less _ 16

pub plain_fits : (p : Plain) (w n : ℕ) (woken : List Bool) (st : Store) → Fit n st → Fit n (plain_effect p w woken st)
unfolding plain_effect
plain_fits p w n woken st h =
    let flag : ℕ = cond (traits p).compares (compared_flag w woken st) (chosen_flag w st) in
    let less : flag < 2 ^ 16 = cond_at (λ (x : ℕ). x < 2 ^ 16) (traits p).compares (compared_flag w woken st) (chosen_flag w st) (compared_less w woken st) (chosen_less w n st h) in
    record {
      bytes = registers_length p w woken st ∙ h.bytes;
      flag0 = cond_at (λ (x : ℕ). x < 2 ^ 16) (eqb (flag_choice w) 0) flag st.flag0 less h.flag0;
      flag1 = cond_at (λ (x : ℕ). x < 2 ^ 16) (eqb (flag_choice w) 0) st.flag1 flag h.flag1 less;
      addresses = addresses_length p w woken st ∙ h.addresses;
    }

pub effect_fits : (w n : ℕ) (woken : List Bool) (st : Store) → Fit n st → Fit n (effect w woken st)
unfolding effect
effect_fits w n woken st h = go (operation w)
  where
    go : (o : Operation) → Fit n (elim o [ plain p ↦ plain_effect p (settled p st.addresses w) woken st | nop ↦ st | branch b ↦ st | unlisted ↦ st ])
    go (plain p) = plain_fits p (settled p st.addresses w) n woken st h
    go nop = h
    go (branch b) = h
    go unlisted = h

-- ---- channels

each-length : (f : ℕ → Channel → Channel) (n : ℕ) (cs : List Channel) → length (each f n cs) ≡ length cs
unfolding each
each-length f n [] = refl
each-length f n (c ∷ cs) = ap suc (each-length f (suc n) cs)

-- The store fits, and there are c channels.
pub record Holds (n c : ℕ) (s : State) : Type 0 where
  pub store : Fit n s.store
  pub count : length s.channels ≡ c

act-holds : (b : Branch) (w n c : ℕ) (ways : Ways) (st : Store) (cs : List Channel) → Fit n st → length cs ≡ c → Holds n c (act b w ways st cs)
unfolding act
act-holds if w n c ways st cs h l = record { store = h; count = each-length _ 0 cs ∙ l }
act-holds else w n c ways st cs h l = record { store = h; count = each-length _ 0 cs ∙ l }
act-holds endif w n c ways st cs h l = record { store = h; count = l }
act-holds while w n c ways st cs h l =
    cond_at (Holds n c) (someone (λ m d. is_awake d && holds w st m) 0 cs) _ _ (record { store = h; count = each-length _ 0 cs ∙ l }) (record { store = h; count = l })
act-holds jmpi w n c ways st cs h l = record { store = h; count = l }
act-holds break w n c ways st cs h l = record { store = h; count = each-length _ 0 cs ∙ l }
act-holds cont w n c ways st cs h l = record { store = h; count = each-length _ 0 cs ∙ l }

perform-holds : (o : Operation) (w n c : ℕ) (ways : Ways) (st : Store) (cs : List Channel) → Fit n st → length cs ≡ c → Holds n c (perform o w ways st cs)
unfolding perform
perform-holds (plain p) w n c ways st cs h l = record { store = effect_fits w n (map is_awake cs) st h; count = l }
perform-holds nop w n c ways st cs h l = record { store = effect_fits w n (map is_awake cs) st h; count = l }
perform-holds (branch b) w n c ways st cs h l = act-holds b w n c ways st cs h l
perform-holds unlisted w n c ways st cs h l = record { store = effect_fits w n (map is_awake cs) st h; count = l }

pub step-holds : (k : List Instr) (n c : ℕ) (s : State) → Holds n c s → Holds n c (step k s)
unfolding step_on
step-holds k n c s h = go (fetch k s.place)
  where
    go : (o : Option Instr) → Holds n c (step_on o s)
    go none = h
    go (some i) = perform-holds (operation i.word) i.word n c _ s.store (map (wake i.place) s.channels) h.store (length-map s.channels (wake i.place) ∙ h.count)

-- ---- runs

-- All that a step keeps, of a state of a kernel.
pub record Lasting (k : List Instr) (n : ℕ) (s : State) : Type 0 where
  pub holding : Holds n 16 s
  pub naming : AtState (Names k) s

pub step_lasting : (k : List Instr) → Sound k → (n : ℕ) (s : State) → Lasting k n s → Lasting k n (step k s)
step_lasting k sound n s l = record { holding = step-holds k n 16 s l.holding; naming = step_names k sound s l.naming }

iterate_lasting : (k : List Instr) → Sound k → (n m : ℕ) (s : State) → Lasting k n s → Lasting k n (iterate (step k) m s)
unfolding iterate
iterate_lasting k sound n zero s l = l
iterate_lasting k sound n (suc m) s l = iterate_lasting k sound n m (step k s) (step_lasting k sound n s l)

pub run_lasting : (k : List Instr) → Sound k → (n budget : ℕ) (s : State) → Lasting k n s → Lasting k n (run k budget s).state
run_lasting k sound n budget s l =
    let r = ran (stops k) (step k) budget s in
    rw r.reached (iterate_lasting k sound n (run k budget s).steps s l)

-- Such a state can be stored, in a kernel of under 2^16 places.
waits_less : (k : List Instr) → Laid 0 k → end_of k < 2 ^ 16 → (cs : List Channel) → AtChannels (Names k) cs → (n : ℕ) → place_in (get_or cs n off) < 2 ^ 16
waits_less k l e [] v n = omega arith
waits_less k l e (off ∷ cs) v zero = omega arith
waits_less k l e (awake ∷ cs) v zero = omega arith
waits_less k l e (waiting p ∷ cs) v zero = let b = lands_before k l p (names_lands k p v.0) in omega arith
waits_less k l e (off ∷ cs) v (suc n) = waits_less k l e cs v.1 n
waits_less k l e (awake ∷ cs) v (suc n) = waits_less k l e cs v.1 n
waits_less k l e (waiting p ∷ cs) v (suc n) = waits_less k l e cs v.1 n

pub lasting_storable : (k : List Instr) → Laid 0 k → end_of k < 2 ^ 16 → (n : ℕ) (s : State) → Lasting k n s → Storable s
lasting_storable k l e n s h = record {
  sixteen = h.holding.count;
  addresses = h.holding.store.addresses;
  flag0 = h.holding.store.flag0;
  flag1 = h.holding.store.flag1;
  place = (let b = lands_before k l s.place (names_lands k s.place h.naming.current) in omega arith);
  waits = waits_less k l e s.channels h.naming.waits;
}
