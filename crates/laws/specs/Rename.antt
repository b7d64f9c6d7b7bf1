-- A step copies places and compares them, and does nothing else with them: it commutes with a map of places that keeps apart those in play.
-- Assumes nothing.
use Rattle.std.specs.Prelude.{◌≡◌, Bool, ◌&&◌, cond, ℕ, suc, eqb}
use Rattle.std.proofs.Math.Path.{refl, ap₂}
use Rattle.std.proofs.Common.{ap, sym, ◌∙◌}
use Rattle.std.proofs.Math.Bool.{true, false, not, ◌||◌}
use mathlib.Core.List.{List, [], ◌∷◌, map}
use Rattle.paper.specs.Operation.{Branch, jmpi, if, else, endif, while, break, cont, Operation, plain, nop, branch, unlisted, operation}
use Rattle.paper.specs.Store.{Store}
use Rattle.paper.specs.Enable.{holds}
use Rattle.paper.specs.Effect.{effect}
use Rattle.paper.specs.Machine.{Channel, off, awake, waiting, State, Ways, wake, park, is_awake, waits_at, each, someone}
use Rattle.paper.specs.Machine.{onward, fork, leave, act, pass, perform, step_at, last_of, leads}
use Rattle.laws.specs.Names.{rename_c, rename}

-- A function of a choice is the choice of the function's values.
pub cond-ap {ℓ ℓ'} : {A : Type ℓ} {B : Type ℓ'} (f : A → B) (b : Bool) (x y : A) → f (cond b x y) ≡ cond b (f x) (f y)
cond-ap f true x y = refl
cond-ap f false x y = refl

-- P holds of the place at which a channel waits, if it does.
abbrev pub AtChannel : (ℕ → Type 0) → Channel → Type 0
AtChannel P off = Unit {0}
AtChannel P awake = Unit {0}
AtChannel P (waiting p) = P p

-- So for each of some channels.
abbrev pub AtChannels : (ℕ → Type 0) → List Channel → Type 0
AtChannels P [] = Unit {0}
AtChannels P (c ∷ cs) = AtChannel P c × AtChannels P cs

-- P holds of the places to which an instruction leads.
pub record AtWays (P : ℕ → Type 0) (ways : Ways) : Type 0 where
  pub next : P ways.next
  pub jump : P ways.jump
  pub wait : P ways.wait

-- Ways with φ of each place.
abbrev pub rename_ways : (ℕ → ℕ) → Ways → Ways
rename_ways φ ways = record { next = φ ways.next; jump = φ ways.jump; wait = φ ways.wait }

-- P holds of each place of a list.
abbrev pub AtPlaces : (ℕ → Type 0) → List ℕ → Type 0
AtPlaces P [] = Unit {0}
AtPlaces P (t ∷ ts) = P t × AtPlaces P ts

-- P holds of the ways of an instruction if it holds of its next place and of its targets, and of 0, which stands for what is not there.
pub leads_at : (P : ℕ → Type 0) (next : ℕ) (ts : List ℕ) → P next → P 0 → AtPlaces P ts → AtWays P (leads next ts)
leads_at P next [] n z a = record { next = n; jump = z; wait = z }
leads_at P next (t ∷ ts) n z a = record { next = n; jump = a.0; wait = last t ts a.0 a.1 }
  where
    last : (t : ℕ) (ts : List ℕ) → P t → AtPlaces P ts → P (last_of t ts)
    last t [] p a = p
    last t (u ∷ ts) p a = last u ts a.0 a.1

-- The ways of renamed targets are the renamed ways, if 0 keeps its name.
pub leads-rename : (φ : ℕ → ℕ) → φ 0 ≡ 0 → (next : ℕ) (ts : List ℕ) → rename_ways φ (leads next ts) ≡ leads (φ next) (map φ ts)
leads-rename φ z next [] = λ i. record { next = φ next; jump = z i; wait = z i }
leads-rename φ z next (t ∷ ts) = λ i. record { next = φ next; jump = φ t; wait = last t ts i }
  where
    last : (t : ℕ) (ts : List ℕ) → φ (last_of t ts) ≡ last_of (φ t) (map φ ts)
    last t [] = refl
    last t (u ∷ ts) = last u ts

-- ---- what holds for every φ

module _ (φ : ℕ → ℕ) where
  -- A channel that is made to wait at p waits at φ p once renamed.
  park-rename : (b : Bool) (p : ℕ) (c : Channel) → rename_c φ (park b p c) ≡ park b (φ p) (rename_c φ c)
  unfolding rename_c park
  park-rename b p off = refl
  park-rename true p awake = refl
  park-rename false p awake = refl
  park-rename b p (waiting q) = refl

  -- So for each channel.
  each-park : (f : ℕ → Bool) (p n : ℕ) (cs : List Channel)
      → map (rename_c φ) (each (λ m. park (f m) p) n cs) ≡ each (λ m. park (f m) (φ p)) n (map (rename_c φ) cs)
  unfolding each
  each-park f p n [] = refl
  each-park f p n (c ∷ cs) = ap₂ {C = List Channel} (λ a b. a ∷ b) (park-rename (f n) p c) (each-park f p (suc n) cs)

  -- Renaming wakes no channel and puts none to sleep.
  awake-rename : (c : Channel) → is_awake (rename_c φ c) ≡ is_awake c
  unfolding rename_c
  awake-rename off = refl
  awake-rename awake = refl
  awake-rename (waiting p) = refl

  -- So the mask that an instruction sees is the same.
  awakes_rename : (cs : List Channel) → map is_awake (map (rename_c φ) cs) ≡ map is_awake cs
  awakes_rename [] = refl
  awakes_rename (c ∷ cs) = ap₂ {C = List Bool} (λ a b. a ∷ b) (awake-rename c) (awakes_rename cs)

  -- So is whether some awake channel passes a test of its number.
  some_awake : (f : ℕ → Bool) (n : ℕ) (cs : List Channel)
      → someone (λ m c. is_awake c && f m) n (map (rename_c φ) cs) ≡ someone (λ m c. is_awake c && f m) n cs
  unfolding someone
  some_awake f n [] = refl
  some_awake f n (c ∷ cs) = ap₂ (λ a b. (a && f n) || b) (awake-rename c) (some_awake f (suc n) cs)

-- ---- what holds where φ keeps apart the places with P

module _ (φ : ℕ → ℕ) (P : ℕ → Type 0) (apart : (p q : ℕ) → P p → P q → eqb (φ p) (φ q) ≡ eqb p q) where
  -- The channels that wake at a place are those that wake at its new name.
  wake-rename : (p : ℕ) → P p → (c : Channel) → AtChannel P c → rename_c φ (wake p c) ≡ wake (φ p) (rename_c φ c)
  unfolding rename_c wake
  wake-rename p h off v = refl
  wake-rename p h awake v = refl
  wake-rename p h (waiting q) v = rw (apart p q h v) (cond-ap (rename_c φ) (eqb p q) awake (waiting q))

  -- So for each channel.
  wakes_rename : (p : ℕ) → P p → (cs : List Channel) → AtChannels P cs
      → map (rename_c φ) (map (wake p) cs) ≡ map (wake (φ p)) (map (rename_c φ) cs)
  wakes_rename p h [] v = refl
  wakes_rename p h (c ∷ cs) v = ap₂ {C = List Channel} (λ a b. a ∷ b) (wake-rename p h c v.0) (wakes_rename p h cs v.1)

  -- A channel waits at a place where, renamed, it waits at the new name.
  waits-rename : (p : ℕ) → P p → (c : Channel) → AtChannel P c → waits_at (φ p) (rename_c φ c) ≡ waits_at p c
  unfolding rename_c
  waits-rename p h off v = refl
  waits-rename p h awake v = refl
  waits-rename p h (waiting q) v = apart p q h v

  -- So whether some channel is awake or waits at a place is the same.
  some_rename : (p : ℕ) → P p → (n : ℕ) (cs : List Channel) → AtChannels P cs
      → someone (λ _ c. is_awake c || waits_at (φ p) c) n (map (rename_c φ) cs) ≡ someone (λ _ c. is_awake c || waits_at p c) n cs
  unfolding someone
  some_rename p h n [] v = refl
  some_rename p h n (c ∷ cs) v =
      ap₂ ◌||◌ (ap₂ ◌||◌ (awake-rename φ c) (waits-rename p h c v.0)) (some_rename p h (suc n) cs v.1)

  -- The place to which a fork goes on is renamed with the rest.
  onward-rename : (ways : Ways) → P ways.next → (cs : List Channel) → AtChannels P cs
      → φ (onward ways cs) ≡ onward (rename_ways φ ways) (map (rename_c φ) cs)
  unfolding onward
  onward-rename ways h cs v =
      rw (some_rename ways.next h 0 cs v)
      (cond-ap φ (someone (λ _ c. is_awake c || waits_at ways.next c) 0 cs) ways.next ways.jump)

  -- A fork commutes with renaming.
  fork-rename : (ways : Ways) → AtWays P ways → (st : Store) (cs ds : List Channel) → AtChannels P cs → map (rename_c φ) cs ≡ ds
      → rename φ (fork ways st cs) ≡ fork (rename_ways φ ways) st ds
  fork-rename ways a st cs ds v e =
      λ i. record { store = st; channels = e i; place = (onward-rename ways a.next cs v ∙ ap (onward (rename_ways φ ways)) e) i }

-- P holds of every place of a state.
pub record AtState (P : ℕ → Type 0) (s : State) : Type 0 where
  pub current : P s.place
  pub waits : AtChannels P s.channels

-- A function of a choice is a choice by an equal test between equals of the function's values.
cond_two {ℓ ℓ'} : {A : Type ℓ} {B : Type ℓ'} (f : A → B) {b b' : Bool} (x y : A) (x' y' : B) → b' ≡ b → f x ≡ x' → f y ≡ y'
    → f (cond b x y) ≡ cond b' x' y'
cond_two f {b} x y x' y' e p q = rw e (cond-ap f b x y ∙ ap₂ (cond b) p q)

-- What both have, whichever is chosen has.
pub cond_at {ℓ} : {A : Type ℓ} (Q : A → Type 0) (b : Bool) (x y : A) → Q x → Q y → Q (cond b x y)
cond_at Q true x y p q = p
cond_at Q false x y p q = q

module _ (P : ℕ → Type 0) where
  -- Waking keeps P at the waiting places.
  wakes_at : (p : ℕ) (cs : List Channel) → AtChannels P cs → AtChannels P (map (wake p) cs)
  unfolding wake
  wakes_at p [] v = tt
  wakes_at p (off ∷ cs) v = (tt, wakes_at p cs v.1)
  wakes_at p (awake ∷ cs) v = (tt, wakes_at p cs v.1)
  wakes_at p (waiting q ∷ cs) v = (cond_at (AtChannel P) (eqb p q) awake (waiting q) tt v.0, wakes_at p cs v.1)

  -- So does parking at a place with P.
  each_at : (f : ℕ → Bool) (p : ℕ) → P p → (n : ℕ) (cs : List Channel) → AtChannels P cs → AtChannels P (each (λ m. park (f m) p) n cs)
  unfolding each park
  each_at f p h n [] v = tt
  each_at f p h n (off ∷ cs) v = (tt, each_at f p h (suc n) cs v.1)
  each_at f p h n (awake ∷ cs) v = (cond_at (AtChannel P) (f n) (waiting p) awake h tt, each_at f p h (suc n) cs v.1)
  each_at f p h n (waiting q ∷ cs) v = (v.0, each_at f p h (suc n) cs v.1)

  -- So does a fork between ways with P, which leaves the state at one of them.
  fork_at : (ways : Ways) → AtWays P ways → (st : Store) (cs : List Channel) → AtChannels P cs → AtState P (fork ways st cs)
  unfolding onward
  fork_at ways a st cs v =
      record { current = cond_at P (someone (λ _ c. is_awake c || waits_at ways.next c) 0 cs) _ _ a.next a.jump; waits = v }

  -- So does leaving.
  leave_at : (w : ℕ) (ways : Ways) → AtWays P ways → (st : Store) (cs : List Channel) → AtChannels P cs → AtState P (leave w ways st cs)
  leave_at w ways a st cs v = fork_at ways a st _ (each_at (holds w st) ways.wait a.wait 0 cs v)

  -- So does every branch.
  act_at : (b : Branch) (w : ℕ) (ways : Ways) → AtWays P ways → (st : Store) (cs : List Channel) → AtChannels P cs
      → AtState P (act b w ways st cs)
  unfolding act
  act_at if w ways a st cs v = fork_at ways a st _ (each_at (λ m. not (holds w st m)) ways.wait a.wait 0 cs v)
  act_at else w ways a st cs v = fork_at ways a st _ (each_at (λ _. true) ways.wait a.wait 0 cs v)
  act_at endif w ways a st cs v = fork_at ways a st cs v
  act_at while w ways a st cs v =
      cond_at (AtState P) (someone (λ n c. is_awake c && holds w st n) 0 cs) _ _
      (record { current = a.jump; waits = each_at (λ m. not (holds w st m)) ways.next a.next 0 cs v })
      (record { current = a.next; waits = v })
  act_at break w ways a st cs v = leave_at w ways a st cs v
  act_at cont w ways a st cs v = leave_at w ways a st cs v
  act_at jmpi w ways a st cs v = record { current = cond_at P (holds w st 0) _ _ a.jump a.next; waits = v }

  -- So does every instruction.
  perform_at : (o : Operation) (w : ℕ) (ways : Ways) → AtWays P ways → (st : Store) (cs : List Channel) → AtChannels P cs
      → AtState P (perform o w ways st cs)
  unfolding perform
  perform_at (plain p) w ways a st cs v = record { current = a.next; waits = v }
  perform_at nop w ways a st cs v = record { current = a.next; waits = v }
  perform_at (branch b) w ways a st cs v = act_at b w ways a st cs v
  perform_at unlisted w ways a st cs v = record { current = a.next; waits = v }

  -- A step leaves a state whose places all have P, if it starts from one and the places to which it leads have P.
  pub step_at_at : (w here : ℕ) (ways : Ways) → AtWays P ways → (s : State) → AtState P s → AtState P (step_at w here ways s)
  step_at_at w here ways a s v = perform_at (operation w) w ways a s.store _ (wakes_at here s.channels v.waits)

module _ (φ : ℕ → ℕ) (P : ℕ → Type 0) (apart : (p q : ℕ) → P p → P q → eqb (φ p) (φ q) ≡ eqb p q) where
  -- Leaving commutes with renaming.
  leave-rename : (w : ℕ) (ways : Ways) → AtWays P ways → (st : Store) (cs : List Channel) → AtChannels P cs
      → rename φ (leave w ways st cs) ≡ leave w (rename_ways φ ways) st (map (rename_c φ) cs)
  leave-rename w ways a st cs v =
      fork-rename φ P apart ways a st _ _ (each_at P (holds w st) ways.wait a.wait 0 cs v) (each-park φ (holds w st) ways.wait 0 cs)

  -- So does every branch.
  act-rename : (b : Branch) (w : ℕ) (ways : Ways) → AtWays P ways → (st : Store) (cs : List Channel) → AtChannels P cs
      → rename φ (act b w ways st cs) ≡ act b w (rename_ways φ ways) st (map (rename_c φ) cs)
  unfolding act
  act-rename if w ways a st cs v =
      fork-rename φ P apart ways a st _ _ (each_at P (λ m. not (holds w st m)) ways.wait a.wait 0 cs v)
      (each-park φ (λ m. not (holds w st m)) ways.wait 0 cs)
  act-rename else w ways a st cs v =
      fork-rename φ P apart ways a st _ _ (each_at P (λ _. true) ways.wait a.wait 0 cs v) (each-park φ (λ _. true) ways.wait 0 cs)
  act-rename endif w ways a st cs v = fork-rename φ P apart ways a st cs _ v refl
  act-rename while w ways a st cs v =
      cond_two (rename φ) _ _ _ _ (some_awake φ (holds w st) 0 cs)
      (λ i. record { store = st; channels = each-park φ (λ m. not (holds w st m)) ways.next 0 cs i; place = φ ways.jump })
      refl
  act-rename break w ways a st cs v = leave-rename w ways a st cs v
  act-rename cont w ways a st cs v = leave-rename w ways a st cs v
  act-rename jmpi w ways a st cs v =
      λ i. record { store = st; channels = map (rename_c φ) cs; place = cond-ap φ (holds w st 0) ways.jump ways.next i }

  -- So does what is no branch: it reads the mask of awake channels and no place.
  pass-rename : (w : ℕ) (ways : Ways) (st : Store) (cs : List Channel)
      → rename φ (pass w ways st cs) ≡ pass w (rename_ways φ ways) st (map (rename_c φ) cs)
  pass-rename w ways st cs =
      λ i. record { store = effect w (sym (awakes_rename φ cs) i) st; channels = map (rename_c φ) cs; place = φ ways.next }

  -- So does every instruction.
  perform-rename : (o : Operation) (w : ℕ) (ways : Ways) → AtWays P ways → (st : Store) (cs : List Channel) → AtChannels P cs
      → rename φ (perform o w ways st cs) ≡ perform o w (rename_ways φ ways) st (map (rename_c φ) cs)
  unfolding perform
  perform-rename (plain p) w ways a st cs v = pass-rename w ways st cs
  perform-rename nop w ways a st cs v = pass-rename w ways st cs
  perform-rename (branch b) w ways a st cs v = act-rename b w ways a st cs v
  perform-rename unlisted w ways a st cs v = pass-rename w ways st cs

  -- A step from a renamed state, at the renamed place with renamed ways, leaves the renamed state.
  pub step_at-rename : (w here : ℕ) (ways : Ways) → P here → AtWays P ways → (s : State) → AtState P s
      → rename φ (step_at w here ways s) ≡ step_at w (φ here) (rename_ways φ ways) (rename φ s)
  step_at-rename w here ways p a s v =
      perform-rename (operation w) w ways a s.store _ (wakes_at P here s.channels v.waits)
      ∙ ap (perform (operation w) w (rename_ways φ ways) s.store) (wakes_rename φ P apart here p s.channels v.waits)
