-- a0's bytes are the last of a state's: how they are lent to a run, and how they come back. Assumes nothing.
use Rattle.std.specs.Prelude.{List, ◌++◌, ◌≡◌, ℕ, ◌-◌, ◌≤◌, length, take, drop}
use Rattle.std.proofs.Common.{append-nil, sym, ap, ◌∙◌, subst, arith, length-append, length-drop, drop_of_length-le, take_all, drop_at, length-take-le}
use Rattle.paper.specs.Kernel.{Instr}
use Rattle.paper.specs.Limits.{state_length}
use Rattle.paper.specs.Machine.{State}
use Rattle.paper.specs.State.{addresses_in}
use Rattle.machine.specs.declared.step.Stand.{Stand}
use Rattle.machine.specs.Steps.{Shows}
use Rattle.run.specs.Running.{Running, running_addresses}

-- The part of a state from place 42 on,
abbrev pub lent_in : List ℕ → List ℕ
lent_in bytes = take (length bytes - 42) (drop 42 bytes)

-- and the state to which that part comes back as these.
abbrev pub back_in : List ℕ → List ℕ → List ℕ
back_in bytes addresses = take 42 bytes ++ (addresses ++ drop (length bytes - 42) (drop 42 bytes))

-- The same of a whole state, whose length its type says: that part has 16 bytes.
abbrev pub lent_whole : List ℕ → List ℕ
lent_whole bytes = take 16 (drop 42 bytes)

abbrev pub back_whole : List ℕ → List ℕ → List ℕ
back_whole bytes addresses = take 42 bytes ++ (addresses ++ drop 16 (drop 42 bytes))

module _ (bytes : List ℕ) where
  lent_all : lent_in bytes ≡ addresses_in bytes
  lent_all = take_all (length bytes - 42) (drop 42 bytes) (omega (arith, length-drop 42 bytes))

  -- Nothing follows them.
  pub back_is : (addresses : List ℕ) → back_in bytes addresses ≡ take 42 bytes ++ addresses
  back_is addresses =
      let d = length-drop 42 bytes in
      ap (λ (l : List ℕ). take 42 bytes ++ l) (ap (λ (l : List ℕ). addresses ++ l) (drop_of_length-le (drop 42 bytes) {i = length bytes - 42} (omega arith)) ∙ append-nil addresses)

  module _ (k : List Instr) (registers here : List ℕ) (s : Stand) (t : State) where
    -- A run that stands with a0's bytes stands with what is lent.
    pub lent : Running k registers (addresses_in bytes) here s t → Running k registers (lent_in bytes) here s t
    lent = subst (λ (l : List ℕ). Running k registers l here s t) (sym lent_all)

    module _ (whole : length bytes ≡ state_length) (addresses : List ℕ) (r : Running k registers addresses here s t) where
      front : length (take 42 bytes) ≡ 42
      front = length-take-le 42 bytes (omega (arith, whole))

      -- What comes back is a state's bytes, and a0's are its last.
      pub back_length : length (back_in bytes addresses) ≡ state_length
      back_length =
          let n = length-append (take 42 bytes) addresses in
          ap length (back_is addresses) ∙ omega (arith, n, front, running_addresses k registers addresses here s t r)

      pub back_shows : Shows registers (addresses_in (back_in bytes addresses)) here s t
      back_shows =
          subst (λ (l : List ℕ). Shows registers l here s t) (sym (ap (drop 42) (back_is addresses) ∙ drop_at (take 42 bytes) addresses 42 front)) r.shows

  module _ (whole : length bytes ≡ state_length) where
    -- At most 16 bytes of a whole state follow place 42,
    rest : length (drop 42 bytes) ≤ 16
    rest = omega (arith, length-drop 42 bytes, whole)

    -- and they are a0's.
    lent_whole_all : lent_whole bytes ≡ addresses_in bytes
    lent_whole_all = take_all 16 (drop 42 bytes) rest

    back_alike : (addresses : List ℕ) → back_in bytes addresses ≡ back_whole bytes addresses
    back_alike addresses = ap (λ (n : ℕ). take 42 bytes ++ (addresses ++ drop (n - 42) (drop 42 bytes))) whole

    pub back_whole_is : (addresses : List ℕ) → back_whole bytes addresses ≡ take 42 bytes ++ addresses
    back_whole_is addresses = sym (back_alike addresses) ∙ back_is addresses

    module _ (k : List Instr) (registers here : List ℕ) (s : Stand) (t : State) where
      pub whole_lent : Running k registers (addresses_in bytes) here s t → Running k registers (lent_whole bytes) here s t
      whole_lent = subst (λ (l : List ℕ). Running k registers l here s t) (sym lent_whole_all)

      module _ (addresses : List ℕ) (r : Running k registers addresses here s t) where
        pub back_whole_length : length (back_whole bytes addresses) ≡ state_length
        back_whole_length = ap length (sym (back_alike addresses)) ∙ back_length k registers here s t whole addresses r

        pub back_whole_shows : Shows registers (addresses_in (back_whole bytes addresses)) here s t
        back_whole_shows =
            subst (λ (l : List ℕ). Shows registers (addresses_in l) here s t) (back_alike addresses) (back_shows k registers here s t whole addresses r)
