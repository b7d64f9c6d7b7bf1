-- The store that the code holds as lent registers, a pair of flags and a0's lent bytes. Assumes nothing.
use Rattle.std.specs.Prelude.{◌≡◌, refl, Bool, true, false, cond, List, [], ℕ, eqb}
use Rattle.std.proofs.Common.{ap}
use Rattle.paper.specs.Word.{flag_choice}
use Rattle.paper.specs.Store.{Store}
use Rattle.paper.specs.Enable.{chosen_flag}
use Rattle.paper.specs.Effect.{with_flag}
use Rattle.lanes.specs.declared.flags.Flags.{Flags}

-- The paper's store of registers, flags and a0.
abbrev pub store_of : List ℕ → Flags ℕ → List ℕ → Store
store_of registers f addresses = record { registers = registers; flag0 = f.flag0; flag1 = f.flag1; addresses = addresses }

-- The flags are those of a store with another number in the flag that the word chooses.
pub record FlagsOf (r : Flags ℕ) (w : ℕ) (st : Store) (flag : ℕ) : Type 0 where
  pub flag0 : r.flag0 ≡ (with_flag w st [] flag []).flag0
  pub flag1 : r.flag1 ≡ (with_flag w st [] flag []).flag1

-- Flags of any kind with another in place of the one that the word chooses.
abbrev pub with_chosen : {A : Type 0} → ℕ → Flags A → A → Flags A
with_chosen w f flag = record { flag0 = cond (eqb (flag_choice w) 0) flag f.flag0; flag1 = cond (eqb (flag_choice w) 0) f.flag1 flag }

-- Of numbers, these are the flags of a store with that number in the flag that the word chooses.
pub flags_changed : (w : ℕ) (f : Flags ℕ) (flag : ℕ) {r : Flags ℕ} → r ≡ with_chosen w f flag → FlagsOf r w (store_of [] f []) flag
flags_changed w f flag e = record { flag0 = ap (λ (g : Flags ℕ). g.flag0) e; flag1 = ap (λ (g : Flags ℕ). g.flag1) e }

-- With the number that the chosen flag has, the flags are as they were.
pub flags_kept : (w : ℕ) (f : Flags ℕ) → FlagsOf f w (store_of [] f []) (chosen_flag w (store_of [] f []))
flags_kept w f = record { flag0 = first (eqb (flag_choice w) 0); flag1 = second (eqb (flag_choice w) 0) }
  where
    first : (b : Bool) → f.flag0 ≡ cond b (cond b f.flag0 f.flag1) f.flag0
    first true = refl
    first false = refl

    second : (b : Bool) → f.flag1 ≡ cond b f.flag1 (cond b f.flag0 f.flag1)
    second true = refl
    second false = refl
