-- One instruction more, of rule 12 and of whether jumps go forward. Assumes nothing.
use mathlib.Core.Bool.{Bool, true, false}
use mathlib.Core.List.{List, [], ◌∷◌}
use mathlib.Core.Option.{none, some}
use mathlib.Core.Path.{◌≡◌, refl, sym, ap, ◌∙◌}
use Prim.Native.Nat.{ℕ, ◌+◌, ◌*◌, ◌/◌, ◌<◌, ◌≤◌}
use native.Mathlib.Omega.{arith}
use lib.ListN.{length}
use Rattle.paper.specs.Dictionary.{Dictionary}
use Rattle.paper.specs.Kernel.{Instr, Forms}
use Rattle.paper.specs.Jump.{targets_of}
use Rattle.paper.specs.Forward.{lie_after, forward}
use Rattle.kernel.specs.Standing.{Whole, Fetches, Stands, Standing, Next, stands_next, stands_end}
use Rattle.kernel.specs.Jumps.{land_by, first_out, instr_of}

-- ---- the first that goes astray

module _ (land : ℕ → Bool) where
  pub first_none : first_out land [] ≡ none
  unfolding first_out
  first_none = refl

  module _ (i : Instr) (rest : List Instr) where
    pub first_here : land_by land (targets_of i) ≡ false → first_out land (i ∷ rest) ≡ some (8 * i.place)
    unfolding first_out
    first_here e = rw e

    pub first_later : land_by land (targets_of i) ≡ true → first_out land (i ∷ rest) ≡ first_out land rest
    unfolding first_out
    first_later e = rw e

-- ---- forward jumps

pub forward-none : forward [] ≡ true
unfolding forward
forward-none = refl

module _ (i : Instr) (rest : List Instr) where
  pub forward_not : lie_after i.place (targets_of i) ≡ false → forward (i ∷ rest) ≡ false
  unfolding forward
  forward_not e = rw e

  pub forward_on : lie_after i.place (targets_of i) ≡ true → forward (i ∷ rest) ≡ forward rest
  unfolding forward
  forward_on e = rw e

-- ---- a second pass over a kernel's instructions, for any answer to a list of them: what is left of it from a byte on

-- For whatever instructions stand in the bytes, those that stand from `from` on have the answer of all.
abbrev pub Left : {X : Type 0} → (List Instr → X) → Dictionary → List ℕ → ℕ → Type 0
Left answer D kernel from =
    (forms : Forms) (k : List Instr) → Stands forms D kernel 0 k
    → (rest : List Instr) × Stands forms D kernel from rest × (answer k ≡ answer rest)

-- At the start all are left.
pub left_start : {X : Type 0} (answer : List Instr → X) (D : Dictionary) (kernel : List ℕ) → Left answer D kernel 0
left_start answer D kernel forms k s = (k, s, refl)

module _ {X : Type 0} (answer : List Instr → X) (D : Dictionary) (kernel : List ℕ) (from : ℕ) (left : Left answer D kernel from) where
  -- At the end none is left.
  left_none : length kernel ≤ from → (forms : Forms) (k : List Instr) → Stands forms D kernel 0 k → answer [] ≡ answer k
  left_none h forms k s = let l = left forms k s in sym (l.2 ∙ ap answer (stands_end forms D kernel from l.0 l.1 h))

  module _ (inside : from < length kernel) where
    -- The next instruction's bytes are there.
    pub left_whole : Standing D kernel → Whole kernel from
    left_whole st =
        let l = left st.forms st.instrs st.stands in
        let n = stands_next st.forms D kernel from l.0 l.1 inside in
        omega (arith, n.fit.room, n.fit.size_is)

    module _ (size w : ℕ) (f : Fetches D kernel from size w) where
      next_is : (forms : Forms) (rest : List Instr) (n : Next forms D kernel from rest) → n.instr ≡ instr_of (from / 8) size w
      next_is forms rest n =
          let p : n.instr.place ≡ from / 8 = n.place in
          let q : n.instr.size ≡ size = sym (f.size_is ∙ n.fit.size_is) in
          let r : n.instr.word ≡ w = sym (f.word-is ∙ n.fit.word-is) in
          λ j. record { place = p j; size = q j; word = r j }

      -- It gives the answer, whatever comes after it.
      pub left_first : (x : X) → ((rest : List Instr) → answer (instr_of (from / 8) size w ∷ rest) ≡ x)
          → (forms : Forms) (k : List Instr) → Stands forms D kernel 0 k → x ≡ answer k
      left_first x e forms k s =
          let l = left forms k s in
          let n = stands_next forms D kernel from l.0 l.1 inside in
          sym (l.2 ∙ ap answer n.split ∙ ap (λ (i : Instr). answer (i ∷ n.later)) (next_is forms l.0 n) ∙ e n.later)

      -- It leaves the answer to those after it.
      pub left_later : ((rest : List Instr) → answer (instr_of (from / 8) size w ∷ rest) ≡ answer rest) → Left answer D kernel (from + 8 * size)
      left_later e forms k s =
          let l = left forms k s in
          let n = stands_next forms D kernel from l.0 l.1 inside in (
            n.later,
            rw (f.size_is ∙ n.fit.size_is) n.stands,
            l.2 ∙ ap answer n.split ∙ ap (λ (i : Instr). answer (i ∷ n.later)) (next_is forms l.0 n) ∙ e n.later,
          )
