-- The table that a run decodes ahead: three numbers for each place, the halves of the word that stands there and where it leads. Assumes nothing.
use Rattle.std.specs.Prelude.{Bool, true, false, not, cond, List, ◌≡◌, refl, ℕ, ◌+◌, ◌*◌, ◌/◌, ◌%◌, ◌^◌, ◌<◌, ◌≤◌, eqb, length, get_or, set}
use Rattle.std.proofs.Common.{sym, ap, ◌∙◌, subst, arith, length-set, get_or-set_same, get_or-set_other, eqb-true}
use Rattle.std.proofs.Math.Option.{Option, none, some}
use Rattle.std.proofs.lemmas.Bool.{eqb-false}
use Rattle.paper.specs.Kernel.{Instr}
use Rattle.paper.specs.Jump.{fetch, end_of}
use Rattle.paper.specs.Machine.{State, Ways, ways_of}
use Rattle.words.specs.Usual.{Usual}
use Rattle.machine.specs.declared.step.Stand.{Stand}
use Rattle.run.specs.Running.{Running, Steps, running_before, running_place, running_instr, running_fetched, running_steps}

-- Three places of 16 bits as one number: the next, the jump, the wait.
abbrev pub ways_from : ℕ → Ways
ways_from code = record { next = code % 65536; jump = code / 65536 % 65536; wait = code / 4294967296 % 65536 }

-- Its highest bit says whether the word is unusual.
abbrev pub unusual_from : ℕ → Bool
unusual_from code = not (eqb (code / 9223372036854775808) 0)

-- What the number means, by that bit.
told_from : (ways : Ways) (code high : ℕ) (unusual : Bool) → ways.next < 65536 → ways.jump < 65536 → ways.wait < 65536 → cond unusual 1 0 ≡ high
    → code ≡ ways.next + ways.jump * 65536 + ways.wait * 4294967296 + high * 9223372036854775808 → (ways_from code ≡ ways) × (unusual_from code ≡ unusual)
told_from ways code high unusual n j w h e =
    let a : code % 65536 ≡ ways.next = omega arith in
    let q : code / 65536 ≡ ways.jump + ways.wait * 65536 + high * 140737488355328 = omega arith in
    let b : code / 65536 % 65536 ≡ ways.jump = rw q (omega arith) in
    let t : code / 4294967296 ≡ ways.wait + high * 2147483648 = omega arith in
    let c : code / 4294967296 % 65536 ≡ ways.wait = rw t (omega arith) in
    let f : code / 9223372036854775808 ≡ high = omega arith in
    ((λ i. record { next = a i; jump = b i; wait = c i }), rw (f, ← h) (bit unusual))
  where
    bit : (b : Bool) → not (eqb (cond b 1 0) 0) ≡ b
    bit true = refl
    bit false = refl

pub ways_from_lem : (ways : Ways) (code : ℕ) (unusual : Bool) → ways.next < 65536 → ways.jump < 65536 → ways.wait < 65536
    → code ≡ ways.next + ways.jump * 65536 + ways.wait * 4294967296 + cond unusual 9223372036854775808 0 → (ways_from code ≡ ways) × (unusual_from code ≡ unusual)
ways_from_lem ways code true n j w e = told_from ways code 1 true n j w refl e
ways_from_lem ways code false n j w e = told_from ways code 0 false n j w refl e

-- What the table has at a place is the instruction that starts there.
abbrev pub TabledAt : List Instr → List ℕ → ℕ → Type 0
TabledAt k table p =
    (i : Instr) → fetch k p ≡ some i → (get_or table (3 * p) 0 + get_or table (3 * p + 1) 0 * 2 ^ 64 ≡ i.word) × (ways_from (get_or table (3 * p + 2) 0) ≡ ways_of i)
    × (unusual_from (get_or table (3 * p + 2) 0) ≡ false → Usual i.word)

-- So at each place below q.
abbrev pub TabledTo : List Instr → List ℕ → ℕ → Type 0
TabledTo k table q = (p : ℕ) → p < q → TabledAt k table p

-- The table has what a run of so many steps from place `start` reads of a kernel that ends at this place: the row there, and all if it makes more than one.
pub record Tabled (k : List Instr) (end budget start : ℕ) (table : List ℕ) : Type 0 where
  pub ends : end ≡ end_of k
  pub first : start < end → TabledAt k table start
  pub rest : 1 < budget → TabledTo k table end
  pub long : 3 * end ≤ length table

-- One place more: three numbers are stored, and all others stay.
pub record Entered (k : List Instr) (table after : List ℕ) (p : ℕ) : Type 0 where
  pub long : length after ≡ length table
  pub there : TabledAt k after p
  pub others : (j : ℕ) → (3 * p ≤ j → j < 3 * p + 3 → ⊥) → get_or after j 0 ≡ get_or table j 0

pub tabled_none : (k : List Instr) (table : List ℕ) → TabledTo k table 0
tabled_none k table p h = absurd (omega arith)

pub tabled_more : (k : List Instr) (table after : List ℕ) (p : ℕ) → TabledTo k table p → Entered k table after p → TabledTo k after (p + 1)
tabled_more k table after p to e q h = go (eqb q p) refl
  where
    go : (b : Bool) → eqb q p ≡ b → TabledAt k after q
    go true f = subst (TabledAt k after) (sym (eqb-true q p f)) e.there
    go false f =
        λ i fetched.
        let apart : q ≡ p → ⊥ = eqb-false q p f in
        let old = to q (omega arith) i fetched in
        let a = e.others (3 * q) (λ x y. omega arith) in
        let b = e.others (3 * q + 1) (λ x y. omega arith) in
        let c = e.others (3 * q + 2) (λ x y. omega arith) in
        rw (a, b, c) old

-- So is a table that has all places of a kernel of n bytes,
pub tabled_all : (k : List Instr) (table : List ℕ) (n p : ℕ) → 8 * end_of k ≡ n → p ≡ n / 8 → TabledTo k table p → 3 * (n / 8) ≤ length table
    → (budget start : ℕ) → Tabled k (n / 8) budget start table
tabled_all k table n p ends e rows long budget start =
    let all : TabledTo k table (n / 8) = subst (TabledTo k table) e rows in
    record { ends = omega arith; first = all start; rest = λ h. all; long = long }

-- and for one step one that has its place.
pub tabled_one : (k : List Instr) (table : List ℕ) (n p : ℕ) → 8 * end_of k ≡ n → TabledAt k table p → 3 * (n / 8) ≤ length table → Tabled k (n / 8) 1 p table
tabled_one k table n p ends row long = record { ends = omega arith; first = λ h. row; rest = λ h. absurd (omega arith); long = long }

-- Where no instruction starts there is nothing to store.
pub entered_none : (k : List Instr) (table : List ℕ) (p : ℕ) → fetch k p ≡ none → Entered k table table p
entered_none k table p e = record { long = refl; there = λ i f. absurd (other i (sym e ∙ f)); others = λ j h. refl }
  where
    other : (i : Instr) → ◌≡◌ {A = Option Instr} none (some i) → ⊥
    other i e = let z : ◌≡◌ {A = ℕ} 0 1 = cc in omega arith

-- The three numbers of an instruction are stored.
pub entered_three : (k : List Instr) (table : List ℕ) (p lo hi code : ℕ) (i : Instr) → 3 * p + 2 < length table → fetch k p ≡ some i
    → lo + hi * 2 ^ 64 ≡ i.word → ways_from code ≡ ways_of i → (unusual_from code ≡ false → Usual (lo + hi * 2 ^ 64))
    → Entered k table (set (set (set table (3 * p) lo) (3 * p + 1) hi) (3 * p + 2) code) p
entered_three k table p lo hi code i room fetched word ways usual =
    record {
      long = length-set (set (set table (3 * p) lo) (3 * p + 1) hi) (3 * p + 2) code ∙ length-set (set table (3 * p) lo) (3 * p + 1) hi ∙ length-set table (3 * p) lo;
      there = λ j f.
          let same : i ≡ j = some_same i j (sym fetched ∙ f) in
          rw (third, second, first) (word ∙ ap (λ (x : Instr). x.word) same, ways ∙ ap ways_of same, λ e. subst Usual (word ∙ ap (λ (x : Instr). x.word) same) (usual e));
      others = λ j h.
          get_or-set_other (set (set table (3 * p) lo) (3 * p + 1) hi) (3 * p + 2) j code 0 (λ e. h (omega arith) (omega arith))
          ∙ get_or-set_other (set table (3 * p) lo) (3 * p + 1) j hi 0 (λ e. h (omega arith) (omega arith))
          ∙ get_or-set_other table (3 * p) j lo 0 (λ e. h (omega arith) (omega arith));
    }
  where
    some_same : (i j : Instr) → some i ≡ some j → i ≡ j
    some_same i j e = cc

    one : length (set table (3 * p) lo) ≡ length table
    one = length-set table (3 * p) lo

    two : length (set (set table (3 * p) lo) (3 * p + 1) hi) ≡ length table
    two = length-set (set table (3 * p) lo) (3 * p + 1) hi ∙ one

    third : get_or (set (set (set table (3 * p) lo) (3 * p + 1) hi) (3 * p + 2) code) (3 * p + 2) 0 ≡ code
    third = get_or-set_same (set (set table (3 * p) lo) (3 * p + 1) hi) (3 * p + 2) code 0 (omega (arith, two))

    second : get_or (set (set (set table (3 * p) lo) (3 * p + 1) hi) (3 * p + 2) code) (3 * p + 1) 0 ≡ hi
    second =
        get_or-set_other (set (set table (3 * p) lo) (3 * p + 1) hi) (3 * p + 2) (3 * p + 1) code 0 (λ e. omega arith)
        ∙ get_or-set_same (set table (3 * p) lo) (3 * p + 1) hi 0 (omega (arith, one))

    first : get_or (set (set (set table (3 * p) lo) (3 * p + 1) hi) (3 * p + 2) code) (3 * p) 0 ≡ lo
    first =
        get_or-set_other (set (set table (3 * p) lo) (3 * p + 1) hi) (3 * p + 2) (3 * p) code 0 (λ e. omega arith)
        ∙ get_or-set_other (set table (3 * p) lo) (3 * p + 1) (3 * p) hi 0 (λ e. omega arith)
        ∙ get_or-set_same table (3 * p) lo 0 (omega arith)

-- ---- a run over a table

module _ (k : List Instr) (end budget start : ℕ) (table : List ℕ) (d : Tabled k end budget start table) (registers addresses here : List ℕ) (s : Stand) (t : State)
    (r : Running k registers addresses here s t) (away : s.place ≡ end → ⊥) where
  inside : s.place < end
  inside = omega (arith, running_before k registers addresses here s t r, d.ends, away)

  -- The row where a run stands is in the table,
  pub row_there : (3 * s.place + 2 < length table) × (s.place < 65536)
  row_there = (omega (arith, inside, d.long), omega (arith, running_place k registers addresses here s t r, r.few))

  pub row_away : s.place ≡ end_of k → ⊥
  row_away e = away (e ∙ sym d.ends)

  -- after n steps, of which there are more,
  row_told : (n : ℕ) → (n ≡ 0 → s.place ≡ start) → n < budget → TabledAt k table s.place
  row_told n begun h = go (eqb n 0) refl
    where
      go : (b : Bool) → eqb n 0 ≡ b → TabledAt k table s.place
      go true e =
          let same : s.place ≡ start = begun (eqb-true n 0 e) in
          subst (TabledAt k table) (sym same) (d.first (omega (arith, inside, same)))
      go false e = d.rest (omega (arith, eqb-false n 0 e)) s.place inside

  -- and makes the step of the instruction there.
  pub row_steps : (n : ℕ) → (n ≡ 0 → s.place ≡ start) → n < budget → (w : ℕ) (ways : Ways)
      → w ≡ get_or table (3 * s.place) 0 + get_or table (3 * s.place + 1) 0 * 2 ^ 64 → ways ≡ ways_from (get_or table (3 * s.place + 2) 0) → Steps k addresses here s t w ways
  row_steps n begun h w ways ew e =
      let i = running_instr k registers addresses here s t r row_away in
      let f = running_fetched k registers addresses here s t r row_away in
      let row = row_told n begun h i f in
      running_steps k registers addresses here s t r row_away i f w ways (ew ∙ row.0) (e ∙ row.1)

  -- Where the row says that its word is as most are, it is.
  pub row_usual : (n : ℕ) → (n ≡ 0 → s.place ≡ start) → n < budget → (w : ℕ) (unusual : Bool)
      → w ≡ get_or table (3 * s.place) 0 + get_or table (3 * s.place + 1) 0 * 2 ^ 64 → unusual ≡ unusual_from (get_or table (3 * s.place + 2) 0) → unusual ≡ false → Usual w
  row_usual n begun h w unusual ew el e =
      let i = running_instr k registers addresses here s t r row_away in
      let f = running_fetched k registers addresses here s t r row_away in
      let row = row_told n begun h i f in
      subst Usual (sym (ew ∙ row.0)) (row.2 (sym el ∙ e))
