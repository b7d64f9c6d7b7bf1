-- Longer kernels: the calls with 1 and 17 at any limits, beside the calls as they are. What lower limits let pass is judged and answered the same now; and every
-- distance that packing or unpacking writes still fits its bits. Assumes nothing.
use Rattle.std.specs.Prelude.{Bool, not, ◌&&◌, List, [], ◌∷◌, map, ◌≡◌, eqb, leb, pos, length}
use Rattle.std.proofs.Math.Bool.{true, false, cond}
use Rattle.std.proofs.Math.Option.{none}
use Rattle.std.proofs.Math.Path.{refl, ap}
use Rattle.std.proofs.Common.{◌∙◌, arith, leb-true, le-leb}
use Prim.Native.Nat.{ℕ, zero, suc, ◌+◌, ◌*◌, ◌/◌, ◌^◌, ◌≤◌, ◌<◌}
use Rattle.std.proofs.Math.Dec.{ltb}
use Rattle.paper.specs.Limits.{register_bytes, dictionary_bytes, state_length, kernel_bytes, instruction_limit, last_place, budget_limit}
use Rattle.paper.specs.Dictionary.{dictionary_of, in_range}
use Rattle.paper.specs.Shorten.{shorten}
use Rattle.paper.specs.Kernel.{Instr, Forms, long_and_short, long_only, Judged, refused, passed, judge_at, Parsed, bad, good, prepend, enter, walk, parse}
use Rattle.paper.specs.Jump.{targets_of, with_jumps}
use Rattle.paper.specs.Machine.{step, stops, run}
use Rattle.paper.specs.Packing.{Piece, Form, new_size, start_of, new_targets}
use Rattle.paper.specs.Calls.{Answer, Written, Changed, refusal, unchanged, sized, judged_kernel, accepted, checked_as, check_call, relaid, pack_call, unpack_call}
use Rattle.paper.specs.Calls.{undecoded, judged_as, decode_at, decoded_as, decode_call, on_state, stepped_as, step_call, ran_as, run_call}
use Rattle.laws.specs.Names.{moved_to, pieces_of, new_end}
use Rattle.laws.specs.Moved.{moved_reaches, first_ends}
use Rattle.laws.specs.Relay.{new_end_near}
use Rattle.laws.specs.Packing.{Kernel}

-- ---- the calls with a limit of so many bytes and so many instructions

-- 1 of a dictionary and a kernel.
abbrev pub sized_within : ℕ → List ℕ → List ℕ → Bool
sized_within bytes dictionary kernel = eqb (length dictionary) dictionary_bytes && leb (length kernel) bytes

-- 2, then 17 to 11 instruction by instruction, then 12.
abbrev pub judged_within : ℕ → Forms → List ℕ → List ℕ → Parsed
judged_within instructions forms dictionary kernel =
    let D = dictionary_of dictionary in
    cond (in_range D) (with_jumps (walk (judge_at forms D kernel) (length kernel) instructions 0)) (bad 2 0)

module _ (bytes instructions : ℕ) where
  -- 1, then the kernel's own refusals.
  abbrev pub accepted_within : Forms → List ℕ → List ℕ → Parsed
  accepted_within forms dictionary kernel = cond (sized_within bytes dictionary kernel) (judged_within instructions forms dictionary kernel) (bad 1 0)

  -- Check: how many instructions.
  abbrev pub check_within : List ℕ → List ℕ → Answer
  check_within dictionary kernel = checked_as (accepted_within long_and_short dictionary kernel)

  -- Packing, which takes long words only.
  abbrev pub pack_within : List ℕ → List ℕ → List ℕ → Written
  pack_within dictionary kernel out = relaid (shorten (dictionary_of dictionary)) out (accepted_within long_only dictionary kernel)

  -- Unpacking.
  abbrev pub unpack_within : List ℕ → List ℕ → List ℕ → Written
  unpack_within dictionary kernel out = relaid (λ _. none) out (accepted_within long_and_short dictionary kernel)

  -- Decoding at a place, which counts no instructions.
  abbrev pub decode_within : List ℕ → List ℕ → ℕ → Answer
  decode_within dictionary kernel place =
      let D = dictionary_of dictionary in
      let from = 8 * place in
      decoded_as
      (cond (not (sized_within bytes dictionary kernel)) (undecoded 1 0)
      (cond (not (in_range D)) (undecoded 2 0)
      (cond (leb (length kernel) from) (undecoded 3 0)
      (judged_as from (judge_at long_and_short D kernel from)))))

  -- A step.
  abbrev pub step_within : List ℕ → List ℕ → List ℕ → List ℕ → Changed
  step_within dictionary kernel registers state =
      cond (sized_within bytes dictionary kernel && (eqb (length registers) register_bytes && eqb (length state) state_length))
      (on_state registers state (λ k s. stepped_as (stops k s) registers state s (step k s)) (judged_within instructions long_and_short dictionary kernel))
      (unchanged (refusal 1 0) registers state)

  -- A run.
  abbrev pub run_within : List ℕ → List ℕ → ℕ → List ℕ → List ℕ → Changed
  run_within dictionary kernel budget registers state =
      cond (not (sized_within bytes dictionary kernel && (eqb (length registers) register_bytes && eqb (length state) state_length)))
      (unchanged (refusal 1 0) registers state)
      (cond (ltb budget_limit budget) (unchanged (refusal 16 0) registers state)
      (on_state registers state (λ k s. ran_as (run k budget s)) (judged_within instructions long_and_short dictionary kernel)))

-- A kernel's bytes, at the most, before the limits were raised.
abbrev pub bytes_before : ℕ
bytes_before = 16384

-- Its instructions, at the most, before that.
abbrev pub instructions_before : ℕ
instructions_before = 1024

-- Nothing else is written out there: with the limits of now they are the calls themselves.
module _ (dictionary kernel : List ℕ) where
  pub check_now : check_within kernel_bytes instruction_limit dictionary kernel ≡ check_call dictionary kernel
  unfolding check_call accepted judged_kernel parse
  check_now = refl

  pub pack_now : (out : List ℕ) → pack_within kernel_bytes instruction_limit dictionary kernel out ≡ pack_call dictionary kernel out
  unfolding pack_call accepted judged_kernel parse
  pack_now out = refl

  pub unpack_now : (out : List ℕ) → unpack_within kernel_bytes instruction_limit dictionary kernel out ≡ unpack_call dictionary kernel out
  unfolding unpack_call accepted judged_kernel parse
  unpack_now out = refl

  pub decode_now : (place : ℕ) → decode_within kernel_bytes instruction_limit dictionary kernel place ≡ decode_call dictionary kernel place
  unfolding decode_call decode_at
  decode_now place = refl

  pub step_now : (registers state : List ℕ) → step_within kernel_bytes instruction_limit dictionary kernel registers state ≡ step_call dictionary kernel registers state
  unfolding step_call judged_kernel parse
  step_now registers state = refl

  pub run_now : (budget : ℕ) (registers state : List ℕ)
      → run_within kernel_bytes instruction_limit dictionary kernel budget registers state ≡ run_call dictionary kernel budget registers state
  unfolding run_call judged_kernel parse
  run_now budget registers state = refl

-- ---- a walk that may go further

-- Not refused as one instruction too many.
abbrev Under : Parsed → Type 0
Under (bad number offset) = number ≡ 17 → ⊥
Under (good k) = Unit {0}

-- What follows an instruction is so where the whole is.
under_rest : (i : Instr) (q : Parsed) → Under (prepend i q) → Under q
under_rest i (bad number offset) u = u
under_rest i (good k) u = tt

-- So is what was parsed before its jumps were judged.
under_jumps : (q : Parsed) → Under (with_jumps q) → Under q
unfolding with_jumps
under_jumps (bad number offset) u = u
under_jumps (good k) u = tt

module _ (judge : ℕ → Judged) (end : ℕ) where
  -- Past the end every walk is done.
  walk_done : (n from : ℕ) → ltb from end ≡ false → walk judge end n from ≡ good []
  unfolding walk
  walk_done zero from e = rw e
  walk_done (suc n) from e = rw e

  -- What is settled within n instructions is settled alike within more.
  walk_more : (n m from : ℕ) → n ≤ m → Under (walk judge end n from) → walk judge end m from ≡ walk judge end n from
  unfolding walk
  walk_more zero m from h u = go (ltb from end) refl u
    where
      go : (t : Bool) → ltb from end ≡ t → Under (cond t (bad 17 from) (good [])) → walk judge end m from ≡ cond t (bad 17 from) (good [])
      go true e u = absurd (u refl)
      go false e u = walk_done m from e
  walk_more (suc n) zero from h u = absurd (omega arith)
  walk_more (suc n) (suc m) from h u = go (ltb from end) (judge from) (λ f. walk_more n m f (omega arith)) u
    where
      go : (t : Bool) (v : Judged) → ((f : ℕ) → Under (walk judge end n f) → walk judge end m f ≡ walk judge end n f)
          → Under (cond t (enter from v (walk judge end n)) (good []))
          → cond t (enter from v (walk judge end m)) (good []) ≡ cond t (enter from v (walk judge end n)) (good [])
      go false v ih u = refl
      go true (refused x) ih u = refl
      go true (passed size w) ih u =
          let i : Instr = record { place = from / 8; size = size; word = w } in
          ap (prepend i) (ih (from + 8 * size) (under_rest i (walk judge end n (from + 8 * size)) u))

-- ---- what lower limits let pass

-- Accepted, or refused as anything but 1 and 17.
abbrev pub Settled : Parsed → Type 0
Settled (bad number offset) = (number ≡ 1 → ⊥) × (number ≡ 17 → ⊥)
Settled (good k) = Unit {0}

-- What is settled did not have an instruction too many.
settled_under : (q : Parsed) → Settled q → Under q
settled_under (bad number offset) s = s.1
settled_under (good k) s = tt

-- What has the right size under a lower limit has it now.
sizes_more : (a : Bool) (length bytes : ℕ) → bytes ≤ kernel_bytes → (a && leb length bytes) ≡ true → (a && leb length kernel_bytes) ≡ true
sizes_more true length bytes h e = let l = leb-true length bytes e in le-leb length kernel_bytes (omega arith)
sizes_more false length bytes h e = e

module _ (bytes instructions : ℕ) (less : bytes ≤ kernel_bytes) (few : instructions ≤ instruction_limit) where
  -- What is known of such a kernel: it has the right size under both limits, and what is said of it after that is the same.
  record JudgedAlike (forms : Forms) (dictionary kernel : List ℕ) : Type 0 where
    fits : sized_within bytes dictionary kernel ≡ true
    fits_now : sized dictionary kernel ≡ true
    same : judged_kernel forms dictionary kernel ≡ judged_within instructions forms dictionary kernel

  -- All of it holds of a settled kernel.
  alike : (forms : Forms) (dictionary kernel : List ℕ) → Settled (accepted_within bytes instructions forms dictionary kernel) → JudgedAlike forms dictionary kernel
  unfolding judged_kernel parse
  alike forms dictionary kernel settled = go (sized_within bytes dictionary kernel) refl settled
    where
      within : ℕ → Parsed
      within n = walk (judge_at forms (dictionary_of dictionary) kernel) (length kernel) n 0

      judged : (t : Bool) → Settled (cond t (with_jumps (within instructions)) (bad 2 0))
          → cond t (with_jumps (within instruction_limit)) (bad 2 0) ≡ cond t (with_jumps (within instructions)) (bad 2 0)
      judged true s =
          ap with_jumps
          (walk_more (judge_at forms (dictionary_of dictionary) kernel) (length kernel) instructions instruction_limit 0 few
          (under_jumps (within instructions) (settled_under (with_jumps (within instructions)) s)))
      judged false s = refl

      go : (t : Bool) → sized_within bytes dictionary kernel ≡ t → Settled (cond t (judged_within instructions forms dictionary kernel) (bad 1 0))
          → JudgedAlike forms dictionary kernel
      go true e s =
          record {
            fits = e;
            fits_now = sizes_more (eqb (length dictionary) dictionary_bytes) (length kernel) bytes less e;
            same = judged (in_range (dictionary_of dictionary)) s;
          }
      go false e s = absurd (s.0 refl)

  -- So it is judged the same now,
  pub accepted-same : (forms : Forms) (dictionary kernel : List ℕ) → Settled (accepted_within bytes instructions forms dictionary kernel)
      → accepted forms dictionary kernel ≡ accepted_within bytes instructions forms dictionary kernel
  unfolding accepted
  accepted-same forms dictionary kernel s = let a = alike forms dictionary kernel s in rw (a.fits_now, a.fits) a.same

  -- and packing, which takes long words only, answers and writes the same.
  pub pack_same : (dictionary kernel out : List ℕ) → Settled (accepted_within bytes instructions long_only dictionary kernel)
      → pack_call dictionary kernel out ≡ pack_within bytes instructions dictionary kernel out
  unfolding pack_call
  pack_same dictionary kernel out s = ap (relaid (shorten (dictionary_of dictionary)) out) (accepted-same long_only dictionary kernel s)

  -- Decoding asks for the right size only.
  pub decode_same : (dictionary kernel : List ℕ) (place : ℕ) → sized_within bytes dictionary kernel ≡ true
      → decode_call dictionary kernel place ≡ decode_within bytes instructions dictionary kernel place
  unfolding decode_call decode_at
  decode_same dictionary kernel place e =
      let now : sized dictionary kernel ≡ true = sizes_more (eqb (length dictionary) dictionary_bytes) (length kernel) bytes less e in
      rw (now, e)

  -- Check, unpack, step and run answer, and leave, the same too.
  module _ (dictionary kernel : List ℕ) (s : Settled (accepted_within bytes instructions long_and_short dictionary kernel)) where
    pub check_same : check_call dictionary kernel ≡ check_within bytes instructions dictionary kernel
    unfolding check_call
    check_same = ap checked_as (accepted-same long_and_short dictionary kernel s)

    pub unpack_same : (out : List ℕ) → unpack_call dictionary kernel out ≡ unpack_within bytes instructions dictionary kernel out
    unfolding unpack_call
    unpack_same out = ap (relaid (λ _. none) out) (accepted-same long_and_short dictionary kernel s)

    pub step_same : (registers state : List ℕ) → step_call dictionary kernel registers state ≡ step_within bytes instructions dictionary kernel registers state
    unfolding step_call
    step_same registers state = let a = alike long_and_short dictionary kernel s in rw (a.fits_now, a.fits, a.same)

    pub run-same : (budget : ℕ) (registers state : List ℕ)
        → run_call dictionary kernel budget registers state ≡ run_within bytes instructions dictionary kernel budget registers state
    unfolding run_call
    run-same budget registers state = let a = alike long_and_short dictionary kernel s in rw (a.fits_now, a.fits, a.same)

-- What was accepted is accepted, as the same instructions.
pub accepted_still : (forms : Forms) (dictionary kernel : List ℕ) (k : List Instr) → accepted_within bytes_before instructions_before forms dictionary kernel ≡ good k
    → accepted forms dictionary kernel ≡ good k
accepted_still forms dictionary kernel k e =
    accepted-same bytes_before instructions_before (omega arith) (omega arith) forms dictionary kernel (rw e tt) ∙ e

-- ---- rewritten distances fit

-- Each piece from place a on reaches, by the distances that are written into it, exactly the places at which its targets come to stand.
unfoldable pub AllReach : List Instr → List Piece → ℕ → List Piece → Type 0
AllReach k ps a [] = Unit {0}
AllReach k ps a (p ∷ rest) = (targets_of (moved_to k ps a p) ≡ map pos (new_targets k ps p.instr)) × AllReach k ps (a + new_size p) rest

-- Where the pieces end below 2^15, so does each of them.
all_reach : (k : List Instr) (ps : List Piece) → start_of 0 ps (length ps) < 2 ^ 15 → (a : ℕ) (rest : List Piece) → start_of a rest (length rest) < 2 ^ 15
    → AllReach k ps a rest
unfolding AllReach start_of
all_reach k ps end a [] h = tt
all_reach k ps end a (p ∷ rest) h =
    (moved_reaches k ps end a p (omega (arith, first_ends a p rest)), all_reach k ps end (a + new_size p) rest h)

-- No place of a kernel laid out anew needs more than 15 bits, so every signed distance between two of them fits in 16, and jmpi's in its 32: for packing,
-- for unpacking, and for any other choice of forms.
pub distances_fit : (forms : Forms) (dictionary kernel : List ℕ) (k : List Instr) → Kernel forms dictionary kernel k → (form : Form)
    → (new_end form k ≤ last_place) × AllReach k (pieces_of form k) 0 (pieces_of form k)
distances_fit forms dictionary kernel k h form =
    let n = new_end_near form k h.few in (n, all_reach k (pieces_of form k) (omega arith) 0 (pieces_of form k) (omega arith))
