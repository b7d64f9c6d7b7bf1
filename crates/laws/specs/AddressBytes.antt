-- a0's bytes stay bytes, whatever is run (02 §7): so a state that was lent as bytes is left as bytes. Assumes nothing.
use Rattle.std.specs.Prelude.{Bool, true, List, [], ◌∷◌, ◌≡◌, refl, ℕ, zero, suc, ◌+◌, ◌/◌, ◌%◌, ◌<◌, set}
use Rattle.std.proofs.Math.Option.{Option, none, some}
use Rattle.std.proofs.Common.{sym, subst, mod-lt, arith}
use Rattle.std.proofs.Math.Pow.{are_bytes}
use Rattle.paper.specs.Bits.{put_at}
use Rattle.paper.specs.Word.{dst_is_a0}
use Rattle.paper.specs.Operation.{Operation, plain, nop, branch, unlisted, operation, Plain}
use Rattle.paper.specs.Region.{channels, dst_size, dst_element}
use Rattle.paper.specs.Store.{Store}
use Rattle.paper.specs.Address.{settled}
use Rattle.paper.specs.Effect.{scattered, channel_stores, is_on, addresses_after, plain_effect, effect}
use Rattle.paper.specs.Kernel.{Instr}
use Rattle.paper.specs.Jump.{fetch}
use Rattle.paper.specs.Machine.{State, step_on, step, stops, run}
use Rattle.laws.specs.Bytes.{bytes_head, bytes_tail, bytes_cons}
use Rattle.laws.specs.Finish.{woken, step-store}
use Rattle.laws.specs.Rename.{cond_at}
use Rattle.laws.specs.Runs.{iterate, ran}

-- A list is bytes.
abbrev Bytes : List ℕ → Type 0
Bytes l = are_bytes l ≡ true

-- ---- storing bytes

-- One byte stored among bytes,
bytes_set : (l : List ℕ) (a v : ℕ) → v < 256 → Bytes l → Bytes (set l a v)
bytes_set [] a v h b = b
bytes_set (x ∷ l) zero v h b = bytes_cons v l h (bytes_tail x l b)
bytes_set (x ∷ l) (suc a) v h b = bytes_cons x (set l a v) (bytes_head x l b) (bytes_set l a v h (bytes_tail x l b))

-- a number stored among them,
bytes_put_at : (n : ℕ) (l : List ℕ) (a v : ℕ) → Bytes l → Bytes (put_at l a n v)
unfolding put_at
bytes_put_at zero l a v b = b
bytes_put_at (suc n) l a v b = bytes_put_at n (set l a (v % 256)) (a + 1) (v / 256) (bytes_set l a (v % 256) (mod-lt v (omega arith)) b)

-- and one for each enabled channel.
bytes_scattered : (l : List ℕ) (element : ℕ → ℕ) (size : ℕ) (on : ℕ → Bool) (pattern : ℕ → ℕ) (n : ℕ) → Bytes l
    → Bytes (scattered l element size on pattern n)
unfolding scattered
bytes_scattered l element size on pattern zero b = b
bytes_scattered l element size on pattern (suc k) b =
    let before = scattered l element size on pattern k in
    let known = bytes_scattered l element size on pattern k b in
    cond_at Bytes (on k) (put_at before (element k) size (pattern k)) before (bytes_put_at size before (element k) (pattern k) known) known

-- ---- one instruction, a step, a run

-- An operation keeps a0's bytes bytes,
addresses_bytes : (p : Plain) (w : ℕ) (awake : List Bool) (st : Store) → Bytes st.addresses → Bytes (addresses_after p w awake st)
unfolding addresses_after
addresses_bytes p w awake st b =
    cond_at Bytes (dst_is_a0 w) (scattered st.addresses (dst_element w) (dst_size w) (is_on p w awake st) (channel_stores p w st) (channels w)) st.addresses
    (bytes_scattered st.addresses (dst_element w) (dst_size w) (is_on p w awake st) (channel_stores p w st) (channels w) b) b

-- and so does any instruction.
effect_bytes : (w : ℕ) (awake : List Bool) (st : Store) → Bytes st.addresses → Bytes (effect w awake st).addresses
unfolding effect plain_effect
effect_bytes w awake st b = go (operation w)
  where
    after : Operation → Store
    after o = elim o [ plain p ↦ plain_effect p (settled p st.addresses w) awake st | nop ↦ st | branch c ↦ st | unlisted ↦ st ]

    go : (o : Operation) → Bytes (after o).addresses
    go (plain p) = addresses_bytes p (settled p st.addresses w) awake st b
    go nop = b
    go (branch c) = b
    go unlisted = b

-- A step keeps them bytes,
pub step_bytes : (k : List Instr) (s : State) → Bytes s.store.addresses → Bytes (step k s).store.addresses
unfolding step_on
step_bytes k s b = go (fetch k s.place) refl
  where
    go : (o : Option Instr) → fetch k s.place ≡ o → Bytes (step k s).store.addresses
    go (some i) e = subst (λ (st : Store). Bytes st.addresses) (sym (step-store k s i e)) (effect_bytes i.word (woken i s) s.store b)
    go none e = subst (λ (o : Option Instr). Bytes (step_on o s).store.addresses) (sym e) b

-- so do many steps,
iterate_bytes : (k : List Instr) (n : ℕ) (s : State) → Bytes s.store.addresses → Bytes (iterate (step k) n s).store.addresses
unfolding iterate
iterate_bytes k zero s b = b
iterate_bytes k (suc n) s b = iterate_bytes k n (step k s) (step_bytes k s b)

-- and so does a run.
pub run_bytes : (k : List Instr) (n : ℕ) (s : State) → Bytes s.store.addresses → Bytes (run k n s).state.store.addresses
run_bytes k n s b =
    subst (λ (t : State). Bytes t.store.addresses) (sym (ran (stops k) (step k) n s).reached) (iterate_bytes k (run k n s).steps s b)
