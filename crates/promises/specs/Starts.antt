-- What a start leaves: a state from which every accepted kernel runs. Assumes nothing.
use Rattle.std.specs.Prelude.{true, List, ◌≡◌, refl, ℕ, ◌≤◌}
use Rattle.std.proofs.Common.{sym, ap, ◌∙◌, arith}
use Rattle.std.proofs.Math.Pow.{are_bytes}
use Rattle.paper.specs.Limits.{register_bytes, last_place}
use Rattle.paper.specs.Kernel.{Instr, long_and_short, good}
use Rattle.paper.specs.Jump.{end_of}
use Rattle.paper.specs.Machine.{State}
use Rattle.paper.specs.State.{state_of, state_bytes}
use Rattle.paper.specs.Calls.{accepted}
use Rattle.laws.specs.Names.{named}
use Rattle.laws.specs.Same.{start-named}
use Rattle.laws.specs.StateBytes.{state_back}
use Rattle.laws.specs.Lasting.{lasting_storable}
use Rattle.laws.specs.Packing.{kernel_of_lem, kernel_near, accepted_parts}
use Rattle.laws.specs.Demands.{Ready, stored_ready, begun, start_lasting, start_bytes}
use Rattle.promises.specs.Results.{start_fits}
use Rattle.promises.specs.Stepping.{state_bytes_lem}
use Rattle.promises.specs.Promises.{Begun}
use Rattle.promises.specs.OutcomesHold.{answers}

-- The state of the paper that a start begins with.
abbrev pub beginning : {state registers : List ℕ} → Begun state registers → State
beginning {state} {registers} b = begun registers b.flag0 b.flag1 b.mask

module _ (state registers : List ℕ) (b : Begun state registers) where
  -- The bytes that the start left.
  pub started : state ≡ state_bytes (beginning b)
  started =
      let t = answers.start b.mask b.flag0 b.flag1 b.lent b.answer state b.begin in
      b.begin.1
      ∙ start_bytes registers b.flag0 b.flag1 b.mask b.lent
      (start_fits b.mask b.flag0 b.flag1 b.lent (sym t.number ∙ b.zero))

  -- They are bytes.
  pub started_bytes : are_bytes state ≡ true
  started_bytes = ap are_bytes started ∙ state_bytes_lem (beginning b) refl

  -- With a kernel that is accepted, nothing that is lent is refused.
  pub start_ready : (dictionary kernel : List ℕ) → are_bytes kernel ≡ true → (k : List Instr) → accepted long_and_short dictionary kernel ≡ good k
      → Ready dictionary kernel registers state k
  start_ready dictionary kernel right k given =
      let h = kernel_of_lem long_and_short dictionary kernel right k given in
      let parts = accepted_parts dictionary kernel k given in
      let near : end_of k ≤ last_place = kernel_near long_and_short dictionary kernel k h in
      let lasts = start_lasting k h.sound registers b.flag0 b.flag1 b.mask b.whole b.small0 b.small1 in
      rw started (stored_ready dictionary kernel k h.sound (omega arith) parts.0 parts.1 (beginning b) lasts)

  -- Read again, and by the numbers of the kernel's instructions, they are the state that a start begins with.
  pub start_names : (dictionary kernel : List ℕ) → are_bytes kernel ≡ true → (k : List Instr) → accepted long_and_short dictionary kernel ≡ good k
      → named k (state_of registers state) ≡ beginning b
  start_names dictionary kernel right k given =
      let h = kernel_of_lem long_and_short dictionary kernel right k given in
      let near : end_of k ≤ last_place = kernel_near long_and_short dictionary kernel k h in
      let lasts = start_lasting k h.sound registers b.flag0 b.flag1 b.mask b.whole b.small0 b.small1 in
      let back = state_back (beginning b) (lasting_storable k h.sound.laid (omega arith) register_bytes (beginning b) lasts) in
      ap (λ (x : List ℕ). named k (state_of registers x)) started ∙ ap (named k) back ∙ start-named k h.sound _ b.mask
