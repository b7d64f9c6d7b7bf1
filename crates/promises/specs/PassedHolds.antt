-- Kernels that passed before a request that only adds pass, and are packed, unpacked and run as they were. Assumes nothing.
use Rattle.std.specs.Prelude.{List, ◌≡◌, refl, ℕ}
use Rattle.std.proofs.Common.{ap, ◌∙◌, arith}
use Rattle.std.proofs.Math.Path.{subst}
use Rattle.paper.specs.Kernel.{Instr, long_and_short, long_only, Parsed, bad, good}
use Rattle.paper.specs.Machine.{Ways, State}
use Rattle.paper.specs.Dictionary.{dictionary_of}
use Rattle.paper.specs.Shorten.{shorten}
use Rattle.paper.specs.Packing.{Form}
use Rattle.paper.specs.Calls.{verdict, refusal, as_number, Written, Changed, checked_as, relaid, pack_call}
use Rattle.contracts.specs.Contracts.{Wrote, Left}
use Rattle.laws.specs.Otherwise.{judge_at_by, Judgement, accepted_by, check_call_by, pack_call_by}
use Rattle.laws.specs.Adding.{Stays, Adds, stays, pack_stays}
use Rattle.laws.specs.VotesBefore.{refusal_before, step_at_before}
use Rattle.laws.specs.Votes.{votes_add}
use Rattle.laws.specs.LeavingBefore.{former_judge, former_step}
use Rattle.laws.specs.Leaving.{leaving_stays, leaving_packs}
use Rattle.laws.specs.AddressesBefore.{direct_refusal, direct_step, direct_judge}
use Rattle.laws.specs.Addresses.{addresses_add}
use Rattle.laws.specs.AddressesStay.{start_stays, step_stays, run_stays}
use Rattle.laws.specs.FloatsBefore.{whole_refusal, whole_step}
use Rattle.laws.specs.Floats.{floats_add}
use Rattle.promises.specs.Before.{AsBy, AsDirect, PassedBefore}

-- No refusal is a verdict.
not_verdict {ℓ} : {A : Type ℓ} (number offset v n : ℕ) → refusal number offset ≡ verdict v n → A
not_verdict number offset v n e = let z : ◌≡◌ {A = ℕ} 0 1 = cc in absurd (omega arith)

-- A verdict of check is one on instructions;
checked_good : (q : Parsed) (n : ℕ) → checked_as q ≡ verdict 0 n → (k : List Instr) × (q ≡ good k)
checked_good (bad number offset) n e = not_verdict number offset 0 n e
checked_good (good k) n e = (k, refl)

-- so is one of pack.
relaid_good : (form : Form) (out : List ℕ) (q : Parsed) (n : ℕ) → (relaid form out q).answer ≡ verdict 0 n → (k : List Instr) × (q ≡ good k)
relaid_good form out (bad number offset) n e = not_verdict number offset 0 n e
relaid_good form out (good k) n e = (k, refl)

-- What holds of the paper's calls holds of the exported ones.
calls_kept : (judge : Judgement) (act : ℕ → ℕ → Ways → State → State) (dictionary kernel : List ℕ) → Stays judge act dictionary kernel
    → AsBy judge act dictionary kernel
calls_kept judge act dictionary kernel s =
    record {
      check = λ r p. p ∙ ap as_number s.check;
      unpack = λ out r out' p. subst (λ (c : Written). Wrote c r out') (s.unpack out) p;
      step = λ registers state r registers' state' p. subst (λ (c : Changed). Left c r registers' state') (s.step registers state) p;
      run = λ budget registers state r registers' state' p. subst (λ (c : Changed). Left c r registers' state') (s.run budget registers state) p;
    }

-- Rules that only add to 6 to 11.
module _ (rule : ℕ → ℕ) (act : ℕ → ℕ → Ways → State → State) (adds : Adds rule act) where
  -- What check accepted by them is answered as it was,
  accepted_kept : (dictionary kernel : List ℕ) (n : ℕ) → check_call_by (judge_at_by rule) dictionary kernel ≡ verdict 0 n
      → AsBy (judge_at_by rule) act dictionary kernel
  unfolding check_call_by
  accepted_kept dictionary kernel n e =
      let g = checked_good (accepted_by (judge_at_by rule) long_and_short dictionary kernel) n e in
      calls_kept (judge_at_by rule) act dictionary kernel (stays rule act adds dictionary kernel g.0 g.1)

  -- and what pack accepted is packed as it was.
  pack_kept : (dictionary kernel out : List ℕ) (n : ℕ) → (pack_call_by (judge_at_by rule) dictionary kernel out).answer ≡ verdict 0 n
      → (r : ℕ) (out' : List ℕ) → Wrote (pack_call dictionary kernel out) r out' → Wrote (pack_call_by (judge_at_by rule) dictionary kernel out) r out'
  unfolding pack_call_by
  pack_kept dictionary kernel out n e r out' p =
      let g = relaid_good (shorten (dictionary_of dictionary)) out (accepted_by (judge_at_by rule) long_only dictionary kernel) n e in
      subst (λ (c : Written). Wrote c r out') (pack_stays rule act adds dictionary kernel g.0 g.1 out) p

-- Without a0 and addresses.
direct_kept : (dictionary kernel : List ℕ) (n : ℕ) → check_call_by direct_judge dictionary kernel ≡ verdict 0 n → AsDirect dictionary kernel
unfolding check_call_by
direct_kept dictionary kernel n e =
    let g = checked_good (accepted_by direct_judge long_and_short dictionary kernel) n e in
    let s = calls_kept direct_judge direct_step dictionary kernel (stays direct_refusal direct_step addresses_add dictionary kernel g.0 g.1) in
    record {
      check = s.check;
      unpack = s.unpack;
      step = λ registers state long r registers' state' p.
          subst (λ (c : Changed). Left c r registers' state') (step_stays dictionary kernel g.0 g.1 registers state long) p;
      run = λ budget registers state long r registers' state' p.
          subst (λ (c : Changed). Left c r registers' state') (run_stays dictionary kernel g.0 g.1 registers state long budget) p;
    }

pub passed_before : PassedBefore
passed_before =
    record {
      votes = accepted_kept refusal_before step_at_before votes_add;
      votes_packed = pack_kept refusal_before step_at_before votes_add;
      leaving = λ dictionary kernel others. calls_kept former_judge former_step dictionary kernel (leaving_stays dictionary kernel others);
      leaving_packed = λ dictionary kernel out others r out' p.
          subst (λ (c : Written). Wrote c r out') (leaving_packs dictionary kernel out others) p;
      addresses = direct_kept;
      addresses_packed = pack_kept direct_refusal direct_step addresses_add;
      addresses_start = λ mask flag0 flag1 state long r state' p. subst (λ (c : Written). Wrote c r state') (start_stays mask flag0 flag1 state long) p;
      floats = accepted_kept whole_refusal whole_step floats_add;
      floats_packed = pack_kept whole_refusal whole_step floats_add;
    }
