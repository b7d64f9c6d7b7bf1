-- A long kernel and one that was sent for it: what an answer of pair says of them. Assumes nothing.
use Rattle.std.specs.Prelude.{Bool, true, false, cond, ◌&&◌, List, [], ◌≡◌, refl, ℕ, ◌≤◌, eqb, length}
use Rattle.std.proofs.Math.Path.{sym, ap}
use Rattle.std.proofs.Common.{◌∙◌, subst, arith, length-take}
use Rattle.std.proofs.Math.Pow.{are_bytes}
use Rattle.paper.specs.Limits.{kernel_bytes, instruction_limit}
use Rattle.paper.specs.Kernel.{Instr, long_and_short, long_only, Parsed, good, bad}
use Rattle.paper.specs.Packing.{relay}
use Rattle.paper.specs.Program.{program, agreed}
use Rattle.paper.specs.Calls.{verdict, refusal_with, accepted, compared_as, paired_as, pair_call, loaded_by, load_part, number_of, count_of}
use Rattle.laws.specs.Names.{long_form}
use Rattle.laws.specs.Packing.{kernel_of_lem, long_accepted}
use Rattle.laws.specs.Pairs.{Paired, paired_told, told_paired, load_counted}
use Rattle.laws.proofs.PairsHold.{paired_unpacks, unpacks_paired, packed_paired}
use Rattle.contracts.specs.Contracts.{number_in, count_in, PackPromise, UnpackPromise, PairPromise}
use Rattle.answers.specs.Kernels.{Near, accepted_near}
use Rattle.promises.specs.Results.{near_no_zero, unpack_fits}
use Rattle.promises.specs.Promises.{result, Alike, Loads, Pairs}
use Rattle.promises.specs.OutcomesHold.{answers}
use Rattle.promises.proofs.RefusalsHold.{demand_1}
use Rattle.promises.specs.PackingHolds.{pack_wrote, unpack_wrote, relaid_bytes}
use Rattle.promises.proofs.AlikeHolds.{program_alike}

-- ---- an answer of 0

-- Of two accepted kernels only those with one program are answered with 0.
compared_zero : (long sent : List ℕ) (k l : List Instr) → number_of (compared_as long sent k l) ≡ 0 → compared_as long sent k l ≡ verdict 0 (length sent)
compared_zero long sent k l = let same = agreed (program k) (program l) in go (eqb same (length k) && eqb same (length l)) same
  where
    go : (t : Bool) (n : ℕ) → number_of (cond t (verdict 0 (length sent)) (refusal_with 31 n (length long))) ≡ 0
        → cond t (verdict 0 (length sent)) (refusal_with 31 n (length long)) ≡ verdict 0 (length sent)
    go true n e = refl
    go false n e = absurd (omega arith)

-- 0 is answered to accepted pairs only.
zero_paired : (dictionary long sent : List ℕ) → number_of (pair_call dictionary long sent) ≡ 0 → Paired dictionary long sent
unfolding pair_call
zero_paired dictionary long sent =
    go (accepted long_only dictionary long) refl (accepted_near long_only dictionary long)
    (accepted long_and_short dictionary sent) refl (accepted_near long_and_short dictionary sent)
  where
    go : (p : Parsed) → accepted long_only dictionary long ≡ p → Near kernel_bytes instruction_limit p
        → (q : Parsed) → accepted long_and_short dictionary sent ≡ q → Near kernel_bytes instruction_limit q
        → number_of (paired_as long sent p q) ≡ 0 → Paired dictionary long sent
    go (bad n o) e h q f g z = absurd (near_no_zero n o h z)
    go (good k) e h (bad n o) f g z = absurd (near_no_zero n o g z)
    go (good k) e h (good l) f g z = told_paired dictionary long sent 0 (length sent) (rw (e, f) (compared_zero long sent k l z))

-- ---- what is loaded

-- Nothing where the long kernel is refused,
load_nothing : (dictionary long sent : List ℕ) (number offset : ℕ) → accepted long_only dictionary long ≡ bad number offset → load_part dictionary long sent ≡ []
unfolding pair_call load_part
load_nothing dictionary long sent number offset e = rw e

-- else the long one where the answer is not 0.
load_long : (dictionary long sent : List ℕ) (k : List Instr) → accepted long_only dictionary long ≡ good k → (number_of (pair_call dictionary long sent) ≡ 0 → ⊥)
    → load_part dictionary long sent ≡ long
unfolding pair_call load_part
load_long dictionary long sent k e = rw e (go (accepted long_and_short dictionary sent))
  where
    either : (t : Bool) (n : ℕ) → (number_of (cond t (verdict 0 (length sent)) (refusal_with 31 n (length long))) ≡ 0 → ⊥)
        → loaded_by long sent (cond t (verdict 0 (length sent)) (refusal_with 31 n (length long))) ≡ long
    either true n z = absurd (z refl)
    either false n z = refl

    go : (q : Parsed) → (number_of (paired_as long sent (good k) q) ≡ 0 → ⊥) → loaded_by long sent (paired_as long sent (good k) q) ≡ long
    go (bad n o) z = refl
    go (good l) z = let same = agreed (program k) (program l) in either (eqb same (length k) && eqb same (length l)) same z

-- ---- one pair

module _ (dictionary long sent : List ℕ) (r : ℕ) (p : PairPromise dictionary long sent r) where
  paired : number_in r ≡ 0 → Paired dictionary long sent
  paired zero = zero_paired dictionary long sent (sym (answers.pair dictionary long sent r p).number ∙ zero)

  -- An accepted pair is answered with 0 and the length of the sent kernel.
  zero : Paired dictionary long sent → (number_in r ≡ 0) × (count_in r ≡ length sent)
  zero q =
      let t = answers.pair dictionary long sent r p in
      let e = paired_told dictionary long sent q in
      (t.number ∙ ap number_of e, t.count ∙ ap count_of e)

  -- ---- unpacking

  pair_unpacks : are_bytes long ≡ true → are_bytes sent ≡ true → number_in r ≡ 0 → (out : List ℕ) → length long ≤ length out
      → (u : ℕ) (out' : List ℕ) → UnpackPromise dictionary sent out u out' → (number_in u ≡ 0) × (result u out' ≡ long)
  pair_unpacks right right' none out room u out' q =
      let w = paired none in
      let e = paired_unpacks dictionary long sent right right' w in
      let n = (answers.unpack dictionary sent out u out' q).number
      ∙ unpack_fits dictionary sent out w.shorter w.taken (subst (λ (x : List ℕ). length x ≤ length out) (sym e) room) in
      let v = unpack_wrote dictionary sent out right' u out' q n in
      let one : good v.instrs ≡ good w.shorter = sym v.given ∙ w.taken in
      let same : v.instrs ≡ w.shorter = cc in
      (n, v.are ∙ ap (relay long_form) same ∙ e)

  -- ---- running

  pair_alike : are_bytes long ≡ true → are_bytes sent ≡ true → number_in r ≡ 0 → Alike dictionary long sent
  pair_alike right right' none =
      let w = paired none in
      program_alike dictionary long sent right right' w.longer w.shorter
      (long_accepted dictionary long w.longer (kernel_of_lem long_only dictionary long right w.longer w.given)) w.taken w.same

  -- ---- loading

  pair_loads : Loads dictionary long sent r (load_part dictionary long sent)
  unfolding load_part
  pair_loads =
      let t = answers.pair dictionary long sent r p in
      record {
        counted = sym (t.count ∙ load_counted dictionary long sent);
        the_sent = λ none. ap (loaded_by long sent) (paired_told dictionary long sent (paired none));
        the_long = λ other k e. load_long dictionary long sent k e (λ z. other (t.number ∙ z));
        nothing = load_nothing dictionary long sent;
      }

-- What pack wrote is as long as it counts.
pack_length : (dictionary kernel out : List ℕ) (p : ℕ) (out' : List ℕ) → PackPromise dictionary kernel out p out' → length (result p out') ≡ count_in p
pack_length dictionary kernel out p out' q =
    let k = demand_1.refusals.pack dictionary kernel out p out' q in
    simp length-take (omega (arith, k.fits, k.same))

-- ---- the promise

pub pairs : Pairs
pairs =
    record {
      unpacks = λ dictionary long sent right right' r p none. pair_unpacks dictionary long sent r p right right' none;
      accepts = λ dictionary long sent right' out u out' q none same r p.
          let v = unpack_wrote dictionary sent out right' u out' q none in
          let right = ap are_bytes (sym same) ∙ relaid_bytes v in
          zero dictionary long sent r p (unpacks_paired dictionary long sent right right' v.instrs v.given (sym v.are ∙ same));
      packed = λ dictionary kernel out right p out' q none r s.
          let w = pack_wrote dictionary kernel out right p out' q none in
          let k = w.instrs in
          let pair = subst (Paired dictionary kernel) (sym w.are) (packed_paired dictionary kernel right k w.given) in
          let z = zero dictionary kernel (result p out') r s pair in
          (z.0, z.1 ∙ pack_length dictionary kernel out p out' q);
      alike = λ dictionary long sent right right' r p none. pair_alike dictionary long sent r p right right' none;
      loads = pair_loads;
    }
