-- A long kernel and one that was sent for it (02 §11): which pairs are accepted, and how much there is to load. Assumes nothing.
-- That unpacking an accepted one gives the long kernel, and that packing makes one, is in proofs/PairsHold.
use Rattle.std.specs.Prelude.{Bool, true, false, cond, ◌&&◌, List, ◌≡◌, refl, ℕ, eqb, length}
use Rattle.std.proofs.Common.{sym, ◌∙◌, arith, eqb-true, eq-eqb}
use Rattle.std.proofs.lemmas.List.{length-map}
use Rattle.paper.specs.Kernel.{Instr, long_and_short, long_only, Parsed, bad, good}
use Rattle.paper.specs.Program.{line_of, program, agreed}
use Rattle.paper.specs.Calls.{verdict, refusal_with, count_of, accepted, compared_as, paired_as, pair_call, loaded_by, load_part}
use Rattle.laws.specs.Agreed.{agreed_same, agreed_one}
use Rattle.laws.specs.Truth.{both_true}

-- A pair that is accepted: both pass the bench, the long kernel with long words only, and they have one program. So each instruction of the sent kernel that is
-- no branch is the long word itself or a short word that expands to it, and each branch its partner but for distances that lead to the same instruction.
pub record Paired (dictionary long sent : List ℕ) : Type 0 where
  pub longer : List Instr
  pub shorter : List Instr
  pub given : accepted long_only dictionary long ≡ good longer
  pub taken : accepted long_and_short dictionary sent ≡ good shorter
  pub same : program longer ≡ program shorter

-- ---- accepted exactly so

-- Two kernels with one program are answered with 0.
compared_same : (long sent : List ℕ) (k l : List Instr) → program k ≡ program l → compared_as long sent k l ≡ verdict 0 (length sent)
compared_same long sent k l e =
    let h = agreed_same (program k) (program l) e in
    let a : agreed (program k) (program l) ≡ length k = h.0 ∙ length-map k (line_of k) in
    let b : agreed (program k) (program l) ≡ length l = h.1 ∙ length-map l (line_of l) in
    rw (eq-eqb _ _ a, eq-eqb _ _ b)

-- And no others are.
compared_told : (long sent : List ℕ) (k l : List Instr) (number count : ℕ) → compared_as long sent k l ≡ verdict number count → program k ≡ program l
compared_told long sent k l number count e = go (eqb same (length k) && eqb same (length l)) refl e
  where
    same : ℕ
    same = agreed (program k) (program l)

    go : (t : Bool) → (eqb same (length k) && eqb same (length l)) ≡ t
        → cond t (verdict 0 (length sent)) (refusal_with 31 same (length long)) ≡ verdict number count → program k ≡ program l
    go true h e =
        let b = both_true (eqb same (length k)) (eqb same (length l)) h in
        agreed_one (program k) (program l) (eqb-true same (length k) b.0 ∙ sym (length-map k (line_of k)))
        (eqb-true same (length l) b.1 ∙ sym (length-map l (line_of l)))
    go false h e = let z : ◌≡◌ {A = ℕ} 0 1 = cc in absurd (omega arith)

-- An accepted pair is answered with 0, and the sent kernel is to be loaded.
pub paired_told : (dictionary long sent : List ℕ) → Paired dictionary long sent → pair_call dictionary long sent ≡ verdict 0 (length sent)
unfolding pair_call
paired_told dictionary long sent p = rw (p.given, p.taken) (compared_same long sent p.longer p.shorter p.same)

-- Only an accepted pair has a verdict.
pub told_paired : (dictionary long sent : List ℕ) (number count : ℕ) → pair_call dictionary long sent ≡ verdict number count → Paired dictionary long sent
unfolding pair_call
told_paired dictionary long sent number count e =
    go (accepted long_only dictionary long) refl (accepted long_and_short dictionary sent) refl e
  where
    go : (p : Parsed) → accepted long_only dictionary long ≡ p → (q : Parsed) → accepted long_and_short dictionary sent ≡ q
        → paired_as long sent p q ≡ verdict number count → Paired dictionary long sent
    go (bad n o) f q g e = let z : ◌≡◌ {A = ℕ} 0 1 = cc in absurd (omega arith)
    go (good k) f (bad n o) g e = let z : ◌≡◌ {A = ℕ} 0 1 = cc in absurd (omega arith)
    go (good k) f (good l) g e = record { longer = k; shorter = l; given = f; taken = g; same = compared_told long sent k l number count e }

-- ---- the part to load

-- The count is its length.
pub load_counted : (dictionary long sent : List ℕ) → count_of (pair_call dictionary long sent) ≡ length (load_part dictionary long sent)
unfolding pair_call load_part
load_counted dictionary long sent = go (accepted long_only dictionary long) (accepted long_and_short dictionary sent)
  where
    either : (t : Bool) (n : ℕ) → count_of (cond t (verdict 0 (length sent)) (refusal_with 31 n (length long)))
        ≡ length (loaded_by long sent (cond t (verdict 0 (length sent)) (refusal_with 31 n (length long))))
    either true n = refl
    either false n = refl

    go : (p q : Parsed) → count_of (paired_as long sent p q) ≡ length (loaded_by long sent (paired_as long sent p q))
    go (bad n o) q = refl
    go (good k) (bad n o) = refl
    go (good k) (good l) = let n = agreed (program k) (program l) in either (eqb n (length k) && eqb n (length l)) n
