-- What an answer of 0 says of the kernel or the word, and what is then written; what 13 and 14 say. Assumes nothing.
use Rattle.std.specs.Prelude.{Bool, true, false, not, cond, List, [], ◌++◌, ◌⊎◌, ◌≡◌, refl, ℕ, ◌+◌, ◌*◌, ◌<◌, ◌≤◌, eqb, ltb, leb, length, take, drop}
use Rattle.std.proofs.Common.{inl, inr, sym, ap, ◌∙◌, arith, length-take, length-drop, take_at, eqb-true, ltb-true, leb-false}
use Rattle.paper.specs.Limits.{state_length, kernel_bytes, instruction_limit}
use Rattle.paper.specs.Dictionary.{Dictionary, dictionary_of, in_range}
use Rattle.paper.specs.Shorten.{shorten}
use Rattle.paper.specs.Kernel.{Instr, long_and_short, long_only, Judged, refused, passed, judge_at, Parsed, bad, good}
use Rattle.paper.specs.Machine.{start}
use Rattle.paper.specs.State.{state_bytes}
use Rattle.paper.specs.Packing.{Form, relay}
use Rattle.paper.specs.Calls.{refusal, verdict, Written, kept, deliver, accepted, checked_as, check_call, relaid, pack_call, unpack_call, fresh_store, start_call, number_of, count_of}
use Rattle.paper.specs.Calls.{Answer, sized, Decoded, undecoded, decoded, part_of, decode_part, judged_as, decode_at, decoded_as, decode_call}
use Rattle.laws.specs.Names.{long_form}
use Rattle.laws.specs.Judged.{Passed, as_long, as_short, judge_passed}
use Rattle.contracts.specs.Contracts.{count_in}
use Rattle.answers.specs.Judging.{Modest, modest_above, judged_modest}
use Rattle.answers.specs.Kernels.{KernelNo, Near, near_number, accepted_near}

-- A kernel's refusal is not 0.
pub no_zero : (number : ℕ) → KernelNo number → number ≡ 0 → ⊥
no_zero number (inl low) e = omega (arith, low.0)
no_zero number (inr last) e = omega arith

pub near_no_zero : (number offset : ℕ) → Near kernel_bytes instruction_limit (bad number offset) → number ≡ 0 → ⊥
near_no_zero number offset h = no_zero number (near_number kernel_bytes instruction_limit number offset h)

-- ---- check

-- What is accepted is answered with 0 and its count of instructions.
pub accepted_checks : (dictionary kernel : List ℕ) (k : List Instr) → accepted long_and_short dictionary kernel ≡ good k
    → check_call dictionary kernel ≡ verdict 0 (length k)
unfolding check_call
accepted_checks dictionary kernel k e = ap checked_as e

-- The instructions of what is accepted.
pub record Instructions (q : Parsed) : Type 0 where
  pub instrs : List Instr
  pub are : q ≡ good instrs

-- A kernel that check answers with 0 is accepted.
pub check_accepts : (dictionary kernel : List ℕ) → number_of (check_call dictionary kernel) ≡ 0 → Instructions (accepted long_and_short dictionary kernel)
unfolding check_call
check_accepts dictionary kernel = go (accepted long_and_short dictionary kernel) (accepted_near long_and_short dictionary kernel)
  where
    go : (q : Parsed) → Near kernel_bytes instruction_limit q → number_of (checked_as q) ≡ 0 → Instructions q
    go (bad number offset) h e = absurd (near_no_zero number offset h e)
    go (good k) h e = record { instrs = k; are = refl }

-- ---- pack and unpack

-- A result as it is written: its length is the count, and the rest of the buffer stays.
abbrev pub wrote : List ℕ → List ℕ → Written
wrote result out = record { answer = verdict 0 (length result); output = result ++ drop (length result) out }

-- The first bytes of what a call left, where it wrote a result and counted its bytes, are the result.
pub result_is : (bytes out : List ℕ) (w : Written) → w ≡ wrote bytes out → (r : ℕ) (out' : List ℕ) → count_in r ≡ count_of w.answer → out' ≡ w.output
    → take (count_in r) out' ≡ bytes
result_is bytes out w e r out' c d =
    let count : count_in r ≡ length bytes = c ∙ ap (λ (x : Written). count_of x.answer) e in
    ap (take (count_in r)) (d ∙ ap (λ (x : Written). x.output) e) ∙ take_at bytes (drop (length bytes) out) (count_in r) (sym count)

-- What an answer of 0 says of a result.
pub deliver_fits : (result out : List ℕ) → number_of (deliver result out).answer ≡ 0 → deliver result out ≡ wrote result out
unfolding deliver
deliver_fits result out = go (ltb (length out) (length result))
  where
    go : (b : Bool) → number_of (cond b (kept (refusal 14 0) out) (wrote result out)).answer ≡ 0
        → cond b (kept (refusal 14 0) out) (wrote result out) ≡ wrote result out
    go true e = absurd (omega arith)
    go false e = refl

-- Where there is room, the answer is 0.
pub deliver_room : (result out : List ℕ) → length result ≤ length out → number_of (deliver result out).answer ≡ 0
unfolding deliver
deliver_room result out room = go (ltb (length out) (length result)) refl
  where
    go : (b : Bool) → ltb (length out) (length result) ≡ b → number_of (cond b (kept (refusal 14 0) out) (wrote result out)).answer ≡ 0
    go true h = let less = ltb-true (length out) (length result) h in absurd (omega arith)
    go false h = refl

-- 14 says that the output is shorter.
deliver_full : (result out : List ℕ) → number_of (deliver result out).answer ≡ 14 → length out < length result
unfolding deliver
deliver_full result out = go (ltb (length out) (length result)) refl
  where
    go : (b : Bool) → ltb (length out) (length result) ≡ b → number_of (cond b (kept (refusal 14 0) out) (wrote result out)).answer ≡ 14
        → length out < length result
    go true h e = ltb-true (length out) (length result) h
    go false h e = absurd (omega arith)

-- A result is never answered with 13.
pub deliver_other : (result out : List ℕ) → number_of (deliver result out).answer ≡ 13 → ⊥
unfolding deliver
deliver_other result out = go (ltb (length out) (length result))
  where
    go : (b : Bool) → number_of (cond b (kept (refusal 14 0) out) (wrote result out)).answer ≡ 13 → ⊥
    go true e = omega arith
    go false e = omega arith

-- A kernel that is laid out anew with 0 as the answer is accepted, and its new bytes are written.
pub record Writes (form : Form) (out : List ℕ) (q : Parsed) (w : Written) : Type 0 where
  pub instrs : List Instr
  pub are : q ≡ good instrs
  pub whole : w ≡ wrote (relay form instrs) out

relaid_writes : (form : Form) (out : List ℕ) (q : Parsed) → Near kernel_bytes instruction_limit q → number_of (relaid form out q).answer ≡ 0
    → Writes form out q (relaid form out q)
relaid_writes form out (bad number offset) h e = absurd (near_no_zero number offset h e)
relaid_writes form out (good k) h e = record { instrs = k; are = refl; whole = deliver_fits (relay form k) out e }

pub pack_writes : (dictionary kernel out : List ℕ) → number_of (pack_call dictionary kernel out).answer ≡ 0
    → Writes (shorten (dictionary_of dictionary)) out (accepted long_only dictionary kernel) (pack_call dictionary kernel out)
unfolding pack_call
pack_writes dictionary kernel out =
    relaid_writes (shorten (dictionary_of dictionary)) out (accepted long_only dictionary kernel) (accepted_near long_only dictionary kernel)

pub unpack_writes : (dictionary kernel out : List ℕ) → number_of (unpack_call dictionary kernel out).answer ≡ 0
    → Writes long_form out (accepted long_and_short dictionary kernel) (unpack_call dictionary kernel out)
unfolding unpack_call
unpack_writes dictionary kernel out =
    relaid_writes long_form out (accepted long_and_short dictionary kernel) (accepted_near long_and_short dictionary kernel)

-- An accepted kernel whose result has room is answered with 0.
relaid_room : (form : Form) (out : List ℕ) (q : Parsed) (k : List Instr) → q ≡ good k → length (relay form k) ≤ length out
    → number_of (relaid form out q).answer ≡ 0
relaid_room form out q k given room = ap (λ (x : Parsed). number_of (relaid form out x).answer) given ∙ deliver_room (relay form k) out room

pub pack_fits : (dictionary kernel out : List ℕ) (k : List Instr) → accepted long_only dictionary kernel ≡ good k
    → length (relay (shorten (dictionary_of dictionary)) k) ≤ length out → number_of (pack_call dictionary kernel out).answer ≡ 0
unfolding pack_call
pack_fits dictionary kernel out = relaid_room (shorten (dictionary_of dictionary)) out (accepted long_only dictionary kernel)

pub unpack_fits : (dictionary kernel out : List ℕ) (k : List Instr) → accepted long_and_short dictionary kernel ≡ good k
    → length (relay long_form k) ≤ length out → number_of (unpack_call dictionary kernel out).answer ≡ 0
unfolding unpack_call
unpack_fits dictionary kernel out = relaid_room long_form out (accepted long_and_short dictionary kernel)

-- 14 is answered only where a result is longer than the output.
relaid_full : (form : Form) (out : List ℕ) (q : Parsed) → Near kernel_bytes instruction_limit q → number_of (relaid form out q).answer ≡ 14
    → (k : List Instr) × (q ≡ good k) × (length out < length (relay form k))
relaid_full form out (bad number offset) h e = absurd (no_fourteen number (near_number kernel_bytes instruction_limit number offset h) e)
  where
    no_fourteen : (n : ℕ) → KernelNo n → n ≡ 14 → ⊥
    no_fourteen n (inl low) z = omega (arith, low.1)
    no_fourteen n (inr last) z = omega arith
relaid_full form out (good k) h e = (k, refl, deliver_full (relay form k) out e)

pub pack_full : (dictionary kernel out : List ℕ) → number_of (pack_call dictionary kernel out).answer ≡ 14
    → (k : List Instr) × (accepted long_only dictionary kernel ≡ good k) × (length out < length (relay (shorten (dictionary_of dictionary)) k))
unfolding pack_call
pack_full dictionary kernel out =
    relaid_full (shorten (dictionary_of dictionary)) out (accepted long_only dictionary kernel) (accepted_near long_only dictionary kernel)

pub unpack_full : (dictionary kernel out : List ℕ) → number_of (unpack_call dictionary kernel out).answer ≡ 14
    → (k : List Instr) × (accepted long_and_short dictionary kernel ≡ good k) × (length out < length (relay long_form k))
unfolding unpack_call
unpack_full dictionary kernel out =
    relaid_full long_form out (accepted long_and_short dictionary kernel) (accepted_near long_and_short dictionary kernel)

-- ---- decode

-- What is decoded has 8 or 16 bytes, which lie inside the kernel.
pub record Inside (kernel : List ℕ) (from : ℕ) (a : Answer) : Type 0 where
  pub size : (count_of a ≡ 8) ⊎ (count_of a ≡ 16)
  pub ends : from + count_of a ≤ length kernel

judged_inside : (D : Dictionary) (kernel : List ℕ) (from : ℕ) → from < length kernel → (v : Judged) → judge_at long_and_short D kernel from ≡ v → Modest v
    → number_of (decoded_as (judged_as from v)) ≡ 0 → Inside kernel from (decoded_as (judged_as from v))
judged_inside D kernel from before (refused number) h m e = let a = modest_above number m in absurd (omega arith)
judged_inside D kernel from before (passed size w) h m e = go size w (judge_passed long_and_short D kernel from before size w h)
  where
    go : (size w : ℕ) → Passed long_and_short D kernel from size w → Inside kernel from (verdict 0 (8 * size))
    go size w (as_long room form listed legal) = record { size = inr refl; ends = room }
    go size w (as_short room form listed plain takes legal) = record { size = inl refl; ends = room }

pub decode_inside : (dictionary kernel : List ℕ) (place : ℕ) → number_of (decode_call dictionary kernel place) ≡ 0
    → Inside kernel (8 * place) (decode_call dictionary kernel place)
unfolding decode_call decode_at
decode_inside dictionary kernel place =
    let D = dictionary_of dictionary in
    by_cond Q (not (sized dictionary kernel)) _ _ (λ e. absurd (omega arith))
    (λ _. by_cond Q (not (in_range D)) _ _ (λ e. absurd (omega arith))
    (λ _. by_cond Q (leb (length kernel) (8 * place)) _ _ (λ e. absurd (omega arith))
    (λ e. judged_inside D kernel (8 * place) (leb-false (length kernel) (8 * place) e) (judge_at long_and_short D kernel (8 * place)) refl (judged_modest long_and_short D kernel (8 * place)))))
  where
    Q : Decoded → Type 0
    Q d = number_of (decoded_as d) ≡ 0 → Inside kernel (8 * place) (decoded_as d)

    by_cond : (R : Decoded → Type 0) (b : Bool) (x y : Decoded) → R x → (b ≡ false → R y) → R (cond b x y)
    by_cond R true x y h g = h
    by_cond R false x y h g = g refl

-- The part that is handed back is as many bytes as the answer counts, from the place on.
pub part_are : (dictionary kernel : List ℕ) (place : ℕ)
    → decode_part dictionary kernel place ≡ take (count_of (decode_call dictionary kernel place)) (drop (8 * place) kernel)
unfolding decode_call decode_part
part_are dictionary kernel place = go (decode_at dictionary kernel place)
  where
    go : (d : Decoded) → part_of kernel (8 * place) d ≡ take (count_of (decoded_as d)) (drop (8 * place) kernel)
    go (undecoded number offset) = refl
    go (decoded size w) = refl

-- A refusal counts nothing.
decode_counts : (dictionary kernel : List ℕ) (place : ℕ)
    → (number_of (decode_call dictionary kernel place) ≡ 0) ⊎ (count_of (decode_call dictionary kernel place) ≡ 0)
unfolding decode_call
decode_counts dictionary kernel place = go (decode_at dictionary kernel place)
  where
    go : (d : Decoded) → (number_of (decoded_as d) ≡ 0) ⊎ (count_of (decoded_as d) ≡ 0)
    go (undecoded number offset) = inr refl
    go (decoded size w) = inl refl

-- So many bytes are there.
pub part_length : (dictionary kernel : List ℕ) (place : ℕ) → length (decode_part dictionary kernel place) ≡ count_of (decode_call dictionary kernel place)
part_length dictionary kernel place =
    elim (decode_counts dictionary kernel place) [
      | inl e ↦ rw (part_are dictionary kernel place) (length_part (8 * place) _ kernel (decode_inside dictionary kernel place e).ends)
      | inr e ↦ rw (part_are dictionary kernel place, e)
    ]
  where
    length_part : (from n : ℕ) (l : List ℕ) → from + n ≤ length l → length (take n (drop from l)) ≡ n
    length_part from n l h = simp (length-take, length-drop) (omega arith)

-- ---- start

-- A start that answers 0 was lent a state of the right length.
pub start_fits : (mask flag0 flag1 : ℕ) (bytes : List ℕ) → number_of (start_call mask flag0 flag1 bytes).answer ≡ 0 → length bytes ≡ state_length
unfolding start_call
start_fits mask flag0 flag1 bytes = go (eqb (length bytes) state_length) refl
  where
    go : (b : Bool) → eqb (length bytes) state_length ≡ b
        → number_of (cond b (record { answer = verdict 0 0; output = state_bytes (start (fresh_store [] flag0 flag1) mask) }) (kept (refusal 1 0) bytes)).answer ≡ 0
        → length bytes ≡ state_length
    go true h e = eqb-true (length bytes) state_length h
    go false h e = absurd (omega arith)
