-- What appending leaves: the log of the whole records and the new one, and every byte past its end as it was; and how many channels are awake. Assumes nothing.
use Rattle.std.specs.Prelude.{◌≡◌, Bool, true, false, not, cond, ◌&&◌, leb}
use Rattle.std.proofs.Math.Path.{refl, ap, sym}
use Rattle.std.proofs.Common.{◌∙◌, ⊎_elim, add-zero, length-drop, take-append-drop, length-take-le}
use mathlib.Core.List.{List, [], ◌∷◌, ◌++◌, append_assoc}
use Prim.Native.Nat.{ℕ, zero, suc, ◌+◌, ◌≤◌, ◌<◌}
use native.Mathlib.Omega.{arith}
use Rattle.std.proofs.Math.Dec.{eqb}
use Rattle.paper.specs.Limits.{state_length}
use Rattle.std.proofs.Math.ListN.{length, take, drop, length-append}
use Rattle.std.proofs.Math.Seq.{take-append_seam, drop-append_seam}
use borrow.Author.Tests.{leb-true, le-leb}
use Rattle.paper.specs.Calls.{verdict, refusal, Written, kept}
use Rattle.paper.specs.Enable.{digit, how_many}
use Rattle.paper.specs.Machine.{off, awake, waiting, is_awake}
use Rattle.paper.specs.State.{awake_bit, waiting_bit, channel_in, one_of_three, all_three, channels_in, waiting_place}
use Rattle.paper.specs.Log.{Entry, entry_legal, record_text, log_text, Reading, readable, unreadable, reading, log_sized, added_at, appended_to, appended, log_append_call, entry_of, log_run_call, awake_count, awake_among}
use Rattle.laws.specs.Calls.{Confined}
use Rattle.laws.specs.Truth.{both_true}
use Rattle.text.specs.Decimals.{below}
use Rattle.run_log.specs.Records.{Legal, is-legal}
use Rattle.run_log.specs.Logs.{CutAt}
use Rattle.run_log.specs.Beginnings.{log_more, cut_reading}

-- ---- nothing else changes

no_change : (number : ℕ) (log : List ℕ) → Confined log (kept (refusal number 0) log)
no_change number log = record { refused = λ _. refl; fits = omega arith; rest = refl; same = refl }

by_choice : (log : List ℕ) (b : Bool) (x y : Written) → (b ≡ true → Confined log x) → (b ≡ false → Confined log y) → Confined log (cond b x y)
by_choice log true x y h g = h refl
by_choice log false x y h g = g refl

-- A text that takes the place of as many bytes.
put_inside : (log text : List ℕ) (at : ℕ) → at + length text ≤ length log
    → Confined log (record { answer = verdict 0 (at + length text); output = take at log ++ (text ++ drop (at + length text) log) })
put_inside log text at h =
    let n : length (take at log) ≡ at = length-take-le at log (omega arith) in
    let m : at + length text ≡ length (take at log ++ text) = omega (arith, length-append (take at log) text) in
    record {
      refused = λ no. absurd (no refl);
      fits = h;
      rest =
          ap (drop (at + length text)) (sym (append_assoc (take at log) text (drop (at + length text) log)))
          ∙ (ap (λ (k : ℕ). drop k (take at log ++ text ++ drop (at + length text) log)) m ∙ drop-append_seam (take at log ++ text) (drop (at + length text) log));
      same = simp (length-append, length-drop) (omega arith);
    }

module _ (log : List ℕ) (count : ℕ) where
  added_inside : (at : ℕ) (text : List ℕ) → count ≤ length log → Confined log (added_at log count at text)
  unfolding added_at
  added_inside at text h =
      by_choice log (leb (at + length text) (length log)) _ _ (λ e. put_inside log text at (leb-true _ _ e))
      (λ _. record { refused = λ _. refl; fits = h; rest = refl; same = refl })

  appended_inside : (e : Entry) → count ≤ length log → Confined log (appended log count e)
  unfolding appended
  appended_inside e h = by_choice log (entry_legal e) _ _ (λ _. go (reading (take count log))) (λ _. no_change 32 log)
    where
      go : (q : Reading) → Confined log (appended_to log count e q)
      go (readable runs bytes) = added_inside bytes (record_text runs e) h
      go unreadable = no_change 32 log

  sized_most : log_sized log count ≡ true → count ≤ length log
  unfolding log_sized
  sized_most h = leb-true count (length log) (both_true (leb count (length log)) _ h).0

  pub append_confined : (e : Entry) → Confined log (log_append_call log count e)
  unfolding log_append_call
  append_confined e =
      by_choice log (log_sized log count) _ _ (λ h. appended_inside e (sized_most h)) (λ _. no_change 1 log)

  pub run_confined : (answer : ℕ) (state : List ℕ) → Confined log (log_run_call log count answer state)
  unfolding log_run_call
  run_confined answer state =
      by_choice log (log_sized log count && eqb (length state) state_length) _ _
      (λ h. appended_inside (entry_of answer state) (sized_most (both_true (log_sized log count) (eqb (length state) state_length) h).0)) (λ _. no_change 1 log)

  -- ---- the log goes on

  -- The whole records of a log that is cut off are its first bytes.
  pub whole_first : (c : CutAt (take count log) 0 0) → take (length (log_text 0 c.entries)) log ≡ log_text 0 c.entries
  whole_first c =
      let l : List ℕ = log_text 0 c.entries in
      let t : List ℕ = take c.bytes (record_text (0 + length c.entries) c.next) in
      ap (take (length l)) (sym (take-append-drop count log) ∙ (ap (λ (x : List ℕ). x ++ drop count log) c.is ∙ append_assoc l t (drop count log)))
      ∙ take-append_seam l (t ++ drop count log)

  -- Where the record fits, the log is then that of the whole records and the new one; where it does not, 14.
  module _ (c : CutAt (take count log) 0 0) (d : Entry) (sized : log_sized log count ≡ true) (legal : Legal d) where
    abbrev after : List ℕ
    after = log_text 0 (c.entries ++ (d ∷ []))

    after_is : after ≡ log_text 0 c.entries ++ record_text (length c.entries) d
    after_is = log_more 0 c.entries d ∙ ap (λ (n : ℕ). log_text 0 c.entries ++ record_text n d) (let z : 0 + length c.entries ≡ length c.entries = omega arith in z)

    is_added : log_append_call log count d ≡ added_at log count (length (log_text 0 c.entries)) (record_text (length c.entries) d)
    unfolding log_append_call appended
    is_added = rw (sized, is-legal d legal, cut_reading (take count log) c)

    pub goes_on : length after ≤ length log
        → ((log_append_call log count d).answer ≡ verdict 0 (length after)) × (take (length after) (log_append_call log count d).output ≡ after)
    unfolding added_at
    goes_on h =
        let l : List ℕ = log_text 0 c.entries in
        let t : List ℕ = record_text (length c.entries) d in
        let n : length after ≡ length l + length t = ap length after_is ∙ length-append l t in
        let k : length l + length t ≤ length log = omega arith in
        let w : log_append_call log count d ≡ record { answer = verdict 0 (length l + length t); output = take (length l) log ++ (t ++ drop (length l + length t) log) } =
        is_added ∙ rw (le-leb (length l + length t) (length log) k) in (
          ap (λ (x : Written). x.answer) w ∙ ap (verdict 0) (sym n),
          ap (λ (x : Written). take (length after) x.output) w
              ∙ (ap (λ (x : List ℕ). take (length after) (x ++ (t ++ drop (length l + length t) log))) (whole_first c)
              ∙ (ap (take (length after)) (sym (append_assoc l t (drop (length l + length t) log)))
              ∙ (ap (λ (x : List ℕ). take (length x) (l ++ t ++ drop (length l + length t) log)) after_is ∙ (take-append_seam (l ++ t) (drop (length l + length t) log) ∙ sym after_is)))),
        )

-- ---- how many channels are awake

shift : (m k : ℕ) → m + suc k ≡ suc m + k
shift m k = omega arith

from_zero : (k : ℕ) → k ≡ 0 + k
from_zero k = omega arith

how_many_none : (f : ℕ → Bool) → how_many f 0 ≡ 0
unfolding how_many
how_many_none f = refl

-- Of a state whose every channel is awake, waiting or off, a channel is awake exactly if its bit of the mask is set.
awake_one : (state : List ℕ) (n : ℕ) → one_of_three state n ≡ true → is_awake (channel_in state n) ≡ awake_bit state n
unfolding one_of_three channel_in
awake_one state n h = go (waiting_bit state n) (awake_bit state n) h
  where
    go : (w a : Bool) → cond w (not a) (eqb (waiting_place state n) 0) ≡ true → is_awake (cond w (waiting (waiting_place state n)) (cond a awake off)) ≡ a
    go true true h = absurd (let z : ◌≡◌ {A = ℕ} 0 1 = cc in omega arith)
    go true false h = refl
    go false true h = refl
    go false false h = refl

three_each : (state : List ℕ) (k n : ℕ) → all_three state k ≡ true → n < k → one_of_three state n ≡ true
unfolding all_three
three_each state zero n h l = absurd (omega arith)
three_each state (suc k) n h l =
    let b = both_true (all_three state k) (one_of_three state k) h in
    ⊎_elim
    (λ m. three_each state k n b.0 m)
    (λ m. let e : n ≡ k = omega arith in ap (one_of_three state) e ∙ b.1)
    (below n k)

first_last : (f : ℕ → Bool) (n : ℕ) → how_many f (suc n) ≡ digit (f 0) + how_many (λ k. f (suc k)) n
unfolding how_many
first_last f zero = refl
first_last f (suc n) = let r = first_last f n in omega arith

counted_from : (state : List ℕ) (m c : ℕ) → ((n : ℕ) → n < m + c → one_of_three state n ≡ true)
    → how_many (λ k. awake_bit state (m + k)) c ≡ awake_among (channels_in state m c)
unfolding channels_in awake_among
counted_from state m zero h = how_many_none (λ k. awake_bit state (m + k))
counted_from state m (suc c) h =
    let w : is_awake (channel_in state m) ≡ awake_bit state (m + 0) = awake_one state m (h m (omega arith)) ∙ ap (awake_bit state) (sym (add-zero m)) in
    first_last (λ k. awake_bit state (m + k)) c
    ∙ (ap (λ (f : ℕ → Bool). digit (awake_bit state (m + 0)) + how_many f c) (λ i k. awake_bit state (shift m k i))
    ∙ (ap (λ (n : ℕ). digit (awake_bit state (m + 0)) + n) (counted_from state (suc m) c (λ n l. h n (omega arith)))
    ∙ ap (λ (b : Bool). cond b 1 0 + awake_among (channels_in state (suc m) c)) (sym w)))

-- The ones of the awake mask are the awake channels of the state that the bytes write.
pub awake_counted : (state : List ℕ) → all_three state 16 ≡ true → awake_count state ≡ awake_among (channels_in state 0 16)
unfolding awake_count
awake_counted state h =
    ap (λ (f : ℕ → Bool). how_many f 16) (λ i k. awake_bit state (from_zero k i)) ∙ counted_from state 0 16 (λ n l. three_each state 16 n h l)
