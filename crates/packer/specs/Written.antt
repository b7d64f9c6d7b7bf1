-- What the second pass has written: the bytes of the instructions that it has passed, and behind them what the output held. Assumes nothing.
use Rattle.std.specs.Prelude.{List, ◌++◌, ◌≡◌, ℕ, ◌+◌, ◌*◌, ◌/◌, ◌<◌, ◌≤◌, take, drop}
use Rattle.std.proofs.Common.{append_assoc, ap, ◌∙◌, arith, length-append, length-drop, drop-drop}
use Rattle.std.proofs.Math.Option.{Option}
use Rattle.std.proofs.Math.Path.{sym}
use Rattle.std.proofs.Math.ListN.{length}
use Rattle.std.proofs.lemmas.List.{length-map}
use Rattle.std.proofs.Math.Seq.{take-append_seam, drop-append-add, take-length}
use Rattle.paper.specs.Dictionary.{dictionary_of}
use Rattle.paper.specs.Operation.{operation}
use Rattle.paper.specs.Kernel.{Instr, Forms}
use Rattle.paper.specs.Jump.{distances}
use Rattle.paper.specs.Packing.{index, Form, piece, places_taken, start_of, aimed, rewritten, encode, lay_from, relay}
use Rattle.laws.specs.Names.{pieces_of, new_end}
use Rattle.laws.specs.Places.{start_zero}
use Rattle.kernel.specs.Standing.{Fetches}
use Rattle.kernel.specs.Jumps.{instr_of}
use Rattle.kernel.specs.Accepting.{AcceptedKernel}
use Rattle.packer.specs.Pieces.{lay_length, lay_next}
use Rattle.packer.specs.Stages.{Placed, new_places, Stage, stage_end, stage_piece, next_index, end_to, targets_are}

-- The bytes of the instructions before the one that starts at byte `from`.
abbrev pub before : Form → List Instr → ℕ → List ℕ
before form k from = lay_from k (pieces_of form k) 0 (take (index k (from / 8)) (pieces_of form k))

-- The output, once they are written.
abbrev pub Holds : Form → List Instr → List ℕ → ℕ → ℕ → List ℕ → Type 0
Holds form k out from to now = now ≡ before form k from ++ drop (8 * to) out

-- Bytes stored right behind the n that are done.
behind : (done bytes out : List ℕ) (n m : ℕ) → length done ≡ n
    → take n (done ++ drop n out) ++ (bytes ++ drop (n + m) (done ++ drop n out)) ≡ (done ++ bytes) ++ drop (n + m) out
behind done bytes out n m e =
    rw (← e) (
    rw (take-append_seam done (drop (length done) out), drop-append-add done (drop (length done) out) m, drop-drop m (length done) out)
    (sym (append_assoc done bytes (drop (length done + m) out)))
    )

module _ (forms : Forms) (dictionary kernel : List ℕ) (k : List Instr) (h : AcceptedKernel forms dictionary kernel k) (form : Form) (out : List ℕ) where
  pub holds_start : Holds form k out 0 0 out
  unfolding lay_from
  holds_start = rw (start_zero 0 k h.sound.laid)

  module _ (from to : ℕ) (s : Stage form k from to) (now : List ℕ) (holds : Holds form k out from to now) where
    before-length : length (before form k from) ≡ 8 * to
    before-length = omega (arith, lay_length k (pieces_of form k) 0 (pieces_of form k) (index k (from / 8)), s.to_is)

    -- The output is as long as it was.
    pub holds_length : 8 * to ≤ length out → length now ≡ length out
    holds_length room =
        ap length holds ∙ length-append (before form k from) (drop (8 * to) out) ∙ rw (before-length, length-drop (8 * to) out) (omega arith)

    -- At the end it holds the whole result.
    pub holds_end : length kernel ≤ from → now ≡ relay form k ++ drop (8 * new_end form k) out
    unfolding relay
    holds_end over =
        let all : index k (from / 8) ≡ length (pieces_of form k) = stage_end forms dictionary kernel k h form from to s over ∙ sym (length-map k (piece form)) in
        let to_is : to ≡ new_end form k = end_to forms dictionary kernel k h form from to s over in
        holds ∙ rw (all, to_is, take-length (pieces_of form k))

    module _ (inside : from < length kernel) (size w : ℕ) (f : Fetches (dictionary_of dictionary) kernel from size w) where
      -- The word that is written, its distances looked up in the stored places.
      abbrev stored : List ℕ → ℕ
      stored news = aimed (distances (operation w)) w to (to + places_taken (form w)) (new_places news (instr_of (from / 8) size w))

      stored_is : (news : List ℕ) → Placed form k news
          → stored news ≡ rewritten k (pieces_of form k) (start_of 0 (pieces_of form k) (index k (from / 8))) (piece form (instr_of (from / 8) size w))
      stored_is news placed = rw (targets_are forms dictionary kernel k h form from to s inside size w f news placed, ← s.to_is)

      -- One instruction more.
      one_more : (news after : List ℕ) → Placed form k news
          → after ≡ take (8 * to) now ++ (encode (form w) (stored news) ++ drop (8 * to + 8 * places_taken (form w)) now)
          → Holds form k out (from + 8 * size) (to + places_taken (form w)) after
      one_more news after placed e =
          let next : before form k (from + 8 * size) ≡ before form k from ++ encode (form w) (stored news) =
          ap (λ (j : ℕ). lay_from k (pieces_of form k) 0 (take j (pieces_of form k))) (next_index forms dictionary kernel k h form from to s inside size w f)
          ∙ lay_next k (pieces_of form k) 0 (pieces_of form k) (index k (from / 8)) (piece form (instr_of (from / 8) size w)) (stage_piece forms dictionary kernel k h form from to s inside size w f)
          ∙ ap (λ (x : ℕ). before form k from ++ encode (form w) x) (sym (stored_is news placed)) in
          let far : 8 * (to + places_taken (form w)) ≡ 8 * to + 8 * places_taken (form w) = omega arith in
          rw (next, far) (
          e ∙ ap (λ (l : List ℕ). take (8 * to) l ++ (encode (form w) (stored news) ++ drop (8 * to + 8 * places_taken (form w)) l)) holds
          ∙ behind (before form k from) (encode (form w) (stored news)) out (8 * to) (8 * places_taken (form w)) before-length
          )

      -- As the code writes it: the word's form is o, which takes `taken` places, and v is the word with its distances looked up.
      pub holds_next : (o : Option ℕ) (taken v : ℕ) (news after : List ℕ) → Placed form k news → o ≡ form w → taken ≡ places_taken o
          → v ≡ aimed (distances (operation w)) w to (to + taken) (new_places news (instr_of (from / 8) size w))
          → after ≡ take (8 * to) now ++ (encode o v ++ drop (8 * to + 8 * places_taken o) now)
          → Holds form k out (from + 8 * size) (to + taken) after
      holds_next o taken v news after placed e f g a =
          let t : taken ≡ places_taken (form w) = f ∙ ap places_taken e in
          let x : v ≡ stored news = rw t at g in
          rw t (one_more news after placed (rw (e, x) at a))
