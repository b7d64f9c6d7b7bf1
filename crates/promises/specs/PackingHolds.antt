-- Demand 2 holds: the smallest short word, packing and unpacking. Assumes nothing.
use Rattle.std.specs.Prelude.{true, List, [], ◌∷◌, ◌++◌, ◌≡◌, refl, ℕ, ◌*◌, ◌≤◌, length, take, drop}
use Rattle.std.proofs.Math.Option.{Option, none, some}
use Rattle.std.proofs.Common.{sym, ap, ◌∙◌, arith, take_at}
use Rattle.std.proofs.lemmas.List.{length-map}
use Rattle.std.proofs.Math.Pow.{are_bytes}
use Rattle.paper.specs.Dictionary.{Dictionary, dictionary_of}
use Rattle.paper.specs.Shorten.{shorten}
use Rattle.paper.specs.Kernel.{Instr, Forms, long_and_short, long_only, good}
use Rattle.paper.specs.Packing.{Form, encode, relay}
use Rattle.paper.specs.Calls.{as_number, verdict, Written, accepted, pack_call, unpack_call, number_of, count_of}
use Rattle.laws.specs.Bytes.{bytes_append, bytes_bytes_of}
use Rattle.paper.specs.Program.{line_of, program}
use Rattle.laws.specs.Names.{relaid_by, long_form}
use Rattle.laws.specs.Items.{Item, item_bytes, all_bytes, instrs_from}
use Rattle.laws.specs.Packing.{kernel_of_lem, long_accepted, packed-items}
use Rattle.laws.proofs.PackingHolds.{packed-accepted, packed-program, unpacked-accepted, unpacked-program}
use Rattle.laws.specs.Relay.{items_of, relay_items}
use Rattle.laws.proofs.DemandsHold.{unpack_delivers}
use Rattle.contracts.specs.Contracts.{number_in, count_in, CheckPromise, PackPromise, UnpackPromise}
use Rattle.promises.specs.Results.{check_accepts, accepted_checks, Writes, pack_writes, unpack_writes, pack_fits, unpack_fits, pack_full, unpack_full}
use Rattle.promises.specs.Room.{relay_most, pack_most, unpack_most, all_long_accepted}
use Rattle.promises.specs.WordsHold.{shorten_least, shorten_never, expand_right, expand_back}
use Rattle.promises.specs.Promises.{result, Packed, Unpacked, Demand2}
use Rattle.promises.specs.OutcomesHold.{answers}

-- ---- packing

-- The instructions of a kernel, and the bytes that a relayout by `form` makes of them.
pub record Relaid (forms : Forms) (form : Form) (dictionary kernel bytes : List ℕ) : Type 0 where
  pub instrs : List Instr
  pub given : accepted forms dictionary kernel ≡ good instrs
  pub are : bytes ≡ relay form instrs

-- What was written, where the answer is 0.
relaid_of : (forms : Forms) (form : Form) (dictionary kernel out : List ℕ) (w : Written) → Writes form out (accepted forms dictionary kernel) w
    → (r : ℕ) (out' : List ℕ) → count_in r ≡ count_of w.answer → out' ≡ w.output → Relaid forms form dictionary kernel (result r out')
relaid_of forms form dictionary kernel out w v r out' c e =
    let bytes = relay form v.instrs in
    let count : count_in r ≡ length bytes = c ∙ ap (λ (x : Written). count_of x.answer) v.whole in
    record {
      instrs = v.instrs;
      given = v.are;
      are = ap (take (count_in r)) (e ∙ ap (λ (x : Written). x.output) v.whole) ∙ take_at bytes (drop (length bytes) out) (count_in r) (sym count);
    }

-- Items are laid out as bytes.
pub items_bytes : (items : List Item) → are_bytes (all_bytes items) ≡ true
unfolding all_bytes
items_bytes [] = refl
items_bytes (i ∷ items) = bytes_append (item_bytes i) (all_bytes items) (go i.short i.word) (items_bytes items)
  where
    go : (short : Option ℕ) (word : ℕ) → are_bytes (encode short word) ≡ true
    go none word = bytes_bytes_of 16 word
    go (some s) word = bytes_bytes_of 8 s

-- So a relayout is bytes.
pub relaid_bytes : {forms : Forms} {form : Form} {dictionary kernel bytes : List ℕ} → Relaid forms form dictionary kernel bytes → are_bytes bytes ≡ true
relaid_bytes {form = form} w = ap are_bytes (w.are ∙ relay_items form w.instrs) ∙ items_bytes (items_of form w.instrs)

module _ (dictionary kernel out : List ℕ) (right : are_bytes kernel ≡ true) (r : ℕ) (out' : List ℕ)
    (p : PackPromise dictionary kernel out r out') (zero : number_in r ≡ 0) where
  abbrev D : Dictionary
  D = dictionary_of dictionary

  pub pack_wrote : Relaid long_only (shorten D) dictionary kernel (result r out')
  pack_wrote =
      let t = answers.pack dictionary kernel out r out' p in
      relaid_of long_only (shorten D) dictionary kernel out (pack_call dictionary kernel out)
      (pack_writes dictionary kernel out (sym t.number ∙ zero)) r out' t.count p.1

  -- If spokeshaver_pack answers 0, then every instruction that can be shortened is, to its smallest short word, in order and without gaps.
  pub pack_right : Packed dictionary kernel (result r out')
  pack_right =
      let w = pack_wrote in
      let h = kernel_of_lem long_only dictionary kernel right w.instrs w.given in
      let i = packed-items D w.instrs h.sane in
      record {
        instrs = w.instrs;
        given = w.given;
        items = i.items;
        laid = w.are ∙ i.bytes;
        shortest = i.shortest;
        taken =
            ap (accepted long_and_short dictionary) w.are
            ∙ packed-accepted dictionary kernel right w.instrs w.given
            ∙ ap good (sym i.instrs);
        same = ap program i.instrs ∙ packed-program dictionary kernel right w.instrs w.given;
      }

  -- spokeshaver_check accepts what was packed, with the same answer as the kernel itself.
  pub pack_checked : (a b : ℕ) → CheckPromise dictionary kernel a → CheckPromise dictionary (result r out') b → (number_in b ≡ 0) × (a ≡ b)
  pack_checked a b c d =
      let g = pack_right in
      let h = kernel_of_lem long_only dictionary kernel right g.instrs g.given in
      let long = accepted_checks dictionary kernel g.instrs (long_accepted dictionary kernel g.instrs h) in
      let short = accepted_checks dictionary (result r out') (instrs_from 0 g.items) g.taken in
      let many : length (instrs_from 0 g.items) ≡ length g.instrs =
      sym (length-map (instrs_from 0 g.items) (line_of (instrs_from 0 g.items))) ∙ ap length g.same ∙ length-map g.instrs (line_of g.instrs) in (
        (answers.check dictionary (result r out') b d).number ∙ ap number_of short,
        c ∙ ap as_number (long ∙ ap (verdict 0) (sym many) ∙ sym short) ∙ sym d,
      )

  -- spokeshaver_unpack of what was packed gives the kernel's bytes back, if they have room; what lies behind them stays.
  pub unpack_back : (back : List ℕ) → length kernel ≤ length back → (u : ℕ) (back' : List ℕ) → UnpackPromise dictionary (result r out') back u back'
      → (number_in u ≡ 0) × (count_in u ≡ length kernel) × (back' ≡ kernel ++ drop (length kernel) back)
  unpack_back back room u back' q =
      let w = pack_wrote in
      let t = answers.unpack dictionary (result r out') back u back' q in
      let d = ap (λ (x : List ℕ). unpack_call dictionary x back) w.are ∙ unpack_delivers dictionary kernel right w.instrs w.given back room in
      (t.number ∙ ap (λ (x : Written). number_of x.answer) d, t.count ∙ ap (λ (x : Written). count_of x.answer) d, q.1 ∙ ap (λ (x : Written). x.output) d)

-- ---- unpacking

module _ (dictionary kernel out : List ℕ) (right : are_bytes kernel ≡ true) (r : ℕ) (out' : List ℕ)
    (p : UnpackPromise dictionary kernel out r out') (zero : number_in r ≡ 0) where
  pub unpack_wrote : Relaid long_and_short long_form dictionary kernel (result r out')
  unpack_wrote =
      let t = answers.unpack dictionary kernel out r out' p in
      relaid_of long_and_short long_form dictionary kernel out (unpack_call dictionary kernel out)
      (unpack_writes dictionary kernel out (sym t.number ∙ zero)) r out' t.count p.1

  -- If spokeshaver_unpack answers 0, then every word is long, in order and without gaps.
  pub unpack_right : Unpacked dictionary kernel (result r out')
  unpack_right =
      let w = unpack_wrote in
      record {
        instrs = w.instrs;
        given = w.given;
        longer = relaid_by long_form w.instrs;
        taken = ap (accepted long_only dictionary) w.are ∙ unpacked-accepted dictionary kernel right w.instrs w.given;
        same = unpacked-program dictionary kernel right w.instrs w.given;
      }

-- ---- what check counts

-- The instructions of a kernel that spokeshaver_check answers with 0, as many as it counts.
pub record Counted (dictionary kernel : List ℕ) (c : ℕ) : Type 0 where
  pub instrs : List Instr
  pub are : accepted long_and_short dictionary kernel ≡ good instrs
  pub count : count_in c ≡ length instrs

pub check_counts : (dictionary kernel : List ℕ) (c : ℕ) → CheckPromise dictionary kernel c → number_in c ≡ 0 → Counted dictionary kernel c
check_counts dictionary kernel c checked zero =
    let t = answers.check dictionary kernel c checked in
    let g = check_accepts dictionary kernel (sym t.number ∙ zero) in
    record {
      instrs = g.instrs;
      are = g.are;
      count = t.count ∙ ap count_of (accepted_checks dictionary kernel g.instrs g.are);
    }

-- ---- the demand

pub demand_2 : Demand2
demand_2 =
    record {
      least = λ dictionary word out bytes r out' p. shorten_least dictionary word out bytes r out' p;
      never = λ dictionary word out bytes r out' p. shorten_never dictionary word out bytes r out' p;
      expands = λ dictionary word out r out' p. expand_right dictionary word out r out' p;
      expands_back = λ dictionary word out bytes r out' p. expand_back dictionary word out bytes r out' p;
      packs = λ dictionary kernel out right c checked zero long room r out' p.
          let g = check_counts dictionary kernel c checked zero in
          let k = g.instrs in
          let count = g.count in
          let sixteen : length kernel ≡ 16 * length k = omega arith in
          let given = all_long_accepted dictionary kernel right k g.are sixteen in
          let most = pack_most dictionary kernel right k given in
          (answers.pack dictionary kernel out r out' p).number ∙ pack_fits dictionary kernel out k given (omega arith);
      pack_room = λ dictionary kernel out right room r out' p full.
          let f = pack_full dictionary kernel out (sym (answers.pack dictionary kernel out r out' p).number ∙ full) in
          let most = pack_most dictionary kernel right f.0 f.1 in
          omega (arith, f.2);
      packed = λ dictionary kernel out right r out' p zero. pack_right dictionary kernel out right r out' p zero;
      checked = λ dictionary kernel out right r out' p zero. pack_checked dictionary kernel out right r out' p zero;
      unpacks_back = λ dictionary kernel out right r out' p zero. unpack_back dictionary kernel out right r out' p zero;
      unpacks = λ dictionary kernel out c checked zero room r out' p.
          let g = check_counts dictionary kernel c checked zero in
          let k = g.instrs in
          let count = g.count in
          let most = relay_most long_form k in
          (answers.unpack dictionary kernel out r out' p).number ∙ unpack_fits dictionary kernel out k g.are (omega arith);
      unpack_room = λ dictionary kernel out right room r out' p full.
          let f = unpack_full dictionary kernel out (sym (answers.unpack dictionary kernel out r out' p).number ∙ full) in
          let most = unpack_most dictionary kernel right f.0 f.1 in
          omega (arith, f.2);
      unpacked = λ dictionary kernel out right r out' p zero. unpack_right dictionary kernel out right r out' p zero;
    }
