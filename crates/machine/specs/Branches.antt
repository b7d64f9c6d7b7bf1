-- The branches as the code makes them: the predicate is asked by a mask's bits, channels are masks by place. Assumes nothing.
use Rattle.std.specs.Prelude.{◌≡◌, refl, Bool, true, false, ◌&&◌, ◌||◌, ℕ, ◌-◌, ◌<◌, eqb, length, set}
use Rattle.std.proofs.Math.Path.{ap, sym}
use Rattle.std.proofs.Common.{◌∙◌, subst, arith, ext_get_or}
use Rattle.std.proofs.Math.Bool.{not, cond}
use mathlib.Core.List.{List}
use borrow.Author.Tests.{ne_eqb}
use Rattle.std.proofs.Math.ListN.{get_or}
use Rattle.paper.specs.Bits.{bit}
use Rattle.paper.specs.Operation.{Branch, jmpi, if, else, endif, while, break, cont}
use Rattle.paper.specs.Store.{Store}
use Rattle.paper.specs.Enable.{holds}
use Rattle.paper.specs.Machine.{Channel, off, State, Ways, is_awake, waits_at, park, each, someone, onward, fork, act}
use Rattle.lanes.specs.BitLaws.{bit_not, bit-ones}
use Rattle.lanes.specs.MaskLaws.{predicate_of, bit-predicate}
use Rattle.machine.specs.declared.branch.Forked.{Forked}
use Rattle.machine.specs.declared.ways.Ways as code
use Rattle.machine.specs.Together.{both_mask, either_mask, without_mask, bit_both, bit_either, both_mask_less, either_mask_less}
use Rattle.machine.specs.Numbered.{numbered, length-numbered, get_d_numbered, same_numbered, each-numbered, some_of, some_same}
use Rattle.machine.specs.Posts.{Posted, posted_park}

-- Where an instruction leads.
abbrev pub ways_is : code.Ways → Ways
ways_is ways = record { next = ways.next; jump = ways.jump; wait = ways.wait }

-- It leads to places below a bound.
pub record Within (bound : ℕ) (ways : Ways) : Type 0 where
  pub next : ways.next < bound
  pub jump : ways.jump < bound
  pub wait : ways.wait < bound

-- A branch, by a test that says of which channels the predicate holds.
unfoldable pub act_by : Branch → (ℕ → Bool) → Ways → Store → List Channel → State
act_by if f ways st cs = fork ways st (each (λ n. park (not (f n)) ways.wait) 0 cs)
act_by else f ways st cs = fork ways st (each (λ _. park true ways.wait) 0 cs)
act_by endif f ways st cs = fork ways st cs
act_by while f ways st cs =
    cond (someone (λ n c. is_awake c && f n) 0 cs)
    (record { store = st; channels = each (λ n. park (not (f n)) ways.next) 0 cs; place = ways.jump })
    (record { store = st; channels = cs; place = ways.next })
act_by break f ways st cs = fork ways st (each (λ n. park (f n) ways.wait) 0 cs)
act_by cont f ways st cs = fork ways st (each (λ n. park (f n) ways.wait) 0 cs)
act_by jmpi f ways st cs = record { store = st; channels = cs; place = cond (f 0) ways.jump ways.next }

-- It is the paper's branch, by the paper's predicate.
pub act_by_lem : (b : Branch) (w : ℕ) (ways : Ways) (st : Store) (cs : List Channel) → act b w ways st cs ≡ act_by b (holds w st) ways st cs
unfolding act act_by
act_by_lem if w ways st cs = refl
act_by_lem else w ways st cs = refl
act_by_lem endif w ways st cs = refl
act_by_lem while w ways st cs = refl
act_by_lem break w ways st cs = refl
act_by_lem cont w ways st cs = refl
act_by_lem jmpi w ways st cs = refl

-- Sixteen channels are those that their numbers have.
sixteen_numbered : (cs : List Channel) → length cs ≡ 16 → numbered (λ n. get_or cs n off) 0 16 ≡ cs
sixteen_numbered cs e =
    ext_get_or off (numbered (λ n. get_or cs n off) 0 16) cs (length-numbered (λ n. get_or cs n off) 0 16 ∙ sym e)
    (λ k h. get_d_numbered (λ n. get_or cs n off) k (omega (arith, length-numbered (λ n. get_or cs n off) 0 16)))

module _ (h : ℕ → Channel) (f g : ℕ → Bool) (e : (k : ℕ) → k < 16 → f k ≡ g k) where
  -- Tests that agree on 16 channels have the same ones wait.
  each_same : (place : ℕ) → each (λ n. park (f n) place) 0 (numbered h 0 16) ≡ each (λ n. park (g n) place) 0 (numbered h 0 16)
  each_same place =
      each-numbered (λ n. park (f n) place) h 0 16
      ∙ same_numbered (λ k. park (f k) place (h k)) (λ k. park (g k) place (h k)) (λ k q. ap (λ (b : Bool). park b place (h k)) (e k q))
      ∙ sym (each-numbered (λ n. park (g n) place) h 0 16)

  -- So is it told whether some awake channel passes.
  someone_same : someone (λ n ch. is_awake ch && f n) 0 (numbered h 0 16) ≡ someone (λ n ch. is_awake ch && g n) 0 (numbered h 0 16)
  someone_same = some_same (λ n ch. is_awake ch && f n) (λ n ch. is_awake ch && g n) h (λ k q. ap (λ (b : Bool). is_awake (h k) && b) (e k q))

-- So branches go alike.
same_acts : (h : ℕ → Channel) (f g : ℕ → Bool) (e : (k : ℕ) → k < 16 → f k ≡ g k) (b : Branch) (ways : Ways) (st : Store)
    → act_by b f ways st (numbered h 0 16) ≡ act_by b g ways st (numbered h 0 16)
unfolding act_by
same_acts h f g e if ways st =
    ap (fork ways st) (each_same h (λ k. not (f k)) (λ k. not (g k)) (λ k q. ap not (e k q)) ways.wait)
same_acts h f g e else ways st = refl
same_acts h f g e endif ways st = refl
same_acts h f g e while ways st =
    rw (someone_same h f g e, each_same h (λ k. not (f k)) (λ k. not (g k)) (λ k q. ap not (e k q)) ways.next)
same_acts h f g e break ways st = ap (fork ways st) (each_same h f g e ways.wait)
same_acts h f g e cont ways st = ap (fork ways st) (each_same h f g e ways.wait)
same_acts h f g e jmpi ways st = rw (e 0 (omega arith))

-- By the mask of the predicate a branch is the paper's.
pub act_mask : (cs : List Channel) → length cs ≡ 16 → (b : Branch) (w : ℕ) (ways : Ways) (st : Store)
    → act b w ways st cs ≡ act_by b (bit (predicate_of w st)) ways st cs
act_mask cs l b w ways st =
    act_by_lem b w ways st cs
    ∙ subst (λ (ds : List Channel). act_by b (holds w st) ways st ds ≡ act_by b (bit (predicate_of w st)) ways st ds) (sixteen_numbered cs l)
    (same_acts (λ n. get_or cs n off) (holds w st) (bit (predicate_of w st)) (λ k q. sym (bit-predicate w st k q)) b ways st)

-- A branch leaves the store as it was.
pub act_store : (b : Branch) (f : ℕ → Bool) (ways : Ways) (st : Store) (cs : List Channel) → (act_by b f ways st cs).store ≡ st
unfolding act_by
act_store if f ways st cs = refl
act_store else f ways st cs = refl
act_store endif f ways st cs = refl
act_store while f ways st cs = go (someone (λ n c. is_awake c && f n) 0 cs)
  where
    go : (t : Bool)
        → (cond {A = State} t (record { store = st; channels = each (λ n. park (not (f n)) ways.next) 0 cs; place = ways.jump }) (record { store = st; channels = cs; place = ways.next })).store ≡ st
    go true = refl
    go false = refl
act_store break f ways st cs = refl
act_store cont f ways st cs = refl
act_store jmpi f ways st cs = refl

-- ---- what the masks tell of the channels

module _ (up : ℕ) (here : List ℕ) (cs : List Channel) (s : Posted up here cs) where
  -- Whether some channel is awake or waits at the next place.
  pub posted-onward : (ways : Ways) → onward ways cs ≡ cond (not (eqb (either_mask up (get_or here ways.next 0)) 0)) ways.next ways.jump
  unfolding onward
  posted-onward ways =
      ap (λ (b : Bool). cond b ways.next ways.jump)
      (subst (λ (ds : List Channel). someone (λ _ c. is_awake c || waits_at ways.next c) 0 ds ≡ not (eqb (either_mask up (get_or here ways.next 0)) 0))
      (sixteen_numbered cs s.sixteen)
      (some_of (λ _ c. is_awake c || waits_at ways.next c) (λ n. get_or cs n off) (either_mask up (get_or here ways.next 0)) (either_mask_less up (get_or here ways.next 0))
      (λ k q. rw (s.awakes k q, s.waits k q ways.next) (sym (bit_either up (get_or here ways.next 0) k q)))))

  -- Whether some awake channel is in a mask.
  pub posted-someone : (mask : ℕ) → someone (λ n c. is_awake c && bit mask n) 0 cs ≡ not (eqb (both_mask up mask) 0)
  posted-someone mask =
      subst (λ (ds : List Channel). someone (λ n c. is_awake c && bit mask n) 0 ds ≡ not (eqb (both_mask up mask) 0)) (sixteen_numbered cs s.sixteen)
      (some_of (λ n c. is_awake c && bit mask n) (λ n. get_or cs n off) (both_mask up mask) (both_mask_less up mask)
      (λ k q. rw (s.awakes k q) (sym (bit_both up mask k q))))

-- ---- the answers that the code makes

-- The masks and the place after a branch are those of the state that the paper makes.
pub record Acts (r : Forked) (here : List ℕ) (t : State) : Type 0 where
  pub posted : Posted r.awake here t.channels
  pub place : r.place ≡ t.place

-- A branch, by the mask of the channels whose predicate holds, from any channels that the masks tell.
abbrev pub ActsBy : Branch → ℕ → Ways → ℕ → List ℕ → Forked → List ℕ → Type 0
ActsBy b predicate ways up here r after =
    (st : Store) (cs : List Channel) → Posted up here cs → Acts r after (act_by b (bit predicate) ways st cs)

-- The awake channels of a mask wait where the branch says, and then the kernel goes on, from any channels that the masks tell.
abbrev pub ParksBy : ℕ → Ways → ℕ → List ℕ → Forked → List ℕ → Type 0
ParksBy mask ways up here r after =
    (test : ℕ → Bool) → ((n : ℕ) → n < 16 → bit mask n ≡ test n) → (st : Store) (cs : List Channel) → Posted up here cs
    → Acts r after (fork ways st (each (λ n. park (test n) ways.wait) 0 cs))

module _ (ways : Ways) (up : ℕ) (here : List ℕ) where
  -- As the code makes it.
  pub parks_onward : (mask : ℕ) → ways.wait < length here → (r : Forked) (after : List ℕ) → r.awake ≡ without_mask up mask
      → after ≡ set here ways.wait (either_mask (get_or here ways.wait 0) (both_mask up mask))
      → r.place ≡ cond (not (eqb (either_mask r.awake (get_or after ways.next 0)) 0)) ways.next ways.jump
      → ParksBy mask ways up here r after
  parks_onward mask h r after ea eh ep test e st cs s =
      let posted : Posted r.awake after (each (λ n. park (test n) ways.wait) 0 cs) = rw (ea, eh) (posted_park up here cs s mask ways.wait test e h) in
      record { posted = posted; place = ep ∙ sym (posted-onward r.awake after (each (λ n. park (test n) ways.wait) 0 cs) posted ways) }

  module _ (predicate : ℕ) (r : Forked) (after : List ℕ) where
    pub acts_if : predicate < 65536 → ParksBy (65535 - predicate) ways up here r after → ActsBy if predicate ways up here r after
    unfolding act_by
    acts_if l parks = parks (λ n. not (bit predicate n)) (λ n q. bit_not predicate 16 n l q)

    pub acts_else : ParksBy 65535 ways up here r after → ActsBy else predicate ways up here r after
    unfolding act_by
    acts_else parks = parks (λ _. true) (λ n q. bit-ones 16 n q)

    pub acts_break : ParksBy predicate ways up here r after → ActsBy break predicate ways up here r after
    unfolding act_by
    acts_break parks = parks (bit predicate) (λ n q. refl)

    pub acts_cont_parked : ParksBy predicate ways up here r after → ActsBy cont predicate ways up here r after
    unfolding act_by
    acts_cont_parked parks = parks (bit predicate) (λ n q. refl)

  -- cont acts as break does.
  pub acts_cont : (predicate : ℕ) (r : Forked) (after : List ℕ) → ActsBy break predicate ways up here r after → ActsBy cont predicate ways up here r after
  unfolding act_by
  acts_cont predicate r after a = a

  -- None waits, and the kernel goes on.
  pub acts_endif : (predicate : ℕ) (r : Forked) → r.awake ≡ up
      → r.place ≡ cond (not (eqb (either_mask up (get_or here ways.next 0)) 0)) ways.next ways.jump
      → ActsBy endif predicate ways up here r here
  unfolding act_by
  acts_endif predicate r ea ep st cs s = record { posted = rw ea s; place = ep ∙ sym (posted-onward up here cs s ways) }

  pub acts_jmpi : (predicate : ℕ) (r : Forked) → r.awake ≡ up → r.place ≡ cond (bit predicate 0) ways.jump ways.next
      → ActsBy jmpi predicate ways up here r here
  unfolding act_by
  acts_jmpi predicate r ea ep st cs s = record { posted = rw ea s; place = ep }

  -- while: no awake channel's predicate holds,
  pub acts_leave : (predicate : ℕ) → both_mask up predicate ≡ 0 → (r : Forked) → r.awake ≡ up → r.place ≡ ways.next
      → ActsBy while predicate ways up here r here
  unfolding act_by
  acts_leave predicate z r ea ep st cs s = rw (posted-someone up here cs s predicate, z) (record { posted = rw ea s; place = ep })

  -- or some does.
  pub acts_repeat : (predicate : ℕ) → predicate < 65536 → (both_mask up predicate ≡ 0 → ⊥) → ways.next < length here
      → (r : Forked) (after : List ℕ) → r.awake ≡ without_mask up (65535 - predicate)
      → after ≡ set here ways.next (either_mask (get_or here ways.next 0) (both_mask up (65535 - predicate))) → r.place ≡ ways.jump
      → ActsBy while predicate ways up here r after
  unfolding act_by
  acts_repeat predicate l z h r after ea eh ep st cs s =
      rw (posted-someone up here cs s predicate, ne_eqb _ _ z)
      (record {
        posted = rw (ea, eh) (posted_park up here cs s (65535 - predicate) ways.next (λ n. not (bit predicate n)) (λ n q. bit_not predicate 16 n l q) h);
        place = ep;
      })
