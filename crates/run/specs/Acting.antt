-- How a step is made, in the paper's terms. Assumes nothing.
use Rattle.std.specs.Prelude.{Option, Some, None, Bool, true, ◌||◌, ◌≡◌, refl, ℕ}
use Rattle.std.proofs.Math.Bool.{false}
use Rattle.std.proofs.lemmas.Bool.{false≢true}
use mathlib.Core.List.{List, map}
use Rattle.std.proofs.Math.Path.{sym, ap}
use Rattle.std.proofs.Common.{ap₂, ◌∙◌, subst, eq-eqb}
use Rattle.paper.specs.Word.{src0, dst_type, dst_is_a0, src_is_a0}
use Rattle.paper.specs.Operation.{Plain, mov, Operation, plain, nop, branch, unlisted, operation}
use Rattle.paper.specs.Store.{Store}
use Rattle.paper.specs.Value.{type_f}
use Rattle.paper.specs.Legal.{uses_a0, dst_is_float, uses_floats, refusal_of}
use Rattle.paper.specs.Address.{settled, address_broken, address_stops}
use Rattle.paper.specs.Effect.{plain_effect, effect}
use Rattle.paper.specs.Machine.{Channel, State, Ways, is_awake, wake, pass, perform, step_at}
use Rattle.laws.specs.Regions.{legal_plain, or-false}
use Rattle.laws.specs.Settled.{settled_named, operation-settled}
use Rattle.laws.specs.SettledLegal.{settled_legal}
use Rattle.words.specs.declared.operation.Plain as words
use Rattle.words.specs.Operations.{plain_is}
use Rattle.words.specs.Words.{to_word}
use Rattle.words.specs.declared.bytes.Word.{Word}
use Rattle.words.specs.Usual.{Usual, usual_named}
use Rattle.execute.specs.Readable.{Acting, Counting, Reckoning, OnRegisters, effect-acting, a0_told, a0_moves, a0-whole, float_destination}
use Rattle.address.specs.Settling.{Says, unaddressed}
use Rattle.run.specs.declared.acting.Act.{Act}
use Rattle.run.specs.declared.acting.Act.TheVariants.{Steps, Moves, Reckons, Broken}

-- Word v acts as w does, a0 being as it stands.
abbrev pub SameStep : List ℕ → ℕ → ℕ → Type 0
SameStep addresses w v = (here : ℕ) (ways : Ways) (t : State) → t.store.addresses ≡ addresses → step_at v here ways t ≡ step_at w here ways t

-- With a0 as it stands, no address of w is broken, and word v, which acts on registers alone or is a mov of a0 or an operation on floats, acts as w does; or an
-- address is.
abbrev pub ActsFor : Act → List ℕ → ℕ → Type 0
ActsFor (Steps v) addresses w = (address_stops addresses w ≡ false) × OnRegisters (to_word v) × SameStep addresses w (to_word v)
ActsFor (Moves v) addresses w =
    (address_stops addresses w ≡ false) × ((operation (to_word v) ≡ plain mov) × Counting mov (to_word v)) × SameStep addresses w (to_word v)
ActsFor (Reckons q v) addresses w =
    (address_stops addresses w ≡ false) × ((operation (to_word v) ≡ plain (plain_is q)) × Reckoning (plain_is q) (to_word v)) × SameStep addresses w (to_word v)
ActsFor Broken addresses w = address_stops addresses w ≡ true

-- A settled word of operation p steps, or moves where an operand is a0, or works on floats where its destination is one.
abbrev pub TellsOf : words.Plain → Act → Option Word → Type 0
TellsOf p (Steps v) s = (s ≡ Some v) × ((dst_is_a0 (to_word v) || src_is_a0 src0 (to_word v)) ≡ false) × (dst_is_float (to_word v) ≡ false)
TellsOf p (Moves v) s = (s ≡ Some v) × ((dst_is_a0 (to_word v) || src_is_a0 src0 (to_word v)) ≡ true)
TellsOf p (Reckons q v) s = (s ≡ Some v) × (q ≡ p) × (dst_is_float (to_word v) ≡ true)
TellsOf p Broken s = s ≡ None

-- Whether an operand is a float is told by the destination.
floats_told : (p : Plain) (w : ℕ) → Acting p w → uses_floats p w ≡ dst_is_float w
unfolding uses_floats
floats_told p w l = go (uses_floats p w) refl
  where
    go : (t : Bool) → uses_floats p w ≡ t → uses_floats p w ≡ dst_is_float w
    go true e = e ∙ sym (eq-eqb (dst_type w) type_f (float_destination p w (record { acting = l; some = e })))
    go false e = e ∙ sym (or-false (dst_is_float w) _ e).0

plain_same : (p q : Plain) → plain p ≡ plain q → p ≡ q
plain_same p q e = cc

module _ (addresses : List ℕ) (w : ℕ) where
  -- What stops is told by the operation.
  stops_told : (o : Operation) → operation w ≡ o
      → address_stops addresses w ≡ elim o [ plain p ↦ address_broken p addresses w | nop ↦ false | branch b ↦ false | unlisted ↦ false ]
  unfolding address_stops
  stops_told o e = ap (λ (q : Operation). elim q [ plain p ↦ address_broken p addresses w | nop ↦ false | branch b ↦ false | unlisted ↦ false ]) e

  module _ (p : Plain) (o : operation w ≡ plain p) (legal : refusal_of w ≡ 0) where
    pub settles_broken : address_broken p addresses w ≡ true → address_stops addresses w ≡ true
    settles_broken b = stops_told (plain p) o ∙ b

    module _ (v : ℕ) (b : address_broken p addresses w ≡ false) (e : v ≡ settled p addresses w) where
      is : operation v ≡ plain p
      is = ap operation e ∙ operation-settled addresses p w ∙ o

      acting : Acting p v
      acting = subst (Acting p) (sym e) (record { legal = settled_legal addresses p w (legal_plain p w o legal) b; named = settled_named addresses p w })

      effects : (awake : List Bool) (st : Store) → st.addresses ≡ addresses → effect v awake st ≡ effect w awake st
      unfolding effect
      effects awake st a =
          effect-acting p v awake st is acting
          ∙ ap (λ (u : ℕ). plain_effect p u awake st) (e ∙ ap (λ (x : List ℕ). settled p x w) (sym a))
          ∙ sym (ap {B = Store} (λ (q : Operation). elim q [ plain p ↦ plain_effect p (settled p st.addresses w) awake st | nop ↦ st | branch b ↦ st | unlisted ↦ st ]) o)

      passes : (u : ℕ) → operation u ≡ plain p → (here : ℕ) (ways : Ways) (t : State) → step_at u here ways t ≡ pass u ways t.store (map (wake here) t.channels)
      unfolding perform
      passes u f here ways t = ap (λ (q : Operation). perform q u ways t.store (map (wake here) t.channels)) f

      steps : (here : ℕ) (ways : Ways) (t : State) → t.store.addresses ≡ addresses → step_at v here ways t ≡ step_at w here ways t
      steps here ways t a =
          let cs : List Channel = map (wake here) t.channels in
          passes v is here ways t
          ∙ (λ i. record { store = effects (map is_awake cs) t.store a i; channels = cs; place = ways.next })
          ∙ sym (passes w o here ways t)

      -- Without a0 and floats as operands it acts on registers alone,
      pub acts_steps : (dst_is_a0 v || src_is_a0 src0 v) ≡ false → dst_is_float v ≡ false → (address_stops addresses w ≡ false) × OnRegisters v × SameStep addresses w v
      acts_steps none whole =
          let alone : Counting p v × (uses_a0 p v ≡ false) = (record { acting = acting; whole = floats_told p v acting ∙ whole }, a0_told p v acting ∙ none) in
          (stops_told (plain p) o ∙ b, λ q f. subst (λ (r : Plain). Counting r v × (uses_a0 r v ≡ false)) (plain_same p q (sym is ∙ f)) alone, steps)

      -- with a0 the operation is mov,
      pub acts_moves : (dst_is_a0 v || src_is_a0 src0 v) ≡ true → (address_stops addresses w ≡ false) × ((operation v ≡ plain mov) × Counting mov v) × SameStep addresses w v
      acts_moves some =
          let uses : uses_a0 p v ≡ true = a0_told p v acting ∙ some in
          let moves : p ≡ mov = a0_moves p v acting uses in
          let counting : Counting p v = record { acting = acting; whole = a0-whole p v acting uses } in
          (stops_told (plain p) o ∙ b, (is ∙ ap plain moves, subst (λ (r : Plain). Counting r v) moves counting), steps)

      -- and with floats it works on them.
      pub acts_reckons : dst_is_float v ≡ true → (address_stops addresses w ≡ false) × ((operation v ≡ plain p) × Reckoning p v) × SameStep addresses w v
      acts_reckons some = (stops_told (plain p) o ∙ b, (is, record { acting = acting; some = floats_told p v acting ∙ some }), steps)

-- What is told of a settled word holds of the word.
pub acts_said : (addresses : List ℕ) (w : ℕ) (p : words.Plain) → operation w ≡ plain (plain_is p) → refusal_of w ≡ 0
    → (s : Option Word) → Says s (address_broken (plain_is p) addresses w) (settled (plain_is p) addresses w) → (r : Act) → TellsOf p r s → ActsFor r addresses w
acts_said addresses w p o legal s says (Steps v) (e, none, whole) =
    let (b, same) = subst (λ (x : Option Word). Says x (address_broken (plain_is p) addresses w) (settled (plain_is p) addresses w)) e says in
    acts_steps addresses w (plain_is p) o legal (to_word v) b same none whole
acts_said addresses w p o legal s says (Moves v) (e, some) =
    let (b, same) = subst (λ (x : Option Word). Says x (address_broken (plain_is p) addresses w) (settled (plain_is p) addresses w)) e says in
    acts_moves addresses w (plain_is p) o legal (to_word v) b same some
acts_said addresses w p o legal s says (Reckons q v) (e, f, some) =
    let (b, same) = subst (λ (x : Option Word). Says x (address_broken (plain_is p) addresses w) (settled (plain_is p) addresses w)) e says in
    subst (λ (x : words.Plain). (address_stops addresses w ≡ false) × ((operation (to_word v) ≡ plain (plain_is x)) × Reckoning (plain_is x) (to_word v)) × SameStep addresses w (to_word v)) (sym f)
    (acts_reckons addresses w (plain_is p) o legal (to_word v) b same some)
acts_said addresses w p o legal s says Broken e =
    settles_broken addresses w (plain_is p) o legal (subst (λ (x : Option Word). Says x (address_broken (plain_is p) addresses w) (settled (plain_is p) addresses w)) e says)

-- The operation has operands.
abbrev pub has_operands : Operation → Bool
has_operands (plain p) = true
has_operands nop = false
has_operands (branch b) = false
has_operands unlisted = false

-- One that has none acts as it stands.
pub acts_other : (addresses : List ℕ) (w : ℕ) (o : Operation) → operation w ≡ o → has_operands o ≡ false
    → (address_stops addresses w ≡ false) × OnRegisters w × SameStep addresses w w
acts_other addresses w o e h =
    (go o e h, λ p f. absurd (false≢true (sym h ∙ ap has_operands (sym e ∙ f))), λ here ways t a. refl)
  where
    go : (o : Operation) → operation w ≡ o → has_operands o ≡ false → address_stops addresses w ≡ false
    go (plain p) e h = absurd (false≢true (sym h))
    go nop e h = stops_told addresses w nop e
    go (branch b) e h = stops_told addresses w (branch b) e
    go unlisted e h = stops_told addresses w unlisted e

-- A legal word that is as most are acts as it stands, whatever its operation.
pub acts_usual : (addresses : List ℕ) (w : ℕ) → refusal_of w ≡ 0 → Usual w
    → (address_stops addresses w ≡ false) × OnRegisters w × SameStep addresses w w
acts_usual addresses w legal usual = (go (operation w) refl, alone, λ here ways t a. refl)
  where
    acting : (p : Plain) → operation w ≡ plain p → Acting p w
    acting p o = record { legal = legal_plain p w o legal; named = usual_named p w usual }

    alone : OnRegisters w
    alone p o =
        (record { acting = acting p o; whole = floats_told p w (acting p o) ∙ usual.whole.destination }, a0_told p w (acting p o) ∙ ap₂ ◌||◌ usual.destination (usual.source src0))

    go : (o : Operation) → operation w ≡ o → address_stops addresses w ≡ false
    go (plain p) o = stops_told addresses w (plain p) o ∙ unaddressed p addresses w (legal_plain p w o legal) (usual_named p w usual)
    go nop o = stops_told addresses w nop o
    go (branch b) o = stops_told addresses w (branch b) o
    go unlisted o = stops_told addresses w unlisted o

-- ---- what a match on how a step is made tells

pub acts_by : (addresses : List ℕ) (w : ℕ) (r q : Act) → ActsFor r addresses w → r ≡ q → ActsFor q addresses w
acts_by addresses w r q s e = subst (λ (x : Act). ActsFor x addresses w) e s
