-- The rules as they stood before groups of channels could vote (02 §2): 7, 8 and the predicate, and what follows from them for one word, of every operation that
-- is listed now. Assumes nothing.
use Rattle.std.specs.Prelude.{Bool, true, false, not, cond, ◌&&◌, ◌||◌, List, map, ◌≡◌, refl, ℕ, eqb, leb}
use Rattle.std.proofs.Common.{sym, ap, ◌∙◌}
use Rattle.paper.specs.Bits.{bit}
use Rattle.paper.specs.Word.{src0, src1, access_mode, acc_wr_ctrl, exec_size, pred_ctrl, pred_inv, cond_modifier, saturate, dst_type, is_null, dst_is_a0}
use Rattle.paper.specs.Operation.{Plain, Branch, jmpi, if, else, endif, while, break, cont, Operation, plain, nop, branch, unlisted, operation, traits, sources}
use Rattle.paper.specs.Element.{made}
use Rattle.paper.specs.Region.{channels, dst_element, dst_size}
use Rattle.paper.specs.Store.{Store}
use Rattle.paper.specs.Enable.{chosen_flag, holds, channel_of, unmasked, enabled, flag_after}
use Rattle.paper.specs.Effect.{source_at, channel_stores, scattered, registers_after, addresses_after, finds, compared_flag, with_flag, plain_effect, effect}
use Rattle.paper.specs.Legal.{any_of, reserved_set, quarter_served, condition_served, dst_served, src_served, uses_a0, moves_words, uses_floats, floats_served, own_needs}
use Rattle.paper.specs.Legal.{misplaced, unequal_halves, bad_modifier, own_rule_broken, mixed, vector_too_short, shape_broken, alignment_broken, reach_broken, or_else}
use Rattle.paper.specs.Address.{settled}
use Rattle.paper.specs.Machine.{Channel, State, Ways, is_awake, wake, park, each, someone, fork, act, pass, perform, step_at}
use Rattle.laws.specs.Settled.{holds-settled}

-- ---- 7 and 8 as they stood

-- 7: PredCtrl over 1 was not served.
unfoldable pub control_served_before : Bool → Bool → ℕ → Bool
control_served_before compares saturates w =
    eqb (access_mode w) 0
    && (eqb (acc_wr_ctrl w) 0
    && (leb (exec_size w) 4
    && (quarter_served w
    && (leb (pred_ctrl w) 1
    && (condition_served compares (cond_modifier w)
    && (eqb (saturate w) 0 || saturates))))))

-- 8: sel, the one operation whose predicate does not mask, needed PredCtrl 1.
unfoldable pub own_rule_broken_before : Plain → ℕ → Bool
own_rule_broken_before p w = cond (traits p).masks (own_rule_broken p w) (not (eqb (pred_ctrl w) 1))

-- The rules with these two.
unfoldable pub plain_served_before : Plain → ℕ → Bool
plain_served_before p w =
    control_served_before (traits p).compares (traits p).saturates w
    && (dst_served w
    && (not (any_of (λ x. not (src_served w x)) (sources p))
    && ((not (uses_a0 p w) || moves_words p w)
    && (not (uses_floats p w) || floats_served p w))))

unfoldable pub branch_served_before : Branch → ℕ → Bool
branch_served_before b w = control_served_before false false w && own_needs b w

unfoldable pub operand_rule_broken_before : Plain → ℕ → Bool
operand_rule_broken_before p w =
    misplaced p w
    || (any_of (unequal_halves w) (sources p)
    || (any_of (bad_modifier p w) (sources p)
    || (own_rule_broken_before p w
    || (mixed p w
    || any_of (vector_too_short w) (sources p)))))

unfoldable pub later_before : Operation → ℕ → ℕ
later_before (plain p) w =
    or_else (not (plain_served_before p w)) 7
    (or_else (operand_rule_broken_before p w) 8
    (or_else (shape_broken p w) 9
    (or_else (alignment_broken p w) 10
    (or_else (reach_broken p w) 11
    0))))
later_before nop w = 0
later_before (branch b) w = or_else (not (branch_served_before b w)) 7 0
later_before unlisted w = 0

unfoldable pub refusal_before : ℕ → ℕ
refusal_before w = or_else (reserved_set w) 6 (later_before (operation w) w)

-- ---- the predicate as it stood

-- With PredCtrl 0 it holds; else it is the channel's bit of the chosen flag, inverted if PredInv is 1.
unfoldable pub holds_before : ℕ → Store → ℕ → Bool
holds_before w st m =
    cond (eqb (pred_ctrl w) 0) true
    (cond (eqb (pred_inv w) 1) (not (bit (chosen_flag w st) m)) (bit (chosen_flag w st) m))

-- A step of a word with the predicate that is put in, definition by definition as in the paper.
module _ (holding : Store → ℕ → Bool) where
  unfoldable pub enabled_by : Plain → ℕ → List Bool → Store → ℕ → Bool
  enabled_by p w awake st m = unmasked w awake m && (not (traits p).masks || holding st m)

  unfoldable pub channel_stores_by : Plain → ℕ → Store → ℕ → ℕ
  channel_stores_by p w st n =
      made p (cond_modifier w) (holding st (channel_of w n)) (eqb (saturate w) 1) (dst_type w)
      (source_at w st src0 n) (source_at w st src1 n)

  abbrev pub written_to_by : Plain → ℕ → List Bool → Store → List ℕ → List ℕ
  written_to_by p w awake st bytes =
      scattered bytes (dst_element w) (dst_size w) (λ n. enabled_by p w awake st (channel_of w n)) (channel_stores_by p w st) (channels w)

  unfoldable pub registers_after_by : Plain → ℕ → List Bool → Store → List ℕ
  registers_after_by p w awake st =
      let written = written_to_by p w awake st st.registers in cond (is_null w || dst_is_a0 w) st.registers written

  unfoldable pub addresses_after_by : Plain → ℕ → List Bool → Store → List ℕ
  addresses_after_by p w awake st =
      let written = written_to_by p w awake st st.addresses in cond (dst_is_a0 w) written st.addresses

  unfoldable pub compared_flag_by : ℕ → List Bool → Store → ℕ
  compared_flag_by w awake st =
      flag_after (chosen_flag w st) (channel_of w 0) (channels w) (enabled_by Plain.cmp w awake st) (finds w st)

  unfoldable pub plain_effect_by : Plain → ℕ → List Bool → Store → Store
  plain_effect_by p w awake st =
      let flag = compared_flag_by w awake st in
      with_flag w st (registers_after_by p w awake st) (cond (traits p).compares flag (chosen_flag w st)) (addresses_after_by p w awake st)

  unfoldable pub effect_by : ℕ → List Bool → Store → Store
  effect_by w awake st =
      elim (operation w) [ plain p ↦ plain_effect_by p (settled p st.addresses w) awake st | nop ↦ st | branch b ↦ st | unlisted ↦ st ]

  unfoldable pub act_by : Branch → ℕ → Ways → Store → List Channel → State
  act_by if w ways st cs = fork ways st (each (λ n. park (not (holding st n)) ways.wait) 0 cs)
  act_by else w ways st cs = fork ways st (each (λ _. park true ways.wait) 0 cs)
  act_by endif w ways st cs = fork ways st cs
  act_by while w ways st cs =
      cond (someone (λ n c. is_awake c && holding st n) 0 cs)
      (record { store = st; channels = each (λ n. park (not (holding st n)) ways.next) 0 cs; place = ways.jump })
      (record { store = st; channels = cs; place = ways.next })
  act_by break w ways st cs = fork ways st (each (λ n. park (holding st n) ways.wait) 0 cs)
  act_by cont w ways st cs = fork ways st (each (λ n. park (holding st n) ways.wait) 0 cs)
  act_by jmpi w ways st cs = record { store = st; channels = cs; place = cond (holding st 0) ways.jump ways.next }

  abbrev pub pass_by : ℕ → Ways → Store → List Channel → State
  pass_by w ways st cs = record { store = effect_by w (map is_awake cs) st; channels = cs; place = ways.next }

  unfoldable pub perform_by : Operation → ℕ → Ways → Store → List Channel → State
  perform_by (plain p) w ways st cs = pass_by w ways st cs
  perform_by nop w ways st cs = pass_by w ways st cs
  perform_by (branch b) w ways st cs = act_by b w ways st cs
  perform_by unlisted w ways st cs = pass_by w ways st cs

  unfoldable pub step_at_by : ℕ → ℕ → Ways → State → State
  step_at_by w here ways s = perform_by (operation w) w ways s.store (map (wake here) s.channels)

-- With the paper's predicate an operation has the paper's effect, where its operands are named directly,
plain_ours : (p : Plain) (w : ℕ) (awake : List Bool) (st : Store) → plain_effect_by (holds w) p w awake st ≡ plain_effect p w awake st
unfolding plain_effect_by compared_flag_by registers_after_by addresses_after_by channel_stores_by enabled_by plain_effect compared_flag registers_after addresses_after channel_stores enabled
plain_ours p w awake st = refl

-- and a step is the paper's step.
pub step_ours : (w here : ℕ) (ways : Ways) (s : State) → step_at_by (holds w) w here ways s ≡ step_at w here ways s
unfolding step_at_by perform_by act_by effect_by perform act effect
step_ours w here ways s = same (operation w) s.store (map (wake here) s.channels)
  where
    acts : (o : Operation) (awake : List Bool) (st : Store)
        → ◌≡◌ {A = Store}
        (elim o [ plain p ↦ plain_effect_by (holds w) p (settled p st.addresses w) awake st | nop ↦ st | branch b ↦ st | unlisted ↦ st ])
        (elim o [ plain p ↦ plain_effect p (settled p st.addresses w) awake st | nop ↦ st | branch b ↦ st | unlisted ↦ st ])
    acts (plain p) awake st =
        ap (λ (h : Store → ℕ → Bool). plain_effect_by h p (settled p st.addresses w) awake st)
        (λ i t. sym (holds-settled st.addresses p w t) i)
        ∙ plain_ours p (settled p st.addresses w) awake st
    acts nop awake st = refl
    acts (branch b) awake st = refl
    acts unlisted awake st = refl

    passes : (st : Store) (cs : List Channel) → pass_by (holds w) w ways st cs ≡ pass w ways st cs
    passes st cs = λ i. record { store = acts (operation w) (map is_awake cs) st i; channels = cs; place = ways.next }

    same : (o : Operation) (st : Store) (cs : List Channel) → perform_by (holds w) o w ways st cs ≡ perform o w ways st cs
    same (plain p) st cs = passes st cs
    same nop st cs = passes st cs
    same (branch if) st cs = refl
    same (branch else) st cs = refl
    same (branch endif) st cs = refl
    same (branch while) st cs = refl
    same (branch break) st cs = refl
    same (branch cont) st cs = refl
    same (branch jmpi) st cs = refl
    same unlisted st cs = passes st cs

-- The step as it stood.
abbrev pub step_at_before : ℕ → ℕ → Ways → State → State
step_at_before w here ways s = step_at_by (holds_before w) w here ways s
