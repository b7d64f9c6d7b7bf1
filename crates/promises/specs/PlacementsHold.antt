-- What is promised of placements holds. Assumes nothing.
use Rattle.std.specs.Prelude.{Bool, true, false, not, cond, ◌&&◌, ◌≡◌, refl, eqb, length}
use mathlib.Core.List.{List, ◌++◌}
use Rattle.std.proofs.Math.Path.{sym, ap}
use Rattle.std.proofs.Common.{◌∙◌, subst, mod-eq_of_lt, arith, eqb-true, eq-eqb, lt-ltb}
use Prim.Native.Nat.{ℕ, ◌^◌, ◌<◌, ◌≤◌}
use Rattle.std.proofs.Math.ListN.{drop}
use Rattle.paper.specs.Bits.{bytes_of, number, number_at}
use Rattle.paper.specs.Limits.{register_bytes}
use Rattle.paper.specs.Placing.{Point, record_bytes, placement_of, placed_by, point_bytes, order_of, is_order, answered, place_kernel, loaded_with, place_call, place_kernel_call, place_load_call}
use Rattle.paper.specs.Calls.{verdict, refusal, number_of, count_of, Written, kept, deliver, check_call, start_call, Changed, run_call}
use Rattle.laws.specs.Bytes.{number-bytes_of}
use Rattle.laws.specs.FloatResults.{sum_lt}
use Rattle.laws.specs.PlacedWords.{kernel_length, kernel_checked}
use Rattle.laws.specs.PlacedTiles.{tile_in, tile_out, Placed, kernel_places}
use Rattle.contracts.specs.Contracts.{number_in, count_in, PlacePromise}
use Rattle.answers.specs.Placings.{point_length}
use Rattle.promises.specs.Placements.{Given, Loaded, TilesPlaced, Placements}
use Rattle.promises.specs.Results.{wrote, result_is, deliver_fits, deliver_room, start_fits}
use Rattle.promises.specs.OutcomesHold.{answers}

-- ---- an order

-- What an order answers that is one, with a record of the right size;
place_delivers : (order : ℕ) (six : List ℕ) (at : Point) (out : List ℕ) → order < 3 → length six ≡ record_bytes
    → place_call order six at out ≡ deliver (point_bytes (answered (order_of order (placement_of six)) at)) out
unfolding place_call
place_delivers order six at out low short = rw (eq-eqb (length six) record_bytes short, lt-ltb order 3 low)

-- and, where 0 is answered, that it was.
place_writes : (order : ℕ) (six : List ℕ) (at : Point) (out : List ℕ) → number_of (place_call order six at out).answer ≡ 0
    → place_call order six at out ≡ wrote (point_bytes (answered (order_of order (placement_of six)) at)) out
unfolding place_call
place_writes order six at out = go (eqb (length six) record_bytes) (is_order order)
  where
    point : List ℕ
    point = point_bytes (answered (order_of order (placement_of six)) at)

    call : Bool → Bool → Written
    call a b = cond (not a) (kept (refusal 1 0) out) (cond (not b) (kept (refusal 7 0) out) (deliver point out))

    go : (a b : Bool) → number_of (call a b).answer ≡ 0 → call a b ≡ wrote point out
    go false b e = absurd (omega arith)
    go true false e = absurd (omega arith)
    go true true e = deliver_fits point out e

-- The two patterns that a point's bytes write.
point_across : (at : Point) (rest : List ℕ) → at.x < 2 ^ 32 → number_at (point_bytes at ++ rest) 0 4 ≡ at.x
unfolding point_bytes number_at bytes_of
point_across at rest low = number-bytes_of 4 at.x (bytes_of 4 at.y ++ rest) ∙ mod-eq_of_lt low

point_down : (at : Point) (rest : List ℕ) → at.y < 2 ^ 32 → number_at (point_bytes at ++ rest) 4 4 ≡ at.y
unfolding point_bytes number_at bytes_of
point_down at rest low = number-bytes_of 4 at.y rest ∙ mod-eq_of_lt low

-- ---- what the calls handed over

-- The kernel that was given is the paper's.
given_is : (kernel : List ℕ) → Given kernel → kernel ≡ place_kernel
unfolding place_kernel_call
given_is kernel g =
    let t = answers.place_kernel g.out g.answer g.left g.call in
    let fits = deliver_fits place_kernel g.out (sym t.number ∙ g.zero) in
    g.is ∙ result_is place_kernel g.out (place_kernel_call g.out) fits g.answer g.left t.count g.call.1

-- A record that was loaded was one, and so were the registers; it is among them.
record Fit (six registers loaded : List ℕ) : Type 0 where
  pub short : length six ≡ record_bytes
  pub long : length registers ≡ register_bytes
  pub are : loaded ≡ loaded_with six registers

loaded_fit : (six registers loaded : List ℕ) → Loaded six registers loaded → Fit six registers loaded
unfolding place_load_call
loaded_fit six registers loaded l =
    let t = answers.place_load six registers l.answer loaded l.call in
    go (eqb (length six) record_bytes) (eqb (length registers) register_bytes) refl refl (sym t.number ∙ l.zero) l.call.1
  where
    call : Bool → Written
    call b = cond b (record { answer = verdict 0 0; output = loaded_with six registers }) (kept (refusal 1 0) registers)

    go : (a b : Bool) → eqb (length six) record_bytes ≡ a → eqb (length registers) register_bytes ≡ b
        → number_of (call (a && b)).answer ≡ 0 → loaded ≡ (call (a && b)).output → Fit six registers loaded
    go true true p q e is = record { short = eqb-true (length six) record_bytes p; long = eqb-true (length registers) register_bytes q; are = is }
    go true false p q e is = absurd (omega arith)
    go false b p q e is = absurd (omega arith)

-- ---- the kernel's run

module _ (six registers loaded : List ℕ) (fit : Fit six registers loaded) where
  -- A tile's answers by the kernel are those of an order to place it.
  same_answers : (at out : Point) → out ≡ placed_by (placement_of six) at
      → (lent : List ℕ) (a : ℕ) (lent' : List ℕ) → PlacePromise 2 six at.x at.y lent a lent' → number_in a ≡ 0
      → (out.x ≡ number_at lent' 0 4) × (out.y ≡ number_at lent' 4 4)
  unfolding order_of
  same_answers at out e lent a lent' p zero =
      let t = answers.place 2 six at.x at.y lent a lent' p in
      let goal : Point = placed_by (placement_of six) at in
      let rest : List ℕ = drop (length (point_bytes goal)) lent in
      let is : lent' ≡ point_bytes goal ++ rest =
      p.1 ∙ ap (λ (w : Written). w.output) (place_writes 2 six at lent (sym t.number ∙ zero)) in
      rw (e, is) (sym (point_across goal rest (sum_lt _ _)), sym (point_down goal rest (sum_lt _ _)))

  -- A run that comes to what the law says, by the exported call.
  run_places : (mask : ℕ) (c : Changed) → Placed six registers mask c → (r : ℕ) (registers' : List ℕ)
      → number_in r ≡ number_of c.answer → count_in r ≡ count_of c.answer → registers' ≡ c.registers → TilesPlaced six registers loaded mask r registers'
  run_places mask c h r registers' number count left = record {
    ends = number ∙ ap number_of h.ends;
    steps = count ∙ ap count_of h.ends;
    answers = λ n low on. same_answers (tile_in registers n) (tile_out registers' n) (ap (λ (l : List ℕ). tile_out l n) left ∙ h.answers n low on);
    idle = λ n low off. rw (left, fit.are) (h.idle n low off);
    others = λ i out. rw (left, fit.are) (h.others i out);
  }

-- ---- the promise

pub placements : Placements
unfolding place_kernel_call
placements =
    record {
      answers = λ order six x y out low short room r out' p.
          let at : Point = record { x = x; y = y } in
          let point : List ℕ = point_bytes (answered (order_of order (placement_of six)) at) in
          let t = answers.place order six x y out r out' p in
          let fits : length point ≤ length out = omega (arith, point_length (answered (order_of order (placement_of six)) at)) in
          t.number ∙ ap (λ (w : Written). number_of w.answer) (place_delivers order six at out low short) ∙ deliver_room point out fits;
      plainly = λ order six x y out r out' p zero.
          let at : Point = record { x = x; y = y } in
          let t = answers.place order six x y out r out' p in
          result_is (point_bytes (answered (order_of order (placement_of six)) at)) out (place_call order six at out)
          (place_writes order six at out (sym t.number ∙ zero)) r out' t.count p.1;
      written = λ out room r out' p.
          let t = answers.place_kernel out r out' p in
          let zero : number_of (place_kernel_call out).answer ≡ 0 = deliver_room place_kernel out (omega (arith, kernel_length)) in
          (t.number ∙ zero, t.count ∙ ap (λ (w : Written). count_of w.answer) (deliver_fits place_kernel out zero) ∙ kernel_length);
      accepted = λ kernel g dictionary sized legal c p.
          let t = answers.check dictionary kernel c p in
          let is = ap (λ (k : List ℕ). check_call dictionary k) (given_is kernel g) ∙ kernel_checked dictionary sized legal in
          (t.number ∙ ap number_of is, t.count ∙ ap count_of is);
      places = λ kernel g dictionary sized legal six registers loaded l state b budget least most r registers' state' p.
          let fit = loaded_fit six registers loaded l in
          let t = answers.run dictionary kernel budget loaded state r registers' state' p in
          let s = answers.start b.mask b.flag0 b.flag1 b.lent b.answer state b.begin in
          let room = start_fits b.mask b.flag0 b.flag1 b.lent (sym s.number ∙ b.zero) in
          let law = kernel_places dictionary sized legal six registers b.lent fit.short fit.long room b.mask b.flag0 b.flag1 b.small0 b.small1
          budget least most in
          let ran : run_call dictionary kernel budget loaded state ≡ run_call dictionary place_kernel budget (loaded_with six registers) (start_call b.mask b.flag0 b.flag1 b.lent).output =
          λ i. run_call dictionary (given_is kernel g i) budget (fit.are i) (b.begin.1 i) in
          run_places six registers loaded fit b.mask _ (subst (λ (c : Changed). Placed six registers b.mask c) (sym ran) law) r registers' t.number t.count p.1;
    }
