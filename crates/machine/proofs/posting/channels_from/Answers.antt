-- The channels that wait at the places passed are found. Assumes nothing.
use mathlib.Core.List.{List}
use mathlib.Core.Path.{◌≡◌, refl, subst}
use Prim.Native.Nat.{ℕ}
use native.Mathlib.Omega.{arith}
use lib.ListN.{length, get_or}
use Rattle.machine.specs.Together.{or_either}
use Rattle.machine.specs.Posting.{Found, found_none, found_more, found_channels, found_sane}
use Rattle.machine.proofs.posting.channels_from.Goals as goal

pub loop-p-init : goal.loop-p-init
loop-p-init c = (omega arith, refl, λ cs s. found_none cs)

pub loop-p-preserved : goal.loop-p-preserved
loop-p-preserved c =
    let l = c.loop-p in
    let h = c.args.here.now in (
      omega (arith, c.loop-p-test.true),
      c.place_those.ensures.sixteen,
      λ cs posted. rw (or_either l.waiting (get_or h l.p 0) (omega arith) (omega arith))
          (found_more c.args.up h cs posted l.p l.waiting l.places (l.invariant.2 cs posted) _ c.place_those.ensures),
    )

pub returns : goal.returns
returns c =
    let l = c.loop-p in
    let h : List ℕ = c.args.here.now in
    let e : l.p ≡ length h = omega (arith, c.loop-p-test.false, l.invariant.0) in
    λ cs posted.
    let found : Found cs (length h) l.waiting l.places = subst (λ (q : ℕ). Found cs q l.waiting l.places) e (l.invariant.2 cs posted) in (
      found_channels c.args.up h cs posted _ c.requires refl (omega arith) l.invariant.1 found,
      found_sane c.args.up h cs posted _ c.requires refl (omega arith) l.invariant.1 found,
    )
