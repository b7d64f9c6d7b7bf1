-- The two ends of a run, over the state's bytes. Assumes nothing.
use Rattle.std.specs.Prelude.{◌≡◌, Bool, true, cond, List, ℕ, ◌<◌, get_or}
use Rattle.std.proofs.Common.{ap, ◌∙◌}
use Rattle.paper.specs.Bits.{bit}
use Rattle.paper.specs.Machine as paper
use Rattle.paper.specs.Machine.{Channel, off, awake, waiting}
use Rattle.paper.specs.State.{addresses_in, state_of}
use Rattle.machine.specs.declared.channels.Channels.{Channels}
use Rattle.machine.specs.declared.state.State.{State}
use Rattle.machine.specs.declared.step.Stand.{Stand}
use Rattle.machine.specs.Numbered.{get_d_numbered}
use Rattle.machine.specs.Channels.{channel_is, channels_is}
use Rattle.machine.specs.States.{state_is}
use Rattle.machine.specs.Posts.{Posted}
use Rattle.machine.specs.Steps.{Shows}

-- Each channel that waits does so at a place below a bound.
abbrev pub Inside : ℕ → List Channel → Type 0
Inside bound cs = (n p : ℕ) → n < 16 → get_or cs n off ≡ waiting p → p < bound

-- The code's places are then below it.
pub inside_places : (c : Channels) (bound : ℕ) → Inside bound (channels_is c) → (n : ℕ) → n < 16 → bit c.waiting n ≡ true → get_or c.places n 0 < bound
unfolding channels_is channel_is
inside_places c bound inside n h e =
    inside n (get_or c.places n 0) h
    (get_d_numbered (channel_is c) n h ∙ ap (λ (b : Bool). cond b (waiting (get_or c.places n 0)) (cond (bit c.awake n) awake off)) e)

-- A state that was read from the bytes, its channels posted, stands where the bytes say.
pub enter_shows : (bytes here : List ℕ) (s : State) (r : Stand) → ((registers : List ℕ) → state_is registers (addresses_in bytes) s ≡ state_of registers bytes)
    → r.flags ≡ s.flags → r.awake ≡ s.channels.awake → r.place ≡ s.place
    → Posted s.channels.awake here (channels_is s.channels)
    → (registers : List ℕ) → Shows registers (addresses_in bytes) here r (state_of registers bytes)
enter_shows bytes here s r read ef ea ep posted registers =
    rw (← (read registers)) (record { store = rw ef; posted = rw ea posted; place = ep })

-- What the bytes hold at the end is the state that is shown.
pub leave_state : (registers addresses here : List ℕ) (s : Stand) (t : paper.State) → Shows registers addresses here s t → (after : State)
    → after.flags ≡ s.flags → channels_is after.channels ≡ t.channels → after.place ≡ s.place → state_is registers addresses after ≡ t
leave_state registers addresses here s t shows after ef ec ep =
    let st : (state_is registers addresses after).store ≡ t.store = rw ef shows.store in
    let at : after.place ≡ t.place = ep ∙ shows.place in
    λ i. record { store = st i; channels = ec i; place = at i }
