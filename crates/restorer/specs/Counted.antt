-- What reading counts lies in the buffer. Assumes nothing.
use Rattle.std.specs.Prelude.{List, ◌≡◌, ℕ, ◌≤◌, length}
use Rattle.std.proofs.Common.{ap, arith}
use Rattle.paper.specs.Calls.{verdict, count_of}
use Rattle.paper.specs.Listing.{read_call}
use Rattle.laws.specs.Calls.{read_confined}

pub counted_fits : (dictionary text out : List ℕ) (number count : ℕ) → verdict number count ≡ (read_call dictionary text out).answer → count ≤ length out
counted_fits dictionary text out number count e =
    let c : count ≡ count_of (read_call dictionary text out).answer = ap count_of e in
    omega (arith, (read_confined dictionary text out).fits)
