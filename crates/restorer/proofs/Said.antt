-- What reading back answers, by the input. Assumes nothing.
use Rattle.std.proofs.Common.{◌≡◌, ℕ, List, length, take, drop, min, replicate, ap, ◌∙◌}
use Rattle.paper.specs.Limits.{dictionary_bytes, kernel_bytes}
use Rattle.paper.specs.Listing.{read_call}
use Rattle.front.proofs.Said.{split_there}
use Rattle.restorer.specs.Restored.{restored}

-- The call that was made is the one on the input.
pub asked : (input dictionary text out : List ℕ) (n : ℕ) → n ≡ min dictionary_bytes (length input) → dictionary ≡ take n input → text ≡ drop n input
    → out ≡ replicate kernel_bytes 0 → read_call dictionary text out ≡ restored input
unfolding restored
asked input dictionary text out n m d t o =
    split_there (λ a b. read_call a b out) input dictionary text n m d t ∙ ap (read_call (take dictionary_bytes input) (drop dictionary_bytes input)) o
