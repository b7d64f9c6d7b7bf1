-- The promises of 02 §8 of the exported calls: what an order for a tile answers, and that the fixed kernel answers the same bits. Goes on from Promises, in its words; like
-- it, it states and proves nothing. `placements` of PlacementsHold is the theorem. Floats are 32-bit patterns (Placing of `paper`); `tile_in` and `tile_out` (PlacedTiles of
-- `laws`) are where the kernel finds tile n and where it leaves it.
use Rattle.std.specs.Prelude.{true, false, List, ◌≡◌, ℕ, ◌*◌, ◌<◌, ◌≤◌, length, get_or}
use Rattle.paper.specs.Bits.{bit, number_at}
use Rattle.paper.specs.Limits.{dictionary_bytes, budget_limit}
use Rattle.paper.specs.Dictionary.{dictionary_of, in_range}
use Rattle.paper.specs.Placing.{record_bytes, placement_of, point_bytes, order_of, answered}
use Rattle.laws.specs.PlacedTiles.{tile_in, tile_out}
use Rattle.contracts.specs.Contracts.{number_in, count_in, CheckPromise, RunPromise, PlacePromise, PlaceKernelPromise, PlaceLoadPromise}
use Rattle.promises.specs.Promises.{result, Begun}

-- The fixed kernel, as place_kernel wrote it.
pub record Given (kernel : List ℕ) : Type 0 where
  pub out : List ℕ
  pub answer : ℕ
  pub left : List ℕ
  pub call : PlaceKernelPromise out answer left
  pub zero : number_in answer ≡ 0
  pub is : kernel ≡ result answer left

-- Registers as place_load left them: with the record of six floats among what was there.
pub record Loaded (six registers loaded : List ℕ) : Type 0 where
  pub answer : ℕ
  pub call : PlaceLoadPromise six registers answer loaded
  pub zero : number_in answer ≡ 0

-- What a run of the kernel with a mask comes to: it ends after eight steps; the answers of each awake tile are those that place gives for its record, bit by bit;
-- where the answers of one that is off would go, nothing changes; and no byte outside of r8 to r13 is other than it was loaded.
pub record TilesPlaced (six registers loaded : List ℕ) (mask r : ℕ) (registers' : List ℕ) : Type 0 where
  pub ends : number_in r ≡ 20
  pub steps : count_in r ≡ 8
  pub answers : (n : ℕ) → n < 16 → bit mask n ≡ true → (out : List ℕ) (a : ℕ) (out' : List ℕ)
      → PlacePromise 2 six (tile_in registers n).x (tile_in registers n).y out a out' → number_in a ≡ 0
      → ((tile_out registers' n).x ≡ number_at out' 0 4) × ((tile_out registers' n).y ≡ number_at out' 4 4)
  pub idle : (n : ℕ) → n < 16 → bit mask n ≡ false → tile_out registers' n ≡ tile_out loaded n
  pub others : (i : ℕ) → (8 * 32 ≤ i → i < 14 * 32 → ⊥) → get_or registers' i 0 ≡ get_or loaded i 0

pub record Placements : Type 0 where
  -- An order that is one, with a record and room for a point, is answered,
  pub answers : (order : ℕ) (six : List ℕ) (x y : ℕ) (out : List ℕ) → order < 3 → length six ≡ record_bytes → 8 ≤ length out
      → (r : ℕ) (out' : List ℕ) → PlacePromise order six x y out r out' → number_in r ≡ 0
  -- with the plain answer: of keep the bits themselves, of shift x + c and y + f, of place a·x + b·y + c and d·x + e·y + f.
  pub plainly : (order : ℕ) (six : List ℕ) (x y : ℕ) (out : List ℕ) (r : ℕ) (out' : List ℕ) → PlacePromise order six x y out r out' → number_in r ≡ 0
      → result r out' ≡ point_bytes (answered (order_of order (placement_of six)) (record { x = x; y = y }))
  -- The kernel is written where it has room.
  pub written : (out : List ℕ) → 128 ≤ length out → (r : ℕ) (out' : List ℕ) → PlaceKernelPromise out r out' → (number_in r ≡ 0) × (count_in r ≡ 128)
  -- Every legal dictionary accepts it, as eight instructions.
  pub accepted : (kernel : List ℕ) → Given kernel → (dictionary : List ℕ) → length dictionary ≡ dictionary_bytes → in_range (dictionary_of dictionary) ≡ true
      → (c : ℕ) → CheckPromise dictionary kernel c → (number_in c ≡ 0) × (count_in c ≡ 8)
  -- From a start with any mask and flags, on registers into which a record was loaded, with a budget of eight steps or more, it places the awake tiles.
  pub places : (kernel : List ℕ) → Given kernel → (dictionary : List ℕ) → length dictionary ≡ dictionary_bytes → in_range (dictionary_of dictionary) ≡ true
      → (six registers loaded : List ℕ) → Loaded six registers loaded → (state : List ℕ) (b : Begun state loaded) → (budget : ℕ) → 8 ≤ budget → budget ≤ budget_limit
      → (r : ℕ) (registers' state' : List ℕ) → RunPromise dictionary kernel budget loaded state r registers' state'
      → TilesPlaced six registers loaded b.mask r registers'
