-- The answers of the placement calls fit too. Assumes nothing.
use Rattle.std.specs.Prelude.{not, ◌&&◌, List, ◌≡◌, refl, ℕ, eqb, length}
use Rattle.std.proofs.Common.{arith, length-append}
use Rattle.paper.specs.Limits.{register_bytes}
use Rattle.paper.specs.Placing.{Point, record_bytes, placement_of, point_bytes, order_of, is_order, answered, place_kernel, place_call, place_kernel_call, place_load_call}
use Rattle.laws.specs.Bytes.{length-bytes_of}
use Rattle.laws.specs.PlacedWords.{kernel_length}
use Rattle.answers.specs.Numbers.{place_numbers, place_kernel_numbers, place_load_numbers}
use Rattle.answers.specs.Small.{small_verdict}
use Rattle.answers.specs.Calls.{Fine, FineWritten, by_cond, fine_no, deliver_fine}

-- A point has eight bytes.
pub point_length : (at : Point) → length (point_bytes at) ≡ 8
unfolding point_bytes
point_length at = simp (length-append, length-bytes_of)

pub place_fine : (order : ℕ) (six : List ℕ) (at : Point) (out : List ℕ) → Fine place_numbers (place_call order six at out).answer
unfolding place_call
place_fine order six at out =
    by_cond (FineWritten place_numbers) (not (eqb (length six) record_bytes)) _ _ (λ _. fine_no place_numbers 1 0 refl (omega arith) (omega arith))
    (λ _. by_cond (FineWritten place_numbers) (not (is_order order)) _ _ (λ _. fine_no place_numbers 7 0 refl (omega arith) (omega arith))
    (λ _. deliver_fine place_numbers refl refl (point_bytes (answered (order_of order (placement_of six)) at)) out
    (omega (arith, point_length (answered (order_of order (placement_of six)) at)))))

pub place_kernel_fine : (out : List ℕ) → Fine place_kernel_numbers (place_kernel_call out).answer
unfolding place_kernel_call
place_kernel_fine out = deliver_fine place_kernel_numbers refl refl place_kernel out (omega (arith, kernel_length))

pub place_load_fine : (six registers : List ℕ) → Fine place_load_numbers (place_load_call six registers).answer
unfolding place_load_call
place_load_fine six registers =
    by_cond (FineWritten place_load_numbers) (eqb (length six) record_bytes && eqb (length registers) register_bytes) _ _
    (λ _. record { listed = refl; small = small_verdict 0 0 (omega arith) (omega arith) })
    (λ _. fine_no place_load_numbers 1 0 refl (omega arith) (omega arith))
