-- The one table: the bench sheet's starred rows A to I, then ours, of whichever crate they are. Every row of it holds. Assumes nothing.
use mathlib.Core.List.{List, [], ◌∷◌, ◌++◌, map, Memᴰ, head-eq_of_cons-eq, tail-eq_of_cons-eq}
use mathlib.Core.List.Memᴰ
use Rattle.std.specs.Prelude.{◌⊎◌, ◌≡◌, refl, ℕ}
use Rattle.std.proofs.Common.{inl, inr, sym, ap, ap₂, ◌∙◌}
use Rattle.paper.specs.Sheet.{Row, rows_cdef, rows_g}
use Rattle.paper.specs.SheetMore.{rows_load, rows_store, rows_operation, rows_compare}
use Rattle.paper.specs.SheetRefusals.{rows_form, rows_word, rows_shape}
use Rattle.paper.specs.SheetVotes.{rows_vote, rows_vote_refused}
use Rattle.paper.specs.SheetLeaving.{rows_aim, rows_leave_refused}
use Rattle.paper.specs.SheetHolds.{Hold, rows_cdef_hold, rows_g_hold, rows_load_hold, rows_store_hold, rows_operation_hold, rows_compare_hold, rows_form_hold, rows_word_hold, rows_shape_hold, rows_vote_hold, rows_vote_refused_hold, rows_aim_hold, rows_leave_refused_hold}
use Rattle.worked.specs.Steps.{rows_enable, rows_flag, rows_enable_hold, rows_flag_hold}
use Rattle.worked.specs.Branches.{rows_branch, rows_branch_hold}
use Rattle.worked.specs.Votes.{rows_counted, rows_counted_hold}
use Rattle.worked.specs.Leaving.{rows_leave, rows_leave_hold}
use Rattle.computed.specs.Starred.{rows_a, rows_b, rows_h, rows_i, rows_repeated, rows_a_hold, rows_b_hold, rows_h_hold, rows_i_hold, rows_repeated_hold}
use Rattle.computed.specs.Kernels.{rows_kernel, rows_around, rows_kernel_hold, rows_around_hold}
use Rattle.computed.specs.Forward.{rows_forward, rows_forward_hold}

abbrev pub starred : List Row
starred = rows_a ++ (rows_b ++ (rows_cdef ++ (rows_g ++ (rows_h ++ (rows_i)))))

abbrev pub ours : List Row
ours =
    rows_load ++ (rows_store ++ (rows_operation ++ (rows_compare ++ (rows_enable ++ (rows_flag ++ (rows_branch ++ (rows_repeated
    ++ (rows_form ++ (rows_kernel ++ (rows_word ++ (rows_shape ++ (rows_vote ++ (rows_counted ++ (rows_vote_refused
    ++ (rows_leave ++ (rows_aim ++ (rows_around ++ (rows_leave_refused ++ rows_forward))))))))))))))))))

abbrev pub table : List Row
table = starred ++ ours

-- Two lists of rows that hold, one after the other, hold.
append-map : (f : Row → List ℕ) (xs ys : List Row) → map f (xs ++ ys) ≡ map f xs ++ map f ys
append-map f [] ys = refl
append-map f (x ∷ xs) ys = ap (λ (l : List (List ℕ)). f x ∷ l) (append-map f xs ys)

both : (xs ys : List Row) → Hold xs → Hold ys → Hold (xs ++ ys)
unfolding Hold
both xs ys p q =
    append-map (λ r. r.got) xs ys ∙ ap₂ (λ (a b : List (List ℕ)). a ++ b) p q ∙ sym (append-map (λ r. r.want) xs ys)

starred_hold : Hold starred
starred_hold =
    both rows_a _ rows_a_hold (both rows_b _ rows_b_hold (both rows_cdef _ rows_cdef_hold (both rows_g _ rows_g_hold (both rows_h _ rows_h_hold rows_i_hold))))

ours_hold : Hold ours
ours_hold =
    both rows_load _ rows_load_hold (both rows_store _ rows_store_hold (both rows_operation _ rows_operation_hold (both rows_compare _ rows_compare_hold
    (both rows_enable _ rows_enable_hold (both rows_flag _ rows_flag_hold (both rows_branch _ rows_branch_hold (both rows_repeated _ rows_repeated_hold
    (both rows_form _ rows_form_hold (both rows_kernel _ rows_kernel_hold (both rows_word _ rows_word_hold (both rows_shape _ rows_shape_hold
    (both rows_vote _ rows_vote_hold (both rows_counted _ rows_counted_hold (both rows_vote_refused _ rows_vote_refused_hold
    (both rows_leave _ rows_leave_hold (both rows_aim _ rows_aim_hold (both rows_around _ rows_around_hold (both rows_leave_refused _ rows_leave_refused_hold
    rows_forward_hold))))))))))))))))))

every : (rows : List Row) → map (λ r. r.got) rows ≡ map (λ r. r.want) rows → (r : Row) → Memᴰ r rows → r.got ≡ r.want
every [] h r m = absurd (Memᴰ.not-nil m)
every (x ∷ rows) h r m = go (Memᴰ.cases_cons m) (every rows (tail-eq_of_cons-eq h) r)
  where
    go : (r ≡ x) ⊎ Memᴰ r rows → (Memᴰ r rows → r.got ≡ r.want) → r.got ≡ r.want
    go (inl e) ih = rw e (head-eq_of_cons-eq h)
    go (inr m) ih = ih m

-- Every row of the table holds.
pub sheet : (r : Row) → Memᴰ r table → r.got ≡ r.want
unfolding Hold
sheet = every table (both starred ours starred_hold ours_hold)
