-- A part that stays as it was leaves the whole as it was. Assumes nothing.
use Rattle.std.proofs.Common.{◌≡◌, ℕ, List, ◌++◌, take, drop, ap, refl, ◌∙◌, take-append-drop}
use borrow.Rule.Slice.PartMut.{mid_of, post_of, put_mid}
use Rattle.rows.proofs.desk.Desk.lay.Goals as goal

front_stays : (k : ℕ) (xs ys : List ℕ) → ys ≡ take k xs → ys ++ post_of 0 k xs ≡ xs
front_stays k xs ys e = ap (λ (l : List ℕ). l ++ post_of 0 k xs) e ∙ take-append-drop k xs

middle_stays : (a k : ℕ) (xs ys : List ℕ) → ys ≡ mid_of a k xs → put_mid a k xs ys ≡ xs
middle_stays a k xs ys e = ap (put_mid a k xs) e ∙ (ap (λ (l : List ℕ). take a xs ++ l) (take-append-drop k (drop a xs)) ∙ take-append-drop a xs)

pub returns-in-Set-clause-none : goal.returns-in-Set-clause-none
returns-in-Set-clause-none c = λ e. rw (front_stays _ _ _ (c.put_number-in-Set.ensures.none e)) refl

pub returns-in-Mark-clause-none : goal.returns-in-Mark-clause-none
returns-in-Mark-clause-none c = λ e. rw (middle_stays 4128 65552 c.args.self.now.board _ (c.put_number-in-Mark.ensures.none e)) refl

pub returns-in-Case-clause-case : goal.returns-in-Case-clause-case
returns-in-Case-clause-case c = λ _. c.open.ensures.counted
