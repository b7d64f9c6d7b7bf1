-- What is said where a call succeeds or fails, by what is known of the bytes. Assumes nothing.
use Rattle.std.specs.Prelude.{Result, Ok, Err, Option, None, Some, OnErr, OnOk, IfSome}
use Rattle.std.proofs.Common.{◌≡◌, ℕ, List, [], ◌++◌, length, take, drop, min, ap, ap₂, ◌∙◌, subst}
use Rattle.std.proofs.lemmas.List.{take_min, drop_min}
use Rattle.std.proofs.Math.Seq.{take-append_seam}
use Rattle.std.specs.Io.KnownBytes.{Appends}
use Rattle.std.proofs.KnownBytes.{Appends-nil}
use Rattle.paper.specs.Limits.{dictionary_bytes}
use Rattle.front.specs.Streams.{AppendsPart}

-- What follows is said too.
pub on_ok : {T E P Q : Type 0} (r : Result T E) → (P → Q) → OnOk r P → OnOk r Q
on_ok (Ok x) f h = f h
on_ok (Err x) f h = tt

pub on_err : {T E P Q : Type 0} (r : Result T E) → (P → Q) → OnErr r P → OnErr r Q
on_err (Ok x) f h = tt
on_err (Err x) f h = f h

-- What holds anyway is said.
pub of_ok : {T E P : Type 0} (r : Result T E) → P → OnOk r P
of_ok (Ok x) p = p
of_ok (Err x) p = tt

pub of_err : {T E P : Type 0} (r : Result T E) → P → OnErr r P
of_err (Ok x) p = tt
of_err (Err x) p = p

-- The first bytes of an input stand for all of it, where what follows them changes nothing.
pub known_by : {X : Type 0} (f : List ℕ → X) (most : ℕ) → ((xs : List ℕ) → f (take most xs) ≡ f xs) → (known : Option (List ℕ)) (A : X → Type 0) (v : List ℕ) (n : ℕ) → n ≡ most
    → IfSome known (λ xs. v ≡ take n xs) → A (f v) → IfSome known (λ xs. A (f xs))
known_by f most cut None A v n m e h = tt
known_by f most cut (Some xs) A v n m e h = subst A (ap f (e ∙ ap (λ (k : ℕ). take k xs) m) ∙ cut xs) h

-- A writer that was not asked has the empty text more, and so a beginning of any.
pub quiet : (held : Option (List ℕ)) (text : List ℕ) → [] ≡ text → Appends held held text
quiet held text e = subst (Appends held held) e (Appends-nil held)

pub unasked : (held : Option (List ℕ)) (text : List ℕ) → AppendsPart held held text
unasked held text = (0, Appends-nil held)

pub all_unasked : {X : Type 0} (known : Option X) (held : Option (List ℕ)) (f : X → List ℕ) → IfSome known (λ x. AppendsPart held held (f x))
all_unasked None held f = tt
all_unasked (Some x) held f = unasked held (f x)

-- What was written as a whole, or a beginning of it, is the text.
module _ {T E : Type 0} (r : Result T E) (old new : Option (List ℕ)) (written text : List ℕ) (e : written ≡ text) where
  pub all_written : OnOk r (Appends old new written) → OnOk r (Appends old new text)
  all_written h = subst (λ (w : List ℕ). OnOk r (Appends old new w)) e h

  pub part_written : OnErr r (AppendsPart old new written) → OnErr r (AppendsPart old new text)
  part_written h = subst (λ (w : List ℕ). OnErr r (AppendsPart old new w)) e h

-- A text that stands first in its buffer.
pub first_is : (t rest written : List ℕ) (n : ℕ) → n ≡ length t → written ≡ t ++ rest → take n written ≡ t
first_is t rest written n e w = ap₂ take e w ∙ take-append_seam t rest

-- What is made of an input that is split where its dictionary ends.
pub split_there : {X : Type 0} (f : List ℕ → List ℕ → X) (input dictionary rest : List ℕ) (n : ℕ) → n ≡ min dictionary_bytes (length input)
    → dictionary ≡ take n input → rest ≡ drop n input → f dictionary rest ≡ f (take dictionary_bytes input) (drop dictionary_bytes input)
split_there f input dictionary rest n m d r =
    ap₂ f (d ∙ ap (λ (k : ℕ). take k input) m ∙ take_min dictionary_bytes input) (r ∙ ap (λ (k : ℕ). drop k input) m ∙ drop_min dictionary_bytes input)
