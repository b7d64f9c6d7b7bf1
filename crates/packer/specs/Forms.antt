-- Which form each word gets, and which kernels are taken. Assumes nothing.
use Rattle.std.specs.Prelude.{Bool, true, false, cond, List, ◌≡◌, ℕ, eqb}
use Rattle.std.proofs.Math.Option.{Option, none, some}
use Rattle.std.proofs.Common.{eq-eqb, ne_eqb}
use Rattle.paper.specs.Dictionary.{Dictionary, dictionary_of}
use Rattle.paper.specs.Shorten.{shorten}
use Rattle.paper.specs.Kernel.{Instr, Forms, long_only, long_and_short}
use Rattle.paper.specs.Packing.{Form, relay}
use Rattle.paper.specs.Calls.{accepted}
use Rattle.laws.specs.Names.{long_form, new_end}
use Rattle.kernel.specs.Marks.{instrs_of}
use Rattle.kernel.specs.Accepting.{AcceptedKernel}

-- Packing shortens each word that can be, unpacking none.
abbrev pub form_of : Bool → Dictionary → Form
form_of true D = shorten D
form_of false D = long_form

-- Packing takes long words only, unpacking both.
abbrev pub forms_of : Bool → Forms
forms_of true = long_only
forms_of false = long_and_short

-- The short word that a number stands for where forms are kept: 0 is none.
abbrev pub recalled : ℕ → Option ℕ
recalled short = cond (eqb short 0) none (some short)

pub recalled-none : (short : ℕ) → short ≡ 0 → recalled short ≡ none
recalled-none short h = rw (eq-eqb short 0 h)

pub recalled-some : (short : ℕ) → (short ≡ 0 → ⊥) → recalled short ≡ some short
recalled-some short h = rw (ne_eqb short 0 h)

-- The instructions of a kernel, which is packed from long words only; none of one that is refused.
unfoldable pub kernel_of : Bool → List ℕ → List ℕ → List Instr
kernel_of packs dictionary kernel = instrs_of (accepted (forms_of packs) dictionary kernel)

-- It is accepted.
abbrev pub Taken : Bool → List ℕ → List ℕ → Type 0
Taken packs dictionary kernel = AcceptedKernel (forms_of packs) dictionary kernel (kernel_of packs dictionary kernel)

-- The bytes that it becomes, and the place past the last of them.
abbrev pub result_of : Bool → List ℕ → List ℕ → List ℕ
result_of packs dictionary kernel = relay (form_of packs (dictionary_of dictionary)) (kernel_of packs dictionary kernel)

abbrev pub result_end : Bool → List ℕ → List ℕ → ℕ
result_end packs dictionary kernel = new_end (form_of packs (dictionary_of dictionary)) (kernel_of packs dictionary kernel)
