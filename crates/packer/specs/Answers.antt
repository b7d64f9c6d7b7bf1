-- What the calls answer, as the code comes to it: refused, the output too short, or written. Assumes nothing.
use Rattle.std.specs.Prelude.{Ok, Err, Bool, List, ◌++◌, ◌≡◌, refl, ℕ, ◌*◌, ◌<◌, ◌≤◌, length, drop}
use Rattle.std.proofs.Common.{sym, ap, ◌∙◌, arith, lt-ltb, le-ltb}
use Rattle.paper.specs.Dictionary.{dictionary_of}
use Rattle.paper.specs.Kernel.{good}
use Rattle.paper.specs.Calls.{Written, deliver, accepted, relaid}
use Rattle.laws.specs.Relay.{relay-length}
use Rattle.words.specs.declared.refusal.Refusal.TheVariants.{OutputTooShort}
use Rattle.words.specs.declared.answer.Refused.{Refused}
use Rattle.words.specs.Answer.{Answer, Wrote, accepting, refused_at}
use Rattle.kernel.specs.Marks.{Said, place_count, Says, says_refused, says_instrs}
use Rattle.kernel.specs.Accepting.{accepted_kernel}
use Rattle.packer.specs.Forms.{form_of, forms_of, kernel_of, Taken, result_of, result_end}
use Rattle.packer.specs.Stages.{end_few}

-- n bytes are delivered: the output is too short, or it is not.
deliver_short : (result out : List ℕ) (n : ℕ) → length result ≡ n → length out < n → Wrote (deliver result out) (Err (refused_at OutputTooShort 0)) out
unfolding deliver
deliver_short result out n e h = rw (e, lt-ltb _ _ h) (refl, refl)

deliver_whole : (result out : List ℕ) (n : ℕ) → length result ≡ n → n ≤ length out → Wrote (deliver result out) (accepting n) (result ++ drop n out)
unfolding deliver
deliver_whole result out n e h = rw (e, le-ltb _ _ h) (refl, refl)

-- ---- an accepted kernel laid out, whose new end is `end`

module _ (packs : Bool) (dictionary kernel : List ℕ) (taken : Taken packs dictionary kernel) (end : ℕ) (e : end ≡ result_end packs dictionary kernel) where
  pub end_most : end < place_count
  end_most = omega (arith, end_few (forms_of packs) dictionary kernel (kernel_of packs dictionary kernel) taken (form_of packs (dictionary_of dictionary)))

  result_length : length (result_of packs dictionary kernel) ≡ 8 * end
  result_length = relay-length (form_of packs (dictionary_of dictionary)) (kernel_of packs dictionary kernel) ∙ ap (λ (x : ℕ). 8 * x) (sym e)

  module _ (out : List ℕ) where
    pub laid_short : length out < 8 * end → Wrote (deliver (result_of packs dictionary kernel) out) (Err (refused_at OutputTooShort 0)) out
    laid_short h = deliver_short (result_of packs dictionary kernel) out (8 * end) result_length h

    -- The output is long enough.
    pub laid_room : 8 * end ≤ length out → 8 * result_end packs dictionary kernel ≤ length out
    laid_room h = rw e at h

    pub laid_written : (after : List ℕ) → 8 * end ≤ length out
        → after ≡ result_of packs dictionary kernel ++ drop (8 * result_end packs dictionary kernel) out
        → Wrote (deliver (result_of packs dictionary kernel) out) (accepting (8 * end)) after
    laid_written after h a =
        let w = deliver_whole (result_of packs dictionary kernel) out (8 * end) result_length h in
        (w.0, (rw (← e) at a) ∙ w.1)

-- ---- the call, by what is said of the kernel

module _ (packs : Bool) (dictionary kernel marks : List ℕ) (said : Said) (says : Says (accepted (forms_of packs) dictionary kernel) said marks) where
  -- What the call is.
  abbrev call : List ℕ → Written
  call out = relaid (form_of packs (dictionary_of dictionary)) out (accepted (forms_of packs) dictionary kernel)

  pub call_refused : (f : Refused) → said ≡ Err f → (out : List ℕ) → Wrote (call out) (Err f) out
  call_refused f e out =
      let p = says_refused (accepted (forms_of packs) dictionary kernel) said marks says f e in
      rw (p.0, p.1) (refl, refl)

  module _ (count : ℕ) (e : said ≡ Ok count) where
    is_good : accepted (forms_of packs) dictionary kernel ≡ good (kernel_of packs dictionary kernel)
    unfolding kernel_of
    is_good = (says_instrs (accepted (forms_of packs) dictionary kernel) said marks says count e).0

    pub call_taken : Taken packs dictionary kernel
    call_taken = accepted_kernel (forms_of packs) dictionary kernel (kernel_of packs dictionary kernel) is_good

    pub call_laid : (r : Answer) (out after : List ℕ) → Wrote (deliver (result_of packs dictionary kernel) out) r after → Wrote (call out) r after
    call_laid r out after w = rw is_good w
