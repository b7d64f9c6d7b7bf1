-- The awake channels of a state, as a list and as a mask. Assumes nothing.
use Rattle.std.specs.Prelude.{◌≡◌, refl, false, List, map, ℕ, zero, suc, ◌<◌, length}
use Rattle.std.proofs.Common.{sym, ap, ◌∙◌, arith, ext_get_or}
use Rattle.std.proofs.lemmas.List.{length-map}
use Rattle.paper.specs.Machine.{Channel, is_awake}
use Rattle.paper.specs.State.{mask_of}
use Rattle.lanes.specs.Masks.{awake_from, awake_list}
use Rattle.lanes.specs.MaskLaws.{get_d_awake_list, awake_agrees}

awake_from-length : (mask n c : ℕ) → length (awake_from mask n c) ≡ c
unfolding awake_from
awake_from-length mask n zero = refl
awake_from-length mask n (suc c) = ap suc (awake_from-length mask (suc n) c)

-- The list of a mask has 16 channels.
pub awake_list-length : (mask : ℕ) → length (awake_list mask) ≡ 16
unfolding awake_list
awake_list-length mask = awake_from-length mask 0 16

-- Which of a state's 16 channels are awake is what their mask says.
pub awake_list_lem : (cs : List Channel) → length cs ≡ 16 → map is_awake cs ≡ awake_list (mask_of is_awake cs)
awake_list_lem cs e =
    let mask : ℕ = mask_of is_awake cs in
    let count : length (map is_awake cs) ≡ 16 = length-map cs is_awake ∙ e in
    ext_get_or false (map is_awake cs) (awake_list mask) (count ∙ sym (awake_list-length mask))
    (λ i h. let less : i < 16 = omega arith in awake_agrees cs i less ∙ sym (get_d_awake_list mask i less))
