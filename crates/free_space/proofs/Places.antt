-- A volume after a call that changes it, and after one that changes another.
use Rattle.std.proofs.Common.{◌≡◌, ℕ, ◌-◌, true, false, Option, Some, None, IsSomeAnd, length, get_or, nat_eq, refl, sym, ◌∙◌, ap, subst, ⊎_elim}
use Rattle.std.proofs.lemmas.Bool.{cases_lt, eq-eqb, or_left}
use Rattle.std.proofs.lemmas.List.{get_or-set_same, get_or-set_other, get_or_past, set_past}
use Rattle.std.specs.Option.{option_map}
use Rattle.std.specs.FinSet.{contains}
use Rattle.free_space.proofs.Used.{contains-inserted}
use Rattle.free_space.specs.VolumeSpace.{VolumeSpace, IsFreePage, with_page, is_waiting}
use Rattle.free_space.specs.Spaces.{Spaces, volume_of, change_volume, IsFree, CanTake, IsHeld}

pub volume_of-change_same : (change : VolumeSpace → VolumeSpace) (s : Spaces) (vol : ℕ) → volume_of (change_volume change s vol) vol ≡ option_map change (volume_of s vol)
volume_of-change_same change s vol =
    ⊎_elim (λ within. get_or-set_same s.volumes (vol - 1) (option_map change (volume_of s vol)) None within)
    (λ past.
    ap (λ vs. get_or vs (vol - 1) None) (set_past s.volumes (vol - 1) (option_map change (volume_of s vol)) past)
    ∙ get_or_past s.volumes (vol - 1) None past ∙ sym (ap (option_map change) (get_or_past s.volumes (vol - 1) None past)))
    (cases_lt (vol - 1) (length s.volumes))

pub volume_of-change_other : (change : VolumeSpace → VolumeSpace) (s : Spaces) (vol other : ℕ) → (other - 1 ≡ vol - 1 → ⊥) → volume_of (change_volume change s vol) other ≡ volume_of s other
volume_of-change_other change s vol other apart = get_or-set_other s.volumes (vol - 1) (other - 1) (option_map change (volume_of s vol)) None apart

held_page : (o : Option VolumeSpace) (p : ℕ) → IsSomeAnd o (λ v. IsFreePage v p) →
    IsSomeAnd (option_map (with_page p) o) (λ v. (contains v.used p ≡ true) × (is_waiting v p ≡ false))
held_page None p free = free
held_page (Some v) p free = (contains-inserted v.used p p ∙ or_left (nat_eq p p) (contains v.used p) (eq-eqb p p refl), free.settled)

-- a page that was taken is held
pub held_taken : (s : Spaces) (vol p : ℕ) → IsFree s vol p → IsHeld (change_volume (with_page p) s vol) vol p
held_taken s vol p free =
    subst (λ o. IsSomeAnd o (λ v. (contains v.used p ≡ true) × (is_waiting v p ≡ false))) (sym (volume_of-change_same (with_page p) s vol))
    (held_page (volume_of s vol) p free)

free_taken : (o : Option VolumeSpace) (p : ℕ) → IsSomeAnd o (λ v. (v.is_open ≡ true) × IsFreePage v p) → IsSomeAnd o (λ v. IsFreePage v p)
free_taken None p can = can
free_taken (Some v) p can = can.1

-- a page that can be taken is free
pub free_can : (s : Spaces) (vol p : ℕ) → CanTake s vol p → IsFree s vol p
free_can s vol p can = free_taken (volume_of s vol) p can
