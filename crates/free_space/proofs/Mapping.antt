-- A loop that changes each volume.
use Rattle.std.proofs.Common.{◌≡◌, ℕ, ◌+◌, ◌-◌, ◌<◌, ◌≤◌, List, length, get_or, map, Option, None, set, refl, sym, ◌∙◌, ap, subst, arith, ⊎_elim}
use Rattle.std.proofs.lemmas.Bool.{cases_eq}
use Rattle.std.proofs.lemmas.List.{length-set, length-map, get_or-set_same, get_or-set_other, get_or-map, get_or_read, ext_get_or}
use Rattle.std.specs.Option.{option_map}
use Rattle.free_space.specs.VolumeSpace.{VolumeSpace}
use Rattle.free_space.specs.Spaces.{Spaces, change_volumes}

-- the first i volumes are changed, and the others are as they were
pub record IsPartMapped (change : VolumeSpace → VolumeSpace) (old new : List (Option VolumeSpace)) (i : ℕ) : Type 0 where
  pub len : length new ≡ length old
  pub changed : (k : ℕ) → k < i → get_or new k None ≡ option_map change (get_or old k None)
  pub others : (k : ℕ) → i ≤ k → get_or new k None ≡ get_or old k None

pub none_mapped : (change : VolumeSpace → VolumeSpace) (old : List (Option VolumeSpace)) → IsPartMapped change old old 0
none_mapped change old = record { len = refl; changed = λ k below. absurd (omega arith); others = λ k _. refl }

pub more_mapped : (change : VolumeSpace → VolumeSpace) (old new : List (Option VolumeSpace)) (i : ℕ) (v : Option VolumeSpace) → IsPartMapped change old new i →
    i < length new → v ≡ option_map change (get_or new i None) → IsPartMapped change old (set new i v) (i + 1)
more_mapped change old new i v part within is = record {
  len = length-set new i v ∙ part.len;
  changed = λ k below. ⊎_elim
      (λ here. subst (λ x. get_or (set new i v) x None ≡ option_map change (get_or old x None)) (sym here)
      (get_or-set_same new i v None within ∙ is ∙ ap (option_map change) (part.others i (omega arith))))
      (λ apart. get_or-set_other new i k v None apart ∙ part.changed k (omega arith)) (cases_eq k i);
  others = λ k after. get_or-set_other new i k v None (λ same. absurd (omega arith)) ∙ part.others k (omega arith);
}

all_mapped : (change : VolumeSpace → VolumeSpace) (old new : List (Option VolumeSpace)) (i : ℕ) → IsPartMapped change old new i → length new ≤ i →
    new ≡ map (option_map change) old
all_mapped change old new i part past =
    ext_get_or None new (map (option_map change) old) (part.len ∙ sym (length-map old (option_map change)))
    (λ k within. part.changed k (omega arith) ∙ sym (get_or-map (option_map change) old k None None (omega (arith, part.len))))

-- all volumes are changed where the loop ends
pub changed_all : (change : VolumeSpace → VolumeSpace) (items old new : List (Option VolumeSpace)) (misses i : ℕ) (s : Spaces) → record { volumes = items; misses = misses } ≡ s →
    old ≡ items → IsPartMapped change old new i → length new ≤ i → record { volumes = new; misses = misses } ≡ change_volumes change s
changed_all change items old new misses i s is read part past =
    let at : List (Option VolumeSpace) → Spaces = λ vs. record { volumes = vs; misses = misses } in
    ap at (all_mapped change old new i part past ∙ ap (map (option_map change)) read) ∙ ap (change_volumes change) is

-- what is read at a volume's place is the volume
pub volume_read : (vs : List (Option VolumeSpace)) (i vol : ℕ) (x : Option VolumeSpace) → i < length vs → i + 1 ≡ vol → x ≡ get_or vs i x → x ≡ get_or vs (vol - 1) None
volume_read vs i vol x within next read =
    let place : i ≡ vol - 1 = omega arith in
    get_or_read vs i x within read None ∙ ap (λ k. get_or vs k None) place
