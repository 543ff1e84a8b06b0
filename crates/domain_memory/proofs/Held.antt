-- How many pages of open volumes are held, over the changes of free space.
use Rattle.std.proofs.Common.{◌≡◌, ◌∙◌, ◌+◌, ◌-◌, ◌≤◌, ◌&&◌, ◌||◌, ℕ, zero, suc, Bool, true, false, not, cond, nat_eq, List, [], ◌∷◌, Option, Some, None, length, get_or, set, map, sum_by, refl, sym, ap, subst, arith, if◌then◌else◌}
use Rattle.std.proofs.lemmas.Bool.{eq-eqb, ne_eqb, or_left, or_right, true≢false}
use Rattle.std.proofs.lemmas.List.{length_push}
use Rattle.std.proofs.lemmas.List.Sums.{sum_by-cons}
use Rattle.std.specs.Cmp.{nat_cmp_total}
use Rattle.std.specs.List.{AllByRecursion, IsDistinct}
use Rattle.std.specs.Option.{IfSome, option_map}
use Rattle.std.specs.Ordering.{nat_cmp}
use Rattle.std.specs.FinSet.{FinSet, contains, len, len-remove, remove}
use Rattle.standing_laws.proofs.OfFreeSpace.Used.{contains-removed, same_pages, some_used}
use Rattle.standing_laws.specs.free_space.Sound.{AreSound, IsSoundVolume, same_page}
use Rattle.standing_laws.specs.free_space.Spaces.{Spaces, change_volume, change_volumes, kept_spaces, volume_of}
use Rattle.standing_laws.specs.free_space.VolumeSpace.{VolumeSpace, is_among, keeping, with_none_waiting, with_waiting, without_waiting}
use Rattle.standing_laws.specs.free_space.declared.waiting.Waiting.{Waiting}
use Rattle.standing_laws.proofs.OfFreeSpace.Apart.{head_apart, tail_apart}
use Rattle.standing_laws.proofs.OfFreeSpace.Freeing.{contains-without_waiting}
use Rattle.standing_laws.proofs.OfFreeSpace.Kept.{kept-keeping}
use Rattle.domain_memory.specs.Held.{held_if_open, held_open}
use Rattle.domain_memory.specs.Memory.{kept_in}
use Rattle.domain_memory.specs.declared.memory.DomainMemory.{DomainMemory}

-- ---- volume by volume

less_each : (xs ys : List (Option VolumeSpace)) → ((k : ℕ) → held_if_open (get_or xs k None) ≤ held_if_open (get_or ys k None)) → sum_by held_if_open xs ≤ sum_by held_if_open ys
less_each [] ys less = omega arith
less_each (x ∷ xs) [] less =
    let rest = less_each xs [] (λ k. less (suc k)) in
    omega (arith, sum_by-cons held_if_open x xs, less 0, rest)
less_each (x ∷ xs) (y ∷ ys) less =
    let rest = less_each xs ys (λ k. less (suc k)) in
    omega (arith, sum_by-cons held_if_open x xs, sum_by-cons held_if_open y ys, less 0, rest)

-- no more is held if no volume holds more
pub held_less : (s t : Spaces) → ((k : ℕ) → held_if_open (get_or s.volumes k None) ≤ held_if_open (get_or t.volumes k None)) → held_open s ≤ held_open t
held_less s t less = less_each s.volumes t.volumes less

-- nor if the volumes are the same
pub held_same : (s t : Spaces) → ((vol : ℕ) → volume_of s vol ≡ volume_of t vol) → held_open s ≤ held_open t
held_same s t same = held_less s t (λ k.
    let place : k + 1 - 1 ≡ k = omega arith in
    let at : get_or s.volumes k None ≡ get_or t.volumes k None = subst (λ n. get_or s.volumes n None ≡ get_or t.volumes n None) place (same (k + 1)) in
    let held = ap held_if_open at in
    omega (arith, held))

-- ---- a volume is changed

less_set : (xs : List (Option VolumeSpace)) (i : ℕ) (o : Option VolumeSpace) → held_if_open o ≤ held_if_open (get_or xs i None) → sum_by held_if_open (set xs i o) ≤ sum_by held_if_open xs
less_set [] i o less = omega arith
less_set (x ∷ xs) zero o less = omega (arith, sum_by-cons held_if_open x xs, sum_by-cons held_if_open o xs, less)
less_set (x ∷ xs) (suc i) o less =
    let rest = less_set xs i o less in
    omega (arith, sum_by-cons held_if_open x xs, sum_by-cons held_if_open x (set xs i o), rest)

less_if : (b : Bool) (m n : ℕ) → m ≤ n → (if b then m else 0) ≤ (if b then n else 0)
less_if true m n less = less
less_if false m n less = omega arith

less_waiting : (w : Waiting) (o : Option VolumeSpace) → held_if_open (option_map (with_waiting w) o) ≤ held_if_open o
less_waiting w None = omega arith
less_waiting w (Some v) = less_if v.is_open _ _ (omega (arith, length_push v.waiting w))

-- a page waits from now on
pub held_waiting : (w : Waiting) (s : Spaces) (vol : ℕ) → held_open (change_volume (with_waiting w) s vol) ≤ held_open s
held_waiting w s vol = less_set s.volumes (vol - 1) _ (less_waiting w (volume_of s vol))

-- ---- each volume is changed

same_each : (volumes : List (Option VolumeSpace)) → sum_by held_if_open (map (option_map keeping) volumes) ≡ sum_by held_if_open volumes
same_each [] = refl
same_each (None ∷ xs) =
    let rest = same_each xs in
    omega (arith, sum_by-cons held_if_open None xs, sum_by-cons held_if_open None (map (option_map keeping) xs), rest)
same_each (Some v ∷ xs) =
    let rest = same_each xs in
    omega (arith, sum_by-cons held_if_open (Some v) xs, sum_by-cons held_if_open (Some (keeping v)) (map (option_map keeping) xs), rest)

-- what is kept as it is now
pub held_keeping : (s : Spaces) → held_open (change_volumes keeping s) ≡ held_open s
held_keeping s = same_each s.volumes

-- so as much is kept as was held
pub keeps_held : (old new : DomainMemory) → new.space ≡ change_volumes keeping old.space → held_open (kept_in new).space ≡ held_open old.space
keeps_held old new keeps = ap (λ (s : Spaces). held_open (kept_spaces s)) keeps ∙ ap held_open (kept-keeping old.space) ∙ held_keeping old.space

less_all : (change : VolumeSpace → VolumeSpace) → ((v : VolumeSpace) → IsSoundVolume v → held_if_open (Some (change v)) ≤ held_if_open (Some v)) → (volumes : List (Option VolumeSpace)) → AllByRecursion (λ o. IfSome o IsSoundVolume) volumes
    → sum_by held_if_open (map (option_map change) volumes) ≤ sum_by held_if_open volumes
less_all change less [] sound = omega arith
less_all change less (None ∷ xs) sound =
    let rest = less_all change less xs sound.1 in
    omega (arith, sum_by-cons held_if_open None xs, sum_by-cons held_if_open None (map (option_map change) xs), rest)
less_all change less (Some v ∷ xs) sound =
    let rest = less_all change less xs sound.1 in
    omega (arith, sum_by-cons held_if_open (Some v) xs, sum_by-cons held_if_open (Some (change v)) (map (option_map change) xs), less v sound.0, rest)

-- ---- pages that wait come free

not_split : (a e d : Bool) → (a && not (e || d)) ≡ ((not e && a) && not d)
not_split true true d = refl
not_split true false d = refl
not_split false true d = refl
not_split false false d = refl

and_true : (b : Bool) → (b && true) ≡ b
and_true true = refl
and_true false = refl

-- a set without pages that it has, each once in a list
less_waits : (ws : List Waiting) (less used : FinSet nat_cmp) → IsDistinct same_page ws → ((p : ℕ) → is_among ws p ≡ true → contains used p ≡ true) → ((p : ℕ) → contains less p ≡ (contains used p && not (is_among ws p)))
    → len less + length ws ≤ len used
less_waits [] less used apart there is =
    let same = ap len (same_pages less used (λ q. is q ∙ and_true (contains used q))) in
    omega (arith, same)
less_waits (w ∷ ws) less used apart there is =
    let first : contains used w.page ≡ true = there w.page (or_left (nat_eq w.page w.page) (is_among ws w.page) (eq-eqb w.page w.page refl)) in
    let one_less : len (remove used w.page) ≡ len used - 1 = len-remove nat_cmp_total used w.page ∙ ap (λ b. cond b (len used - 1) (len used)) first in
    let missing = head_apart w ws apart in
    let other = λ (q : ℕ) (among : is_among ws q ≡ true) (same : q ≡ w.page). true≢false (sym (subst (λ x. is_among ws x ≡ true) same among) ∙ missing) in
    let rest = less_waits ws less (remove used w.page) (tail_apart w ws apart)
    (λ q among. contains-removed used w.page q ∙ (λ i. not (ne_eqb q w.page (other q among) i) && there q (or_right (nat_eq q w.page) (is_among ws q) among) i))
    (λ q. is q ∙ not_split (contains used q) (nat_eq q w.page) (is_among ws q) ∙ ap (λ b. b && not (is_among ws q)) (sym (contains-removed used w.page q))) in
    omega (arith, rest, one_less, some_used used w.page first)

less_freed : (v : VolumeSpace) → IsSoundVolume v → held_if_open (Some (with_none_waiting v)) ≤ held_if_open (Some v)
less_freed v sound =
    let less = less_waits v.waiting (without_waiting v.used v.waiting) v.used sound.apart sound.held (contains-without_waiting v.used v.waiting) in
    less_if v.is_open _ _ (omega (arith, less))

pub held_freed : (s : Spaces) → AreSound s → held_open (change_volumes with_none_waiting s) ≤ held_open s
held_freed s sound = less_all with_none_waiting less_freed s.volumes sound
