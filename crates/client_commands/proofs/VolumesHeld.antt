-- How many pages more are held of all volumes, counted volume by volume.
use Rattle.std.proofs.Common.{◌≡◌, ◌∙◌, ◌+◌, ◌-◌, ◌<◌, ◌≤◌, ℕ, zero, suc, List, [], ◌∷◌, Option, Some, None, get_or, take, refl, sym, ap, subst, arith, add-one}
use Rattle.std.proofs.Math.Logic.{∥∥₁_map}
use Rattle.std.proofs.lemmas.List.Sums.{sum_by-cons, sum_by-take-le}
use Rattle.std.specs.List.{sum_by}
use Rattle.std.specs.Option.{option_map}
use Rattle.file_commands.specs.release_list.Standing.{Files}
use Rattle.file_commands.specs.free_space.Spaces.{Spaces, kept_spaces, volume_of}
use Rattle.file_commands.specs.free_space.VolumeSpace.{VolumeSpace, as_kept}
use Rattle.file_commands.proofs.OfFreeSpace.Kept.{volume_of-kept}
use Rattle.file_commands.proofs.OfStoredSet.Stable.{nothing}
use Rattle.file_commands.specs.domain_memory.Held.{held_if_open}
use Rattle.file_commands.specs.domain_memory.Memory.{kept_in}
use Rattle.file_commands.specs.domain_memory.declared.memory.DomainMemory.{DomainMemory}
use Rattle.file_commands.specs.domain_standing.Domain.{DomainNow}
use Rattle.file_commands.specs.domain_standing.Holders.{AreHeldAt}
use Rattle.file_commands.specs.domain_standing.Chains.{IndexesAt}
use Rattle.file_commands.specs.domain_state.History.{StandsForSome}
use Rattle.file_commands.specs.domain_state.Room.{HoldsFew}

-- what the first volumes hold
abbrev pub first_hold : ℕ → Spaces → ℕ
first_hold n space = sum_by held_if_open (take n space.volumes)

one_more : (xs : List (Option VolumeSpace)) (n : ℕ) → sum_by held_if_open (take (suc n) xs) ≡ sum_by held_if_open (take n xs) + held_if_open (get_or xs n None)
one_more [] zero = refl
one_more [] (suc n) = refl
one_more (x ∷ xs) zero = omega (arith, sum_by-cons held_if_open x [])
one_more (x ∷ xs) (suc n) =
    let rest = one_more xs n in
    omega (arith, rest, sum_by-cons held_if_open x (take (suc n) xs), sum_by-cons held_if_open x (take n xs))

all_none : (xs : List (Option VolumeSpace)) → ((k : ℕ) → get_or xs k None ≡ None) → sum_by held_if_open xs ≡ 0
all_none [] none = refl
all_none (x ∷ xs) none =
    let rest = all_none xs (λ k. none (suc k)) in
    let first = ap held_if_open (none zero) in
    omega (arith, rest, first, sum_by-cons held_if_open x xs)

-- if there is none after them
all_first : (n : ℕ) (xs : List (Option VolumeSpace)) → ((k : ℕ) → n ≤ k → get_or xs k None ≡ None) → sum_by held_if_open xs ≤ sum_by held_if_open (take n xs)
all_first zero xs none = let nothing_there = all_none xs (λ k. none k (omega arith)) in omega (arith, nothing_there)
all_first (suc n) [] none = omega arith
all_first (suc n) (x ∷ xs) none =
    let rest = all_first n xs (λ k from. none (suc k) (omega (arith, from))) in
    omega (arith, rest, sum_by-cons held_if_open x xs, sum_by-cons held_if_open x (take n xs))

-- ---- the loop over volumes

module _ (space : Spaces) where
  at_place : (s : Spaces) (n vol : ℕ) → vol ≡ n + 1 → volume_of s vol ≡ get_or s.volumes n None
  at_place s n vol is = let place : vol - 1 ≡ n = omega (arith, is) in ap (λ k. get_or s.volumes k None) place

  pub next_volume : (n vol left more : ℕ) → vol ≡ n + 1 → first_hold n space + left ≤ first_hold n (kept_spaces space) + 24 → held_if_open (volume_of space vol) ≤ held_if_open (volume_of (kept_spaces space) vol) + more → more ≤ left
      → first_hold (n + 1) space + (left - more) ≤ first_hold (n + 1) (kept_spaces space) + 24
  next_volume n vol left more is before here few =
      let now = ap (λ k. first_hold k space) (add-one n) ∙ one_more space.volumes n in
      let kept = ap (λ k. first_hold k (kept_spaces space)) (add-one n) ∙ one_more (kept_spaces space).volumes n in
      let held = ap held_if_open (at_place space n vol is) in
      let was = ap held_if_open (at_place (kept_spaces space) n vol is) in
      omega (arith, now, kept, held, was, before, here, few)

-- ---- there are no more than eight

no_value : (v : VolumeSpace) → ¬ Some v ≡ None
no_value v e = cc

module _ (d : DomainNow) (files : Files) (indexes : IndexesAt) where
  not_behind : (vol : ℕ) (o : Option VolumeSpace) → 8 < vol → AreHeldAt d files indexes vol o → o ≡ None
  not_behind vol None behind held = refl
  not_behind vol (Some v) behind held = absurd (let last = held.0.last in absurd (omega (arith, last, behind)))

was_none : (o : Option VolumeSpace) → option_map as_kept o ≡ None → o ≡ None
was_none None is = refl
was_none (Some v) is = absurd (no_value (as_kept v) is)

module _ (memory : DomainMemory) (stands : ∥ StandsForSome memory ∥₁) where
  behind_none : (k : ℕ) → 8 ≤ k → get_or memory.space.volumes k None ≡ None
  behind_none k from = by_value (get_or memory.space.volumes k None) refl
    where
      none_behind : StandsForSome memory → get_or memory.space.volumes k None ≡ None
      none_behind some =
          let owned = some.1.stands.owned in
          let vol : k + 1 - 1 ≡ k = omega arith in
          let kept = not_behind (kept_in memory) some.1.stands.files some.1.stands.indexes (k + 1) (volume_of (kept_spaces memory.space) (k + 1)) (omega (arith, from)) (owned.spaces (k + 1) (omega arith)) in
          subst (λ n. get_or memory.space.volumes n None ≡ None) vol (was_none (volume_of memory.space (k + 1)) (sym (volume_of-kept memory.space (k + 1)) ∙ kept))

      by_value : (o : Option VolumeSpace) → get_or memory.space.volumes k None ≡ o → o ≡ None
      by_value None is = refl
      by_value (Some v) is = absurd (nothing (∥∥₁_map stands (λ some. no_value v (sym is ∙ none_behind some))))

  -- so the count of eight is that of all
  pub all_counted : (left : ℕ) → first_hold 8 memory.space + left ≤ first_hold 8 (kept_spaces memory.space) + 24 → HoldsFew memory
  all_counted left counted =
      let all = all_first 8 memory.space.volumes behind_none in
      let kept = sum_by-take-le held_if_open (kept_spaces memory.space).volumes 8 in
      omega (arith, all, kept, counted)
