-- What a whole walk refuses.
use Rattle.std.proofs.Common.{◌≡◌, ◌∙◌, ℕ, zero, suc, ◌+◌, ◌-◌, ◌<◌, ◌≤◌, List, [], ◌∷◌, Option, Some, None, length, map, take, refl, sym, ap, subst, arith, inl, inr}
use Rattle.std.proofs.lemmas.Bool.{cases_lt}
use Rattle.std.specs.List.{range_with_len}
use Rattle.plain_program.specs.fileset_values.Orders.{Path}
use Rattle.plain_program.specs.fileset_model.Paths.{directory_refusal, first_refusal, walk_refusal}
use Rattle.plain_program.specs.fileset_model.declared.fileset.FilesetSlot.{FilesetSlot}
use Rattle.plain_program.specs.fileset_values.declared.reply.Refusal.{Refusal}
use Rattle.plain_program.proofs.WalkLemmas.{rest_of_walk, walk-step}
use Rattle.name_space.specs.Walks.{IsClear}

pub clear_root : (slot : FilesetSlot) (path : Path) → directory_refusal slot [] ≡ None → IsClear slot path 0
clear_root slot path clear before low =
    let is : before ≡ 0 = omega (arith, low) in
    subst (λ (n : ℕ). directory_refusal slot (take n path) ≡ None) (sym is) clear

pub clear_more : (slot : FilesetSlot) (path : Path) (count : ℕ) → IsClear slot path count → directory_refusal slot (take (count + 1) path) ≡ None → IsClear slot path (count + 1)
clear_more slot path count clear here before low = elim (cases_lt before (count + 1)) [
  | inl lt ↦ clear before (omega (arith, lt))
  | inr le ↦
      let is : before ≡ count + 1 = omega (arith, low, le) in
      subst (λ (n : ℕ). directory_refusal slot (take n path) ≡ None) (sym is) here
]

-- a directory that refuses nothing is passed
passes : (slot : FilesetSlot) (path : Path) (count : ℕ) → count < length path → directory_refusal slot (take count path) ≡ None
    → rest_of_walk slot path count ≡ rest_of_walk slot path (count + 1)
passes slot path count within clear =
    walk-step slot path count within
    ∙ ap (λ (r : Option Refusal). first_refusal (r ∷ map (directory_refusal slot) (map (λ k. take k path) (range_with_len (count + 1) (length path - (count + 1)))))) clear

-- what is left of the walk after directories that refuse nothing is all of it
rest_is : (slot : FilesetSlot) (path : Path) (count : ℕ) → count ≤ length path → ((before : ℕ) → before < count → directory_refusal slot (take before path) ≡ None)
    → rest_of_walk slot path count ≡ walk_refusal slot path
rest_is slot path zero within clear =
    let all : length path - 0 ≡ length path = omega arith in
    ap (λ n. first_refusal (map (directory_refusal slot) (map (λ k. take k path) (range_with_len 0 n)))) all
rest_is slot path (suc count) within clear =
    let next : suc count ≡ count + 1 = omega arith in
    ap (rest_of_walk slot path) next
    ∙ sym (passes slot path count (omega (arith, within)) (clear count (omega arith)))
    ∙ rest_is slot path count (omega (arith, within)) (λ before lt. clear before (omega (arith, lt)))

-- nothing is refused where no directory up to that of the last name refuses a look
pub walk_clear : (slot : FilesetSlot) (path : Path) → 1 ≤ length path → IsClear slot path (length path - 1) → walk_refusal slot path ≡ None
walk_clear slot path some clear =
    let none_left : length path - length path ≡ 0 = omega arith in
    sym (rest_is slot path (length path) (omega arith) (λ before lt. clear before (omega (arith, lt))))
    ∙ ap (λ n. first_refusal (map (directory_refusal slot) (map (λ k. take k path) (range_with_len (length path) n)))) none_left

-- the first directory that refuses a look refuses the walk
pub walk_refused : (slot : FilesetSlot) (path : Path) (count : ℕ) (refusal : Refusal) → count < length path → ((before : ℕ) → before < count → directory_refusal slot (take before path) ≡ None)
    → directory_refusal slot (take count path) ≡ Some refusal → walk_refusal slot path ≡ Some refusal
walk_refused slot path count refusal within clear here =
    sym (rest_is slot path count (omega (arith, within)) clear)
    ∙ walk-step slot path count within
    ∙ ap (λ (r : Option Refusal). first_refusal (r ∷ map (directory_refusal slot) (map (λ k. take k path) (range_with_len (count + 1) (length path - (count + 1)))))) here

first_none : (r : Option Refusal) (more : List (Option Refusal)) → first_refusal (r ∷ more) ≡ None → r ≡ None
first_none None more none = refl
first_none (Some refusal) more none = cc

-- where the walk refuses nothing no directory on it refuses a look
clear_below : (slot : FilesetSlot) (path : Path) → walk_refusal slot path ≡ None → (n : ℕ) → n ≤ length path → (before : ℕ) → before < n → directory_refusal slot (take before path) ≡ None
clear_below slot path clear zero within before lt = absurd (omega (arith, lt))
clear_below slot path clear (suc n) within before lt =
    let front = clear_below slot path clear n (omega (arith, within)) in
    elim (cases_lt before n) [
      | inl less ↦ front before less
      | inr le ↦
          let is : before ≡ n = omega (arith, lt, le) in
          let all : rest_of_walk slot path n ≡ None = rest_is slot path n (omega (arith, within)) front ∙ clear in
          subst (λ (k : ℕ). directory_refusal slot (take k path) ≡ None) (sym is)
          (first_none (directory_refusal slot (take n path)) _ (sym (walk-step slot path n (omega (arith, within))) ∙ all))
    ]

pub clear_walked : (slot : FilesetSlot) (path : Path) → 1 ≤ length path → walk_refusal slot path ≡ None → IsClear slot path (length path - 1)
clear_walked slot path some clear before low = clear_below slot path clear (length path) (omega arith) before (omega (arith, low, some))
