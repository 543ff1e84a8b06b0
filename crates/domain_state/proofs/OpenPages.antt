-- The open members of a start have the pages of the open volumes: those that are held, and those that
-- are free.
use Rattle.std.proofs.Common.{◌≡◌, ◌∙◌, ◌+◌, ◌-◌, ◌<◌, ◌≤◌, ◌↔◌, ℕ, zero, suc, Bool, true, false, List, [], ◌∷◌, Option, Some, None, IfSome, get_or, length, refl, sym, ap, subst, arith, true≢false, if◌then◌else◌}
use Rattle.std.proofs.lemmas.Option.{get_or_from_slice_get}
use Rattle.std.proofs.lemmas.List.Sums.{sum_by-cons}
use Rattle.std.specs.List.{sum_by}
use Rattle.std.specs.Option.{option_map_or}
use Rattle.std.specs.FinMap as map
use Rattle.no_faults.specs.page_store.Pages.{Pages}
use Rattle.no_faults.specs.page_ways.Frame.{frame_in}
use Rattle.no_faults.specs.release_list.Standing.{Files}
use Rattle.no_faults.specs.free_space.Spaces.{free_pages, kept_spaces, volume_of}
use Rattle.no_faults.specs.free_space.VolumeSpace.{VolumeSpace}
use Rattle.no_faults.specs.fileset_model.Filesets.{FilesetMap}
use Rattle.no_faults.specs.legal_histories.Room.{open_pages}
use Rattle.no_faults.specs.legal_histories.State.{Member, State}
use Rattle.no_faults.specs.domain_memory.Held.{held_if_open}
use Rattle.no_faults.specs.domain_memory.Memory.{StandsFor, kept_in}
use Rattle.no_faults.specs.domain_memory.declared.memory.DomainMemory.{DomainMemory}
use Rattle.no_faults.specs.domain_standing.Domain.{DomainNow}
use Rattle.no_faults.specs.domain_standing.Holders.{AreHeldAt}
use Rattle.no_faults.specs.domain_standing.Chains.{IndexesAt}
use Rattle.domain_state.specs.Opening.{IsMemberAs, IsStartOf}
use Rattle.domain_state.proofs.MemberSums.{open_sum, opened_pages, row_sum}

-- the pages of a volume that is there and open
abbrev pub open_of : Option VolumeSpace → ℕ
open_of None = 0
open_of (Some v) = if v.is_open then v.pages else 0

-- ---- if none waits they are held or free

by_open : (b : Bool) (pages used waiting : ℕ) → waiting ≡ 0 → (if b then pages else 0) ≤ (if b then used - waiting else 0) + (if b then pages - used else 0)
by_open true pages used waiting none = omega (arith, none)
by_open false pages used waiting none = omega arith

one_is : (o : Option VolumeSpace) → IfSome o (λ v. v.waiting ≡ []) → open_of o ≤ held_if_open o + free_pages o
one_is None none = omega arith
one_is (Some v) none = by_open v.is_open _ _ _ (ap length none)

pub held_or_free : (xs : List (Option VolumeSpace)) → ((k : ℕ) → IfSome (get_or xs k None) (λ v. v.waiting ≡ [])) → sum_by open_of xs ≤ sum_by held_if_open xs + sum_by free_pages xs
held_or_free [] none = omega arith
held_or_free (x ∷ xs) none =
    let rest = held_or_free xs (λ k. none (suc k)) in
    let first = one_is x (none zero) in
    omega (arith, rest, first, sum_by-cons open_of x xs, sum_by-cons held_if_open x xs, sum_by-cons free_pages x xs)

-- ---- volumes and members

there_within : (xs : List (Option VolumeSpace)) (k : ℕ) (v : VolumeSpace) → get_or xs k None ≡ Some v → k < length xs
there_within [] k v is = absurd (let e : None ≡ Some v = is in absurd (cc))
there_within (x ∷ xs) zero v is = omega arith
there_within (x ∷ xs) (suc k) v is = let rest = there_within xs k v is in omega (arith, rest)

none_some : (m : Member) → ¬ None ≡ Some m
none_some m e = cc

same_test : (a b : Bool) (P : Type 0) → (a ≡ true) ↔ P → (b ≡ true) ↔ P → (m n : ℕ) → m ≡ n → (if a then m else 0) ≡ (if b then n else 0)
same_test true true P p q m n same = same
same_test false false P p q m n same = refl
same_test true false P p q m n same = absurd (true≢false (sym (q.1 (p.0 refl))))
same_test false true P p q m n same = absurd (true≢false (sym (p.1 (q.0 refl))))

module _ (memory : DomainMemory) (all : FilesetMap) (stands : StandsFor memory all) (pages : Pages) (sizes : List ℕ) (start : State) (is : IsStartOf pages (frame_in memory.frame) sizes start) where
  abbrev d : DomainNow
  d = kept_in memory

  abbrev files : Files
  files = stands.stands.files

  abbrev indexes : IndexesAt
  indexes = stands.stands.indexes

  at_volume : (vol : ℕ) (o : Option VolumeSpace) → AreHeldAt d files indexes vol o → (m : Option Member) → map.get start.members vol ≡ m → option_map_or opened_pages m 0 ≡ open_of o
  at_volume vol None not None there = refl
  at_volume vol None not (Some member) there = absurd (not ((is.volumes.members vol member).0 there).there)
  at_volume vol (Some v) held None there =
      let member : Member = record { pages = v.pages; is_open = v.is_open } in
      absurd (none_some member (sym there ∙ (is.volumes.members vol member).1 (record { there = held.0; pages = held.1.count; opened = held.1.opened })))
  at_volume vol (Some v) held (Some member) there =
      let is_as = (is.volumes.members vol member).0 there in
      same_test member.is_open v.is_open _ is_as.opened held.1.opened member.pages v.pages (is_as.pages ∙ sym held.1.count)

  inside : (vol : ℕ) (member : Member) → map.get start.members vol ≡ Some member → (0 < vol) × (vol ≤ 0 + length (kept_spaces memory.space).volumes)
  inside vol member there = by_volume (volume_of (kept_spaces memory.space) vol) refl (stands.stands.owned.spaces vol low)
    where
      is_as : IsMemberAs (frame_in memory.frame).anchor vol member
      is_as = (is.volumes.members vol member).0 there

      low : 1 ≤ vol
      low = is_as.there.first

      by_volume : (o : Option VolumeSpace) → volume_of (kept_spaces memory.space) vol ≡ o → AreHeldAt d files indexes vol o → (0 < vol) × (vol ≤ 0 + length (kept_spaces memory.space).volumes)
      by_volume None at not = absurd (not is_as.there)
      by_volume (Some v) at held = let within = there_within (kept_spaces memory.space).volumes (vol - 1) v at in (omega (arith, low), omega (arith, low, within))

  pub open_is : open_pages start ≡ sum_by open_of (kept_spaces memory.space).volumes
  open_is =
      open_sum (map.values start.members)
      ∙ row_sum opened_pages open_of 0 (kept_spaces memory.space).volumes start.members inside
      (λ k o at.
      let place : 0 + 1 + k - 1 ≡ k = omega arith in
      let here = ap (λ n. get_or (kept_spaces memory.space).volumes n None) place ∙ get_or_from_slice_get (kept_spaces memory.space).volumes k o None at in
      at_volume (0 + 1 + k) o (subst (AreHeldAt d files indexes (0 + 1 + k)) here (stands.stands.owned.spaces (0 + 1 + k) (omega arith))) (map.get start.members (0 + 1 + k)) refl)
