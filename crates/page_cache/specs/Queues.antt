-- The queue of dirty frames: their homes in the order in which they are written home.
use Rattle.std.specs.Prelude.{◌≡◌, ◌==◌, ◌+◌, ◌*◌, ◌^◌, ◌<◌, ℕ, Bool, false, List, Option, Some, None, IsSome, length, if◌then◌else◌}
use Rattle.std.specs.Option.{ForSome, option_map, option_map_or}
use Rattle.page_store.specs.domain_base.declared.place.Home.{Home}
use Rattle.page_store.specs.sorted_sets.Homes.{number_of}
use Rattle.page_store.specs.sorted_sets.Rising.{value_at}
use Rattle.page_cache.specs.Entries.{Entries, clean_in, groups_in, one_for}

-- the place of a home's number after those of older groups
abbrev pub place_at : ℕ → ℕ → ℕ
place_at group number = group * 2 ^ 64 + number

-- the place in the queue of a frame that waits for a group, and none of a clean one
abbrev pub place_of : Option ℕ → ℕ → Option ℕ
place_of group number = option_map (λ g. place_at g number) group

abbrev pub is_place : Option ℕ → ℕ → Bool
is_place place q = option_map_or (λ p. p == q) place false

-- nothing stands at the place of the number, and all others stand where they stood
abbrev pub Leaves : List (ℕ × Home) → List (ℕ × Home) → ℕ → Option ℕ → Type 0
Leaves old new number group =
    (q : ℕ) → value_at new q ≡ (if is_place (place_of group number) q then None else value_at old q)

-- the home stands at the place of its number, and all others stand where they stood
abbrev pub Enters : List (ℕ × Home) → List (ℕ × Home) → Home → Option ℕ → Type 0
Enters old new home group =
    (q : ℕ) → value_at new q
    ≡ (if is_place (place_of group (number_of home)) q then Some home else value_at old q)

-- the groups that frames wait for, by the numbers of their homes
abbrev pub Groups : Type 0
Groups = ℕ → Option ℕ

-- the groups with this group, or none, for a number
abbrev pub with_group : ℕ → Option ℕ → Groups → Groups
with_group number group groups q = if number == q then group else groups q

-- a queue has the home of each frame that waits at its place, and no other
pub record IsQueueOf (groups : Groups) (queue : List (ℕ × Home)) : Type 0 where
  pub narrow : (number : ℕ) → ForSome (groups number) (λ group. number < 2 ^ 64)
  pub listed : (number : ℕ) → ForSome (place_of (groups number) number)
      (λ place. IsSome (value_at queue place))
  pub only : (place : ℕ) → ForSome (value_at queue place)
      (λ home. place_of (groups (number_of home)) (number_of home) ≡ Some place)

-- a home's frame waited for the one group, or for none, and waits for the other now, or for none
pub record Moves (home : Home) (old new : Option ℕ) (queue moved : List (ℕ × Home)) (len moved_len : ℕ) : Type 0 where
  pub queues : (groups : Groups) → IsQueueOf groups queue → groups (number_of home) ≡ old
      → IsQueueOf (with_group (number_of home) new groups) moved
  pub lens : (groups : Groups) → IsQueueOf groups queue → groups (number_of home) ≡ old
      → moved_len + one_for old ≡ len + one_for new

-- the queue is that of these frames, each clean or dirty, and it has room for more than 1,024
pub record IsSound (entries : Entries) (queue : List (ℕ × Home)) (len room : ℕ) : Type 0 where
  pub queued : IsQueueOf (groups_in entries) queue
  pub parts : length (clean_in entries) + len ≡ length entries
  pub fit : 1024 < room
