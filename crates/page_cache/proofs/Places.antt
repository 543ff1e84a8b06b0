-- Single places of a queue.
use Rattle.std.proofs.Common.{◌≡◌, ◌∙◌, ℕ, List, Some, None, set, sym, arith}
use Rattle.std.specs.List.{insert, remove}
use Rattle.page_store.specs.domain_base.declared.place.Home.{Home}
use Rattle.page_store.specs.sorted_sets.Homes.{number_of}
use Rattle.page_store.specs.sorted_sets.Rising.{IsGapFor, IsPlaceOf, IsRising, value_at}
use Rattle.page_store.proofs.OfSortedSets.Search.{drops_at_place, drops_in_gap, sets_at_place, sets_in_gap, value_at_place}
use Rattle.page_cache.specs.Queues.{Enters, Leaves, place_at}

none_some : (home : Home) → None ≡ Some home → ⊥
none_some home is = grind arith

module _ (old : List (ℕ × Home)) (rising : IsRising old) where
  -- a home that is put where something stood
  pub enters_at : (home : Home) (group index : ℕ) → IsPlaceOf old (place_at group (number_of home)) index
      → Enters old (set old index (place_at group (number_of home), home)) home (Some group)
  enters_at home group index place = sets_at_place old _ index place rising home (0, home)

  -- nothing stands there
  pub is_taken : (number group index : ℕ) (home : Home) → IsPlaceOf old (place_at group number) index
      → value_at old (place_at group number) ≡ None → ⊥
  is_taken number group index home place none =
      none_some _ (sym none ∙ value_at_place old _ index place rising (0, home))

  pub enters_in : (home : Home) (group index : ℕ) → IsGapFor old (place_at group (number_of home)) index
      → Enters old (insert old index (place_at group (number_of home), home)) home (Some group)
  enters_in home group index gap = sets_in_gap old _ index gap home

  pub leaves_at : (number group index : ℕ) (home : Home) → IsPlaceOf old (place_at group number) index
      → Leaves old (remove old index) number (Some group)
  leaves_at number group index home place = drops_at_place old _ index place rising (0, home)

  pub leaves_none : (number group index : ℕ) → IsGapFor old (place_at group number) index
      → Leaves old old number (Some group)
  leaves_none number group index gap = drops_in_gap old _ index gap
