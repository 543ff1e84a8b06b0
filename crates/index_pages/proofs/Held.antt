-- The pages of an index that gets one more are used.
use Rattle.std.proofs.Common.{◌≡◌, ◌∙◌, ◌⊎◌, ℕ, zero, suc, ◌<◌, List, [], ◌∷◌, ◌++◌, length, drop, take, inl, inr, sym, subst, arith}
use Rattle.std.specs.List.{insert}
use Rattle.std.specs.Prelude.{Contains}
use Rattle.std.proofs.lemmas.List.{take-append-drop}
use Rattle.std.proofs.lemmas.List.Elements.{Contains-append_cases, Contains-append_left, Contains-append_right}
use Rattle.file_release.specs.domain_base.declared.place.Home.{Home}
use Rattle.file_release.specs.free_space.VolumeSpace.{with_page}
use Rattle.file_release.specs.free_space.Spaces.{CanTake, IsHeld, Spaces, change_volume}
use Rattle.file_release.proofs.OfFreeSpace.Places.{free_can, held_taken}
use Rattle.file_release.proofs.OfFileChains.Spaces.{held_still}
use Rattle.index_pages.specs.Changes.{AreHeld}

module _ (homes : List Home) (number : ℕ) (onto : Home) where
  whole : take number homes ++ drop number homes ≡ homes
  whole = take-append-drop number homes

  -- a home of the longer list is the new one or one of the others
  pub in_inserted : (h : Home) → Contains (insert homes number onto) h → (onto ≡ h) ⊎ Contains homes h
  in_inserted h there = by_side (Contains-append_cases (take number homes) (onto ∷ drop number homes) h there)
    where
      behind : Contains (onto ∷ drop number homes) h → (onto ≡ h) ⊎ Contains homes h
      behind (zero, below, is) = inl is
      behind (suc k, below, is) = inr (subst (λ (hs : List Home). Contains hs h) whole (Contains-append_right (take number homes) (drop number homes) h (k, omega (arith, below), is)))

      by_side : Contains (take number homes) h ⊎ Contains (onto ∷ drop number homes) h → (onto ≡ h) ⊎ Contains homes h
      by_side (inl in_front) = inr (subst (λ (hs : List Home). Contains hs h) whole (Contains-append_left (take number homes) (drop number homes) h in_front))
      by_side (inr at_or_behind) = behind at_or_behind

  pub held_inserted : (space : Spaces) → AreHeld space homes → CanTake space onto.vol onto.page → AreHeld (change_volume (with_page onto.page) space onto.vol) (insert homes number onto)
  held_inserted space held can h there = by_home (in_inserted h there)
    where
      now : Spaces
      now = change_volume (with_page onto.page) space onto.vol

      by_home : (onto ≡ h) ⊎ Contains homes h → IsHeld now h.vol h.page
      by_home (inl is) = subst (λ (x : Home). IsHeld now x.vol x.page) is (held_taken space onto.vol onto.page (free_can space onto.vol onto.page can))
      by_home (inr was) = held_still space onto.vol onto.page h.vol h.page (held h was)
