-- What is shown of pages that do not change.
use Rattle.std.proofs.Common.{◌≡◌, ℕ, Bool, true, false, cond, Option, Some, None, IsSomeAnd, List, [], ◌∷◌, Contains, refl, sym, subst}
use Rattle.std.specs.Option.{option_and_then}
use Rattle.index_pages.specs.domain_base.declared.place.Home.{Home}
use Rattle.index_pages.specs.domain_base.declared.place.Kind.{Kind}
use Rattle.index_pages.specs.domain_base.declared.place.Kind.TheVariants.{Directory, File}
use Rattle.index_pages.specs.page_store.Bitfiles.{shown_index}
use Rattle.index_pages.specs.page_store.Pages.{Pages}
use Rattle.index_pages.specs.metadata_cells.Chain.{PlacedCell}
use Rattle.index_pages.specs.tag_dirs.TagPage.{next_of}
use Rattle.index_pages.specs.extent_maps.declared.run.PagePlace.{PagePlace}
use Rattle.index_pages.specs.extent_maps.declared.run.PagePlace.TheVariants.{Absent, At, Hole}
use Rattle.index_pages.specs.file_chains.Files.{places_of}
use Rattle.index_pages.specs.fileset_files.Shown.{AreIndexPages, page_there, shown_page}
use Rattle.index_pages.specs.Homes.{AreIndexHomes, next_at}
use Rattle.index_pages.proofs.Homes.{head_there, tail_there}

-- what is so of a live file
pub live_map : (removed : Bool) (P Q : List PlacedCell → Type 0) (cells : List PlacedCell) → (P cells → Q cells) → IsSomeAnd (cond removed None (Some cells)) P → IsSomeAnd (cond removed None (Some cells)) Q
live_map true P Q cells more is = is
live_map false P Q cells more is = more is

module _ (old new : Pages) where
  -- what stands at a place
  place_kept : (place : PagePlace) → ((home : Home) → place ≡ At home → new home ≡ old home) → page_there new place ≡ page_there old place
  place_kept (At home) same = same home refl
  place_kept Hole same = refl
  place_kept Absent same = refl

  -- a page of a file
  pub page_kept : (cells : List PlacedCell) (kind : Kind) (k : ℕ) → ((home : Home) → places_of cells k ≡ At home → new home ≡ old home) → shown_page new cells kind k ≡ shown_page old cells kind k
  page_kept cells Directory k same = place_kept (places_of cells k) same
  page_kept cells File k same = refl

  -- an index
  pub index_kept : (first : Option Home) (homes : List Home) (shown : List (List ℕ)) → AreIndexHomes old first homes → ((home : Home) → Contains homes home → new home ≡ old home)
      → AreIndexPages old first shown → AreIndexPages new first shown
  index_kept None [] [] are same shows = tt
  index_kept None [] (p ∷ ps) are same shows = absurd shows
  index_kept None (h ∷ homes) shown are same shows = absurd are
  index_kept (Some first) [] shown are same shows = absurd are
  index_kept (Some first) (h ∷ homes) [] are same shows = absurd shows
  index_kept (Some first) (h ∷ homes) (p ∷ ps) are same shows =
      subst (λ (o : Option (List ℕ)). IsSomeAnd o (λ stored. (p ≡ shown_index stored) × AreIndexPages new (next_of stored) ps)) (sym (same first (subst (Contains (h ∷ homes)) (sym are.0) (head_there h homes))))
      (by_page (old first) shows (subst (λ (x : Home). AreIndexHomes old (next_at old x) homes) (sym are.0) are.2) (λ next here there. index_kept next homes ps here (λ home inside. same home (tail_there h homes home inside)) there))
    where
      by_page : (o : Option (List ℕ)) → IsSomeAnd o (λ stored. (p ≡ shown_index stored) × AreIndexPages old (next_of stored) ps) → AreIndexHomes old (option_and_then next_of o) homes
          → ((next : Option Home) → AreIndexHomes old next homes → AreIndexPages old next ps → AreIndexPages new next ps) → IsSomeAnd o (λ stored. (p ≡ shown_index stored) × AreIndexPages new (next_of stored) ps)
      by_page None shows are later = shows
      by_page (Some stored) shows are later = (shows.0, later (next_of stored) are shows.1)
