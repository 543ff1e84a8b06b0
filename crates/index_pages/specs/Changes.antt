-- Changes of the pages of an index.
use Rattle.std.specs.Prelude.{◌≡◌, ℕ, zero, suc, false, List, [], ◌∷◌, Option, Some, None, Contains, insert, slice_get, unwrap_or}
use Rattle.file_release.specs.domain_base.declared.place.Home.{Home}
use Rattle.file_release.specs.page_store.Bitfiles.{shown_index, with_entry}
use Rattle.file_release.specs.page_store.Pages.{Pages, same_home}
use Rattle.file_release.specs.page_store.declared.fault.StoreFault.{StoreFault}
use Rattle.file_release.specs.page_store.declared.fault.StoreFault.TheVariants.{NoPage, OutOfMemory}
use Rattle.file_release.specs.free_space.VolumeSpace.{with_waiting}
use Rattle.file_release.specs.free_space.declared.waiting.PageUse.TheVariants.{Metadata}
use Rattle.file_release.specs.free_space.Spaces.{CanTake, IsHeld, Spaces, change_volume, missed}
use Rattle.index_pages.specs.Homes.{AreIndexHomes, shown_at}

-- the pages at homes are used, and do not wait
abbrev pub AreHeld : Spaces → List Home → Type 0
AreHeld space homes = (home : Home) → Contains homes home → IsHeld space home.vol home.page

-- an index in which the page of a number is another one, and names the next as before
pub record PutsIndexPage (first : Option Home) (number : ℕ) (page : List ℕ) (old new : Pages)
    (homes : List Home) : Type 0 where
  pub are : AreIndexHomes new first homes
  pub shown : shown_at new homes ≡ with_entry number (shown_index page) (shown_at old homes)
  pub others : (home : Home) → ¬ slice_get homes number ≡ Some home → new home ≡ old home

-- an index with a page more, which stands at a home that was none of it
pub record InsertsIndexPage (first : Home) (onto : Home) (number : ℕ) (page : List ℕ)
    (old new : Pages) (homes : List Home) : Type 0 where
  pub are : AreIndexHomes new (Some first) (insert homes number onto)
  pub shown : shown_at new (insert homes number onto)
      ≡ insert (shown_at old homes) number (shown_index page)
  pub others : (home : Home) → ¬ Contains homes home → same_home home onto ≡ false
      → new home ≡ old home

-- an index without its first page
pub record DropsIndexPage (first : Home) (next : Option Home) (old new : Pages) (homes : List Home)
    : Type 0 where
  pub more : List Home
  pub was : homes ≡ first ∷ more
  pub are : AreIndexHomes new next more
  pub shown : shown_at new more ≡ shown_at old more
  pub gone : new first ≡ None
  pub others : (home : Home) → same_home home first ≡ false → new home ≡ old home

-- the pages at homes wait as metadata until the log has passed the group, one after another
abbrev pub with_waiting_at : List Home → ℕ → Spaces → Spaces
with_waiting_at [] group space = space
with_waiting_at (home ∷ more) group space = with_waiting_at more group
    (change_volume (with_waiting (record {
      page = home.page;
      kind = Metadata;
      group = group;
    })) space home.vol)

-- an index without any page: each waits and is there no more, and no page of others changes
pub record DropsIndex (group : ℕ) (space space_now : Spaces) (old new : Pages) (homes : List Home)
    : Type 0 where
  pub waits : space_now ≡ with_waiting_at homes group space
  pub gone : (home : Home) → Contains homes home → new home ≡ None
  pub others : (home : Home) → ¬ Contains homes home → new home ≡ old home

-- no page is put, for want of a free page, which is a miss; or memory was short
abbrev pub FindsNoPage : Spaces → Spaces → StoreFault → Type 0
FindsNoPage space space_now NoPage =
    ((vol p : ℕ) → ¬ CanTake space vol p) × (space_now ≡ missed space)
FindsNoPage space space_now OutOfMemory = space_now ≡ space

-- the home of the page before a place, none at the beginning
abbrev pub home_in_front : ℕ → List Home → Option Home
home_in_front zero homes = None
home_in_front (suc k) homes = slice_get homes k

-- where an index begins whose page of a number is a new one
abbrev pub first_with : Home → ℕ → Option Home → Home
first_with onto zero first = onto
first_with onto (suc k) first = unwrap_or first onto
