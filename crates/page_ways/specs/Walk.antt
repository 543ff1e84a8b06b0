-- What is read of the pages of a kind, from the first one on.
use Rattle.std.specs.Prelude.{◌≡◌, ◌⊎◌, ◌↔◌, ◌*◌, ◌^◌, ◌+◌, ◌-◌, ◌<◌, ◌++◌, ℕ, is_some, if◌then◌else◌, List, [], ◌∷◌, length, true, Option, Some, None, IsSome, IsSomeAnd, Contains, slice_get}
use Rattle.domain_layout.specs.domain_base.declared.place.Home.{Home}
use Rattle.domain_layout.specs.page_store.Pages.{Pages}
use Rattle.domain_layout.specs.sorted_sets.Homes.{found_at}
use Rattle.domain_layout.specs.sorted_sets.Rising.{IsRising, value_at}
use Rattle.domain_layout.specs.Reached.{Frame, IsRead, IsUnread, MayBe, Reaches, Way}
use Rattle.page_ways.specs.declared.walk.PageWalk.{PageWalk}

-- the pages that are read, in the order in which they are come to, and the one that is come to and
-- not read, if there is one
pub record AreRead (pages : Pages) (frame : Frame) (way : Way) (homes : List Home)
    (unread : Option Home) : Type 0 where
  pub each : (place : ℕ) (home : Home) → (slice_get homes place ≡ Some home)
      ↔ ((page : List ℕ) × IsRead pages frame way place home page)
  pub wrong : (home : Home) → (unread ≡ Some home) ↔ IsUnread pages frame way home

-- the page at a home may be read after those that were passed
pub record IsReadable (pages : Pages) (frame : Frame) (way : Way) (passed : List Home) (home : Home)
    (page : List ℕ) : Type 0 where
  pub may : MayBe frame home
  pub fresh : ¬ Contains passed home
  pub there : pages home ≡ Some page
  pub begins : way.begins_so page ≡ true

-- the pages that were read end with one that leads to none
pub record EndsThere (pages : Pages) (frame : Frame) (way : Way) (homes : List Home) : Type 0 where
  pub passed : List Home
  pub last : Home
  pub page : List ℕ
  pub are : homes ≡ passed ++ last ∷ []
  pub reached : Reaches pages frame way passed last
  pub readable : IsReadable pages frame way passed last page
  pub ends : way.next last page ≡ None

-- after the pages that were read another one is come to, which cannot be read
pub record StopsAt (pages : Pages) (frame : Frame) (way : Way) (homes : List Home) (home : Home)
    : Type 0 where
  pub reached : Reaches pages frame way homes home
  pub wrong : ¬ MayBe frame home ⊎ Contains homes home
      ⊎ ¬ IsSomeAnd (pages home) (λ page. way.begins_so page ≡ true)

-- so far, with the page to be read next
abbrev pub IsOnWay : Pages → Frame → Way → List Home → Option Home → Option Home → Type 0
IsOnWay pages frame way homes unread (Some home) =
    (unread ≡ None) × Reaches pages frame way homes home
IsOnWay pages frame way homes None None = EndsThere pages frame way homes
IsOnWay pages frame way homes (Some home) None = StopsAt pages frame way homes home

-- the homes by their numbers, in the order of these
pub record AreNumbers (homes : List Home) (numbers : List (ℕ × Unit {0})) : Type 0 where
  pub rising : IsRising numbers
  pub count : length numbers ≡ length homes
  pub each : (home : Home) → IsSome (found_at numbers home) ↔ Contains homes home
  pub below : (key : ℕ) → IsSome (value_at numbers key) → key < 9 * 2 ^ 32

-- ** A walk

-- the page that a walk comes to next
abbrev pub next_of : PageWalk → Option Home
next_of walk = walk.next

abbrev pub unread_of : PageWalk → Option Home
unread_of walk = walk.unread

-- the pages that a walk has read, and the one that is come to next, or at its end why no more is
pub record IsWalk (pages : Pages) (frame : Frame) (way : Way) (walk : PageWalk) : Type 0 where
  pub numbers : AreNumbers walk.passed.homes.items walk.passed.numbers.items
  pub on : IsOnWay pages frame way walk.passed.homes.items walk.unread walk.next

-- more steps than these are not left
abbrev pub steps_left : PageWalk → ℕ
steps_left walk = 2 * (9 * 2 ^ 32 - length walk.passed.homes.items)
    + (if is_some walk.next then 1 else 0)
