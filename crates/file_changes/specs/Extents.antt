-- Where the pages of a file stand, in extents that are as long as can be.
use Rattle.std.specs.Prelude.{◌≡◌, ◌+◌, ◌-◌, ◌<◌, ℕ, IsSomeAnd, Option, Some, None, if◌then◌else◌, min, nat_lt}
use Rattle.std.specs.FinMap.{get}
use Rattle.domain_memory.specs.domain_base.declared.place.Home.{Home}
use Rattle.domain_memory.specs.extent_maps.Runs.{Places, end_of}
use Rattle.domain_memory.specs.extent_maps.declared.run.PagePlace.TheVariants as at
use Rattle.domain_memory.specs.extent_maps.declared.run.Run.{Run}
use Rattle.domain_memory.specs.extent_maps.declared.run.RunPlace.{RunPlace}
use Rattle.domain_memory.specs.extent_maps.declared.run.RunPlace.TheVariants.{At, Holes}
use Rattle.domain_memory.specs.domain_layout.Reached.{Frame, IsWithin}
use Rattle.domain_memory.specs.fileset_values.declared.reply.ExtentItem.{ExtentItem}
use Rattle.domain_memory.specs.legal_histories.State.{MemberMap}

-- each page of an extent stands there
abbrev pub StandsThere : Places → ExtentItem → Type 0
StandsThere places extent = (k : ℕ) → k < extent.count
    → places (extent.page + k) ≡ at.At (record { vol = extent.vol; page = extent.first + k })

-- each page of a domain's members is one of these
abbrev pub HasMembers : Frame → MemberMap → Type 0
HasMembers frame members = (home : Home) → IsWithin frame home
    → IsSomeAnd (get members home.vol) (λ member. home.page < member.pages)

-- the pages from one up to another, if there are any and the first has a home
abbrev pub extent_between : RunPlace → ℕ → ℕ → Option ExtentItem
extent_between (At home) from end = if nat_lt from end
    then Some (record { page = from; count = end - from; vol = home.vol; first = home.page })
    else None
extent_between Holes from end = None

-- those of a run that come before a page
abbrev pub extent_of : ℕ → Run → Option ExtentItem
extent_of keep run = extent_between run.first run.page (min keep (end_of run))
