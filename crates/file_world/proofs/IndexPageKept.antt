-- An index stays on its volume where a call on it ends.
use Rattle.std.proofs.Common.{◌≡◌, List, Option, Some, sym, subst}
use Rattle.index_pages.specs.domain_base.declared.place.Home.{Home}
use Rattle.index_pages.specs.page_store.Pages.{Pages}
use Rattle.index_pages.specs.page_store.declared.fault.StoreFault.{StoreFault}
use Rattle.index_pages.specs.page_store.declared.fault.StoreFault.TheVariants.{NoPage, OutOfMemory}
use Rattle.index_pages.specs.free_space.Spaces.{Spaces}
use Rattle.index_pages.specs.Changes.{AreHeld, DropsIndexPage, FindsNoPage}
use Rattle.index_pages.specs.Homes.{HasIndexHomes}
use Rattle.file_world.specs.IndexPageWorlds.{IsIndexOn}

held_missed : (space now : Spaces) (homes : List Home) (fault : StoreFault) → FindsNoPage space now fault → AreHeld space homes → AreHeld now homes
held_missed space now homes NoPage none held = subst (λ (s : Spaces). AreHeld s homes) (sym none.1) held
held_missed space now homes OutOfMemory none held = subst (λ (s : Spaces). AreHeld s homes) (sym none) held

pub refused : (pages after : Pages) (space now : Spaces) (first : Option Home) (fault : StoreFault) → IsIndexOn pages space first → after ≡ pages → FindsNoPage space now fault
    → IsIndexOn after now first
refused pages after space now first fault was same none =
    subst (λ (ps : Pages). IsIndexOn ps now first) (sym same) (record { homes = was.homes; are = was.are; held = held_missed space now was.homes fault none was.held })

pub dropped : (pages after : Pages) (space : Spaces) (first : Home) (next : Option Home) (was : IsIndexOn pages space (Some first)) → DropsIndexPage first next pages after was.homes
    → HasIndexHomes after next
dropped pages after space first next was drops = (drops.more, drops.are)
