-- An index on a volume that has free pages.
use Rattle.std.specs.Prelude.{List, Option}
use Rattle.index_pages.specs.domain_base.declared.place.Home.{Home}
use Rattle.index_pages.specs.page_store.Pages.{Pages}
use Rattle.index_pages.specs.free_space.Spaces.{Spaces}
use Rattle.index_pages.specs.Changes.{AreHeld}
use Rattle.index_pages.specs.Homes.{AreIndexHomes}

-- an index begins there, and its pages are used
pub record IsIndexOn (pages : Pages) (space : Spaces) (first : Option Home) : Type 0 where
  pub homes : List Home
  pub are : AreIndexHomes pages first homes
  pub held : AreHeld space homes
