-- Another list, or pages more that wait.
use Rattle.std.specs.Prelude.{ℕ, List}
use Rattle.release_list.specs.domain_base.declared.place.Home.{Home}
use Rattle.release_list.specs.page_store.Pages.{Pages}
use Rattle.release_list.specs.free_space.declared.waiting.PageUse.{PageUse}
use Rattle.release_list.specs.free_space.VolumeSpace.{with_waiting}
use Rattle.release_list.specs.free_space.Spaces.{change_volume}
use Rattle.release_list.specs.file_release.Releases.{with_given}
use Rattle.release_list.specs.Listing.{Listing}
use Rattle.release_list.specs.Steps.{Now}
use Rattle.release_steps.specs.Waits.{waiting_at}

-- all is the same except the list
abbrev pub with_list : Listing → Now → Now
with_list list now = record now { list = list }

-- the page at a home waits from now on, with that use and for that group, and all else is the same
abbrev pub with_waiting_page : Home → PageUse → ℕ → Now → Now
with_waiting_page home kind group now = record now {
  space = change_volume (with_waiting (waiting_at home kind group)) now.space home.vol;
}

-- those at these homes do, the pages are these, and all else is the same
abbrev pub with_waiting_pages : List Home → PageUse → ℕ → Pages → Now → Now
with_waiting_pages homes kind group pages now = record now {
  space = with_given kind group homes now.space;
  pages = pages;
}
