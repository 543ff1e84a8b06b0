use Rattle.std.proofs.Common.{◌≡◌, ℕ, IsSome}
use Rattle.slot_files.specs.domain_base.declared.place.Home.{Home}
use Rattle.slot_files.specs.domain_layout.Reached.{IsWithin}
use Rattle.slot_files.specs.page_ways.Frame.{frame_in}
use Rattle.image_loading.specs.Loading.{Brings}
use Rattle.image_loading.proofs.Listed.{HoldBelow}
use Rattle.image_loading.proofs.homes.load_homes.Given as goal

abbrev pub invariant-loop-home : goal.invariant-loop-home
invariant-loop-home g l =
    let disk = g.R.Rack.disk in
    let pages = g.M.MetaPages.pages in
    record {
      brings : Brings (disk l.fn.rack) (disk l.rack) (pages l.fn.pages) (pages l.pages);
      passed : (disk l.rack).read_faults ≡ (disk l.fn.rack).read_faults;
      before : g.M.MetaPages.before l.pages ≡ g.M.MetaPages.before l.fn.pages;
      below : HoldBelow l.home-index l.home-items (λ (entry : ℕ × Home). IsWithin (frame_in l.frame) entry.1 → IsSome (pages l.pages entry.1));
    }
