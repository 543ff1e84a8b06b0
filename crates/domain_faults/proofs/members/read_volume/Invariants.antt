use Rattle.std.proofs.Common.{◌≡◌, ◌<◌}
use Rattle.slot_files.specs.domain_base.declared.place.Home.{Home}
use Rattle.slot_files.specs.volume_disk.Run.{OnlyReads}
use Rattle.domain_faults.specs.Pages.{IsReadAt}
use Rattle.domain_faults.proofs.members.read_volume.Given as goal

abbrev pub invariant-loop-page : goal.invariant-loop-page
invariant-loop-page g l = record {
  reads : OnlyReads (g.R.Rack.disk l.initial.rack) (g.R.Rack.disk l.rack);
  passed : (g.R.Rack.disk l.rack).read_faults ≡ (g.R.Rack.disk l.initial.rack).read_faults;
  pages : (home : Home) → home.vol ≡ l.vol → home.page < l.page → IsReadAt (g.R.Rack.disk l.initial.rack) l.redone.images (g.M.MetaPages.pages l.pages) home;
  kept : (home : Home) → IsReadAt (g.R.Rack.disk l.initial.rack) l.redone.images (g.M.MetaPages.pages l.initial.pages) home → IsReadAt (g.R.Rack.disk l.initial.rack) l.redone.images (g.M.MetaPages.pages l.pages) home;
}
