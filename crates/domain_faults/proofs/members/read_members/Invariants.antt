use Rattle.std.proofs.Common.{◌≡◌, ◌<◌}
use Rattle.slot_files.specs.domain_base.declared.place.Home.{Home}
use Rattle.slot_files.specs.volume_disk.Run.{OnlyReads}
use Rattle.slot_files.specs.log_ring.Homes.{IsMember, member_of}
use Rattle.domain_faults.specs.Pages.{IsReadAt}
use Rattle.domain_faults.proofs.members.read_members.Given as goal

abbrev pub invariant-loop-number : goal.invariant-loop-number
invariant-loop-number g l = record {
  reads : OnlyReads (g.R.Rack.disk l.initial.rack) (g.R.Rack.disk l.rack);
  passed : (g.R.Rack.disk l.rack).read_faults ≡ (g.R.Rack.disk l.initial.rack).read_faults;
  pages : (home : Home) → IsMember l.redone.anchor home.vol → home.vol < l.number → home.page < (member_of l.redone.anchor home.vol).pages
      → IsReadAt (g.R.Rack.disk l.initial.rack) l.redone.images (g.M.MetaPages.pages l.pages) home;
}
