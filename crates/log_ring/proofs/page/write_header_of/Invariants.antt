use Rattle.std.proofs.Common.{◌≡◌, length, take}
use Rattle.std.specs.List.{flat_map}
use Rattle.disk_label.specs.domain_base.Page.{overwritten}
use Rattle.log_ring.specs.Header.{ArePlaces, begun, home_bytes}
use Rattle.log_ring.specs.Images.{homes_of}
use Rattle.log_ring.proofs.page.write_header_of.Given as goal

abbrev pub invariant-loop-i : goal.invariant-loop-i
invariant-loop-i l = record {
  bytes : l.page ≡ overwritten (begun l.fn.page l.number (length (homes_of l.images))) 528 (flat_map home_bytes (take l.i (homes_of l.images)));
  places : ArePlaces (homes_of l.images) l.i;
}
