use Rattle.std.proofs.Common.{◌≡◌, length, take}
use Rattle.std.specs.List.{flat_map}
use Rattle.disk_label.specs.domain_base.Page.{overwritten}
use Rattle.log_ring.specs.Header.{ArePlaces, begun, home_bytes}
use Rattle.log_ring.proofs.page.write_header.Given as goal

abbrev pub invariant-loop-i : goal.invariant-loop-i
invariant-loop-i l = record {
  bytes : l.page ≡ overwritten (begun l.fn.page l.fn.header.number (length l.homes)) 528 (flat_map home_bytes (take l.i l.homes));
  places : ArePlaces l.homes l.i;
}
