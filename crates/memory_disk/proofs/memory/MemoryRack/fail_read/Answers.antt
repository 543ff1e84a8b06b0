use Rattle.std.proofs.Common.{◌≡◌, arith}
use Rattle.volume_disk.specs.domain_base.Counts.{raised}
use Rattle.memory_disk.proofs.OneMore.{kept_still, makes_still}
use Rattle.memory_disk.proofs.memory.MemoryRack.fail_read.Goals as goal

pub invariant_of-self : goal.invariant_of-self
invariant_of-self c =
    let counted = c.count_read_fault.ensures in
    let still = kept_still c.args.self.now c.count_read_fault.new.self.items.items c.saturating_add-self.result counted.sizes counted.moment (omega arith) in
    record { numbered = still.numbered; fit = still.fit; same_sizes = still.same_sizes; replays = still.replays }

pub returns : goal.returns
returns c =
    let rack = c.args.self.now in
    let counted = c.count_read_fault.ensures in
    let one_more : c.saturating_add-self.result ≡ raised rack.calls = omega (arith, c.saturating_add-self.ensures) in
    makes_still rack c.count_read_fault.new.self.items.items c.saturating_add-self.result counted.sizes counted.moment _ _ one_more (omega arith) counted.read_faults counted.write_faults
