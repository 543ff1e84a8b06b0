use Rattle.std.proofs.Common.{false, arith}
use Rattle.memory_disk.specs.Moment.{synced}
use Rattle.memory_disk.specs.Volume.{byte_of, mark_of}
use Rattle.memory_disk.proofs.VolumeFields.{changed_by, kept_by, sizes_of-set, same_moment, same_bytes}
use Rattle.memory_disk.proofs.volumes.Volumes.sync.Goals as goal

pub returns-clause-moment : goal.returns-clause-moment
unfolding synced
returns-clause-moment c =
    same_moment _ _ _ _
    (kept_by byte_of (λ _. 0) c.args.self.now.items.items c.args.vol c.index.result c.sync.new.self c.index_mut.result.now c.index.ensures.value (omega arith) c.index_mut.ensures.value (same_bytes c.sync.new.self c.index_mut.result.now c.sync.ensures.bytes))
    (changed_by mark_of (λ _. false) c.args.self.now.items.items c.args.vol c.index.result c.sync.new.self c.index_mut.result.now c.index.ensures.value (omega arith) c.index_mut.ensures.value (λ each _. false) c.sync.ensures.marks)

pub returns-clause-counts : goal.returns-clause-counts
returns-clause-counts c = record {
  sizes = sizes_of-set c.args.self.now.items.items c.index.result c.sync.new.self c.index_mut.result.now c.index_mut.ensures.value c.sync.ensures.pages (omega arith);
  read_faults = kept_by (λ v. v.read_faults) 0 c.args.self.now.items.items c.args.vol c.index.result c.sync.new.self c.index_mut.result.now c.index.ensures.value (omega arith) c.index_mut.ensures.value c.sync.ensures.read_faults;
  write_faults = kept_by (λ v. v.write_faults) 0 c.args.self.now.items.items c.args.vol c.index.result c.sync.new.self c.index_mut.result.now c.index.ensures.value (omega arith) c.index_mut.ensures.value c.sync.ensures.write_faults;
}
