use Rattle.std.proofs.Common.{◌*◌, false, arith}
use Rattle.memory_disk.specs.Moment.{torn, marked}
use Rattle.memory_disk.specs.Volume.{byte_of, mark_of}
use Rattle.memory_disk.proofs.VolumeFields.{changed_by, kept_by, sizes_of-set, volume_pages-read, same_moment, same_bytes}
use Rattle.memory_disk.proofs.volumes.Volumes.tear.Goals as goal

pub tear-requires-clause-within : goal.tear-requires-clause-within
tear-requires-clause-within c =
    omega (arith, volume_pages-read c.args.self.now.items.items c.args.vol c.index.result c.index_mut.result.now c.index.ensures.value (omega arith) c.index_mut.ensures.value)

pub returns-clause-moment : goal.returns-clause-moment
unfolding torn
returns-clause-moment c =
    let at = 512 * c.args.block in
    same_moment _ _ _ _
    (kept_by byte_of (λ _. 0) c.args.self.now.items.items c.args.vol c.index.result c.tear.new.self c.index_mut.result.now c.index.ensures.value (omega arith) c.index_mut.ensures.value (same_bytes c.tear.new.self c.index_mut.result.now c.tear.ensures.bytes))
    (changed_by mark_of (λ _. false) c.args.self.now.items.items c.args.vol c.index.result c.tear.new.self c.index_mut.result.now c.index.ensures.value (omega arith) c.index_mut.ensures.value (λ each. marked each at c.args.size) c.tear.ensures.marks)

pub returns-clause-counts : goal.returns-clause-counts
returns-clause-counts c = record {
  sizes = sizes_of-set c.args.self.now.items.items c.index.result c.tear.new.self c.index_mut.result.now c.index_mut.ensures.value c.tear.ensures.pages (omega arith);
  read_faults = kept_by (λ v. v.read_faults) 0 c.args.self.now.items.items c.args.vol c.index.result c.tear.new.self c.index_mut.result.now c.index.ensures.value (omega arith) c.index_mut.ensures.value c.tear.ensures.read_faults;
  write_faults = kept_by (λ v. v.write_faults) 0 c.args.self.now.items.items c.args.vol c.index.result c.tear.new.self c.index_mut.result.now c.index.ensures.value (omega arith) c.index_mut.ensures.value c.tear.ensures.write_faults;
}
