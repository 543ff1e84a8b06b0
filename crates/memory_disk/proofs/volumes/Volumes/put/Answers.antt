use Rattle.std.proofs.Common.{◌*◌, false, length, arith}
use Rattle.memory_disk.specs.Moment.{written, overlaid, marked}
use Rattle.memory_disk.specs.Volume.{byte_of, mark_of}
use Rattle.memory_disk.proofs.VolumeFields.{changed_by, kept_by, sizes_of-set, volume_pages-read, same_moment}
use Rattle.memory_disk.proofs.volumes.Volumes.put.Goals as goal

pub overlay-requires-clause-within : goal.overlay-requires-clause-within
overlay-requires-clause-within c =
    omega (arith, volume_pages-read c.args.self.now.items.items c.args.vol c.index.result c.index_mut.result.now c.index.ensures.value (omega arith) c.index_mut.ensures.value)

pub returns-clause-moment : goal.returns-clause-moment
unfolding written
returns-clause-moment c =
    let at = 512 * c.args.block in
    same_moment _ _ _ _
    (changed_by byte_of (λ _. 0) c.args.self.now.items.items c.args.vol c.index.result c.overlay.new.self c.index_mut.result.now c.index.ensures.value (omega arith) c.index_mut.ensures.value (λ each. overlaid each at c.args.bytes.now) c.overlay.ensures.bytes)
    (changed_by mark_of (λ _. false) c.args.self.now.items.items c.args.vol c.index.result c.overlay.new.self c.index_mut.result.now c.index.ensures.value (omega arith) c.index_mut.ensures.value (λ each. marked each at (length c.args.bytes.now)) c.overlay.ensures.marks)

pub returns-clause-counts : goal.returns-clause-counts
returns-clause-counts c = record {
  sizes = sizes_of-set c.args.self.now.items.items c.index.result c.overlay.new.self c.index_mut.result.now c.index_mut.ensures.value c.overlay.ensures.pages (omega arith);
  read_faults = kept_by (λ v. v.read_faults) 0 c.args.self.now.items.items c.args.vol c.index.result c.overlay.new.self c.index_mut.result.now c.index.ensures.value (omega arith) c.index_mut.ensures.value c.overlay.ensures.read_faults;
  write_faults = kept_by (λ v. v.write_faults) 0 c.args.self.now.items.items c.args.vol c.index.result c.overlay.new.self c.index_mut.result.now c.index.ensures.value (omega arith) c.index_mut.ensures.value c.overlay.ensures.write_faults;
}
