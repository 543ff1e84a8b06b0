use Rattle.std.proofs.Common.{false, refl, arith}
use Rattle.volume_disk.specs.domain_base.Counts.{raised}
use Rattle.memory_disk.specs.Volume.{byte_of, mark_of}
use Rattle.memory_disk.proofs.VolumeFields.{changed_by, kept_by, same_moment}
use Rattle.memory_disk.proofs.volumes.Volumes.count_write_fault.Goals as goal

pub returns-clause-moment : goal.returns-clause-moment
returns-clause-moment c =
    same_moment _ _ _ _
    (kept_by byte_of (λ _. 0) c.args.self.now.items.items c.args.vol c.index.result _ c.index_mut-volume.result.now c.index.ensures.value (omega arith) c.index_mut-volume.ensures.value refl)
    (kept_by mark_of (λ _. false) c.args.self.now.items.items c.args.vol c.index.result _ c.index_mut-volume.result.now c.index.ensures.value (omega arith) c.index_mut-volume.ensures.value refl)

pub returns-clause-write_faults : goal.returns-clause-write_faults
returns-clause-write_faults c =
    changed_by (λ v. v.write_faults) 0 c.args.self.now.items.items c.args.vol c.index.result _ c.index_mut-volume.result.now c.index.ensures.value (omega arith) c.index_mut-volume.ensures.value raised (omega (arith, c.saturating_add-volume.ensures))

pub returns-clause-read_faults : goal.returns-clause-read_faults
returns-clause-read_faults c =
    kept_by (λ v. v.read_faults) 0 c.args.self.now.items.items c.args.vol c.index.result _ c.index_mut-volume.result.now c.index.ensures.value (omega arith) c.index_mut-volume.ensures.value refl
