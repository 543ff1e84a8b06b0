use Rattle.std.proofs.Common.{◌≡◌, ◌≤◌, ℕ, ◌+◌, ◌-◌, ◌*◌, List, length, take, drop, sym, ◌∙◌, ap, arith}
use Rattle.volume_disk.specs.Image.{bytes_from}
use Rattle.memory_disk.specs.Volume.{byte_of}
use Rattle.volume_disk.proofs.Bytes.{bytes_from-list}
use Rattle.memory_disk.proofs.VolumeFields.{field_of-read, volume_pages-read}
use Rattle.memory_disk.proofs.volumes.Volumes.read.Goals as goal

pub slice_bounds-copy_from_slice-end : goal.slice_bounds-copy_from_slice-end
slice_bounds-copy_from_slice-end c =
    omega (arith, volume_pages-read c.args.self.now.items.items c.args.vol c.index.result c.index-volume.result.now c.index.ensures.value (omega arith) c.index-volume.ensures)

pub returns : goal.returns
returns c =
    let volumes = c.args.self.now.items.items in
    let volume = c.index-volume.result.now in
    let at = 512 * c.args.block in
    let n = length c.args.out.now in
    let size : at + n - at ≡ n = omega arith in
    let pages = volume_pages-read volumes c.args.vol c.index.result volume c.index.ensures.value (omega arith) c.index-volume.ensures in
    let fits : at + n ≤ length volume.bytes.items = omega arith in
    let read : ℕ → List ℕ → List ℕ = λ k l. take k (drop at l) in
    let part : ℕ → List ℕ = λ k. read k c.deref.result.now in
    let all : List ℕ → List ℕ = λ l. read n l in
    let from : (ℕ → ℕ) → List ℕ = λ each. bytes_from each at n in
    c.copy_from_slice.ensures.after
    ∙ ap part size
    ∙ ap all c.deref.ensures.value
    ∙ bytes_from-list volume.bytes.items at n fits
    ∙ ap from (sym (field_of-read byte_of (λ _. 0) volumes c.args.vol c.index.result volume volume c.index.ensures.value (omega arith) c.index-volume.ensures))
