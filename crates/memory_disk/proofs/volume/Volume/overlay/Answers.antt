use Rattle.std.proofs.Common.{◌≡◌, ◌≤◌, ℕ, ◌+◌, ◌-◌, ◌*◌, List, get_or, length, ap, ◌∙◌, arith}
use Rattle.std.proofs.lemmas.List.{with_items_is}
use Rattle.memory_disk.proofs.OverlaidBytes.{byte_overlaid, length-put_mid}
use Rattle.memory_disk.proofs.volume.Volume.overlay.Goals as goal

pub returns-clause-bytes : goal.returns-clause-bytes
returns-clause-bytes c =
    let at = 512 * c.args.block in
    let n = at + length c.args.bytes.now - at in
    let read : List ℕ → ℕ → ℕ = λ l k. get_or l k 0 in
    let was : c.deref_mut.result.now ≡ c.args.self.now.bytes.items = cc in
    let whole : length c.deref_mut.result.now ≡ c.tear.new.self.bytes.len = omega arith in
    let same : length c.deref_mut.result.now ≡ length c.args.self.now.bytes.items = ap length was in
    let fits : at + n ≤ length c.deref_mut.result.now = omega arith in
    let size : length c.copy_from_slice.new.self ≡ n = ap length c.copy_from_slice.ensures.after ∙ omega arith in
    ap read (with_items_is c.tear.new.self.bytes _ (length-put_mid at n c.deref_mut.result.now c.copy_from_slice.new.self size fits ∙ whole))
    ∙ byte_overlaid c.deref_mut.result.now c.args.self.now.bytes.items c.copy_from_slice.new.self c.args.bytes.now at n was c.copy_from_slice.ensures.after (omega arith) fits
