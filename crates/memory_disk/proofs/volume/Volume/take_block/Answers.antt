use Rattle.std.proofs.Common.{◌≡◌, ◌≤◌, ℕ, ◌+◌, ◌-◌, ◌*◌, List, get_or, length, ap, ◌∙◌, arith}
use Rattle.std.proofs.lemmas.List.{with_items_is}
use Rattle.memory_disk.proofs.OverlaidBytes.{get_or-other_block, length-put_mid, length-mid}
use Rattle.memory_disk.proofs.volume.Volume.take_block.Goals as goal

pub returns-clause-others : goal.returns-clause-others
returns-clause-others c k other =
    let at = 512 * c.args.block in
    let n = at + 512 - at in
    let old = c.deref_mut.result.now in
    let whole : length old ≡ c.args.self.now.bytes.len = omega arith in
    let fits : at + n ≤ length old = omega arith in
    let size : length c.copy_from_slice.new.self ≡ n = c.copy_from_slice.ensures.len ∙ length-mid at n old fits in
    ap (λ (l : List ℕ). get_or l k 0) (with_items_is c.args.self.now.bytes _ (length-put_mid at n old c.copy_from_slice.new.self size fits ∙ whole))
    ∙ get_or-other_block old c.copy_from_slice.new.self c.args.block n k (omega arith) size fits other
    ∙ ap (λ (l : List ℕ). get_or l k 0) c.deref_mut.ensures.value
