use Rattle.std.proofs.Common.{◌≡◌, ◌∙◌, ◌*◌, ◌-◌, ℕ, List, drop, length, min, take, ap, arith}
use Rattle.std.proofs.lemmas.List.{take_min}
use Rattle.domain_memory.specs.domain_base.Page.{overwritten}
use Rattle.domain_memory.proofs.OfFilesetModel.ChangeLemmas.{take-rest}
use Rattle.file_changes.proofs.writing.page_after.Goals as goal

pub returns : goal.returns
returns c = λ path all entry fileset has.
    let bytes = c.args.bytes.now in
    let k = c.saturating_sub.result in
    let at = c.saturating_sub-at.result in
    let rest : List ℕ = take (length bytes - k) (drop k bytes) in
    let most : c.min.result ≡ min (8192 - at) (length rest) = omega (arith, c.min.ensures) in
    let from : at ≡ c.args.offset - c.args.page * 8192 = c.saturating_sub-at.ensures in
    let behind : k ≡ c.args.page * 8192 - c.args.offset = c.saturating_sub.ensures in
    c.set.ensures.value
    ∙ ap (overwritten c.in_ok-after.after at) (ap (λ n. take n rest) most ∙ take_min (8192 - at) rest ∙ ap (take (8192 - at)) (take-rest bytes k))
    ∙ (λ i. overwritten c.in_ok-after.after (from i) (take (8192 - from i) (drop (behind i) bytes)))
    ∙ ap (λ (p : List ℕ). overwritten p (c.args.offset - c.args.page * 8192) (take (8192 - (c.args.offset - c.args.page * 8192)) (drop (c.args.page * 8192 - c.args.offset) bytes))) (c.in_ok-after.ensures path all entry fileset has)
