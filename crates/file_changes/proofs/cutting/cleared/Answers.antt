use Rattle.std.proofs.Common.{◌∙◌, ◌-◌, ◌/◌, ◌%◌, ℕ, List, cond, drop, refl, sym, ap}
use Rattle.std.proofs.lemmas.Bool.{eq-eqb}
use Rattle.domain_memory.specs.domain_base.Page.{overwritten, zero_bytes}
use Rattle.domain_memory.proofs.OfFilesetModel.ChangeLemmas.{drop-zero_bytes, take-rest}
use Rattle.file_changes.proofs.cutting.cleared.Goals as goal

pub returns : goal.returns
returns c =
    let size = c.args.size in
    let at = size % 8192 in
    c.set.ensures.value
    ∙ ap (overwritten c.in_ok-after.after at) (take-rest c.bytes.result.now at ∙ ap (drop at) (c.bytes.ensures.value ∙ c.in_ok-zeros.ensures.value) ∙ drop-zero_bytes 8192 at)
    ∙ ap (λ (p : List ℕ). overwritten p at (zero_bytes (8192 - at))) c.in_ok-after.ensures.value
    ∙ (λ i. cond (sym (eq-eqb (size / 8192) (size / 8192) refl) i) (overwritten c.args.page.now at (zero_bytes (8192 - at))) c.args.page.now)
