use Rattle.std.proofs.Common.{◌∙◌, ℕ, List, Some, slice_index, ap}
use Rattle.std.proofs.lemmas.Option.{same_Some}
use mathlib.Core.Bool.{false≢true}
use Rattle.std.specs.Option.{is_some}
use Rattle.storage_tables.proofs.Shown.{shown}
use Rattle.storage_tables.proofs.callers.write_and_show.Goals as goal

pub returns-in-Some : goal.returns-in-Some
returns-in-Some c =
    let page = same_Some _ _ (c.in-Some.ensures.page ∙ shown c.args.home.now c.args.page _ _ _ c.write.ensures.frames) in
    ap (λ (l : List ℕ). Some (slice_index l 0)) (c.bytes.ensures.value ∙ page)

pub returns-in-None : goal.returns-in-None
returns-in-None c = absurd (false≢true (ap is_some (c.in-None.ensures.page ∙ shown c.args.home.now c.args.page _ _ _ c.write.ensures.frames)))
