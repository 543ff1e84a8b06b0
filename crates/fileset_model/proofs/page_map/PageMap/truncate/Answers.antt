use Rattle.std.proofs.Common.{◌∙◌, ap}
use Rattle.std.specs.FinMap.{from_sorted}
use Rattle.fileset_model.specs.Pages.{truncated}
use Rattle.fileset_model.proofs.ChangeLemmas.{cut_entries, truncated-from_sorted}
use Rattle.fileset_model.proofs.page_map.PageMap.truncate.Goals as goal

pub returns-clause-ok : goal.returns-clause-ok
returns-clause-ok c =
    let here = c.self.inside.pages.items in
    ap from_sorted (c.zero_rest.ensures.items ∙ ap (cut_entries c.args.size) c.keep_below.ensures.items)
    ∙ truncated-from_sorted c.args.size here c.self.invariant
    ∙ ap (λ pages. truncated pages c.args.size) c.self.view_is
