use Rattle.std.proofs.Common.{◌∙◌, sym}
use Rattle.staged_pages.specs.Slots.{page_before, page_now}
use Rattle.staged_pages.proofs.Settled.{same_pages, same_settled}
use Rattle.staged_pages.proofs.pages.StagedPages.keep.Goals as goal

pub returns-clause-before : goal.returns-clause-before
returns-clause-before c = same_pages page_now page_before c.args.self.now.entries.items c.settle_all.new.entries.items (λ q. sym (same_settled _ c.settle_all.ensures.settles.same q) ∙ c.settle_all.ensures.settles.pages q)
