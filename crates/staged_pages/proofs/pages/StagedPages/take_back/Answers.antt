use Rattle.std.proofs.Common.{◌∙◌}
use Rattle.staged_pages.specs.Slots.{page_before, page_now}
use Rattle.staged_pages.proofs.Settled.{same_pages, same_settled}
use Rattle.staged_pages.proofs.pages.StagedPages.take_back.Goals as goal

pub returns-clause-pages : goal.returns-clause-pages
returns-clause-pages c = same_pages page_before page_now c.args.self.now.entries.items c.take_back_all.new.entries.items (λ q. same_settled _ c.take_back_all.ensures.settles.same q ∙ c.take_back_all.ensures.settles.pages q)
