use Rattle.page_store.specs.domain_base.Page.{overwritten}
use Rattle.staged_pages.proofs.Listed.{pages_rewritten}
use Rattle.staged_pages.proofs.meta_pages.StagedPagesMetaPages.set.Goals as goal

pub returns-clause-value : goal.returns-clause-value
returns-clause-value c = pages_rewritten c.args.home (λ page. overwritten page c.args.at c.args.bytes.now) _ _ c.requires.there c.rewrite_at.ensures.edits
