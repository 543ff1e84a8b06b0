use Rattle.std.proofs.Common.{◌≡◌, false, subst}
use Rattle.staged_pages.specs.Staged.{is_on}
use Rattle.staged_pages.proofs.Listed.{unlisted_same}
use Rattle.staged_pages.proofs.pages.StagedPages.changed.Goals as goal

pub returns-clause-others : goal.returns-clause-others
returns-clause-others c home off = unlisted_same c.args.self.now.entries.items c.args.self.now.changed.items c.args.self.now.slots home (subst (λ l. is_on l home ≡ false) c.as_slice.ensures.value off)
