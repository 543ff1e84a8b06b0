use Rattle.std.proofs.Common.{sym, ap, subst}
use Rattle.page_cache.specs.Entries.{KeepsOrder}
use Rattle.page_cache.proofs.Entries.{demoted_keeps}
use Rattle.page_cache.proofs.frames.put_last.Goals as goal

pub returns-clause-keeps : goal.returns-clause-keeps
returns-clause-keeps c = subst (KeepsOrder c.args.frames.now.entries) (sym (ap (λ f. f.entries) c.demote.ensures.entries)) (demoted_keeps c.args.number c.args.frames.now.entries c.len.ensures.valid.0 c.requires)
