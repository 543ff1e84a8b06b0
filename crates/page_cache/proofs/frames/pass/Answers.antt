use Rattle.std.proofs.Common.{◌≡◌, ◌+◌, sym, ap, subst}
use Rattle.page_cache.specs.Entries.{Entries, KeepsOrder, behind}
use Rattle.page_cache.proofs.Entries.{passes}
use Rattle.page_cache.proofs.frames.pass.Goals as goal

pub returns-clause-keeps : goal.returns-clause-keeps
returns-clause-keeps c =
    let old = c.args.frames.now.entries in
    subst (KeepsOrder old) (sym (ap (λ f. f.entries) c.promote.ensures.entries)) (passes c.args.oldest old c.len.ensures.valid.0 c.requires.last c.requires.clean).0

pub returns-clause-nearer : goal.returns-clause-nearer
returns-clause-nearer c =
    let old = c.args.frames.now.entries in
    subst (λ (l : Entries). behind l + 1 ≡ behind old) (sym (ap (λ f. f.entries) c.promote.ensures.entries)) (passes c.args.oldest old c.len.ensures.valid.0 c.requires.last c.requires.clean).1
