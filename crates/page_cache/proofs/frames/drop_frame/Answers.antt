use Rattle.std.proofs.Common.{None, sym, ap, subst}
use Rattle.page_cache.specs.Entries.{Becomes, Entries}
use Rattle.page_cache.proofs.Entries.{removed}
use Rattle.page_cache.proofs.frames.drop_frame.Goals as goal

pub returns-in-Some-clause-becomes : goal.returns-in-Some-clause-becomes
returns-in-Some-clause-becomes c =
    let old = c.args.frames.now.entries in
    subst (λ (l : Entries). Becomes c.args.number None old l) (sym (ap (λ f. f.entries) c.pop.ensures.entries)) (removed c.args.number old c.len.ensures.valid.0)

pub returns-in-None-clause-becomes : goal.returns-in-None-clause-becomes
returns-in-None-clause-becomes c =
    let old = c.args.frames.now.entries in
    subst (λ (l : Entries). Becomes c.args.number None old l) (sym (ap (λ f. f.entries) c.pop.ensures.entries)) (removed c.args.number old c.len.ensures.valid.0)
