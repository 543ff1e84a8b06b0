use Rattle.std.proofs.Common.{sym, ap, subst}
use Rattle.page_cache.specs.Entries.{Becomes, Entries, frame_at}
use Rattle.page_cache.proofs.Entries.{used}
use Rattle.page_cache.proofs.frames.use_frame.Goals as goal

pub returns-clause-becomes : goal.returns-clause-becomes
returns-clause-becomes c =
    let old = c.args.frames.now.entries in
    subst (λ (l : Entries). Becomes c.args.number (frame_at old c.args.number) old l) (sym (ap (λ f. f.entries) c.promote.ensures.entries)) (used c.args.number old c.len.ensures.valid.0 c.requires)
