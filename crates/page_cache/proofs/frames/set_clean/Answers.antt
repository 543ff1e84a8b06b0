use Rattle.std.proofs.Common.{sym}
use Rattle.page_cache.specs.Frames.{cleaned}
use Rattle.page_cache.proofs.Entries.{used_and_set}
use Rattle.page_cache.proofs.frames.set_clean.Goals as goal

pub returns-in-Some-clause-becomes : goal.returns-in-Some-clause-becomes
returns-in-Some-clause-becomes c =
    let old = c.args.frames.now.entries in
    let frame = c.in-Some.frame.now in
    let there = sym c.in-Some.ensures.value in
    rw there (used_and_set c.args.number old c.len.ensures.valid.0 frame (cleaned frame) there)
