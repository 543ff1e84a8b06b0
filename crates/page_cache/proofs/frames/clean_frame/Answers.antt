use Rattle.page_cache.proofs.Entries.{alone_now, becomes_still}
use Rattle.page_cache.proofs.frames.clean_frame.Goals as goal

pub put_last-requires : goal.put_last-requires
put_last-requires c = alone_now c.args.number _ _ c.requires.there (c.requires.alone c.if-alone.true) c.set_clean.ensures.becomes

pub returns-then-alone-clause-becomes : goal.returns-then-alone-clause-becomes
returns-then-alone-clause-becomes c = becomes_still c.args.number _ _ _ _ c.set_clean.ensures.becomes c.put_last.ensures.keeps
