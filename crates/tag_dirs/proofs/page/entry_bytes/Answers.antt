use Rattle.tag_dirs.proofs.WrittenEntry.{changes}
use Rattle.tag_dirs.proofs.page.entry_bytes.Goals as goal

pub returns : goal.returns
returns c = λ page place below good allowed. changes page c.spell.new.out place good.whole c.spell.ensures.len below c.args.entry.now c.spell.ensures.seq c.spell.ensures.at good allowed
