use Rattle.file_release.proofs.Used.{some_used, used_stands}
use Rattle.file_release.proofs.edits.unlinked.Goals as goal

pub unwrap-used-requires : goal.unwrap-used-requires
unwrap-used-requires g c = some_used (g.M.MetaPages.pages c.args.pages.now) c.args.before.now c.in_ok-read_used.field-0 c.in_ok-read_used.ensures.none c.requires.before.0 c.requires.before.1

pub returns-clause-cell : goal.returns-clause-cell
returns-clause-cell g c = λ first gone front_stands stands.
    let used = used_stands (g.M.MetaPages.pages c.args.pages.now) c.args.before.now c.in_ok-read_used.field-0 c.unwrap-used.result c.unwrap-used.ensures c.in_ok-read_used.ensures.some first front_stands in
    let next = c.next_cell.ensures.next gone stands in
    (λ i. record { head = record (used i).head { next = next i }; records = (used i).records })
