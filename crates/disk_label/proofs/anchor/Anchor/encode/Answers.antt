use Rattle.disk_label.proofs.Bodies.{anchor_from-encoded, body_bytes-words}
use Rattle.disk_label.proofs.anchor.Anchor.encode.Goals as goal

pub returns-clause-reads_back : goal.returns-clause-reads_back
returns-clause-reads_back c =
    let words = c.words.ensures in
    let made = c.written.ensures in
    anchor_from-encoded c.args.self.now c.written.result c.words.result _ made.value words.value made.fits c.requires words.table words.members made.count

pub returns-clause-body : goal.returns-clause-body
returns-clause-body c = body_bytes-words c.args.self.now c.written.result c.words.result c.written.ensures.value c.words.ensures.value
