use Rattle.release_steps.specs.domain_base.declared.version.Version.TheVariants.{Four}
use Rattle.release_tables.specs.Called.{fileset_in, parts_of}
use Rattle.release_tables.proofs.Agains.{cut_chain}
use Rattle.release_tables.proofs.Stoods.{cut_from, cut_stood, itself}
use Rattle.release_tables.proofs.removing.cut_listed.Goals as goal

pub cut-requires : goal.cut-requires
cut-requires c = (c.requires.1, c.requires.3.together)

pub returns : goal.returns
returns c =
    let r = c.requires in
    let list = c.args.list.now.list in
    let parts = parts_of c.args.world.now list in
    let first = fileset_in parts r.0 r.1 in
    let cut = cut_from c.in_ok-cut.ensures.fileset (c.in_ok-cut.ensures.calls Four first list r.3 (itself c.args.world.now.files.fileset Four c.args.tag parts r.0 r.1)) c.in_ok-at.ensures.ok_part r.2 r.3 in
    let now = parts_of c.cut.new.world list in
    let chain = cut_chain c.cut.new.world.files.fileset Four c.args.tag c.in_ok-at.at first now cut in
    cut_stood c.cut.new.world.files.fileset Four c.args.tag c.in_ok-at.at first now cut c.add.new.self.list c.in_ok-add.ensures.ok c.in_ok-add.ensures.tag_pages
    (c.is_trimmed.ensures chain.chain chain.file c.if-not-is_trimmed.false)
