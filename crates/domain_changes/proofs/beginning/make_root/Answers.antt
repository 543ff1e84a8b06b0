use Rattle.std.proofs.Common.{refl, ap}
use Rattle.domain_memory.specs.staged_pages.Store.{pages_of}
use Rattle.domain_changes.proofs.KeptParts.{parts_kept}
use Rattle.domain_changes.proofs.KeptTaken.{call_kept}
use Rattle.domain_changes.proofs.RootMaking.{makes_root}
use Rattle.domain_changes.proofs.beginning.make_root.Goals as goal

pub returns-clause-ok : goal.returns-clause-ok
returns-clause-ok c =
    makes_root c.args.files.now.fileset c.args.prefer c.made-born.result c.args.files.now.tags c.create_root.new.self.tags c.args.memory.now _ c.made-born.ensures (ap (λ f. f.tags) c.create_root.ensures.same) c.create_root.result
    c.create_root.ensures.ok c.create_root.ensures.taken c.create_root.ensures.others c.create_root.ensures.elsewhere

pub returns-clause-kept : goal.returns-clause-kept
returns-clause-kept c =
    let k = call_kept c.args.prefer c.args.memory.now.space c.create_root.new.space c.args.memory.now.cells c.create_root.new.cells (pages_of c.args.memory.now.pages) c.create_root.result c.create_root.ensures.taken c.create_root.ensures.err c.create_root.ensures.cells in
    parts_kept c.args.memory.now _ refl c.create_root.ensures.before k.spaces k.tables k.marks
