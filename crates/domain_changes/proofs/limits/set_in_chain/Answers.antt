use Rattle.std.proofs.Common.{refl}
use Rattle.domain_memory.specs.quota_book.QuotaCells.{touched}
use Rattle.domain_memory.specs.release_steps.QuotaChain.{said_in}
use Rattle.domain_memory.specs.staged_pages.Store.{pages_of}
use Rattle.domain_changes.proofs.KeptParts.{parts_kept}
use Rattle.domain_changes.proofs.QuotaCalls.{quota_call_kept, sets_chain}
use Rattle.domain_changes.proofs.limits.set_in_chain.Goals as goal

pub returns-clause-ok : goal.returns-clause-ok
returns-clause-ok c =
    sets_chain c.args.number c.args.prefer c.args.who c.args.limits.now c.args.entry.now c.args.memory.now (record {
      frame = c.args.memory.now.frame;
      pages = c.set_limits.new.pages;
      space = c.set_limits.new.space;
      cells = c.set_limits.new.cells;
      table = c.args.memory.now.table;
      list = c.args.memory.now.list;
      slots = c.args.memory.now.slots;
      was = c.args.memory.now.was;
      listed = c.args.memory.now.listed;
    }) refl c.set_limits.result c.set_limits.ensures.start c.set_limits.ensures.ok c.set_limits.ensures.taken c.set_limits.ensures.others c.set_limits.ensures.elsewhere c.set_limits.ensures.allocated c.set_limits.ensures.before

pub returns-clause-kept : goal.returns-clause-kept
returns-clause-kept c =
    let chain = c.requires.chain.0 in
    let k = quota_call_kept (touched (said_in chain) c.args.who) c.args.prefer c.args.memory.now.space c.set_limits.new.space c.args.memory.now.cells c.set_limits.new.cells (pages_of c.args.memory.now.pages) c.set_limits.result
    (c.set_limits.ensures.taken chain c.requires.chain.1) c.set_limits.ensures.err c.set_limits.ensures.cells in
    parts_kept c.args.memory.now _ refl c.set_limits.ensures.before k.spaces k.tables k.marks
