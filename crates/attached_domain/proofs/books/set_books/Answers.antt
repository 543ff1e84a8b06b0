use Rattle.std.proofs.Common.{◌∙◌, ◌<◌, ℕ, Option, None, length, subst, arith}
use Rattle.no_faults.proofs.OfFileChains.Allocated.{there_is}
use Rattle.no_faults.specs.domain_memory.declared.slots.SlotFiles.{SlotFiles}
use Rattle.attached_domain.specs.Parts.{GetsItsBook}
use Rattle.attached_domain.proofs.TheirBooks.{all_get, more_get}
use Rattle.attached_domain.proofs.books.set_books.Goals as goal

pub loop-n-preserved : goal.loop-n-preserved
loop-n-preserved g c =
    let pages = g.M.MetaPages.pages c.args.pages.now in
    let table = c.args.tables.now.filesets in
    let n = c.loop-n.n in
    let items = c.loop-n.slots.items in
    let here = c.index_mut.result.now in
    let slot = c.set_book.new.slot in
    let within : n < length items = omega (arith, c.loop-n-test.true, c.loop-n.auto.n-end, c.loop-n.invariant.len, c.requires.count) in
    more_get pages table c.args.slots.now.items items n slot c.loop-n.invariant within
    (subst (λ (o : Option SlotFiles). GetsItsBook pages table n o slot) (c.index_mut.ensures.value ∙ there_is items n here None within)
    (subst (λ (k : ℕ). GetsItsBook pages table k here slot) c.in-Some.ensures.value c.in_ok-set_book.ensures))

pub returns : goal.returns
returns g c =
    all_get (g.M.MetaPages.pages c.args.pages.now) c.args.tables.now.filesets c.args.slots.now.items c.loop-n.slots.items c.loop-n.n c.loop-n.invariant
    (omega (arith, c.loop-n-test.false, c.loop-n.auto.n-end, c.loop-n.invariant.len, c.requires.count))
