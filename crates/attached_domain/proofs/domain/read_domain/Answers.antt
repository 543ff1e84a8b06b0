use Rattle.std.proofs.Common.{◌∙◌, sym, ap, subst}
use Rattle.no_faults.specs.page_store.Pages.{Pages}
use Rattle.no_faults.specs.staged_pages.Store.{before_of, pages_of}
use Rattle.no_faults.specs.page_ways.Frame.{frame_in}
use Rattle.no_faults.specs.domain_layout.Read.{ReadsFrom}
use Rattle.attached_domain.proofs.PartsRead.{few_pages, good_parts, table_parts}
use Rattle.attached_domain.proofs.StandsRead.{all_stands, is_settled, may_go_back}
use Rattle.attached_domain.proofs.domain.read_domain.Goals as goal

pub read_memory-requires-clause-good : goal.read_memory-requires-clause-good
read_memory-requires-clause-good c = good_parts (pages_of c.args.pages) (frame_in c.args.frame) c.requires.may c.in_ok-parts.parts c.in_ok-parts.ensures.parts

pub read_memory-requires-clause-few : goal.read_memory-requires-clause-few
read_memory-requires-clause-few c = few_pages (pages_of c.args.pages) (frame_in c.args.frame) c.requires.may

pub read_memory-requires-clause-table : goal.read_memory-requires-clause-table
read_memory-requires-clause-table c = table_parts (pages_of c.args.pages) (frame_in c.args.frame) c.requires.may c.in_ok-parts.parts c.in_ok-parts.ensures.parts

pub returns-clause-stands : goal.returns-clause-stands
returns-clause-stands c home all at reads =
    let m = c.in_ok-memory.memory in
    let are = c.in_ok-parts.ensures.parts in
    let pages_are = c.in_ok-memory.ensures.pages in
    all_stands m (pages_of c.args.pages) (frame_in c.args.frame) (c.requires.kept ∙ sym (ap before_of pages_are)) are.layout (c.in_ok-memory.ensures.read are.layout are.read) are.may are.read.framed
    c.in_ok-parts.parts.slots.items (ap (λ s. s.items) c.in_ok-memory.ensures.slots) are.books home all at (subst (λ (p : Pages). ReadsFrom p home all) (sym (ap before_of pages_are)) reads)

pub returns-clause-settled : goal.returns-clause-settled
returns-clause-settled c =
    let m = c.in_ok-memory.memory in
    let are = c.in_ok-parts.ensures.parts in
    let pages_are = c.in_ok-memory.ensures.pages in
    is_settled m (pages_of c.args.pages) (frame_in c.args.frame) (c.requires.kept ∙ sym (ap before_of pages_are)) are.layout (c.in_ok-memory.ensures.read are.layout are.read) are.may are.read.framed
    c.in_ok-parts.parts.slots.items (ap (λ s. s.items) c.in_ok-memory.ensures.slots) are.books

pub returns-clause-back : goal.returns-clause-back
returns-clause-back c =
    let m = c.in_ok-memory.memory in
    let are = c.in_ok-parts.ensures.parts in
    let pages_are = c.in_ok-memory.ensures.pages in
    may_go_back m (pages_of c.args.pages) (frame_in c.args.frame) (c.requires.kept ∙ sym (ap before_of pages_are)) are.layout (c.in_ok-memory.ensures.read are.layout are.read) are.may are.read.framed
    c.in_ok-parts.parts.slots.items (ap (λ s. s.items) c.in_ok-memory.ensures.slots) are.books

pub returns-clause-frame : goal.returns-clause-frame
returns-clause-frame c =
    let are = c.in_ok-parts.ensures.parts in
    sym (c.in_ok-memory.ensures.read are.layout are.read).frame ∙ are.read.framed
