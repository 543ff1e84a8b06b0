use Rattle.std.proofs.Common.{subst}
use Rattle.page_store.specs.Bitfiles.{insert_index, shown_index}
use Rattle.page_store.specs.Tags.{Changes}
use Rattle.page_store.proofs.FileLemmas.{files-change}
use Rattle.page_store.proofs.memory_bitfiles.MemoryBitfilesBitfileSet.insert_index_page.Goals as goal

pub returns-clause-ok : goal.returns-clause-ok
returns-clause-ok c =
    let old = c.args.self.now.files.items in
    let new = c.change_page.new.files.items in
    let change = insert_index c.args.page (shown_index c.args.bytes) in
    let stored = subst (λ bytes. Changes old new c.key_of.result (insert_index c.args.page bytes)) c.shown.ensures c.in_ok-change_page.ensures.ok in
    files-change old new c.args.tag change c.key_of.ensures.width (subst (λ key. Changes old new key change) c.key_of.ensures.value stored)
