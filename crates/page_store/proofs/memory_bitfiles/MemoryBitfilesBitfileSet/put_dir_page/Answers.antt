use Rattle.std.proofs.Common.{subst}
use Rattle.page_store.specs.Bitfiles.{put_page}
use Rattle.page_store.specs.Tags.{Changes}
use Rattle.page_store.proofs.FileLemmas.{files-change}
use Rattle.page_store.proofs.memory_bitfiles.MemoryBitfilesBitfileSet.put_dir_page.Goals as goal

pub returns-clause-ok : goal.returns-clause-ok
returns-clause-ok c =
    let old = c.args.self.now.files.items in
    let new = c.change_page.new.files.items in
    files-change old new c.args.tag (put_page c.args.page c.args.bytes) c.key_of.ensures.width
    (subst (λ key. Changes old new key (put_page c.args.page c.args.bytes)) c.key_of.ensures.value c.in_ok-change_page.ensures.ok)
