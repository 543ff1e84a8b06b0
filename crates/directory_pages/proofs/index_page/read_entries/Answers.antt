use Rattle.std.proofs.Common.{◌∙◌, [], ◌∷◌, ◌++◌, sym}
use Rattle.directory_pages.proofs.IndexParts.{entries_more}
use Rattle.directory_pages.proofs.index_page.read_entries.Goals as goal

pub loop-entry-preserved : goal.loop-entry-preserved
loop-entry-preserved c =
    c.in_ok-push.ensures.items ∙ (λ i. c.loop-entry.invariant i ++ c.read_entry.ensures i ∷ []) ∙ sym (entries_more c.args.page.now c.loop-entry.entry)
