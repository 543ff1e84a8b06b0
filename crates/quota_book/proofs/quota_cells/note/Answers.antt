use Rattle.std.proofs.Common.{◌∙◌, ap, is_some, sym}
use Rattle.std.specs.FinMap.Entries.{find}
use Rattle.fileset_model.specs.fileset_values.Orders.{owner_cmp}
use Rattle.quota_book.specs.QuotaCells.{Seen}
use Rattle.quota_book.proofs.Once.{put_notes}
use Rattle.quota_book.proofs.quota_cells.note.Goals as goal

pub returns-in_ok-put-in-None-clause-noted : goal.returns-in_ok-put-in-None-clause-noted
returns-in_ok-put-in-None-clause-noted c =
    put_notes c.args.who c.args.seen.now.items c.put.new.entries.items (sym (ap is_some (c.in-None.ensures ∙ ap (λ (es : Seen). find owner_cmp c.args.who es) c.deref.ensures.value))) c.in_ok-put-in-None.ensures.ok
