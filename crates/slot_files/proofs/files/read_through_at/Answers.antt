use Rattle.std.proofs.Common.{◌∙◌, sym}
use Rattle.index_row_faults.specs.page_ways.Frame.{frame_in}
use Rattle.index_row_faults.proofs.OfFilesetShapes.Answered.{if_ok}
use Rattle.slot_files.proofs.ReadFiles.{through_late, through_none, through_read}
use Rattle.slot_files.proofs.files.read_through_at.Goals as goal

pub returns-in_default : goal.returns-in_default
returns-in_default g c =
    through_none (g.M.MetaPages.pages c.args.pages.now) (frame_in c.args.frame.now) c.args.tag c.args.at.now c.args.number (λ cells links. sym c.in_default.is ∙ c.first_record.ensures cells links)

pub returns-then-not-is_in_sync : goal.returns-then-not-is_in_sync
returns-then-not-is_in_sync g c =
    through_late (g.M.MetaPages.pages c.args.pages.now) (frame_in c.args.frame.now) c.args.tag c.args.at.now c.args.number c.in-Some.value (λ cells links. sym c.in-Some.is ∙ c.first_record.ensures cells links)
    (sym c.is_in_sync.ensures ∙ c.if-not-is_in_sync.true)

pub returns : goal.returns
returns g c =
    if_ok c.read_original_at.result _ _
    (λ found reads. through_read (g.M.MetaPages.pages c.args.pages.now) (frame_in c.args.frame.now) c.args.tag c.args.at.now c.args.number c.in-Some.value (λ cells links. sym c.in-Some.is ∙ c.first_record.ensures cells links)
    (sym c.is_in_sync.ensures ∙ c.if-not-is_in_sync.false) found reads) c.read_original_at.ensures
