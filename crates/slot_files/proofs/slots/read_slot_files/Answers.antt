use Rattle.std.proofs.Common.{◌∙◌, Some, ap}
use Rattle.index_row_faults.specs.fileset_table.declared.slot.SlotItem.{SlotItem}
use Rattle.index_row_faults.specs.fileset_table.declared.slot.SlotItem.TheVariants as slot
use Rattle.index_row_faults.specs.page_ways.Frame.{frame_in}
use Rattle.slot_files.proofs.SlotFiles.{no_files}
use Rattle.slot_files.proofs.slots.read_slot_files.Goals as goal

pub read_original_slot-requires-clause-original : goal.read_original_slot-requires-clause-original
read_original_slot-requires-clause-original g c = (c.in-Original.entry, c.slot.ensures.value ∙ ap (λ (item : SlotItem). Some item) c.in-Original.is)

pub read_clone_slot-requires-clause-clone : goal.read_clone_slot-requires-clause-clone
read_clone_slot-requires-clause-clone g c = (c.in-Clone.entry, c.slot.ensures.value ∙ ap (λ (item : SlotItem). Some item) c.in-Clone.is)

pub returns-in-Free : goal.returns-in-Free
returns-in-Free g c =
    no_files (g.M.MetaPages.pages c.args.pages.now) (frame_in c.args.frame.now) c.args.tables.now.filesets c.args.number slot.Free (c.slot.ensures.value ∙ ap (λ (item : SlotItem). Some item) c.in-Free.is)
    (λ tag cells seen is. is) c.new.result.items c.new.ensures.items

pub returns-in-Removed : goal.returns-in-Removed
returns-in-Removed g c =
    no_files (g.M.MetaPages.pages c.args.pages.now) (frame_in c.args.frame.now) c.args.tables.now.filesets c.args.number (slot.Removed c.in-Removed.first_tag c.in-Removed.quota) (c.slot.ensures.value ∙ ap (λ (item : SlotItem). Some item) c.in-Removed.is)
    (λ tag cells seen is. is) c.new-in-Removed.result.items c.new-in-Removed.ensures.items
