use Rattle.std.proofs.Common.{refl}
use Rattle.index_row_faults.specs.fileset_table.declared.slot.SlotItem.TheVariants as slot
use Rattle.index_row_faults.specs.page_ways.Frame.{frame_in}
use Rattle.index_row_faults.proofs.OfFilesetShapes.Answered.{if_ok}
use Rattle.slot_files.proofs.SlotFiles.{directory_at, files_of_original, whole_at}
use Rattle.slot_files.proofs.slots.read_original_slot.Goals as goal

pub tags_of-requires : goal.tags_of-requires
tags_of-requires g c = c.requires.tables.all

pub read_original_files-requires-clause-directory : goal.read_original_files-requires-clause-directory
read_original_files-requires-clause-directory g c =
    let entry = c.requires.original.0 in
    (directory_at (g.M.MetaPages.pages c.args.pages.now) (frame_in c.args.frame.now) c.args.tables.now c.requires.tables c.requires.no_fault c.args.number (slot.Original entry) c.requires.original.1 entry.first_tag refl c.tags_of.result.now c.tags_of.ensures).directory

pub read_original_files-requires-clause-whole : goal.read_original_files-requires-clause-whole
read_original_files-requires-clause-whole g c =
    let entry = c.requires.original.0 in
    whole_at (g.M.MetaPages.pages c.args.pages.now) (frame_in c.args.frame.now) c.args.tables.now c.requires.tables c.requires.no_fault c.args.number (slot.Original entry) c.requires.original.1 entry.first_tag refl c.tags_of.result.now c.tags_of.ensures

pub returns : goal.returns
returns g c =
    if_ok c.read_original_files.result _ _
    (λ files all. files_of_original (g.M.MetaPages.pages c.args.pages.now) (frame_in c.args.frame.now) c.args.tables.now c.requires.tables c.requires.no_fault c.args.number c.requires.original.0 c.requires.original.1 c.tags_of.result.now c.tags_of.ensures files.items all)
    c.read_original_files.ensures
