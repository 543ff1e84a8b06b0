use Rattle.std.proofs.Common.{refl}
use Rattle.index_row_faults.specs.fileset_table.declared.slot.SlotItem.TheVariants as slot
use Rattle.index_row_faults.specs.page_ways.Frame.{frame_in}
use Rattle.index_row_faults.proofs.OfFilesetShapes.Answered.{if_ok}
use Rattle.slot_files.proofs.SlotFiles.{directory_at, files_of_clone, is_table, original_behind, sources_at, whole_at}
use Rattle.slot_files.proofs.slots.read_clone_slot.Goals as goal

pub tags_of-own-requires : goal.tags_of-own-requires
tags_of-own-requires g c = c.requires.tables.all

pub tags_of-behind-requires : goal.tags_of-behind-requires
tags_of-behind-requires g c = c.requires.tables.all

pub read_clone_files-requires-clause-own : goal.read_clone_files-requires-clause-own
read_clone_files-requires-clause-own g c =
    let entry = c.requires.clone.0 in
    (directory_at (g.M.MetaPages.pages c.args.pages.now) (frame_in c.args.frame.now) c.args.tables.now c.requires.tables c.requires.no_fault c.args.number (slot.Clone c.args.of c.args.clone entry) c.requires.clone.1 entry.first_tag refl c.tags_of-own.result.now
    c.tags_of-own.ensures).directory

pub read_clone_files-requires-clause-behind : goal.read_clone_files-requires-clause-behind
read_clone_files-requires-clause-behind g c =
    let pages = g.M.MetaPages.pages c.args.pages.now in
    let frame = frame_in c.args.frame.now in
    let tables = c.args.tables.now in
    let behind = original_behind pages frame tables c.requires.tables c.requires.no_fault c.args.number c.args.of c.args.clone c.requires.clone.0 c.requires.clone.1 c.tags_of-own.result.now c.tags_of-own.ensures (is_table pages frame tables c.requires.tables) in
    (directory_at pages frame tables c.requires.tables c.requires.no_fault c.args.of (slot.Original behind.0) behind.1 (behind.0).first_tag refl c.tags_of-behind.result.now c.tags_of-behind.ensures).directory

pub read_clone_files-requires-clause-whole : goal.read_clone_files-requires-clause-whole
read_clone_files-requires-clause-whole g c =
    let entry = c.requires.clone.0 in
    whole_at (g.M.MetaPages.pages c.args.pages.now) (frame_in c.args.frame.now) c.args.tables.now c.requires.tables c.requires.no_fault c.args.number (slot.Clone c.args.of c.args.clone entry) c.requires.clone.1 entry.first_tag refl c.tags_of-own.result.now c.tags_of-own.ensures

pub read_clone_files-requires-clause-sources : goal.read_clone_files-requires-clause-sources
read_clone_files-requires-clause-sources g c =
    sources_at (g.M.MetaPages.pages c.args.pages.now) (frame_in c.args.frame.now) c.args.tables.now c.requires.tables c.requires.no_fault c.args.number c.args.of c.args.clone c.requires.clone.0 c.requires.clone.1 c.tags_of-own.result.now c.tags_of-own.ensures

pub read_clone_files-requires-clause-behind_whole : goal.read_clone_files-requires-clause-behind_whole
read_clone_files-requires-clause-behind_whole g c =
    let pages = g.M.MetaPages.pages c.args.pages.now in
    let frame = frame_in c.args.frame.now in
    let tables = c.args.tables.now in
    let behind = original_behind pages frame tables c.requires.tables c.requires.no_fault c.args.number c.args.of c.args.clone c.requires.clone.0 c.requires.clone.1 c.tags_of-own.result.now c.tags_of-own.ensures (is_table pages frame tables c.requires.tables) in
    whole_at pages frame tables c.requires.tables c.requires.no_fault c.args.of (slot.Original behind.0) behind.1 (behind.0).first_tag refl c.tags_of-behind.result.now c.tags_of-behind.ensures

pub returns : goal.returns
returns g c =
    let pages = g.M.MetaPages.pages c.args.pages.now in
    let frame = frame_in c.args.frame.now in
    let tables = c.args.tables.now in
    let behind = original_behind pages frame tables c.requires.tables c.requires.no_fault c.args.number c.args.of c.args.clone c.requires.clone.0 c.requires.clone.1 c.tags_of-own.result.now c.tags_of-own.ensures (is_table pages frame tables c.requires.tables) in
    if_ok c.read_clone_files.result _ _
    (λ files all. files_of_clone pages frame tables c.requires.tables c.requires.no_fault c.args.number c.args.of c.args.clone c.requires.clone.0 behind.0 c.requires.clone.1 behind.1 c.tags_of-own.result.now c.tags_of-behind.result.now c.tags_of-own.ensures c.tags_of-behind.ensures files.items all)
    c.read_clone_files.ensures
