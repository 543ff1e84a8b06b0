use Rattle.std.proofs.Common.{None, refl}
use Rattle.filesets_reading.specs.fileset_table.declared.slot.SlotItem.TheVariants as slot
use Rattle.page_ways.specs.Frame.{frame_in}
use Rattle.fileset_shapes.proofs.SeenShapes.{in_slot, originals, sees_original}
use Rattle.fileset_shapes.proofs.shapes.read_original_in.Goals as goal

pub read_quotas-requires : goal.read_quotas-requires
read_quotas-requires g c =
    in_slot (g.M.MetaPages.pages c.args.pages.now) (frame_in c.args.domain.now) c.args.tables.now c.requires.domain c.args.number c.args.entry.now (record { item = slot.Original c.args.entry.now; there = c.requires.entry; is = refl })

pub read_files-requires : goal.read_files-requires
read_files-requires g c =
    originals (g.M.MetaPages.pages c.args.pages.now) (frame_in c.args.domain.now) c.args.tables.now c.requires.domain c.args.number c.args.entry.now c.requires.entry c.in_ok-files.files c.in_ok-files.ensures

pub returns : goal.returns
returns g c =
    sees_original (g.M.MetaPages.pages c.args.pages.now) (frame_in c.args.domain.now) c.args.tables.now c.requires.domain c.args.number c.args.entry.now c.requires.entry c.in_ok-files.files c.in_ok-files.ensures
    (record { original = None; files = c.in_ok-read_files.field-0; quotas = c.in_ok-quotas.quotas }) refl c.in_ok-read_files.ensures c.in_ok-quotas.ensures
