use Rattle.std.proofs.Common.{◌≡◌, ◌∙◌, Some, false, true, refl, ap}
use Rattle.filesets_reading.specs.fileset_table.Table.{is_original}
use Rattle.filesets_reading.specs.fileset_table.declared.slot.SlotItem.{SlotItem}
use Rattle.filesets_reading.specs.fileset_table.declared.slot.FilesetEntry.{FilesetEntry}
use Rattle.filesets_reading.specs.fileset_table.declared.slot.SlotItem.TheVariants as slot
use Rattle.page_ways.specs.Frame.{frame_in}
use Rattle.fileset_shapes.proofs.SeenShapes.{clones, in_slot, of_original, sees_clone}
use Rattle.fileset_shapes.proofs.shapes.read_clone_in.Goals as goal

-- what is an original is no other thing
no_other : (item : SlotItem) → is_original item ≡ true → ((entry : FilesetEntry) → item ≡ slot.Original entry → ⊥) → ⊥
no_other slot.Free is other = let e : false ≡ true = is in absurd (cc)
no_other (slot.Original entry) is other = other entry refl
no_other (slot.Clone of number entry) is other = let e : false ≡ true = is in absurd (cc)
no_other (slot.Removed first_tag quota) is other = let e : false ≡ true = is in absurd (cc)

pub unreachable-requires : goal.unreachable-requires
unreachable-requires g c =
    no_other c.slot.result.now
    (of_original c.args.tables.now.filesets c.slot.ensures.good c.args.number c.args.of c.args.clone c.args.entry.now c.requires.entry c.slot.result.now c.slot.ensures.value)
    c.in_default.not-Original

pub read_quotas-requires : goal.read_quotas-requires
read_quotas-requires g c =
    in_slot (g.M.MetaPages.pages c.args.pages.now) (frame_in c.args.domain.now) c.args.tables.now c.requires.domain c.args.number c.args.entry.now
    (record { item = slot.Clone c.args.of c.args.clone c.args.entry.now; there = c.requires.entry; is = refl })

pub read_files-requires : goal.read_files-requires
read_files-requires g c =
    clones (g.M.MetaPages.pages c.args.pages.now) (frame_in c.args.domain.now) c.args.tables.now c.requires.domain c.args.number c.args.of c.args.clone c.args.entry.now c.in-Original.original c.requires.entry
    (c.slot.ensures.value ∙ ap (λ (item : SlotItem). Some item) c.in-Original.is) c.in_ok-files_in.field-0 c.in_ok-files_in-2.field-0 c.in_ok-files_in.ensures c.in_ok-files_in-2.ensures

pub returns : goal.returns
returns g c =
    sees_clone (g.M.MetaPages.pages c.args.pages.now) (frame_in c.args.domain.now) c.args.tables.now c.requires.domain c.args.number c.args.of c.args.clone c.args.entry.now c.in-Original.original c.requires.entry
    (c.slot.ensures.value ∙ ap (λ (item : SlotItem). Some item) c.in-Original.is) c.in_ok-files_in.field-0 c.in_ok-files_in-2.field-0 c.in_ok-files_in.ensures c.in_ok-files_in-2.ensures
    (record { original = Some c.in_ok-name.name; files = c.in_ok-read_files.field-0; quotas = c.in_ok-quotas.quotas }) (ap (λ n. Some n) c.in_ok-name.ensures) c.in_ok-read_files.ensures c.in_ok-quotas.ensures
