use Rattle.std.proofs.Common.{◌≡◌, ◌<◌, ◌+◌, Some, length, slice_get, slice_index_or, sym, subst, arith}
use Rattle.std.proofs.lemmas.Option.{slice_get-get_or}
use Rattle.fileset_shapes.specs.page_ways.Frame.{frame_in}
use Rattle.fileset_shapes.specs.fileset_table.declared.slot.SlotItem.TheVariants.{Free}
use Rattle.filesets_filled.specs.Slots.{AreFilledUpTo, FillsSlot}
use Rattle.filesets_filled.proofs.FilledSlots.{filled_first, filled_more}
use Rattle.filesets_filled.proofs.Says.{all_slots, own_names}
use Rattle.filesets_filled.proofs.domain.read_tables_filesets.Goals as goal

pub loop-n-init : goal.loop-n-init
loop-n-init g c =
    let pages = g.M.MetaPages.pages c.args.pages.now in
    let tables = c.args.tables.now in
    subst (AreFilledUpTo pages tables.filesets 0) (sym c.new-all.ensures)
    (filled_first pages tables.filesets (own_names pages (frame_in c.args.domain.now) tables c.requires))

pub loop-n-preserved : goal.loop-n-preserved
loop-n-preserved g c =
    let pages = g.M.MetaPages.pages c.args.pages.now in
    let tables = c.args.tables.now in
    let slots = tables.filesets.slots in
    let n = c.loop-n.n in
    let within : n < length slots = omega (arith, c.loop-n-test.true, all_slots pages (frame_in c.args.domain.now) tables c.requires) in
    let there : slice_get slots n ≡ Some (slice_index_or slots n Free) = slice_get-get_or slots n Free within in
    let number : c.in-Some.number ≡ n = c.in-Some.ensures.value in
    let found = c.in_ok-read_fileset.field-0 in
    subst (AreFilledUpTo pages tables.filesets (n + 1)) (sym c.in_ok-put_found.ensures)
    (filled_more pages tables.filesets (own_names pages (frame_in c.args.domain.now) tables c.requires) n c.loop-n.all c.loop-n.invariant (slice_index_or slots n Free) there found
    (subst (λ k. FillsSlot pages tables.filesets k found) number c.in_ok-read_fileset.ensures))
