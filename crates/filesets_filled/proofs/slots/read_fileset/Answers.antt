use Rattle.std.proofs.Common.{◌≡◌, ◌∙◌, Some, IsSomeAnd, option_copied, sym, ap, subst}
use Rattle.fileset_shapes.specs.page_ways.Frame.{frame_in}
use Rattle.fileset_shapes.specs.fileset_table.Table.{entry_of}
use Rattle.fileset_shapes.specs.Found.{SeesFileset}
use Rattle.filesets_filled.proofs.Says.{fills_one, says_one, sees_entry}
use Rattle.filesets_filled.proofs.slots.read_fileset.Goals as goal

pub unreachable-requires : goal.unreachable-requires
unreachable-requires g c =
    let pages = g.M.MetaPages.pages c.args.pages.now in
    let item = c.slot.result.now in
    let tables = c.args.tables.now in
    let is_entry : entry_of item ≡ Some c.in-Some.entry.now = sym c.entry_of.ensures ∙ ap option_copied c.in-Some.is in
    subst (λ o. IsSomeAnd o (SeesFileset pages tables.filesets c.args.number item c.in-Some.entry.now)) c.in_default-2.is
    (sees_entry pages (frame_in c.args.domain.now) tables c.requires c.args.number item c.slot.ensures.value c.in-Some.entry.now is_entry c.in_ok-found.field-0 c.in_ok-found.ensures)

pub fill_fileset-requires : goal.fill_fileset-requires
fill_fileset-requires g c =
    let pages = g.M.MetaPages.pages c.args.pages.now in
    let item = c.slot.result.now in
    let tables = c.args.tables.now in
    let is_entry : entry_of item ≡ Some c.in-Some.entry.now = sym c.entry_of.ensures ∙ ap option_copied c.in-Some.is in
    let seen : SeesFileset pages tables.filesets c.args.number item c.in-Some.entry.now c.in-Some-2.found = subst (λ o. IsSomeAnd o (SeesFileset pages tables.filesets c.args.number item c.in-Some.entry.now)) c.in-Some-2.is
    (sees_entry pages (frame_in c.args.domain.now) tables c.requires c.args.number item c.slot.ensures.value c.in-Some.entry.now is_entry c.in_ok-found.field-0 c.in_ok-found.ensures) in
    (seen.shape, says_one pages (frame_in c.args.domain.now) tables c.requires c.args.number item c.slot.ensures.value c.in-Some.entry.now is_entry c.in-Some-2.found seen)

pub returns : goal.returns
returns g c =
    let pages = g.M.MetaPages.pages c.args.pages.now in
    let item = c.slot.result.now in
    let tables = c.args.tables.now in
    let is_entry : entry_of item ≡ Some c.in-Some.entry.now = sym c.entry_of.ensures ∙ ap option_copied c.in-Some.is in
    let seen : SeesFileset pages tables.filesets c.args.number item c.in-Some.entry.now c.in-Some-2.found = subst (λ o. IsSomeAnd o (SeesFileset pages tables.filesets c.args.number item c.in-Some.entry.now)) c.in-Some-2.is
    (sees_entry pages (frame_in c.args.domain.now) tables c.requires c.args.number item c.slot.ensures.value c.in-Some.entry.now is_entry c.in_ok-found.field-0 c.in_ok-found.ensures) in
    fills_one pages (frame_in c.args.domain.now) tables c.requires c.args.number item c.slot.ensures.value c.in-Some.entry.now is_entry c.in-Some-2.found seen
    (record { name = c.in_ok-copy.field-0; slot = c.in_ok-fill_fileset.field-0 }) c.in_ok-copy.ensures c.in_ok-fill_fileset.ensures
