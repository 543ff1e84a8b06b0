use Rattle.std.proofs.Common.{List, sym, subst}
use Rattle.fileset_shapes.specs.cell_records.declared.record.Record.{Record}
use Rattle.fileset_shapes.specs.Limits.{HasLimitsOf}
use Rattle.fileset_shapes.specs.declared.found.TaggedFile.{TaggedFile}
use Rattle.filesets_filled.specs.Parts.{ArePartsSeen, MayBeRead}
use Rattle.filesets_filled.proofs.Filled.{fills, may_read, names_once, parts_of}
use Rattle.filesets_filled.proofs.filling.fill_fileset.Goals as goal

pub read_parts-requires : goal.read_parts-requires
read_parts-requires g c =
    let pages = g.M.MetaPages.pages c.args.pages.now in
    let whole = g.met.M.MetaPages.whole c.args.pages.now in
    subst (MayBeRead pages) (sym c.as_slice.ensures.value) (may_read pages whole c.args.entry.now c.args.found.now c.requires.0 c.requires.1)

pub make_fileset-requires : goal.make_fileset-requires
make_fileset-requires g c =
    let pages = g.M.MetaPages.pages c.args.pages.now in
    let whole = g.met.M.MetaPages.whole c.args.pages.now in
    let parts = c.in_ok-parts.parts in
    names_once pages whole c.args.entry.now c.args.found.now c.requires.0 c.requires.1 parts
    (subst (λ (fs : List TaggedFile). ArePartsSeen pages fs parts) c.as_slice.ensures.value c.in_ok-parts.ensures)

pub set_limits-requires : goal.set_limits-requires
set_limits-requires g c =
    let pages = g.M.MetaPages.pages c.args.pages.now in
    let whole = g.met.M.MetaPages.whole c.args.pages.now in
    let parts = c.in_ok-parts.parts in
    let are = subst (λ (fs : List TaggedFile). ArePartsSeen pages fs parts) c.as_slice.ensures.value c.in_ok-parts.ensures in
    (c.in_ok-slot.ensures c.requires.0.shown (parts_of pages whole c.args.entry.now c.args.found.now c.requires.0 c.requires.1 parts are) c.requires.1.may).limits

pub returns : goal.returns
returns g c = λ shape says.
    let pages = g.M.MetaPages.pages c.args.pages.now in
    let whole = g.met.M.MetaPages.whole c.args.pages.now in
    let parts = c.in_ok-parts.parts in
    let are = subst (λ (fs : List TaggedFile). ArePartsSeen pages fs parts) c.as_slice.ensures.value c.in_ok-parts.ensures in
    let makes = c.in_ok-slot.ensures shape.shown (parts_of pages whole c.args.entry.now c.args.found.now shape says parts are) says.may in
    fills pages whole c.args.entry.now c.args.found.now shape says parts are c.in_ok-slot.slot makes c.set_limits.new.tree c.set_limits.ensures.kept
    (subst (λ (rs : List Record). HasLimitsOf c.args.entry.now rs c.set_limits.new.tree) c.as_slice-2.ensures c.in_ok-set_limits.ensures.limits)
