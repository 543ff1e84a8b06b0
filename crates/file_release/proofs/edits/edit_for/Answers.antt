use Rattle.std.proofs.Common.{subst}
use Rattle.fileset_files.specs.domain_base.declared.place.CellAt.{CellAt}
use Rattle.fileset_files.specs.metadata_cells.Chain.{StandsAt}
use Rattle.file_release.proofs.Edited.{edits_past, edits_record}
use Rattle.file_release.proofs.edits.edit_for.Goals as goal

pub returns-in-Some : goal.returns-in-Some
returns-in-Some g c = λ front d value stand stands at_is before_is has.
    edits_past (g.M.MetaPages.pages c.args.pages.now) front d value c.in_ok-after.after c.args.from c.args.stale.now.at c.in-Some.before c.args.stale.now.before c.leads_past.result c.unlinked.result stand stands at_is before_is c.in-Some.is
    c.leads_past.ensures.empty c.leads_past.ensures.some (c.in_ok-after.ensures d.cell value (subst (λ (a : CellAt). StandsAt (g.M.MetaPages.pages c.args.pages.now) a d.cell) at_is stands) has) c.unlinked.ensures.place c.unlinked.ensures.cell

pub returns-in-None : goal.returns-in-None
returns-in-None g c = λ front d value stand stands at_is before_is has.
    edits_record (g.M.MetaPages.pages c.args.pages.now) front d value c.in_ok-after.after c.args.from c.args.stale.now.at c.args.stale.now.before c.leads_past.result c.rewritten.result stands at_is before_is c.in-None.is
    c.leads_past.ensures.empty (c.in_ok-after.ensures d.cell value (subst (λ (a : CellAt). StandsAt (g.M.MetaPages.pages c.args.pages.now) a d.cell) at_is stands) has) c.rewritten.ensures.place c.rewritten.ensures.cell
