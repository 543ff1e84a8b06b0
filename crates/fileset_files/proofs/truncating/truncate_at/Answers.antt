use Rattle.std.proofs.Common.{◌∙◌, ◌∷◌, None, Some, ap, cond, is_some, subst, sym}
use Rattle.std.proofs.Common.{◌||◌}
use Rattle.file_chains.specs.domain_base.declared.place.CellAt.{CellAt}
use Rattle.file_chains.specs.metadata_cells.Chain.{StandsAt}
use Rattle.fileset_files.proofs.Truncated.{left_said, was_of}
use Rattle.fileset_files.proofs.truncating.truncate_at.Goals as goal

pub set_size-requires-clause-was : goal.set_size-requires-clause-was
set_size-requires-clause-was g c =
    was_of (g.M.MetaPages.pages c.args.pages.now) c.args.at.now c.requires.file.0 c.args.was.now c.requires.file.1 (c.requires.was c.requires.file.0 c.requires.file.1)

pub returns-clause-ok : goal.returns-clause-ok
returns-clause-ok g c = λ first rest is.
    let pages = g.M.MetaPages.pages c.args.pages.now in
    let lowered = c.in_ok-lowered.lowered in
    let said = left_said c.args.size lowered first rest c.args.was.now (c.requires.was (first ∷ rest) is) in
    record {
      lowered = lowered;
      stale = c.in_ok-lowered.ensures (first ∷ rest) is;
      stands = c.in_ok-set_size.ensures.ok first.cell (subst (λ (a : CellAt). StandsAt pages a first.cell) is.0 is.1.links.stands);
      pending = c.left_at.ensures
          ∙ (λ i. cond ((c.is_some-pending.ensures ∙ ap is_some (c.first_record.ensures (first ∷ rest) is)) i || is_some lowered) (Some (sym is.0 i)) None)
          ∙ sym said;
    }
