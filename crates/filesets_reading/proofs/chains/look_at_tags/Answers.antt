use Rattle.std.proofs.Common.{◌≡◌, ◌+◌, ◌*◌, ℕ, subst, arith, ⊎_elim}
use Rattle.std.proofs.lemmas.Bool.{cases_lt}
use Rattle.filesets_reading.specs.Chains.{HasLinksAt}
use Rattle.filesets_reading.proofs.EntryLinks.{page_links}
use Rattle.filesets_reading.proofs.chains.look_at_tags.Goals as goal

pub loop-entry-preserved : goal.loop-entry-preserved
loop-entry-preserved g c = λ k below.
    ⊎_elim (λ less. c.loop-entry.invariant k less)
    (λ high.
    let last : c.loop-entry.entry ≡ k = omega (arith, below, high) in
    subst (λ (n : ℕ). HasLinksAt (g.M.MetaPages.pages c.args.pages.now) c.args.dir.now (1022 * c.args.place.now.index + n)) last c.in_ok-look_at_entry.ensures)
    (cases_lt k c.loop-entry.entry)

pub returns : goal.returns
returns g c =
    page_links (g.M.MetaPages.pages c.args.pages.now) c.args.dir.now c.requires.directory c.args.place.now
    (λ entry within. c.loop-entry.invariant entry (omega (arith, within, c.loop-entry-test.false)))
