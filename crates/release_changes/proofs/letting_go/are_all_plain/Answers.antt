use Rattle.std.proofs.Common.{◌≡◌, ◌∙◌, ◌≤◌, ℕ, get_or, sym, ap, subst, arith, ⊎_elim}
use Rattle.std.proofs.lemmas.Bool.{cases_lt}
use Rattle.domain_changes.specs.metadata_cells.Chain.{StandsAt}
use Rattle.domain_changes.specs.release_list.declared.list.Entry.{Entry}
use Rattle.release_changes.proofs.LetGoEnds.{get_same, got_or}
use Rattle.release_changes.proofs.letting_go.are_all_plain.Goals as goal

pub loop-entry-preserved : goal.loop-entry-preserved
loop-entry-preserved g c = λ k d less cell stands. ⊎_elim
    (λ earlier. c.loop-entry.invariant k d earlier cell stands)
    (λ (here : c.loop-entry.entry-index ≤ k).
    let same : k ≡ c.loop-entry.entry-index = omega (arith, less, here) in
    let item : get_or c.args.entries.now k d ≡ c.entry-item.result = ap (λ (n : ℕ). get_or c.args.entries.now n d) same ∙ get_same c.args.entries.now c.loop-entry.entry-index d c.entry-item.result c.loop-entry-test.true ∙ sym c.entry-item.is in
    sym (c.is_plain.ensures cell (subst (λ (e : Entry). StandsAt (g.M.MetaPages.pages c.args.pages.now) e.at cell) item stands)) ∙ c.if-not-is_plain.false)
    (cases_lt k c.loop-entry.entry-index)

pub returns-clause-all : goal.returns-clause-all
returns-clause-all g c = λ all entry inside cell stands.
    c.loop-entry.invariant inside.0 entry (omega (arith, inside.1, c.loop-entry-test.false)) cell (subst (λ (e : Entry). StandsAt (g.M.MetaPages.pages c.args.pages.now) e.at cell) (sym (got_or c.args.entries.now entry inside)) stands)
