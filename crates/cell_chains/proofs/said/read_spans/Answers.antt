use Rattle.std.proofs.Common.{inr, List, IfNone, IfSome, sym, subst, ⊎_elim}
use Rattle.metadata_cells.specs.cell_records.declared.record.Record.{Record}
use Rattle.metadata_cells.specs.Cell.{Cell}
use Rattle.metadata_cells.specs.Chain.{StandsAt}
use Rattle.metadata_cells.proofs.Unique.{one_stands}
use Rattle.metadata_cells.specs.sorted_sets.SpanMembers.{HasAnyOf}
use Rattle.metadata_cells.specs.sorted_sets.declared.span.Span.{Span}
use Rattle.cell_chains.specs.Says.{SaysAny}
use Rattle.cell_chains.proofs.Rows.{none_of}
use Rattle.cell_chains.proofs.said.read_spans.Goals as goal

pub returns-in_default : goal.returns-in_default
returns-in_default g c n =
    let pages = g.M.MetaPages.pages c.args.pages.now in
    let none = subst (λ o. IfNone o ((cell : Cell) → ¬ StandsAt pages c.args.at.now cell)) c.in_default.is c.in_ok-used.ensures.none in (
      λ has. absurd (none_of n (subst (λ (l : List Span). HasAnyOf l n) c.new-spans.ensures.items has)),
      λ (cell, stands, says). absurd (none cell stands),
    )

pub returns : goal.returns
returns g c n =
    let pages = g.M.MetaPages.pages c.args.pages.now in
    let at = c.args.at.now in
    let cell : Cell = record { head = c.in-Some.used.head; records = c.in-Some.used.records } in
    let stands : StandsAt pages at cell = subst (λ o. IfSome o (λ used. StandsAt pages at (record { head = used.head; records = used.records }))) c.in-Some.is c.in_ok-used.ensures.some in
    let put = c.in_ok-push_all.ensures n in
    let same = c.as_slice.ensures in (
      λ has. ⊎_elim (λ was. absurd (none_of n (subst (λ (l : List Span). HasAnyOf l n) c.new-spans.ensures.items was)))
          (λ says. (cell, stands, subst (λ (l : List Record). SaysAny c.args.what l n) same says)) (put.0 has),
      λ (other, there, says). put.1 (inr (subst (λ (l : List Record). SaysAny c.args.what l n) (sym same) (subst (λ (a : Cell). SaysAny c.args.what a.records n) (one_stands pages at other cell there stands) says))),
    )
