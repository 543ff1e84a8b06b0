use Rattle.std.proofs.Common.{◌≡◌, ◌∙◌, ◌-◌, Some, None, List, length, slice_get, sym, ap, subst}
use Rattle.std.specs.Option.{option_copied}
use mathlib.Core.Bool.{false≢true}
use Rattle.metadata_cells.specs.domain_base.declared.place.CellAt.{CellAt}
use Rattle.cell_chains.specs.Links.{HasLink}
use Rattle.cell_chains.specs.declared.links.CellLink.{CellLink}
use Rattle.cell_chains.specs.Leads.{EndsAstray}
use Rattle.cell_chains.proofs.ChainEnds.{ends_astray, last_alone}
use Rattle.cell_chains.proofs.astray.astray_end.Goals as goal
use Rattle.cell_chains.proofs.astray.astray_end.Goals.{in-Some, in_default, in_default-via-in-Some+else-leads_on, in_default-via-in_default}

some_same : {X : Type 0} (a b : X) → Some a ≡ Some b → a ≡ b
some_same a b e = cc

some_none : {X : Type 0} (x : X) → Some x ≡ None → ⊥
some_none x e = cc

none_some : {X : Type 0} (x : X) → None ≡ Some x → ⊥
none_some x e = cc

pub returns : goal.returns
returns c at =
    let links = c.args.links.now in
    let start = c.args.start.now in
    let cells = c.in_ok-cells.cells.items in
    let lists = c.in_ok-cells.ensures in
    let last : option_copied c.last.result ≡ slice_get cells (length cells - 1) = subst (λ (l : List CellAt). option_copied c.last.result ≡ slice_get l (length l - 1)) c.deref.ensures.value c.last.ensures.value in
    elim c.match-last.branch [
      | in-Some w ↦
          let end = w.in-Some.at.now in
          let is : Some end ≡ slice_get cells (length cells - 1) = sym (ap option_copied w.in-Some.is) ∙ last in
          let leads = w.leads_on.ensures.0 w.if-leads_on.true in
          let ends = ends_astray links start cells lists end is leads.0 leads.1 leads.2 leads.3 in (
            λ astray. w.result-is ∙ is ∙ sym (last_alone links start cells lists at astray).0,
            λ same. subst (EndsAstray links start) (some_same end at (sym w.result-is ∙ same)) ends,
          )
      | in_default w ↦ (
        λ astray. absurd (
            let alone = last_alone links start cells lists at astray in
            elim w.in_default.branch [
              | in_default-via-in-Some+else-leads_on v ↦
                  let end = v.in-Some.at.now in
                  let same : end ≡ at = some_same end at (sym (ap option_copied v.in-Some.is) ∙ last ∙ sym alone.0) in
                  false≢true (sym v.if-leads_on.false ∙ v.leads_on.ensures.1 (subst (λ (a : CellAt). (link : CellLink) × (onto : CellAt) × HasLink links a link × (link.next ≡ Some onto)) (sym same) alone.1))
              | in_default-via-in_default v ↦ some_none at (alone.0 ∙ sym last ∙ ap option_copied v.in_default.is)
            ]),
        λ same. absurd (none_some at (sym w.result-is ∙ same)),
      )
    ]
