use Rattle.std.proofs.Common.{◌≡◌, ◌∙◌, ◌↔◌, IfNone, IfSome, None, Some, sym, subst}
use Rattle.tag_faults.specs.metadata_cells.Cell.{Cell}
use Rattle.tag_faults.specs.metadata_cells.Chain.{StandsAt}
use Rattle.page_faults.proofs.HomesFound.{named_by, none_named}
use Rattle.page_faults.proofs.homes.index_at.Goals as goal

none_some : {X : Type 0} (x : X) → None ≡ Some x → ⊥
none_some x e = cc

pub returns-in_default : goal.returns-in_default
returns-in_default g c frame place first =
    let pages = g.M.MetaPages.pages c.args.pages.now in
    let none = subst (λ o. IfNone o ((cell : Cell) → ¬ StandsAt pages c.args.at.now cell)) c.in_default.is c.in_ok-_used.ensures.none in
    ((λ is. absurd (none_some first is)), (λ has. absurd (none_named pages frame c.args.at.now none first has)))

pub returns : goal.returns
returns g c frame place first =
    let pages = g.M.MetaPages.pages c.args.pages.now in
    let at = c.args.at.now in
    let cell : Cell = record { head = c.in-Some._used.head; records = c.in-Some._used.records } in
    let stands : StandsAt pages at cell = subst (λ o. IfSome o (λ used. StandsAt pages at (record { head = used.head; records = used.records }))) c.in-Some.is c.in_ok-_used.ensures.some in
    let named = named_by pages frame at place cell stands first in
    let is = c.first_of_index.ensures cell stands in
    ((λ found. named.0 (sym is ∙ found)), (λ has. is ∙ named.1 has))
