use Rattle.std.proofs.Common.{List, Contains, inl, inr, sym, subst, ⊎_elim}
use Rattle.page_ways.specs.domain_base.declared.place.Home.{Home}
use Rattle.page_ways.specs.Frame.{frame_in}
use Rattle.cell_faults.specs.Rules.{IsWrongAmong}
use Rattle.cell_faults.specs.declared.tables.CellsPage.{CellsPage}
use Rattle.cell_faults.proofs.WrongPages.{local_all}
use Rattle.cell_faults.proofs.local.local_faults.Goals as goal

pub insert_wrong-requires : goal.insert_wrong-requires
insert_wrong-requires g c page among = (c.requires.each page).0 (subst (λ (l : List CellsPage). Contains l page) c.deref-2.ensures.value among)

pub returns : goal.returns
returns g c home =
    let pages = g.M.MetaPages.pages c.args.pages.now in
    let frame = frame_in c.args.frame.now in
    let table = c.args.table.now in
    let all = local_all pages frame table c.args.tables.now.read.items c.args.tables.now.unread.items c.requires home in
    let unread = c.in_ok-insert_all.ensures home in
    let read = c.in_ok-insert_wrong.ensures home in
    let same = c.deref.ensures.value in
    let same_read = c.deref-2.ensures.value in (
      λ is. all.0 (⊎_elim (λ first. inl (⊎_elim (λ none. absurd (c.new-found.ensures home none)) (λ among. subst (λ (l : List Home). Contains l home) same among) (unread.0 first)))
          (λ wrong. inr (subst (λ (l : List CellsPage). IsWrongAmong pages frame table l home) same_read wrong)) (read.0 is)),
      λ fault. read.1 (⊎_elim (λ none. inl (unread.1 (inr (subst (λ (l : List Home). Contains l home) (sym same) none))))
          (λ wrong. inr (subst (λ (l : List CellsPage). IsWrongAmong pages frame table l home) (sym same_read) wrong)) (all.1 fault)),
    )
