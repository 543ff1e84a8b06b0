use Rattle.std.proofs.Common.{◌≡◌, ◌⊎◌, ◌↔◌, ◌+◌, ◌++◌, ◌∷◌, [], List, Option, Some, Contains, slice_get, sym, subst}
use Rattle.page_ways.specs.domain_base.declared.place.Home.{Home}
use Rattle.page_ways.specs.Frame.{frame_in}
use Rattle.cell_faults.specs.Tables.{AreTablesBelow}
use Rattle.cell_faults.specs.declared.tables.CellsPage.{CellsPage}
use Rattle.cell_faults.specs.declared.tables.CellTables.{CellTables}
use Rattle.cell_faults.proofs.Joined.{no_stop, stop_there, table_joins}
use Rattle.cell_faults.proofs.tables.read_table.Goals as goal
use Rattle.cell_faults.proofs.tables.read_table.Goals.{in-Some+in_ok-push, in_default}

pub returns : goal.returns
returns g c =
    let pages = g.M.MetaPages.pages c.args.pages.now in
    let frame = frame_in c.args.frame.now in
    let old = c.args.tables.now.read.items in
    let new = c.push_pages.new.read.items in
    let none = c.args.tables.now.unread.items in
    let homes = c.in_ok-homes.field-0.homes.items in
    let unread = c.in_ok-homes.field-0.unread in
    let pushed : (page : CellsPage) → Contains new page ↔ (Contains old page ⊎ (slice_get homes page.place ≡ Some page.home)) =
    subst (λ (l : List Home). (page : CellsPage) → Contains new page ↔ (Contains old page ⊎ (slice_get l page.place ≡ Some page.home)))
    c.deref.ensures.value c.in_ok-push_pages.ensures in
    elim c.match-unread.branch [
      | in-Some+in_ok-push w ↦
          let at = w.in-Some.home in
          let more = w.push.new.self.items in
          let stopped : (home : Home) → Contains more home ↔ (Contains none home ⊎ (unread ≡ Some home)) = λ home.
          subst (λ (l : List Home). Contains l home ↔ (Contains none home ⊎ (unread ≡ Some home))) (sym w.in_ok-push.ensures.items)
          (subst (λ (o : Option Home). Contains (none ++ at ∷ []) home ↔ (Contains none home ⊎ (o ≡ Some home))) (sym w.in-Some.is) (stop_there none at home)) in
          subst (λ (t : CellTables). AreTablesBelow (c.args.vol + 1) pages frame t.read.items t.unread.items) (sym w.tables-is)
          (table_joins pages frame c.args.vol old new none more homes unread c.requires.member c.requires.below c.in_ok-homes.ensures pushed stopped)
      | in_default w ↦
          let stopped : (home : Home) → Contains none home ↔ (Contains none home ⊎ (unread ≡ Some home)) = λ home.
          subst (λ (o : Option Home). Contains none home ↔ (Contains none home ⊎ (o ≡ Some home))) (sym w.in_default.is) (no_stop none home) in
          subst (λ (t : CellTables). AreTablesBelow (c.args.vol + 1) pages frame t.read.items t.unread.items) (sym w.tables-is)
          (table_joins pages frame c.args.vol old new none none homes unread c.requires.member c.requires.below c.in_ok-homes.ensures pushed stopped)
    ]
