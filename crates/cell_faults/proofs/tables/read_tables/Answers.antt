use Rattle.std.proofs.Common.{◌∙◌, ◌+◌, ℕ, IsSome, sym, subst}
use mathlib.Core.Bool.{false≢true}
use Rattle.page_ways.specs.Frame.{frame_in}
use Rattle.cell_faults.specs.Tables.{AreTablesBelow}
use Rattle.cell_faults.specs.declared.tables.CellTables.{CellTables}
use Rattle.cell_faults.proofs.Joined.{all_tables, no_table}
use Rattle.cell_faults.proofs.tables.read_tables.Goals as goal
use Rattle.cell_faults.proofs.tables.read_tables.Goals.{in-Some+then-is_member+in_ok-read_table, in-Some+else-is_member, in_default}
use Rattle.page_ways.specs.log_ring.Homes.{IsMember}

pub loop-number-preserved : goal.loop-number-preserved
loop-number-preserved g c =
    let pages = g.M.MetaPages.pages c.args.pages.now in
    let frame = frame_in c.args.frame.now in
    let old = c.loop-number.tables in
    let number = c.loop-number.number in
    elim c.match-new.branch [
      | in-Some+then-is_member+in_ok-read_table w ↦
          subst (λ (t : CellTables). AreTablesBelow (number + 1) pages frame t.read.items t.unread.items) (sym w.tables-is)
          (subst (λ (n : ℕ). AreTablesBelow (n + 1) pages frame w.read_table.new.tables.read.items w.read_table.new.tables.unread.items) w.in-Some.ensures.value w.in_ok-read_table.ensures)
      | in-Some+else-is_member w ↦
          let other : ¬ IsMember frame.anchor number = λ member.
          false≢true (sym w.if-is_member.false ∙ w.is_member.ensures.1 (subst (IsMember frame.anchor) (sym w.in-Some.ensures.value) member)) in
          subst (λ (t : CellTables). AreTablesBelow (number + 1) pages frame t.read.items t.unread.items) (sym w.tables-is)
          (no_table pages frame number old.read.items old.unread.items other c.loop-number.invariant)
      | in_default w ↦
          let other : ¬ IsMember frame.anchor number = λ member.
          false≢true (subst IsSome w.in_default.is (c.new-in-loop-number.ensures.range.1 (member.first, member.last))) in
          subst (λ (t : CellTables). AreTablesBelow (number + 1) pages frame t.read.items t.unread.items) (sym w.tables-is)
          (no_table pages frame number old.read.items old.unread.items other c.loop-number.invariant)
    ]

pub returns : goal.returns
returns g c =
    all_tables (g.M.MetaPages.pages c.args.pages.now) (frame_in c.args.frame.now) c.loop-number.number c.loop-number.tables.read.items c.loop-number.tables.unread.items
    c.loop-number-test.false c.loop-number.invariant
