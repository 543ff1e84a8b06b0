use Rattle.std.proofs.Common.{◌≡◌, ◌∙◌, ℕ, ◌+◌, sym, ap, subst}
use Rattle.standing_laws.specs.disk_label.declared.anchor.Member.{Member}
use Rattle.standing_laws.specs.log_ring.Homes.{IsMember}
use Rattle.standing_laws.specs.page_ways.Frame.{frame_in}
use Rattle.standing_laws.specs.domain_layout.Layout.{IsCellTable}
use Rattle.standing_laws.specs.domain_layout.Reached.{first_cells}
use Rattle.domain_memory.specs.Tables.{AreReadBelow}
use Rattle.domain_memory.proofs.AllTables.{read_closed, read_open}
use Rattle.domain_memory.proofs.cells.add_volume.Goals as goal
use Rattle.domain_memory.proofs.cells.add_volume.Goals.{then-member-eq-CLOSED, else-member-eq-CLOSED}

pub returns : goal.returns
returns g c =
    let pages = g.M.MetaPages.pages c.args.pages.now in
    let frame = frame_in c.args.frame.now in
    let vol = c.in-Some.vol in
    let same : vol ≡ c.args.number = c.in-Some.ensures.value in
    let member : IsMember c.args.frame.now.anchor vol = c.is_member.ensures.0 c.if-not-is_member.false in
    let below : AreReadBelow pages frame vol c.args.cells.now = subst (λ (n : ℕ). AreReadBelow pages frame n c.args.cells.now) (sym same) c.requires.below in
    let table = c.as_slice.result.now in
    let is : IsCellTable pages vol (first_cells frame vol) table = subst (IsCellTable pages vol (first_cells frame vol)) (sym c.as_slice.ensures.value) c.in_ok-table.ensures.table in
    let mid = c.read_pages.new.cells in
    let reads = c.in_ok-read_pages.ensures in
    subst (λ (n : ℕ). AreReadBelow pages frame (n + 1) c.if-member-eq-CLOSED.cells) same
    (elim c.if-member-eq-CLOSED.branch [
      | then-member-eq-CLOSED w ↦ subst (AreReadBelow pages frame (vol + 1)) (sym w.cells-is)
          (read_closed pages frame vol c.args.cells.now below member table is mid reads w.close_volume.new.self (ap (λ (m : Member). m.state) (sym c.member.ensures) ∙ w.if-member-eq-CLOSED.true) w.close_volume.ensures.value
          (w.close_volume.ensures.belong pages reads.read.belong))
      | else-member-eq-CLOSED w ↦ subst (AreReadBelow pages frame (vol + 1)) (sym w.cells-is)
          (read_open pages frame vol c.args.cells.now below member table is mid reads (λ state. w.if-member-eq-CLOSED.false (ap (λ (m : Member). m.state) c.member.ensures ∙ state)))
    ])
