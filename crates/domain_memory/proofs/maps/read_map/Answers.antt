use Rattle.std.proofs.Common.{◌∙◌, sym, ap, arith}
use Rattle.std.specs.FinSet.{contains, contains-empty}
use Rattle.std.specs.Ordering.{nat_cmp}
use Rattle.standing_laws.specs.free_space.VolumePages.{VolumePages}
use Rattle.domain_memory.proofs.Bits.{read_clear, read_set}
use Rattle.domain_memory.proofs.maps.read_map.Goals as goal
use Rattle.domain_memory.proofs.maps.read_map.Goals.{then-is_marked, else-is_marked}

pub loop-page-init : goal.loop-page-init
loop-page-init g c = record {
  size = ap (λ (m : VolumePages). m.pages) c.in_ok-map.ensures;
  used = λ p low. absurd (omega (arith, low));
  later = λ p high. ap (λ (m : VolumePages). contains m.used p) c.in_ok-map.ensures ∙ contains-empty nat_cmp p;
}

pub loop-page-preserved : goal.loop-page-preserved
loop-page-preserved g c =
    let pages = g.M.MetaPages.pages c.args.pages.now in
    let count = c.member-count.result.pages in
    elim c.if-is_marked.branch [
      | then-is_marked w ↦ read_set pages c.args.vol count c.loop-page.page c.loop-page.map c.if-is_marked.map c.loop-page.invariant (w.map-is ∙ w.set.ensures) (sym c.is_marked.ensures ∙ w.if-is_marked.true)
      | else-is_marked w ↦ read_clear pages c.args.vol count c.loop-page.page c.loop-page.map c.if-is_marked.map c.loop-page.invariant w.map-is (sym c.is_marked.ensures ∙ w.if-is_marked.false)
    ]
