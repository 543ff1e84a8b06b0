use Rattle.std.proofs.Common.{inr, length, refl, ⊎_elim}
use Rattle.std.proofs.lemmas.Option.{slice_get_read}
use Rattle.fileset_shapes.specs.domain_base.declared.place.Tag.{Tag}
use Rattle.directory_faults.specs.declared.rows.RowThere.{RowThere}
use Rattle.directory_faults.proofs.Inserted.{all_in, one_in}
use Rattle.directory_faults.specs.Children.{HasChild, LeadsOn}
use Rattle.directory_faults.proofs.children.read_children.Goals as goal

pub loop-row-preserved : goal.loop-row-preserved
loop-row-preserved c =
    let rows = c.args.rows.now in
    let number = c.loop-row.row-index in
    let row = c.row-item.result in
    one_in {X = RowThere} {K = Tag × Tag} rows (λ r q. LeadsOn r q.0 q.1) (λ q. ⊥) (λ q. HasChild c.loop-row.children q.0 q.1) (λ q. HasChild c.push_row.new.children q.0 q.1) number row
    (slice_get_read rows (length rows) number row refl c.loop-row-test.true c.row-item.is) c.loop-row.invariant (λ q. c.in_ok-push_row.ensures q.0 q.1)

pub returns : goal.returns
returns c dir tag =
    let all = all_in {X = RowThere} {K = Tag × Tag} c.args.rows.now (λ r q. LeadsOn r q.0 q.1) (λ q. ⊥) (λ q. HasChild c.loop-row.children q.0 q.1) c.loop-row.row-index c.loop-row-test.false c.loop-row.invariant (dir, tag) in
    ((λ is. ⊎_elim (λ none. absurd none) (λ said. said) (all.0 is)), (λ said. all.1 (inr said)))
