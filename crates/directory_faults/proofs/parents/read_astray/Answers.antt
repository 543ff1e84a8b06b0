use Rattle.std.proofs.Common.{inr, length, refl, arith, ⊎_elim}
use Rattle.std.proofs.lemmas.Option.{slice_get_read}
use Rattle.fileset_shapes.specs.domain_base.contracts.place.TagOrd.TheImpl as tag_ord
use Rattle.fileset_shapes.specs.domain_base.declared.place.Tag.{Tag}
use Rattle.directory_faults.specs.Parents.{HasTag, LeadsAstray}
use Rattle.directory_faults.specs.declared.rows.RowThere.{RowThere}
use Rattle.directory_faults.proofs.Inserted.{all_in, one_in}
use Rattle.directory_faults.proofs.TagSets.{no_key}
use Rattle.directory_faults.proofs.parents.read_astray.Goals as goal

pub loop-row-init : goal.loop-row-init
loop-row-init c q = (
  λ is. absurd (no_key ((tag_ord.ghosts).cmp) c.new-astray.result c.new-astray.ensures.empty q is),
  λ which. ⊎_elim (λ none. absurd none) (λ (k, row, below, at, says). absurd (omega (arith, below))) which,
)

pub loop-row-preserved : goal.loop-row-preserved
loop-row-preserved c =
    let rows = c.args.rows.now in
    let number = c.loop-row.row-index in
    let row = c.row-item.result in
    one_in {X = RowThere} {K = Tag} rows (LeadsAstray c.args.parents.now) (λ q. ⊥) (HasTag c.loop-row.astray) (HasTag c.note_astray.new.astray) number row
    (slice_get_read rows (length rows) number row refl c.loop-row-test.true c.row-item.is) c.loop-row.invariant c.in_ok-note_astray.ensures

pub returns : goal.returns
returns c tag =
    let all = all_in {X = RowThere} {K = Tag} c.args.rows.now (LeadsAstray c.args.parents.now) (λ q. ⊥) (HasTag c.loop-row.astray) c.loop-row.row-index c.loop-row-test.false c.loop-row.invariant tag in
    ((λ is. ⊎_elim (λ none. absurd none) (λ said. said) (all.0 is)), (λ said. all.1 (inr said)))
