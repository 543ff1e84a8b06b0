use Rattle.std.proofs.Common.{inr, length, refl, arith, ⊎_elim}
use Rattle.std.proofs.lemmas.Option.{slice_get_read}
use Rattle.fileset_shapes.specs.domain_base.declared.place.Tag.{Tag}
use Rattle.directory_faults.specs.Parents.{HasPair, SaysParent, pair_order}
use Rattle.directory_faults.specs.declared.there.FileThere.{FileThere}
use Rattle.directory_faults.proofs.Inserted.{all_in, one_in}
use Rattle.directory_faults.proofs.TagSets.{no_key}
use Rattle.directory_faults.proofs.parents.read_parents.Goals as goal

pub loop-file-init : goal.loop-file-init
loop-file-init c q = (
  λ is. absurd (no_key pair_order c.new-parents.result c.new-parents.ensures.empty q is),
  λ which. ⊎_elim (λ none. absurd none) (λ (k, file, below, at, says). absurd (omega (arith, below))) which,
)

pub loop-file-preserved : goal.loop-file-preserved
loop-file-preserved c =
    let files = c.args.files.now in
    let number = c.loop-file.file-index in
    let file = c.file-item.result in
    one_in {X = FileThere} {K = Tag × Tag} files (λ f q. SaysParent f q.0 q.1) (λ q. ⊥) (λ q. HasPair c.loop-file.parents q.0 q.1) (λ q. HasPair c.note_parent.new.parents q.0 q.1) number file
    (slice_get_read files (length files) number file refl c.loop-file-test.true c.file-item.is) c.loop-file.invariant (λ q. c.in_ok-note_parent.ensures q.0 q.1)

pub returns : goal.returns
returns c tag dir =
    let all = all_in {X = FileThere} {K = Tag × Tag} c.args.files.now (λ f q. SaysParent f q.0 q.1) (λ q. ⊥) (λ q. HasPair c.loop-file.parents q.0 q.1) c.loop-file.file-index c.loop-file-test.false c.loop-file.invariant (tag, dir) in
    ((λ is. ⊎_elim (λ none. absurd none) (λ said. said) (all.0 is)), (λ said. all.1 (inr said)))
