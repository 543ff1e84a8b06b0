use Rattle.std.proofs.Common.{◌≡◌, inr, length, refl, arith, ⊎_elim}
use Rattle.std.proofs.lemmas.Option.{slice_get_read}
use Rattle.fileset_shapes.specs.domain_base.contracts.place.TagOrd.TheImpl as tag_ord
use Rattle.fileset_shapes.specs.domain_base.declared.place.Tag.{Tag}
use Rattle.directory_faults.specs.Parents.{HasTag}
use Rattle.directory_faults.specs.declared.there.FileThere.{FileThere}
use Rattle.directory_faults.proofs.Inserted.{all_in, one_in}
use Rattle.directory_faults.proofs.TagSets.{no_key, put_key, tag_at}
use Rattle.directory_faults.proofs.tree.read_tags.Goals as goal

pub loop-file-init : goal.loop-file-init
loop-file-init c q = (
  λ is. absurd (no_key ((tag_ord.ghosts).cmp) c.new-tags.result c.new-tags.ensures.empty q is),
  λ which. ⊎_elim (λ none. absurd none) (λ (k, file, below, at, same). absurd (omega (arith, below))) which,
)

pub loop-file-preserved : goal.loop-file-preserved
loop-file-preserved c =
    let files = c.args.files.now in
    let number = c.loop-file.file-index in
    let file = c.file-item.result in
    one_in {X = FileThere} {K = Tag} files (λ f q. f.tag ≡ q) (λ q. ⊥) (HasTag c.loop-file.tags) (HasTag c.insert.new.self) number file
    (slice_get_read files (length files) number file refl c.loop-file-test.true c.file-item.is) c.loop-file.invariant
    (put_key ((tag_ord.ghosts).cmp) c.loop-file.tags c.insert.new.self file.tag (tag_at file.tag) c.in_ok-insert.ensures.updates.0)

pub returns : goal.returns
returns c tag =
    let all = all_in {X = FileThere} {K = Tag} c.args.files.now (λ f q. f.tag ≡ q) (λ q. ⊥) (HasTag c.loop-file.tags) c.loop-file.file-index c.loop-file-test.false c.loop-file.invariant tag in
    ((λ is. ⊎_elim (λ none. absurd none) (λ said. said) (all.0 is)), (λ said. all.1 (inr said)))
