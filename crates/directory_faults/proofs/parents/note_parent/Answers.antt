use Rattle.std.proofs.Common.{◌≡◌, ◌∙◌, inl, inr, Some, sym, ap, ⊎_elim}
use Rattle.fileset_shapes.specs.domain_base.declared.place.Tag.{Tag}
use Rattle.directory_faults.specs.Parents.{pair_order}
use Rattle.directory_faults.proofs.TagSets.{pair_at, put_key}
use Rattle.directory_faults.proofs.parents.note_parent.Goals as goal

some_same : (a b : Tag) → Some a ≡ Some b → a ≡ b
some_same a b e = cc

pub returns-in_ok-insert : goal.returns-in_ok-insert
returns-in_ok-insert c tag dir =
    let file = c.args.file.now in
    let parent = c.in-Some.parent in
    let put = put_key pair_order c.args.parents.now c.insert.new.self (file.tag, parent) (pair_at (file.tag, parent)) c.in_ok-insert.ensures.updates.0 (tag, dir) in (
      λ is. ⊎_elim (λ has. inl has) (λ same. inr (ap (λ (p : Tag × Tag). p.0) same, c.in-Some.is ∙ ap (λ (p : Tag × Tag). Some p.1) same)) (put.0 is),
      λ which. put.1 (⊎_elim (λ has. inl has)
          (λ (tag_is, parent_is). let same = some_same parent dir (sym c.in-Some.is ∙ parent_is) in inr (λ i. (tag_is i, same i))) which),
    )
