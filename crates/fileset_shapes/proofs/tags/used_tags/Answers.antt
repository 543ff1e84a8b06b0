use Rattle.std.proofs.Common.{◌≡◌, ℕ, length, ap, subst, arith}
use Rattle.filesets_reading.specs.tag_dirs.declared.dir.TagPlace.{TagPlace}
use Rattle.fileset_shapes.specs.Tags.{IsUsedOnFirst, ListsOnce}
use Rattle.fileset_shapes.proofs.UsedTags.{pages_end}
use Rattle.fileset_shapes.proofs.tags.used_tags.Goals as goal

pub returns : goal.returns
returns g c =
    let pages = g.M.MetaPages.pages c.args.pages.now in
    let all : c.loop-number.number ≡ length c.args.dir.now =
    omega (arith, c.loop-number-test.false, c.loop-number.auto.number-end, ap (length {A = TagPlace}) c.places-number-end.ensures) in
    pages_end pages c.args.dir.now c.requires c.loop-number.tags.items
    (subst (λ (n : ℕ). ListsOnce (IsUsedOnFirst pages c.args.dir.now n) c.loop-number.tags.items) all c.loop-number.invariant)
