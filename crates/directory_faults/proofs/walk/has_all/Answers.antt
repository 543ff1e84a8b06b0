use Rattle.std.proofs.Common.{◌≡◌, ◌∙◌, ◌+◌, ◌<◌, ℕ, Bool, true, false, List, Contains, get_or, length, refl, sym, subst}
use Rattle.std.specs.BTreeSet.{BTreeSet, contains}
use Rattle.std.proofs.lemmas.Option.{slice_get-get_or}
use mathlib.Core.Bool.{false≢true}
use Rattle.fileset_shapes.specs.domain_base.contracts.place.TagOrd.TheImpl as tag_ord
use Rattle.fileset_shapes.specs.domain_base.declared.place.Tag.{Tag}
use Rattle.directory_faults.specs.Parents.{HasTag}
use Rattle.directory_faults.proofs.Inserted.{at_among}
use Rattle.directory_faults.specs.Walk.{IsListed}
use Rattle.directory_faults.specs.declared.walk.Walk.{Walk}
use Rattle.directory_faults.proofs.Items.{AreSo, so_all, so_more}
use Rattle.directory_faults.proofs.walk.has_all.Goals as goal

-- a tag that was come to is not in the set
one_missing : (set : BTreeSet Tag) (walk : Walk) (tags : List Tag) (number : ℕ) (d : Tag) (found : Bool) → found ≡ contains ((tag_ord.ghosts).cmp) set (get_or tags number d) → found ≡ false → tags ≡ walk.tags.items → IsListed walk
    → number < length tags → ((tag : Tag) → HasTag walk.seen tag → HasTag set tag) → ⊥
one_missing set walk tags number d found is none same listed within all =
    let tag = get_or tags number d in
    let among : Contains walk.tags.items tag = subst (λ (l : List Tag). Contains l tag) same (at_among tags number tag (slice_get-get_or tags number d within)) in
    false≢true (sym none ∙ is ∙ all tag ((listed tag).0 among))

-- it is, and so were those in front of it
one_more : (set : BTreeSet Tag) (tags : List Tag) (number : ℕ) (d : Tag) (found : Bool) → found ≡ contains ((tag_ord.ghosts).cmp) set (get_or tags number d) → found ≡ true → number < length tags → AreSo (HasTag set) tags number
    → AreSo (HasTag set) tags (number + 1)
one_more set tags number d found is has within are = so_more (HasTag set) tags number (get_or tags number d) (slice_get-get_or tags number d within) (sym is ∙ has) are

pub returns-then-not-contains : goal.returns-then-not-contains
returns-then-not-contains c = (
  λ is. absurd (false≢true is),
  λ all. absurd (one_missing c.args.set.now c.args.walk.now c.deref-tag-items.result.now c.loop-tag.tag-index _ c.contains.result c.contains.ensures c.if-not-contains.true c.deref-tag-items.ensures.value c.requires c.loop-tag-test.true all),
)

pub loop-tag-preserved : goal.loop-tag-preserved
loop-tag-preserved c = one_more c.args.set.now c.deref-tag-items.result.now c.loop-tag.tag-index _ c.contains.result c.contains.ensures c.if-not-contains.false c.loop-tag-test.true c.loop-tag.invariant

pub returns : goal.returns
returns c = (
  λ is tag seen.
      let tags = c.deref-tag-items.result.now in
      so_all (HasTag c.args.set.now) tags c.loop-tag.tag-index c.loop-tag-test.false c.loop-tag.invariant tag
      (subst (λ (l : List Tag). Contains l tag) (sym c.deref-tag-items.ensures.value) ((c.requires tag).1 seen)),
  λ all. refl,
)
