use Rattle.std.proofs.Common.{◌≡◌, ℕ, ◌+◌, ◌<◌, List, Some, slice_get, refl, sym, subst, arith, length, Vec, Global}
use Rattle.std.proofs.lemmas.Option.{slice_get_read}
use Rattle.filesets_reading.specs.domain_base.declared.place.Tag.{Tag}
use Rattle.filesets_reading.specs.tag_dirs.declared.dir.TagPlace.{TagPlace}
use Rattle.fileset_shapes.specs.Tags.{IsUsedOnFirstEntries, ListsOnce}
use Rattle.fileset_shapes.proofs.UsedTags.{entries_end, entry_more, entry_none}
use Rattle.fileset_shapes.proofs.tags.push_tags.Goals as goal
use Rattle.fileset_shapes.proofs.tags.push_tags.Goals.{in-Some+in_ok-push, in_default}

pub loop-entry-preserved : goal.loop-entry-preserved
loop-entry-preserved g c =
    let pages = g.M.MetaPages.pages c.args.pages.now in
    let place = c.index-places-number.result in
    let within : c.args.number < length c.places.result.now = subst (λ (ps : List TagPlace). c.args.number < length ps) (sym c.places.ensures) c.requires.within in
    let there : slice_get c.args.dir.now c.args.number ≡ Some place =
    subst (λ (ps : List TagPlace). slice_get ps c.args.number ≡ Some place) c.places.ensures
    (slice_get_read c.places.result.now (length c.places.result.now) c.args.number place refl within c.index-places-number.is) in
    elim c.match-tag_at.branch [
      | in-Some+in_ok-push w ↦ subst (λ (v : Vec Tag Global). ListsOnce (IsUsedOnFirstEntries pages c.args.dir.now c.args.number place (c.loop-entry.entry + 1)) v.items) (sym w.tags-is)
          (subst (ListsOnce (IsUsedOnFirstEntries pages c.args.dir.now c.args.number place (c.loop-entry.entry + 1))) (sym w.in_ok-push.ensures.items)
          (entry_more pages c.args.dir.now c.requires.directory c.args.number place there c.loop-entry.entry c.loop-entry-test.true w.in-Some.tag w.in-Some.ensures.some c.loop-entry.tags.items c.loop-entry.invariant))
      | in_default w ↦ subst (λ (v : Vec Tag Global). ListsOnce (IsUsedOnFirstEntries pages c.args.dir.now c.args.number place (c.loop-entry.entry + 1)) v.items) (sym w.tags-is)
          (entry_none pages c.args.dir.now c.requires.directory c.args.number place there c.loop-entry.entry c.loop-entry-test.true w.in_default.ensures.none c.loop-entry.tags.items c.loop-entry.invariant)
    ]

pub returns : goal.returns
returns g c =
    let pages = g.M.MetaPages.pages c.args.pages.now in
    let place = c.index-places-number.result in
    let within : c.args.number < length c.places.result.now = subst (λ (ps : List TagPlace). c.args.number < length ps) (sym c.places.ensures) c.requires.within in
    let there : slice_get c.args.dir.now c.args.number ≡ Some place =
    subst (λ (ps : List TagPlace). slice_get ps c.args.number ≡ Some place) c.places.ensures
    (slice_get_read c.places.result.now (length c.places.result.now) c.args.number place refl within c.index-places-number.is) in
    let all : c.loop-entry.entry ≡ 1022 = omega (arith, c.loop-entry-test.false, c.loop-entry.auto.entry-end) in
    entries_end pages c.args.dir.now c.requires.directory c.args.number place there c.loop-entry.tags.items
    (subst (λ (n : ℕ). ListsOnce (IsUsedOnFirstEntries pages c.args.dir.now c.args.number place n) c.loop-entry.tags.items) all c.loop-entry.invariant)
