use Rattle.std.proofs.Common.{◌≡◌, ◌∙◌, length, List, Some, slice_get, refl, sym, ap, subst, arith, ⊎_elim}
use Rattle.std.proofs.lemmas.Bool.{cases_lt}
use Rattle.std.proofs.lemmas.Option.{slice_get_read, slice_get_within}
use Rattle.domain_layout.specs.tag_dirs.declared.dir.TagPlace.{TagPlace}
use Rattle.filesets_reading.specs.Chains.{HaveLinksOn}
use Rattle.domain_layout.proofs.OnePage.{some_same}
use Rattle.filesets_reading.proofs.EntryLinks.{all_links}
use Rattle.filesets_reading.proofs.FilesThere.{are_unbroken, have_files}
use Rattle.filesets_reading.proofs.chains.look_at_files.Goals as goal

pub look_at_tags-requires-clause-unbroken : goal.look_at_tags-requires-clause-unbroken
look_at_tags-requires-clause-unbroken g c = are_unbroken (g.M.MetaPages.pages c.args.pages.now) c.args.number c.args.dir.now c.requires

pub look_at_tags-requires-clause-place : goal.look_at_tags-requires-clause-place
look_at_tags-requires-clause-place g c = (
  c.loop-place.place-index,
  subst (λ (ps : List TagPlace). slice_get ps c.loop-place.place-index ≡ Some c.place-item.result) c.places-place-items.ensures
      (slice_get_read c.places-place-items.result.now (length c.places-place-items.result.now) c.loop-place.place-index c.place-item.result refl c.loop-place-test.true c.place-item.is),
)

pub loop-place-preserved : goal.loop-place-preserved
loop-place-preserved g c = λ k p below there.
    ⊎_elim (λ less. c.loop-place.invariant k p less there)
    (λ high.
    let last : k ≡ c.loop-place.place-index = omega (arith, below, high) in
    let item : slice_get c.args.dir.now c.loop-place.place-index ≡ Some c.place-item.result =
    subst (λ (ps : List TagPlace). slice_get ps c.loop-place.place-index ≡ Some c.place-item.result) c.places-place-items.ensures
    (slice_get_read c.places-place-items.result.now (length c.places-place-items.result.now) c.loop-place.place-index c.place-item.result refl c.loop-place-test.true c.place-item.is) in
    let same : c.place-item.result ≡ p = some_same c.place-item.result p (sym item ∙ ap (slice_get c.args.dir.now) (sym last) ∙ there) in
    subst (HaveLinksOn (g.M.MetaPages.pages c.args.pages.now) c.args.dir.now) same c.in_ok-look_at_tags.ensures)
    (cases_lt k c.loop-place.place-index)

pub returns : goal.returns
returns g c =
    let pages = g.M.MetaPages.pages c.args.pages.now in
    have_files pages c.args.number c.args.dir.now c.requires
    (all_links pages c.args.dir.now c.requires.directory.directory
    (λ k p there. c.loop-place.invariant k p (omega (arith, slice_get_within c.args.dir.now k p there, ap (length {A = TagPlace}) c.places-place-items.ensures, c.loop-place-test.false)) there))
