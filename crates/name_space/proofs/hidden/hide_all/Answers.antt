use Rattle.std.proofs.Common.{◌≡◌, ◌∙◌, ◌+◌, ◌<◌, inr, ℕ, Contains, Some, None, length, slice_get, sym, ap, subst, refl, arith, ⊎_elim}
use Rattle.std.proofs.lemmas.Bool.{cases_lt}
use Rattle.std.proofs.lemmas.Option.{slice_get-get_or, slice_get_within}
use Rattle.directory_rows.proofs.AllLed.{at_contains, contains_at}
use Rattle.plain_program.proofs.OfLegalHistories.ValidLemmas.{some_inj}
use Rattle.name_space.specs.Trees.{HasItsPaths}
use Rattle.name_space.specs.declared.parts.TaggedNode.{TaggedNode}
use Rattle.name_space.proofs.hidden.hide_all.Goals as goal

pub loop-one-preserved : goal.loop-one-preserved
loop-one-preserved c = λ files led are hides.
    let nodes = c.args.nodes.now in
    let one = c.one-item.result in
    let there : slice_get nodes c.loop-one.one-index ≡ Some one =
    slice_get-get_or nodes c.loop-one.one-index one c.loop-one-test.true ∙ ap Some (sym c.one-item.is) in
    let before = c.loop-one.invariant files led are hides in
    let hid = c.in_ok-count.ensures files nodes led are (contains_at nodes c.loop-one.one-index one there) before.0 in (
      hid.is,
      λ j other low at. ⊎_elim
          (λ early. hid.kept other (contains_at nodes j other at) (before.1 j other early at))
          (λ high.
          let same : c.loop-one.one-index ≡ j = omega (arith, low, high) in
          let last : one ≡ other = some_inj (sym there ∙ ap (slice_get nodes) same ∙ at) in
          subst (HasItsPaths files c.hide_links.new.tree) last hid.has)
          (cases_lt j c.loop-one.one-index),
    )

pub returns : goal.returns
returns c = λ files led are hides.
    let done = c.loop-one.invariant files led are hides in
    record {
      below = c.args.below.now;
      count = c.loop-one.count;
      hidden = inr hides.missing;
      is = done.0.is;
      few = done.0.few;
      all = λ one among.
          let k = at_contains c.args.nodes.now one among in
          let within = slice_get_within c.args.nodes.now k.0 one k.1 in
          done.1 k.0 one (omega (arith, within, c.loop-one-test.false)) k.1;
    }
