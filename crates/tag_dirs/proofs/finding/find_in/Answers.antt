use Rattle.std.proofs.Common.{◌≡◌, ◌∙◌, false, Option, Some, None, IfNone, is_some, length, slice_get, refl, sym, subst, arith, inl, inr}
use Rattle.std.proofs.lemmas.Bool.{cases_lt, true≢false}
use Rattle.std.proofs.lemmas.Option.{slice_get_read, slice_get_within}
use Rattle.tag_dirs.specs.Directory.{HasNone}
use Rattle.tag_dirs.proofs.Slots.{map_if, same_some}
use Rattle.tag_dirs.proofs.Takeable.{none_found, tag_found}
use Rattle.tag_dirs.proofs.finding.find_in.Goals as goal

none_of : {X : Type 0} {P : Type 0} (o : Option X) → is_some o ≡ false → IfNone o P → P
none_of None is none = none
none_of (Some x) is none = absurd (true≢false is)

pub returns-then-is_some-clause-some : goal.returns-then-is_some-clause-some
returns-then-is_some-clause-some g c =
    let places = c.args.places.now in
    let there : slice_get places c.loop-place.place-index ≡ Some c.place-item.result = slice_get_read places (length places) c.loop-place.place-index c.place-item.result refl (omega arith) c.place-item.is in
    map_if (λ tag takes. tag_found (g.M.MetaPages.pages c.args.pages.now) places c.requires c.loop-place.place-index c.place-item.result tag there takes) c.find_on-found.result c.find_on-found.ensures.some

pub loop-place-preserved : goal.loop-place-preserved
loop-place-preserved g c =
    let places = c.args.places.now in
    let at = c.loop-place.place-index in
    let there : slice_get places at ≡ Some c.place-item.result = slice_get_read places (length places) at c.place-item.result refl (omega arith) c.place-item.is in
    let none : HasNone (g.M.MetaPages.pages c.args.pages.now) c.place-item.result = none_of c.find_on-found.result (sym c.is_some.ensures ∙ c.if-is_some.false) (c.find_on-found.ensures.none refl) in
    λ k p below is. elim (cases_lt k at) [
      | inl less ↦ c.loop-place.invariant k p less is
      | inr not_less ↦
          let here : at ≡ k = omega (arith, below, not_less) in
          subst (HasNone (g.M.MetaPages.pages c.args.pages.now)) (same_some c.place-item.result p (sym there ∙ subst (λ n. slice_get places n ≡ Some p) (sym here) is)) none
    ]

pub returns-clause-none : goal.returns-clause-none
returns-clause-none g c =
    none_found (g.M.MetaPages.pages c.args.pages.now) c.args.places.now c.requires (λ k p there. c.loop-place.invariant k p (omega (arith, slice_get_within c.args.places.now k p there, c.loop-place-test.false)) there)
