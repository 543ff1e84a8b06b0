use Rattle.std.proofs.Common.{◌≡◌, Option, Some, refl, arith}
use Rattle.slot_files.specs.domain_base.declared.place.Home.{Home}
use Rattle.slot_files.specs.sorted_sets.Members.{IsIn}
use Rattle.image_loading.proofs.Listed.{hold_all, hold_next, hold_none, place_of}
use Rattle.image_loading.proofs.directories.insert_pages.Goals as goal

pub loop-place-init : goal.loop-place-init
loop-place-init c = record {
  grows = λ home is. is;
  below = hold_none c.deref-place-items.result.now (λ (place : Option Home). (home : Home) → place ≡ Some home → IsIn c.args.found.now home);
}

pub loop-place-preserved : goal.loop-place-preserved
loop-place-preserved c = record {
  grows = λ home is. c.in_ok-insert_place.ensures.grows home (c.loop-place.invariant.grows home is);
  below = hold_next c.deref-place-items.result.now c.loop-place.place-index c.place-item.result (λ (place : Option Home). (home : Home) → place ≡ Some home → IsIn c.loop-place.found home) (λ (place : Option Home). (home : Home) → place ≡ Some home → IsIn c.insert_place.new.found home)
      c.loop-place-test.true c.place-item.is (λ place holds home is. c.in_ok-insert_place.ensures.grows home (holds home is)) c.loop-place.invariant.below c.in_ok-insert_place.ensures.there;
}

pub returns-clause-pages : goal.returns-clause-pages
returns-clause-pages c = λ page home at.
    hold_all c.args.file.now.seen.homes.items c.deref-place-items.result.now c.loop-place.place-index (λ (place : Option Home). (home : Home) → place ≡ Some home → IsIn c.loop-place.found home) c.deref-place-items.ensures.value (omega (arith, c.loop-place-test.false)) c.loop-place.invariant.below
    page (Some home) (place_of c.args.file.now.seen.homes.items page home at) home refl
