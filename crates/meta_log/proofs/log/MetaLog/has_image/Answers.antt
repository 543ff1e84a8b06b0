use Rattle.std.proofs.Common.{◌≡◌, ◌++◌, ℕ, false, List, Option, Some, IsSome, take, refl, sym, ◌∙◌, ap, subst}
use Rattle.std.proofs.lemmas.Bool.{both_ways}
use Rattle.std.specs.Option.{option_copied}
use Rattle.log_ring.specs.Images.{image_at}
use Rattle.log_ring.specs.declared.image.PageImage.{PageImage}
use Rattle.meta_log.proofs.Pending.{front_is}
use Rattle.meta_log.proofs.log.MetaLog.has_image.Goals as goal

pub returns-in-Some : goal.returns-in-Some
returns-in-Some c =
    let log = c.args.self.now in
    let home = c.args.home in
    let all : take c.self.inside.end c.deref.result.now ≡ log.logged ++ log.pending =
    front_is c.self.inside.slots.items c.deref.result.now c.self.inside.logged c.self.inside.end c.self.invariant.order c.deref.ensures.value ∙ (λ i. (c.self.view_is i).logged ++ (c.self.view_is i).pending) in
    let found : image_at home (log.logged ++ log.pending) ≡ Some c.in-Some.field-0.now = sym (c.image_of.ensures ∙ ap (λ (l : List PageImage). image_at home l) all) ∙ ap option_copied c.in-Some.is in (
      λ yes. subst (λ (o : Option (List ℕ)). IsSome o) (sym found) refl,
      λ has. refl,
    )

pub returns-in-None : goal.returns-in-None
returns-in-None c =
    let log = c.args.self.now in
    let home = c.args.home in
    let all : take c.self.inside.end c.deref.result.now ≡ log.logged ++ log.pending =
    front_is c.self.inside.slots.items c.deref.result.now c.self.inside.logged c.self.inside.end c.self.invariant.order c.deref.ensures.value ∙ (λ i. (c.self.view_is i).logged ++ (c.self.view_is i).pending) in
    let none = sym (c.image_of.ensures ∙ ap (λ (l : List PageImage). image_at home l) all) ∙ ap option_copied c.in-None.is in (
      λ yes. absurd (both_ways false refl yes),
      λ has. absurd (both_ways false refl (subst (λ (o : Option (List ℕ)). IsSome o) none has)),
    )
