use Rattle.std.proofs.Common.{◌≡◌, ◌∙◌, inl, inr, Some, sym, ap, ⊎_elim}
use Rattle.tag_faults.specs.domain_base.declared.place.Home.{Home}
use Rattle.page_faults.proofs.homes.push_one.Goals as goal

some_same : {X : Type 0} (a b : X) → Some a ≡ Some b → a ≡ b
some_same a b e = cc

pub returns-in_ok-push_home : goal.returns-in_ok-push_home
returns-in_ok-push_home c home =
    let put = c.in_ok-push_home.ensures home in (
      λ is. ⊎_elim (λ was. inl was) (λ same. inr (c.in-Some.is ∙ ap (λ (h : Home). Some h) same)) (put.0 is),
      λ which. put.1 (⊎_elim (λ was. inl was) (λ there. inr (some_same c.in-Some.home home (sym c.in-Some.is ∙ there))) which),
    )
