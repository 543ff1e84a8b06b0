use Rattle.std.proofs.Common.{◌≡◌, ◌∙◌, ◌↔◌, ◌⊎◌, inl, inr, Contains, List, ℕ, Some, None, sym, ap, subst, ⊎_elim}
use Rattle.std.specs.Option.{option_copied}
use Rattle.cell_faults.proofs.OfSortedSets.Found.{on_ok}
use Rattle.tag_faults.specs.Entries.{IsEntryOf, IsEntryThere}
use Rattle.tag_faults.specs.declared.named.NamedCell.{NamedCell}
use Rattle.tag_faults.proofs.named.push_page.Goals as goal

some_same : {X : Type 0} (a b : X) → Some a ≡ Some b → a ≡ b
some_same a b e = cc

none_some : {X : Type 0} (x : X) → None ≡ Some x → ⊥
none_some x e = cc

pub returns-in-Some : goal.returns-in-Some
returns-in-Some g c =
    let pages = g.M.MetaPages.pages c.args.pages.now in
    let page = c.in-Some.page.now in
    let number = c.args.number in
    let home = c.args.home.now in
    let old = c.args.entries.now.items in
    let new = c.push_entries.new.entries.items in
    let is : pages home ≡ Some page = sym c.get.ensures ∙ ap option_copied c.in-Some.is in
    on_ok c.push_entries.result ((one : NamedCell) → Contains new one ↔ (Contains old one ⊎ IsEntryOf page number home one)) ((one : NamedCell) → Contains new one ↔ (Contains old one ⊎ IsEntryThere pages number one home))
    (λ put one. (
      λ has. ⊎_elim (λ was. inl was) (λ there. inr (page, is, there)) ((put one).0 has),
      λ which. (put one).1 (⊎_elim (λ was. inl was) (λ (bytes, at, there). inr (subst (λ (p : List ℕ). IsEntryOf p number home one) (some_same bytes page (sym at ∙ is)) there)) which),
    ))
    c.push_entries.ensures

pub returns-in-None : goal.returns-in-None
returns-in-None g c one = (
  λ has. inl has,
  λ which. ⊎_elim (λ has. has) (λ (page, there, others). absurd (none_some page (sym (ap option_copied c.in-None.is) ∙ c.get.ensures ∙ there))) which,
)
