use Rattle.std.proofs.Common.{◌≡◌, ◌∙◌, inl, inr, Some, None, List, ℕ, sym, ap, subst, ⊎_elim}
use Rattle.std.specs.Option.{option_copied}
use Rattle.cell_faults.specs.tag_dirs.TagPage.{index_of}
use Rattle.cell_faults.specs.sorted_sets.SpanMembers.{HasNumber}
use Rattle.tag_faults.specs.Directories.{IsWrongPage}
use Rattle.tag_faults.proofs.indexes.look_at.Goals as goal

none_some : {X : Type 0} (x : X) → None ≡ Some x → ⊥
none_some x e = cc

some_same : {X : Type 0} (a b : X) → Some a ≡ Some b → a ≡ b
some_same a b e = cc

pub returns-in_default-clause-found : goal.returns-in_default-clause-found
returns-in_default-clause-found g c other = (
  λ is. inl is,
  λ which. ⊎_elim (λ is. is) (λ (same, (page, there, wrong)). absurd (none_some page (sym (ap option_copied c.in_default.is) ∙ c.get.ensures ∙ there))) which,
)

pub returns-in_default-clause-seen : goal.returns-in_default-clause-seen
returns-in_default-clause-seen g c n = (
  λ has. inl has,
  λ which. ⊎_elim (λ has. has) (λ (page, there, index). absurd (none_some page (sym (ap option_copied c.in_default.is) ∙ c.get.ensures ∙ there))) which,
)

pub returns-clause-found : goal.returns-clause-found
returns-clause-found g c other =
    let pages = g.M.MetaPages.pages c.args.pages.now in
    let page = c.in-Some.page.now in
    let is : pages c.args.home.now ≡ Some page = sym c.get.ensures ∙ ap option_copied c.in-Some.is in
    let put = c.in_ok-insert_wrong.ensures other in (
      λ has. ⊎_elim (λ was. inl was) (λ (same, wrong). inr (same, (page, is, wrong))) (put.0 has),
      λ which. put.1 (⊎_elim (λ was. inl was)
          (λ (same, (bytes, there, wrong)). inr (same, subst (λ (p : List ℕ). IsWrongPage p c.args.place (HasNumber c.args.seen.now)) (some_same bytes page (sym there ∙ is)) wrong)) which),
    )

pub returns-clause-seen : goal.returns-clause-seen
returns-clause-seen g c n =
    let pages = g.M.MetaPages.pages c.args.pages.now in
    let page = c.in-Some.page.now in
    let is : pages c.args.home.now ≡ Some page = sym c.get.ensures ∙ ap option_copied c.in-Some.is in
    let put = c.in_ok-see_index.ensures n in (
      λ has. ⊎_elim (λ was. inl was) (λ index. inr (page, is, index)) (put.0 has),
      λ which. put.1 (⊎_elim (λ was. inl was) (λ (bytes, there, index). inr (ap index_of (some_same page bytes (sym is ∙ there)) ∙ index)) which),
    )
