-- Which slots may be taken and which tags are in use, by the pages of a directory.
use Rattle.std.proofs.Common.{◌≡◌, ◌∙◌, ℕ, zero, suc, ◌/◌, ◌%◌, Bool, true, false, cond, nat_eq, Option, Some, None, IfNone, IfSome, IsSome, IsSomeAnd, List, [], ◌∷◌, slice_get, refl, sym, ap, subst, arith}
use Rattle.std.proofs.lemmas.Bool.{eqb-true, eq-eqb, both_ways}
use Rattle.std.specs.Option.{option_and_then, option_map}
use Rattle.metadata_cells.specs.domain_base.declared.place.Home.{Home}
use Rattle.metadata_cells.specs.domain_base.declared.place.Tag.{Tag}
use Rattle.metadata_cells.specs.page_store.Pages.{Pages}
use Rattle.tag_dirs.specs.declared.dir.TagPlace.{TagPlace}
use Rattle.tag_dirs.specs.declared.page.TagEntry.{TagEntry}
use Rattle.tag_dirs.specs.TagPage.{entry_of, is_takeable}
use Rattle.tag_dirs.specs.Directory.{CanTake, HasNone, IsDirectory, IsOnPage, IsUsedOn, RisesTo, TakesOn, UsesNone, cell_for, cell_of, home_with}
use Rattle.tag_dirs.proofs.Slots.{found, same_some}

-- the home with the index of a place at which no other has it
located : (places : List TagPlace) (k : ℕ) (p : TagPlace) → slice_get places k ≡ Some p → ((j : ℕ) (q : TagPlace) → slice_get places j ≡ Some q → q.index ≡ p.index → j ≡ k) → home_with places p.index ≡ Some p.home
located [] k p there unique = absurd (none_is (sym there))
  where
    none_is : Some p ≡ None → ⊥
    none_is is = subst Test is tt
      where
        Test : Option TagPlace → Type 0
        Test None = ⊥
        Test (Some y) = Unit {0}
located (x ∷ xs) zero p there unique =
    let same = same_some x p there in
    ap (λ b. cond b (Some x.home) (home_with xs p.index)) (eq-eqb x.index p.index (ap (λ (q : TagPlace). q.index) same)) ∙ ap (λ (q : TagPlace). Some q.home) same
located (x ∷ xs) (suc k) p there unique = by_test (nat_eq x.index p.index) refl (located xs k p there (λ j q at same. less j (unique (suc j) q at same)))
  where
    less : (j : ℕ) → suc j ≡ suc k → j ≡ k
    less j is = omega (arith, is)

    not_zero : 0 ≡ suc k → ⊥
    not_zero is = omega (arith, is)

    by_test : (b : Bool) → nat_eq x.index p.index ≡ b → home_with xs p.index ≡ Some p.home → home_with (x ∷ xs) p.index ≡ Some p.home
    by_test true same later = absurd (not_zero (unique 0 x refl (eqb-true x.index p.index same)))
    by_test false other later = ap (λ b. cond b (Some x.home) (home_with xs p.index)) other ∙ later

module _ (pages : Pages) (places : List TagPlace) (dir : IsDirectory pages places) where
  pub tag_found : (k : ℕ) (p : TagPlace) (tag : Tag) → slice_get places k ≡ Some p → TakesOn pages p tag → CanTake pages places tag
  tag_found k p tag there takes =
      let at : home_with places (tag.slot / 1022) ≡ Some p.home = ap (home_with places) takes.0 ∙ located places k p there (λ j q at same. dir.apart j k q p at there same) in
      (takes.1, subst (λ o. IsSomeAnd (option_map (λ page. entry_of page (tag.slot % 1022)) (option_and_then pages o)) (RisesTo tag.seq)) (sym at) (by_page (pages p.home) takes.2))
    where
      by_page : (o : Option (List ℕ)) → IsSomeAnd o (λ page. RisesTo tag.seq (entry_of page (tag.slot % 1022))) → IsSomeAnd (option_map (λ page. entry_of page (tag.slot % 1022)) o) (RisesTo tag.seq)
      by_page None is = is
      by_page (Some page) is = is

  pub none_found : ((k : ℕ) (p : TagPlace) → slice_get places k ≡ Some p → HasNone pages p) → (tag : Tag) → ¬ CanTake pages places tag
  none_found none tag can = by_home (home_with places (tag.slot / 1022)) refl can.1
    where
      by_page : (o : Option (List ℕ)) → IfSome o (λ page. is_takeable (entry_of page (tag.slot % 1022)) ≡ false) → IsSomeAnd (option_map (λ page. entry_of page (tag.slot % 1022)) o) (RisesTo tag.seq) → ⊥
      by_page None is can = can
      by_page (Some page) is can = both_ways (is_takeable (entry_of page (tag.slot % 1022))) is can.0

      by_home : (o : Option Home) → home_with places (tag.slot / 1022) ≡ o → IsSomeAnd (option_map (λ page. entry_of page (tag.slot % 1022)) (option_and_then pages o)) (RisesTo tag.seq) → ⊥
      by_home None at is = is
      by_home (Some h) at is =
          let f = found places (tag.slot / 1022) h at in
          by_page (pages h) (subst (λ home. IfSome (pages home) (λ page. is_takeable (entry_of page (tag.slot % 1022)) ≡ false)) f.stands (none f.k f.p f.there tag.slot (sym f.indexed) can.0)) is

  pub used_found : (k : ℕ) (p : TagPlace) (tag : Tag) → slice_get places k ≡ Some p → IsUsedOn pages p tag → IsSome (cell_of pages places tag)
  used_found k p tag there used =
      let at : home_with places (tag.slot / 1022) ≡ Some p.home = ap (home_with places) used.0 ∙ located places k p there (λ j q at same. dir.apart j k q p at there same) in
      subst (λ o. IsSome (option_and_then (cell_for tag.seq) (option_map (λ page. entry_of page (tag.slot % 1022)) (option_and_then pages o)))) (sym at) (by_page (pages p.home) used.1)
    where
      by_page : (o : Option (List ℕ)) → IsSomeAnd o (λ page. IsSome (cell_for tag.seq (entry_of page (tag.slot % 1022)))) → IsSome (option_and_then (cell_for tag.seq) (option_map (λ page. entry_of page (tag.slot % 1022)) o))
      by_page None is = absurd is
      by_page (Some page) is = is

  pub none_used : (k : ℕ) (p : TagPlace) → slice_get places k ≡ Some p → UsesNone pages p → (tag : Tag) → IsOnPage places k tag → cell_of pages places tag ≡ None
  none_used k p there none tag on =
      let index : tag.slot / 1022 ≡ p.index = subst (λ o. IsSomeAnd o (λ (q : TagPlace). tag.slot / 1022 ≡ q.index)) there on in
      let at : home_with places (tag.slot / 1022) ≡ Some p.home = ap (home_with places) index ∙ located places k p there (λ j q at same. dir.apart j k q p at there same) in
      ap (λ o. option_and_then (cell_for tag.seq) (option_map (λ page. entry_of page (tag.slot % 1022)) (option_and_then pages o))) at ∙ by_page (pages p.home) (none tag.slot index)
    where
      by_entry : (e : TagEntry) → e.at ≡ None → (b : Bool) → cond b e.at None ≡ None
      by_entry e free true = free
      by_entry e free false = refl

      by_page : (o : Option (List ℕ)) → IfSome o (λ page. (entry_of page (tag.slot % 1022)).at ≡ None) → option_and_then (cell_for tag.seq) (option_map (λ page. entry_of page (tag.slot % 1022)) o) ≡ None
      by_page None is = refl
      by_page (Some page) is = by_entry (entry_of page (tag.slot % 1022)) is (nat_eq (entry_of page (tag.slot % 1022)).seq tag.seq)

pub on_page : (places : List TagPlace) (k : ℕ) (p : TagPlace) (tag : Tag) → slice_get places k ≡ Some p → tag.slot / 1022 ≡ p.index → IsOnPage places k tag
on_page places k p tag there index = subst (λ o. IsSomeAnd o (λ (q : TagPlace). tag.slot / 1022 ≡ q.index)) (sym there) index

pub if_none : {X : Type 0} {P Q : Type 0} → (P → Q) → (o : Option X) → IfNone o P → IfNone o Q
if_none f None is = f is
if_none f (Some x) is = tt
