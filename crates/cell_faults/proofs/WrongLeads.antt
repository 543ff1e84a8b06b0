-- Cells that are found to lead wrong are those of the rules.
use Rattle.std.proofs.Common.{◌≡◌, ◌∙◌, ◌⊎◌, ◌↔◌, inl, inr, zero, suc, ◌^◌, ◌<◌, true, false, List, [], ◌∷◌, ◌++◌, Some, Contains, sym, subst, arith, ⊎_elim}
use Rattle.std.proofs.lemmas.Bool.{cases_Bool}
use Rattle.std.proofs.lemmas.Bool.Decides.{nat_tests}
use mathlib.Core.Bool.{false≢true}
use Rattle.page_ways.specs.domain_base.declared.place.CellAt.{CellAt}
use Rattle.page_ways.specs.domain_base.declared.place.Home.{Home}
use Rattle.page_ways.specs.page_store.Pages.{Pages}
use Rattle.page_ways.specs.metadata_cells.CellPage.{home_of}
use Rattle.page_ways.specs.metadata_cells.Chain.{key_of, may_follow}
use Rattle.page_ways.specs.domain_layout.CellRules.{IsLedTo, IsLink, LeadsWrong, Link, is_before}
use Rattle.page_ways.specs.domain_layout.Reached.{Frame}
use Rattle.cell_chains.specs.Chains.{EndsAt}
use Rattle.cell_chains.specs.Links.{HasLink}
use Rattle.cell_chains.specs.Members.{IsIn}
use Rattle.cell_chains.specs.declared.links.CellLink.{CellLink}
use Rattle.cell_chains.specs.declared.links.CellLinks.{CellLinks}
use Rattle.cell_chains.specs.declared.set.CellSet.{CellSet}
use Rattle.cell_chains.proofs.Whole.{has_link, one_link}
use Rattle.cell_chains.specs.Heads as heads
use Rattle.cell_chains.specs.Leads.{HasEndAstray, HasLate}
use Rattle.cell_chains.proofs.Cells.{same_cell}
use Rattle.cell_faults.specs.Links.{AreLinks, link_in}
use Rattle.cell_faults.specs.ChainPages.{HasWrongLead}
use Rattle.cell_faults.proofs.Walks.{from_rules, in_chain_from, in_use, is_head, is_link, link_of, start_of, to_rules, was_head}

some_same : {X : Type 0} (a b : X) → Some a ≡ Some b → a ≡ b
some_same a b e = cc

contains_or : (cells : List CellAt) (at : CellAt) → Contains cells at ⊎ (¬ Contains cells at)
contains_or [] at = inr (λ (k, within, is). omega (arith, within))
contains_or (x ∷ xs) at =
    ⊎_elim (λ same. inl (zero, omega arith, same))
    (λ other. ⊎_elim (λ (k, within, is). inl (suc k, omega (arith, within), is)) (λ none. inr (neither other none)) (contains_or xs at)) (same_cell x at)
  where
    neither : ¬ x ≡ at → ¬ Contains xs at → Contains (x ∷ xs) at → ⊥
    neither other none (zero, within, is) = other is
    neither other none (suc k, within, is) = none (k, omega (arith, within), is)

-- ---- the order of cells by their numbers

pub before_by_key : (a b : CellAt) → a.page < 2 ^ 32 → b.page < 2 ^ 32 → a.cell < 256 → b.cell < 256 → key_of a < key_of b → is_before a b ≡ true
before_by_key a b page_a page_b cell_a cell_b less = grind (arith, nat_tests)

pub key_by_before : (a b : CellAt) → a.page < 2 ^ 32 → a.cell < 256 → is_before a b ≡ true → key_of a < key_of b
key_by_before a b page cell before = grind (arith, nat_tests)

module _ (pages : Pages) (frame : Frame) (links : CellLinks) (are : AreLinks pages frame links) (led : CellSet) (all_led : (onto : CellAt) → IsIn led onto ↔ heads.IsLedTo links onto) where
  wide : (at : CellAt) (link : CellLink) → HasLink links at link → (at.page < 2 ^ 32) × (at.cell < 256)
  wide at link has = let there = links.numbered (key_of at) at link has in (there.1, there.2)

  -- ---- what is found is wrong

  astray : (start : CellAt) (first : CellLink) (home : Home) → HasLink links start first → HasEndAstray links led home start first → HasWrongLead pages frame home
  astray start first home has (head, (at, same, (passed, link, follows, onto, leads, ends))) = (
    at,
    same,
    record {
      start = start;
      link = link_in link;
      is = record { first = link_in first; begins = is_head pages frame links are led all_led start first has head; passed = passed; follows = to_rules pages frame links are start passed at link follows };
      onto = onto;
      leads = leads;
      wrong = ⊎_elim (λ back. inr (inl back)) (λ fresh. inl (none_may fresh)) (contains_or (passed ++ at ∷ []) onto);
    },
  )
    where
      none_may : ¬ Contains (passed ++ at ∷ []) onto → (next : Link) → IsLink pages frame onto next → may_follow link.kind next.kind ≡ false
      none_may fresh next is =
          ⊎_elim (λ may. absurd (ends onto (link_of next) leads fresh (in_use pages frame links are onto next is) may)) (λ not. not) (cases_Bool (may_follow link.kind next.kind))

  late : (at : CellAt) (link : CellLink) (home : Home) → HasLink links at link → HasLate links led home at link → HasWrongLead pages frame home
  late at link home has (same, (onto, start, other, chain, earlier, goes, of, there, also, of_chain, apart, less)) = (
    at,
    same,
    record {
      start = start;
      link = link_in link;
      is = in_chain_from pages frame links are led all_led start at of.0 link has of.1 of.2;
      onto = onto;
      leads = goes.0;
      wrong = inr (inr (
        other,
        record {
          chain = chain;
          another = apart;
          link = link_in earlier;
          is = in_chain_from pages frame links are led all_led chain other of_chain.0 earlier there of_chain.1 of_chain.2;
          leads = also.0;
          next = link_in also.1.0;
          there = is_link pages frame links are onto also.1.0 also.1.1;
          may = also.1.2;
        },
        before_by_key other at (wide other earlier there).0 (wide at link has).0 (wide other earlier there).1 (wide at link has).1 less,
      ));
    },
  )

  -- ---- what is wrong is found

  abbrev Found : Home → Type 0
  Found home = ((at : CellAt) × (link : CellLink) × HasLink links at link × HasEndAstray links led home at link)
      ⊎ ((at : CellAt) × (link : CellLink) × HasLink links at link × HasLate links led home at link)

  module _ (at : CellAt) (home : Home) (same : home_of at ≡ home) (wrong : LeadsWrong pages frame at) where
    abbrev here : CellLink
    here = link_of wrong.link

    by_end : EndsAt links wrong.is.passed at here → Found home
    by_end ends = inl (
      wrong.start,
      link_of wrong.is.first,
      in_use pages frame links are wrong.start wrong.is.first wrong.is.begins.0,
      (
        was_head pages frame links are led all_led wrong.start wrong.is.first wrong.is.begins,
        (at, same, (wrong.is.passed, here, from_rules pages frame links are wrong.start wrong.is.passed at wrong.link wrong.is.follows, wrong.onto, wrong.leads, ends)),
      ),
    )

    by_earlier : (other : CellAt) (to : IsLedTo pages frame wrong.start other wrong.onto) → is_before other at ≡ true → may_follow wrong.link.kind to.next.kind ≡ true → Found home
    by_earlier other to before may =
        let has = has_link links wrong.start wrong.is.passed at here (from_rules pages frame links are wrong.start wrong.is.passed at wrong.link wrong.is.follows) in
        let there = has_link links to.chain to.is.passed other (link_of to.link) (from_rules pages frame links are to.chain to.is.passed other to.link to.is.follows) in
        let onto = in_use pages frame links are wrong.onto to.next to.there in
        inr (
          at,
          here,
          has,
          (
            same,
            (
              wrong.onto,
              wrong.start,
              other,
              to.chain,
              link_of to.link,
              (wrong.leads, (link_of to.next, onto, may)),
              start_of pages frame links are led all_led wrong.start at wrong.link wrong.is,
              there,
              (to.leads, (link_of to.next, onto, to.may)),
              start_of pages frame links are led all_led to.chain other to.link to.is,
              to.another,
              key_by_before other at (wide other (link_of to.link) there).0 (wide other (link_of to.link) there).1 before,
            ),
          ),
        )

    was_wrong : Found home
    was_wrong = elim wrong.wrong [
      | inl none ↦ by_end (λ onto next leads fresh there may.
          let is = subst (λ o. IsLink pages frame o (link_in next)) (some_same onto wrong.onto (sym leads ∙ wrong.leads)) (is_link pages frame links are onto next there) in
          false≢true (sym (none (link_in next) is) ∙ may))
      | inr others ↦ elim others [
        | inl back ↦ by_end (λ onto next leads fresh there may. fresh (subst (Contains (wrong.is.passed ++ at ∷ [])) (sym (some_same onto wrong.onto (sym leads ∙ wrong.leads))) back))
        | inr (other, to, before) ↦ ⊎_elim (λ may. by_earlier other to before may)
            (λ not. by_end (λ onto next leads fresh there may.
            let has = subst (λ o. HasLink links o next) (some_same onto wrong.onto (sym leads ∙ wrong.leads)) there in
            let alike : next ≡ link_of to.next = one_link links wrong.start wrong.onto next (link_of to.next) has (in_use pages frame links are wrong.onto to.next to.there) in
            false≢true (sym not ∙ subst (λ (l : CellLink). may_follow wrong.link.kind l.kind ≡ true) alike may)))
            (cases_Bool (may_follow wrong.link.kind to.next.kind))
      ]
    ]

  pub leads_all : (home : Home) → Found home ↔ HasWrongLead pages frame home
  leads_all home = (
    λ found. ⊎_elim (λ (start, first, has, ends). astray start first home has ends) (λ (at, link, has, is). late at link home has is) found,
    λ (at, same, wrong). was_wrong at home same wrong,
  )
