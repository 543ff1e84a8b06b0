-- Chains of the cells that were read are those of the pages.
use Rattle.std.proofs.Common.{◌≡◌, ◌↔◌, inl, inr, List, subst}
use Rattle.page_ways.specs.domain_base.declared.place.CellAt.{CellAt}
use Rattle.page_ways.specs.page_store.Pages.{Pages}
use Rattle.page_ways.specs.domain_layout.CellRules.{IsChainHead, IsInChain, IsLink, IsUnchained, Link}
use Rattle.page_ways.specs.domain_layout.CellRules as rules
use Rattle.page_ways.specs.domain_layout.Reached.{Frame}
use Rattle.cell_chains.specs.Chains.{Follows, begins, goes_on}
use Rattle.cell_chains.specs.Links.{HasLink}
use Rattle.cell_chains.specs.Members.{IsIn}
use Rattle.cell_chains.specs.declared.links.CellLink.{CellLink}
use Rattle.cell_chains.specs.declared.links.CellLinks.{CellLinks}
use Rattle.cell_chains.specs.declared.set.CellSet.{CellSet}
use Rattle.cell_chains.specs.Heads.{IsChained, IsHead, IsLedTo, IsOfChain, IsStartOf}
use Rattle.cell_faults.specs.Links.{AreLinks, link_in}
use Rattle.cell_faults.specs.ChainPages.{HasUnchained, IsLoose}
use Rattle.cell_chains.proofs.Whole.{has_link, one_link}
use Rattle.page_ways.specs.metadata_cells.CellPage.{home_of}
use Rattle.page_ways.specs.domain_base.declared.place.Home.{Home}

abbrev pub link_of : Link → CellLink
link_of link = record { kind = link.kind; next = link.next }

module _ (pages : Pages) (frame : Frame) (links : CellLinks) (are : AreLinks pages frame links) where
  pub is_link : (at : CellAt) (link : CellLink) → HasLink links at link → IsLink pages frame at (link_in link)
  is_link at link has = (are at link).0 has

  pub in_use : (at : CellAt) (link : Link) → IsLink pages frame at link → HasLink links at (link_of link)
  in_use at link is = (are at (link_of link)).1 is

  module _ (start : CellAt) where
    pub to_rules : (passed : List CellAt) (at : CellAt) (link : CellLink) → Follows links start passed at link → rules.Follows pages frame start passed at (link_in link)
    to_rules passed at link there = elim there as (λ passed at link there. rules.Follows pages frame start passed at (link_in link)) [
      | begins link has ↦ rules.begins (link_in link) (is_link start link has)
      | goes_on passed at onto link next (before → earlier) leads fresh has may ↦ rules.goes_on passed at onto (link_in link) (link_in next) earlier leads fresh (is_link onto next has) may
    ]

    pub from_rules : (passed : List CellAt) (at : CellAt) (link : Link) → rules.Follows pages frame start passed at link → Follows links start passed at (link_of link)
    from_rules passed at link there = elim there as (λ passed at link there. Follows links start passed at (link_of link)) [
      | rules.begins link is ↦ begins (link_of link) (in_use start link is)
      | rules.goes_on passed at onto link next (before → earlier) leads fresh is may ↦ goes_on passed at onto (link_of link) (link_of next) earlier leads fresh (in_use onto next is) may
    ]

    -- the two walks are the same
    pub same_walk : (passed : List CellAt) (at : CellAt) (link : CellLink) → Follows links start passed at link ↔ rules.Follows pages frame start passed at (link_in link)
    same_walk passed at link = (to_rules passed at link, from_rules passed at (link_in link))

  module _ (led : CellSet) (all_led : (onto : CellAt) → IsIn led onto ↔ IsLedTo links onto) where
    pub is_head : (at : CellAt) (link : CellLink) → HasLink links at link → IsHead led at link → IsChainHead pages frame at (link_in link)
    is_head at link has (inl primary) = (is_link at link has, inl primary)
    is_head at link has (inr (quota, out)) =
        (is_link at link has, inr (quota, (λ other (from, is, kind, leads). out ((all_led at).1 (other, link_of from, in_use other from is, (kind, leads))))))

    pub was_head : (at : CellAt) (link : Link) → IsChainHead pages frame at link → IsHead led at (link_of link)
    was_head at link (is, inl primary) = inl primary
    was_head at link (is, inr (quota, none)) =
        inr (quota, (λ among. let there = (all_led at).0 among in none there.0 (link_in there.1, is_link there.0 there.1 there.2, there.3.0, there.3.1)))

    -- a cell belongs to the chain from a first cell on exactly where the rules have it in that
    pub start_of : (start at : CellAt) (link : Link) → IsInChain pages frame start at link → IsStartOf links led at start
    start_of start at link is =
        (link_of is.first, in_use start is.first is.begins.0, (was_head start is.first is.begins, (is.passed, link_of link, from_rules start is.passed at link is.follows)))

    pub in_chain_from : (start at : CellAt) (first link : CellLink) → HasLink links at link → HasLink links start first → IsChained links led start first at → IsInChain pages frame start at (link_in link)
    in_chain_from start at first link has there (head, (passed, last, follows)) =
        let same : last ≡ link = one_link links start at last link (has_link links start passed at last follows) has in
        record {
          first = link_in first;
          begins = is_head start first there head;
          passed = passed;
          follows = subst (λ (l : CellLink). rules.Follows pages frame start passed at (link_in l)) same (to_rules start passed at last follows);
        }

  module _ (led marked : CellSet) (all_led : (onto : CellAt) → IsIn led onto ↔ IsLedTo links onto) (all_marked : (at : CellAt) → IsIn marked at ↔ IsOfChain links led at) where
    of_chain : (start at : CellAt) (link : Link) → IsInChain pages frame start at link → IsOfChain links led at
    of_chain start at link is = let begins_so = start_of led all_led start at link is in (start, begins_so.0, begins_so.1, begins_so.2)

    in_chain : (at : CellAt) (link : CellLink) → HasLink links at link → IsOfChain links led at → (start : CellAt) × IsInChain pages frame start at (link_in link)
    in_chain at link has (start, first, there, chained) = (start, in_chain_from led all_led start at first link has there chained)

    -- pages are found at which a cell that is not marked stands exactly where no chain comes to one
    pub unchained_all : (home : Home) → ((at : CellAt) × (link : CellLink) × HasLink links at link × ((home_of at ≡ home) × IsLoose marked at link)) ↔ HasUnchained pages frame home
    unchained_all home = (
      λ (at, link, has, (same, (kind, out))). (
        at,
        same,
        record {
          link = link_in link;
          is = is_link at link has;
          kind = kind;
          alone = λ start is. out ((all_marked at).1 (of_chain start at (link_in link) is));
        },
      ),
      λ (at, same, wrong). (
        at,
        link_of wrong.link,
        in_use at wrong.link wrong.is,
        (
          same,
          (
            wrong.kind,
            (λ among.
                let there = in_chain at (link_of wrong.link) (in_use at wrong.link wrong.is) ((all_marked at).0 among) in wrong.alone there.0 there.1),
          ),
        ),
      ),
    )
