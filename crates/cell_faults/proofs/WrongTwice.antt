-- What is found to be said twice is what the rules have.
use Rattle.std.proofs.Common.{◌≡◌, ◌↔◌, ℕ, ◌+◌, ◌*◌, ◌^◌, ◌<◌, List, Contains, refl, sym, subst, arith, ⊎_elim}
use Rattle.std.proofs.lemmas.List.Elements.{All-contains, All-from_recursion, Contains-push_cases}
use Rattle.page_ways.specs.domain_base.declared.place.CellAt.{CellAt}
use Rattle.page_ways.specs.domain_base.declared.place.Home.{Home}
use Rattle.page_ways.specs.page_store.Pages.{Pages}
use Rattle.page_ways.specs.cell_records.Records.{Allowed, kind_of}
use Rattle.page_ways.specs.cell_records.declared.record.Record.{Record}
use Rattle.page_ways.specs.cell_records.declared.record.Record.TheVariants as written
use Rattle.page_ways.specs.metadata_cells.Cell.{Cell, id_of, place_of}
use Rattle.page_ways.specs.metadata_cells.CellPage.{home_of}
use Rattle.page_ways.specs.metadata_cells.Chain.{StandsAt}
use Rattle.page_ways.specs.domain_layout.CellRules.{AreInChain, Link}
use Rattle.page_ways.specs.domain_layout.Reached.{Frame}
use Rattle.cell_chains.specs.Chains.{Follows, begins, goes_on}
use Rattle.cell_chains.specs.Links.{HasLink}
use Rattle.cell_chains.specs.Members.{IsIn}
use Rattle.cell_chains.specs.declared.links.CellLink.{CellLink}
use Rattle.cell_chains.specs.declared.links.CellLinks.{CellLinks}
use Rattle.cell_chains.specs.declared.set.CellSet.{CellSet}
use Rattle.cell_chains.proofs.Whole.{has_link}
use Rattle.cell_chains.specs.Heads.{IsHead, IsLedTo}
use Rattle.cell_chains.specs.Says.{Says}
use Rattle.cell_chains.specs.Twice.{Asks, HasTwice}
use Rattle.cell_chains.specs.declared.said.Said.{Said}
use Rattle.cell_chains.specs.declared.said.Said.TheVariants as said
use Rattle.cell_faults.specs.Links.{AreLinks, link_in}
use Rattle.cell_faults.specs.ChainPages.{HasLimitsTwice, HasPageTwice}
use Rattle.cell_faults.proofs.Walks.{from_rules, in_use, is_head, is_link, link_of, to_rules, was_head}

-- the cells that were passed are in use
passed_in_use : (links : CellLinks) (start : CellAt) (passed : List CellAt) (at : CellAt) (link : CellLink) → Follows links start passed at link → (before : CellAt) → Contains passed before
    → (one : CellLink) × HasLink links before one
passed_in_use links start passed at link there = elim there as (λ passed at link there. (before : CellAt) → Contains passed before → (one : CellLink) × HasLink links before one) [
  | begins link has ↦ λ before (k, within, is). absurd (omega (arith, within))
  | goes_on passed at onto link next (front → earlier) leads fresh has may ↦ λ before among.
      ⊎_elim (λ first. earlier before first) (λ last. (link, subst (λ a. HasLink links a link) last (has_link links start passed at link front))) (Contains-push_cases passed at before among)
]

-- ---- limits by their numbers

id_small : (r : Record) → Allowed r → id_of r < 2 ^ 32
unfolding Allowed
id_small (written.UserQuota id files blocks) allowed = allowed.0
id_small (written.GroupQuota id files blocks) allowed = allowed.0
id_small r allowed = omega arith

allowed_there : (pages : Pages) (at : CellAt) (cell : Cell) (r : Record) → StandsAt pages at cell → Contains cell.records r → Allowed r
allowed_there pages at cell r stands among = All-contains Allowed cell.records r (All-from_recursion Allowed cell.records stands.is.well_formed.allowed) among

same_owner : (a b : Record) (n : ℕ) → Allowed a → Allowed b → place_of a ≡ n → place_of b ≡ n → (kind_of a ≡ kind_of b) × (id_of a ≡ id_of b)
same_owner a b n allowed_a allowed_b one other =
    let small_a = id_small a allowed_a in
    let small_b = id_small b allowed_b in
    (omega (arith, small_a, small_b, one, other), omega (arith, small_a, small_b, one, other))

module _ (pages : Pages) (frame : Frame) (links : CellLinks) (are : AreLinks pages frame links) (led : CellSet) (all_led : (onto : CellAt) → IsIn led onto ↔ IsLedTo links onto) where
  in_chain : (start : CellAt) (first : CellLink) (passed : List CellAt) (at : CellAt) (link : CellLink) (before : CellAt) (early late : Cell) → HasLink links start first → IsHead led start first
      → Follows links start passed at link → Contains passed before → StandsAt pages before early → StandsAt pages at late → AreInChain pages frame (link_in first) early late at
  in_chain start first passed at link before early late has head follows among stands_early stands_late =
      let front = passed_in_use links start passed at link follows before among in
      record {
        start = start;
        is_head = is_head pages frame links are led all_led start first has head;
        passed = passed;
        link = link_in link;
        follows = to_rules pages frame links are start passed at link follows;
        late_is = record { place = (is_link pages frame links are at link (has_link links start passed at link follows)).place; stands = stands_late };
        before = before;
        among = among;
        early_is = record { place = (is_link pages frame links are before front.0 front.1).place; stands = stands_early };
      }

  abbrev Found : Said → Home → Type 0
  Found what home = (at : CellAt) × (link : CellLink) × HasLink links at link × HasTwice pages what links led home at link

  was_twice : (what : Said) (home : Home) (first : Link) (early late : Cell) (at : CellAt) → home_of at ≡ home → (chain : AreInChain pages frame first early late at) → Asks what first.kind
      → (one other : Record) (n : ℕ) → Contains early.records one → Contains late.records other → Says what one n → Says what other n → Found what home
  was_twice what home first early late at same chain asked one other n in_early in_late says again = (
    chain.start,
    link_of first,
    in_use pages frame links are chain.start first chain.is_head.0,
    (
      asked,
      was_head pages frame links are led all_led chain.start first chain.is_head,
      (
        at,
        same,
        (
          chain.passed,
          link_of chain.link,
          from_rules pages frame links are chain.start chain.passed at chain.link chain.follows,
          chain.before,
          chain.among,
          (n, (early, chain.early_is.stands, (one, in_early, says)), (late, chain.late_is.stands, (other, in_late, again))),
        ),
      ),
    ),
  )

  pub pages_all : (home : Home) → Found said.Pages home ↔ HasPageTwice pages frame home
  pages_all home = (
    λ (start, first, has, (asked, head, (at, same, (passed, link, follows, before, among, (n, (early, stands_early, (one, in_early, says)), (late, stands_late, (other, in_late, again))))))). (
      at,
      same,
      record {
        first = link_in first;
        early = early;
        late = late;
        chain = in_chain start first passed at link before early late has head follows among stands_early stands_late;
        one = one;
        other = other;
        in_early = in_early;
        in_late = in_late;
        page = n;
        there = says;
        again = again;
      },
    ),
    λ (at, same, wrong). was_twice said.Pages home wrong.first wrong.early wrong.late at same wrong.chain tt wrong.one wrong.other wrong.page wrong.in_early wrong.in_late wrong.there wrong.again,
  )

  pub limits_all : (home : Home) → Found said.Limits home ↔ HasLimitsTwice pages frame home
  limits_all home = (
    λ (start, first, has, (asked, head, (at, same, (passed, link, follows, before, among, (n, (early, stands_early, (one, in_early, says)), (late, stands_late, (other, in_late, again))))))).
        let owners = same_owner one other n (allowed_there pages before early one stands_early in_early) (allowed_there pages at late other stands_late in_late) says again in (
          at,
          same,
          record {
            first = link_in first;
            early = early;
            late = late;
            chain = in_chain start first passed at link before early late has head follows among stands_early stands_late;
            quotas = asked;
            one = one;
            other = other;
            in_early = in_early;
            in_late = in_late;
            kinds = owners.0;
            ids = owners.1;
          },
        ),
    λ (at, same, wrong). was_twice said.Limits home wrong.first wrong.early wrong.late at same wrong.chain wrong.quotas wrong.one wrong.other (place_of wrong.one) wrong.in_early wrong.in_late refl
        (λ i. 2 ^ 32 * sym wrong.kinds i + sym wrong.ids i),
  )
