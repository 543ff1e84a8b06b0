-- Where no rule of tables is broken, two chains share no cell.
use Rattle.std.proofs.Common.{◌≡◌, ◌∙◌, inl, inr, ℕ, zero, suc, ◌≤◌, true, List, [], ◌∷◌, Some, slice_get, refl, sym, ap, subst, ⊎_elim}
use Rattle.std.specs.List.{AllByRecursion}
use Rattle.domain_memory.specs.domain_base.declared.place.CellAt.{CellAt}
use Rattle.domain_memory.specs.page_store.Pages.{Pages}
use Rattle.domain_memory.specs.log_ring.Homes.{IsMember, member_of}
use Rattle.domain_memory.specs.metadata_cells.Cell.{Cell}
use Rattle.domain_memory.specs.metadata_cells.Chain.{Follow, PlacedCell, may_follow, places}
use Rattle.domain_memory.specs.metadata_cells.declared.head.CellKind.{CellKind}
use Rattle.domain_memory.specs.metadata_cells.declared.head.CellKind.TheVariants as kinds
use Rattle.domain_memory.proofs.OfMetadataCells.Unique.{one_stands}
use Rattle.domain_memory.specs.fileset_files.Files.{AreApart}
use Rattle.domain_memory.specs.domain_layout.CellRules.{IsChainHead, IsInChain, is_before}
use Rattle.domain_memory.specs.domain_layout.Faults.{HasNoTablesFault}
use Rattle.domain_memory.specs.domain_layout.Layout.{IsLayout, Layout}
use Rattle.domain_memory.specs.domain_layout.Owners.{IsOnTable, frame_of}
use Rattle.domain_memory.proofs.OfDomainLayout.Named.{link_to, no_cell}
use Rattle.domain_memory.proofs.OfDomainLayout.OnePage.{some_same}
use Rattle.domain_memory.proofs.OfDomainLayout.OwnedOnce.{same_cell}
use Rattle.domain_memory.proofs.OfFilesetsReading.ChainsApart.{index_of, one_before}
use Rattle.no_faults.specs.Attached.{IsFirstQuota}
use Rattle.no_faults.proofs.Begun.{ChainAt, head_of, nowhere, quota_in}
use Rattle.no_faults.proofs.OnTables.{link_there}
use Rattle.no_faults.proofs.Walked.{IsOnWay}

-- nothing leads to the first cell of a file, and to one of quotas only one of quotas
not_primary : (kind : CellKind) → ¬ may_follow kind kinds.Primary ≡ true
not_primary kinds.Primary may = absurd (cc)
not_primary kinds.Chain may = absurd (cc)
not_primary kinds.Quota may = absurd (cc)
not_primary kinds.Volume may = absurd (cc)

from_quota : (kind : CellKind) → may_follow kind kinds.Quota ≡ true → kind ≡ kinds.Quota
from_quota kinds.Primary may = absurd (cc)
from_quota kinds.Chain may = absurd (cc)
from_quota kinds.Quota may = refl
from_quota kinds.Volume may = absurd (cc)

module _ (pages : Pages) (layout : Layout) (laid : IsLayout pages layout) (none : HasNoTablesFault pages (frame_of layout))
    (small : (vol : ℕ) → IsMember layout.anchor vol → (member_of layout.anchor vol).pages ≤ 1048576)
    (quotas : (number : ℕ) (at : CellAt) → quota_in layout number ≡ Some at → ¬ ¬ IsFirstQuota pages (frame_of layout) number at) where
  abbrev Chain : CellAt → List PlacedCell → Type 0
  Chain at chain = ChainAt pages layout laid none small quotas at chain

  -- two cells of the chain that begins at a cell, one behind the other
  record Step (start : CellAt) (cs : List PlacedCell) (k : ℕ) (at : CellAt) : Type 0 where
    front : PlacedCell
    back : PlacedCell
    front_in : ¬ ¬ IsInChain pages (frame_of layout) start front.at (link_to front.cell)
    front_on : IsOnTable pages layout front.at front.cell
    back_on : IsOnTable pages layout back.at back.cell
    leads : front.cell.head.next ≡ Some back.at
    may : may_follow front.cell.head.kind back.cell.head.kind ≡ true
    is : back.at ≡ at
    before : slice_get (places cs) k ≡ Some front.at

  step_at : (start : CellAt) (first : Cell) → ¬ ¬ IsChainHead pages (frame_of layout) start (link_to first) → (c : PlacedCell) (cs : List PlacedCell) → Follow pages c.cell.head cs
      → AllByRecursion (IsOnWay pages layout start) (c ∷ cs) → (k : ℕ) (at : CellAt) → slice_get (places cs) k ≡ Some at → Step start (c ∷ cs) k at
  step_at start first head c [] follow all k at is = nowhere at is
  step_at start first head c (d ∷ ds) (leads, may, stands, more) all zero at is = record {
    front = c;
    back = d;
    front_in = λ away. head (λ h. all.0.behind (λ b. away (record { first = link_to first; begins = h; passed = b.0; follows = b.1 })));
    front_on = all.0.on;
    back_on = all.1.0.on;
    leads = leads;
    may = may;
    is = some_same d.at at is;
    before = refl;
  }
  step_at start first head c (d ∷ ds) (leads, may, stands, more) all (suc k) at is =
      let step = step_at start first head d ds more all.1 k at is in
      record {
        front = step.front;
        back = step.back;
        front_in = step.front_in;
        front_on = step.front_on;
        back_on = step.back_on;
        leads = step.leads;
        may = step.may;
        is = step.is;
        before = step.before;
      }

  step_of : (a : CellAt) (xs : List PlacedCell) (c : Chain a xs) → (k : ℕ) (at : CellAt) → slice_get (places c.rest) k ≡ Some at → Step c.first.at (c.first ∷ c.rest) k at
  step_of a xs c k at is = step_at c.first.at c.begun.cell (head_of pages layout laid none small quotas c.first.at c.begun) c.first c.rest c.links.follow c.on_way k at is

  -- a chain does not come to the first cell of one
  none_to_first : (a : CellAt) (xs : List PlacedCell) (c : Chain a xs) → (start : CellAt) (cs : List PlacedCell) (k : ℕ) → ¬ Step start cs k c.first.at
  none_to_first a xs c start cs k step = ⊎_elim no_file no_quotas c.begun.kind
    where
      same : step.back.cell ≡ c.begun.cell
      same = one_stands pages c.first.at step.back.cell c.begun.cell (subst (λ at. IsOnTable pages layout at step.back.cell) step.is step.back_on).stands c.begun.on.stands

      may : may_follow step.front.cell.head.kind c.begun.cell.head.kind ≡ true
      may = subst (λ (x : Cell). may_follow step.front.cell.head.kind x.head.kind ≡ true) same step.may

      no_file : ¬ c.begun.cell.head.kind ≡ kinds.Primary
      no_file primary = not_primary step.front.cell.head.kind (subst (λ k. may_follow step.front.cell.head.kind k ≡ true) primary may)

      no_quotas : ¬ ((c.begun.cell.head.kind ≡ kinds.Quota) × ((number : ℕ) × (quota_in layout number ≡ Some c.first.at)))
      no_quotas (kind, (number, named)) = quotas number c.first.at named (λ f. f.first step.front.at (
        link_to step.front.cell,
        link_there pages layout laid none step.front.at step.front.cell step.front_on,
        from_quota step.front.cell.head.kind (subst (λ k. may_follow step.front.cell.head.kind k ≡ true) kind may),
        step.leads ∙ ap Some step.is,
      ))

  -- two steps to one cell, of chains that begin apart
  two_steps : (a b : CellAt) (xs ys : List PlacedCell) (j k : ℕ) (at : CellAt) (x : Step a xs j at) (y : Step b ys k at) → ¬ a ≡ b → is_before y.front.at x.front.at ≡ true → ⊥
  two_steps a b xs ys j k at x y other earlier =
      x.front_in (λ fx. y.front_in (λ fy.
      no_cell pages layout laid none x.front.at (inr (inr (inr (inl (record {
        start = a;
        link = link_to x.front.cell;
        is = fx;
        onto = x.back.at;
        leads = x.leads;
        wrong = inr (inr (
          y.front.at,
          record {
            chain = b;
            another = λ same. other (sym same);
            link = link_to y.front.cell;
            is = fy;
            leads = y.leads ∙ ap Some (y.is ∙ sym x.is);
            next = link_to x.back.cell;
            there = link_there pages layout laid none x.back.at x.back.cell x.back_on;
            may = subst (λ (c : Cell). may_follow y.front.cell.head.kind c.head.kind ≡ true) same y.may;
          },
          earlier,
        ));
      })))))))
    where
      same : y.back.cell ≡ x.back.cell
      same = one_stands pages x.back.at y.back.cell x.back.cell (subst (λ c. IsOnTable pages layout c y.back.cell) (y.is ∙ sym x.is) y.back_on).stands x.back_on.stands

  module _ (a b : CellAt) (xs ys : List PlacedCell) (x : Chain a xs) (y : Chain b ys) (differ : ¬ a ≡ b) where
    starts_differ : ¬ x.first.at ≡ y.first.at
    starts_differ same = differ (sym x.at_is ∙ same ∙ y.at_is)

    apart_at : (j : ℕ) (at : CellAt) → slice_get (places (x.first ∷ x.rest)) j ≡ Some at → (k : ℕ) → slice_get (places (y.first ∷ y.rest)) k ≡ Some at → ⊥
    apart_at zero at in_x zero in_y = starts_differ (some_same x.first.at at in_x ∙ sym (some_same y.first.at at in_y))
    apart_at zero at in_x (suc k) in_y =
        none_to_first a xs x y.first.at (y.first ∷ y.rest) k (subst (Step y.first.at (y.first ∷ y.rest) k) (sym (some_same x.first.at at in_x)) (step_of b ys y k at in_y))
    apart_at (suc j) at in_x zero in_y =
        none_to_first b ys y x.first.at (x.first ∷ x.rest) j (subst (Step x.first.at (x.first ∷ x.rest) j) (sym (some_same y.first.at at in_y)) (step_of a xs x j at in_x))
    apart_at (suc j) at in_x (suc k) in_y =
        let step = step_of a xs x j at in_x in
        let other = step_of b ys y k at in_y in
        ⊎_elim (λ same. apart_at j step.front.at step.before k (other.before ∙ ap Some (sym same)))
        (λ apart. ⊎_elim (λ less. two_steps y.first.at x.first.at (y.first ∷ y.rest) (x.first ∷ x.rest) k j at other step (λ same. starts_differ (sym same)) less)
        (λ more. two_steps x.first.at y.first.at (x.first ∷ x.rest) (y.first ∷ y.rest) j k at step other starts_differ more) (one_before step.front.at other.front.at apart)) (same_cell step.front.at other.front.at)

    pub chains_apart : AreApart xs ys
    chains_apart = subst (λ cs. AreApart cs ys) (sym x.all) (subst (AreApart (x.first ∷ x.rest)) (sym y.all) (λ at in_x in_y.
        let one = index_of (places (x.first ∷ x.rest)) at in_x in
        let two = index_of (places (y.first ∷ y.rest)) at in_y in
        apart_at one.0 at one.1 two.0 two.1))
