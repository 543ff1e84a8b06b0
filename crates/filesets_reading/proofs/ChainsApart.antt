-- Where no rule of tables is broken, the chains of two files share no cell.
use Rattle.std.proofs.Common.{◌≡◌, ◌∙◌, ◌⊎◌, inl, inr, ℕ, zero, suc, ◌<◌, true, false, nat_eq, nat_lt, ◌&&◌, ◌||◌, List, [], ◌∷◌, ◌++◌, Some, None, Contains, slice_get, refl, sym, ap, subst, arith, ⊎_elim}
use Rattle.std.proofs.lemmas.Bool.{cases_order, eq-eqb, lt-ltb, or_left, or_right}
use Rattle.domain_layout.specs.domain_base.declared.place.CellAt.{CellAt}
use Rattle.domain_layout.specs.domain_base.declared.place.Tag.{Tag}
use Rattle.domain_layout.specs.page_store.Bitfiles.{same_tag}
use Rattle.domain_layout.specs.page_store.Pages.{Pages}
use Rattle.domain_layout.specs.cell_records.Fields.{number_at}
use Rattle.domain_layout.specs.metadata_cells.Cell.{Cell}
use Rattle.domain_layout.specs.metadata_cells.Chain.{Follow, PlacedCell, StandsAt, may_follow, places}
use Rattle.domain_layout.specs.metadata_cells.declared.head.CellKind.TheVariants as kinds
use Rattle.domain_layout.proofs.OfMetadataCells.Unique.{one_stands}
use Rattle.domain_layout.specs.file_chains.Files.{AreFile}
use Rattle.domain_layout.specs.fileset_files.Files.{AreApart}
use Rattle.domain_layout.specs.CellRules.{Follows, IsChainHead, IsInChain, IsLink, Link, begins, is_before}
use Rattle.domain_layout.specs.Faults.{HasNoTablesFault}
use Rattle.domain_layout.specs.Layout.{IsLayout, Layout}
use Rattle.domain_layout.specs.Owners.{frame_of}
use Rattle.domain_layout.specs.TagRules.{IsFirstOf}
use Rattle.domain_layout.proofs.Named.{follows_on, last_link, link_of, link_to, no_cell}
use Rattle.domain_layout.proofs.OnePage.{some_same}
use Rattle.domain_layout.proofs.OwnedOnce.{same_cell}
use Rattle.filesets_reading.proofs.ChainsThere.{later_kind, of_file}

-- ---- cells in order

same_number_test : (m n : ℕ) → m ≡ n → nat_eq m n ≡ true
same_number_test m n same = eq-eqb m n same

before_by_vol : (a b : CellAt) → a.vol < b.vol → is_before a b ≡ true
before_by_vol a b less = or_left (nat_lt a.vol b.vol) _ (lt-ltb a.vol b.vol less)

before_by_page : (a b : CellAt) → a.vol ≡ b.vol → a.page < b.page → is_before a b ≡ true
before_by_page a b vol less =
    or_right (nat_lt a.vol b.vol) _ (λ i. eq-eqb a.vol b.vol vol i && (lt-ltb a.page b.page less i || (nat_eq a.page b.page && nat_lt a.cell b.cell)))

before_by_cell : (a b : CellAt) → a.vol ≡ b.vol → a.page ≡ b.page → a.cell < b.cell → is_before a b ≡ true
before_by_cell a b vol page less =
    let inner : (nat_eq a.page b.page && nat_lt a.cell b.cell) ≡ true = (λ i. eq-eqb a.page b.page page i && lt-ltb a.cell b.cell less i) in
    let outer : (nat_lt a.page b.page || (nat_eq a.page b.page && nat_lt a.cell b.cell)) ≡ true = or_right (nat_lt a.page b.page) _ inner in
    or_right (nat_lt a.vol b.vol) _ (λ i. eq-eqb a.vol b.vol vol i && outer i)

-- of two cells one is before the other
pub one_before : (a b : CellAt) → ¬ a ≡ b → (is_before a b ≡ true) ⊎ (is_before b a ≡ true)
one_before a b other =
    ⊎_elim (λ vol. ⊎_elim (λ page. ⊎_elim (λ cell. absurd (other (λ i. record { vol = vol i; page = page i; cell = cell i })))
    (λ apart. ⊎_elim (λ less. inl (before_by_cell a b vol page less)) (λ more. inr (before_by_cell b a (sym vol) (sym page) more)) apart) (cases_order a.cell b.cell))
    (λ apart. ⊎_elim (λ less. inl (before_by_page a b vol less)) (λ more. inr (before_by_page b a (sym vol) more)) apart) (cases_order a.page b.page))
    (λ apart. ⊎_elim (λ less. inl (before_by_vol a b less)) (λ more. inr (before_by_vol b a more)) apart) (cases_order a.vol b.vol)

-- ---- a chain by its places

pub index_of : (xs : List CellAt) (at : CellAt) → Contains xs at → (k : ℕ) × (slice_get xs k ≡ Some at)
index_of [] at (k, within, is) = absurd (omega (arith, within))
index_of (x ∷ xs) at (zero, within, is) = (zero, ap Some is)
index_of (x ∷ xs) at (suc k, within, is) = let more = index_of xs at (k, omega (arith, within), is) in (suc more.0, more.1)

no_cell_there : (at : CellAt) → None ≡ Some at → ⊥
no_cell_there at is = cc

module _ (pages : Pages) (layout : Layout) (laid : IsLayout pages layout) (none : HasNoTablesFault pages (frame_of layout)) where
  -- two cells of the chain that begins at a cell, one after the other
  record Step (start : CellAt) (cs : List PlacedCell) (k : ℕ) (at : CellAt) : Type 0 where
    front : PlacedCell
    back : PlacedCell
    front_in : ¬ ¬ IsInChain pages (frame_of layout) start front.at (link_to front.cell)
    back_link : ¬ ¬ IsLink pages (frame_of layout) back.at (link_to back.cell)
    stands : StandsAt pages back.at back.cell
    leads : front.cell.head.next ≡ Some back.at
    may : may_follow front.cell.head.kind back.cell.head.kind ≡ true
    kind : back.cell.head.kind ≡ kinds.Chain
    is : back.at ≡ at
    before : slice_get (places cs) k ≡ Some front.at

  module _ (start : CellAt) (first : Link) (head : ¬ ¬ IsChainHead pages (frame_of layout) start first) where
    step_at : (passed : List CellAt) (c : PlacedCell) → ¬ ¬ Follows pages (frame_of layout) start passed c.at (link_to c.cell) → of_file c.cell.head.kind ≡ true
        → (cs : List PlacedCell) → Follow pages c.cell.head cs → (k : ℕ) (at : CellAt) → slice_get (places cs) k ≡ Some at → Step start (c ∷ cs) k at
    step_at passed c on file [] follow k at is = absurd (no_cell_there at is)
    step_at passed c on file (d ∷ ds) (leads, may, stands, more) zero at is = record {
      front = c;
      back = d;
      front_in = λ away. head (λ h. on (λ follows. away (record { first = first; begins = h; passed = passed; follows = follows })));
      back_link = λ away. next (λ follows. away (last_link pages layout start (passed ++ c.at ∷ []) d.at (link_to d.cell) follows));
      stands = stands;
      leads = leads;
      may = may;
      kind = later_kind c.cell.head.kind d.cell.head.kind file may;
      is = some_same d.at at is;
      before = refl;
    }
      where
        next : ¬ ¬ Follows pages (frame_of layout) start (passed ++ c.at ∷ []) d.at (link_to d.cell)
        next alone = head (λ h. on (λ follows. follows_on pages layout laid none start first h passed c.at d.at c.cell d.cell follows leads stands alone))
    step_at passed c on file (d ∷ ds) (leads, may, stands, more) (suc k) at is =
        let next : ¬ ¬ Follows pages (frame_of layout) start (passed ++ c.at ∷ []) d.at (link_to d.cell) =
        (λ alone. head (λ h. on (λ follows. follows_on pages layout laid none start first h passed c.at d.at c.cell d.cell follows leads stands alone))) in
        let chain = later_kind c.cell.head.kind d.cell.head.kind file may in
        let step = step_at (passed ++ c.at ∷ []) d next (ap of_file chain) ds more k at is in
        record {
          front = step.front;
          back = step.back;
          front_in = step.front_in;
          back_link = step.back_link;
          stands = step.stands;
          leads = step.leads;
          may = step.may;
          kind = step.kind;
          is = step.is;
          before = step.before;
        }

  -- the chain of a file, by its first cell
  record Chain (number : ℕ) (tag : Tag) (first : PlacedCell) (rest : List PlacedCell) : Type 0 where
    of : ¬ ¬ IsFirstOf pages (frame_of layout) number tag first.at
    file : AreFile pages first rest

  step_of : (number : ℕ) (tag : Tag) (first : PlacedCell) (rest : List PlacedCell) → Chain number tag first rest → (k : ℕ) (at : CellAt) → slice_get (places rest) k ≡ Some at → Step first.at (first ∷ rest) k at
  step_of number tag first rest chain = step_at first.at (link_to first.cell) head [] first on (ap of_file chain.file.primary) rest chain.file.links.follow
    where
      link : ¬ ¬ IsLink pages (frame_of layout) first.at (link_to first.cell)
      link away = chain.of (λ f. away (link_of pages layout laid none first.at first.cell f.place chain.file.links.stands))

      head : ¬ ¬ IsChainHead pages (frame_of layout) first.at (link_to first.cell)
      head away = link (λ l. away (l, inl chain.file.primary))

      on : ¬ ¬ Follows pages (frame_of layout) first.at [] first.at (link_to first.cell)
      on away = link (λ l. away (begins (link_to first.cell) l))

  -- two steps to one cell, of chains that begin apart
  two_steps : (a b : CellAt) (xs ys : List PlacedCell) (j k : ℕ) (at : CellAt) (x : Step a xs j at) (y : Step b ys k at) → ¬ a ≡ b → is_before y.front.at x.front.at ≡ true → ⊥
  two_steps a b xs ys j k at x y other earlier =
      x.front_in (λ fx. y.front_in (λ fy. x.back_link (λ link.
      no_cell pages layout laid none x.front.at (inr (inr (inr (inl (record {
        start = a;
        link = link_to x.front.cell;
        is = fx;
        onto = x.back.at;
        leads = x.leads;
        wrong = inr (inr (
          y.front.at,
          record {
            chain = b;
            another = λ same. other (sym same);
            link = link_to y.front.cell;
            is = fy;
            leads = y.leads ∙ ap Some (y.is ∙ sym x.is);
            next = link_to x.back.cell;
            there = link;
            may = subst (λ kind. may_follow y.front.cell.head.kind kind ≡ true) (kind_same) y.may;
          },
          earlier,
        ));
      }))))))))
    where
      kind_same : y.back.cell.head.kind ≡ x.back.cell.head.kind
      kind_same = y.kind ∙ sym x.kind

  module _ (number : ℕ) (s t : Tag) (x0 : PlacedCell) (xs : List PlacedCell) (y0 : PlacedCell) (ys : List PlacedCell) (x : Chain number s x0 xs) (y : Chain number t y0 ys) (differ : same_tag s t ≡ false) where
    -- the first cells stand apart
    first_apart : ¬ x0.at ≡ y0.at
    first_apart same =
        x.of (λ fx. y.of (λ fy_there.
        let fy : IsFirstOf pages (frame_of layout) number t x0.at = subst (IsFirstOf pages (frame_of layout) number t) (sym same) fy_there in
        let bytes : fx.bytes ≡ fy.bytes = some_same fx.bytes fy.bytes (sym fx.there ∙ fy.there) in
        let slot : s.slot ≡ t.slot = sym fx.slot ∙ ap (number_at 4 8) bytes ∙ fy.slot in
        let seq : s.seq ≡ t.seq = sym fx.seq ∙ ap (number_at 2 12) bytes ∙ fy.seq in
        tags_differ slot seq))
      where
        tags_differ : s.slot ≡ t.slot → s.seq ≡ t.seq → ⊥
        tags_differ slot seq = let e : true ≡ false = sym (λ i. eq-eqb s.slot t.slot slot i && eq-eqb s.seq t.seq seq i) ∙ differ in absurd (cc)

    -- a first cell is no chain cell
    no_chain_cell : (first : PlacedCell) → StandsAt pages first.at first.cell → first.cell.head.kind ≡ kinds.Primary → (a : CellAt) (cs : List PlacedCell) (k : ℕ) → Step a cs k first.at → ⊥
    no_chain_cell first stands primary a cs k step =
        let same : first.cell ≡ step.back.cell = one_stands pages first.at first.cell step.back.cell stands (subst (λ at. StandsAt pages at step.back.cell) step.is step.stands) in
        let kind : kinds.Primary ≡ kinds.Chain = sym primary ∙ ap (λ (c : Cell). c.head.kind) same ∙ step.kind in
        absurd (cc)

    apart_at : (j : ℕ) (at : CellAt) → slice_get (places (x0 ∷ xs)) j ≡ Some at → (k : ℕ) → slice_get (places (y0 ∷ ys)) k ≡ Some at → ⊥
    apart_at zero at in_x zero in_y = first_apart (some_same x0.at at in_x ∙ sym (some_same y0.at at in_y))
    apart_at zero at in_x (suc k) in_y =
        no_chain_cell x0 x.file.links.stands x.file.primary y0.at (y0 ∷ ys) k (subst (Step y0.at (y0 ∷ ys) k) (sym (some_same x0.at at in_x)) (step_of number t y0 ys y k at in_y))
    apart_at (suc j) at in_x zero in_y =
        no_chain_cell y0 y.file.links.stands y.file.primary x0.at (x0 ∷ xs) j (subst (Step x0.at (x0 ∷ xs) j) (sym (some_same y0.at at in_y)) (step_of number s x0 xs x j at in_x))
    apart_at (suc j) at in_x (suc k) in_y =
        let step = step_of number s x0 xs x j at in_x in
        let other = step_of number t y0 ys y k at in_y in
        ⊎_elim (λ same. apart_at j step.front.at step.before k (other.before ∙ ap Some (sym same)))
        (λ differ. ⊎_elim (λ less. two_steps y0.at x0.at (y0 ∷ ys) (x0 ∷ xs) k j at other step (λ same. first_apart (sym same)) less)
        (λ more. two_steps x0.at y0.at (x0 ∷ xs) (y0 ∷ ys) j k at step other first_apart more) (one_before step.front.at other.front.at differ)) (same_cell step.front.at other.front.at)

    chains_apart : AreApart (x0 ∷ xs) (y0 ∷ ys)
    chains_apart at in_x in_y =
        let one = index_of (places (x0 ∷ xs)) at in_x in
        let two = index_of (places (y0 ∷ ys)) at in_y in
        apart_at one.0 at one.1 two.0 two.1

  pub files_apart : (number : ℕ) (s t : Tag) (x0 : PlacedCell) (xs : List PlacedCell) (y0 : PlacedCell) (ys : List PlacedCell) → ¬ ¬ IsFirstOf pages (frame_of layout) number s x0.at → AreFile pages x0 xs
      → ¬ ¬ IsFirstOf pages (frame_of layout) number t y0.at → AreFile pages y0 ys → same_tag s t ≡ false → AreApart (x0 ∷ xs) (y0 ∷ ys)
  files_apart number s t x0 xs y0 ys first file other also differ = chains_apart number s t x0 xs y0 ys (record { of = first; file = file }) (record { of = other; file = also }) differ
