-- Pages of tables, tag directories and indexes that are found are those of the rules.
use Rattle.std.proofs.Common.{◌≡◌, ◌∙◌, ◌⊎◌, ◌↔◌, inl, inr, ℕ, ◌≤◌, ◌==◌, Bool, true, false, cond, List, [], ◌∷◌, length, Option, Some, None, Contains, refl, sym, ap, subst, ⊎_elim}
use Rattle.std.proofs.lemmas.Option.{get_or_from_slice_get, slice_get_read, slice_get_within}
use Rattle.std.specs.List.{AllByRecursion}
use Rattle.std.specs.Option.{option_and_then}
use Rattle.tag_faults.specs.domain_base.declared.place.CellAt.{CellAt}
use Rattle.tag_faults.specs.domain_base.declared.place.Home.{Home}
use Rattle.tag_faults.specs.page_store.Pages.{Pages}
use Rattle.tag_faults.specs.cell_records.Records.{Allowed, kind_of}
use Rattle.tag_faults.specs.cell_records.declared.record.Record.{Record}
use Rattle.tag_faults.specs.cell_records.declared.record.Record.TheVariants as written
use Rattle.tag_faults.specs.metadata_cells.Cell.{Cell, record_of}
use Rattle.tag_faults.specs.metadata_cells.Chain.{StandsAt}
use Rattle.tag_faults.proofs.OfMetadataCells.Unique.{one_stands}
use Rattle.tag_faults.specs.fileset_files.Shown.{index_in}
use Rattle.tag_faults.specs.domain_layout.CellRules.{IsPlace}
use Rattle.tag_faults.specs.domain_layout.DirectoryRules.{HasIndexAt}
use Rattle.tag_faults.specs.domain_layout.Reached.{Frame, IsRead, IsUnread, Reaches, Way, index_way}
use Rattle.tag_faults.proofs.OfDomainLayout.Reached.{begins_by, may_be_by, same_number}
use Rattle.tag_faults.specs.page_ways.Walk.{AreRead}
use Rattle.tag_faults.specs.cell_faults.Tables.{AreTables, IsCellsHome, IsThere}
use Rattle.tag_faults.specs.cell_faults.declared.tables.CellsPage.{CellsPage}
use Rattle.page_faults.specs.Owned.{IsIndexOf, IsListed, IsReached}

some_same : {X : Type 0} (a b : X) → Some a ≡ Some b → a ≡ b
some_same a b e = cc

none_some : {X : Type 0} (x : X) → None ≡ Some x → ⊥
none_some x e = cc

-- ---- pages that are come to

same_home : (a b : Home) → (a ≡ b) ⊎ ¬ a ≡ b
same_home a b =
    ⊎_elim (λ vol. ⊎_elim (λ page. inl (λ i. record { vol = vol i; page = page i }))
    (λ other. inr (λ same. other (ap (λ (h : Home). h.page) same))) (same_number a.page b.page))
    (λ other. inr (λ same. other (ap (λ (h : Home). h.vol) same))) (same_number a.vol b.vol)

is_this : (o : Option Home) (home : Home) → (o ≡ Some home) ⊎ ¬ o ≡ Some home
is_this None home = inr (λ is. none_some home is)
is_this (Some other) home = ⊎_elim (λ same. inl (ap (λ (h : Home). Some h) same)) (λ apart. inr (λ is. apart (some_same other home is))) (same_home other home)

module _ (pages : Pages) (frame : Frame) (way : Way) where
  read_here : (passed : List Home) (home : Home) → Reaches pages frame way passed home → ¬ IsUnread pages frame way home → (page : List ℕ) × IsRead pages frame way (length passed) home page
  read_here passed home reached none =
      let begins = begins_by pages way home (λ wrong. none (record { passed = passed; reached = reached; wrong = inr (inr wrong) })) in (
        begins.page,
        record {
          passed = passed;
          reached = reached;
          may = may_be_by frame home (λ wrong. none (record { passed = passed; reached = reached; wrong = inl wrong }));
          fresh = λ among. none (record { passed = passed; reached = reached; wrong = inr (inl among) });
          there = begins.there;
          begins = begins.so;
          at = refl;
        },
      )

  pub reached_all : (homes : List Home) (unread : Option Home) → AreRead pages frame way homes unread → (home : Home) → (Contains homes home ⊎ (unread ≡ Some home)) ↔ IsReached pages frame way home
  reached_all homes unread read home = (
    λ which. ⊎_elim (λ (k, within, at). let is = ((read.each k home).0 (slice_get_read homes (length homes) k home refl within (sym at))).1 in (is.passed, is.reached))
        (λ last. let is = (read.wrong home).0 last in (is.passed, is.reached)) which,
    λ (passed, reached). ⊎_elim (λ last. inr last)
        (λ apart.
        let is = read_here passed home reached (λ wrong. apart ((read.wrong home).1 wrong)) in
        let at = (read.each (length passed) home).1 is in
        inl (length passed, slice_get_within homes (length passed) home at, get_or_from_slice_get homes (length passed) home home at)) (is_this unread home),
  )

-- ---- the record of an index

allowed_of : (kind : ℕ) (records : List Record) (value : Record) → AllByRecursion Allowed records → record_of kind records ≡ Some value → Allowed value
allowed_of kind [] value all there = absurd (none_some value there)
allowed_of kind (r ∷ rs) value all there = by_kind (kind_of r == kind) there (allowed_of kind rs value all.1)
  where
    by_kind : (b : Bool) → cond b (Some r) (record_of kind rs) ≡ Some value → (record_of kind rs ≡ Some value → Allowed value) → Allowed value
    by_kind true here later = subst Allowed (some_same r value here) all.0
    by_kind false there later = later there

index_volume : (vol page entries : ℕ) → Allowed (written.DirIndex vol page entries) → (1 ≤ vol) × (vol ≤ 8)
unfolding Allowed
index_volume vol page entries is = is.0

module _ (pages : Pages) (at : CellAt) (cell : Cell) (stands : StandsAt pages at cell) where
  pub on_volume : (vol page entries : ℕ) → record_of 9 cell.records ≡ Some (written.DirIndex vol page entries) → (1 ≤ vol) × (vol ≤ 8)
  on_volume vol page entries there = index_volume vol page entries (allowed_of 9 cell.records (written.DirIndex vol page entries) stands.is.well_formed.allowed there)

index_some : (o : Option Record) (first : Home) → option_and_then index_in o ≡ Some first → (value : Record) × (o ≡ Some value) × (index_in value ≡ Some first)
index_some None first is = absurd (none_some first is)
index_some (Some value) first is = (value, refl, is)

-- the index that the cell at a place names
module _ (pages : Pages) (frame : Frame) (at : CellAt) where
  pub named_by : IsPlace pages frame at → (cell : Cell) → StandsAt pages at cell → (first : Home) → (option_and_then index_in (record_of 9 cell.records) ≡ Some first) ↔ HasIndexAt pages frame at first
  named_by place cell stands first = (
    λ is. let found = index_some (record_of 9 cell.records) first is in
        record { cell = cell; is = record { place = place; stands = stands }; value = found.0; there = found.1; begins = found.2 },
    λ has.
        let same = one_stands pages at has.cell cell has.is.stands stands in
        ap (λ (c : Cell). option_and_then index_in (record_of 9 c.records)) (sym same) ∙ ap (option_and_then index_in) has.there ∙ has.begins,
  )

  pub none_named : ((cell : Cell) → ¬ StandsAt pages at cell) → (first : Home) → ¬ HasIndexAt pages frame at first
  none_named none first has = none has.cell has.is.stands

  -- its pages are those that are come to from the first one
  pub pages_of : (found : Option Home) → ((first : Home) → (found ≡ Some first) ↔ HasIndexAt pages frame at first) → (first : Home) → found ≡ Some first → (home : Home)
      → IsReached pages frame (index_way first) home ↔ IsIndexOf pages frame at home
  pages_of found named first is home = (
    λ reached. (first, (named first).0 is, reached),
    λ (other, has, reached). subst (λ f. IsReached pages frame (index_way f) home) (some_same other first (sym ((named other).1 has) ∙ is)) reached,
  )

  pub no_pages : (found : Option Home) → found ≡ None → ((first : Home) → (found ≡ Some first) ↔ HasIndexAt pages frame at first) → (home : Home) → ¬ IsIndexOf pages frame at home
  no_pages found none named home (first, has, reached) = none_some first (sym none ∙ (named first).1 has)

-- ---- pages of cells

pub cells_listed : (pages : Pages) (frame : Frame) (read : List CellsPage) (unread : List Home) → AreTables pages frame read unread → (home : Home) → IsListed read home ↔ IsCellsHome pages frame home
cells_listed pages frame read unread are home = (
  λ (page, among, same). (page.place, subst (λ (h : Home). IsThere pages frame (record { home = h; place = page.place })) same ((are.each page).0 among)),
  λ (place, is). let page : CellsPage = record { home = home; place = place } in (page, (are.each page).1 is, refl),
)
