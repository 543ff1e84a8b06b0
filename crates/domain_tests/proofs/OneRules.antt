-- The domain with one fileset breaks no rule of cells and tags.
use Rattle.std.proofs.Common.{◌≡◌, ◌∙◌, ◌⊎◌, inl, inr, ℕ, zero, suc, ◌<◌, true, false, nat_eq, List, [], length, Some, None, Contains, IsSomeAnd, slice_get, refl, sym, ap, subst, arith, ⊎_elim}
use Rattle.std.proofs.lemmas.Bool.{eq-eqb, eqb-true}
use Rattle.domain_making.specs.domain_base.declared.place.CellAt.{CellAt}
use Rattle.domain_making.specs.domain_base.declared.place.Home.{Home}
use Rattle.domain_making.specs.domain_base.declared.place.Tag.{Tag}
use Rattle.domain_making.specs.domain_base.declared.version.Version.TheVariants.{Three}
use Rattle.domain_making.specs.page_store.Pages.{Pages}
use Rattle.domain_making.specs.cell_records.Fields.{number_at}
use Rattle.domain_making.specs.cell_records.declared.record.Record.{Record}
use Rattle.domain_making.specs.cell_records.declared.record.Record.TheVariants as written
use Rattle.domain_making.specs.metadata_cells.declared.head.CellKind.{CellKind}
use Rattle.domain_making.specs.metadata_cells.declared.head.CellKind.TheVariants.{Chain, Primary, Quota, Volume}
use Rattle.domain_making.specs.metadata_cells.Cell.{Cell, IsCell, IsFreeCell, kind_number, record_of}
use Rattle.domain_making.specs.metadata_cells.Chain.{StandsAt}
use Rattle.domain_making.specs.metadata_cells.CellPage.{cell_at, cell_of, home_of}
use Rattle.domain_making.proofs.OfMetadataCells.CellKinds.{kind_there, zeros_kind}
use Rattle.domain_making.proofs.OfMetadataCells.Unique.{one_cell}
use Rattle.domain_making.proofs.OfMetadataCells.Walk.{one_kind}
use Rattle.domain_making.specs.tag_dirs.TagPage.{IsTagPage, entry_of, index_of, next_of, slot_of}
use Rattle.domain_making.specs.tag_dirs.declared.page.TagEntry.{TagEntry}
use Rattle.domain_making.specs.fileset_table.Table.{entry_of as fileset_of}
use Rattle.domain_making.specs.fileset_table.declared.slot.FilesetEntry.{FilesetEntry}
use Rattle.domain_making.specs.fileset_table.declared.slot.SlotItem.{SlotItem}
use Rattle.domain_making.specs.fileset_table.declared.slot.SlotItem.TheVariants.{Original}
use Rattle.domain_making.specs.name_space.Names.{root_tag}
use Rattle.domain_making.specs.domain_layout.CellRules.{Follows, HasWrongCell, IsCellFault, IsCellOf, IsCellsFault, IsFirstPlace, SaysVolume, IsLink, IsPlace, IsUsed, IsWrongVolumeCell, Link, begins, goes_on, has_kind, is_good_first, item_of, next_in, of_original, say_removed}
use Rattle.domain_making.specs.domain_layout.Layout.{first_tag_of}
use Rattle.domain_making.specs.domain_layout.Reached.{first_cells, on_volume, IsRead, IsUnread, MayBe, Reaches, tags_way}
use Rattle.domain_making.specs.domain_layout.Reached as reaching
use Rattle.domain_making.specs.domain_layout.TagRules.{HasEntry, HasTags, HasWrongNumber, IsFirstOf, IsLate, IsNamingFault, IsTagsFault, IsTagsPage, IsWrongSlot, original_slot}
use Rattle.domain_making.specs.domain_layout.NewDomain.{IsNewAnchor, on_first}
use Rattle.domain_making.proofs.OfDomainLayout.NewCells.{kind_some}
use Rattle.domain_making.proofs.OfDomainLayout.OnePage.{IsFirst, at_first, bytes_are, cell_said, first_read, in_none, no_cells_page, no_wrong_header, some_same, that_page}
use Rattle.domain_tests.specs.OneFileset.{cells_page, tags_page}
use Rattle.domain_tests.specs.Written.{frame_of}
use Rattle.domain_tests.proofs.EmptyCells.{volume_cell}
use Rattle.domain_tests.proofs.OneCells.{first_bytes, first_cell, first_index, good_page, no_next, other_cells, root_bytes, root_cell, root_leads, says_root, second_bytes, second_cell, volume_leads}
use Rattle.domain_tests.proofs.OneTags as tags
use Rattle.domain_tests.proofs.OneTags.{entry_a, good_tags, item_is, none_behind, one_table, root_at, root_entry}
use Rattle.domain_tests.proofs.WrittenLog.{only_member}

pub new_anchor : IsNewAnchor (frame_of Three)
new_anchor = record {
  member = record { first = omega arith; last = omega arith; there = omega arith; whole = omega arith };
  alone = λ vol member. only_member vol Three member.first member.last member.there;
  log_volume = refl;
  log = refl;
  table = refl;
  room = omega arith;
}

-- the two cells in use, by their numbers and kinds
abbrev IsOneOf : ℕ → CellKind → Type 0
IsOneOf number kind = ((number ≡ 0) × (kind ≡ Volume)) ⊎ ((number ≡ 1) × (kind ≡ Primary))

by_number : (number : ℕ) (kind : CellKind) → number < 28 → number_at 1 15 (cell_of cells_page number) ≡ kind_number kind → IsOneOf number kind
by_number zero kind within said = inl (refl, one_kind kind Volume (sym said ∙ first_cell.head.kind))
by_number (suc zero) kind within said = inr (refl, one_kind kind Primary (sym said ∙ second_cell.head.kind))
by_number (suc (suc n)) kind within said =
    absurd (kind_some kind (sym said ∙ kind_there cells_page (suc (suc n)) ∙ eqb-true _ 0 (zeros_kind cells_page (suc (suc n)) (other_cells n within))))

not_chain : (number : ℕ) (kind : CellKind) → IsOneOf number kind → ¬ kind ≡ Chain
not_chain number kind one chain =
    ⊎_elim (λ v. let e : Volume ≡ Chain = sym v.1 ∙ chain in absurd (cc)) (λ p. let e : Primary ≡ Chain = sym p.1 ∙ chain in absurd (cc)) one

not_quota : (number : ℕ) (kind : CellKind) → IsOneOf number kind → ¬ kind ≡ Quota
not_quota number kind one quota =
    ⊎_elim (λ v. let e : Volume ≡ Quota = sym v.1 ∙ quota in absurd (cc)) (λ p. let e : Primary ≡ Quota = sym p.1 ∙ quota in absurd (cc)) one

if_primary : (number : ℕ) (kind : CellKind) → IsOneOf number kind → kind ≡ Primary → number ≡ 1
if_primary number kind one primary =
    ⊎_elim (λ v. let e : Volume ≡ Primary = sym v.1 ∙ primary in absurd (cc)) (λ p. p.0) one

if_volume : (number : ℕ) (kind : CellKind) → IsOneOf number kind → kind ≡ Volume → number ≡ 0
if_volume number kind one volume =
    ⊎_elim (λ v. v.0) (λ p. let e : Primary ≡ Volume = sym p.1 ∙ volume in absurd (cc)) one

-- which cell of the two
abbrev pub IsThisCell : CellAt → Cell → Type 0
IsThisCell at cell = ((at.cell ≡ 0) × (cell ≡ volume_cell)) ⊎ ((at.cell ≡ 1) × (cell ≡ root_cell))

module _ (pages : Pages) (cells_there : pages (on_first 3) ≡ Some cells_page) where
  pub here : (at : CellAt) → IsPlace pages (frame_of Three) at → home_of at ≡ on_first 3
  here = at_first pages (frame_of Three) new_anchor cells_page cells_there good_page first_index no_next

  said_there : (at : CellAt) → IsPlace pages (frame_of Three) at → cell_at pages at ≡ Some (cell_of cells_page at.cell)
  said_there = cell_said pages (frame_of Three) new_anchor cells_page cells_there good_page first_index no_next

  bytes_there : (at : CellAt) (bytes : List ℕ) → IsPlace pages (frame_of Three) at → cell_at pages at ≡ Some bytes → bytes ≡ cell_of cells_page at.cell
  bytes_there = bytes_are pages (frame_of Three) new_anchor cells_page cells_there good_page first_index no_next

  place_of : (number : ℕ) → number < 28 → IsPlace pages (frame_of Three) (record { vol = 1; page = 3; cell = number })
  place_of number within = record {
    place = 0;
    page = cells_page;
    is = first_read pages (frame_of Three) new_anchor cells_page cells_there good_page first_index no_next;
    within = within;
  }

  kind_is : (at : CellAt) (bytes : List ℕ) (kind : CellKind) → IsPlace pages (frame_of Three) at → cell_at pages at ≡ Some bytes → number_at 1 15 bytes ≡ kind_number kind → IsOneOf at.cell kind
  kind_is at bytes kind place said kind_said =
      by_number at.cell kind place.within (sym (ap (number_at 1 15) (bytes_there at bytes place said)) ∙ kind_said)

  link_is : (at : CellAt) (link : Link) → IsLink pages (frame_of Three) at link → IsOneOf at.cell link.kind
  link_is at link is = kind_is at is.bytes link.kind is.place is.there is.kind

  leads_none : (at : CellAt) (link : Link) → IsLink pages (frame_of Three) at link → link.next ≡ None
  leads_none at link is =
      is.next ∙ ap next_in (bytes_there at is.bytes is.place is.there)
      ∙ ⊎_elim (λ v. ap (λ n. next_in (cell_of cells_page n)) v.0 ∙ ap next_in first_bytes ∙ volume_leads)
      (λ p. ap (λ n. next_in (cell_of cells_page n)) p.0 ∙ ap next_in second_bytes ∙ root_leads) (link_is at link is)

  pub used_is : (at : CellAt) (cell : Cell) → IsUsed pages (frame_of Three) at cell → IsThisCell at cell
  used_is at cell used =
      let stands = used.stands in
      let bytes = bytes_there at stands.bytes used.place stands.there in
      let says : IsCell (cell_of cells_page at.cell) cell = subst (λ b. IsCell b cell) bytes stands.is in
      ⊎_elim (λ v. inl (v.0, one_cell (cell_of cells_page 0) cell volume_cell (subst (λ n. IsCell (cell_of cells_page n) cell) v.0 says) first_cell))
      (λ p. inr (p.0, one_cell (cell_of cells_page 1) cell root_cell (subst (λ n. IsCell (cell_of cells_page n) cell) p.0 says) second_cell))
      (kind_is at stands.bytes cell.head.kind used.place stands.there stands.is.head.kind)

  used_kind : (at : CellAt) (cell : Cell) → IsUsed pages (frame_of Three) at cell → IsOneOf at.cell cell.head.kind
  used_kind at cell used = kind_is at used.stands.bytes cell.head.kind used.place used.stands.there used.stands.is.head.kind

  pub primary_is : (at : CellAt) (cell : Cell) → IsUsed pages (frame_of Three) at cell → cell.head.kind ≡ Primary → cell ≡ root_cell
  primary_is at cell used primary =
      ⊎_elim (λ v. let e : Volume ≡ Primary = sym (ap (λ (c : Cell). c.head.kind) v.1) ∙ primary in absurd (cc)) (λ p. p.1) (used_is at cell used)

  -- ---- rules of one cell

  no_wrong_cell : (home : Home) → ¬ HasWrongCell pages (frame_of Three) home
  no_wrong_cell home wrong = by_cell wrong.cell wrong.within used unlike
    where
      same : wrong.page ≡ cells_page
      same = (that_page pages (frame_of Three) new_anchor cells_page cells_there good_page first_index no_next wrong.place home wrong.page wrong.is).same

      used : ¬ IsFreeCell (cell_of cells_page wrong.cell)
      used free = wrong.used (subst (λ p. IsFreeCell (cell_of p wrong.cell)) (sym same) free)

      unlike : (c : Cell) → ¬ IsCellOf Three (cell_of cells_page wrong.cell) c
      unlike c of = wrong.wrong c (subst (λ p. IsCellOf Three (cell_of p wrong.cell) c) (sym same) of)

      by_cell : (n : ℕ) → n < 28 → ¬ IsFreeCell (cell_of cells_page n) → ((c : Cell) → ¬ IsCellOf Three (cell_of cells_page n) c) → ⊥
      by_cell zero within in_use none = none volume_cell (record { is = first_cell; known = (omega arith, tt) })
      by_cell (suc zero) within in_use none = none root_cell (record { is = second_cell; known = (omega arith, (omega arith, (omega arith, tt))) })
      by_cell (suc (suc n)) within in_use none = in_use (other_cells n within)

  no_wrong_volume : (at : CellAt) → ¬ IsWrongVolumeCell pages (frame_of Three) at
  no_wrong_volume at wrong = ⊎_elim (λ w. unsaid w.0 w.1 w.2) (λ w. elsewhere w.0 w.1 w.2 w.3) wrong
    where
      at_one : IsPlace pages (frame_of Three) at → at.vol ≡ 1
      at_one place = ap (λ (h : Home). h.vol) (here at place)

      unsaid : IsPlace pages (frame_of Three) at → IsFirstPlace (frame_of Three) at → ((cell : Cell) → StandsAt pages at cell → ¬ SaysVolume (frame_of Three) at.vol cell) → ⊥
      unsaid place first none =
          none volume_cell (record {
            bytes = cell_of cells_page at.cell;
            there = said_there at place;
            is = subst (λ c. IsCell (cell_of cells_page c) volume_cell) (sym first.1) first_cell;
          }) (subst (λ vol. SaysVolume (frame_of Three) vol volume_cell) (sym (at_one place)) (record { kind = refl; alone = refl; says = refl }))

      elsewhere : (link : Link) → IsLink pages (frame_of Three) at link → link.kind ≡ Volume → ¬ IsFirstPlace (frame_of Three) at → ⊥
      elsewhere link is volume other =
          other (ap (λ (h : Home). h.page) (here at is.place) ∙ ap (first_cells (frame_of Three)) (sym (at_one is.place)), if_volume at.cell link.kind (link_is at link is) volume)

  -- ---- chains

  record IsAlone (start : CellAt) (passed : List CellAt) (at : CellAt) (link : Link) : Type 0 where
    there : IsLink pages (frame_of Three) at link
    none : passed ≡ []

  alone : (start : CellAt) (passed : List CellAt) (at : CellAt) (link : Link) → Follows pages (frame_of Three) start passed at link → IsAlone start passed at link
  alone start passed at link follows = elim follows as (λ passed at link follows. IsAlone start passed at link) [
    | begins link is ↦ record { there = is; none = refl }
    | goes_on passed at onto link next (before → earlier) leads fresh is may ↦
        absurd (let e : None ≡ Some onto = sym (leads_none at link earlier.there) ∙ leads in absurd (cc))
  ]

  none_before : (start before : CellAt) (passed : List CellAt) (at : CellAt) (link : Link) → Follows pages (frame_of Three) start passed at link → ¬ Contains passed before
  none_before start before passed at link follows among =
      in_none before (subst (λ p. Contains p before) (alone start passed at link follows).none among)

  good_root : is_good_first one_table root_cell ≡ true
  good_root = refl

  no_holes : (at : CellAt) (cell : Cell) → IsUsed pages (frame_of Three) at cell → ¬ has_kind 5 cell.records ≡ true
  no_holes at cell used holes =
      ⊎_elim (λ v. let e : false ≡ true = sym (ap (λ (c : Cell). has_kind 5 c.records) v.1) ∙ holes in absurd (cc))
      (λ p. let e : false ≡ true = sym (ap (λ (c : Cell). has_kind 5 c.records) p.1) ∙ holes in absurd (cc)) (used_is at cell used)

  no_cell_fault : (at : CellAt) → ¬ IsCellFault pages (frame_of Three) one_table at
  no_cell_fault at fault =
      ⊎_elim (no_wrong_volume at)
      (λ a. ⊎_elim (λ w.
      let root = primary_is at w.cell w.used w.kind in
      let e : true ≡ false = sym good_root ∙ sym (ap (is_good_first one_table) root) ∙ w.wrong in
      absurd (cc))
      (λ b. ⊎_elim (λ w. ⊎_elim (λ chain. not_chain at.cell w.cell.head.kind (used_kind at w.cell w.used) chain.0) (λ quota. not_quota at.cell w.cell.head.kind (used_kind at w.cell w.used) quota.0) w.wrong)
      (λ c. ⊎_elim (λ w.
      let there = (alone w.start w.is.passed at w.link w.is.follows).there in
      let e : None ≡ Some w.onto = sym (leads_none at w.link there) ∙ w.leads in
      absurd (cc))
      (λ d. ⊎_elim (λ w. ⊎_elim (not_chain at.cell w.link.kind (link_is at w.link w.is)) (not_quota at.cell w.link.kind (link_is at w.link w.is)) w.kind)
      (λ e. ⊎_elim (λ w. none_before w.chain.start w.chain.before w.chain.passed at w.chain.link w.chain.follows w.chain.among)
      (λ f. ⊎_elim (λ w. none_before w.chain.start w.chain.before w.chain.passed at w.chain.link w.chain.follows w.chain.among)
      (λ w. no_holes at w.cell w.is w.holes) f) e) d) c) b) a)
      fault

  pub no_cells_fault : (home : Home) → ¬ IsCellsFault pages (frame_of Three) one_table home
  no_cells_fault home fault =
      ⊎_elim (no_cells_page pages (frame_of Three) new_anchor cells_page cells_there good_page first_index no_next home)
      (λ a. ⊎_elim (no_wrong_header pages (frame_of Three) new_anchor cells_page cells_there good_page first_index no_next home)
      (λ b. ⊎_elim (no_wrong_cell home) (λ w. no_cell_fault w.0 w.2) b) a)
      fault

  -- ---- tags

  root_place : IsPlace pages (frame_of Three) root_at
  root_place = place_of 1 (omega arith)

  pub root_said : cell_at pages root_at ≡ Some root_bytes
  root_said = said_there root_at root_place ∙ ap Some second_bytes

  module _ (tags_there : pages (on_first 133) ≡ Some tags_page) where
    record HasThose (number : ℕ) (first : Home) : Type 0 where
      zeroth : number ≡ 0
      at : first ≡ on_first 133

    has_those : (number : ℕ) (first : Home) → HasTags one_table number first → HasThose number first
    has_those number first has =
        ⊎_elim (λ a. record {
          zeroth = a.0;
          at = some_same first (on_first 133) (sym has.has ∙ ap first_tag_of a.1);
        })
        (λ free. absurd (let e : None ≡ Some first = sym (ap first_tag_of free) ∙ has.has in absurd (cc)))
        (item_is number has.item has.there)

    pub may_be_tags : MayBe (frame_of Three) (on_first 133)
    may_be_tags = ((new_anchor.member, omega arith), (λ wrong. ⊎_elim (λ low. omega (arith, low)) (λ log. omega (arith, log.2)) wrong))

    no_more : (home onto : Home) (page : List ℕ) → home ≡ on_first 133 → pages home ≡ Some page → ¬ on_volume (next_of page) ≡ Some onto
    no_more home onto page at said leads =
        let same : page ≡ tags_page = some_same page tags_page (sym said ∙ ap pages at ∙ tags_there) in
        let e : None ≡ Some onto = sym (ap on_volume (ap next_of same ∙ tags.no_next)) ∙ leads in
        absurd (cc)

    reached : (passed : List Home) (home : Home) → Reaches pages (frame_of Three) (tags_way (on_first 133)) passed home → IsFirst (on_first 133) passed home
    reached passed home way = elim way as (λ passed home way. IsFirst (on_first 133) passed home) [
      | reaching.begins ↦ record { none = refl; at = refl }
      | reaching.goes_on passed home onto page (before → earlier) may fresh said begun leads ↦ absurd (no_more home onto page earlier.at said leads)
    ]

    no_unread : (home : Home) → ¬ IsUnread pages (frame_of Three) (tags_way (on_first 133)) home
    no_unread home unread = by_wrong (reached unread.passed home unread.reached)
      where
        begun : IsSomeAnd (pages (on_first 133)) (λ page. nat_eq (number_at 4 0 page) 0x50474154 ≡ true)
        begun = subst (λ o. IsSomeAnd o (λ page. nat_eq (number_at 4 0 page) 0x50474154 ≡ true)) (sym tags_there) (eq-eqb _ _ good_tags.magic)

        by_wrong : IsFirst (on_first 133) unread.passed home → ⊥
        by_wrong first =
            ⊎_elim (λ wrong. wrong (subst (MayBe (frame_of Three)) (sym first.at) may_be_tags))
            (λ more. ⊎_elim (λ twice. in_none home (subst (λ passed. Contains passed home) first.none twice))
            (λ wrong. wrong (subst (λ h. IsSomeAnd (pages h) (λ page. nat_eq (number_at 4 0 page) 0x50474154 ≡ true)) (sym first.at) begun)) more)
            unread.wrong

    record IsThatPage (number place : ℕ) (home : Home) (page : List ℕ) : Type 0 where
      zeroth : number ≡ 0
      none : place ≡ 0
      at : home ≡ on_first 133
      same : page ≡ tags_page

    tags_page_is : (number place : ℕ) (home : Home) (page : List ℕ) → IsTagsPage pages (frame_of Three) one_table number place home page → IsThatPage number place home page
    tags_page_is number place home page is =
        let those = has_those number is.first is.has in
        let read : IsRead pages (frame_of Three) (tags_way (on_first 133)) place home page = subst (λ f. IsRead pages (frame_of Three) (tags_way f) place home page) those.at is.read in
        let first = reached read.passed home read.reached in
        record {
          zeroth = those.zeroth;
          none = sym read.at ∙ ap length first.none;
          at = first.at;
          same = some_same page tags_page (sym read.there ∙ ap pages first.at ∙ tags_there);
        }

    -- the entries in use: that of the root alone
    record IsRootEntry (number : ℕ) (tag : Tag) (at : CellAt) : Type 0 where
      zeroth : number ≡ 0
      slot : tag.slot ≡ 1
      seq : tag.seq ≡ 1
      cell : at ≡ root_at

    used_entry : (e : ℕ) (tag : Tag) (at : CellAt) → slot_of tags_page e ≡ tag.slot → entry_of tags_page e ≡ record { seq = tag.seq; at = Some at } → (e ≡ 1) × (tag.seq ≡ 1) × (at ≡ root_at)
    used_entry zero tag at slot used =
        absurd (let e : None ≡ Some at = sym (ap (λ (x : TagEntry). x.at) tags.no_entry) ∙ ap (λ (x : TagEntry). x.at) used in absurd (cc))
    used_entry (suc zero) tag at slot used =
        let same = sym used ∙ root_entry in
        (refl, ap (λ (x : TagEntry). x.seq) same, some_same at root_at (ap (λ (x : TagEntry). x.at) same))
    used_entry (suc (suc n)) tag at slot used =
        absurd (let e : None ≡ Some at = sym (none_behind n) ∙ ap (λ (x : TagEntry). x.at) used in absurd (cc))

    entry_is : (number : ℕ) (tag : Tag) (at : CellAt) (home : Home) → HasEntry pages (frame_of Three) one_table number tag at home → IsRootEntry number tag at
    entry_is number tag at home has =
        let that = tags_page_is number has.place home has.page has.is in
        let slot : slot_of tags_page has.entry ≡ tag.slot = sym (ap (λ p. slot_of p has.entry) that.same) ∙ has.slot in
        let used = used_entry has.entry tag at slot (sym (ap (λ p. entry_of p has.entry) that.same) ∙ has.used) in
        record {
          zeroth = that.zeroth;
          slot = let e = used.0 in omega (arith, slot, e, tags.first_index);
          seq = used.1;
          cell = used.2;
        }

    pub root_has : HasEntry pages (frame_of Three) one_table 0 root_tag root_at (on_first 133)
    root_has = record {
      place = 0;
      page = tags_page;
      is = record {
        first = on_first 133;
        has = record { item = Original entry_a; there = refl; has = refl };
        read = record {
          passed = [];
          reached = reaching.begins;
          may = may_be_tags;
          fresh = in_none (on_first 133);
          there = tags_there;
          begins = eq-eqb _ _ good_tags.magic;
          at = refl;
        };
      };
      entry = 1;
      within = omega arith;
      slot = omega (arith, tags.first_index);
      used = root_entry;
      names = (omega arith, λ none. omega (arith, none));
    }

    root_first : IsFirstOf pages (frame_of Three) 0 root_tag root_at
    root_first = record {
      place = root_place;
      bytes = root_bytes;
      there = root_said;
      kind = says_root.head.kind;
      fileset = says_root.head.fileset;
      slot = sym says_root.head.slot;
      seq = sym says_root.head.seq;
    }

    -- ---- the rules of tags

    at_root : (at : CellAt) → IsPlace pages (frame_of Three) at → at.cell ≡ 1 → root_at ≡ at
    at_root at place second =
        let home = here at place in
        (λ i. record { vol = ap (λ (h : Home). h.vol) (sym home) i; page = ap (λ (h : Home). h.page) (sym home) i; cell = sym second i })

    item_original : (number : ℕ) (item : SlotItem) → slice_get one_table.slots number ≡ Some item → of_original (Some item) ≡ true → number ≡ 0
    item_original number item there original =
        ⊎_elim (λ a. a.0) (λ free. absurd (let e : false ≡ true = sym (ap (λ i. of_original (Some i)) free) ∙ original in absurd (cc))) (item_is number item there)

    not_removed : (at : CellAt) (cell : Cell) → IsUsed pages (frame_of Three) at cell → ¬ say_removed cell.records ≡ true
    not_removed at cell used removed =
        ⊎_elim (λ v. let e : false ≡ true = sym (ap (λ (c : Cell). say_removed c.records) v.1) ∙ removed in absurd (cc))
        (λ p. let e : false ≡ true = sym (ap (λ (c : Cell). say_removed c.records) p.1) ∙ removed in absurd (cc)) (used_is at cell used)

    no_late : (at : CellAt) (cell : Cell) (value : Record) → IsUsed pages (frame_of Three) at cell → record_of 1 cell.records ≡ Some value → ¬ IsLate 0 value
    no_late at cell value used has late =
        ⊎_elim (λ v. let e : None ≡ Some value = sym (ap (λ (c : Cell). record_of 1 c.records) v.1) ∙ has in absurd (cc))
        (λ p.
        let same : written.Attributes 2 0 0 0 0 65536 1 0 0 ≡ value = some_same _ value (sym (ap (λ (c : Cell). record_of 1 c.records) p.1) ∙ has) in
        ⊎_elim (λ less. omega (arith, less)) (λ less. omega (arith, less)) (subst (IsLate 0) (sym same) late))
        (used_is at cell used)

    no_naming_fault : (at : CellAt) → ¬ IsNamingFault pages (frame_of Three) one_table at
    no_naming_fault at fault =
        ⊎_elim (λ w.
        let root = at_root at w.place (if_primary at.cell Primary (kind_is at w.bytes Primary w.place w.there w.kind) refl) in
        w.unnamed 0 root_tag (on_first 133) (subst (IsFirstOf pages (frame_of Three) 0 root_tag) root root_first)
        (subst (λ a. HasEntry pages (frame_of Three) one_table 0 root_tag a (on_first 133)) root root_has))
        (λ a. ⊎_elim (λ w.
        let root = primary_is at w.cell w.is w.kind in
        let e : None ≡ Some w.of = sym (ap (λ (c : Cell). original_slot (item_of one_table c.head)) root) ∙ w.clone in
        absurd (cc))
        (λ b. ⊎_elim (λ w. no_late at w.cell w.value w.is w.attributes w.late)
        (λ w. not_quota at.cell w.link.kind (link_is at w.link w.is) w.kind) b) a)
        fault

    no_wrong_slot : ¬ IsWrongSlot pages (frame_of Three) one_table
    no_wrong_slot wrong =
        ⊎_elim (λ number. ⊎_elim (λ a. subst (HasWrongNumber one_table) a.1 number) (λ free. subst (HasWrongNumber one_table) free number) (item_is wrong.number wrong.item wrong.there))
        (λ quota. ⊎_elim (λ a. no_quota quota.entry quota.at (some_same entry_a quota.entry (subst (λ i. fileset_of i ≡ Some quota.entry) a.1 quota.is)) quota.named)
        (λ free. no_fileset quota.entry (subst (λ i. fileset_of i ≡ Some quota.entry) free quota.is)) (item_is wrong.number wrong.item wrong.there))
        wrong.wrong
      where
        no_quota : (entry : FilesetEntry) (at : CellAt) → entry_a ≡ entry → entry.quota ≡ Some at → ⊥
        no_quota entry at same named = let e : None ≡ Some at = ap (λ (x : FilesetEntry). x.quota) same ∙ named in absurd (cc)

        no_fileset : (entry : FilesetEntry) → None ≡ Some entry → ⊥
        no_fileset entry e = cc

    pub no_tags_fault : (home : Home) → ¬ IsTagsFault pages (frame_of Three) one_table home
    no_tags_fault home fault =
        ⊎_elim (λ w. no_unread home (subst (λ f. IsUnread pages (frame_of Three) (tags_way f) home) (has_those w.number w.first w.has).at w.unread))
        (λ a. ⊎_elim (λ w.
        let early = (tags_page_is w.earlier w.one home w.page w.in_earlier).zeroth in
        let late = (tags_page_is w.later w.other home w.page w.in_later).zeroth in
        omega (arith, early, late, w.order))
        (λ b. ⊎_elim (λ w.
        let that = tags_page_is w.number w.place home w.page w.is in
        ⊎_elim (λ bad. bad (subst IsTagPage (sym that.same) good_tags))
        (λ more. ⊎_elim (λ first. first.1 (ap index_of that.same ∙ tags.first_index))
        (λ again. omega (arith, again.3, that.none)) more) w.wrong)
        (λ c. ⊎_elim (λ w.
        let is = entry_is w.number w.tag w.at home w.has in
        let tag : root_tag ≡ w.tag = (λ i. record { slot = sym is.slot i; seq = sym is.seq i }) in
        w.wrong (subst (λ n. IsFirstOf pages (frame_of Three) n w.tag w.at) (sym is.zeroth)
        (subst (λ t. IsFirstOf pages (frame_of Three) 0 t w.at) tag
        (subst (IsFirstOf pages (frame_of Three) 0 root_tag) (sym is.cell) root_first))))
        (λ d. ⊎_elim (λ w.
        let zeroth = item_original w.number w.item w.there w.original in
        let removed = w.none root_at (on_first 133) (subst (λ n. HasEntry pages (frame_of Three) one_table n root_tag root_at (on_first 133)) (sym zeroth) root_has) in
        not_removed root_at removed.0 removed.1 removed.2)
        (λ e. ⊎_elim (λ w. no_naming_fault w.0 w.2) (λ w. no_wrong_slot w.1) e) d) c) b) a)
        fault
