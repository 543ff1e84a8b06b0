-- Pages of tags that are read one after the other are a directory.
use Rattle.std.proofs.Common.{◌≡◌, ◌∙◌, inl, inr, ℕ, suc, ◌+◌, ◌*◌, ◌<◌, ◌≤◌, Bool, true, false, cond, nat_eq, List, [], ◌∷◌, ◌++◌, length, Option, Some, None, IfSome, IsSomeAnd, slice_get, refl, sym, ap, subst, arith, ⊎_elim}
use Rattle.std.proofs.lemmas.Bool.{cases_lt, cases_order, eqb-true}
use Rattle.std.specs.Option.{option_map}
use Rattle.std.specs.Prelude.{map}
use Rattle.domain_layout.specs.domain_base.declared.place.CellAt.{CellAt}
use Rattle.domain_layout.specs.domain_base.declared.place.Home.{Home}
use Rattle.domain_layout.specs.page_store.Pages.{Pages, AreWhole}
use Rattle.domain_layout.specs.cell_records.Fields.{number_at}
use Rattle.domain_layout.specs.metadata_cells.Cell.{IsAddress}
use Rattle.domain_layout.specs.tag_dirs.declared.dir.TagPlace.{TagPlace}
use Rattle.domain_layout.specs.tag_dirs.declared.page.TagEntry.{TagEntry}
use Rattle.domain_layout.specs.tag_dirs.Directory.{IsDirectoryAt, IsPageOf, home_behind}
use Rattle.domain_layout.specs.tag_dirs.TagPage.{IsAllowed, IsTagPage, cell_in, entry_of, index_of, next_of, slot_of}
use Rattle.domain_layout.specs.Reached.{Frame, IsRead, IsUnread, on_volume, tags_way}
use Rattle.domain_layout.specs.TagRules.{HasTags, IsTagsFault, IsTagsPage}
use Rattle.domain_layout.proofs.OfFilesetTable.Unique.{table_unique}
use Rattle.domain_layout.specs.fileset_table.Page.{IsTablePage}
use Rattle.domain_layout.proofs.OnePage.{one_of, some_same}
use Rattle.domain_layout.proofs.OwnedOnce.{on_a_volume}
use Rattle.domain_layout.proofs.Reached.{same_number}
use Rattle.filesets_reading.specs.Good.{AreGood, HasTagsAt}
use Rattle.filesets_reading.proofs.CellTables.{no_tables}
use Rattle.filesets_reading.proofs.Ways.{IsWayTo, IsWholeWay, comes_read, get_map, get_pushed, map_pushed, way_begins, way_ends, way_on}

-- ---- what cannot be wrong on a page of tags is right

pub equal_by : (a b : ℕ) → ¬ ¬ a ≡ b → a ≡ b
equal_by a b not = ⊎_elim (λ same. same) (λ other. absurd (not other)) (same_number a b)

pub most_by : (a b : ℕ) → ¬ ¬ a ≤ b → a ≤ b
most_by a b not = ⊎_elim (λ more. absurd (not (λ less. omega (arith, more, less)))) (λ less. less) (cases_lt b a)

pub less_by : (a b : ℕ) → ¬ ¬ a < b → a < b
less_by a b not = ⊎_elim (λ less. less) (λ more. absurd (not (λ less. omega (arith, more, less)))) (cases_lt a b)

address_by : (v c p : ℕ) (o : Option CellAt) → ¬ ¬ IsAddress v c p o → ((at : CellAt) → o ≡ Some at → at ≡ record { vol = v; page = p; cell = c }) → IsAddress v c p o
address_by v c p None not is = (
  equal_by v 0 (λ other. not (λ a. other a.0)),
  equal_by c 0 (λ other. not (λ a. other a.1)),
  equal_by p 0 (λ other. not (λ a. other a.2)),
)
address_by v c p (Some at) not is = (
  (most_by 1 v (λ other. not (λ a. other a.0.0)), most_by v 8 (λ other. not (λ a. other a.0.1)), most_by c 27 (λ other. not (λ a. other a.0.2))),
  is at refl,
)

cell_is : (page : List ℕ) (e : ℕ) (at : CellAt) → cell_in page e ≡ Some at → at ≡ record { vol = number_at 1 (18 + 8 * e) page; page = number_at 4 (20 + 8 * e) page; cell = number_at 1 (19 + 8 * e) page }
cell_is page e at is = by_test (nat_eq (number_at 1 (18 + 8 * e) page) 0) refl
  where
    by_test : (b : Bool) → nat_eq (number_at 1 (18 + 8 * e) page) 0 ≡ b → at ≡ record { vol = number_at 1 (18 + 8 * e) page; page = number_at 4 (20 + 8 * e) page; cell = number_at 1 (19 + 8 * e) page }
    by_test true none = absurd (let e : None ≡ Some at = sym (ap (λ b. cond b None (Some (record { vol = number_at 1 (18 + 8 * e) page; page = number_at 4 (20 + 8 * e) page; cell = number_at 1 (19 + 8 * e) page }))) none) ∙ is in absurd (cc))
    by_test false some =
        some_same at (record { vol = number_at 1 (18 + 8 * e) page; page = number_at 4 (20 + 8 * e) page; cell = number_at 1 (19 + 8 * e) page })
        (sym is ∙ ap (λ b. cond b None (Some (record { vol = number_at 1 (18 + 8 * e) page; page = number_at 4 (20 + 8 * e) page; cell = number_at 1 (19 + 8 * e) page }))) some)

allowed_by : (slot : ℕ) (entry : TagEntry) → ¬ ¬ IsAllowed slot entry → IsAllowed slot entry
allowed_by slot entry not = by_cell entry.at not
  where
    by_cell : (o : Option CellAt) → ¬ ¬ IfSome o (λ at. (at.cell < 28) × (1 ≤ entry.seq) × (¬ slot ≡ 0)) → IfSome o (λ at. (at.cell < 28) × (1 ≤ entry.seq) × (¬ slot ≡ 0))
    by_cell None not = tt
    by_cell (Some at) not = (
      less_by at.cell 28 (λ other. not (λ a. other a.0)),
      most_by 1 entry.seq (λ other. not (λ a. other a.1)),
      (λ zero_there. not (λ a. a.2 zero_there)),
    )

tag_page_by : (page : List ℕ) → length page ≡ 8192 → number_at 4 0 page ≡ 0x50474154 → ¬ ¬ IsTagPage page → IsTagPage page
tag_page_by page whole magic not = record {
  whole = whole;
  magic = magic;
  index = less_by (index_of page) 4202512 (λ other. not (λ is. other is.index));
  next = most_by (number_at 4 8 page) 8 (λ other. not (λ is. other is.next));
  spelled = λ e within. address_by (number_at 1 (18 + 8 * e) page) (number_at 1 (19 + 8 * e) page) (number_at 4 (20 + 8 * e) page) (cell_in page e) (λ other. not (λ is. other (is.spelled e within))) (cell_is page e);
  entries = λ e within. allowed_by (slot_of page e) (entry_of page e) (λ other. not (λ is. other (is.entries e within)));
}

-- ---- a directory

abbrev pub homes_of : List TagPlace → List Home
homes_of places = map (λ (p : TagPlace). p.home) places

-- the page at a home has this index
abbrev pub IsIndexed : Pages → TagPlace → Type 0
IsIndexed pages p = IsSomeAnd (pages p.home) (λ page. index_of page ≡ p.index)

-- the pages that were read, the last of which leads to this home
pub record TagWalk (pages : Pages) (frame : Frame) (first : Home) (places : List TagPlace) (onto : Home) : Type 0 where
  pub way : IsWayTo pages frame (tags_way first) (homes_of places) onto
  pub indexed : (k : ℕ) (p : TagPlace) → slice_get places k ≡ Some p → IsIndexed pages p

module _ (pages : Pages) (frame : Frame) (good : AreGood pages frame) (bytes : AreWhole pages) (first : Home) (tags : HasTagsAt pages frame first) where
  -- the table is one
  table_same : tags.table ≡ good.table
  table_same =
      let at : tags.says.home ≡ good.says.home = some_same tags.says.home good.says.home (sym tags.says.at ∙ good.says.at) in
      let one = one_of (pages good.says.home) (λ page. IsTablePage page good.table) good.says.there in
      let also : IsSomeAnd (pages good.says.home) (λ page. IsTablePage page tags.table) = subst (λ h. IsSomeAnd (pages h) (λ page. IsTablePage page tags.table)) at tags.says.there in
      table_unique one.value tags.table good.table (subst (λ o. IsSomeAnd o (λ page. IsTablePage page tags.table)) one.there also) one.is

  has : HasTags good.table tags.number first
  has = subst (λ table. HasTags table tags.number first) table_same tags.has

  no_tags : (home : Home) → ¬ IsTagsFault pages frame good.table home
  no_tags home fault = no_tables pages frame good (record { code = 6; home = home }) (good.table, good.says, inr (refl, fault))

  none_unread : (home : Home) → ¬ IsUnread pages frame (tags_way first) home
  none_unread home unread = no_tags home (inl (record { number = tags.number; first = first; has = has; unread = unread }))

  pub tags_begin : TagWalk pages frame first [] first
  tags_begin = record { way = way_begins pages frame (tags_way first) none_unread; indexed = λ k p is. absurd (let e : None ≡ Some p = is in absurd (cc)) }

  -- the page that is come to is there
  pub tags_come : (places : List TagPlace) (onto : Home) → TagWalk pages frame first places onto → (page : List ℕ) × IsRead pages frame (tags_way first) (length (homes_of places)) onto page
  tags_come places onto walk = comes_read pages frame (tags_way first) none_unread (homes_of places) onto walk.way

  module _ (places : List TagPlace) (whole : IsWholeWay pages frame (tags_way first) (homes_of places)) (indexed : (k : ℕ) (p : TagPlace) → slice_get places k ≡ Some p → IsIndexed pages p) where
    at_home : (k : ℕ) (p : TagPlace) → slice_get places k ≡ Some p → slice_get (homes_of places) k ≡ Some p.home
    at_home k p at = get_map (λ (q : TagPlace). q.home) places k ∙ ap (option_map (λ (q : TagPlace). q.home)) at

    tags_page : (k : ℕ) (p : TagPlace) (at : slice_get places k ≡ Some p) → IsTagsPage pages frame good.table tags.number k p.home (whole.each k p.home (at_home k p at)).page
    tags_page k p at = record { first = first; has = has; read = (whole.each k p.home (at_home k p at)).read }

    good_page : (k : ℕ) (p : TagPlace) (at : slice_get places k ≡ Some p) → IsTagPage (whole.each k p.home (at_home k p at)).page
    good_page k p at =
        let so = whole.each k p.home (at_home k p at) in
        let size : length so.page ≡ 8192 = subst (λ o. IfSome o (λ page. length page ≡ 8192)) so.read.there (bytes p.home) in
        tag_page_by so.page size (eqb-true _ _ so.read.begins)
        (λ wrong. no_tags p.home (inr (inr (inl (record { number = tags.number; place = k; page = so.page; is = tags_page k p at; wrong = inl wrong })))))

    index_is : (k : ℕ) (p : TagPlace) (at : slice_get places k ≡ Some p) → index_of (whole.each k p.home (at_home k p at)).page ≡ p.index
    index_is k p at = subst (λ o. IsSomeAnd o (λ page. index_of page ≡ p.index)) (whole.each k p.home (at_home k p at)).read.there (indexed k p at)

    leads_to : (k : ℕ) (p : TagPlace) (at : slice_get places k ≡ Some p) → next_of (whole.each k p.home (at_home k p at)).page ≡ home_behind places k
    leads_to k p at =
        let so = whole.each k p.home (at_home k p at) in
        let e : suc k ≡ k + 1 = omega arith in
        sym (on_it so.page (good_page k p at).next (next_of so.page) refl) ∙ so.leads
        ∙ get_map (λ (q : TagPlace). q.home) places (suc k) ∙ ap (λ j. option_map (λ (q : TagPlace). q.home) (slice_get places j)) e
      where
        on_it : (page : List ℕ) → number_at 4 8 page ≤ 8 → (o : Option Home) → next_of page ≡ o → on_volume (next_of page) ≡ next_of page
        on_it page small None none = ap on_volume none ∙ sym none
        on_it page small (Some home) next = on_a_volume page home next small ∙ sym next

    run_at : (k : ℕ) (o : Option TagPlace) → slice_get places k ≡ o → IfSome o (λ place. IsSomeAnd (pages place.home) (IsPageOf place (home_behind places k)))
    run_at k None at = tt
    run_at k (Some p) at =
        subst (λ o. IsSomeAnd o (IsPageOf p (home_behind places k))) (sym (whole.each k p.home (at_home k p at)).read.there)
        (record { good = good_page k p at; indexed = index_is k p at; linked = leads_to k p at })

    never_twice : (j k : ℕ) (p q : TagPlace) → slice_get places j ≡ Some p → slice_get places k ≡ Some q → p.index ≡ q.index → j < k → ⊥
    never_twice j k p q at_j at_k same less =
        no_tags q.home (inr (inr (inl (record {
          number = tags.number;
          place = k;
          page = (whole.each k q.home (at_home k q at_k)).page;
          is = tags_page k q at_k;
          wrong = inr (inr (j, p.home, (whole.each j p.home (at_home j p at_j)).page, less, tags_page j p at_j, index_is j p at_j ∙ same ∙ sym (index_is k q at_k)));
        }))))

    first_index : (o : Option TagPlace) → slice_get places 0 ≡ o → IfSome o (λ place. place.index ≡ 0)
    first_index None at = tt
    first_index (Some p) at =
        sym (index_is 0 p at)
        ∙ equal_by (index_of (whole.each 0 p.home (at_home 0 p at)).page) 0 (λ other. no_tags p.home (inr (inr (inl (record {
          number = tags.number;
          place = 0;
          page = (whole.each 0 p.home (at_home 0 p at)).page;
          is = tags_page 0 p at;
          wrong = inr (inl (refl, other));
        })))))

    begins_so : (o : Option TagPlace) → slice_get places 0 ≡ o → IsSomeAnd o (λ place. place.home ≡ first)
    begins_so None at = absurd (let e : None ≡ Some first = ap (option_map (λ (q : TagPlace). q.home)) (sym at) ∙ sym (get_map (λ (q : TagPlace). q.home) places 0) ∙ whole.first in absurd (cc))
    begins_so (Some p) at = some_same p.home first (sym (at_home 0 p at) ∙ whole.first)

    pub whole_directory : IsDirectoryAt pages first places
    whole_directory = record {
      directory = record {
        run = λ k. run_at k (slice_get places k) refl;
        apart = λ j k p q at_j at_k same.
            ⊎_elim (λ is. is) (λ other. ⊎_elim (λ less. absurd (never_twice j k p q at_j at_k same less)) (λ more. absurd (never_twice k j q p at_k at_j (sym same) more)) other) (cases_order j k);
        first = first_index (slice_get places 0) refl;
      };
      begins = begins_so (slice_get places 0) refl;
    }

  module _ (places : List TagPlace) (onto : Home) (walk : TagWalk pages frame first places onto) (page : List ℕ) (there : pages onto ≡ Some page) where
    all_indexed : (k : ℕ) (p : TagPlace) → slice_get (places ++ (record { index = index_of page; home = onto }) ∷ []) k ≡ Some p → IsIndexed pages p
    all_indexed k p is =
        ⊎_elim (λ front. walk.indexed k p front.1)
        (λ last. subst (IsIndexed pages) last.1 (subst (λ o. IsSomeAnd o (λ found. index_of found ≡ index_of page)) (sym there) refl)) (get_pushed places (record { index = index_of page; home = onto }) k p is)

    longer : homes_of (places ++ (record { index = index_of page; home = onto }) ∷ []) ≡ homes_of places ++ onto ∷ []
    longer = map_pushed (λ (p : TagPlace). p.home) places (record { index = index_of page; home = onto })

    pub tags_on : (next : Home) → on_volume (next_of page) ≡ Some next → TagWalk pages frame first (places ++ (record { index = index_of page; home = onto }) ∷ []) next
    tags_on next leads = record {
      way = subst (λ homes. IsWayTo pages frame (tags_way first) homes next) (sym longer) (way_on pages frame (tags_way first) none_unread (homes_of places) onto walk.way page there next leads);
      indexed = all_indexed;
    }

    pub tags_end : on_volume (next_of page) ≡ None → IsDirectoryAt pages first (places ++ (record { index = index_of page; home = onto }) ∷ [])
    tags_end ends =
        whole_directory (places ++ (record { index = index_of page; home = onto }) ∷ [])
        (subst (IsWholeWay pages frame (tags_way first)) (sym longer) (way_ends pages frame (tags_way first) none_unread (homes_of places) onto walk.way page there ends)) all_indexed
