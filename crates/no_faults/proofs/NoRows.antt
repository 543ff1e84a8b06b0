-- Where a domain stands, and each directory says the one in which its row stands, no rule of directories is broken.
use Rattle.std.proofs.Common.{◌≡◌, ◌∙◌, ℕ, zero, suc, ◌<◌, ◌≤◌, List, [], ◌∷◌, ◌++◌, length, Option, Some, None, IsSome, is_some, slice_get, refl, sym, ap, arith, length-append, ⊎_elim}
use Rattle.std.proofs.lemmas.Bool.{cases_lt, true≢false}
use Rattle.domain_memory.specs.domain_base.declared.place.Home.{Home}
use Rattle.domain_memory.specs.domain_base.declared.place.Kind.{Kind}
use Rattle.domain_memory.specs.domain_base.declared.place.Kind.TheVariants.{Directory, File}
use Rattle.domain_memory.specs.domain_base.declared.place.Tag.{Tag}
use Rattle.domain_memory.specs.page_store.Bitfiles.{Bitfile}
use Rattle.domain_memory.specs.metadata_cells.Chain.{PlacedCell}
use Rattle.domain_memory.specs.extent_maps.Runs.{home_at}
use Rattle.domain_memory.specs.file_chains.Files.{places_of}
use Rattle.domain_memory.specs.directory_pages.declared.row.Row.{Row}
use Rattle.domain_memory.proofs.OfLegalHistories.ValidLemmas.{some_inj}
use Rattle.domain_memory.specs.fileset_model.Filesets.{FilesetMap}
use Rattle.domain_memory.specs.fileset_values.Orders.{Name, Path}
use Rattle.domain_memory.specs.name_space.Names.{led_to, root_tag}
use Rattle.domain_memory.proofs.OfNameSpace.Originals.{IsIn}
use Rattle.domain_memory.proofs.OfNameSpace.OneWay.{same_fronts, same_names}
use Rattle.domain_memory.specs.domain_layout.DirectoryRules.{AreRowsTo, Has, HasOfKind, HasWrongSize, IsDirectoryFault, IsFileFault, IsLostTwice, IsMiscounted, IsMisplaced, IsNameTwice, IsRow, IsWrongFile, IsWrongRow, IsWrongRowPage, RowPlace}
use Rattle.domain_memory.specs.domain_layout.Seen.{SeenFile}
use Rattle.domain_memory.proofs.OfDomainLayout.OnePage.{some_same}
use Rattle.domain_memory.specs.domain_standing.Domain.{DomainNow}
use Rattle.domain_memory.specs.domain_standing.Standing.{HaveParents, StandsDomain}
use Rattle.domain_memory.specs.standing_laws.Sound.{StandsSound}
use Rattle.no_faults.proofs.CountedRows.{directory_links, file_links}
use Rattle.no_faults.proofs.RowPaths.{IsDirRow, RowWay, below_root, dir_row, good_page, in_it, its_path, no_circle, one_path, row_way, same_row}
use Rattle.no_faults.proofs.Seen.{has_seen, page_shown, shown_in}
use Rattle.no_faults.proofs.Shown.{AtHome, HasShown, at_home, has_shown, inside, no_more, size_is}
use Rattle.no_faults.proofs.Ways.{contains_of}

get_within : {X : Type 0} (xs : List X) (k : ℕ) → k < length xs → (x : X) × (slice_get xs k ≡ Some x)
get_within [] k within = absurd (omega (arith, within))
get_within (x ∷ xs) zero within = (x, refl)
get_within (x ∷ xs) (suc k) within = get_within xs k (omega (arith, within))

no_name : (front : Path) (name : Name) → ¬ front ++ name ∷ [] ≡ []
no_name front name same = omega (arith, length-append front (name ∷ []), ap length same)

file_directory : ¬ File ≡ Directory
file_directory same = cc

there_of : (o : Option Home) → IsSome o → (home : Home) × (o ≡ Some home)
there_of None some = absurd (true≢false (sym some))
there_of (Some home) some = (home, refl)

module _ (d : DomainNow) (all : FilesetMap) (stands : StandsDomain d all) (sound : StandsSound d stands.files stands.indexes) (parents : HaveParents d) where
  -- ---- pages and rows

  no_page : (home : Home) → ¬ IsWrongRowPage d.pages d.frame d.table home
  no_page home (number, dir, page, bytes, is, bad) =
      let h = has_shown d all stands number dir is.cells is.seen is.has in
      bad (good_page d all stands sound number h.entry h.there h.original dir h.is.file h.is.shown (h.is.what.kind ∙ is.kind) page bytes
      (page_shown d all stands number h.entry h.there h.original dir page home bytes is h.is.file h.is.shown))

  no_name_twice : (home : Home) → ¬ IsNameTwice d.pages d.frame d.table home
  no_name_twice home w =
      let page = w.is_early.is in
      let h = has_shown d all stands w.number w.early.dir page.cells page.seen page.has in
      let same = same_row d all stands sound w.number h.entry h.there h.original w.early w.late w.one w.other
      (dir_row d all stands sound w.number h.entry h.there h.original w.early w.one w.first_home w.is_early) (dir_row d all stands sound w.number h.entry h.there h.original w.late w.other home w.is_late) w.same w.names in
      let pages : w.early.page ≡ w.late.page = ap (λ (r : RowPlace). r.page) same in
      let places : w.early.place ≡ w.late.place = ap (λ (r : RowPlace). r.place) same in
      ⊎_elim (λ less. omega (arith, less, pages)) (λ less. omega (arith, less.1, places)) w.order

  -- what a row leads to
  record LeadsSo (number : ℕ) (at : RowPlace) (row : Row) : Type 0 where
    shown : (cells : List PlacedCell) × (seen : SeenFile) × HasShown d all stands number at.dir cells seen
    is : IsDirRow d all stands sound number shown.2.entry shown.2.there shown.2.original at row
    way : RowWay d all stands sound number shown.2.entry shown.2.there shown.2.original at row
    there : IsIn shown.2.original.shape.shown shown.2.original.fileset.tree row.tag row.kind

  leads_so : (number : ℕ) (at : RowPlace) (row : Row) (home : Home) → IsRow d.pages d.frame d.table number at row home → LeadsSo number at row
  leads_so number at row home is =
      let page = is.is in
      let h = has_shown d all stands number at.dir page.cells page.seen page.has in
      let r = dir_row d all stands sound number h.entry h.there h.original at row home is in
      let way = row_way d all stands sound number h.entry h.there h.original at row r in
      record { shown = (page.cells, page.seen, h); is = r; way = way; there = in_it d all stands sound number h.entry h.there h.original (way.front ++ row.name ∷ []) row.tag row.kind way.on }

  -- it is there, and of the row's kind
  here_of : (number : ℕ) (at : RowPlace) (row : Row) → LeadsSo number at row → HasOfKind d.pages d.table number row.tag row.kind
  here_of number at row l =
      let h = l.shown.2 in
      let s = has_seen d all stands number h.entry h.there h.original row.tag l.there.file l.there.there in
      (s.cells, s.seen, s.has, sym s.is.what.kind ∙ ap (λ (f : Bitfile). f.kind) s.same ∙ l.there.kind)

  no_row : (home : Home) → ¬ IsWrongRow d.pages d.frame d.table home
  no_row home w = ⊎_elim to_root (λ more. ⊎_elim (λ none. none.1 (here_of w.number w.at w.row l)) (λ other. other.2 (of_kind other.0 other.1)) more) w.wrong
    where
      l : LeadsSo w.number w.at w.row
      l = leads_so w.number w.at w.row home w.is

      to_root : ¬ w.row.tag ≡ root_tag
      to_root same =
          let h = l.shown.2 in
          no_name l.way.front w.row.name
          (one_path d all stands sound w.number h.entry h.there h.original [] root_tag refl (l.way.front ++ w.row.name ∷ []) w.row.kind (l.way.on ∙ ap (λ t. Some (t, w.row.kind)) same))

      of_kind : (of : Kind) → HasOfKind d.pages d.table w.number w.row.tag of → of ≡ w.row.kind
      of_kind of has =
          let h = l.shown.2 in
          let s = shown_in d all stands w.number h.entry h.there h.original w.row.tag has.0 has.1 has.2 in
          let same : s.file ≡ l.there.file = some_same s.file l.there.file (sym s.shown ∙ l.there.there) in
          sym has.3 ∙ sym s.what.kind ∙ ap (λ (f : Bitfile). f.kind) same ∙ l.there.kind

  no_lost : (home : Home) → ¬ IsLostTwice d.pages d.frame d.table home
  no_lost home w =
      let here = here_of w.number w.at w.row (leads_so w.number w.at w.row home w.is) in
      w.lost (here.0, here.1, here.2)

  -- ---- files and directories

  module _ (number : ℕ) (tag : Tag) (cells : List PlacedCell) (seen : SeenFile) (has : Has d.pages d.table number tag cells seen) where
    h : HasShown d all stands number tag cells seen
    h = has_shown d all stands number tag cells seen has

    -- ---- a file

    module _ (kind : seen.is.kind ≡ File) where
      no_root_file : ¬ tag ≡ root_tag
      no_root_file root =
          let is = in_it d all stands sound number h.entry h.there h.original [] root_tag Directory refl in
          let same : is.file ≡ h.is.file = some_same is.file h.is.file (sym is.there ∙ ap h.original.shape.shown (sym root) ∙ h.is.shown) in
          file_directory (sym kind ∙ sym h.is.what.kind ∙ ap (λ (f : Bitfile). f.kind) (sym same) ∙ is.kind)

      no_miscount : ¬ IsMiscounted d.pages d.frame d.table number tag seen
      no_miscount (rows, are, wrong) =
          let count : length rows ≡ seen.is.links =
          file_links d all stands sound number h.entry h.there h.original tag h.is.file h.is.shown (h.is.what.kind ∙ kind) rows are ∙ h.is.what.links in
          ⊎_elim (λ more. omega (arith, more, count)) (λ fewer. omega (arith, fewer.1, count)) wrong

    -- ---- a directory

    module _ (kind : seen.is.kind ≡ Directory) where
      file_kind : h.is.file.kind ≡ Directory
      file_kind = h.is.what.kind ∙ kind

      path : (path : Path) × (led_to h.original.shape.shown path ≡ Some (tag, Directory))
      path = its_path d all stands sound number h.entry h.there h.original tag h.is.file h.is.shown file_kind

      seen_page : (page : ℕ) → page < length h.is.file.pages → IsSome (seen.homes page)
      seen_page page low =
          let p = get_within h.is.file.pages page low in
          let a : AtHome d all stands number h.entry h.original tag cells seen h.is kind page p.0 = at_home d all stands number h.entry h.original tag cells seen h.is kind page p.0 p.1 in
          ap is_some a.at

      no_size : ¬ HasWrongSize cells seen
      no_size wrong =
          ⊎_elim (λ none. none (
            length h.is.file.pages,
            size_is d all stands number h.entry h.original tag cells seen h.is kind,
            (λ page. ((λ some. let home = there_of (seen.homes page) some in inside d all stands number h.entry h.original tag cells seen h.is kind page home.0 home.1), seen_page page)),
          ))
          (λ stale. is_stale stale.0 stale.1 stale.2) wrong
        where
          is_stale : (page : ℕ) → IsSome (home_at (places_of cells page)) → seen.homes page ≡ None → ⊥
          is_stale page some none =
              ⊎_elim (λ low. true≢false (sym (seen_page page low) ∙ ap is_some none))
              (λ high. true≢false (sym some ∙ ap (λ p. is_some (home_at p)) (no_more d all stands number h.entry h.original tag cells seen h.is kind page high)))
              (cases_lt page (length h.is.file.pages))

      links_are : seen.is.links ≡ 1
      links_are = sym h.is.what.links ∙ directory_links d all stands sound number h.entry h.there h.original tag h.is.file h.is.shown file_kind

      -- two rows that lead to it are one
      one_row : (at at' : RowPlace) (row row' : Row) (home home' : Home) → IsRow d.pages d.frame d.table number at row home → IsRow d.pages d.frame d.table number at' row' home'
          → row.tag ≡ tag → row.kind ≡ Directory → row'.tag ≡ tag → row'.kind ≡ Directory → at ≡ at'
      one_row at at' row row' home home' is is' tags kinds tags' kinds' =
          let r = dir_row d all stands sound number h.entry h.there h.original at row home is in
          let s = dir_row d all stands sound number h.entry h.there h.original at' row' home' is' in
          let x = row_way d all stands sound number h.entry h.there h.original at row r in
          let y = row_way d all stands sound number h.entry h.there h.original at' row' s in
          let e : x.front ++ row.name ∷ [] ≡ y.front ++ row'.name ∷ [] =
          one_path d all stands sound number h.entry h.there h.original path.0 tag path.1 (x.front ++ row.name ∷ []) Directory (x.on ∙ (λ i. Some (tags i, kinds i)))
          ∙ sym (one_path d all stands sound number h.entry h.there h.original path.0 tag path.1 (y.front ++ row'.name ∷ []) Directory (y.on ∙ (λ i. Some (tags' i, kinds' i)))) in
          let fronts = same_fronts x.front y.front row.name row'.name e in
          let dirs : at.dir ≡ at'.dir = ap (λ (p : Tag × Kind). p.0) (some_inj (sym x.leads ∙ ap (led_to h.original.shape.shown) fronts ∙ y.leads)) in
          same_row d all stands sound number h.entry h.there h.original at at' row row' r s dirs (same_names x.front y.front row.name row'.name e)

      not_twice : (rows : List RowPlace) → AreRowsTo d.pages d.frame d.table number tag Directory rows → ¬ 1 < length rows
      not_twice rows are many =
          let x = get_within rows 0 (omega (arith, many)) in
          let y = get_within rows 1 many in
          let r = (are.each x.0).0 (contains_of rows 0 x.0 x.1) in
          let s = (are.each y.0).0 (contains_of rows 1 y.0 y.1) in
          let same : x.0 ≡ y.0 = one_row x.0 y.0 r.0 s.0 r.1 s.1 r.2 s.2 r.3 r.4 s.3 s.4 in
          let one : 0 ≡ 1 = are.once 0 1 x.0 x.1 (y.1 ∙ ap Some (sym same)) in
          omega (arith, one)

      no_misplaced : ¬ tag ≡ root_tag → ¬ IsMisplaced d.pages d.frame d.table number tag
      no_misplaced other (rows, are, wrong) =
          ⊎_elim (not_twice rows are)
          (λ more. ⊎_elim (no_circle d all stands sound number h.entry h.there h.original tag path.0 path.1)
          (λ beside. beside.1 (below_root d all stands sound number h.entry h.there h.original (length path.0) path.0 (omega arith) some_name tag path.1)) more) wrong
        where
          some_name : 1 ≤ length path.0
          some_name = by_path path.0 path.1
            where
              by_path : (p : Path) → led_to h.original.shape.shown p ≡ Some (tag, Directory) → 1 ≤ length p
              by_path [] leads = absurd (other (sym (ap (λ (l : Tag × Kind). l.0) (some_inj leads))))
              by_path (x ∷ xs) leads = omega arith

    no_wrong : (kind : Kind) → seen.is.kind ≡ kind → ¬ IsWrongFile d.pages d.frame d.table number tag cells seen kind
    no_wrong File is wrong = ⊎_elim (no_root_file is) (no_miscount is) wrong
    no_wrong Directory is wrong =
        ⊎_elim (no_size is) (λ a. ⊎_elim (λ links. links (links_are is)) (λ b. ⊎_elim (parents number tag cells seen has is) (λ placed. no_misplaced is placed.0 placed.1) b) a) wrong

  no_file : (home : Home) → ¬ IsFileFault d.pages d.frame d.table home
  no_file home w = no_wrong w.number w.tag w.cells w.seen w.has w.seen.is.kind refl w.wrong

  pub no_rows : (home : Home) → ¬ IsDirectoryFault d.pages d.frame d.table home
  no_rows home fault = ⊎_elim (no_page home) (λ a. ⊎_elim (no_name_twice home) (λ b. ⊎_elim (no_row home) (λ c. ⊎_elim (no_lost home) (no_file home) c) b) a) fault
