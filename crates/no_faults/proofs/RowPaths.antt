-- Where a domain stands: the rows of an original's directories are the last names of its paths.
use Rattle.std.proofs.Common.{◌≡◌, ◌∙◌, ℕ, zero, suc, ◌≤◌, List, [], ◌∷◌, ◌++◌, length, Option, Some, None, IsSomeAnd, slice_get, refl, sym, ap, subst, arith, append_assoc, length-append}
use Rattle.std.specs.List.{AllByRecursion}
use Rattle.std.specs.FinMap.{get}
use Rattle.std.specs.Option.{option_and_then, option_map, option_map_or}
use Rattle.domain_memory.specs.domain_base.declared.place.Home.{Home}
use Rattle.domain_memory.specs.domain_base.declared.place.Kind.{Kind}
use Rattle.domain_memory.specs.domain_base.declared.place.Kind.TheVariants.{Directory, File}
use Rattle.domain_memory.specs.domain_base.declared.place.Tag.{Tag}
use Rattle.domain_memory.specs.page_store.Bitfiles.{Bitfile, Bitfiles}
use Rattle.domain_memory.specs.fileset_files.Shown.{shown_page}
use Rattle.domain_memory.specs.directory_pages.RowPage.{IsDirPage, rows_of}
use Rattle.domain_memory.specs.directory_pages.Rows.{found}
use Rattle.domain_memory.specs.directory_pages.declared.row.Row.{Row}
use Rattle.domain_memory.specs.directory_rows.Directory.{IsWellFormed, NamesOnce, row_pages, rows_in}
use Rattle.domain_memory.specs.legal_histories.Valid.{IsValidAs, IsValidFileset}
use Rattle.domain_memory.proofs.OfLegalHistories.ValidLemmas.{some_inj}
use Rattle.domain_memory.specs.fileset_model.Filesets.{FilesetMap}
use Rattle.domain_memory.specs.fileset_values.Orders.{Name, Path}
use Rattle.domain_memory.specs.fileset_table.declared.slot.FilesetEntry.{FilesetEntry}
use Rattle.domain_memory.specs.fileset_table.declared.slot.SlotItem.TheVariants as slot
use Rattle.domain_memory.specs.name_space.Names.{led_to, number_of, root_tag}
use Rattle.domain_memory.proofs.OfNameSpace.Leads.{led-name}
use Rattle.domain_memory.proofs.OfNameSpace.Originals.{IsIn, is_in, number_at, one_tag, one_way, path_at}
use Rattle.domain_memory.proofs.OfDirectoryRows.AllLed.{found_row, row_found}
use Rattle.filesets_filled.proofs.Placed.{placed}
use Rattle.domain_memory.specs.domain_layout.DirectoryRules.{IsRow, RowPlace, RowsLead}
use Rattle.domain_memory.specs.domain_layout.DirectoryRules.RowsLead.{one as leads_one, more as leads_more}
use Rattle.domain_memory.proofs.OfDomainLayout.OnePage.{some_same}
use Rattle.domain_memory.specs.domain_standing.Domain.{DomainNow, item_in}
use Rattle.domain_memory.specs.domain_standing.Standing.{StandsDomain}
use Rattle.domain_memory.specs.standing_laws.Sound.{StandsSound}
use Rattle.no_faults.proofs.InChains.{all_get}
use Rattle.no_faults.proofs.Originals.{IsOriginalSlot, is_role}
use Rattle.no_faults.proofs.RowPlaces.{in_place, one_place, place_in}
use Rattle.no_faults.proofs.Seen.{has_seen, page_shown, shown_in, shown_page as page_there}
use Rattle.no_faults.proofs.Ways.{nothing}

-- the last name of a path, and those in front of it
pub last_parted : (name : Name) (path : Path) → (front : Path) × (last : Name) × (name ∷ path ≡ front ++ last ∷ []) × (length front ≡ length path)
last_parted name [] = ([], name, refl, refl)
last_parted name (next ∷ path) = let more = last_parted next path in (name ∷ more.0, more.1, ap (λ (p : Path). name ∷ p) more.2, ap suc more.3)

longer : (front more : Path) → front ++ more ≡ front → length more ≡ 0
longer front more same = omega (arith, length-append front more, ap length same)

module _ (d : DomainNow) (all : FilesetMap) (stands : StandsDomain d all) (sound : StandsSound d stands.files stands.indexes)
    (number : ℕ) (entry : FilesetEntry) (there : item_in d number ≡ Some (slot.Original entry)) (o : IsOriginalSlot d all stands.slots number entry) where
  abbrev files : Bitfiles
  files = o.shape.shown

  pub valid : IsValidFileset o.fileset.tree
  valid = subst (λ r. IsValidAs r o.fileset) (is_role d all stands.slots number entry o) o.fills.valid

  -- what a path leads to
  pub in_it : (path : Path) (tag : Tag) (of : Kind) → led_to o.shape.shown path ≡ Some (tag, of) → IsIn o.shape.shown o.fileset.tree tag of
  in_it = is_in o.shape.shown o.fileset o.fills.names (is_role d all stands.slots number entry o)

  -- one path leads to a directory
  pub one_path : (place : Path) (dir : Tag) → led_to o.shape.shown place ≡ Some (dir, Directory) → (path : Path) (of : Kind) → led_to o.shape.shown path ≡ Some (dir, of) → path ≡ place
  one_path = one_way o.shape.shown o.fileset o.fills.names (is_role d all stands.slots number entry o) valid

  -- ---- rows

  -- a row of a directory that is shown
  pub record IsDirRow (at : RowPlace) (row : Row) : Type 0 where
    pub file : Bitfile
    pub shown : o.shape.shown at.dir ≡ Some file
    pub kind : file.kind ≡ Directory
    pub bytes : List ℕ
    pub page : slice_get file.pages at.page ≡ Some bytes
    pub place : slice_get (rows_of bytes) at.place ≡ Some row

  pub dir_row : (at : RowPlace) (row : Row) (home : Home) → IsRow d.pages d.frame d.table number at row home → IsDirRow at row
  dir_row at row home is =
      let page = is.is in
      let s = shown_in d all stands number entry there o at.dir page.cells page.seen page.has in
      record {
        file = s.file;
        shown = s.shown;
        kind = s.what.kind ∙ page.kind;
        bytes = is.bytes;
        page = page_shown d all stands number entry there o at.dir at.page home is.bytes page s.file s.shown;
        place = is.there;
      }

  module _ (dir : Tag) (file : Bitfile) (shown : o.shape.shown dir ≡ Some file) (kind : file.kind ≡ Directory) where
    pub formed : IsWellFormed o.shape.shown dir
    formed = o.fills.names.directories dir (subst (λ f. IsSomeAnd f (λ (file : Bitfile). file.kind ≡ Directory)) (sym shown) kind)

    pub pages_are : row_pages o.shape.shown dir ≡ file.pages
    pages_are = ap (λ f. option_map_or (λ (file : Bitfile). file.pages) f []) shown

    pub good_page : (page : ℕ) (bytes : List ℕ) → slice_get file.pages page ≡ Some bytes → IsDirPage bytes
    good_page page bytes at = all_get IsDirPage file.pages (subst (AllByRecursion IsDirPage) pages_are formed.pages) page bytes at

    -- the path of a directory
    pub its_path : (path : Path) × (led_to o.shape.shown path ≡ Some (dir, Directory))
    its_path =
        let live = o.fills.names.live (is_role d all stands.slots number entry o) dir file shown in
        (live.0, live.1 ∙ ap (λ of. Some (dir, of)) kind)

  pub row_dir : (at : RowPlace) (row : Row) → IsDirRow at row → (home : Home) × IsRow d.pages d.frame d.table number at row home
  row_dir at row r =
      let p = page_there d all stands number entry there o sound at.dir r.file r.shown r.kind at.page r.bytes r.page in
      (p.0, record { bytes = r.bytes; is = p.1; good = good_page at.dir r.file r.shown r.kind at.page r.bytes r.page; there = r.place })

  -- the path that ends with a row's name leads to what the row does
  pub row_on : (at : RowPlace) (row : Row) → IsDirRow at row → (front : Path) → led_to o.shape.shown front ≡ Some (at.dir, Directory) → led_to o.shape.shown (front ++ row.name ∷ []) ≡ Some (row.tag, row.kind)
  row_on at row r front leads =
      let page : slice_get (row_pages o.shape.shown at.dir) at.page ≡ Some r.bytes = ap (λ ps. slice_get ps at.page) (pages_are at.dir r.file r.shown r.kind) ∙ r.page in
      let in_rows = in_place r.bytes at.place row r.place (row_pages o.shape.shown at.dir) at.page page in
      led-name o.shape.shown front row.name ∙ ap (option_and_then (λ (led : Tag × Kind). found row.name (rows_in o.shape.shown led.0))) leads
      ∙ row_found (rows_in o.shape.shown at.dir) (place_in (row_pages o.shape.shown at.dir) at.page at.place) row (formed at.dir r.file r.shown r.kind).names in_rows

  pub record RowWay (at : RowPlace) (row : Row) : Type 0 where
    pub front : Path
    pub leads : led_to o.shape.shown front ≡ Some (at.dir, Directory)
    pub on : led_to o.shape.shown (front ++ row.name ∷ []) ≡ Some (row.tag, row.kind)

  pub row_way : (at : RowPlace) (row : Row) → IsDirRow at row → RowWay at row
  row_way at row r =
      let path = its_path at.dir r.file r.shown r.kind in
      record { front = path.0; leads = path.1; on = row_on at row r path.0 path.1 }

  -- two rows of one name in one directory are one
  pub same_row : (at at' : RowPlace) (row row' : Row) → IsDirRow at row → IsDirRow at' row' → at.dir ≡ at'.dir → row.name ≡ row'.name → at ≡ at'
  same_row at at' row row' r s dirs names =
      let file : s.file ≡ r.file = some_same s.file r.file (sym s.shown ∙ ap o.shape.shown (sym dirs) ∙ r.shown) in
      let once : NamesOnce (rows_in o.shape.shown at.dir) = (formed at.dir r.file r.shown r.kind).names in
      let are = pages_are at.dir r.file r.shown r.kind in
      let one = one_place (row_pages o.shape.shown at.dir) once at.page at'.page r.bytes s.bytes at.place at'.place row row'
      (ap (λ ps. slice_get ps at.page) are ∙ r.page) (ap (λ ps. slice_get ps at'.page) are ∙ ap (λ (f : Bitfile). slice_get f.pages at'.page) (sym file) ∙ s.page) r.place s.place names in
      (λ i. record { dir = dirs i; page = one.0 i; place = one.1 i })

  -- ---- paths

  -- what a path leads to, its last name's row does
  pub record PathRow (front : Path) (name : Name) (tag : Tag) (of : Kind) : Type 0 where
    pub at : RowPlace
    pub row : Row
    pub is : IsDirRow at row
    pub leads : led_to o.shape.shown front ≡ Some (at.dir, Directory)
    pub tag_is : row.tag ≡ tag
    pub kind_is : row.kind ≡ of
    pub name_is : row.name ≡ name

  -- what has a page with rows is a directory
  is_directory : (dir : Tag) (file : Bitfile) → o.shape.shown dir ≡ Some file → (page : ℕ) (bytes : List ℕ) → slice_get file.pages page ≡ Some bytes → file.kind ≡ Directory
  is_directory dir file shown page bytes at =
      let h = has_seen d all stands number entry there o dir file shown in
      by_kind file.kind refl (λ k. shown_page d.pages h.cells k page)
      (sym at ∙ ap (λ (f : Bitfile). slice_get f.pages page) (sym h.same) ∙ h.is.shows.each page ∙ ap (λ (f : Bitfile). shown_page d.pages h.cells f.kind page) h.same) refl
    where
      by_kind : (kind : Kind) → file.kind ≡ kind → (shows : Kind → Option (List ℕ)) → Some bytes ≡ shows file.kind → shows File ≡ None → file.kind ≡ Directory
      by_kind Directory is shows same none = is
      by_kind File is shows same none = nothing bytes (sym none ∙ ap shows (sym is) ∙ sym same)

  pub path_row : (front : Path) (name : Name) (tag : Tag) (of : Kind) → led_to o.shape.shown (front ++ name ∷ []) ≡ Some (tag, of) → PathRow front name tag of
  path_row front name tag of leads = by_front (led_to o.shape.shown front) refl (sym (led-name o.shape.shown front name) ∙ leads)
    where
      by_file : (dir : Tag) (kind : Kind) → led_to o.shape.shown front ≡ Some (dir, kind) → (f : Option Bitfile) → o.shape.shown dir ≡ f → (page : ℕ) (bytes : List ℕ) (place : ℕ) (row : Row)
          → slice_get (option_map_or (λ (file : Bitfile). file.pages) f []) page ≡ Some bytes → slice_get (rows_of bytes) place ≡ Some row → row.tag ≡ tag → row.kind ≡ of → row.name ≡ name → PathRow front name tag of
      by_file dir kind led None none page bytes place row at in_page tags kinds named = nothing bytes at
      by_file dir kind led (Some file) shown page bytes place row at in_page tags kinds named =
          let directory = is_directory dir file shown page bytes at in
          let is = in_it front dir kind led in
          let same : is.file ≡ file = some_same is.file file (sym is.there ∙ shown) in
          record {
            at = record { dir = dir; page = page; place = place };
            row = row;
            is = record { file = file; shown = shown; kind = directory; bytes = bytes; page = at; place = in_page };
            leads = led ∙ ap (λ k. Some (dir, k)) (sym is.kind ∙ ap (λ (f : Bitfile). f.kind) same ∙ directory);
            tag_is = tags;
            kind_is = kinds;
            name_is = named;
          }

      by_front : (led : Option (Tag × Kind)) → led_to o.shape.shown front ≡ led → option_and_then (λ (l : Tag × Kind). found name (rows_in o.shape.shown l.0)) led ≡ Some (tag, of) → PathRow front name tag of
      by_front None none is = nothing (tag, of) is
      by_front (Some (dir, kind)) led is =
          let f = found_row name (rows_in o.shape.shown dir) tag of is in
          let p = placed (row_pages o.shape.shown dir) f.0 f.1 f.2 in
          by_file dir kind led (o.shape.shown dir) refl p.page p.bytes p.place f.1 p.there p.at f.4 f.5 f.3

  -- ---- rows that lead on

  abbrev Lead : Tag → Tag → Type 0
  Lead dir tag = RowsLead d.pages d.frame d.table number dir tag

  -- a path that goes on from a directory
  pub record GoesOn (front : Path) (tag : Tag) : Type 0 where
    pub more : Path
    pub some : 1 ≤ length more
    pub leads : led_to o.shape.shown (front ++ more) ≡ Some (tag, Directory)

  pub rows_lead : (dir : Tag) (front : Path) → led_to o.shape.shown front ≡ Some (dir, Directory) → (tag : Tag) → Lead dir tag → GoesOn front tag
  rows_lead dir front leads tag lead = elim lead as (λ tag lead. GoesOn front tag) [
    | leads_one at row home dir_is is kind ↦ first at row home dir_is is kind
    | leads_more middle at row home (lead → earlier) dir_is is kind ↦ next middle at row home earlier dir_is is kind
  ]
    where
      first : (at : RowPlace) (row : Row) (home : Home) → at.dir ≡ dir → IsRow d.pages d.frame d.table number at row home → row.kind ≡ Directory → GoesOn front row.tag
      first at row home dir_is is kind =
          let way = row_way at row (dir_row at row home is) in
          let same : way.front ≡ front = one_path front dir leads way.front Directory (way.leads ∙ ap (λ t. Some (t, Directory)) dir_is) in
          record { more = row.name ∷ []; some = omega arith; leads = ap (λ p. led_to o.shape.shown (p ++ row.name ∷ [])) (sym same) ∙ way.on ∙ ap (λ k. Some (row.tag, k)) kind }

      next : (middle : Tag) (at : RowPlace) (row : Row) (home : Home) → GoesOn front middle → at.dir ≡ middle → IsRow d.pages d.frame d.table number at row home → row.kind ≡ Directory → GoesOn front row.tag
      next middle at row home earlier dir_is is kind =
          let way = row_way at row (dir_row at row home is) in
          let same : way.front ≡ front ++ earlier.more = one_path (front ++ earlier.more) middle earlier.leads way.front Directory (way.leads ∙ ap (λ t. Some (t, Directory)) dir_is) in
          record {
            more = earlier.more ++ row.name ∷ [];
            some = omega (arith, earlier.some, length-append earlier.more (row.name ∷ []));
            leads = ap (led_to o.shape.shown) (sym (append_assoc front earlier.more (row.name ∷ []))) ∙ ap (λ p. led_to o.shape.shown (p ++ row.name ∷ [])) (sym same) ∙ way.on ∙ ap (λ k. Some (row.tag, k)) kind;
          }

  -- no directory is below itself
  pub no_circle : (tag : Tag) (path : Path) → led_to o.shape.shown path ≡ Some (tag, Directory) → ¬ Lead tag tag
  no_circle tag path leads lead =
      let on = rows_lead tag path leads tag lead in
      let none = longer path on.more (one_path path tag leads (path ++ on.more) Directory on.leads) in
      omega (arith, none, on.some)

  -- and each to which a path leads is below the root
  pub below_root : (n : ℕ) (path : Path) → length path ≤ n → 1 ≤ length path → (tag : Tag) → led_to o.shape.shown path ≡ Some (tag, Directory) → Lead root_tag tag
  below_root zero path short some tag leads = absurd (omega (arith, short, some))
  below_root (suc n) [] short some tag leads = absurd (omega (arith, some))
  below_root (suc n) (name ∷ path) short some tag leads =
      let parts = last_parted name path in
      let low : length parts.0 ≤ n = omega (arith, parts.3, short) in
      by_front parts.0 parts.1 (ap (led_to o.shape.shown) (sym parts.2) ∙ leads) (below_root n parts.0 low)
    where
      of_root : (front : Path) (last : Name) → (r : PathRow front last tag Directory) → front ≡ [] → Lead root_tag tag
      of_root front last r none =
          let row = row_dir r.at r.row r.is in
          let dir : r.at.dir ≡ root_tag = ap (λ (l : Tag × Kind). l.0) (some_inj (sym r.leads ∙ ap (led_to o.shape.shown) none)) in
          subst (Lead root_tag) r.tag_is (leads_one r.at r.row row.0 dir row.1 r.kind_is)

      by_rest : (front : Path) (last : Name) (r : PathRow front last tag Directory) → (1 ≤ length front → (tag : Tag) → led_to o.shape.shown front ≡ Some (tag, Directory) → Lead root_tag tag) → (rest : Path) → front ≡ rest → Lead root_tag tag
      by_rest front last r below [] none = of_root front last r none
      by_rest front last r below (x ∷ xs) is =
          let row = row_dir r.at r.row r.is in
          let some : 1 ≤ length front = subst (λ (p : Path). 1 ≤ length p) (sym is) (omega arith) in
          subst (Lead root_tag) r.tag_is (leads_more r.at.dir r.at r.row row.0 (below some r.at.dir r.leads) refl row.1 r.kind_is)

      by_front : (front : Path) (last : Name) → led_to o.shape.shown (front ++ last ∷ []) ≡ Some (tag, Directory)
          → (1 ≤ length front → (tag : Tag) → led_to o.shape.shown front ≡ Some (tag, Directory) → Lead root_tag tag) → Lead root_tag tag
      by_front front last leads below = by_rest front last (path_row front last tag Directory leads) below front refl

  -- ---- numbers

  -- a path whose number is a tag's leads to the tag
  pub number_leads : (tag : Tag) (file : Bitfile) → o.shape.shown tag ≡ Some file → (path : Path) → get o.fileset.tree.paths path ≡ Some (number_of tag) → (of : Kind) × (led_to o.shape.shown path ≡ Some (tag, of))
  number_leads tag file shown path at = by_led (led_to o.shape.shown path) refl (sym (path_at o.shape.shown o.fileset o.fills.names (is_role d all stands.slots number entry o) path) ∙ at)
    where
      by_led : (led : Option (Tag × Kind)) → led_to o.shape.shown path ≡ led → option_map (λ (l : Tag × Kind). number_of l.0) led ≡ Some (number_of tag) → (of : Kind) × (led_to o.shape.shown path ≡ Some (tag, of))
      by_led None led is = nothing (number_of tag) is
      by_led (Some (other, of)) led is =
          let also = in_it path other of led in
          let same : other ≡ tag =
          one_tag other tag (o.fills.names.seq other also.file also.there) (o.fills.names.seq tag file shown) (some_same (number_of other) (number_of tag) is) in
          (of, led ∙ ap (λ t. Some (t, of)) same)

  pub leads_number : (path : Path) (tag : Tag) (of : Kind) → led_to o.shape.shown path ≡ Some (tag, of) → get o.fileset.tree.paths path ≡ Some (number_of tag)
  leads_number = number_at o.shape.shown o.fileset o.fills.names (is_role d all stands.slots number entry o)
