-- Where a domain stands, as many rows lead to a file of an original as it has links, and one to a directory.
use Rattle.std.proofs.Common.{◌≡◌, ◌∙◌, ℕ, suc, ◌+◌, Bool, true, cond, List, [], ◌∷◌, ◌++◌, length, map, count_by, Option, Some, None, is_some, slice_get, refl, sym, ap, arith}
use Rattle.std.proofs.lemmas.List.{length-map}
use Rattle.std.proofs.lemmas.List.Sums.{sum_by-cons}
use Rattle.std.specs.FinMap.{get}
use Rattle.std.specs.Option.{option_and_then, option_map, option_map_or}
use Rattle.domain_memory.specs.domain_base.declared.place.Kind.{Kind}
use Rattle.domain_memory.specs.domain_base.declared.place.Kind.TheVariants.{Directory, File}
use Rattle.domain_memory.specs.domain_base.declared.place.Tag.{Tag}
use Rattle.domain_memory.specs.page_store.Bitfiles.{Bitfile}
use Rattle.domain_memory.specs.directory_pages.RowPage.{rows_of}
use Rattle.domain_memory.specs.directory_pages.declared.row.Row.{Row}
use Rattle.domain_memory.specs.directory_rows.Directory.{row_pages}
use Rattle.domain_memory.proofs.OfLegalHistories.ValidLemmas.{some_inj}
use Rattle.domain_memory.specs.fileset_model.Filesets.{FilesetMap}
use Rattle.domain_memory.specs.fileset_values.Orders.{Name, Path}
use Rattle.domain_memory.specs.name_space.Rows.{NameIn}
use Rattle.domain_memory.proofs.OfNameSpace.Counted.{names_counted, one_path_counts}
use Rattle.domain_memory.proofs.OfNameSpace.OneWay.{same_fronts, same_names}
use Rattle.domain_memory.specs.fileset_table.declared.slot.FilesetEntry.{FilesetEntry}
use Rattle.domain_memory.specs.fileset_table.declared.slot.SlotItem.TheVariants as slot
use Rattle.domain_memory.specs.name_space.Names.{led_to, number_of}
use Rattle.domain_memory.specs.domain_layout.DirectoryRules.{AreRowsTo, RowPlace}
use Rattle.domain_memory.proofs.OfDomainLayout.OnePage.{some_same}
use Rattle.domain_memory.specs.domain_standing.Domain.{DomainNow, item_in}
use Rattle.domain_memory.specs.domain_standing.Standing.{StandsDomain}
use Rattle.domain_memory.specs.standing_laws.Sound.{StandsSound}
use Rattle.no_faults.proofs.Originals.{IsOriginalSlot, is_role}
use Rattle.no_faults.proofs.RowPaths.{IsDirRow, PathRow, dir_row, in_it, its_path, last_parted, leads_number, number_leads, one_path, pages_are, path_row, row_dir, row_on, same_row}
use Rattle.domain_memory.proofs.OfFilesetsReading.Ways.{get_map}
use Rattle.no_faults.proofs.Ways.{at_of, contains_of, map_at, nothing}

count_more : {X : Type 0} (p : X → Bool) (x : X) (xs : List X) → count_by p (x ∷ xs) ≡ cond (p x) 1 0 + count_by p xs
count_more p x xs = sum_by-cons (λ y. cond (p y) 1 0) x xs

all_counted : {X : Type 0} (p : X → Bool) (xs : List X) → ((k : ℕ) (x : X) → slice_get xs k ≡ Some x → p x ≡ true) → count_by p xs ≡ length xs
all_counted p [] each = refl
all_counted p (x ∷ xs) each =
    let rest = all_counted p xs (λ k y at. each (suc k) y at) in
    let first : count_by p (x ∷ xs) ≡ 1 + count_by p xs = count_more p x xs ∙ ap (λ b. cond b 1 0 + count_by p xs) (each 0 x refl) in
    omega (arith, first, rest)

file_directory : ¬ File ≡ Directory
file_directory same = cc

module _ (d : DomainNow) (all : FilesetMap) (stands : StandsDomain d all) (sound : StandsSound d stands.files stands.indexes)
    (number : ℕ) (entry : FilesetEntry) (there : item_in d number ≡ Some (slot.Original entry)) (o : IsOriginalSlot d all stands.slots number entry) where
  -- ---- directories

  -- one path leads to a directory
  pub directory_links : (tag : Tag) (file : Bitfile) → o.shape.shown tag ≡ Some file → file.kind ≡ Directory → file.links ≡ 1
  directory_links tag file shown kind =
      let path = its_path d all stands sound number entry there o tag file shown kind in
      let is = in_it d all stands sound number entry there o path.0 tag Directory path.1 in
      let same : is.file ≡ file = some_same is.file file (sym is.there ∙ shown) in
      ap (λ (f : Bitfile). f.links) (sym same) ∙ is.links
      ∙ one_path_counts o.fileset.tree.paths path.0 (number_of tag) (leads_number d all stands sound number entry there o path.0 tag Directory path.1)
      (λ other leads.
      let also = number_leads d all stands sound number entry there o tag file shown other leads in
      one_path d all stands sound number entry there o path.0 tag path.1 other also.0 also.1)

  -- ---- the path of a name

  abbrev path_by : (dir : Tag) (name : Name) (f : Option Bitfile) → o.shape.shown dir ≡ f → Option Path
  path_by dir name None shown = None
  path_by dir name (Some file) shown = Some ((o.fills.names.live (is_role d all stands.slots number entry o) dir file shown).0 ++ name ∷ [])

  path_of : NameIn → Option Path
  path_of at = path_by at.dir at.name (o.shape.shown at.dir) refl

  record IsPathOf (at : NameIn) (path : Path) : Type 0 where
    front : Path
    of : Kind
    leads : led_to o.shape.shown front ≡ Some (at.dir, of)
    whole : front ++ at.name ∷ [] ≡ path

  path_is : (at : NameIn) (path : Path) → path_of at ≡ Some path → IsPathOf at path
  unfolding path_of
  path_is at path is = by_file (o.shape.shown at.dir) refl is
    where
      by_file : (f : Option Bitfile) (shown : o.shape.shown at.dir ≡ f) → path_by at.dir at.name f shown ≡ Some path → IsPathOf at path
      by_file None shown is = nothing path is
      by_file (Some file) shown is =
          let live = o.fills.names.live (is_role d all stands.slots number entry o) at.dir file shown in
          record { front = live.0; of = file.kind; leads = live.1; whole = some_same (live.0 ++ at.name ∷ []) path is }

  -- a directory's names have paths
  path_there : (at : NameIn) (file : Bitfile) → o.shape.shown at.dir ≡ Some file → file.kind ≡ Directory → (front : Path) → led_to o.shape.shown front ≡ Some (at.dir, Directory) → path_of at ≡ Some (front ++ at.name ∷ [])
  unfolding path_of
  path_there at file shown kind front leads = by_file (o.shape.shown at.dir) refl
    where
      by_file : (f : Option Bitfile) (also : o.shape.shown at.dir ≡ f) → path_by at.dir at.name f also ≡ Some (front ++ at.name ∷ [])
      by_file None also = nothing file (sym also ∙ shown)
      by_file (Some other) also =
          let live = o.fills.names.live (is_role d all stands.slots number entry o) at.dir other also in
          ap (λ p. Some (p ++ at.name ∷ [])) (one_path d all stands sound number entry there o front at.dir leads live.0 other.kind live.1)

  apart : (a b : NameIn) (path : Path) → path_of a ≡ Some path → path_of b ≡ Some path → a ≡ b
  apart a b path is is' =
      let x = path_is a path is in
      let y = path_is b path is' in
      let e : x.front ++ a.name ∷ [] ≡ y.front ++ b.name ∷ [] = x.whole ∙ sym y.whole in
      let fronts = same_fronts x.front y.front a.name b.name e in
      let names = same_names x.front y.front a.name b.name e in
      let dirs : a.dir ≡ b.dir = ap (λ (p : Tag × Kind). p.0) (some_inj (sym x.leads ∙ ap (led_to o.shape.shown) fronts ∙ y.leads)) in
      (λ i. record { dir = dirs i; name = names i })

  -- ---- the name of a row

  abbrev row_at : RowPlace → Option Row
  row_at at = option_and_then (λ bytes. slice_get (rows_of bytes) at.place) (slice_get (row_pages o.shape.shown at.dir) at.page)

  abbrev name_in : RowPlace → NameIn
  name_in at = record { dir = at.dir; name = option_map_or (λ (row : Row). row.name) (row_at at) [] }

  row_is : (at : RowPlace) (row : Row) → IsDirRow d all stands sound number entry there o at row → row_at at ≡ Some row
  row_is at row r =
      ap (λ ps. option_and_then (λ bytes. slice_get (rows_of bytes) at.place) (slice_get ps at.page)) (pages_are d all stands sound number entry there o at.dir r.file r.shown r.kind)
      ∙ ap (option_and_then (λ bytes. slice_get (rows_of bytes) at.place)) r.page ∙ r.place

  name_is : (at : RowPlace) (row : Row) → IsDirRow d all stands sound number entry there o at row → name_in at ≡ record { dir = at.dir; name = row.name }
  name_is at row r = ap (λ o. record { dir = at.dir; name = option_map_or (λ (row : Row). row.name) o [] }) (row_is at row r)

  -- ---- the rows that lead to a file

  module _ (tag : Tag) (file : Bitfile) (shown : o.shape.shown tag ≡ Some file) (kind : file.kind ≡ File) (rows : List RowPlace) (are : AreRowsTo d.pages d.frame d.table number tag File rows) where
    -- what is in the list is a row
    record IsListed (at : RowPlace) : Type 0 where
      row : Row
      is : IsDirRow d all stands sound number entry there o at row
      tag_is : row.tag ≡ tag
      kind_is : row.kind ≡ File

    listed : (k : ℕ) (at : RowPlace) → slice_get rows k ≡ Some at → IsListed at
    listed k at is =
        let r = (are.each at).0 (contains_of rows k at is) in
        record { row = r.0; is = dir_row d all stands sound number entry there o at r.0 r.1 r.2; tag_is = r.3; kind_is = r.4 }

    names : List NameIn
    names = map name_in rows

    -- the rows' names stand once
    once : (j k : ℕ) (at : NameIn) → slice_get (map name_in rows) j ≡ Some at → slice_get (map name_in rows) k ≡ Some at → j ≡ k
    once j k at one other =
        let x = map_at name_in rows j at one in
        let y = map_at name_in rows k at other in
        let r = listed j x.0 x.1 in
        let s = listed k y.0 y.1 in
        let same : record { dir = x.0.dir; name = r.row.name } ≡ record { dir = y.0.dir; name = s.row.name } = sym (name_is x.0 r.row r.is) ∙ x.2 ∙ sym y.2 ∙ name_is y.0 s.row s.is in
        let place = same_row d all stands sound number entry there o x.0 y.0 r.row s.row r.is s.is (ap (λ (n : NameIn). n.dir) same) (ap (λ (n : NameIn). n.name) same) in
        are.once j k x.0 x.1 (y.1 ∙ ap Some (sym place))

    path_leads : (at : RowPlace) (r : IsListed at) → (front : Path) × (led_to o.shape.shown front ≡ Some (at.dir, Directory)) × (path_of (name_in at) ≡ Some (front ++ r.row.name ∷ []))
    path_leads at r =
        let path = its_path d all stands sound number entry there o at.dir r.is.file r.is.shown r.is.kind in
        (path.0, path.1, ap path_of (name_is at r.row r.is) ∙ path_there (record { dir = at.dir; name = r.row.name }) r.is.file r.is.shown r.is.kind path.0 path.1)

    leads : (k : ℕ) (at : NameIn) (path : Path) → slice_get (map name_in rows) k ≡ Some at → path_of at ≡ Some path → get o.fileset.tree.paths path ≡ Some (number_of tag)
    leads k at path is has =
        let x = map_at name_in rows k at is in
        let r = listed k x.0 x.1 in
        let p = path_leads x.0 r in
        let same : p.0 ++ r.row.name ∷ [] ≡ path = some_same (p.0 ++ r.row.name ∷ []) path (sym p.2 ∙ ap path_of x.2 ∙ has) in
        leads_number d all stands sound number entry there o path tag File
        (ap (led_to o.shape.shown) (sym same) ∙ row_on d all stands sound number entry there o x.0 r.row r.is p.0 p.1 ∙ (λ i. Some (r.tag_is i, r.kind_is i)))

    comes : (path : Path) → get o.fileset.tree.paths path ≡ Some (number_of tag) → (k : ℕ) × (at : NameIn) × (slice_get (map name_in rows) k ≡ Some at) × (path_of at ≡ Some path)
    comes path has =
        let led = number_leads d all stands sound number entry there o tag file shown path has in
        let is = in_it d all stands sound number entry there o path tag led.0 led.1 in
        let same : is.file ≡ file = some_same is.file file (sym is.there ∙ shown) in
        let of : led.0 ≡ File = sym is.kind ∙ ap (λ (f : Bitfile). f.kind) same ∙ kind in
        by_path path (led.1 ∙ ap (λ k. Some (tag, k)) of)
      where
        of_row : (front : Path) (last : Name) → PathRow d all stands sound number entry there o front last tag File
            → (k : ℕ) × (at : NameIn) × (slice_get (map name_in rows) k ≡ Some at) × (path_of at ≡ Some (front ++ last ∷ []))
        of_row front last r =
            let home = row_dir d all stands sound number entry there o r.at r.row r.is in
            let k = at_of rows r.at ((are.each r.at).1 (r.row, home.0, home.1, r.tag_is, r.kind_is)) in (
              k.0,
              name_in r.at,
              get_map name_in rows k.0 ∙ ap (option_map name_in) k.1,
              ap path_of (name_is r.at r.row r.is) ∙ path_there (record { dir = r.at.dir; name = r.row.name }) r.is.file r.is.shown r.is.kind front r.leads ∙ ap (λ n. Some (front ++ n ∷ [])) r.name_is,
            )

        by_path : (path : Path) → led_to o.shape.shown path ≡ Some (tag, File) → (k : ℕ) × (at : NameIn) × (slice_get (map name_in rows) k ≡ Some at) × (path_of at ≡ Some path)
        by_path [] led = absurd (file_directory (sym (ap (λ (p : Tag × Kind). p.1) (some_inj led))))
        by_path (name ∷ path) led =
            let parts = last_parted name path in
            let r = of_row parts.0 parts.1 (path_row d all stands sound number entry there o parts.0 parts.1 tag File (ap (led_to o.shape.shown) (sym parts.2) ∙ led)) in
            (r.0, r.1, r.2, r.3 ∙ ap Some (sym parts.2))

    pub file_links : length rows ≡ file.links
    file_links =
        let path = o.fills.names.live (is_role d all stands.slots number entry o) tag file shown in
        let is = in_it d all stands sound number entry there o path.0 tag file.kind path.1 in
        let same : is.file ≡ file = some_same is.file file (sym is.there ∙ shown) in
        sym (length-map rows name_in)
        ∙ sym (all_counted (λ at. is_some (path_of at)) (map name_in rows) (λ k at has. let x = map_at name_in rows k at has in ap is_some (ap path_of (sym x.2) ∙ (path_leads x.0 (listed k x.0 x.1)).2)))
        ∙ sym (names_counted (number_of tag) path_of apart (map name_in rows) o.fileset.tree.paths once leads comes)
        ∙ sym is.links ∙ ap (λ (f : Bitfile). f.links) same
