-- That the rows of what is in a slot are those of a fileset.
use Rattle.std.proofs.Common.{◌≡◌, ◌∙◌, ◌⊎◌, inl, inr, ⊎_elim, ℕ, zero, suc, ◌<◌, ◌≤◌, true, false, List, [], ◌∷◌, ◌++◌, length, Option, Some, None, IfSome, IsSome, is_some, slice_get, refl, sym, ap, subst, arith, true≢false}
use Rattle.std.proofs.lemmas.Bool.{cases_Bool, cases_lt}
use Rattle.std.proofs.lemmas.List.{length-map}
use Rattle.std.proofs.lemmas.Option.{slice_get_within}
use Rattle.std.specs.Option.{option_and_then}
use Rattle.fileset_shapes.specs.domain_base.Limits.{max_links}
use Rattle.fileset_shapes.specs.domain_base.declared.place.Home.{Home}
use Rattle.fileset_shapes.specs.domain_base.declared.place.Kind.{Kind}
use Rattle.fileset_shapes.specs.domain_base.declared.place.Kind.TheVariants.{Directory, File}
use Rattle.fileset_shapes.specs.domain_base.declared.place.Tag.{Tag}
use Rattle.fileset_shapes.specs.page_store.Bitfiles.{Bitfile, Bitfiles, IsDirectory}
use Rattle.fileset_shapes.specs.page_store.Pages.{Pages}
use Rattle.fileset_shapes.specs.directory_pages.Rows.{found}
use Rattle.fileset_shapes.specs.directory_pages.declared.row.Row.{Row}
use Rattle.fileset_shapes.specs.directory_rows.Directory.{row_pages, rows_in}
use Rattle.fileset_shapes.proofs.OfLegalHistories.ValidLemmas.{from_some_and, some_inj}
use Rattle.fileset_shapes.specs.fileset_values.Orders.{Path}
use Rattle.fileset_shapes.specs.fileset_table.Table.{Table}
use Rattle.fileset_shapes.specs.name_space.Names.{led_to, root_tag}
use Rattle.fileset_shapes.proofs.OfNameSpace.Leads.{led-name}
use Rattle.fileset_shapes.specs.domain_layout.CellRules.{of_clone}
use Rattle.fileset_shapes.specs.domain_layout.DirectoryRules.{AreAllRead, AreRowsTo, IsDirectoryFault, IsHere, IsRow, IsSecond, IsWrongFile, RowPlace, RowsLead}
use Rattle.fileset_shapes.specs.domain_layout.DirectoryRules.RowsLead.{one as leads_one, more as leads_more}
use Rattle.fileset_shapes.specs.domain_layout.Reached.{Frame}
use Rattle.fileset_shapes.specs.domain_layout.Seen.{SeenFile}
use Rattle.fileset_shapes.proofs.OfDomainLayout.Reached.{same_number}
use Rattle.fileset_shapes.specs.name_space.Rows.{AreAllThere, AreFilesetRows, AreNamesOf, IsBeside, IsCounted, NameIn, row_of}
use Rattle.filesets_filled.specs.Showing.{HaveTheirIndexes, ListsDirectories, ShowsFileset}
use Rattle.filesets_filled.proofs.Decided.{place_decided}
use Rattle.filesets_filled.proofs.Entries.{Entry, IsIn, distinct_once, in_map}
use Rattle.filesets_filled.proofs.RowFacts as facts

-- ---- lists

-- two that differ are two places
two_places : {X : Type 0} (xs : List X) (a b : X) → IsIn xs a → IsIn xs b → ¬ a ≡ b → 1 < length xs
two_places xs a b is is' differ =
    let low = slice_get_within xs is.0 a is.1 in
    let low' = slice_get_within xs is'.0 b is'.1 in
    ⊎_elim (λ less. omega (arith, less, low'))
    (λ most. ⊎_elim (λ less. omega (arith, less, low))
    (λ least.
    let same : is.0 ≡ is'.0 = omega (arith, most, least) in
    absurd (differ (some_inj (sym is.1 ∙ ap (slice_get xs) same ∙ is'.1)))) (cases_lt is'.0 is.0)) (cases_lt is.0 is'.0)

-- of several that are apart one is another than a given one
another : {X : Type 0} (xs : List X) → ((j k : ℕ) (x : X) → slice_get xs j ≡ Some x → slice_get xs k ≡ Some x → j ≡ k) → 1 < length xs → (a : X) → IsIn xs a → (b : X) × IsIn xs b × ¬ a ≡ b
another [] once some a is = facts.none_is_some a is.1
another (x ∷ []) once some a is = absurd (omega (arith, some))
another (x ∷ y ∷ xs) once some a (zero, at) =
    (y, (1, refl), λ same. let e : 0 ≡ 1 = once 0 1 y (at ∙ ap Some same) refl in absurd (omega (arith, e)))
another (x ∷ y ∷ xs) once some a (suc k, at) =
    (x, (0, refl), λ same. let e : 0 ≡ suc k = once 0 (suc k) x refl (at ∙ ap Some same) in absurd (omega (arith, e)))

some_kind : (of : Kind) → (of ≡ Directory) ⊎ (of ≡ File)
some_kind Directory = inl refl
some_kind File = inr refl

-- all rows are of files, or one is of a directory
all_files : (es : List Entry) → ((e : Entry) → IsIn es e → e.row.kind ≡ File) ⊎ ((e : Entry) × IsIn es e × (e.row.kind ≡ Directory))
all_files [] = inl (λ e is. facts.none_is_some e is.1)
all_files (e ∷ es) = ⊎_elim
    (λ directory. inr (e, (0, refl), directory))
    (λ file. ⊎_elim
    (λ rest. inl (λ x is. by_place x is.0 is.1 file rest))
    (λ more. inr (more.0, (suc more.1.0, more.1.1), more.2))
    (all_files es))
    (some_kind e.row.kind)
  where
    by_place : (x : Entry) (k : ℕ) → slice_get (e ∷ es) k ≡ Some x → e.row.kind ≡ File → ((e : Entry) → IsIn es e → e.row.kind ≡ File) → x.row.kind ≡ File
    by_place x zero at file rest = ap (λ (y : Entry). y.row.kind) (sym (some_inj at)) ∙ file
    by_place x (suc k) at file rest = rest x (k, at)

module _ (pages : Pages) (frame : Frame) (table : Table) (number : ℕ) (files : Tag → Option SeenFile) (shown : Bitfiles) (dirs : List Tag)
    (good : (home : Home) → ¬ IsDirectoryFault pages frame table home) (shows : ShowsFileset pages frame table number files shown) (lists : ListsDirectories shown dirs) where
  abbrev Seen : Tag → Bitfile → Type 0
  Seen tag file = facts.IsSeen pages frame table number files shown good shows tag file

  abbrev RowOf : NameIn → Tag → Kind → Type 0
  RowOf at tag of = facts.IsRowOf pages frame table number files shown good shows at tag of

  seen_of : (tag : Tag) (file : Bitfile) → shown tag ≡ Some file → Seen tag file
  seen_of = facts.seen_of pages frame table number files shown good shows

  row_of_name : (at : NameIn) (tag : Tag) (of : Kind) → row_of shown at ≡ Some (tag, of) → RowOf at tag of
  row_of_name = facts.row_of_name pages frame table number files shown good shows

  here_shown : (tag : Tag) → IsHere pages table number tag → IsSome (shown tag)
  here_shown = facts.here_shown pages frame table number files shown good shows

  abbrev to : Tag → List Entry
  to tag = facts.to pages frame table number files shown good shows dirs lists tag

  abbrev places_to : Tag → List RowPlace
  places_to tag = facts.places_to pages frame table number files shown good shows dirs lists tag

  abbrev names_to : Tag → List NameIn
  names_to tag = facts.names_to pages frame table number files shown good shows dirs lists tag

  -- a broken rule of a file or directory
  no_wrong_file : (tag : Tag) (file : Bitfile) (s : Seen tag file) (of : Kind) → s.seen.is.kind ≡ of → ¬ IsWrongFile pages frame table number tag s.cells s.seen of
  no_wrong_file tag file s of kind wrong = good s.home (inr (inr (inr (inr (record {
    number = number;
    tag = tag;
    cells = s.cells;
    seen = s.seen;
    has = s.has;
    at = s.first;
    wrong = subst (IsWrongFile pages frame table number tag s.cells s.seen) (sym kind) wrong;
  })))))

  -- what the set does not show is not there
  lost : (tag : Tag) → shown tag ≡ None → ¬ IsHere pages table number tag
  lost tag none here = let some : is_some (shown tag) ≡ true = here_shown tag here in true≢false (sym some ∙ ap is_some none)

  -- no two rows lead to what is lost, if one of them is of a directory; and not too many of files
  no_lost : (at : RowPlace) (row : Row) (home : Home) → IsRow pages frame table number at row home → shown row.tag ≡ None → ¬ IsSecond pages frame table number at row
  no_lost at row home is none second = good home (inr (inr (inr (inl (record {
    number = number;
    at = at;
    row = row;
    is = is;
    lost = lost row.tag none;
    wrong = inl second;
  })))))

  -- ---- kinds

  kinds : (at : NameIn) (tag : Tag) (of : Kind) → row_of shown at ≡ Some (tag, of) → (file : Bitfile) → shown tag ≡ Some file → file.kind ≡ of
  kinds at tag of leads file there =
      let r = row_of_name at tag of leads in
      facts.row_kind pages frame table number files shown good shows r.place r.row r.home r.is file (ap shown r.tag_is ∙ there) ∙ r.kind_is

  below : (at : NameIn) (tag : Tag) (of : Kind) → row_of shown at ≡ Some (tag, of) → ¬ tag ≡ root_tag
  below at tag of leads root =
      let r = row_of_name at tag of leads in
      facts.not_root pages frame table number files shown good shows r.place r.row r.home r.is (r.tag_is ∙ root)

  inside : (at : NameIn) (o : Option (Tag × Kind)) → row_of shown at ≡ o → IsSome o → IsDirectory shown at.dir
  inside at None leads some = absurd cc
  inside at (Some what) leads some =
      let r = row_of_name at what.0 what.1 leads in
      subst (IsDirectory shown) r.dir_is (facts.dir_there pages frame table number files shown good shows r.place.dir r.place.page r.home r.is.bytes r.is.is)

  -- what is shown has one kind of rows
  entry_kind : (tag : Tag) (file : Bitfile) → shown tag ≡ Some file → (e : Entry) → IsIn (to tag) e → e.row.kind ≡ file.kind
  entry_kind tag file there e among =
      let x = facts.entry_row pages frame table number files shown good shows dirs lists tag e among in
      sym (facts.row_kind pages frame table number files shown good shows e.at e.row x.home x.is file (ap shown x.leads ∙ there))

  rows_to : (tag : Tag) (of : Kind) → ((e : Entry) → IsIn (to tag) e → e.row.kind ≡ of) → AreRowsTo pages frame table number tag of (places_to tag)
  rows_to tag of all = facts.rows_to pages frame table number files shown good shows dirs lists tag of all

  place_in : (tag : Tag) (place : RowPlace) (row : Row) (home : Home) → IsRow pages frame table number place row home → row.tag ≡ tag → IsIn (places_to tag) place
  place_in tag place row home is leads =
      let k = facts.row_entry pages frame table number files shown good shows dirs lists tag place row home is leads in
      in_map (λ (e : Entry). e.at) (to tag) (record { at = place; row = row }) k

  -- ---- one row of a directory

  one : (a b : NameIn) (tag : Tag) (of : Kind) → row_of shown a ≡ Some (tag, Directory) → row_of shown b ≡ Some (tag, of) → a ≡ b
  one a b tag of leads leads' =
      let x = row_of_name a tag Directory leads in
      let y = row_of_name b tag of leads' in
      ⊎_elim
      (λ same.
      let row : x.row ≡ y.row = facts.same_row pages frame table number files shown good shows y.place x.row y.row x.home y.home (subst (λ (p : RowPlace). IsRow pages frame table number p x.row x.home) same x.is) y.is in
      let dirs' : a.dir ≡ b.dir = sym x.dir_is ∙ ap (λ (p : RowPlace). p.dir) same ∙ y.dir_is in
      let names : a.name ≡ b.name = sym x.name_is ∙ ap (λ (r : Row). r.name) row ∙ y.name_is in
      λ i. record { dir = dirs' i; name = names i })
      (λ differ. absurd (by_file x y differ (shown tag) refl))
      (place_decided x.place y.place)
    where
      by_file : (x : RowOf a tag Directory) (y : RowOf b tag of) → ¬ x.place ≡ y.place → (o : Option Bitfile) → shown tag ≡ o → ⊥
      by_file x y differ None none = no_lost x.place x.row x.home x.is (ap shown x.tag_is ∙ none) (y.place, y.row, y.home, y.is, differ, x.tag_is ∙ sym y.tag_is, inl x.kind_is)
      by_file x y differ (Some file) there =
          let s = seen_of tag file there in
          let kind : file.kind ≡ Directory = kinds a tag Directory leads file there in
          let rows = rows_to tag Directory (λ e among. entry_kind tag file there e among ∙ kind) in
          let two = two_places (places_to tag) x.place y.place (place_in tag x.place x.row x.home x.is x.tag_is) (place_in tag y.place y.row y.home y.is y.tag_is) differ in
          no_wrong_file tag file s Directory (sym s.shown_so.what.kind ∙ kind)
          (inr (inr (inr (below a tag Directory leads, (places_to tag, rows, inl two)))))

  -- ---- where no directory is missing

  lead : (tag : Tag) → RowsLead pages frame table number root_tag tag → (path : Path) × (led_to shown path ≡ Some (tag, Directory))
  lead tag leads = elim leads as (λ tag leads. (path : Path) × (led_to shown path ≡ Some (tag, Directory))) [
    | leads_one at row home from is kind ↦ ([] ++ row.name ∷ [], on [] root_tag refl at row home from is kind)
    | leads_more middle at row home (before → way) from is kind ↦ (way.0 ++ row.name ∷ [], on way.0 middle way.1 at row home from is kind)
  ]
    where
      on : (path : Path) (dir : Tag) → led_to shown path ≡ Some (dir, Directory) → (at : RowPlace) (row : Row) (home : Home) → at.dir ≡ dir → IsRow pages frame table number at row home → row.kind ≡ Directory
          → led_to shown (path ++ row.name ∷ []) ≡ Some (row.tag, Directory)
      on path dir led at row home from is kind =
          led-name shown path row.name ∙ ap (option_and_then (λ (l : Tag × Kind). found row.name (rows_in shown l.0))) (led ∙ ap (λ (d : Tag). Some (d, Directory)) (sym from))
          ∙ facts.name_of_row pages frame table number files shown good shows at row home is ∙ ap (λ (k : Kind). Some (row.tag, k)) kind

  shown_here : (tag : Tag) → IsSome (shown tag) → IsHere pages table number tag
  shown_here tag some = facts.shown_here pages frame table number files shown good shows tag (shown tag) refl some

  all_read : AreAllThere shown → AreAllRead pages frame table number
  all_read all = ⊎_elim
      (λ clone. inr (record {
        root = shown_here root_tag all.root;
        reached = λ tag leads. let way = lead tag leads in shown_here tag (all.reached way.0 tag way.1);
      }))
      (λ original. inl original)
      (cases_Bool (of_clone (slice_get table.slots number)))

  reached : AreAllThere shown → (tag : Tag) → IsDirectory shown tag → ¬ IsBeside shown tag
  reached all tag directory beside =
      let file = from_some_and (λ (f : Bitfile). f.kind ≡ Directory) (shown tag) directory in
      let s = seen_of tag file.0 file.1 in
      let rows = rows_to tag Directory (λ e among. entry_kind tag file.0 file.1 e among ∙ file.2) in
      no_wrong_file tag file.0 s Directory (sym s.shown_so.what.kind ∙ file.2)
      (inr (inr (inr (
        (λ root. beside [] (ap (λ (t : Tag). Some (t, Directory)) (sym root))),
        (places_to tag, rows, inr (inr (all_read all, λ leads. let way = lead tag leads in beside way.0 way.1))),
      ))))

  -- ---- how many rows lead to a tag

  count_file : (tag : Tag) (file : Bitfile) → shown tag ≡ Some file → IsCounted shown (Some file) (length (places_to tag))
  count_file tag file there =
      let s = seen_of tag file there in
      let links = shows.links tag s.seen s.there in
      let same = s.shown_so.what.links in (
        omega (arith, links.1, same),
        omega (arith, links.0, same),
        (λ kind. same ∙ ⊎_elim (λ is. is)
            (λ other. absurd (no_wrong_file tag file s Directory (sym s.shown_so.what.kind ∙ kind) (inr (inl other)))) (same_number s.seen.is.links 1)),
        (λ kind.
            let rows = rows_to tag File (λ e among. entry_kind tag file there e among ∙ kind) in
            let wrong = no_wrong_file tag file s File (sym s.shown_so.what.kind ∙ kind) in
            let most : length (places_to tag) ≤ s.seen.is.links = ⊎_elim (λ more. absurd (wrong (inr (places_to tag, rows, inl more)))) (λ most. most) (cases_lt s.seen.is.links (length (places_to tag))) in
            (omega (arith, most, same), λ all. ⊎_elim (λ fewer. absurd (wrong (inr (places_to tag, rows, inr (all_read all, fewer))))) (λ least. omega (arith, least, most, same)) (cases_lt (length (places_to tag)) s.seen.is.links))),
      )

  count_lost : (tag : Tag) → shown tag ≡ None → ¬ max_links < length (places_to tag)
  count_lost tag none many = ⊎_elim files_only with_directory (all_files (to tag))
    where
      long : length (to tag) ≡ length (places_to tag)
      long = sym (length-map (to tag) (λ (e : Entry). e.at))

      first : (es : List Entry) → 0 < length es → (e : Entry) × IsIn es e
      first [] some = absurd (omega (arith, some))
      first (e ∷ es) some = (e, (0, refl))

      files_only : ((e : Entry) → IsIn (to tag) e → e.row.kind ≡ File) → ⊥
      files_only all =
          let e = first (to tag) (omega (arith, many, long)) in
          let x = facts.entry_row pages frame table number files shown good shows dirs lists tag e.0 e.1 in
          let rows = rows_to tag File all in
          good x.home (inr (inr (inr (inl (record {
            number = number;
            at = e.0.at;
            row = e.0.row;
            is = x.is;
            lost = lost e.0.row.tag (ap shown x.leads ∙ none);
            wrong = inr (places_to tag, subst (λ (k : Kind). AreRowsTo pages frame table number e.0.row.tag k (places_to tag)) (sym (all e.0 e.1)) (subst (λ (t : Tag). AreRowsTo pages frame table number t File (places_to tag)) (sym x.leads) rows), many);
          })))))

      with_directory : (e : Entry) × IsIn (to tag) e × (e.row.kind ≡ Directory) → ⊥
      with_directory (e, among, kind) =
          let x = facts.entry_row pages frame table number files shown good shows dirs lists tag e among in
          let distinct = distinct_once (to tag) (facts.distinct pages frame table number files shown good shows dirs lists tag) in
          let other = another (to tag) distinct (omega (arith, many, long)) e among in
          let y = facts.entry_row pages frame table number files shown good shows dirs lists tag other.0 other.1 in
          no_lost e.at e.row x.home x.is (ap shown x.leads ∙ none)
          (other.0.at, other.0.row, y.home, y.is, (λ same. other.2 (facts.same_entry pages frame table number files shown good shows dirs lists tag e other.0 among other.1 same)), x.leads ∙ sym y.leads, inl kind)

  counted : (tag : Tag) → (names : List NameIn) × AreNamesOf shown tag names × IsCounted shown (shown tag) (length names)
  counted tag = (
    names_to tag,
    facts.are_names pages frame table number files shown good shows dirs lists tag,
    subst (IsCounted shown (shown tag)) (sym (facts.names_long pages frame table number files shown good shows dirs lists tag)) (by_file (shown tag) refl),
  )
    where
      by_file : (o : Option Bitfile) → shown tag ≡ o → IsCounted shown o (length (places_to tag))
      by_file None none = ⊎_elim (λ many. absurd (count_lost tag none many)) (λ few. few) (cases_lt max_links (length (places_to tag)))
      by_file (Some file) there = count_file tag file there

  -- ---- all of it

  root : (file : Bitfile) → shown root_tag ≡ Some file → file.kind ≡ Directory
  root file there =
      let s = seen_of root_tag file there in
      ⊎_elim (λ directory. directory) (λ is. absurd (no_wrong_file root_tag file s File (sym s.shown_so.what.kind ∙ is) (inl refl))) (some_kind file.kind)

  if_there : (tag : Tag) (of : Kind) (o : Option Bitfile) → shown tag ≡ o → ((file : Bitfile) → shown tag ≡ Some file → file.kind ≡ of) → IfSome o (λ file. file.kind ≡ of)
  if_there tag of None is each = tt
  if_there tag of (Some file) is each = each file is

  pub are_rows : HaveTheirIndexes shown → AreFilesetRows shown
  are_rows indexes = record {
    directories = λ dir directory. record {
      directory = directory;
      pages = facts.all_by_place (row_pages shown dir) (λ k bytes at. facts.good_page pages frame table number files shown good shows dir k bytes at);
      names = facts.once pages frame table number files shown good shows dir;
      index = indexes dir directory;
    };
    seq = λ tag file there. let s = seen_of tag file there in shows.seq tag s.seen s.there;
    root = root;
    inside = λ at some. inside at (row_of shown at) refl some;
    kinds = λ at tag of leads. if_there tag of (shown tag) refl (kinds at tag of leads);
    below = below;
    one = one;
    counted = counted;
    reached = reached;
  }

  -- each row of an original leads to what is there
  pub all_led : of_clone (slice_get table.slots number) ≡ false → (at : NameIn) (tag : Tag) (of : Kind) → row_of shown at ≡ Some (tag, of) → IsSome (shown tag)
  all_led original at tag of leads = by_file (shown tag) refl
    where
      by_file : (o : Option Bitfile) → shown tag ≡ o → IsSome o
      by_file (Some file) there = refl
      by_file None none =
          let r = row_of_name at tag of leads in
          absurd (good r.home (inr (inr (inl (record {
            number = number;
            at = r.place;
            row = r.row;
            is = r.is;
            wrong = inr (inl (original, λ has. lost r.row.tag (ap shown r.tag_is ∙ none) (has.0, has.1, has.2)));
          })))))
