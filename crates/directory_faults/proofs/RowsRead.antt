-- Rows that are read page by page, and directory by directory.
use Rattle.std.proofs.Common.{◌≡◌, ◌∙◌, ◌⊎◌, ◌↔◌, inl, inr, ℕ, ◌+◌, ◌<◌, ◌≤◌, List, [], ◌++◌, length, Option, Some, None, Contains, slice_get, refl, sym, ap, subst, arith, ⊎_elim}
use Rattle.std.proofs.lemmas.Bool.{cases_lt}
use Rattle.std.proofs.lemmas.Option.{slice_get_within}
use Rattle.std.proofs.lemmas.List.Elements.{Contains-append_cases, Contains-append_left, Contains-append_right}
use Rattle.std.specs.Option.{option_and_then}
use Rattle.fileset_shapes.specs.domain_base.declared.place.Home.{Home}
use Rattle.fileset_shapes.specs.domain_base.declared.place.Kind.TheVariants.{Directory}
use Rattle.fileset_shapes.specs.domain_base.declared.place.Tag.{Tag}
use Rattle.fileset_shapes.specs.page_store.Pages.{Pages}
use Rattle.fileset_shapes.specs.fileset_files.declared.attributes.Attributes.{Attributes}
use Rattle.fileset_shapes.specs.directory_pages.RowPage.{IsDirPage, rows_of}
use Rattle.fileset_shapes.specs.fileset_table.Table.{Table}
use Rattle.fileset_shapes.specs.domain_layout.DirectoryRules.{Has, IsEarlier}
use Rattle.fileset_shapes.specs.domain_layout.Reached.{Frame, IsWithin}
use Rattle.directory_faults.specs.Rows.{Adds, AreInOrder, AreRowsIn, IsRowAt, IsRowIn, IsRowOf, IsRowOn, IsRowOnPages, place_of, rows_placed}
use Rattle.directory_faults.specs.There.{AreFilesIn}
use Rattle.directory_faults.specs.declared.rows.PageAt.{PageAt}
use Rattle.directory_faults.specs.declared.rows.RowThere.{RowThere}
use Rattle.directory_faults.specs.declared.there.FileThere.{FileThere}
use Rattle.directory_faults.proofs.InOrder.{add_as, add_both, add_none, order_append, placed_at, placed_back}
use Rattle.directory_faults.proofs.Inserted.{among_at, at_among}
use Rattle.directory_faults.proofs.RowPages.{listed}

none_some : {X : Type 0} (x : X) → None ≡ Some x → ⊥
none_some x e = cc

some_same : {X : Type 0} (a b : X) → Some a ≡ Some b → a ≡ b
some_same a b e = cc

module _ (pages : Pages) (frame : Frame) where
  -- ---- a page

  module _ (at : PageAt) (within : IsWithin frame at.home) (bytes : List ℕ) (there : pages at.home ≡ Some bytes) where
    pub page_added : IsDirPage bytes → (old new : List RowThere) → new ≡ old ++ rows_placed at 0 (rows_of bytes) → Adds (IsRowAt pages frame at) old new
    page_added good old new is = record { more = rows_placed at 0 (rows_of bytes); behind = is; are = record { each = λ r. (to_row r, from_row r); order = order } }
      where
        to_row : (r : RowThere) → Contains (rows_placed at 0 (rows_of bytes)) r → IsRowAt pages frame at r
        to_row r among =
            let k = among_at (rows_placed at 0 (rows_of bytes)) r among in
            let placed = placed_back at 0 (rows_of bytes) k.0 r k.1 in
            let same : r.place ≡ k.0 = omega (arith, placed.place_is) in
            record { at_is = placed.at_is; within = within; bytes = bytes; there = there; good = good; is = ap (slice_get (rows_of bytes)) same ∙ placed.there }

        from_row : (r : RowThere) → IsRowAt pages frame at r → Contains (rows_placed at 0 (rows_of bytes)) r
        from_row r is =
            let same : is.bytes ≡ bytes = some_same is.bytes bytes (sym is.there ∙ there) in
            let found : slice_get (rows_of bytes) r.place ≡ Some r.row = ap (λ b. slice_get (rows_of b) r.place) (sym same) ∙ is.is in
            let place : 0 + r.place ≡ r.place = omega arith in
            let whole : record { at = at; place = 0 + r.place; row = r.row } ≡ r = (λ i. record { at = sym is.at_is i; place = place i; row = r.row }) in
            at_among (rows_placed at 0 (rows_of bytes)) r.place r (placed_at at 0 (rows_of bytes) r.place r.row found ∙ ap Some whole)

        order : AreInOrder (rows_placed at 0 (rows_of bytes))
        order i j one other at_i at_j less dir =
            let a = placed_back at 0 (rows_of bytes) i one at_i in
            let b = placed_back at 0 (rows_of bytes) j other at_j in
            inr (ap (λ (p : PageAt). p.page) a.at_is ∙ sym (ap (λ (p : PageAt). p.page) b.at_is), omega (arith, a.place_is, b.place_is, less))

    pub bad_page : ¬ IsDirPage bytes → (old : List RowThere) → Adds (IsRowAt pages frame at) old old
    bad_page bad old = add_none (IsRowAt pages frame at) old (λ (r : RowThere) (is : IsRowAt pages frame at r). bad (subst IsDirPage (some_same is.bytes bytes (sym is.there ∙ there)) is.good))

  pub no_page : (at : PageAt) → pages at.home ≡ None → (old : List RowThere) → Adds (IsRowAt pages frame at) old old
  no_page at none old = add_none (IsRowAt pages frame at) old (λ (r : RowThere) (is : IsRowAt pages frame at r). none_some is.bytes (sym none ∙ is.there))

  pub outside : (at : PageAt) → ¬ IsWithin frame at.home → (old : List RowThere) → Adds (IsRowAt pages frame at) old old
  outside at away old = add_none (IsRowAt pages frame at) old (λ (r : RowThere) (is : IsRowAt pages frame at r). away is.within)

  -- ---- a directory

  module _ (file : FileThere) where
    abbrev pub page_at : ℕ → Home → PageAt
    page_at page home = record { dir = file.tag; page = page; home = home }

    pub on_page : (page : ℕ) (home : Home) → slice_get file.seen.homes.items page ≡ Some (Some home) → (old new : List RowThere)
        → Adds (IsRowAt pages frame (page_at page home)) old new → Adds (IsRowOn pages frame file page) old new
    on_page page home there old new = add_as (IsRowAt pages frame (page_at page home)) (IsRowOn pages frame file page) old new (λ r. (to_row r, from_row r))
      where
        to_row : (r : RowThere) → IsRowAt pages frame (page_at page home) r → IsRowOn pages frame file page r
        to_row r is = record {
          page_is = ap (λ (p : PageAt). p.page) is.at_is;
          dir = ap (λ (p : PageAt). p.dir) is.at_is;
          listed = there ∙ ap (λ (p : PageAt). Some (Some p.home)) (sym is.at_is);
          is = subst (λ (p : PageAt). IsRowAt pages frame p r) (sym is.at_is) is;
        }

        from_row : (r : RowThere) → IsRowOn pages frame file page r → IsRowAt pages frame (page_at page home) r
        from_row r is =
            let home_is : r.at.home ≡ home = some_same r.at.home home (some_same (Some r.at.home) (Some home) (sym is.listed ∙ there)) in
            let same : r.at ≡ page_at page home = (λ i. record { dir = is.dir i; page = is.page_is i; home = home_is i }) in
            subst (λ (p : PageAt). IsRowAt pages frame p r) same is.is

    pub no_home : (page : ℕ) → slice_get file.seen.homes.items page ≡ Some None → (old : List RowThere) → Adds (IsRowOn pages frame file page) old old
    no_home page there old =
        add_none (IsRowOn pages frame file page) old
        (λ (r : RowThere) (is : IsRowOn pages frame file page r). none_some r.at.home (some_same None (Some r.at.home) (sym there ∙ is.listed)))

    pub first_pages : (old : List RowThere) → Adds (IsRowOnPages pages frame file 0) old old
    first_pages old = add_none (IsRowOnPages pages frame file 0) old (λ (r : RowThere) (is : IsRowOnPages pages frame file 0 r). omega (arith, is.0))

    pub next_page : (number : ℕ) (old mid new : List RowThere) → Adds (IsRowOnPages pages frame file number) old mid → Adds (IsRowOn pages frame file number) mid new → Adds (IsRowOnPages pages frame file (number + 1)) old new
    next_page number old mid new front page =
        add_both (IsRowOnPages pages frame file number) (IsRowOn pages frame file number) (IsRowOnPages pages frame file (number + 1)) old mid new front page (λ r. (apart r, joined r)) across
      where
        apart : (r : RowThere) → IsRowOnPages pages frame file (number + 1) r → IsRowOnPages pages frame file number r ⊎ IsRowOn pages frame file number r
        apart r (below, is) =
            ⊎_elim (λ low. inl (low, is))
            (λ high. let same : r.at.page ≡ number = omega (arith, below, high) in inr (subst (λ n. IsRowOn pages frame file n r) same is)) (cases_lt r.at.page number)

        joined : (r : RowThere) → IsRowOnPages pages frame file number r ⊎ IsRowOn pages frame file number r → IsRowOnPages pages frame file (number + 1) r
        joined r (inl (low, is)) = (omega (arith, low), is)
        joined r (inr is) = (omega (arith, is.page_is), subst (λ n. IsRowOn pages frame file n r) (sym is.page_is) is)

        across : (a b : RowThere) → IsRowOnPages pages frame file number a → IsRowOn pages frame file number b → a.at.dir ≡ b.at.dir → IsEarlier (place_of a) (place_of b)
        across a b (low, is) on dir = inl (omega (arith, low, on.page_is))

    pub all_pages : (number : ℕ) → length file.seen.homes.items ≤ number → number ≤ length file.seen.homes.items → (old new : List RowThere) → Adds (IsRowOnPages pages frame file number) old new
        → Adds (IsRowOnPages pages frame file (length file.seen.homes.items)) old new
    all_pages number whole most old new = let same : number ≡ length file.seen.homes.items = omega (arith, whole, most) in subst (λ n. Adds (IsRowOnPages pages frame file n) old new) same

    pub of_directory : file.seen.is.kind ≡ Directory → (old new : List RowThere) → Adds (IsRowOnPages pages frame file (length file.seen.homes.items)) old new → Adds (IsRowOf pages frame file) old new
    of_directory kind old new =
        add_as (IsRowOnPages pages frame file (length file.seen.homes.items)) (IsRowOf pages frame file) old new
        (λ r. ((λ (low, is). (kind, is)), (λ (of, is). (slice_get_within file.seen.homes.items r.at.page (Some r.at.home) is.listed, is))))

    pub of_file : ¬ file.seen.is.kind ≡ Directory → (old : List RowThere) → Adds (IsRowOf pages frame file) old old
    of_file other old = add_none (IsRowOf pages frame file) old (λ (r : RowThere) (is : IsRowOf pages frame file r). other is.0)

  -- ---- all directories

  -- a row of one of the files in front of a place
  abbrev pub IsRowOfFirst : List FileThere → ℕ → RowThere → Type 0
  IsRowOfFirst files number r = (k : ℕ) × (file : FileThere) × (k < number) × (slice_get files k ≡ Some file) × IsRowOf pages frame file r

  abbrev pub HaveOwnTags : List FileThere → Type 0
  HaveOwnTags files = (i j : ℕ) (one other : FileThere) → slice_get files i ≡ Some one → slice_get files j ≡ Some other → one.tag ≡ other.tag → i ≡ j

  pub record AreFirstRows (files : List FileThere) (number : ℕ) (rows : List RowThere) : Type 0 where
    pub each : (r : RowThere) → Contains rows r ↔ IsRowOfFirst files number r
    pub order : HaveOwnTags files → AreInOrder rows

  pub none_first : (files : List FileThere) → AreFirstRows files 0 []
  none_first files = record {
    each = λ r. ((λ (k, within, same). absurd (omega (arith, within))), (λ (k, file, below, there, is). absurd (omega (arith, below))));
    order = λ own i j one other at_i at_j less dir. absurd (none_some one at_i);
  }

  pub one_first : (files : List FileThere) (number : ℕ) (file : FileThere) → slice_get files number ≡ Some file → (old new : List RowThere) → AreFirstRows files number old → Adds (IsRowOf pages frame file) old new → AreFirstRows files (number + 1) new
  one_first files number file at old new are adds = record { each = λ r. (to_row r, from_row r); order = order }
    where
      to_row : (r : RowThere) → Contains new r → IsRowOfFirst files (number + 1) r
      to_row r among =
          ⊎_elim (λ front. let f = (are.each r).0 front in (f.0, f.1, omega (arith, f.2), f.3, f.4))
          (λ back. (number, file, omega arith, at, (adds.are.each r).0 back)) (Contains-append_cases old adds.more r (subst (λ l. Contains l r) adds.behind among))

      from_row : (r : RowThere) → IsRowOfFirst files (number + 1) r → Contains new r
      from_row r (k, one, below, there, is) =
          subst (λ l. Contains l r) (sym adds.behind)
          (⊎_elim (λ low. Contains-append_left old adds.more r ((are.each r).1 (k, one, low, there, is)))
          (λ high.
          let here : k ≡ number = omega (arith, below, high) in
          let same : one ≡ file = some_same one file (sym there ∙ ap (slice_get files) here ∙ at) in
          Contains-append_right old adds.more r ((adds.are.each r).1 (subst (λ f. IsRowOf pages frame f r) same is)))
          (cases_lt k number))

      order : HaveOwnTags files → AreInOrder new
      order own =
          subst AreInOrder (sym adds.behind)
          (order_append old adds.more (are.order own) adds.are.order (λ a b in_a in_b dir.
          let f = (are.each a).0 in_a in
          let other = (adds.are.each b).0 in_b in
          let same : f.0 ≡ number = own f.0 number f.1 file f.3 at (sym f.4.1.dir ∙ dir ∙ other.1.dir) in
          absurd (omega (arith, same, f.2))))

  module _ (table : Table) (number : ℕ) (files : List FileThere) (are : AreFilesIn pages frame table number files) where
    to_rule : (r : RowThere) (k : ℕ) (file : FileThere) → slice_get files k ≡ Some file → IsRowOf pages frame file r → IsRowIn pages frame table number r
    to_rule r k file there (kind, is) =
        let read = are.each file (at_among files k file there) in
        record {
          bytes = is.is.bytes;
          is = record {
            cells = read.cells;
            seen = read.seen;
            has = subst (λ (t : Tag). Has pages table number t read.cells read.seen) (sym is.dir) read.has;
            kind = sym (ap (λ (a : Attributes). a.kind) read.read.is) ∙ kind;
            at = ((read.read.homes (sym (ap (λ (a : Attributes). a.kind) read.read.is) ∙ kind) r.at.page r.at.home).0 (ap (option_and_then (λ (h : Option Home). h)) is.listed)).0;
            within = is.is.within;
            there = is.is.there;
          };
          good = is.is.good;
          there = is.is.is;
        }

    from_rule : (r : RowThere) → IsRowIn pages frame table number r → (count : ℕ) → length files ≤ count → IsRowOfFirst files count r
    from_rule r is count whole =
        let was = are.all r.at.dir is.is.cells is.is.seen is.is.has in
        let k = among_at files was.file was.among in
        let within = slice_get_within files k.0 was.file k.1 in (
          k.0,
          was.file,
          omega (arith, within, whole),
          k.1,
          (
            ap (λ (a : Attributes). a.kind) was.read.is ∙ is.is.kind,
            record {
              page_is = refl;
              dir = sym was.tag_is;
              listed = listed was.file.seen.homes.items r.at.page r.at.home ((was.read.homes is.is.kind r.at.page r.at.home).1 (is.is.at, is.is.within));
              is = record { at_is = refl; within = is.is.within; bytes = is.bytes; there = is.is.there; good = is.good; is = is.there };
            },
          ),
        )

    pub all_rows : (count : ℕ) (rows : List RowThere) → length files ≤ count → AreFirstRows files count rows → AreRowsIn pages frame table number rows
    all_rows count rows whole first = record {
      each = λ r. (
        λ among. let f = (first.each r).0 among in to_rule r f.0 f.1 f.3 f.4,
        λ is. (first.each r).1 (from_rule r is count whole),
      );
      order = first.order are.once;
    }
