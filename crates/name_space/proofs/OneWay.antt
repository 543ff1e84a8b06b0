-- Where paths lead in a set whose rows are those of a fileset: to a directory in one way, and to a
-- tag with one kind.
use Rattle.std.proofs.Common.{◌≡◌, ◌∙◌, ◌⊎◌, inl, inr, ⊎_elim, ℕ, zero, suc, ◌+◌, ◌-◌, ◌^◌, ◌<◌, ◌≤◌, List, [], ◌∷◌, ◌++◌, length, get_or, take, Option, Some, None, IfSome, IsSome, IsSomeAnd, is_some, slice_get, refl, sym, ap, subst, arith, true≢false}
use Rattle.std.proofs.Math.Seq.{get_or-append_seam}
use Rattle.std.proofs.lemmas.List.{length-append}
use Rattle.std.specs.List.{AllByRecursion, flat_map}
use Rattle.std.specs.Option.{option_and_then, option_map_or}
use Rattle.plain_program.specs.domain_base.declared.place.Kind.{Kind}
use Rattle.plain_program.specs.domain_base.declared.place.Kind.TheVariants.{Directory, File}
use Rattle.plain_program.specs.domain_base.declared.place.Tag.{Tag}
use Rattle.directory_rows.specs.page_store.Bitfiles.{Bitfile, Bitfiles, IsDirectory}
use Rattle.directory_rows.specs.directory_pages.RowPage.{IsDirPage, rows_of}
use Rattle.directory_rows.specs.directory_pages.Rows.{IsRow, found}
use Rattle.directory_rows.specs.directory_pages.declared.row.Row.{Row}
use Rattle.directory_rows.specs.Directory.{all_rows, row_pages, rows_in}
use Rattle.plain_program.proofs.OfLegalHistories.ValidLemmas.{from_some_and, some_inj}
use Rattle.plain_program.specs.fileset_values.Orders.{Name, Path}
use Rattle.name_space.specs.Names.{led_to, number_of, root_tag}
use Rattle.name_space.proofs.CreatedNames.{fore}
use Rattle.name_space.proofs.Leads.{led-name}
use Rattle.name_space.proofs.Originals.{one_tag}
use Rattle.directory_rows.proofs.AllLed.{found_row}
use Rattle.name_space.specs.Rows.{AreFilesetRows, NameIn, row_of}

-- ---- paths

-- a path is empty, or has a last name
pub ended : (path : Path) → (path ≡ []) ⊎ ((front : Path) × (name : Name) × (path ≡ front ++ name ∷ []))
ended [] = inl refl
ended (name ∷ path) =
    inr (⊎_elim (λ none. ([], name, ap (λ (p : Path). name ∷ p) none)) (λ more. (name ∷ more.0, more.1, ap (λ (p : Path). name ∷ p) more.2)) (ended path))

pub same_fronts : (f g : Path) (a b : Name) → f ++ a ∷ [] ≡ g ++ b ∷ [] → f ≡ g
same_fronts f g a b e = sym (fore f a) ∙ ap (λ (p : Path). take (length p - 1) p) e ∙ fore g b

pub same_names : (f g : Path) (a b : Name) → f ++ a ∷ [] ≡ g ++ b ∷ [] → a ≡ b
same_names f g a b e =
    sym (get_or-append_seam f a [] a) ∙ ap (λ (p : Path). get_or p (length f) a) e
    ∙ ap (λ (p : Path). get_or (g ++ b ∷ []) (length p) a) (same_fronts f g a b e) ∙ get_or-append_seam g b [] a

none_is_some : {P X : Type 0} (x : X) → None ≡ Some x → P
none_is_some x is = absurd (cc)

-- the tag of a row is within its fields
rows_good : (rows : List Row) (k : ℕ) (row : Row) → AllByRecursion IsRow rows → slice_get rows k ≡ Some row → IsRow row
rows_good [] k row good is = none_is_some row is
rows_good (r ∷ rows) zero row good is = subst IsRow (some_inj is) good.0
rows_good (r ∷ rows) (suc k) row good is = rows_good rows k row good.1 is

both_good : (xs ys : List Row) → AllByRecursion IsRow xs → AllByRecursion IsRow ys → AllByRecursion IsRow (xs ++ ys)
both_good [] ys good more = more
both_good (x ∷ xs) ys good more = (good.0, both_good xs ys good.1 more)

all_good : (pages : List (List ℕ)) → AllByRecursion IsDirPage pages → AllByRecursion IsRow (all_rows pages)
all_good [] good = tt
all_good (page ∷ pages) good = both_good (rows_of page) (all_rows pages) good.0.good (all_good pages good.1)

module _ (files : Bitfiles) (good : AreFilesetRows files) where
  -- ---- rows

  pub row_seq : (at : NameIn) (tag : Tag) (of : Kind) → row_of files at ≡ Some (tag, of) → tag.seq < 2 ^ 16
  row_seq at tag of leads =
      let pages = (good.directories at.dir (good.inside at (ap is_some leads))).pages in
      let row = found_row at.name (rows_in files at.dir) tag of leads in
      subst (λ (t : Tag). t.seq < 2 ^ 16) row.4 (rows_good (rows_in files at.dir) row.0 row.1 (all_good (row_pages files at.dir) pages) row.2).seq

  -- a row leads to the last name of a path
  pub row_led : (front : Path) (name : Name) (tag : Tag) (of : Kind) → led_to files (front ++ name ∷ []) ≡ Some (tag, of)
      → (dir : Tag) × (also : Kind) × (led_to files front ≡ Some (dir, also)) × (row_of files (record { dir = dir; name = name }) ≡ Some (tag, of))
  row_led front name tag of leads = by_front (led_to files front) refl (sym (led-name files front name) ∙ leads)
    where
      by_front : (o : Option (Tag × Kind)) → led_to files front ≡ o → option_and_then (λ led. found name (rows_in files led.0)) o ≡ Some (tag, of)
          → (dir : Tag) × (also : Kind) × (led_to files front ≡ Some (dir, also)) × (row_of files (record { dir = dir; name = name }) ≡ Some (tag, of))
      by_front None is row = none_is_some (tag, of) row
      by_front (Some led) is row = (led.0, led.1, is, row)

  -- what the root is led to by
  root_led : (path : Path) (tag : Tag) (of : Kind) → path ≡ [] → led_to files path ≡ Some (tag, of) → (root_tag ≡ tag) × (Directory ≡ of)
  root_led path tag of none leads =
      let same : (root_tag, Directory) ≡ (tag, of) = some_inj (sym (ap (led_to files) none) ∙ leads) in
      (ap (λ (p : Tag × Kind). p.0) same, ap (λ (p : Tag × Kind). p.1) same)

  -- a file that the set has is of the kind that the row says
  pub led_kind : (path : Path) (tag : Tag) (of : Kind) (file : Bitfile) → led_to files path ≡ Some (tag, of) → files tag ≡ Some file → file.kind ≡ of
  led_kind path tag of file leads there = ⊎_elim
      (λ none.
      let root = root_led path tag of none leads in
      good.root file (ap files root.0 ∙ there) ∙ root.1)
      (λ more.
      let row = row_led more.0 more.1 tag of (ap (led_to files) (sym more.2) ∙ leads) in
      subst (λ (o : Option Bitfile). IfSome o (λ f. f.kind ≡ of)) there (good.kinds (record { dir = row.0; name = more.1 }) tag of row.3))
      (ended path)

  pub record IsLedBy (path : Path) (tag : Tag) (of : Kind) : Type 0 where
    pub front : Path
    pub name : Name
    pub whole : path ≡ front ++ name ∷ []
    pub dir : Tag
    pub led : led_to files front ≡ Some (dir, Directory)
    pub row : row_of files (record { dir = dir; name = name }) ≡ Some (tag, of)

  -- a path leads to the root, or by a row of a directory to which its front leads
  pub led_by_row : (path : Path) (tag : Tag) (of : Kind) → led_to files path ≡ Some (tag, of)
      → ((path ≡ []) × (root_tag ≡ tag) × (Directory ≡ of)) ⊎ IsLedBy path tag of
  led_by_row path tag of leads = ⊎_elim
      (λ none. let root = root_led path tag of none leads in inl (none, root.0, root.1))
      (λ more.
      let row = row_led more.0 more.1 tag of (ap (led_to files) (sym more.2) ∙ leads) in
      let dir = from_some_and (λ (f : Bitfile). f.kind ≡ Directory) (files row.0) (good.inside (record { dir = row.0; name = more.1 }) (ap is_some row.3)) in
      let kind : Directory ≡ row.1 = sym dir.2 ∙ led_kind more.0 row.0 row.1 dir.0 row.2 dir.1 in
      inr (record {
        front = more.0;
        name = more.1;
        whole = more.2;
        dir = row.0;
        led = row.2 ∙ ap (λ (k : Kind). Some (row.0, k)) (sym kind);
        row = row.3;
      }))
      (ended path)

  -- no row leads to the root
  no_root : {P : Type 0} (path : Path) (tag : Tag) (of : Kind) → root_tag ≡ tag → IsLedBy path tag of → P
  no_root path tag of root by = absurd (good.below (record { dir = by.dir; name = by.name }) tag of by.row (sym root))

  pub led_seq : (path : Path) (tag : Tag) (of : Kind) → led_to files path ≡ Some (tag, of) → tag.seq < 2 ^ 16
  led_seq path tag of leads = ⊎_elim
      (λ root. subst (λ (t : Tag). t.seq < 2 ^ 16) root.1 (omega arith))
      (λ by. row_seq (record { dir = by.dir; name = by.name }) tag of by.row) (led_by_row path tag of leads)

  -- two tags to which paths lead are two numbers
  pub one_number : (path other : Path) (a b : Tag) (of also : Kind) → led_to files path ≡ Some (a, of) → led_to files other ≡ Some (b, also) → number_of a ≡ number_of b → a ≡ b
  one_number path other a b of also leads leads' same = one_tag a b (led_seq path a of leads) (led_seq other b also leads') same

  -- ---- one kind

  rows_kind : (a b : NameIn) (tag : Tag) (of also : Kind) → row_of files a ≡ Some (tag, of) → row_of files b ≡ Some (tag, also) → of ≡ also
  rows_kind a b tag File File leads leads' = refl
  rows_kind a b tag Directory also leads leads' =
      ap (λ (p : Tag × Kind). p.1) (some_inj (sym leads ∙ ap (row_of files) (good.one a b tag also leads leads') ∙ leads'))
  rows_kind a b tag File Directory leads leads' =
      ap (λ (p : Tag × Kind). p.1) (some_inj (sym leads ∙ ap (row_of files) (sym (good.one b a tag File leads' leads)) ∙ leads'))

  pub one_kind : (path other : Path) (tag : Tag) (of also : Kind) → led_to files path ≡ Some (tag, of) → led_to files other ≡ Some (tag, also) → of ≡ also
  one_kind path other tag of also leads leads' = ⊎_elim
      (λ root. ⊎_elim (λ root'. sym root.2 ∙ root'.2) (λ by. no_root other tag also root.1 by) (led_by_row other tag also leads'))
      (λ by. ⊎_elim (λ root. no_root path tag of root.1 by)
      (λ by'. rows_kind (record { dir = by.dir; name = by.name }) (record { dir = by'.dir; name = by'.name }) tag of also by.row by'.row)
      (led_by_row other tag also leads'))
      (led_by_row path tag of leads)

  -- ---- one way

  longer : (front : Path) (name : Name) → length (front ++ name ∷ []) ≡ length front + 1
  longer front name = length-append front (name ∷ [])

  ends : (path other : Path) (tag : Tag) (of : Kind) → led_to files path ≡ Some (tag, Directory) → led_to files other ≡ Some (tag, of)
      → (IsLedBy path tag Directory → IsLedBy other tag of → path ≡ other) → path ≡ other
  ends path other tag of leads leads' both = ⊎_elim
      (λ root. ⊎_elim (λ root'. root.0 ∙ sym root'.0) (λ by. no_root other tag of root.1 by) (led_by_row other tag of leads'))
      (λ by. ⊎_elim (λ root. no_root path tag Directory root.1 by) (λ by'. both by by') (led_by_row other tag of leads'))
      (led_by_row path tag Directory leads)

  -- one path leads to a directory
  way_within : (n : ℕ) (path other : Path) (tag : Tag) (of : Kind) → length path ≤ n → led_to files path ≡ Some (tag, Directory) → led_to files other ≡ Some (tag, of) → path ≡ other
  way_within zero path other tag of within leads leads' = ends path other tag of leads leads' (λ by by'.
      let e : length path ≡ length by.front + 1 = ap (λ (p : Path). length p) by.whole ∙ longer by.front by.name in
      absurd (omega (arith, within, e)))
  way_within (suc n) path other tag of within leads leads' = ends path other tag of leads leads' (λ by by'.
      let same = good.one (record { dir = by.dir; name = by.name }) (record { dir = by'.dir; name = by'.name }) tag of by.row by'.row in
      let e : length path ≡ length by.front + 1 = ap (λ (p : Path). length p) by.whole ∙ longer by.front by.name in
      let fronts : by.front ≡ by'.front = way_within n by.front by'.front by.dir Directory (omega (arith, within, e)) by.led
      (by'.led ∙ ap (λ (at : NameIn). Some (at.dir, Directory)) (sym same)) in
      by.whole ∙ (λ i. fronts i ++ (same i).name ∷ []) ∙ sym by'.whole)

  pub one_way : (path other : Path) (tag : Tag) (of : Kind) → led_to files path ≡ Some (tag, Directory) → led_to files other ≡ Some (tag, of) → path ≡ other
  one_way path other tag of leads leads' = way_within (length path) path other tag of (omega arith) leads leads'
