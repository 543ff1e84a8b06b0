-- The tags of files and directories with their kinds, and rows that lead wrong by them.
use Rattle.std.proofs.Common.{◌≡◌, ◌∙◌, ◌⊎◌, ◌↔◌, ◌≤◌, inl, inr, ℕ, ◌+◌, ◌<◌, Bool, true, false, cond, List, [], length, Some, Contains, slice_get, refl, sym, ap, subst, arith, ⊎_elim}
use Rattle.std.specs.BTreeMap.{is_at}
use Rattle.std.specs.BTreeSet.{BTreeSet, contains}
use Rattle.std.specs.Cmp.{Equal-is}
use Rattle.std.specs.List.{list_any}
use Rattle.std.specs.Ordering.{ordering_then}
use Rattle.std.specs.declared.cmp.Ordering.TheVariants.{Less, Equal, Greater}
use Rattle.std.proofs.lemmas.Bool.{cases_lt}
use Rattle.std.proofs.lemmas.Option.{slice_get_within}
use mathlib.Core.Bool.{false≢true}
use Rattle.fileset_shapes.specs.domain_base.contracts.place.KindOrd.TheImpl as kind_ord
use Rattle.fileset_shapes.specs.domain_base.contracts.place.TagOrd.TheImpl as tag_ord
use Rattle.fileset_shapes.specs.domain_base.declared.place.Home.{Home}
use Rattle.fileset_shapes.specs.domain_base.declared.place.Kind.{Kind}
use Rattle.fileset_shapes.specs.domain_base.declared.place.Kind.TheVariants.{Directory, File}
use Rattle.fileset_shapes.specs.domain_base.declared.place.Tag.{Tag}
use Rattle.fileset_shapes.specs.page_store.Pages.{Pages}
use Rattle.fileset_shapes.specs.fileset_files.declared.attributes.Attributes.{Attributes}
use Rattle.fileset_shapes.specs.fileset_table.Table.{Table}
use Rattle.fileset_shapes.specs.name_space.Names.{root_tag}
use Rattle.fileset_shapes.specs.domain_layout.CellRules.{of_clone}
use Rattle.fileset_shapes.specs.domain_layout.DirectoryRules.{Has, HasOfKind, IsRow}
use Rattle.fileset_shapes.specs.domain_layout.Reached.{Frame}
use Rattle.directory_faults.specs.Rows.{AreRowsIn, place_of}
use Rattle.directory_faults.specs.There.{AreFilesIn}
use Rattle.directory_faults.specs.Wrong.{HasKind, HasWrongRow, IsAmong, IsOfKind, LeadsWrong, kind_order, other_of}
use Rattle.directory_faults.specs.declared.rows.RowThere.{RowThere}
use Rattle.directory_faults.specs.declared.there.FileThere.{FileThere}
use Rattle.directory_faults.proofs.Inserted.{AreIn, all_in, among_at, at_among, iff_trans}
use Rattle.directory_faults.proofs.Noted.{cond_true, tag_itself, tags_alike, then_equal}

-- ---- tags with their kinds, in order

kinds_alike : (a b : Kind) → (kind_ord.ghosts).cmp a b ≡ Equal → a ≡ b
kinds_alike File File e = refl
kinds_alike File Directory e = absurd (false≢true ((Equal-is Less).1 e))
kinds_alike Directory File e = absurd (false≢true ((Equal-is Greater).1 e))
kinds_alike Directory Directory e = refl

kind_itself : (a : Kind) → (kind_ord.ghosts).cmp a a ≡ Equal
kind_itself File = refl
kind_itself Directory = refl

-- two tags with kinds compare as the same exactly where they are
pub same_at : (key : Tag × Kind) (tag : Tag) (of : Kind) → (is_at (kind_order key) (tag, of) ≡ true) ↔ ((key.0 ≡ tag) × (key.1 ≡ of))
same_at key tag of = (to_same, from_same)
  where
    to_same : is_at (kind_order key) (tag, of) ≡ true → (key.0 ≡ tag) × (key.1 ≡ of)
    to_same is =
        let both = then_equal ((tag_ord.ghosts).cmp key.0 tag) ((kind_ord.ghosts).cmp key.1 of) ((Equal-is (kind_order key (tag, of))).0 is) in
        (tags_alike key.0 tag both.0, kinds_alike key.1 of both.1)

    from_same : (key.0 ≡ tag) × (key.1 ≡ of) → is_at (kind_order key) (tag, of) ≡ true
    from_same (same, also) =
        let first : (tag_ord.ghosts).cmp key.0 tag ≡ Equal = subst (λ (t : Tag). (tag_ord.ghosts).cmp key.0 t ≡ Equal) same (tag_itself key.0) in
        let second : (kind_ord.ghosts).cmp key.1 of ≡ Equal = subst (λ (k : Kind). (kind_ord.ghosts).cmp key.1 k ≡ Equal) also (kind_itself key.1) in
        (Equal-is (kind_order key (tag, of))).1 (subst (λ o. ordering_then o ((kind_ord.ghosts).cmp key.1 of) ≡ Equal) (sym first) second)

-- ---- file by file

abbrev pub AreKinds : BTreeSet (Tag × Kind) → List FileThere → ℕ → Type 0
AreKinds kinds files number = (tag : Tag) (of : Kind) → HasKind kinds tag of
    ↔ ((k : ℕ) × (file : FileThere) × (k < number) × (slice_get files k ≡ Some file) × IsOfKind file tag of)

pub no_kinds : (kinds : BTreeSet (Tag × Kind)) (files : List FileThere) → kinds.keys ≡ [] → AreKinds kinds files 0
no_kinds kinds files empty tag of = (
  λ is. absurd (false≢true (sym (ap (list_any (is_at (kind_order (tag, of)))) empty) ∙ is)),
  λ (k, file, below, at, same). absurd (omega (arith, below)),
)

some_same : (a b : FileThere) → Some a ≡ Some b → a ≡ b
some_same a b e = cc

module _ (old new : BTreeSet (Tag × Kind)) (files : List FileThere) (number : ℕ) (file : FileThere) (at : slice_get files number ≡ Some file) (are : AreKinds old files number)
    (updates : (q : Tag × Kind) → contains kind_order new q ≡ cond (is_at (kind_order (file.tag, file.seen.is.kind)) q) true (contains kind_order old q)) where
  put : (tag : Tag) (of : Kind) → HasKind new tag of ↔ (HasKind old tag of ⊎ IsOfKind file tag of)
  put tag of = (
    λ is. ⊎_elim (λ has. inl has) (λ test. inr (same.0 test)) (either.0 (sym there ∙ is)),
    λ which. there ∙ either.1 (⊎_elim (λ has. inl has) (λ alike. inr (same.1 alike)) which),
  )
    where
      same : (is_at (kind_order (file.tag, file.seen.is.kind)) (tag, of) ≡ true) ↔ IsOfKind file tag of
      same = same_at (file.tag, file.seen.is.kind) tag of

      there : contains kind_order new (tag, of) ≡ cond (is_at (kind_order (file.tag, file.seen.is.kind)) (tag, of)) true (contains kind_order old (tag, of))
      there = updates (tag, of)

      either : (cond (is_at (kind_order (file.tag, file.seen.is.kind)) (tag, of)) true (contains kind_order old (tag, of)) ≡ true) ↔ ((contains kind_order old (tag, of) ≡ true) ⊎ (is_at (kind_order (file.tag, file.seen.is.kind)) (tag, of) ≡ true))
      either = cond_true (is_at (kind_order (file.tag, file.seen.is.kind)) (tag, of)) (contains kind_order old (tag, of))

  pub one_kind : AreKinds new files (number + 1)
  one_kind tag of = (
    λ is. ⊎_elim (λ before. let (k, one, below, there, same) = (are tag of).0 before in (k, one, omega (arith, below), there, same)) (λ same. (number, file, omega arith, at, same)) ((put tag of).0 is),
    λ (k, one, below, there, same). (put tag of).1 (⊎_elim (λ low. inl ((are tag of).1 (k, one, low, there, same)))
        (λ high.
        let here : k ≡ number = omega (arith, below, high) in
        inr (subst (λ (f : FileThere). IsOfKind f tag of) (some_same one file (sym there ∙ ap (slice_get files) here ∙ at)) same))
        (cases_lt k number)),
  )

pub all_kinds : (kinds : BTreeSet (Tag × Kind)) (files : List FileThere) (number : ℕ) → length files ≤ number → AreKinds kinds files number
    → (tag : Tag) (of : Kind) → HasKind kinds tag of ↔ IsAmong files tag of
all_kinds kinds files number whole are tag of = (
  λ is. let (k, file, below, at, same) = (are tag of).0 is in (file, at_among files k file at, same),
  λ (file, among, same).
      let at = among_at files file among in
      (are tag of).1 (at.0, file, omega (arith, whole, slice_get_within files at.0 file at.1), at.1, same),
)

-- ---- rows that lead wrong

-- what is said of a home by a row
abbrev pub IsWrongAt : BTreeSet (Tag × Kind) → Bool → RowThere → Home → Type 0
IsWrongAt kinds is_clone r home = LeadsWrong kinds is_clone r × (home ≡ r.at.home)

pub not_other : (of : Kind) → ¬ other_of of ≡ of
not_other File e = absurd (cc)
not_other Directory e = absurd (cc)

pub other_is : (of kind : Kind) → ¬ of ≡ kind → of ≡ other_of kind
other_is File File apart = absurd (apart refl)
other_is File Directory apart = refl
other_is Directory File apart = refl
other_is Directory Directory apart = absurd (apart refl)

module _ (pages : Pages) (frame : Frame) (table : Table) (number : ℕ) (files : List FileThere) (kinds : BTreeSet (Tag × Kind)) (are_files : AreFilesIn pages frame table number files)
    (has : (tag : Tag) (of : Kind) → HasKind kinds tag of ↔ IsAmong files tag of) where
  pub of_kind : (tag : Tag) (of : Kind) → HasKind kinds tag of ↔ HasOfKind pages table number tag of
  of_kind tag of = (to_file, from_file)
    where
      to_file : HasKind kinds tag of → HasOfKind pages table number tag of
      to_file is =
          let (file, among, (same, kind)) = (has tag of).0 is in
          let read = are_files.each file among in
          (read.cells, read.seen, subst (λ (t : Tag). Has pages table number t read.cells read.seen) same read.has, sym (ap (λ (a : Attributes). a.kind) read.read.is) ∙ kind)

      from_file : HasOfKind pages table number tag of → HasKind kinds tag of
      from_file (cells, seen, is, kind) =
          let was = are_files.all tag cells seen is in
          (has tag of).1 (was.file, was.among, (was.tag_is, ap (λ (a : Attributes). a.kind) was.read.is ∙ kind))

module _ (pages : Pages) (frame : Frame) (table : Table) (number : ℕ) (files : List FileThere) (rows : List RowThere) (kinds : BTreeSet (Tag × Kind)) (is_clone : Bool)
    (are_files : AreFilesIn pages frame table number files) (are : AreRowsIn pages frame table number rows) (clone : of_clone (slice_get table.slots number) ≡ is_clone)
    (has : (tag : Tag) (of : Kind) → HasKind kinds tag of ↔ IsAmong files tag of) where
  kind_there : (tag : Tag) (of : Kind) → HasKind kinds tag of ↔ HasOfKind pages table number tag of
  kind_there = of_kind pages frame table number files kinds are_files has

  -- what the rule says of a row's tag and kind
  abbrev IsWrong : Tag → Kind → Type 0
  IsWrong tag kind = (tag ≡ root_tag) ⊎ ((of_clone (slice_get table.slots number) ≡ false) × ¬ HasOfKind pages table number tag kind)
      ⊎ ((of : Kind) × HasOfKind pages table number tag of × ¬ of ≡ kind)

  to_wrong : (r : RowThere) → LeadsWrong kinds is_clone r → IsWrong r.row.tag r.row.kind
  to_wrong r (inl root) = inl root
  to_wrong r (inr (inl (whole, none))) = inr (inl (clone ∙ whole, λ is. none ((kind_there r.row.tag r.row.kind).1 is)))
  to_wrong r (inr (inr other)) = inr (inr (other_of r.row.kind, (kind_there r.row.tag (other_of r.row.kind)).0 other, not_other r.row.kind))

  from_wrong : (r : RowThere) → IsWrong r.row.tag r.row.kind → LeadsWrong kinds is_clone r
  from_wrong r (inl root) = inl root
  from_wrong r (inr (inl (whole, none))) = inr (inl (sym clone ∙ whole, λ is. none ((kind_there r.row.tag r.row.kind).0 is)))
  from_wrong r (inr (inr (of, is, apart))) = inr (inr (subst (HasKind kinds r.row.tag) (other_is of r.row.kind apart) ((kind_there r.row.tag of).1 is)))

  by_rows : (home : Home) (old : Type 0) → (old ⊎ ((r : RowThere) × Contains rows r × IsWrongAt kinds is_clone r home)) ↔ (old ⊎ HasWrongRow pages frame table number home)
  by_rows home old = (
    λ which. ⊎_elim (λ first. inl first) (λ (r, among, (wrong, same)). inr (record {
      at = place_of r;
      row = r.row;
      is = subst (IsRow pages frame table number (place_of r) r.row) (sym same) ((are.each r).0 among);
      wrong = to_wrong r wrong;
    })) which,
    λ which. ⊎_elim (λ first. inl first) (λ wrong. inr (from_rule wrong)) which,
  )
    where
      from_rule : HasWrongRow pages frame table number home → (r : RowThere) × Contains rows r × IsWrongAt kinds is_clone r home
      from_rule wrong =
          let r : RowThere = record { at = record { dir = wrong.at.dir; page = wrong.at.page; home = home }; place = wrong.at.place; row = wrong.row } in
          (r, (are.each r).1 wrong.is, (from_wrong r wrong.wrong, refl))

  pub all_wrong : (old new : Home → Type 0) (count : ℕ) → length rows ≤ count → AreIn rows (IsWrongAt kinds is_clone) old new count
      → (home : Home) → new home ↔ (old home ⊎ HasWrongRow pages frame table number home)
  all_wrong old new count whole said home = iff_trans (all_in rows (IsWrongAt kinds is_clone) old new count whole said home) (by_rows home (old home))
