-- Rows that are found to lead to nothing, as more rows do than may, are those of the rule.
use Rattle.std.proofs.Common.{◌≡◌, ◌∙◌, ◌⊎◌, ◌↔◌, ◌≤◌, ◌<◌, inl, inr, ℕ, true, List, length, Some, Contains, slice_get, refl, sym, ap, subst, arith, ⊎_elim}
use Rattle.std.specs.BTreeMap.{BTreeMap}
use Rattle.std.specs.BTreeSet.{BTreeSet}
use Rattle.std.proofs.lemmas.Bool.{cases_eq}
use Rattle.fileset_shapes.specs.domain_base.Limits.{max_links}
use Rattle.fileset_shapes.specs.domain_base.declared.place.Home.{Home}
use Rattle.fileset_shapes.specs.domain_base.declared.place.Kind.{Kind}
use Rattle.fileset_shapes.specs.domain_base.declared.place.Kind.TheVariants.{Directory, File}
use Rattle.fileset_shapes.specs.domain_base.declared.place.Tag.{Tag}
use Rattle.fileset_shapes.specs.page_store.Pages.{Pages}
use Rattle.fileset_shapes.specs.fileset_table.Table.{Table}
use Rattle.fileset_shapes.specs.domain_layout.DirectoryRules.{HasOfKind, IsHere, IsOneOfMany, IsRow, IsSecond}
use Rattle.fileset_shapes.specs.domain_layout.Reached.{Frame}
use Rattle.directory_faults.specs.Counts.{AreCounts, count_in, leads_so}
use Rattle.directory_faults.specs.Lost.{AreTooMany, HasLostTwice, IsLost, LeadsLostTwice}
use Rattle.directory_faults.specs.Rows.{AreRowsIn, place_of}
use Rattle.directory_faults.specs.There.{AreFilesIn}
use Rattle.directory_faults.specs.Wrong.{HasKind, IsAmong, other_of}
use Rattle.directory_faults.specs.declared.rows.RowThere.{RowThere}
use Rattle.directory_faults.specs.declared.there.FileThere.{FileThere}
use Rattle.directory_faults.proofs.Counted.{counted_some, counted_two, some_counted, two_at, two_counted}
use Rattle.directory_faults.proofs.Inserted.{AreIn, all_in, among_at, iff_trans}
use Rattle.directory_faults.proofs.LedWrong.{not_other, of_kind, same_at}
use Rattle.directory_faults.proofs.RowPlaces.{as_counted, count_passing, order_parts, passing, row_is, row_read, rows_to}

some_same : {X : Type 0} (a b : X) → Some a ≡ Some b → a ≡ b
some_same a b e = cc

module _ (pages : Pages) (frame : Frame) (table : Table) (number : ℕ) (files : List FileThere) (rows : List RowThere) (kinds : BTreeSet (Tag × Kind)) (counts : BTreeMap (Tag × Kind) ℕ)
    (are_files : AreFilesIn pages frame table number files) (are : AreRowsIn pages frame table number rows) (has : (tag : Tag) (of : Kind) → HasKind kinds tag of ↔ IsAmong files tag of)
    (counted : AreCounts rows counts) where
  kind_there : (tag : Tag) (of : Kind) → HasKind kinds tag of ↔ HasOfKind pages table number tag of
  kind_there = of_kind pages frame table number files kinds are_files has

  -- ---- nothing is there

  of_some_kind : (tag : Tag) → IsHere pages table number tag → HasKind kinds tag File ⊎ HasKind kinds tag Directory
  of_some_kind tag (cells, seen, is) = by_kind seen.is.kind ((kind_there tag seen.is.kind).1 (cells, seen, is, refl))
    where
      by_kind : (of : Kind) → HasKind kinds tag of → HasKind kinds tag File ⊎ HasKind kinds tag Directory
      by_kind File there = inl there
      by_kind Directory there = inr there

  here : (tag : Tag) (of : Kind) → HasKind kinds tag of → IsHere pages table number tag
  here tag of there = let is = (kind_there tag of).0 there in (is.0, is.1, is.2)

  is_lost : (tag : Tag) → IsLost kinds tag ↔ (¬ IsHere pages table number tag)
  is_lost tag = (
    λ (no_file, no_directory) there. ⊎_elim (λ file. no_file file) (λ dir. no_directory dir) (of_some_kind tag there),
    λ none. ((λ file. none (here tag File file)), (λ dir. none (here tag Directory dir))),
  )

  -- ---- rows that lead there

  leads : (r : RowThere) (tag : Tag) (of : Kind) → (leads_so tag of r ≡ true) ↔ ((r.row.tag ≡ tag) × (r.row.kind ≡ of))
  leads r tag of = same_at (r.row.tag, r.row.kind) tag of

  places_apart : (i j : ℕ) (one other : RowThere) → slice_get rows i ≡ Some one → slice_get rows j ≡ Some other → ¬ i ≡ j → ¬ place_of one ≡ place_of other
  places_apart = order_parts rows are.order

  row_at : (j : ℕ) (r : RowThere) → slice_get rows j ≡ Some r → IsRow pages frame table number (place_of r) r.row r.at.home
  row_at = row_is pages frame table number rows are

  -- a row at another place that leads to its tag
  second_by : (i j : ℕ) (r other : RowThere) → slice_get rows i ≡ Some r → slice_get rows j ≡ Some other → ¬ i ≡ j → other.row.tag ≡ r.row.tag → (r.row.kind ≡ Directory) ⊎ (other.row.kind ≡ Directory)
      → IsSecond pages frame table number (place_of r) r.row
  second_by i j r other at_i at_j apart tags kinds_are = (place_of other, other.row, other.at.home, row_at j other at_j, places_apart i j r other at_i at_j apart, sym tags, kinds_are)

  one_is_directory : (of kind : Kind) → ¬ kind ≡ of → (of ≡ Directory) ⊎ (kind ≡ Directory)
  one_is_directory File File apart = absurd (apart refl)
  one_is_directory File Directory apart = inr refl
  one_is_directory Directory kind apart = inl refl

  by_other_kind : (i : ℕ) (r : RowThere) → slice_get rows i ≡ Some r → 0 < count_in counts r.row.tag (other_of r.row.kind) → IsSecond pages frame table number (place_of r) r.row
  by_other_kind i r at some =
      let other = other_of r.row.kind in
      let (j, q, at_q, passes) = counted_some (leads_so r.row.tag other) rows (omega (arith, some, counted r.row.tag other)) in
      let led = (leads q r.row.tag other).0 passes in
      let differ : ¬ q.row.kind ≡ r.row.kind = λ same. not_other r.row.kind (sym led.1 ∙ same) in
      second_by i j r q at at_q (λ same. differ (ap (λ (t : RowThere). t.row.kind) (some_same q r (sym at_q ∙ ap (slice_get rows) (sym same) ∙ at)))) led.0 (one_is_directory r.row.kind q.row.kind differ)

  by_directories : (i : ℕ) (r : RowThere) → slice_get rows i ≡ Some r → r.row.kind ≡ Directory → 1 < count_in counts r.row.tag r.row.kind → IsSecond pages frame table number (place_of r) r.row
  by_directories i r at kind more =
      let two = counted_two (leads_so r.row.tag r.row.kind) rows (omega (arith, more, counted r.row.tag r.row.kind)) in
      let first = (leads two.one r.row.tag r.row.kind).0 two.passes in
      let second = (leads two.other r.row.tag r.row.kind).0 two.also in
      ⊎_elim (λ same. second_by i two.k r two.other at two.is_other (λ e. omega (arith, same, e, two.before)) second.0 (inl kind))
      (λ apart. second_by i two.j r two.one at two.is_one apart first.0 (inl kind)) (cases_eq i two.j)

  -- the counts of a row that leads where another one does
  from_second : (i : ℕ) (r : RowThere) → slice_get rows i ≡ Some r → IsSecond pages frame table number (place_of r) r.row → AreTooMany counts r
  from_second i r at (other, also, home, is, apart, tags, either) =
      let q : RowThere = record { at = record { dir = other.dir; page = other.page; home = home }; place = other.place; row = also } in
      let read = row_read pages frame table number rows are other also home is in
      by_kinds q read.0 read.1 (λ same. apart (ap place_of (some_same r q (sym at ∙ ap (slice_get rows) same ∙ read.1)))) tags either
    where
      count_other : (q : RowThere) (j : ℕ) → slice_get rows j ≡ Some q → r.row.tag ≡ q.row.tag → q.row.kind ≡ other_of r.row.kind → AreTooMany counts r
      count_other q j at_q tags kind =
          inl (omega (arith, counted r.row.tag (other_of r.row.kind), some_counted (leads_so r.row.tag (other_of r.row.kind)) rows j q at_q ((leads q r.row.tag (other_of r.row.kind)).1 (sym tags, kind))))

      count_same : (q : RowThere) (j : ℕ) → slice_get rows j ≡ Some q → ¬ i ≡ j → r.row.tag ≡ q.row.tag → q.row.kind ≡ r.row.kind → r.row.kind ≡ Directory → AreTooMany counts r
      count_same q j at_q differ tags kind dir =
          let p = leads_so r.row.tag r.row.kind in
          let two = two_at p rows i j r q differ at at_q ((leads r r.row.tag r.row.kind).1 (refl, refl)) ((leads q r.row.tag r.row.kind).1 (sym tags, kind)) in
          inr (inl (dir, omega (arith, counted r.row.tag r.row.kind, two_counted p rows two)))

      by_kinds : (q : RowThere) (j : ℕ) → slice_get rows j ≡ Some q → ¬ i ≡ j → r.row.tag ≡ q.row.tag → (r.row.kind ≡ Directory) ⊎ (q.row.kind ≡ Directory) → AreTooMany counts r
      by_kinds q j at_q differ tags either = by_both r.row.kind q.row.kind refl refl
        where
          by_both : (of kind : Kind) → r.row.kind ≡ of → q.row.kind ≡ kind → AreTooMany counts r
          by_both File File file also = ⊎_elim (λ dir. let e : File ≡ Directory = sym file ∙ dir in absurd (cc)) (λ dir. let e : File ≡ Directory = sym also ∙ dir in absurd (cc)) either
          by_both File Directory file dir = count_other q j at_q tags (dir ∙ ap other_of (sym file))
          by_both Directory File dir file = count_other q j at_q tags (file ∙ ap other_of (sym dir))
          by_both Directory Directory dir also = count_same q j at_q differ tags (also ∙ sym dir) dir

  too_many : (i : ℕ) (r : RowThere) → slice_get rows i ≡ Some r → AreTooMany counts r ↔ (IsSecond pages frame table number (place_of r) r.row ⊎ IsOneOfMany pages frame table number r.row)
  too_many i r at = (
    λ which. ⊎_elim (λ some. inl (by_other_kind i r at some)) (λ others. ⊎_elim (λ (dir, more). inl (by_directories i r at dir more)) (λ many. inr (are_many many)) others) which,
    λ which. ⊎_elim (λ second. from_second i r at second) (λ (places, to, many). inr (inr (omega (arith, many, counted r.row.tag r.row.kind, as_counted pages frame table number rows are r.row.tag r.row.kind places to)))) which,
  )
    where
      are_many : max_links < count_in counts r.row.tag r.row.kind → IsOneOfMany pages frame table number r.row
      are_many many =
          let p = leads_so r.row.tag r.row.kind in
          (passing p rows, rows_to pages frame table number rows are r.row.tag r.row.kind, omega (arith, many, counted r.row.tag r.row.kind, count_passing p rows))

  -- ---- the rule

  by_rows : (home : Home) (old : Type 0) → (old ⊎ ((r : RowThere) × Contains rows r × LeadsLostTwice kinds counts r home)) ↔ (old ⊎ HasLostTwice pages frame table number home)
  by_rows home old = (
    λ which. ⊎_elim (λ first. inl first) (λ (r, among, (lost, many, same)). let at = among_at rows r among in inr (record {
      at = place_of r;
      row = r.row;
      is = subst (IsRow pages frame table number (place_of r) r.row) (sym same) ((are.each r).0 among);
      lost = (is_lost r.row.tag).0 lost;
      wrong = (too_many at.0 r at.1).0 many;
    })) which,
    λ which. ⊎_elim (λ first. inl first) (λ wrong. inr (from_rule wrong)) which,
  )
    where
      from_rule : HasLostTwice pages frame table number home → (r : RowThere) × Contains rows r × LeadsLostTwice kinds counts r home
      from_rule wrong =
          let r : RowThere = record { at = record { dir = wrong.at.dir; page = wrong.at.page; home = home }; place = wrong.at.place; row = wrong.row } in
          let read = row_read pages frame table number rows are wrong.at wrong.row home wrong.is in
          (r, (are.each r).1 wrong.is, ((is_lost wrong.row.tag).1 wrong.lost, (too_many read.0 r read.1).1 wrong.wrong, refl))

  pub all_lost : (old new : Home → Type 0) (count : ℕ) → length rows ≤ count → AreIn rows (LeadsLostTwice kinds counts) old new count → (home : Home) → new home ↔ (old home ⊎ HasLostTwice pages frame table number home)
  all_lost old new count whole said home = iff_trans (all_in rows (LeadsLostTwice kinds counts) old new count whole said home) (by_rows home (old home))
