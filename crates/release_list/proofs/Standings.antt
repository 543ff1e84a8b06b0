-- Files that stand together.
use Rattle.std.proofs.Common.{◌≡◌, ◌∙◌, ℕ, ◌≤◌, Bool, true, false, cond, nat_eq, List, [], ◌∷◌, ◌++◌, Option, Some, None, is_some, IfSome, IsSome, IsSomeAnd, Contains, refl, sym, ap, subst, arith, ⊎_elim, ◌⊎◌, inl, inr}
use Rattle.std.proofs.lemmas.Bool.{and_from, both_ways, cases_Bool, eq-eqb, eqb-true, false_from_ne_true, true≢false}
use Rattle.std.proofs.lemmas.Grind.{flat_map-append}
use Rattle.std.specs.List.{AllByRecursion}
use Rattle.std.specs.Option.{option_and_then, option_map_or}
use Rattle.file_release.specs.domain_base.declared.place.CellAt.{CellAt}
use Rattle.file_release.specs.domain_base.declared.place.Home.{Home}
use Rattle.file_release.specs.page_store.Pages.{Pages}
use Rattle.file_release.specs.cell_records.declared.record.Leftover.TheVariants.{Trim}
use Rattle.file_release.specs.cell_records.declared.record.Record.{Record}
use Rattle.file_release.specs.cell_records.declared.record.Record.TheVariants as written
use Rattle.file_release.specs.cell_records.Records.{kind_of}
use Rattle.file_release.specs.metadata_cells.declared.head.CellHead.{CellHead}
use Rattle.file_release.specs.metadata_cells.Cell.{Cell, record_of}
use Rattle.file_release.specs.metadata_cells.Chain.{AreLinked, Follow, LeavesOthers, PlacedCell, StandsAt, is_at, places, records_of}
use Rattle.file_release.specs.extent_maps.declared.run.PagePlace.TheVariants.{Absent, At}
use Rattle.file_release.specs.extent_maps.declared.run.Run.{Run}
use Rattle.file_release.specs.extent_maps.Runs.{place_of}
use Rattle.file_release.specs.extent_records.Rows.{runs_in, runs_of}
use Rattle.file_release.specs.free_cells.Cells.{Cells}
use Rattle.file_release.specs.free_space.Spaces.{Spaces}
use Rattle.file_release.specs.file_chains.Allocated.{AreAllocated}
use Rattle.file_release.specs.file_chains.Files.{IsFile, places_of}
use Rattle.file_release.proofs.OfFileChains.ChainChanges.{at_apart, at_same, in_first, stand_file}
use Rattle.file_release.specs.fileset_files.Files.{AreApart, first_record}
use Rattle.file_release.specs.fileset_files.Together.{IsHeldApart}
use Rattle.file_release.proofs.OfFilesetFiles.OneChain.{file_by, follow_by}
use Rattle.file_release.proofs.Once.{absent_not, file_map, good_page}
use Rattle.file_release.proofs.Stepped.{stand_apart}
use Rattle.release_list.specs.Listed.{left_of, leftover_in}
use Rattle.release_list.specs.Standing.{Files, IsFileOrQuotas, IsQuotaCell, IsQuotas, IsStanding, ReadsThrough, Source, StandTogether, place_in, source_at, source_in, source_of, with_file}

-- ---- places of cells

pub at_itself : (a : CellAt) → is_at a a ≡ true
at_itself a = and_from (nat_eq a.vol a.vol) _ (eq-eqb a.vol a.vol refl) (and_from (nat_eq a.page a.page) (nat_eq a.cell a.cell) (eq-eqb a.page a.page refl) (eq-eqb a.cell a.cell refl))

pub differ : (a b : CellAt) → is_at a b ≡ false → ¬ a ≡ b
differ a b other same = both_ways (is_at a b) other (subst (λ (x : CellAt). is_at a x ≡ true) same (at_itself a))

pub same_or_not : (a b : CellAt) → (a ≡ b) ⊎ (¬ a ≡ b)
same_or_not a b = ⊎_elim (λ is. inl (at_same a b is)) (λ is_not. inr (differ a b is_not)) (cases_Bool (is_at a b))

module _ (at : CellAt) (chain : Option (List PlacedCell)) (files : Files) where
  pub file_there : with_file at chain files at ≡ chain
  file_there = ap (λ (b : Bool). cond b chain (files at)) (at_itself at)

  pub file_other : (a : CellAt) → ¬ a ≡ at → with_file at chain files a ≡ files a
  file_other a other = ap (λ (b : Bool). cond b chain (files a)) (at_apart a at other)

-- ---- chains of files, and of quota cells

link_stands : (pages : Pages) (head : CellHead) (cs : List PlacedCell) → Follow pages head cs → AllByRecursion (λ (c : PlacedCell). StandsAt pages c.at c.cell) cs
link_stands pages head [] follow = tt
link_stands pages head (c ∷ cs) follow = (follow.2, link_stands pages c.cell.head cs follow.3)

pub not_nil : (pages : Pages) (at : CellAt) → IsFileOrQuotas pages at [] → ⊥
not_nil pages at is = ⊎_elim (λ file. file) (λ quotas. quotas) is

pub linked_at : (pages : Pages) (at : CellAt) (first : PlacedCell) (rest : List PlacedCell) → IsFileOrQuotas pages at (first ∷ rest) → (first.at ≡ at) × AreLinked pages first rest
linked_at pages at first rest is = ⊎_elim (λ file. (file.0, file.1.links)) (λ quotas. (quotas.0, quotas.1.links)) is

-- its first cell is one of it
pub chain_inside : (pages : Pages) (at : CellAt) (cs : List PlacedCell) → IsFileOrQuotas pages at cs → Contains (places cs) at
chain_inside pages at [] is = absurd (not_nil pages at is)
chain_inside pages at (first ∷ rest) is = in_first at first rest (linked_at pages at first rest is).0

-- each of its cells stands
pub stand_chain : (pages : Pages) (at : CellAt) (cs : List PlacedCell) → IsFileOrQuotas pages at cs → AllByRecursion (λ (c : PlacedCell). StandsAt pages c.at c.cell) cs
stand_chain pages at [] is = tt
stand_chain pages at (first ∷ rest) is = let l = linked_at pages at first rest is in (l.1.stands, link_stands pages first.cell.head rest l.1.follow)

quotas_by : (old new : Pages) (at : CellAt) (cs : List PlacedCell) → AllByRecursion (λ (c : PlacedCell). StandsAt new c.at c.cell) cs → IsQuotas old at cs → IsQuotas new at cs
quotas_by old new at [] stand is = is
quotas_by old new at (first ∷ rest) stand is = (
  is.0,
  record {
    links = record { stands = stand.0; follow = follow_by new old first.cell.head rest stand.1 is.1.links.follow; distinct = is.1.links.distinct };
    cells = is.1.cells;
  },
)

-- it stays where its cells do
pub chain_by : (old new : Pages) (at : CellAt) (cs : List PlacedCell) → AllByRecursion (λ (c : PlacedCell). StandsAt new c.at c.cell) cs → IsFileOrQuotas old at cs → IsFileOrQuotas new at cs
chain_by old new at cs stand is = ⊎_elim (λ file. inl (file_by old new at cs stand file)) (λ quotas. inr (quotas_by old new at cs stand quotas)) is

-- ---- what quota cells do not say

no_rows : (r : Record) → (kind_of r ≡ 7) ⊎ (kind_of r ≡ 8) → runs_in r ≡ []
no_rows (written.Attributes kind uid gid flags size keep links birth unsynced) is = refl
no_rows (written.CloneFile vol cell page frozen) is = refl
no_rows (written.Extents rows) is = absurd (⊎_elim (λ e. omega (arith, e)) (λ e. omega (arith, e)) is)
no_rows (written.ShortExtents rows) is = absurd (⊎_elim (λ e. omega (arith, e)) (λ e. omega (arith, e)) is)
no_rows (written.Holes rows) is = absurd (⊎_elim (λ e. omega (arith, e)) (λ e. omega (arith, e)) is)
no_rows (written.Pending what) is = refl
no_rows (written.UserQuota id files blocks) is = refl
no_rows (written.GroupQuota id files blocks) is = refl
no_rows (written.DirIndex vol page entries) is = refl
no_rows (written.Parent slot seq) is = refl
no_rows (written.Stripe width mark vols) is = refl
no_rows (written.Volume vol pages bitmap_pages) is = refl
no_rows (written.DenseExtents rows) is = absurd (⊎_elim (λ e. omega (arith, e)) (λ e. omega (arith, e)) is)
no_rows (written.ShortDense rows) is = absurd (⊎_elim (λ e. omega (arith, e)) (λ e. omega (arith, e)) is)

no_runs : (rs : List Record) → AllByRecursion (λ r. (kind_of r ≡ 7) ⊎ (kind_of r ≡ 8)) rs → runs_of rs ≡ []
no_runs [] all = refl
no_runs (r ∷ rs) all = ap (λ (xs : List Run). xs ++ runs_of rs) (no_rows r all.0) ∙ no_runs rs all.1

quota_runs : (cs : List PlacedCell) → AllByRecursion (λ (c : PlacedCell). IsQuotaCell c.cell) cs → runs_of (records_of cs) ≡ []
quota_runs [] all = refl
quota_runs (c ∷ cs) all =
    flat_map-append runs_in c.cell.records (records_of cs) ∙ ap (λ (xs : List Run). xs ++ runs_of (records_of cs)) (no_runs c.cell.records all.0.limits) ∙ quota_runs cs all.1

-- where no page stands
pub quota_place : (pages : Pages) (at : CellAt) (cs : List PlacedCell) → IsQuotas pages at cs → (p : ℕ) → places_of cs p ≡ Absent
quota_place pages at [] is p = refl
quota_place pages at (first ∷ rest) is p = ap (λ rs. place_of rs p) (quota_runs (first ∷ rest) is.1.cells)

pub no_record : (k : ℕ) → ¬ k ≡ 7 → ¬ k ≡ 8 → (rs : List Record) → AllByRecursion (λ r. (kind_of r ≡ 7) ⊎ (kind_of r ≡ 8)) rs → record_of k rs ≡ None
no_record k seven eight [] all = refl
no_record k seven eight (r ∷ rs) all =
    ap (λ (b : Bool). cond b (Some r) (record_of k rs)) (⊎_elim
    (λ e. eqb_false (kind_of r) k (λ same. seven (sym same ∙ e)))
    (λ e. eqb_false (kind_of r) k (λ same. eight (sym same ∙ e)))
    all.0)
    ∙ no_record k seven eight rs all.1
  where
    eqb_false : (a b : ℕ) → ¬ a ≡ b → nat_eq a b ≡ false
    eqb_false a b other = false_from_ne_true (nat_eq a b) (λ same. other (eqb-true a b same))

-- nor any record of another kind
pub quota_first : (pages : Pages) (at : CellAt) (cs : List PlacedCell) → IsQuotas pages at cs → (k : ℕ) → ¬ k ≡ 7 → ¬ k ≡ 8 → first_record k cs ≡ None
quota_first pages at [] is k seven eight = refl
quota_first pages at (first ∷ rest) is k seven eight = no_record k seven eight first.cell.records is.1.cells.0.limits

-- so a chain that has one is a file's
pub is_file : (pages : Pages) (at : CellAt) (cs : List PlacedCell) → IsFileOrQuotas pages at cs → (k : ℕ) → ¬ k ≡ 7 → ¬ k ≡ 8 → ¬ first_record k cs ≡ None → IsFile pages at cs
is_file pages at cs is k seven eight has = ⊎_elim (λ file. file) (λ quotas. absurd (has (quota_first pages at cs quotas k seven eight))) is

-- or one whose first cell has attributes
pub file_if : (pages : Pages) (at : CellAt) (cs : List PlacedCell) (o : Option Record) → ((cell : Cell) → StandsAt pages at cell → o ≡ record_of 1 cell.records) → IsFileOrQuotas pages at cs → is_some o ≡ true → IsFile pages at cs
file_if pages at [] o says is some = absurd (not_nil pages at is)
file_if pages at (first ∷ rest) o says is some = is_file pages at (first ∷ rest) is 1 (λ e. omega (arith, e)) (λ e. omega (arith, e))
    (λ none.
    let l = linked_at pages at first rest is in
    true≢false (sym some ∙ ap is_some (says first.cell (subst (λ (a : CellAt). StandsAt pages a first.cell) l.0 l.1.stands) ∙ none)))

pub trim_file : (pages : Pages) (at : CellAt) (cs : List PlacedCell) → IsFileOrQuotas pages at cs → left_of cs ≡ Some Trim → IsFile pages at cs
trim_file pages at cs is trim = is_file pages at cs is 6 (λ e. omega (arith, e)) (λ e. omega (arith, e)) (λ none. let e : None ≡ Some Trim = sym (ap (option_and_then leftover_in) none) ∙ trim in absurd (cc))

pub source_file : (pages : Pages) (at : CellAt) (cs : List PlacedCell) → IsFileOrQuotas pages at cs → IsSome (source_of cs) → IsFile pages at cs
source_file pages at cs is some = is_file pages at cs is 2 (λ e. omega (arith, e)) (λ e. omega (arith, e)) (λ none. true≢false (sym some ∙ ap (λ o. is_some (option_and_then source_in o)) none))

-- ---- what is known of files, one or two at a time

pub place_by : (files : Files) (a : CellAt) (cs : List PlacedCell) (p : ℕ) → files a ≡ Some cs → place_in files a p ≡ places_of cs p
place_by files a cs p is = ap (λ o. option_map_or (λ cs. places_of cs p) o Absent) is

pub source_by : (files : Files) (a : CellAt) (cs : List PlacedCell) → files a ≡ Some cs → source_at files a ≡ source_of cs
source_by files a cs is = ap (λ o. option_and_then source_of o) is

pub reads_by : (files now : Files) (a b : CellAt) → source_at now a ≡ source_at files a → ReadsThrough now a b → ReadsThrough files a b
reads_by files now a b same reads = subst (λ o. IsSomeAnd o (λ (source : Source). source.at ≡ b)) same reads

module _ (space : Spaces) (cells : Cells) (pages : Pages) (files : Files) where
  pub standing : StandTogether space cells pages files → (a : CellAt) (cs : List PlacedCell) → files a ≡ Some cs → IsStanding cells pages a cs
  standing together a cs is = subst (λ o. IfSome o (IsStanding cells pages a)) is (together.each a)

  pub apart_by : StandTogether space cells pages files → (a b : CellAt) (xs ys : List PlacedCell) → files a ≡ Some xs → files b ≡ Some ys → ¬ a ≡ b → AreApart xs ys
  apart_by together a b xs ys is_a is_b other =
      subst (λ o. IfSome o (AreApart xs)) is_b (subst (λ o. IfSome o (λ xs. IfSome (files b) (AreApart xs))) is_a (together.apart a b (at_apart a b other)))

pub low_home : (space : Spaces) (cells : Cells) (pages : Pages) (files : Files) → StandTogether space cells pages files → (a : CellAt) (p : ℕ) (home : Home) → place_in files a p ≡ At home → 1 ≤ home.vol
low_home space cells pages files together a p home there = by_chain (files a) refl there
  where
    by_chain : (o : Option (List PlacedCell)) → files a ≡ o → option_map_or (λ cs. places_of cs p) o Absent ≡ At home → 1 ≤ home.vol
    by_chain None is_a said = absurd (absent_not home said)
    by_chain (Some cs) is_a said = ⊎_elim
        (λ file. (good_page (runs_of (records_of cs)) (file_map pages a cs file).placed p home said).low)
        (λ quotas. absurd (absent_not home (sym (quota_place pages a cs quotas p) ∙ said)))
        (standing space cells pages files together a cs is_a).stands

pub each_from : (cells : Cells) (pages : Pages) (files : Files) → ((a : CellAt) (cs : List PlacedCell) → files a ≡ Some cs → IsStanding cells pages a cs) → (a : CellAt) → IfSome (files a) (IsStanding cells pages a)
each_from cells pages files all a = by_chain (files a) refl
  where
    by_chain : (o : Option (List PlacedCell)) → files a ≡ o → IfSome o (IsStanding cells pages a)
    by_chain None is = tt
    by_chain (Some cs) is = all a cs is

pub apart_from : (files : Files) → ((a b : CellAt) (xs ys : List PlacedCell) → files a ≡ Some xs → files b ≡ Some ys → ¬ a ≡ b → AreApart xs ys)
    → (a b : CellAt) → is_at a b ≡ false → IfSome (files a) (λ xs. IfSome (files b) (AreApart xs))
apart_from files all a b other = by_first (files a) refl
  where
    by_second : (xs : List PlacedCell) → files a ≡ Some xs → (o : Option (List PlacedCell)) → files b ≡ o → IfSome o (AreApart xs)
    by_second xs is None is_b = tt
    by_second xs is (Some ys) is_b = all a b xs ys is is_b (differ a b other)

    by_first : (o : Option (List PlacedCell)) → files a ≡ o → IfSome o (λ xs. IfSome (files b) (AreApart xs))
    by_first None is = tt
    by_first (Some xs) is = by_second xs is (files b) refl

-- ---- files that lose pages or cells alone

-- each file had its cells, and its pages where they stand; and what reads through another did so
pub record AreNarrower (files now : Files) : Type 0 where
  pub was : (a : CellAt) (cs : List PlacedCell) → now a ≡ Some cs → (before : List PlacedCell) × (files a ≡ Some before) × ((at : CellAt) → Contains (places cs) at → Contains (places before) at) × ((p : ℕ) → places_of cs p ≡ places_of before p)
  pub reads : (a b : CellAt) → ReadsThrough now a b → ReadsThrough files a b

module _ (files now : Files) (narrower : AreNarrower files now) where
  pub was_there : (a : CellAt) (p : ℕ) (home : Home) → place_in now a p ≡ At home → place_in files a p ≡ At home
  was_there a p home there = by_chain (now a) refl there
    where
      by_chain : (o : Option (List PlacedCell)) → now a ≡ o → option_map_or (λ cs. places_of cs p) o Absent ≡ At home → place_in files a p ≡ At home
      by_chain None is said = absurd (absent_not home said)
      by_chain (Some cs) is said = let w = narrower.was a cs is in place_by files a w.0 p w.1 ∙ sym (w.3 p) ∙ said

  pub narrower_together : (space space_now : Spaces) (cells cells_now : Cells) (old new : Pages) → StandTogether space cells old files → AreAllocated space_now cells_now new → ((a : CellAt) (cs : List PlacedCell) → now a ≡ Some cs → IsStanding cells_now new a cs)
      → ((a : CellAt) (p : ℕ) (home : Home) → place_in files a p ≡ At home → IsHeldApart space cells home → IsHeldApart space_now cells_now home) → StandTogether space_now cells_now new now
  narrower_together space space_now cells cells_now old new together allocated each held = record {
    allocated = allocated;
    each = each_from cells_now new now each;
    apart = apart_from now (λ a b xs ys is_a is_b other.
        let x = narrower.was a xs is_a in
        let y = narrower.was b ys is_b in
        λ at in_x in_y. apart_by space cells old files together a b x.0 y.0 x.1 y.1 other at (x.2 at in_x) (y.2 at in_y));
    held = λ a p home there. let was = was_there a p home there in held a p home was (together.held a p home was);
    once = λ a b p q home x y. together.once a b p q home (was_there a p home x) (was_there b q home y);
    one_deep = λ a b c x y. together.one_deep a b c (narrower.reads a b x) (narrower.reads b c y);
  }

-- a file without the cell that is changed stays
pub file_beside : (old new : Pages) (at a : CellAt) (cs : List PlacedCell) → LeavesOthers (is_at at) old new → ¬ Contains (places cs) at → IsFile old a cs → IsFile new a cs
file_beside old new at a cs leaves out is =
    file_by old new a cs
    (stand_apart old new (is_at at) leaves cs (λ q inside. at_apart at q (λ same. out (subst (Contains (places cs)) (sym same) inside))) (stand_file old a cs is))
    is

pub chain_beside : (old new : Pages) (at a : CellAt) (cs : List PlacedCell) → LeavesOthers (is_at at) old new → ¬ Contains (places cs) at → IsFileOrQuotas old a cs → IsFileOrQuotas new a cs
chain_beside old new at a cs leaves out is =
    chain_by old new a cs
    (stand_apart old new (is_at at) leaves cs (λ q inside. at_apart at q (λ same. out (subst (Contains (places cs)) (sym same) inside))) (stand_chain old a cs is))
    is
