-- What a row more or less leaves of a directory's rows, and of all files and directories.
use Rattle.std.proofs.Common.{◌≡◌, ◌≢◌, ◌∙◌, false, ◌++◌, Option, Some, None, IsSome, IsSomeAnd, is_some, refl, sym, ap, subst}
use Rattle.plain_program.specs.domain_base.declared.place.Kind.TheVariants as kinds
use Rattle.plain_program.specs.domain_base.declared.place.Tag.{Tag}
use Rattle.directory_rows.specs.page_store.Bitfiles.{Bitfile, Bitfiles, IsDirectory, count_index, same_tag}
use Rattle.directory_rows.specs.directory_pages.declared.row.Row.{Row}
use Rattle.directory_rows.specs.directory_pages.Rows.{found}
use Rattle.directory_rows.specs.Directory.{IsWellFormed, NamesOnce, rows_in}
use Rattle.directory_rows.specs.Laws.{IsSameNode, LeavesOthers}
use Rattle.directory_rows.specs.RowChanges.{AddsRow, OnlyDirectory, RemovesRow}
use Rattle.directory_rows.proofs.Outside.{others_stay_lem, rows_decide_lem}
use Rattle.plain_program.specs.fileset_values.Orders.{Name}
use Rattle.plain_program.proofs.OfLegalHistories.ValidLemmas.{from_some_and, some_inj, to_some_and}
use Rattle.name_space.proofs.CreatedNames.{by_tag, same_count, same_rows}
use Rattle.name_space.proofs.Leaves.{found_new, found_past}
use Rattle.name_space.proofs.Removed.{alone_here, not_named}

-- ---- files and directories

pub same_itself : (file : Bitfile) → IsSameNode file file
same_itself file = record { kind = refl; uid = refl; gid = refl; links = refl }

pub same_twice : (a b c : Bitfile) → IsSameNode a b → IsSameNode b c → IsSameNode a c
same_twice a b c x y = record { kind = x.kind ∙ y.kind; uid = x.uid ∙ y.uid; gid = x.gid ∙ y.gid; links = x.links ∙ y.links }

pub is_there : (files : Bitfiles) (dir : Tag) → IsDirectory files dir → IsSome (files dir)
is_there files dir directory = ap is_some (from_some_and (λ (f : Bitfile). f.kind ≡ kinds.Directory) (files dir) directory).1

module _ (old new : Bitfiles) (dir : Tag) (only : OnlyDirectory dir old new) where
  stay : LeavesOthers dir old new
  stay = others_stay_lem dir old new only

  pub rows_kept : (t : Tag) → same_tag t dir ≡ false → rows_in new t ≡ rows_in old t
  rows_kept t away = same_rows (new t) (old t) (stay.others t away)

  -- what was there is there
  pub still : (t : Tag) (file : Bitfile) → old t ≡ Some file → (now : Bitfile) × (new t ≡ Some now) × IsSameNode now file
  still t file there = by_tag ((now : Bitfile) × (new t ≡ Some now) × IsSameNode now file) t dir
      (λ same. let it = stay.itself file (sym (ap old same) ∙ there) in (it.0, ap new same ∙ it.1, it.2))
      (λ other. (file, stay.others t other ∙ there, same_itself file))

  -- what is there was there
  pub before : IsDirectory old dir → (t : Tag) (now : Bitfile) → new t ≡ Some now → (file : Bitfile) × (old t ≡ Some file) × IsSameNode now file
  before directory t now there = by_tag ((file : Bitfile) × (old t ≡ Some file) × IsSameNode now file) t dir
      (λ same.
      let was = from_some_and (λ (f : Bitfile). f.kind ≡ kinds.Directory) (old dir) directory in
      let it = stay.itself was.0 was.1 in
      (was.0, ap old same ∙ was.1, subst (λ f. IsSameNode f was.0) (some_inj (sym it.1 ∙ sym (ap new same) ∙ there)) it.2))
      (λ other. (now, sym (stay.others t other) ∙ there, same_itself now))

  -- a directory is well formed where the changed one is and the others were
  pub good_kept : ((d : Tag) → IsDirectory old d → IsWellFormed old d) → IsWellFormed new dir → (d : Tag) → IsDirectory new d → IsWellFormed new d
  good_kept were good d there = by_tag (IsWellFormed new d) d dir
      (λ same. subst (IsWellFormed new) (sym same) good)
      (λ other.
      let back : new d ≡ old d = stay.others d other in
      let file = from_some_and (λ (f : Bitfile). f.kind ≡ kinds.Directory) (new d) there in
      rows_decide_lem old new d d file.0 file.0 (sym back ∙ file.1) file.1 (record { kind = refl; pages = refl; index = refl })
      (were d (subst (λ (o : Option Bitfile). IsSomeAnd o (λ file. file.kind ≡ kinds.Directory)) back there)))

  pub directory_kept : (d : Tag) → IsDirectory old d → IsDirectory new d
  directory_kept d there =
      let was = from_some_and (λ (f : Bitfile). f.kind ≡ kinds.Directory) (old d) there in
      let now = still d was.0 was.1 in
      to_some_and (λ (f : Bitfile). f.kind ≡ kinds.Directory) (new d) now.0 now.1 (now.2.kind ∙ was.2)

  -- what is there was there
  pub there_before : IsDirectory old dir → (t : Tag) → IsSome (new t) → IsSome (old t)
  there_before directory t there = by_tag (IsSome (old t)) t dir
      (λ same. ap (λ t. is_some (old t)) same ∙ is_there old dir directory)
      (λ other. ap is_some (sym (stay.others t other)) ∙ there)

-- each has as many index pages where a row went
pub removed_index : (old new : Bitfiles) (dir : Tag) (name : Name) → RemovesRow dir name old new → (t : Tag) → count_index new t ≡ count_index old t
removed_index old new dir name removes t = by_tag (count_index new t ≡ count_index old t) t dir
    (λ same. ap (count_index new) same ∙ removes.index ∙ sym (ap (count_index old) same))
    (λ other. same_count (new t) (old t) ((others_stay_lem dir old new removes.others).others t other))

-- ---- rows

module _ (old new : Bitfiles) (dir : Tag) (row : Row) (adds : AddsRow dir row old new) where
  pub added_rest : (n : Name) → n ≢ row.name → found n (rows_in new dir) ≡ found n (rows_in old dir)
  added_rest n other = ap (found n) adds.are ∙ found_past n adds.front row adds.back other ∙ ap (found n) (sym adds.were)

  pub added_row : found row.name (rows_in old dir) ≡ None → found row.name (rows_in new dir) ≡ Some (row.tag, row.kind)
  added_row free = ap (found row.name) adds.are ∙ found_new adds.front row adds.back (ap (found row.name) (sym adds.were) ∙ free)

module _ (old new : Bitfiles) (dir : Tag) (name : Name) (good : IsWellFormed old dir) (removes : RemovesRow dir name old new) where
  pub removed_rest : (n : Name) → n ≢ name → found n (rows_in new dir) ≡ found n (rows_in old dir)
  removed_rest n other =
      ap (found n) removes.are
      ∙ sym (found_past n removes.front removes.row removes.back (λ same. other (same ∙ removes.named)))
      ∙ ap (found n) (sym removes.were)

  pub removed_row : found name (rows_in new dir) ≡ None
  removed_row =
      ap (found name) removes.are ∙ ap (λ n. found n (removes.front ++ removes.back)) (sym removes.named)
      ∙ not_named removes.row.name (removes.front ++ removes.back) (alone_here removes.front removes.row removes.back (subst NamesOnce removes.were good.names))

  -- a name without a row has none then
  pub removed_none : (n : Name) (dir' : Tag) → found n (rows_in old dir') ≡ None → (n ≡ name → dir' ≢ dir) → found n (rows_in new dir') ≡ None
  removed_none n dir' none apart = by_tag (found n (rows_in new dir') ≡ None) dir' dir
      (λ same. ap (λ d. found n (rows_in new d)) same ∙ removed_rest n (λ is. apart is same) ∙ ap (λ d. found n (rows_in old d)) (sym same) ∙ none)
      (λ other. ap (found n) (rows_kept old new dir removes.others dir' other) ∙ none)
