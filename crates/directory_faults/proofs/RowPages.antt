-- Pages of a fileset's directories that are no pages of rows, by its files.
use Rattle.std.proofs.Common.{◌≡◌, ◌∙◌, ◌⊎◌, ◌↔◌, ◌≤◌, inl, inr, ℕ, length, List, Option, Some, None, Contains, slice_get, refl, sym, ap, subst, ⊎_elim}
use Rattle.std.specs.Option.{option_and_then}
use Rattle.fileset_shapes.specs.domain_base.declared.place.Home.{Home}
use Rattle.fileset_shapes.specs.page_store.Pages.{Pages}
use Rattle.fileset_shapes.specs.fileset_files.declared.attributes.Attributes.{Attributes}
use Rattle.fileset_shapes.specs.fileset_table.Table.{Table}
use Rattle.fileset_shapes.specs.domain_layout.Reached.{Frame}
use Rattle.fileset_shapes.specs.filesets_reading.Seen.{home_in}
use Rattle.directory_faults.specs.Pages.{HasWrongRowPage, IsBadAmong, IsBadOf, IsBadPage}
use Rattle.directory_faults.specs.There.{AreFilesIn}
use Rattle.directory_faults.specs.declared.there.FileThere.{FileThere}
use Rattle.directory_faults.proofs.Inserted.{AreIn, all_in, among_at, at_among, iff_trans}

-- the place of a home in a list
pub listed : (homes : List (Option Home)) (page : ℕ) (home : Home) → home_in homes page ≡ Some home → slice_get homes page ≡ Some (Some home)
listed homes page home at = by_option (slice_get homes page) at
  where
    by_option : (o : Option (Option Home)) → option_and_then (λ (h : Option Home). h) o ≡ Some home → o ≡ Some (Some home)
    by_option None is = absurd (let e : None ≡ Some home = is in absurd (cc))
    by_option (Some h) is = ap Some is

-- what is said of a home by one of the homes
abbrev pub IsBadHome : Pages → Frame → Option Home → Home → Type 0
IsBadHome pages frame one home = (one ≡ Some home) × IsBadPage pages frame home

-- a home that one of the homes is
pub bad_one : (pages : Pages) (frame : Frame) (homes : List (Option Home)) (old : Type 0) (home : Home)
    → (old ⊎ ((one : Option Home) × Contains homes one × IsBadHome pages frame one home)) ↔ (old ⊎ IsBadAmong pages frame homes home)
bad_one pages frame homes old home = (
  λ which. ⊎_elim (λ first. inl first) (λ (one, among, (same, bad)). inr (subst (Contains homes) same among, bad)) which,
  λ which. ⊎_elim (λ first. inl first) (λ (among, bad). inr (Some home, among, (refl, bad))) which,
)

pub bad_pages : (pages : Pages) (frame : Frame) (homes : List (Option Home)) (old new : Home → Type 0) (number : ℕ) → length homes ≤ number → AreIn homes (IsBadHome pages frame) old new number
    → (home : Home) → new home ↔ (old home ⊎ IsBadAmong pages frame homes home)
bad_pages pages frame homes old new number whole are home =
    iff_trans (all_in homes (IsBadHome pages frame) old new number whole are home) (bad_one pages frame homes (old home) home)

module _ (pages : Pages) (frame : Frame) (table : Table) (number : ℕ) (files : List FileThere) (are : AreFilesIn pages frame table number files) (home : Home) where
  to_rule : (file : FileThere) → Contains files file → IsBadOf pages frame file home → HasWrongRowPage pages frame table number home
  to_rule file among (kind, (listed_there, bad)) =
      let read = are.each file among in
      let at = among_at file.seen.homes.items (Some home) listed_there in (
        file.tag,
        at.0,
        bad.bytes,
        record {
          cells = read.cells;
          seen = read.seen;
          has = read.has;
          kind = sym (ap (λ (a : Attributes). a.kind) read.read.is) ∙ kind;
          at = ((read.read.homes (sym (ap (λ (a : Attributes). a.kind) read.read.is) ∙ kind) at.0 home).0 (ap (option_and_then (λ (h : Option Home). h)) at.1)).0;
          within = bad.within;
          there = bad.there;
        },
        bad.bad,
      )

  from_rule : HasWrongRowPage pages frame table number home → (file : FileThere) × Contains files file × IsBadOf pages frame file home
  from_rule (dir, page, bytes, is, bad) =
      let was = are.all dir is.cells is.seen is.has in
      let homes = was.file.seen.homes.items in
      let at = listed homes page home ((was.read.homes is.kind page home).1 (is.at, is.within)) in (
        was.file,
        was.among,
        (
          ap (λ (a : Attributes). a.kind) was.read.is ∙ is.kind,
          (at_among homes page (Some home) at, record { within = is.within; bytes = bytes; there = is.there; bad = bad }),
        ),
      )

  pub row_pages : (old : Type 0) → (old ⊎ ((file : FileThere) × Contains files file × IsBadOf pages frame file home)) ↔ (old ⊎ HasWrongRowPage pages frame table number home)
  row_pages old = (
    λ which. ⊎_elim (λ first. inl first) (λ (file, among, bad). inr (to_rule file among bad)) which,
    λ which. ⊎_elim (λ first. inl first) (λ wrong. inr (from_rule wrong)) which,
  )

pub all_row_pages : (pages : Pages) (frame : Frame) (table : Table) (slot : ℕ) (files : List FileThere) → AreFilesIn pages frame table slot files → (old new : Home → Type 0) (number : ℕ) → length files ≤ number
    → AreIn files (IsBadOf pages frame) old new number → (home : Home) → new home ↔ (old home ⊎ HasWrongRowPage pages frame table slot home)
all_row_pages pages frame table slot files are old new number whole said home =
    iff_trans (all_in files (IsBadOf pages frame) old new number whole said home) (row_pages pages frame table slot files are home (old home))
