-- Directories that are not to be cut keep all pages, and those that keep all are not to be cut.
use Rattle.std.proofs.Common.{◌≡◌, ◌∙◌, ℕ, Bool, true, false, cond, nat_eq, List, [], ◌∷◌, Option, Some, None, refl, sym, ap, subst}
use Rattle.std.proofs.lemmas.Bool.{eq-eqb, eqb-true}
use Rattle.std.specs.Option.{option_and_then, option_map, option_map_or}
use Rattle.std.specs.Prelude.{◌&&◌, not}
use Rattle.no_faults.specs.domain_base.Limits.{file_pages}
use Rattle.no_faults.specs.domain_base.declared.place.CellAt.{CellAt}
use Rattle.no_faults.specs.domain_base.declared.place.Kind.TheVariants.{Directory, File}
use Rattle.no_faults.specs.page_store.Pages.{Pages}
use Rattle.no_faults.specs.cell_records.declared.record.Record.{Record}
use Rattle.no_faults.specs.cell_records.declared.record.Record.TheVariants as written
use Rattle.no_faults.specs.metadata_cells.Cell.{Cell, record_of}
use Rattle.no_faults.specs.metadata_cells.Chain.{LinksFrom, PlacedCell, StandsAt}
use Rattle.no_faults.specs.extent_maps.Runs.{home_at}
use Rattle.no_faults.specs.extent_records.Writing.{places_before}
use Rattle.no_faults.specs.file_chains.Files.{places_of}
use Rattle.no_faults.specs.fileset_files.Files.{attributes_in, attributes_of, first_record, is_removed, keep_in, keep_of}
use Rattle.no_faults.specs.fileset_files.declared.attributes.Attributes.{Attributes}
use Rattle.no_faults.specs.domain_layout.Seen.{SeenFile, kept_by, seen_in}
use Rattle.no_faults.proofs.OfDomainLayout.OnePage.{some_same}
use Rattle.attached_domain.specs.Signs.{say_cut, says_cut}

none_some : {X : Type 0} {P : Type 0} (x : X) → None ≡ Some x → P
none_some x is = absurd (let e : None ≡ Some x = is in cc)

-- a record of attributes that says a directory, and no cut, says that all pages are kept
by_kind : (b c : Bool) → cond b Directory File ≡ Directory → (b && not c) ≡ false → c ≡ true
by_kind true true directory uncut = refl
by_kind true false directory uncut = absurd (let e : true ≡ false = uncut in cc)
by_kind false c directory uncut = absurd (let e : File ≡ Directory = directory in cc)

-- what is seen of a file is what it is, and it keeps some pages
record IsKeptAs (cells : List PlacedCell) (is : Attributes) (seen : SeenFile) : Type 0 where
  keep : ℕ
  keeps : keep_of cells ≡ Some keep
  same : seen.is ≡ is

kept_as : (cells : List PlacedCell) (is : Attributes) (seen : SeenFile) → kept_by cells is ≡ Some seen → IsKeptAs cells is seen
kept_as cells is seen there = by_keep (keep_of cells) refl there
  where
    by_keep : (o : Option ℕ) → keep_of cells ≡ o → option_map (λ keep. record { is = is; homes = λ page. home_at (places_before keep (places_of cells) page) }) o ≡ Some seen → IsKeptAs cells is seen
    by_keep None none seen_there = none_some seen seen_there
    by_keep (Some keep) some seen_there = record { keep = keep; keeps = some; same = sym (ap (λ (s : SeenFile). s.is) (some_same _ seen seen_there)) }

kept_in_record : (cells : List PlacedCell) (r : Record) (seen : SeenFile) → first_record 1 cells ≡ Some r → option_and_then (kept_by cells) (attributes_in r) ≡ Some seen
    → seen.is.kind ≡ Directory → says_cut r ≡ false → keep_of cells ≡ Some file_pages
kept_in_record cells (written.Attributes kind uid gid flags size keep links birth unsynced) seen at there directory uncut =
    let is : IsKeptAs cells (record { kind = cond (nat_eq kind 2) Directory File; uid = uid; gid = gid; is_logged = nat_eq flags 1; size = size; links = links }) seen = kept_as cells _ seen there in
    let all : nat_eq keep file_pages ≡ true = by_kind (nat_eq kind 2) (nat_eq keep file_pages) (sym (ap (λ (a : Attributes). a.kind) is.same) ∙ directory) uncut in
    ap (option_and_then keep_in) at ∙ ap Some (eqb-true keep file_pages all)
kept_in_record cells r seen at there directory uncut = none_some seen there

-- a directory keeps all pages where its first cell says no cut
pub keeps_all : (pages : Pages) (at : CellAt) (cells : List PlacedCell) (seen : SeenFile) → LinksFrom pages at cells → seen_in cells ≡ Some seen → seen.is.kind ≡ Directory
    → ((cell : Cell) → StandsAt pages at cell → say_cut cell.records ≡ false) → keep_of cells ≡ Some file_pages
keeps_all pages at [] seen links there directory uncut = absurd links
keeps_all pages at (first ∷ rest) seen links there directory uncut = by_removed (is_removed (first ∷ rest)) there
  where
    said : say_cut first.cell.records ≡ false
    said = uncut first.cell (subst (λ a. StandsAt pages a first.cell) links.0 links.1.stands)

    by_record : (o : Option Record) → record_of 1 first.cell.records ≡ o → option_and_then (kept_by (first ∷ rest)) (option_and_then attributes_in o) ≡ Some seen → option_map_or says_cut o false ≡ false
        → keep_of (first ∷ rest) ≡ Some file_pages
    by_record None none seen_there cut = none_some seen seen_there
    by_record (Some r) some seen_there cut = kept_in_record (first ∷ rest) r seen some seen_there directory cut

    by_removed : (b : Bool) → cond b None (option_and_then (kept_by (first ∷ rest)) (attributes_of (first ∷ rest))) ≡ Some seen → keep_of (first ∷ rest) ≡ Some file_pages
    by_removed true seen_there = none_some seen seen_there
    by_removed false seen_there = by_record (record_of 1 first.cell.records) refl seen_there said

-- a directory that keeps all pages says no cut
uncut_record : (cells : List PlacedCell) → is_removed cells ≡ false → ((seen : SeenFile) → seen_in cells ≡ Some seen → seen.is.kind ≡ Directory → keep_of cells ≡ Some file_pages)
    → (r : Record) → first_record 1 cells ≡ Some r → says_cut r ≡ false
uncut_record cells live keeps (written.Attributes kind uid gid flags size keep links birth unsynced) at = by_test (nat_eq kind 2) refl
  where
    is : Attributes
    is = record { kind = cond (nat_eq kind 2) Directory File; uid = uid; gid = gid; is_logged = nat_eq flags 1; size = size; links = links }

    seen : SeenFile
    seen = record { is = is; homes = λ page. home_at (places_before keep (places_of cells) page) }

    kept_so : keep_of cells ≡ Some keep
    kept_so = ap (option_and_then keep_in) at

    sees : seen_in cells ≡ Some seen
    sees =
        (λ i. cond (live i) None (option_and_then (kept_by cells) (option_and_then attributes_in (at i))))
        ∙ ap (option_map (λ n. record { is = is; homes = λ page. home_at (places_before n (places_of cells) page) })) kept_so

    by_test : (b : Bool) → nat_eq kind 2 ≡ b → (nat_eq kind 2 && not (nat_eq keep file_pages)) ≡ false
    by_test true directory =
        let all : nat_eq keep file_pages ≡ true = eq-eqb keep file_pages (some_same keep file_pages (sym kept_so ∙ keeps seen sees (ap (λ b. cond b Directory File) directory))) in
        (λ i. directory i && not (all i))
    by_test false other = ap (λ b. b && not (nat_eq keep file_pages)) other
uncut_record cells live keeps r at = refl

pub uncut : (first : PlacedCell) (rest : List PlacedCell) → is_removed (first ∷ rest) ≡ false
    → ((seen : SeenFile) → seen_in (first ∷ rest) ≡ Some seen → seen.is.kind ≡ Directory → keep_of (first ∷ rest) ≡ Some file_pages) → say_cut first.cell.records ≡ false
uncut first rest live keeps = by_record (record_of 1 first.cell.records) refl
  where
    by_record : (o : Option Record) → record_of 1 first.cell.records ≡ o → option_map_or says_cut o false ≡ false
    by_record None at = refl
    by_record (Some r) at = uncut_record (first ∷ rest) live keeps r at
