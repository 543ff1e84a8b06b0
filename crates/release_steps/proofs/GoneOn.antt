-- Where steps go on over calls on a tag.
use Rattle.std.proofs.Common.{◌≡◌, ◌∙◌, ℕ, List, [], ◌∷◌, Option, Some, None, IsSome, Contains, is_some, refl, sym, ap, subst, arith, ⊎_elim}
use Rattle.std.proofs.lemmas.Bool.{true≢false}
use Rattle.release_list.specs.domain_base.declared.place.CellAt.{CellAt}
use Rattle.release_list.specs.domain_base.declared.place.Home.{Home}
use Rattle.release_list.specs.domain_base.declared.place.Tag.{Tag}
use Rattle.release_list.specs.domain_base.declared.version.Version.{Version}
use Rattle.release_list.specs.page_store.Pages.{Pages}
use Rattle.release_list.specs.metadata_cells.Cell.{Cell, record_of}
use Rattle.release_list.specs.metadata_cells.Chain.{PlacedCell, StandsAt, places}
use Rattle.release_list.proofs.OfMetadataCells.Unique.{one_stands}
use Rattle.release_list.specs.file_chains.Files.{IsFile}
use Rattle.release_list.specs.fileset_files.Changes.{says_removed, with_first}
use Rattle.release_list.specs.fileset_files.Files.{first_record}
use Rattle.release_list.proofs.OfFilesetFiles.Given.{one_file}
use Rattle.release_list.specs.declared.cursor.Cursor.{Cursor}
use Rattle.release_list.specs.Cursors.{IsAhead}
use Rattle.release_list.specs.Standing.{Files, IsFileOrQuotas, with_file}
use Rattle.release_list.proofs.Firsts.{first_same}
use Rattle.release_list.proofs.Spread.{none_not, some_same}
use Rattle.release_list.proofs.Standings.{file_if, file_other, file_there, is_file, same_or_not, standing}
use Rattle.release_steps.specs.Ahead.{GoesOnIn}
use Rattle.release_steps.specs.Calls.{StandsWell, Call, Calls, Drops, FilesetNow, Makes, PutsPage, SetsFirst, cut, described, dropped, given, indexed, made, moved, no_call, one_more, put_in, refused}
use Rattle.release_steps.proofs.CallsWell.{stands_call}
use Rattle.release_steps.proofs.FirstWell.{dropped_was, files_left, set_file}
use Rattle.release_steps.proofs.MakeWell.{no_file}
use Rattle.release_steps.proofs.TagFile.{file_is, started}

-- ---- files and chains of quota cells

-- a file's first cell has attributes
has_attributes : (pages : Pages) (at : CellAt) (cs : List PlacedCell) → IsFile pages at cs → ¬ first_record 1 cs ≡ None
has_attributes pages at [] file none = file
has_attributes pages at (first ∷ rest) file none = true≢false (sym file.1.attributes ∙ ap is_some none)

-- so what begins there is a file where it has them
by_attributes : (pages : Pages) (at : CellAt) (cs : List PlacedCell) → IsFileOrQuotas pages at cs → ¬ first_record 1 cs ≡ None → IsFile pages at cs
by_attributes pages at cs is has = is_file pages at cs is 1 (λ e. omega (arith, e)) (λ e. omega (arith, e)) has

-- or where another chain that begins there is one
by_file : (pages : Pages) (at : CellAt) (cs xs : List PlacedCell) → IsFileOrQuotas pages at cs → IsFile pages at xs → IsFile pages at cs
by_file pages at cs [] is file = absurd file
by_file pages at cs (x ∷ xs) is file =
    file_if pages at cs (record_of 1 x.cell.records)
    (λ cell stands. ap (λ (c : Cell). record_of 1 c.records) (one_stands pages at x.cell cell (subst (λ (a : CellAt). StandsAt pages a x.cell) file.0 file.1.links.stands) stands))
    is file.1.attributes

-- ---- a call

-- the cursor's file is one of the domain's, and its cell is one of it
record IsOn (now : FilesetNow) (c : Cursor) : Type 0 where
  chain : List PlacedCell
  is : now.domain.files c.file ≡ Some chain
  inside : IsFile now.domain.pages c.file chain → Contains (places chain) c.at

stands_now : (fileset : ℕ) (now : FilesetNow) → StandsWell fileset now → (at : CellAt) (cs : List PlacedCell) → now.domain.files at ≡ Some cs → IsFileOrQuotas now.domain.pages at cs
stands_now fileset now stood at cs is = (standing now.domain.space now.domain.cells now.domain.pages now.domain.files stood.well.together at cs is).stands

module _ (fileset : ℕ) (version : Version) (tag : Tag) (old new : FilesetNow) (stood : StandsWell fileset old) (c : Cursor) (on : IsOn old c) where
  -- its chain is what it was
  stayed : new.domain.files c.file ≡ old.domain.files c.file → IsOn new c
  stayed same = record {
    chain = on.chain;
    is = same ∙ on.is;
    inside = λ file. on.inside (by_attributes old.domain.pages c.file on.chain (stands_now fileset old stood c.file on.chain on.is) (has_attributes new.domain.pages c.file on.chain file));
  }

  by_other : (at : CellAt) (chain : Option (List PlacedCell)) → new.domain.files ≡ with_file at chain old.domain.files → ¬ c.file ≡ at → IsOn new c
  by_other at chain files not_at = stayed (ap (λ (f : Files). f c.file) files ∙ file_other at chain old.domain.files c.file not_at)

  -- or another one that has each cell that it had
  went_on : (at : CellAt) (chain after : List PlacedCell) → new.domain.files ≡ with_file at (Some after) old.domain.files → old.domain.files at ≡ Some chain → ¬ first_record 1 chain ≡ None → ((q : CellAt) → Contains (places chain) q → Contains (places after) q)
      → IsOn new c
  went_on at chain after files there has kept = ⊎_elim
      (λ same.
      let was : on.chain ≡ chain = some_same on.chain chain (sym on.is ∙ ap old.domain.files same ∙ there) in
      record {
        chain = after;
        is = ap new.domain.files same ∙ ap (λ (f : Files). f at) files ∙ file_there at (Some after) old.domain.files;
        inside = λ file. kept c.at (subst (λ (cs : List PlacedCell). Contains (places cs) c.at) was
            (on.inside (by_attributes old.domain.pages c.file on.chain (stands_now fileset old stood c.file on.chain on.is) (λ none. has (ap (first_record 1) (sym was) ∙ none)))));
      })
      (λ not_at. by_other at (Some after) files not_at)
      (same_or_not c.file at)

  put_on : (home : Home) (chain : List PlacedCell) → PutsPage fileset version tag home chain old new → IsOn new c
  put_on home chain s =
      let change = s.change.change in
      let after = change.changes.after in
      let begins = started new.domain.pages s.change.start chain after change.changes.first change.changes.is_file in
      went_on s.change.start chain after s.files
      (file_is fileset old.places old.domain.pages old.chains stood.together.files old.domain.files stood.among.same tag chain s.is s.change.start begins.0)
      (λ none. has_attributes new.domain.pages s.change.start after change.changes.is_file (first_same 1 refl chain after change.changes.first ∙ none))
      change.kept

  set_on : (says : Cell → Cell) → SetsFirst fileset tag says old new → IsOn new c
  set_on says s =
      went_on s.first.at (s.first ∷ s.rest) (with_first says (s.first ∷ s.rest)) s.files
      (file_is fileset old.places old.domain.pages old.chains stood.together.files old.domain.files stood.among.same tag (s.first ∷ s.rest) s.is s.first.at refl)
      (has_attributes old.domain.pages s.first.at (s.first ∷ s.rest) (refl, set_file fileset tag old new stood says s))
      (λ q inside. inside)

  drop_on : Drops fileset tag old new → IsOn new c
  drop_on s =
      went_on s.first.at (s.first ∷ s.rest) (with_first says_removed (s.first ∷ s.rest)) (files_left fileset tag old new stood s)
      (file_is fileset old.places old.domain.pages old.chains stood.together.files old.domain.files stood.among.same tag (s.first ∷ s.rest) s.is s.first.at refl)
      (has_attributes old.domain.pages s.first.at (s.first ∷ s.rest) (refl, dropped_was fileset tag old new stood s))
      (λ q inside. inside)

  make_on : Makes fileset version tag old new → IsOn new c
  make_on s = by_other s.creates.first.at (Some (s.creates.first ∷ [])) s.files (λ same. none_not on.chain (sym (no_file fileset version tag old new stood s) ∙ ap old.domain.files (sym same) ∙ on.is))

  call_on : Call fileset version tag old new → IsOn new c
  call_on (refused s) = stayed (ap (λ (f : Files). f c.file) s.files)
  call_on (given s) = put_on s.home s.chain s.puts
  call_on (moved s) = put_on s.home s.chain s.puts
  call_on (described value s) = set_on _ s
  call_on (put_in parent s) = set_on _ s
  call_on (indexed index s) = set_on _ s
  call_on (cut size lowered s) = set_on _ s
  call_on (dropped s) = drop_on s
  call_on (made s) = make_on s

-- ---- any number

record IsOnStill (fileset : ℕ) (now : FilesetNow) (c : Cursor) : Type 0 where
  stood : StandsWell fileset now
  on : IsOn now c

is_on : (fileset : ℕ) (version : Version) (tag : Tag) (first last : FilesetNow) → Calls fileset version tag first last → StandsWell fileset first → (c : Cursor) → IsOn first c → IsOnStill fileset last c
is_on fileset version tag first last calls stood c on =
    elim calls as (λ last calls. IsOnStill fileset last c) [
      | no_call ↦ record { stood = stood; on = on }
      | one_more between last (calls → was) call ↦ record {
        stood = stands_call fileset version tag between last was.stood call;
        on = call_on fileset version tag between last was.stood c was.on call;
      }
    ]

-- by the domain's files
on_file : (now : FilesetNow) (c : Cursor) (o : Option (List PlacedCell)) → now.domain.files c.file ≡ o → IsSome o → IsAhead now.domain.pages (Some c) → IsOn now c
on_file now c None is there ahead = absurd (true≢false (sym there))
on_file now c (Some chain) is there ahead = record { chain = chain; is = is; inside = λ file. ahead chain file }

by_cells : (fileset : ℕ) (now : FilesetNow) (c : Cursor) → IsOnStill fileset now c → GoesOnIn now.domain (Some c)
by_cells fileset now c still = (
  (λ chain file.
      let has = by_file now.domain.pages c.file still.on.chain chain (stands_now fileset now still.stood c.file still.on.chain still.on.is) file in
      subst (λ (cs : List PlacedCell). Contains (places cs) c.at) (one_file now.domain.pages c.file still.on.chain chain has file) (still.on.inside has)),
  ap is_some still.on.is,
)

pub goes_on_in : (fileset : ℕ) (version : Version) (tag : Tag) (first last : FilesetNow) → Calls fileset version tag first last → StandsWell fileset first → (cursor : Option Cursor) → GoesOnIn first.domain cursor → GoesOnIn last.domain cursor
goes_on_in fileset version tag first last calls stood None on = (tt, tt)
goes_on_in fileset version tag first last calls stood (Some c) on =
    by_cells fileset last c (is_on fileset version tag first last calls stood c (on_file first c (first.domain.files c.file) refl on.1 on.0))
