-- Where a page is read, by what of its file and of its source is the same.
use Rattle.std.proofs.Common.{◌≡◌, ◌∙◌, ℕ, Bool, true, false, cond, nat_lt, List, Option, Some, None, IsSomeAnd, unwrap_or, refl, sym, ap, subst}
use Rattle.std.specs.Option.{option_and_then}
use Rattle.release_list.specs.domain_base.declared.place.CellAt.{CellAt}
use Rattle.release_list.specs.domain_base.declared.place.Home.{Home}
use Rattle.release_list.specs.cell_records.declared.record.Leftover.{Leftover}
use Rattle.release_list.specs.cell_records.declared.record.Leftover.TheVariants.{Remove, Trim}
use Rattle.release_list.specs.metadata_cells.Chain.{PlacedCell}
use Rattle.release_list.specs.extent_maps.declared.run.PagePlace.TheVariants.{Absent}
use Rattle.release_list.specs.extent_maps.Runs.{home_at}
use Rattle.release_list.specs.file_chains.Files.{places_of}
use Rattle.release_list.specs.fileset_files.Files.{first_record, keep_in}
use Rattle.release_list.specs.file_release.Reading.{own_or}
use Rattle.release_list.specs.Listed.{from_by, left_of, leftover_in, stale_from}
use Rattle.release_list.specs.Standing.{Files, ReadsThrough, Source, place_in, read_at, read_of, source_at, source_of}
use Rattle.release_list.proofs.Standings.{source_by}

pub none_either : (b : Bool) (other : Option Home) → cond b other other ≡ other
none_either true other = refl
none_either false other = refl

by_source : (files now : Files) (p : ℕ) (cs ds : List PlacedCell) (o : Option Source) → places_of ds p ≡ places_of cs p → ((s : Source) → o ≡ Some s → place_in now s.at p ≡ place_in files s.at p)
    → read_of now o ds p ≡ read_of files o cs p
by_source files now p cs ds None place source = ap (λ q. own_or q (cond (nat_lt p 0) (home_at Absent) None)) place
by_source files now p cs ds (Some s) place source = (λ i. own_or (place i) (cond (nat_lt p s.frozen) (home_at (source s refl i)) None))

pub read_there : (files : Files) (a : CellAt) (p : ℕ) (cs : List PlacedCell) → files a ≡ Some cs → read_at files a p ≡ read_of files (source_of cs) cs p
read_there files a p cs is = ap (λ o. option_and_then (λ cells. read_of files (source_of cells) cells p) o) is

pub read_same : (files now : Files) (a : CellAt) (p : ℕ) (cs ds : List PlacedCell) → files a ≡ Some cs → now a ≡ Some ds → source_of ds ≡ source_of cs → places_of ds p ≡ places_of cs p
    → ((s : Source) → source_of cs ≡ Some s → place_in now s.at p ≡ place_in files s.at p) → read_at now a p ≡ read_at files a p
read_same files now a p cs ds was is same place source =
    read_there now a p ds is ∙ ap (λ o. read_of now o ds p) same
    ∙ by_source files now p cs ds (source_of cs) place source ∙ sym (read_there files a p cs was)

pub read_beside : (files now : Files) (a : CellAt) (p : ℕ) → now a ≡ files a → ((s : Source) → source_at files a ≡ Some s → place_in now s.at p ≡ place_in files s.at p) → read_at now a p ≡ read_at files a p
read_beside files now a p same source = by_file (files a) refl
  where
    by_file : (o : Option (List PlacedCell)) → files a ≡ o → read_at now a p ≡ read_at files a p
    by_file None is =
        ap (λ o. option_and_then (λ cells. read_of now (source_of cells) cells p) o) (same ∙ is)
        ∙ sym (ap (λ o. option_and_then (λ cells. read_of files (source_of cells) cells p) o) is)
    by_file (Some cs) is = read_same files now a p cs cs is (same ∙ is) refl refl (λ s is_s. source s (source_by files a cs is ∙ is_s))

pub through : (files : Files) (a : CellAt) (s : Source) → source_at files a ≡ Some s → ReadsThrough files a s.at
through files a s is = subst (λ o. IsSomeAnd o (λ (source : Source). source.at ≡ s.at)) (sym is) refl

-- ---- from which page on pages go

from_same : (o : Option Leftover) (cs ds : List PlacedCell) → first_record 1 ds ≡ first_record 1 cs → from_by o ds ≡ from_by o cs
from_same (Some Trim) cs ds one = ap (λ r. unwrap_or (option_and_then keep_in r) 65536) one
from_same (Some Remove) cs ds one = refl
from_same None cs ds one = refl

pub left_same : (cs ds : List PlacedCell) → first_record 6 ds ≡ first_record 6 cs → left_of ds ≡ left_of cs
left_same cs ds six = ap (option_and_then leftover_in) six

pub stale_same : (cs ds : List PlacedCell) → first_record 6 ds ≡ first_record 6 cs → first_record 1 ds ≡ first_record 1 cs → stale_from ds ≡ stale_from cs
stale_same cs ds six one = ap (λ o. from_by o ds) (left_same cs ds six) ∙ from_same (left_of cs) cs ds one
