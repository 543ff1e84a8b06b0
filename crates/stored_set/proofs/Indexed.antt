-- Where the index of a directory that is shown begins, and how many pages it has.
use Rattle.std.proofs.Common.{◌≡◌, ◌∙◌, ◌<◌, ℕ, Bool, true, false, cond, Option, Some, None, IsSomeAnd, List, [], ◌∷◌, length, refl, sym, ap, subst, arith}
use Rattle.std.specs.Option.{option_and_then, option_map, option_map_or}
use Rattle.index_pages.specs.domain_base.declared.place.Home.{Home}
use Rattle.index_pages.specs.domain_base.declared.place.Kind.TheVariants.{Directory}
use Rattle.index_pages.specs.domain_base.declared.place.Tag.{Tag}
use Rattle.index_pages.specs.page_store.Bitfiles.{Bitfile, Bitfiles as SetOf, IsDirectory, count_index}
use Rattle.index_pages.specs.page_store.Pages.{Pages}
use Rattle.index_pages.specs.cell_records.declared.record.Record.{Record}
use Rattle.index_pages.specs.cell_records.declared.record.Record.TheVariants as written
use Rattle.index_pages.specs.metadata_cells.Chain.{PlacedCell}
use Rattle.index_pages.specs.tag_dirs.declared.dir.TagPlace.{TagPlace}
use Rattle.index_pages.specs.free_cells.Cells.{Cells}
use Rattle.index_pages.specs.free_space.Spaces.{Spaces}
use Rattle.index_pages.specs.fileset_files.declared.indexing.IndexPlace.{IndexPlace}
use Rattle.index_pages.specs.fileset_files.Files.{first_record, is_removed, of_live}
use Rattle.index_pages.specs.fileset_files.Index.{index_place_in, index_place_of}
use Rattle.index_pages.specs.fileset_files.Shown.{ShowsAt, ShowsFile, index_in, index_of}
use Rattle.index_pages.specs.Homes.{AreIndexHomes, shown_at}
use Rattle.stored_set.proofs.Told.{index_told}
use Rattle.stored_set.specs.Sets.{StandsAsSet}

-- where an index begins, by all that is told of it
abbrev pub first_of : Option IndexPlace → Option Home
first_of o = option_map (λ (index : IndexPlace). index.first) o

pub begins_so : (cells : List PlacedCell) → index_of cells ≡ first_of (index_place_of cells)
begins_so cells = by_record (first_record 9 cells)
  where
    by_record : (o : Option Record) → option_and_then index_in o ≡ first_of (option_and_then index_place_in o)
    by_record None = refl
    by_record (Some (written.DirIndex vol page entries)) = refl
    by_record (Some r) = refl

shown_length : (pages : Pages) (homes : List Home) → length (shown_at pages homes) ≡ length homes
shown_length pages [] = refl
shown_length pages (h ∷ homes) = let rest = shown_length pages homes in omega (arith, rest)

pub no_homes : (pages : Pages) (homes : List Home) → AreIndexHomes pages None homes → length homes ≡ 0
no_homes pages [] are = refl
no_homes pages (h ∷ homes) are = absurd are

module _ (fileset : ℕ) (places : List TagPlace) (space : Spaces) (cells : Cells) (pages : Pages) (set : SetOf) (was : StandsAsSet fileset places space cells pages set) (tag : Tag) (directory : IsDirectory set tag) where
  pub begins : option_and_then index_of (was.chains tag) ≡ first_of (option_and_then (of_live index_place_of) (was.chains tag))
  begins = by_file (set tag) (was.chains tag) directory (was.stands.shows tag)
    where
      by_removed : (file : Bitfile) (cs : List PlacedCell) (b : Bool) → IsSomeAnd (cond b None (Some cs)) (λ live. ShowsFile pages live file) → index_of cs ≡ first_of (cond b None (index_place_of cs))
      by_removed file cs true shows = absurd shows
      by_removed file cs false shows = begins_so cs

      by_file : (file : Option Bitfile) (chain : Option (List PlacedCell)) → IsSomeAnd file (λ file. file.kind ≡ Directory) → ShowsAt pages chain file → option_and_then index_of chain ≡ first_of (option_and_then (of_live index_place_of) chain)
      by_file None chain directory shows = absurd directory
      by_file (Some file) None directory shows = absurd shows
      by_file (Some file) (Some cs) directory shows = by_removed file cs (is_removed cs) shows

  pub counted : count_index set tag ≡ length (was.indexes tag)
  counted = by_file (set tag) directory ∙ ap (λ (xs : List (List ℕ)). length xs) (index_told fileset places space cells pages was.chains was.indexes set was.stands tag directory) ∙ shown_length pages (was.indexes tag)
    where
      by_file : (file : Option Bitfile) → IsSomeAnd file (λ file. file.kind ≡ Directory) → option_map_or (λ (file : Bitfile). length file.index) file 0 ≡ length (option_map_or (λ (file : Bitfile). file.index) file [])
      by_file None directory = absurd directory
      by_file (Some file) directory = refl

  -- the homes of an index that begins there
  pub homes_at : (told : Option IndexPlace) → told ≡ option_and_then (of_live index_place_of) (was.chains tag) → AreIndexHomes pages (first_of told) (was.indexes tag)
  homes_at told is = subst (λ o. AreIndexHomes pages o (was.indexes tag)) (begins ∙ ap first_of (sym is)) (was.stands.indexed tag)

  -- one with a page begins somewhere
  pub not_none : (number : ℕ) → number < count_index set tag → None ≡ option_and_then (of_live index_place_of) (was.chains tag) → ⊥
  not_none number within is = omega (arith, within, counted, no_homes pages (was.indexes tag) (homes_at None is))
