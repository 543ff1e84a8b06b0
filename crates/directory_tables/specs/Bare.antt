-- Directories without indexes.
use Rattle.std.specs.Prelude.{Option, Some, None, IfSome, [], refl}
use Rattle.std.proofs.Math.Nat.{not-suc-le-zero, zero-lt-suc}
use Rattle.std.specs.Option.{option_map}
use Rattle.directory_rows.specs.page_store.Bitfiles.{AreBitfiles, Bitfile, Bitfiles, IsBitfile}

-- a file without index pages
abbrev pub bare_file : Bitfile → Bitfile
bare_file file = record file { index = [] }

-- the same files and directories, none of which has an index
abbrev pub without_indexes : Bitfiles → Bitfiles
without_indexes files tag = option_map bare_file (files tag)

-- they are within the limits too
pub bare_sound : (files : Bitfiles) → AreBitfiles files → AreBitfiles (without_indexes files)
bare_sound files sound tag = by_file (files tag) (sound tag)
  where
    by_file : (o : Option Bitfile) → IfSome o IsBitfile → IfSome (option_map bare_file o) IsBitfile
    by_file None is = tt
    by_file (Some file) is = record {
      pages = is.pages;
      index = λ k d within. absurd (not-suc-le-zero within);
      named = is.named;
      links = is.links;
      fits = is.fits;
      index_fits = zero-lt-suc 4294967295;
      no_pages = is.no_pages;
      no_index = λ kind. refl;
    }
