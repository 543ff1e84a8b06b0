-- What stands around a fileset stands on, whichever end a call has.
use Rattle.std.proofs.Common.{◌≡◌, ◌⊎◌, ◌+◌, ◌<◌, ℕ, Option, Some, None, List, [], ◌∷◌, inl, inr, Result, Ok, Err, IfOk, IfErr, OnOk, OnErr, IsSomeAnd, refl, sym, subst}
use Rattle.std.specs.Option.{option_and_then}
use Rattle.domain_memory.specs.domain_base.Limits.{file_pages}
use Rattle.domain_memory.specs.domain_base.declared.place.CellAt.{CellAt}
use Rattle.domain_memory.specs.domain_base.declared.place.Home.{Home}
use Rattle.domain_memory.specs.domain_base.declared.place.Kind.{Kind}
use Rattle.domain_memory.specs.domain_base.declared.place.Tag.{Tag}
use Rattle.domain_memory.specs.domain_base.declared.version.Version.{Version}
use Rattle.domain_memory.specs.page_store.Bitfiles.{Bitfiles as SetOf, IsDirectory, count_pages}
use Rattle.domain_memory.specs.page_store.Pages.{Pages}
use Rattle.domain_memory.specs.page_store.declared.fault.StoreFault.{StoreFault}
use Rattle.domain_memory.specs.page_store.declared.fault.StoreFault.TheVariants.{NoPage, OutOfMemory}
use Rattle.domain_memory.specs.tag_dirs.declared.dir.TagPlace.{TagPlace}
use Rattle.domain_memory.specs.free_cells.Cells.{Cells}
use Rattle.domain_memory.specs.free_space.Spaces.{Spaces, missed}
use Rattle.domain_memory.specs.file_chains.FileChanges.{LeavesOtherCells}
use Rattle.domain_memory.specs.fileset_files.Changes.{ChangesFirst, KeepsSequences, Removes, says_parent, with_chain, with_first}
use Rattle.domain_memory.specs.fileset_files.Creation.{Creates, CreatesNone, LeavesBeside, TakesForFile, TakesNext, new_file}
use Rattle.domain_memory.specs.fileset_files.Files.{AreFiles, Chains}
use Rattle.domain_memory.specs.fileset_files.Pages.{GetsNone}
use Rattle.domain_memory.specs.fileset_files.Shown.{index_of}
use Rattle.domain_memory.specs.fileset_files.Together.{AreTogether}
use Rattle.domain_memory.specs.metadata_cells.Chain.{PlacedCell}
use Rattle.domain_memory.specs.index_pages.Changes.{FindsNoPage}
use Rattle.domain_memory.specs.index_pages.Homes.{AreIndexHomes}
use Rattle.domain_memory.specs.stored_set.Sets.{AddsIndexPage, AddsNone, AddsPage, GivesIndexBack, StandsAsSet, attributes_at, with_length, without_index}
use Rattle.domain_memory.specs.fileset_files.declared.attributes.Attributes.{Attributes}
use Rattle.domain_memory.specs.fileset_files.declared.bitfiles.Bitfiles.{Bitfiles as FilesOf}
use Rattle.set_standing.specs.Parts.{KeepsAround, Parts}
use Rattle.set_standing.proofs.PartsGone.{gone_kept}
use Rattle.set_standing.proofs.PartsCalls.{added_kept, inserted_kept, made_kept, put_in_kept, refused_kept}

-- at most a miss was counted
abbrev pub AtMostMissed : Spaces → Spaces → Type 0
AtMostMissed space space_now = (space_now ≡ space) ⊎ (space_now ≡ missed space)

pub none_made : (places : List TagPlace) (space space_now : Spaces) (cells : Cells) (old : Pages) (fault : StoreFault) → CreatesNone places space space_now cells old fault → AtMostMissed space space_now
none_made places space space_now cells old NoPage none = inr none.1
none_made places space space_now cells old OutOfMemory none = inl none

pub none_found : (space space_now : Spaces) (fault : StoreFault) → FindsNoPage space space_now fault → AtMostMissed space space_now
none_found space space_now NoPage none = inr none.1
none_found space space_now OutOfMemory none = inl none

none_got : (page : ℕ) (chain : List PlacedCell) (space space_now : Spaces) (cells : Cells) (fault : StoreFault) → GetsNone page chain space space_now cells fault → AtMostMissed space space_now
none_got page chain space space_now cells NoPage none = inr none.1
none_got page chain space space_now cells OutOfMemory none = inl none

pub none_added : (tag : Tag) (page : ℕ) (chains : Chains) (space space_now : Spaces) (cells : Cells) (fault : StoreFault) → AddsNone tag page chains space space_now cells fault → AtMostMissed space space_now
none_added tag page chains space space_now cells fault none = by_attributes (attributes_at chains tag) none
  where
    by_chain : (o : Option (List PlacedCell)) → IsSomeAnd o (λ chain. GetsNone page chain space space_now cells fault) → AtMostMissed space space_now
    by_chain None none = absurd none
    by_chain (Some chain) none = none_got page chain space space_now cells fault none

    by_attributes : (o : Option Attributes) → IsSomeAnd o (λ was. IsSomeAnd (with_length (page + 1) was tag chains tag) (λ chain. GetsNone page chain space space_now cells fault)) → AtMostMissed space space_now
    by_attributes None none = absurd none
    by_attributes (Some was) none = by_chain (with_length (page + 1) was tag chains tag) none

module _ (number : ℕ) (version : Version) (born : ℕ) (p q : Parts) where
  pub make_around : (kind : Kind) (uid gid prefer : ℕ) (r : Result Tag StoreFault)
      → ((chains : Chains) → AreTogether number p.tags p.space p.cells p.pages chains → IfOk r (λ tag. Creates number q.tags tag version (new_file kind uid gid born) chains q.space p.cells q.cells p.pages q.pages))
      → OnOk r (TakesForFile prefer p.tags q.tags p.space q.space p.cells q.cells p.pages) → LeavesOtherCells p.cells [] p.pages q.pages → LeavesBeside q.cells q.tags p.pages q.pages → IfOk r (λ tag. TakesNext tag p.tags q.tags p.pages q.pages)
      → IfErr r (CreatesNone p.tags p.space q.space p.cells p.pages) → OnErr r (q.tags ≡ p.tags) → OnErr r (q.cells ≡ p.cells) → OnErr r (q.pages ≡ p.pages) → KeepsAround None number version born [] p q
  make_around kind uid gid prefer (Ok tag) creates takes others elsewhere next none same cells pages = made_kept number version born p q tag (new_file kind uid gid born) prefer refl creates takes others elsewhere next
  make_around kind uid gid prefer (Err fault) creates takes others elsewhere next none same cells pages = refused_kept number version born p q same cells pages (none_made p.tags p.space q.space p.cells p.pages fault none)

  pub add_around : {X : Type 0} (tag : Tag) (page : ℕ) (bytes : List ℕ) (prefer : ℕ) (set : SetOf) (stood : StandsAsSet number p.tags p.space p.cells p.pages set) → IsDirectory set tag → page ≡ count_pages set tag → page < file_pages → (r : Result X StoreFault) → q.tags ≡ p.tags
      → ((chains : Chains) → AreTogether number p.tags p.space p.cells p.pages chains → OnOk r (IsSomeAnd (attributes_at chains tag) (AddsPage number p.tags tag page bytes prefer version chains p.space q.space p.cells q.cells p.pages q.pages)))
      → ((chains : Chains) → AreTogether number p.tags p.space p.cells p.pages chains → IfErr r (AddsNone tag page chains p.space q.space p.cells)) → OnErr r (q.cells ≡ p.cells) → OnErr r (q.pages ≡ p.pages) → KeepsAround None number version born [] p q
  add_around tag page bytes prefer set stood directory last small (Ok x) same adds none cells pages = added_kept number version born p q tag page bytes prefer set stood directory last small same adds
  add_around tag page bytes prefer set stood directory last small (Err fault) same adds none cells pages =
      refused_kept number version born p q same cells pages (none_added tag page stood.chains p.space q.space p.cells fault (none stood.chains stood.stands.together))

module _ (number : ℕ) (version : Version) (born : ℕ) (p : Parts) (pages : Pages) where
  -- nothing has changed
  pub still_around : pages ≡ p.pages → KeepsAround None number version born [] p (record p { pages = pages })
  still_around same = refused_kept number version born p (record p { pages = pages }) refl refl same (inl refl)

  pub parent_around : {X E : Type 0} (tag parent : Tag) (set : SetOf) → StandsAsSet number p.tags p.space p.cells p.pages set → IsDirectory set tag → (r : Result X E) → ((chains : Chains) → AreFiles number p.tags p.pages chains → ChangesFirst (chains tag) p.pages pages)
      → ((chains : Chains) → AreTogether number p.tags p.space p.cells p.pages chains → OnOk r (AreTogether number p.tags p.space p.cells pages (with_chain tag (with_first (says_parent parent)) chains))) → OnOk r (KeepsAround (Some (tag, parent)) number version born [] p (record p { pages = pages }))
  parent_around tag parent set stood directory (Ok x) changes says = put_in_kept number version born p pages tag parent set stood directory changes says
  parent_around tag parent set stood directory (Err e) changes says = tt

  pub insert_around : {X : Type 0} (space : Spaces) (tag : Tag) (place prefer : ℕ) (bytes : List ℕ) (set : SetOf) → StandsAsSet number p.tags p.space p.cells p.pages set → IsDirectory set tag → (r : Result X StoreFault)
      → ((chains : Chains) (homes : List Home) → AreTogether number p.tags p.space p.cells p.pages chains → AreIndexHomes p.pages (option_and_then index_of (chains tag)) homes
      → OnOk r (AddsIndexPage number p.tags p.cells tag place bytes prefer chains homes p.space space p.pages pages)) → IfErr r (FindsNoPage p.space space) → OnErr r (pages ≡ p.pages) → KeepsAround None number version born [] p (record p { pages = pages; space = space })
  insert_around space tag place prefer bytes set stood directory (Ok x) adds none same = inserted_kept number version born p pages space tag place prefer bytes set stood directory adds
  insert_around space tag place prefer bytes set stood directory (Err fault) adds none same =
      refused_kept number version born p (record p { pages = pages; space = space }) refl refl same (none_found p.space space fault none)

-- a file was taken away
module _ (number : ℕ) (version : Version) (born : ℕ) (p : Parts) (pages : Pages) (space : Spaces) (files files_now : FilesOf) (its_number : files.fileset ≡ number) (its_tags : files.tags ≡ p.tags) (same : files_now ≡ files) (tag : Tag) (at : CellAt) (group : ℕ) (set : SetOf)
    (stood : StandsAsSet files_now.fileset files_now.tags space p.cells pages set) where
  files_are : StandsAsSet number p.tags space p.cells pages set
  files_are = subst (λ (n : ℕ). StandsAsSet n p.tags space p.cells pages set) its_number
      (subst (λ (ts : List TagPlace). StandsAsSet files.fileset ts space p.cells pages set) its_tags (subst (λ (f : FilesOf). StandsAsSet f.fileset f.tags space p.cells pages set) same stood))

  pub gone_around : ((chains : Chains) → AreFiles number p.tags p.pages chains → Removes number p.tags tag at (without_index tag chains) pages)
      → ((chains : Chains) (homes : List Home) → AreFiles number p.tags p.pages chains → AreIndexHomes p.pages (option_and_then index_of (chains tag)) homes → GivesIndexBack group p.tags (chains tag) homes p.space space p.pages pages) → KeepsSequences p.tags p.pages pages
      → KeepsAround None number version born (at ∷ []) p (record { tags = files_now.tags; pages = pages; space = space; cells = p.cells })
  gone_around removes gives sequences =
      subst (λ (f : FilesOf). KeepsAround None number version born (at ∷ []) p (record { tags = f.tags; pages = pages; space = space; cells = p.cells })) (sym same)
      (subst (λ (ts : List TagPlace). KeepsAround None number version born (at ∷ []) p (record { tags = ts; pages = pages; space = space; cells = p.cells })) (sym its_tags)
      (gone_kept number version born p pages space tag at group set files_are removes gives sequences))
