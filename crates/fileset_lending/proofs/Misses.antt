-- How calls count their misses.
use Rattle.std.proofs.Common.{◌≡◌, ◌∙◌, ◌+◌, ◌-◌, ◌^◌, ◌<◌, ◌≤◌, ℕ, min, Option, Some, None, IsSomeAnd, List, [], ◌∷◌, inl, inr, refl, sym, ap, subst, arith, ⊎_elim}
use Rattle.std.proofs.Math.Nat.{le-min, max-le}
use Rattle.domain_memory.specs.domain_base.Counts.{HasRisen}
use Rattle.domain_memory.specs.domain_base.declared.place.Home.{Home}
use Rattle.domain_memory.specs.domain_base.declared.place.Tag.{Tag}
use Rattle.domain_memory.specs.domain_base.declared.version.Version.{Version}
use Rattle.domain_memory.specs.page_store.Bitfiles.{IsCounted}
use Rattle.domain_memory.specs.page_store.Pages.{Pages}
use Rattle.domain_memory.specs.page_store.declared.fault.StoreFault.{StoreFault}
use Rattle.domain_memory.specs.page_store.declared.fault.StoreFault.TheVariants.{NoPage, OutOfMemory}
use Rattle.domain_memory.specs.metadata_cells.Chain.{PlacedCell}
use Rattle.domain_memory.specs.tag_dirs.declared.dir.TagPlace.{TagPlace}
use Rattle.domain_memory.specs.free_cells.Cells.{Cells}
use Rattle.domain_memory.specs.free_space.Spaces.{Spaces, missed}
use Rattle.domain_memory.specs.extent_maps.declared.run.PagePlace.{PagePlace}
use Rattle.domain_memory.specs.extent_maps.declared.run.PagePlace.TheVariants.{At}
use Rattle.domain_memory.specs.file_chains.MapChanges.{TakesIfFull, TakesOne}
use Rattle.domain_memory.specs.fileset_files.declared.attributes.Attributes.{Attributes}
use Rattle.domain_memory.specs.fileset_files.Creation.{CreatesNone, TakesForFile}
use Rattle.domain_memory.specs.fileset_files.Files.{Chains}
use Rattle.domain_memory.specs.fileset_files.Pages.{GetsNone}
use Rattle.domain_memory.specs.index_pages.Changes.{FindsNoPage, with_waiting_at}
use Rattle.domain_memory.specs.stored_set.Sets.{AddsIndexPage, AddsNone, AddsPage, GetsPage, attributes_at}

same_count : (m n : ℕ) → n ≡ m → m ≤ n
same_count m n e = omega (arith, e)

not_less : (m : ℕ) → m < 2 ^ 64 → m ≤ min (m + 1) (2 ^ 64 - 1)
not_less m low = le-min (omega arith) (omega (arith, low))

risen : (m : ℕ) → m < 2 ^ 64 → HasRisen m (min (m + 1) (2 ^ 64 - 1))
risen m low = max-le (not_less m low) (omega arith)

pub kept_space : (space space_now : Spaces) → space_now ≡ space → space.misses ≤ space_now.misses
kept_space space space_now is = same_count space.misses space_now.misses (ap (λ (s : Spaces). s.misses) is)

-- a miss was counted, or nothing
module _ (space space_now : Spaces) (low : space.misses < 2 ^ 64) where
  counts_miss : space_now ≡ missed space → HasRisen space.misses space_now.misses
  counts_miss is = subst (λ (s : Spaces). HasRisen space.misses s.misses) (sym is) (risen space.misses low)

  keeps_count : space_now ≡ missed space → space.misses ≤ space_now.misses
  keeps_count is = subst (λ (s : Spaces). space.misses ≤ s.misses) (sym is) (not_less space.misses low)

  pub same_space : space_now ≡ space → space.misses ≤ space_now.misses
  same_space is = same_count space.misses space_now.misses (ap (λ (s : Spaces). s.misses) is)

  pub none_made : (places : List TagPlace) (cells : Cells) (old : Pages) (fault : StoreFault) → CreatesNone places space space_now cells old fault → IsCounted space.misses space_now.misses fault
  none_made places cells old NoPage none = counts_miss none.1
  none_made places cells old OutOfMemory none = tt

  pub none_made_less : (places : List TagPlace) (cells : Cells) (old : Pages) (fault : StoreFault) → CreatesNone places space space_now cells old fault → space.misses ≤ space_now.misses
  none_made_less places cells old NoPage none = keeps_count none.1
  none_made_less places cells old OutOfMemory none = same_space none

  pub none_found : (fault : StoreFault) → FindsNoPage space space_now fault → IsCounted space.misses space_now.misses fault
  none_found NoPage none = counts_miss none.1
  none_found OutOfMemory none = tt

  pub none_found_less : (fault : StoreFault) → FindsNoPage space space_now fault → space.misses ≤ space_now.misses
  none_found_less NoPage none = keeps_count none.1
  none_found_less OutOfMemory none = same_space none

  gets_none : (page : ℕ) (chain : List PlacedCell) (cells : Cells) (fault : StoreFault) → GetsNone page chain space space_now cells fault → IsCounted space.misses space_now.misses fault
  gets_none page chain cells NoPage none = counts_miss none.1
  gets_none page chain cells OutOfMemory none = tt

  gets_none_less : (page : ℕ) (chain : List PlacedCell) (cells : Cells) (fault : StoreFault) → GetsNone page chain space space_now cells fault → space.misses ≤ space_now.misses
  gets_none_less page chain cells NoPage none = keeps_count none.1
  gets_none_less page chain cells OutOfMemory none = same_space none

-- what is known of what is there
of_some : {X N : Type 0} {P : X → Type 0} → ((x : X) → P x → N) → (o : Option X) → IsSomeAnd o P → N
of_some f None p = absurd p
of_some f (Some x) p = f x p

pub none_added : (space space_now : Spaces) → space.misses < 2 ^ 64 → (tag : Tag) (page : ℕ) (chains : Chains) (cells : Cells) (fault : StoreFault) → AddsNone tag page chains space space_now cells fault → IsCounted space.misses space_now.misses fault
none_added space space_now low tag page chains cells fault none =
    of_some (λ was some. of_some (λ chain gets. gets_none space space_now low page chain cells fault gets) _ some) (attributes_at chains tag) none

pub none_added_less : (space space_now : Spaces) → space.misses < 2 ^ 64 → (tag : Tag) (page : ℕ) (chains : Chains) (cells : Cells) (fault : StoreFault) → AddsNone tag page chains space space_now cells fault → space.misses ≤ space_now.misses
none_added_less space space_now low tag page chains cells fault none =
    of_some (λ was some. of_some (λ chain gets. gets_none_less space space_now low page chain cells fault gets) _ some) (attributes_at chains tag) none

takes_one : (prefer : ℕ) (space space_now : Spaces) (cells cells_now : Cells) (old : Pages) → TakesOne prefer space space_now cells cells_now old → space_now.misses ≡ space.misses
takes_one prefer space space_now cells cells_now old one =
    ⊎_elim (λ had. ap (λ (s : Spaces). s.misses) had.same_space) (λ none. ap (λ (s : Spaces). s.misses) none.adds.used) one.takes.before

taken_same : (page : ℕ) (place : PagePlace) (chain : List PlacedCell) (prefer : ℕ) (space space_now : Spaces) (cells cells_now : Cells) (old : Pages) → TakesIfFull page place chain prefer space space_now cells cells_now old → space_now.misses ≡ space.misses
taken_same page place chain prefer space space_now cells cells_now old (inl kept) = ap (λ (s : Spaces). s.misses) kept.0
taken_same page place chain prefer space space_now cells cells_now old (inr full) = takes_one prefer space space_now cells cells_now old full.1

pub made_less : (prefer : ℕ) (places places_now : List TagPlace) (space space_now : Spaces) (cells cells_now : Cells) (old : Pages) → TakesForFile prefer places places_now space space_now cells cells_now old → space.misses ≤ space_now.misses
made_less prefer places places_now space space_now cells cells_now old taken =
    same_count space.misses space_now.misses
    (⊎_elim (λ only. takes_one prefer _ space_now cells cells_now old only.cell) (λ paged. takes_one prefer _ space_now cells cells_now old paged.cell) taken)

gets_same : (fileset : ℕ) (places : List TagPlace) (tag : Tag) (page : ℕ) (bytes : List ℕ) (prefer : ℕ) (version : Version) (chains : Chains) (space space_now : Spaces) (cells cells_now : Cells) (old new : Pages) (chain : List PlacedCell)
    → GetsPage fileset places tag page bytes prefer version chains space space_now cells cells_now old new chain → space_now.misses ≡ space.misses
gets_same fileset places tag page bytes prefer version chains space space_now cells cells_now old new chain gets = taken_same page (At gets.home) chain prefer _ space_now cells cells_now old gets.taken.taken

adds_same : (fileset : ℕ) (places : List TagPlace) (tag : Tag) (page : ℕ) (bytes : List ℕ) (prefer : ℕ) (version : Version) (chains : Chains) (space space_now : Spaces) (cells cells_now : Cells) (old new : Pages) (was : Attributes)
    → AddsPage fileset places tag page bytes prefer version chains space space_now cells cells_now old new was → space_now.misses ≡ space.misses
adds_same fileset places tag page bytes prefer version chains space space_now cells cells_now old new was adds =
    of_some (λ chain gets. gets_same fileset places tag page bytes prefer version _ space space_now cells cells_now _ new chain gets) _ adds.gets

pub added_less : (fileset : ℕ) (places : List TagPlace) (tag : Tag) (page : ℕ) (bytes : List ℕ) (prefer : ℕ) (version : Version) (chains : Chains) (space space_now : Spaces) (cells cells_now : Cells) (old new : Pages)
    → IsSomeAnd (attributes_at chains tag) (AddsPage fileset places tag page bytes prefer version chains space space_now cells cells_now old new) → space.misses ≤ space_now.misses
added_less fileset places tag page bytes prefer version chains space space_now cells cells_now old new some =
    same_count space.misses space_now.misses
    (of_some (λ was adds. adds_same fileset places tag page bytes prefer version chains space space_now cells cells_now old new was adds) (attributes_at chains tag) some)

pub index_less : (fileset : ℕ) (places : List TagPlace) (cells : Cells) (tag : Tag) (number : ℕ) (bytes : List ℕ) (prefer : ℕ) (chains : Chains) (homes : List Home) (space space_now : Spaces) (old new : Pages)
    → AddsIndexPage fileset places cells tag number bytes prefer chains homes space space_now old new → space.misses ≤ space_now.misses
index_less fileset places cells tag number bytes prefer chains homes space space_now old new adds = same_count space.misses space_now.misses (ap (λ (s : Spaces). s.misses) adds.taken)

waiting_same : (homes : List Home) (group : ℕ) (space : Spaces) → (with_waiting_at homes group space).misses ≡ space.misses
waiting_same [] group space = refl
waiting_same (home ∷ more) group space = waiting_same more group _

pub given_less : (homes : List Home) (group : ℕ) (space space_now : Spaces) → space_now ≡ with_waiting_at homes group space → space.misses ≤ space_now.misses
given_less homes group space space_now is = same_count space.misses space_now.misses (ap (λ (s : Spaces). s.misses) is ∙ waiting_same homes group space)
