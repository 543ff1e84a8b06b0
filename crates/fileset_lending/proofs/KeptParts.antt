-- What is kept of free space and of free cells is what it was, whichever end a call has.
use Rattle.std.proofs.Common.{◌≡◌, ◌∙◌, ◌+◌, ℕ, List, [], ◌∷◌, Option, Some, None, Result, Ok, Err, IfErr, OnOk, OnErr, IsSomeAnd, refl, ap, ⊎_elim}
use Rattle.domain_memory.specs.domain_base.declared.place.Home.{Home}
use Rattle.domain_memory.specs.domain_base.declared.place.Tag.{Tag}
use Rattle.domain_memory.specs.domain_base.declared.version.Version.{Version}
use Rattle.domain_memory.specs.page_store.Pages.{Pages}
use Rattle.domain_memory.specs.page_store.declared.fault.StoreFault.{StoreFault}
use Rattle.domain_memory.specs.metadata_cells.Chain.{PlacedCell}
use Rattle.domain_memory.specs.tag_dirs.declared.dir.TagPlace.{TagPlace}
use Rattle.domain_memory.specs.extent_maps.declared.run.PagePlace.{PagePlace}
use Rattle.domain_memory.specs.extent_maps.declared.run.PagePlace.TheVariants.{At}
use Rattle.domain_memory.specs.free_cells.Cells.{Cells, is_closed, kept_of}
use Rattle.domain_memory.specs.free_space.VolumeSpace.{with_page, with_waiting}
use Rattle.domain_memory.specs.free_space.Spaces.{Spaces, change_volume}
use Rattle.domain_memory.specs.free_space.declared.waiting.PageUse.TheVariants.{Metadata}
use Rattle.domain_memory.proofs.OfFreeSpace.Kept.{kept-with_page, kept-with_waiting}
use Rattle.domain_memory.specs.file_chains.MapChanges.{TakesIfFull, TakesOne}
use Rattle.domain_memory.specs.fileset_files.declared.attributes.Attributes.{Attributes}
use Rattle.domain_memory.specs.fileset_files.Creation.{CreatesNone, TakesForFile}
use Rattle.domain_memory.specs.fileset_files.Files.{Chains}
use Rattle.domain_memory.specs.fileset_files.Pages.{TakesHome}
use Rattle.domain_memory.specs.index_pages.Changes.{FindsNoPage, with_waiting_at}
use Rattle.domain_memory.specs.stored_set.Sets.{AddsIndexPage, AddsNone, AddsPage, GetsPage, GivesIndexBack, attributes_at, with_length}
use Rattle.set_standing.specs.Parts.{Parts}
use Rattle.fileset_lending.specs.Rest.{KeepsKept, kept_volumes}
use Rattle.fileset_lending.proofs.Arounds.{AtMostMissed, none_added, none_found, none_made}

pub same_kept : (p q : Parts) → q.space ≡ p.space → q.cells ≡ p.cells → KeepsKept p q
same_kept p q space cells = record { spaces = ap kept_volumes space; cells = λ vol. ap (λ (c : Cells). kept_of c vol) cells; marks = λ vol. ap (λ (c : Cells). is_closed c vol) cells }

missed_kept : (p q : Parts) → AtMostMissed p.space q.space → q.cells ≡ p.cells → KeepsKept p q
missed_kept p q space cells = record {
  spaces = ⊎_elim (λ same. ap kept_volumes same) (λ miss. ap kept_volumes miss) space;
  cells = λ vol. ap (λ (c : Cells). kept_of c vol) cells;
  marks = λ vol. ap (λ (c : Cells). is_closed c vol) cells;
}

-- ---- what is taken

record KeptOver (space space_now : Spaces) (cells cells_now : Cells) : Type 0 where
  volumes : kept_volumes space_now ≡ kept_volumes space
  tables : (vol : ℕ) → kept_of cells_now vol ≡ kept_of cells vol
  marks : (vol : ℕ) → is_closed cells_now vol ≡ is_closed cells vol

one_kept : (prefer : ℕ) (space space_now : Spaces) (cells cells_now : Cells) (old : Pages) → TakesOne prefer space space_now cells cells_now old → KeptOver space space_now cells cells_now
one_kept prefer space space_now cells cells_now old t = ⊎_elim
    (λ had. record {
      volumes = ap kept_volumes had.same_space;
      tables = λ vol. t.takes.taken.keeps vol ∙ ap (λ (c : Cells). kept_of c vol) had.same_cells;
      marks = λ vol. t.takes.taken.marks vol ∙ ap (λ (c : Cells). is_closed c vol) had.same_cells;
    })
    (λ none. record {
      volumes = ap kept_volumes none.adds.used ∙ ap (λ (s : Spaces). s.volumes) (kept-with_page none.home.page space none.home.vol);
      tables = λ vol. t.takes.taken.keeps vol ∙ none.adds.joins.keeps vol;
      marks = λ vol. t.takes.taken.marks vol ∙ none.adds.joins.marks vol;
    })
    t.takes.before

full_kept : (page : ℕ) (place : PagePlace) (chain : List PlacedCell) (prefer : ℕ) (space space_now : Spaces) (cells cells_now : Cells) (old : Pages) → TakesIfFull page place chain prefer space space_now cells cells_now old → KeptOver space space_now cells cells_now
full_kept page place chain prefer space space_now cells cells_now old takes = ⊎_elim
    (λ same. record { volumes = ap kept_volumes same.0; tables = λ vol. ap (λ (c : Cells). kept_of c vol) same.1; marks = λ vol. ap (λ (c : Cells). is_closed c vol) same.1 })
    (λ t. one_kept prefer space space_now cells cells_now old t.1)
    takes

with_one : (home : Home) (space space_now : Spaces) (cells cells_now : Cells) → KeptOver (change_volume (with_page home.page) space home.vol) space_now cells cells_now → KeptOver space space_now cells cells_now
with_one home space space_now cells cells_now k = record { volumes = k.volumes ∙ ap (λ (s : Spaces). s.volumes) (kept-with_page home.page space home.vol); tables = k.tables; marks = k.marks }

home_kept : (prefer page : ℕ) (home : Home) (chain : List PlacedCell) (space space_now : Spaces) (cells cells_now : Cells) (old : Pages) → TakesHome prefer page home chain space space_now cells cells_now old → KeptOver space space_now cells cells_now
home_kept prefer page home chain space space_now cells cells_now old t =
    with_one home space space_now cells cells_now (full_kept page (At home) chain prefer (change_volume (with_page home.page) space home.vol) space_now cells cells_now old t.taken)

file_kept : (prefer : ℕ) (places places_now : List TagPlace) (space space_now : Spaces) (cells cells_now : Cells) (old : Pages) → TakesForFile prefer places places_now space space_now cells cells_now old → KeptOver space space_now cells cells_now
file_kept prefer places places_now space space_now cells cells_now old takes = ⊎_elim
    (λ only. one_kept prefer space space_now cells cells_now old only.cell)
    (λ more. with_one more.home space space_now cells cells_now (one_kept prefer (change_volume (with_page more.home.page) space more.home.vol) space_now cells cells_now old more.cell))
    takes

module _ (number : ℕ) (places : List TagPlace) (tag : Tag) (page : ℕ) (bytes : List ℕ) (prefer : ℕ) (version : Version) (chains : Chains) (space space_now : Spaces) (cells cells_now : Cells) (old new : Pages) where
  by_chain : (with_more : Chains) (said : Pages) (o : Option (List PlacedCell)) → IsSomeAnd o (GetsPage number places tag page bytes prefer version with_more space space_now cells cells_now said new) → KeptOver space space_now cells cells_now
  by_chain with_more said None gets = absurd gets
  by_chain with_more said (Some chain) gets = home_kept prefer page gets.home chain space space_now cells cells_now said gets.taken

  by_attributes : (o : Option Attributes) → IsSomeAnd o (AddsPage number places tag page bytes prefer version chains space space_now cells cells_now old new) → KeptOver space space_now cells cells_now
  by_attributes None adds = absurd adds
  by_attributes (Some was) adds = by_chain (with_length (page + 1) was tag chains) adds.said (with_length (page + 1) was tag chains tag) adds.gets

-- ---- what is given back

waiting_kept : (homes : List Home) (group : ℕ) (space : Spaces) → kept_volumes (with_waiting_at homes group space) ≡ kept_volumes space
waiting_kept [] group space = refl
waiting_kept (home ∷ more) group space =
    waiting_kept more group (change_volume (with_waiting (record { page = home.page; kind = Metadata; group = group })) space home.vol)
    ∙ ap (λ (s : Spaces). s.volumes) (kept-with_waiting (record { page = home.page; kind = Metadata; group = group }) space home.vol)

-- ---- the calls

module _ (p q : Parts) where
  kept_over : KeptOver p.space q.space p.cells q.cells → KeepsKept p q
  kept_over k = record { spaces = k.volumes; cells = k.tables; marks = k.marks }

  pub make_keeps : (prefer : ℕ) (r : Result Tag StoreFault) → OnOk r (TakesForFile prefer p.tags q.tags p.space q.space p.cells q.cells p.pages) → IfErr r (CreatesNone p.tags p.space q.space p.cells p.pages) → OnErr r (q.cells ≡ p.cells) → KeepsKept p q
  make_keeps prefer (Ok tag) takes none cells = kept_over (file_kept prefer p.tags q.tags p.space q.space p.cells q.cells p.pages takes)
  make_keeps prefer (Err fault) takes none cells = missed_kept p q (none_made p.tags p.space q.space p.cells p.pages fault none) cells

  pub add_keeps : {X : Type 0} (number : ℕ) (tag : Tag) (page : ℕ) (bytes : List ℕ) (prefer : ℕ) (version : Version) (chains : Chains) (r : Result X StoreFault)
      → OnOk r (IsSomeAnd (attributes_at chains tag) (AddsPage number p.tags tag page bytes prefer version chains p.space q.space p.cells q.cells p.pages q.pages)) → IfErr r (AddsNone tag page chains p.space q.space p.cells) → OnErr r (q.cells ≡ p.cells) → KeepsKept p q
  add_keeps number tag page bytes prefer version chains (Ok x) adds none cells =
      kept_over (by_attributes number p.tags tag page bytes prefer version chains p.space q.space p.cells q.cells p.pages q.pages (attributes_at chains tag) adds)
  add_keeps number tag page bytes prefer version chains (Err fault) adds none cells = missed_kept p q (none_added tag page chains p.space q.space p.cells fault none) cells

  pub insert_keeps : {X : Type 0} (number : ℕ) (tag : Tag) (place : ℕ) (bytes : List ℕ) (prefer : ℕ) (chains : Chains) (homes : List Home) (r : Result X StoreFault)
      → OnOk r (AddsIndexPage number p.tags p.cells tag place bytes prefer chains homes p.space q.space p.pages q.pages) → IfErr r (FindsNoPage p.space q.space) → q.cells ≡ p.cells → KeepsKept p q
  insert_keeps number tag place bytes prefer chains homes (Ok x) adds none cells =
      record { spaces = ap kept_volumes adds.taken ∙ ap (λ (s : Spaces). s.volumes) (kept-with_page adds.home.page p.space adds.home.vol); cells = λ vol. ap (λ (c : Cells). kept_of c vol) cells; marks = λ vol. ap (λ (c : Cells). is_closed c vol) cells }
  insert_keeps number tag place bytes prefer chains homes (Err fault) adds none cells = missed_kept p q (none_found p.space q.space fault none) cells

  pub gone_keeps : (group : ℕ) (chain : Option (List PlacedCell)) (homes : List Home) → GivesIndexBack group p.tags chain homes p.space q.space p.pages q.pages → q.cells ≡ p.cells → KeepsKept p q
  gone_keeps group chain homes gives cells = record { spaces = ap kept_volumes gives.drops.waits ∙ waiting_kept homes group p.space; cells = λ vol. ap (λ (c : Cells). kept_of c vol) cells; marks = λ vol. ap (λ (c : Cells). is_closed c vol) cells }
