-- What a root's making says of a domain's memory.
use Rattle.std.proofs.Common.{◌≡◌, ℕ, List, [], Result, Ok, Err, OnOk, subst}
use Rattle.domain_memory.specs.domain_base.declared.place.Kind.TheVariants.{Directory}
use Rattle.domain_memory.specs.page_store.declared.fault.StoreFault.{StoreFault}
use Rattle.domain_memory.specs.tag_dirs.declared.dir.TagPlace.{TagPlace}
use Rattle.domain_memory.specs.file_chains.FileChanges.{LeavesOtherCells}
use Rattle.domain_memory.specs.file_chains.MapChanges.{TakesOne}
use Rattle.domain_memory.specs.fileset_files.Creation.{Creates, LeavesBeside, new_file, root_tag}
use Rattle.domain_memory.specs.fileset_files.Files.{Chains}
use Rattle.domain_memory.specs.fileset_files.Together.{AreTogether}
use Rattle.domain_memory.specs.staged_pages.Store.{pages_of}
use Rattle.domain_memory.specs.standing_laws.NewFileset.{no_chains}
use Rattle.domain_memory.specs.declared.memory.DomainMemory.{DomainMemory}
use Rattle.domain_changes.specs.Beginning.{MakesRoot}

module _ (number prefer born : ℕ) (places places_now : List TagPlace) (old new : DomainMemory) (is_born : born ≡ old.table.made) (same : places_now ≡ places) where
  abbrev CreatesAs : ℕ → List TagPlace → Chains → Type 0
  CreatesAs n ps chains = Creates number ps root_tag old.frame.version (new_file Directory 0 0 n) chains new.space old.cells new.cells (pages_of old.pages) (pages_of new.pages)

  pub makes_root : {X : Type 0} (r : Result X StoreFault) → ((chains : Chains) → AreTogether number places old.space old.cells (pages_of old.pages) chains → OnOk r (CreatesAs born places_now chains))
      → OnOk r (TakesOne prefer old.space new.space old.cells new.cells (pages_of old.pages)) → LeavesOtherCells old.cells [] (pages_of old.pages) (pages_of new.pages) → LeavesBeside new.cells places_now (pages_of old.pages) (pages_of new.pages)
      → OnOk r (MakesRoot number places prefer old new)
  makes_root (Ok x) creates taken others elsewhere = record {
    creates = λ together. subst (λ (n : ℕ). CreatesAs n places no_chains) is_born (subst (λ (ps : List TagPlace). CreatesAs born ps no_chains) same (creates no_chains together));
    taken = taken;
    others = others;
    elsewhere = subst (λ (ps : List TagPlace). LeavesBeside new.cells ps (pages_of old.pages) (pages_of new.pages)) same elsewhere;
  }
  makes_root (Err fault) creates taken others elsewhere = tt
