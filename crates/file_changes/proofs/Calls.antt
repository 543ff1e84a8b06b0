-- What a file tells that gets no page.
use Rattle.std.proofs.Common.{◌≡◌, ◌∙◌, ◌<◌, ℕ, List, Option, Some, None, IfErr, IsSomeAnd, Result, Ok, Err, inl, inr, refl, sym, subst, ⊎_elim}
use Rattle.std.specs.Option.{option_and_then}
use Rattle.std.specs.Result.{IsErrAnd}
use Rattle.domain_memory.specs.domain_base.declared.place.Tag.{Tag}
use Rattle.domain_memory.specs.page_store.declared.fault.StoreFault.{StoreFault}
use Rattle.domain_memory.specs.page_store.declared.fault.StoreFault.TheVariants.{NoPage, OutOfMemory}
use Rattle.domain_memory.specs.metadata_cells.Chain.{PlacedCell}
use Rattle.domain_memory.specs.extent_maps.declared.run.PagePlace.TheVariants.{At}
use Rattle.domain_memory.specs.free_space.Spaces.{Spaces}
use Rattle.domain_memory.specs.file_chains.MapChanges.{NoneTakes}
use Rattle.domain_memory.specs.fileset_files.Files.{Chains, keep_of, of_live}
use Rattle.domain_memory.specs.fileset_files.Pages.{GetsNone, MayGrow}
use Rattle.domain_memory.proofs.OfFilesetFiles.Created.{one_chains}
use Rattle.domain_memory.specs.staged_pages.Store.{pages_of}
use Rattle.domain_memory.specs.Slots.{places_in, slot_in}
use Rattle.domain_memory.specs.declared.memory.DomainMemory.{DomainMemory}
use Rattle.file_changes.specs.Stages.{AreFilesIn, GivesNone}

-- what was asked of free space and of free cells, and is not there: a cell is asked by each chain that the file has
none_given : (memory : DomainMemory) (number : ℕ) (tag : Tag) (page : ℕ) (chains : Chains) (are : AreFilesIn memory number chains) (chain : List PlacedCell) (its : chains tag ≡ Some chain) (space_now : Spaces) (fault : StoreFault) → GetsNone page chain memory.space space_now memory.cells fault → GivesNone memory number tag page fault
none_given memory number tag page chains are chain its space_now NoPage none = ⊎_elim
    (λ empty. inl empty)
    (λ l. inr (record {
      home = l.home;
      free = l.free;
      none_takes = λ others are_too.
          subst (λ o. IsSomeAnd o (NoneTakes page (At l.home)))
          (sym its ∙ one_chains (pages_of memory.pages) number (places_in (slot_in memory.slots.items number)) chains others are are_too tag) l.none_takes;
      no_cell = l.no_cell;
      no_other = l.no_other;
    }))
    none.0
none_given memory number tag page chains are chain its space_now OutOfMemory none = tt

pub give_none : {X : Type 0} (memory : DomainMemory) (number : ℕ) (tag : Tag) (page : ℕ) (chains : Chains) → AreFilesIn memory number chains → (space_now : Spaces) (r : Result X StoreFault) → IfErr r (λ fault. IsSomeAnd (chains tag) (λ chain. GetsNone page chain memory.space space_now memory.cells fault))
    → IfErr r (GivesNone memory number tag page)
give_none memory number tag page chains are space_now (Ok x) none = tt
give_none memory number tag page chains are space_now (Err fault) none = by_chain (chains tag) refl none
  where
    by_chain : (o : Option (List PlacedCell)) → chains tag ≡ o → IsSomeAnd o (λ chain. GetsNone page chain memory.space space_now memory.cells fault) → GivesNone memory number tag page fault
    by_chain None its none = absurd none
    by_chain (Some chain) its none = none_given memory number tag page chains are chain its space_now fault none

-- a file that may grow has a chain
pub grown : (chains : Chains) (tag : Tag) (page : ℕ) → MayGrow tag page chains → (P : List PlacedCell → Type 0) → ((chain : List PlacedCell) → P chain) → IsSomeAnd (chains tag) P
grown chains tag page grows P each = by_chain (chains tag) grows.kept
  where
    by_chain : (o : Option (List PlacedCell)) → IsSomeAnd (option_and_then (of_live keep_of) o) (λ keep. page < keep) → IsSomeAnd o P
    by_chain None kept = absurd kept
    by_chain (Some chain) kept = each chain

pub err_and : {A E : Type 0} {P Q : E → Type 0} → ((e : E) → P e → Q e) → (r : Result A E) → IsErrAnd r P → IfErr r Q
err_and f (Ok a) p = tt
err_and f (Err e) p = f e p
