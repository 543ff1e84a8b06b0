-- Directories of a set, as the domain has them.
use Rattle.std.proofs.Common.{◌≡◌, ◌∙◌, ℕ, Bool, true, false, cond, List, Option, Some, None, IsSomeAnd, refl, sym, ap, subst}
use Rattle.std.specs.Option.{option_and_then, option_map}
use Rattle.standing_laws.specs.domain_base.declared.place.Kind.{Kind}
use Rattle.standing_laws.specs.domain_base.declared.place.Kind.TheVariants.{Directory}
use Rattle.standing_laws.specs.domain_base.declared.place.Tag.{Tag}
use Rattle.standing_laws.specs.page_store.Bitfiles.{Bitfile, Bitfiles as SetOf, IsDirectory}
use Rattle.standing_laws.specs.page_store.Pages.{Pages}
use Rattle.standing_laws.specs.metadata_cells.Chain.{PlacedCell}
use Rattle.standing_laws.specs.tag_dirs.declared.dir.TagPlace.{TagPlace}
use Rattle.standing_laws.specs.fileset_files.declared.attributes.Attributes.{Attributes}
use Rattle.standing_laws.specs.fileset_files.Files.{AreFiles, Chains, attributes_of, of_live}
use Rattle.standing_laws.specs.fileset_files.Shown.{index_of}
use Rattle.standing_laws.specs.fileset_files.State.{FileState, state_of}
use Rattle.standing_laws.proofs.OfFilesetFiles.Created.{one_chains}
use Rattle.standing_laws.specs.fileset_files.States.{if_live, is_removing}
use Rattle.standing_laws.proofs.OfFilesetFiles.Told.{told_attributes}
use Rattle.standing_laws.specs.index_pages.Homes.{AreIndexHomes}
use Rattle.standing_laws.proofs.OfStoredSet.Told.{kind_told}
use Rattle.standing_laws.specs.stored_set.Sets.{StandsAsSet}
use Rattle.standing_laws.specs.domain_standing.Domain.{DomainNow}
use Rattle.standing_laws.specs.Leads.{IsLiveOf}
use Rattle.set_standing.specs.Around.{StandsAround}
use Rattle.set_standing.proofs.Again.{at_slot, there_first}
use Rattle.set_standing.proofs.CallsAround.{HasFirst, first_of}

-- what a set shows at a tag, and which file that is
module _ (number : ℕ) (d : DomainNow) (around : StandsAround number d) (set : SetOf) (stood : StandsAsSet number (d.tags number) d.space d.cells d.pages set) (tag : Tag) (directory : IsDirectory set tag) where
  same_chains : (t : Tag) → stood.chains t ≡ around.chains t
  same_chains = one_chains d.pages number (d.tags number) stood.chains around.chains stood.stands.together.files around.well.together.files

  pub is_live : IsLiveOf Directory (around.chains tag)
  is_live = by_file (set tag) directory (option_and_then (of_live attributes_of) (around.chains tag))
      (kind_told number (d.tags number) d.space d.cells d.pages stood.chains stood.indexes set stood.stands tag ∙ ap (λ o. option_map (λ (a : Attributes). a.kind) (option_and_then (of_live attributes_of) o)) (same_chains tag))
    where
      none_some : (k : Kind) → Some k ≡ None → ⊥
      none_some k e = cc

      kind_is : (one other : Kind) → Some one ≡ Some other → one ≡ other
      kind_is one other e = ap (λ o. or_else o one) e
        where
          or_else : Option Kind → Kind → Kind
          or_else None k = k
          or_else (Some x) k = x

      by_what : (file : Bitfile) → file.kind ≡ Directory → (o : Option Attributes) → Some file.kind ≡ option_map (λ (a : Attributes). a.kind) o → IsSomeAnd o (λ a. a.kind ≡ Directory)
      by_what file is None told = absurd (none_some file.kind told)
      by_what file is (Some a) told = sym (kind_is file.kind a.kind told) ∙ is

      by_file : (o : Option Bitfile) → IsSomeAnd o (λ file. file.kind ≡ Directory) → (a : Option Attributes) → option_map (λ (file : Bitfile). file.kind) o ≡ option_map (λ (a : Attributes). a.kind) a → IsSomeAnd a (λ a. a.kind ≡ Directory)
      by_file None is a told = absurd is
      by_file (Some file) is a told = by_what file is a told

  -- its index is where the domain has it
  pub first_there : HasFirst around.chains tag
  first_there = first_of number d around tag (λ (a : Attributes). a.kind ≡ Directory) is_live

  pub index_there : AreIndexHomes d.pages (option_and_then index_of (around.chains tag)) (around.indexes first_there.first.at)
  index_there = subst (λ o. AreIndexHomes d.pages (option_and_then index_of o) (around.indexes first_there.first.at)) (there_first number tag d (at_slot number d around) first_there.first first_there.rest first_there.is ∙ sym first_there.is)
      (around.below.chains.indexed first_there.first.at)

-- ---- a directory stays one

-- attributes of a live file are those of its state
abbrev pub LiveSaid : List PlacedCell → Type 0
LiveSaid cells = of_live attributes_of cells ≡ option_map (λ (s : FileState). s.attributes) (option_and_then if_live (state_of cells))

pub live_said : (number : ℕ) (places : List TagPlace) (pages : Pages) (chains : Chains) → AreFiles number places pages chains → (tag : Tag) (cells : List PlacedCell) → chains tag ≡ Some cells → LiveSaid cells
live_said number places pages chains are tag cells there =
    sym (ap (option_and_then (of_live attributes_of)) there) ∙ told_attributes number places pages chains are tag
    ∙ ap (λ (o : Option (List PlacedCell)). option_map (λ (s : FileState). s.attributes) (option_and_then if_live (option_and_then state_of o))) there

pub live_still : (cells cells_now : List PlacedCell) (how : FileState → FileState) → LiveSaid cells → LiveSaid cells_now → ((s : FileState) → (how s).pending ≡ s.pending) → ((s : FileState) → of_live attributes_of cells ≡ Some s.attributes → s.attributes.kind ≡ Directory → (how s).attributes.kind ≡ s.attributes.kind)
    → state_of cells_now ≡ option_map how (state_of cells) → IsLiveOf Directory (Some cells) → IsLiveOf Directory (Some cells_now)
live_still cells cells_now how said_was said_now pending kind changed live = by_state (state_of cells) refl
  where
    was : (o : Option FileState) → state_of cells ≡ o → IsSomeAnd (option_map (λ (s : FileState). s.attributes) (option_and_then if_live o)) (λ a. a.kind ≡ Directory)
    was o there = subst (λ (a : Option Attributes). IsSomeAnd a (λ w. w.kind ≡ Directory)) (said_was ∙ ap (λ (s : Option FileState). option_map (λ (x : FileState). x.attributes) (option_and_then if_live s)) there) live

    back : (o : Option FileState) → state_of cells ≡ o → IsSomeAnd (option_map (λ (s : FileState). s.attributes) (option_and_then if_live (option_map how o))) (λ a. a.kind ≡ Directory) → IsLiveOf Directory (Some cells_now)
    back o there = subst (λ (a : Option Attributes). IsSomeAnd a (λ w. w.kind ≡ Directory))
        (sym (said_now ∙ ap (λ (s : Option FileState). option_map (λ (x : FileState). x.attributes) (option_and_then if_live s)) (changed ∙ ap (option_map how) there)))

    by_pending : (s : FileState) → state_of cells ≡ Some s → (b : Bool) → is_removing s.pending ≡ b → IsLiveOf Directory (Some cells_now)
    by_pending s there true removed = absurd (subst (λ b. IsSomeAnd (option_map (λ (x : FileState). x.attributes) (cond b None (Some s))) (λ a. a.kind ≡ Directory)) removed (was (Some s) there))
    by_pending s there false lives =
        let directory : s.attributes.kind ≡ Directory = subst (λ b. IsSomeAnd (option_map (λ (x : FileState). x.attributes) (cond b None (Some s))) (λ a. a.kind ≡ Directory)) lives (was (Some s) there) in
        let said : of_live attributes_of cells ≡ Some s.attributes =
        said_was ∙ ap (λ (o : Option FileState). option_map (λ (x : FileState). x.attributes) (option_and_then if_live o)) there ∙ ap (λ b. option_map (λ (x : FileState). x.attributes) (cond b None (Some s))) lives
        in
        back (Some s) there
        (subst (λ b. IsSomeAnd (option_map (λ (x : FileState). x.attributes) (cond b None (Some (how s)))) (λ a. a.kind ≡ Directory)) (sym (ap is_removing (pending s) ∙ lives)) (kind s said directory ∙ directory))

    by_state : (o : Option FileState) → state_of cells ≡ o → IsLiveOf Directory (Some cells_now)
    by_state None there = absurd (was None there)
    by_state (Some s) there = by_pending s there (is_removing s.pending) refl
