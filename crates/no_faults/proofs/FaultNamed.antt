-- Where a domain stands, a tag that leads to a cell leads to the first one of a file's chain.
use Rattle.std.proofs.Common.{◌≡◌, ◌∙◌, ℕ, false, List, [], ◌∷◌, Option, Some, None, IfSome, IsSomeAnd, refl, sym, ap, subst, ⊎_elim}
use Rattle.std.specs.Option.{option_and_then}
use Rattle.domain_memory.specs.domain_base.declared.place.CellAt.{CellAt}
use Rattle.domain_memory.specs.domain_base.declared.place.Home.{Home}
use Rattle.domain_memory.specs.domain_base.declared.place.Tag.{Tag}
use Rattle.domain_memory.specs.metadata_cells.Chain.{PlacedCell}
use Rattle.domain_memory.specs.tag_dirs.Directory.{cell_of}
use Rattle.domain_memory.specs.file_chains.Files.{IsFile}
use Rattle.domain_memory.specs.fileset_files.Files.{HasFirstKinds, IsOf, LeadsToFile, is_removed}
use Rattle.domain_memory.specs.release_steps.Tags.{start_of}
use Rattle.domain_memory.specs.fileset_model.Filesets.{FilesetMap}
use Rattle.domain_memory.specs.domain_layout.Layout.{first_tag_of}
use Rattle.domain_memory.specs.domain_standing.Chains.{HasFilesAmong, StandsInSlot}
use Rattle.domain_memory.specs.domain_standing.Domain.{DomainNow, named_by}
use Rattle.domain_memory.specs.domain_standing.Standing.{StandsDomain}
use Rattle.no_faults.proofs.Ways.{nothing}

module _ (d : DomainNow) (all : FilesetMap) (stands : StandsDomain d all) where
  -- the chain of the file that a tag names, which stays, in a slot that has a tag directory
  pub record NamesChain (number : ℕ) (tag : Tag) (start : CellAt) : Type 0 where
    pub first : PlacedCell
    pub rest : List PlacedCell
    pub there : stands.files start ≡ Some (first ∷ rest)
    pub file : IsFile d.pages start (first ∷ rest)
    pub is_of : IsOf number tag (first ∷ rest)
    pub kinds : HasFirstKinds (first ∷ rest)
    pub live : is_removed (first ∷ rest) ≡ false
    pub begin : Home
    pub has : named_by first_tag_of d number ≡ Some begin

  module _ (number : ℕ) (tag : Tag) (start : CellAt) (leads : cell_of d.pages (d.tags number) tag ≡ Some start) where
    by_file : (begin : Home) → named_by first_tag_of d number ≡ Some begin → (cells : List PlacedCell) → IsFile d.pages start cells → LeadsToFile number (d.tags number) d.pages tag cells
        → option_and_then stands.files (start_of cells) ≡ Some cells → is_removed cells ≡ false → NamesChain number tag start
    by_file begin has [] file is same live = absurd file
    by_file begin has (first ∷ rest) file is same live = record {
      first = first;
      rest = rest;
      there = subst (λ a. stands.files a ≡ Some (first ∷ rest)) file.0 same;
      file = file;
      is_of = is.is_of;
      kinds = is.kinds;
      live = live;
      begin = begin;
      has = has;
    }

    among : (begin : Home) → named_by first_tag_of d number ≡ Some begin → HasFilesAmong d stands.files number → NamesChain number tag start
    among begin has files = by_chain (files.chains tag) refl
      where
        by_chain : (o : Option (List PlacedCell)) → files.chains tag ≡ o → NamesChain number tag start
        by_chain None none = nothing start (sym (files.are.none tag none) ∙ leads)
        by_chain (Some cells) some =
            let is : LeadsToFile number (d.tags number) d.pages tag cells = subst (λ o. IfSome o (LeadsToFile number (d.tags number) d.pages tag)) some (files.are.some tag) in
            by_file begin has cells (subst (λ o. IsSomeAnd o (λ at. IsFile d.pages at cells)) leads is.leads) is
            (subst (λ o. option_and_then stands.files (option_and_then start_of o) ≡ o) some (files.among.same tag))
            (subst (λ o. IfSome o (λ cs. is_removed cs ≡ false)) some (files.among.live tag))

    by_slot : (o : Option Home) → named_by first_tag_of d number ≡ o → StandsInSlot d stands.files number o → NamesChain number tag start
    by_slot None none empty = nothing start (ap (λ places. cell_of d.pages places tag) (sym empty) ∙ leads)
    by_slot (Some begin) has in_slot = ⊎_elim (λ files. among begin has files) (λ gone. nothing start (sym (gone.none tag) ∙ leads)) in_slot

    pub names_chain : NamesChain number tag start
    names_chain = by_slot (named_by first_tag_of d number) refl (stands.chains.slots number)
