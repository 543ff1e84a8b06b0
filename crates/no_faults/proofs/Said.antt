-- What a domain that stands holds for files and tags is said by cells and slots.
use Rattle.std.proofs.Common.{◌≡◌, ◌∙◌, ℕ, true, List, Option, Some, None, slice_get, refl, sym, ap}
use Rattle.std.proofs.lemmas.Bool.{true≢false}
use Rattle.std.specs.Option.{option_map_or}
use Rattle.domain_memory.specs.domain_base.declared.place.CellAt.{CellAt}
use Rattle.domain_memory.specs.domain_base.declared.place.Home.{Home}
use Rattle.domain_memory.specs.metadata_cells.Chain.{PlacedCell}
use Rattle.domain_memory.specs.tag_dirs.Directory.{has_home}
use Rattle.domain_memory.specs.tag_dirs.declared.dir.TagPlace.{TagPlace}
use Rattle.domain_memory.specs.extent_maps.declared.run.PagePlace.TheVariants.{Absent, At}
use Rattle.domain_memory.specs.file_chains.Files.{places_of}
use Rattle.domain_memory.specs.release_list.Standing.{place_in}
use Rattle.domain_memory.proofs.OfDomainStanding.FilePages.{is_said}
use Rattle.domain_memory.specs.fileset_model.Filesets.{FilesetMap}
use Rattle.domain_memory.specs.domain_layout.Layout.{first_tag_of}
use Rattle.domain_memory.specs.domain_layout.Owners.{BelongsTo, HasExtent, Owner}
use Rattle.domain_memory.specs.domain_standing.Chains.{StandsInSlot}
use Rattle.domain_memory.specs.domain_standing.Domain.{DomainNow, layout_of, named_by}
use Rattle.domain_memory.specs.domain_standing.Standing.{StandsDomain}
use Rattle.no_faults.proofs.InChains.{HasChain, chain_of}
use Rattle.no_faults.proofs.Tags.{tags_of}
use Rattle.no_faults.proofs.Ways.{at_of}

pub nowhere : {P : Type 0} (home : Home) → Absent ≡ At home → P
nowhere home is = absurd (cc)

module _ (d : DomainNow) (all : FilesetMap) (stands : StandsDomain d all) where
  -- a file's page is said by a cell of its chain
  pub record SaidBy (start : CellAt) (page : ℕ) (home : Home) : Type 0 where
    pub at : CellAt
    pub extent : HasExtent d.pages (layout_of d) at page home

  pub said_by : (start : CellAt) (page : ℕ) (home : Home) → place_in stands.files start page ≡ At home → SaidBy start page home
  said_by start page home held = by_chain (stands.files start) refl held
    where
      by_cells : (chain : List PlacedCell) → stands.files start ≡ Some chain → HasChain d start chain → places_of chain page ≡ At home → SaidBy start page home
      by_cells chain there has placed =
          let said = is_said chain page home placed in
          let k = at_of chain said.c said.among in
          record {
            at = said.c.at;
            extent = record {
              cell = said.c.cell;
              on = has.is.tables k.0 said.c (ap (λ cs. slice_get cs k.0) (sym has.all) ∙ k.1);
              value = said.value;
              among = said.within;
              place = said.place;
            };
          }

      by_chain : (o : Option (List PlacedCell)) → stands.files start ≡ o → option_map_or (λ cs. places_of cs page) o Absent ≡ At home → SaidBy start page home
      by_chain None there placed = nowhere home placed
      by_chain (Some chain) there placed = by_cells chain there (chain_of d all stands start chain there) placed

  -- ---- pages of tags

  pub tags_owned : (number : ℕ) (home : Home) → has_home (d.tags number) home ≡ true → BelongsTo d.pages (layout_of d) (Owner.of_tags number) home
  tags_owned number home has = by_slot (named_by first_tag_of d number) refl (stands.chains.slots number)
    where
      by_slot : (o : Option Home) → named_by first_tag_of d number ≡ o → StandsInSlot d stands.files number o → BelongsTo d.pages (layout_of d) (Owner.of_tags number) home
      by_slot None none empty = absurd (true≢false (sym has ∙ ap (λ (ps : List TagPlace). has_home ps home) empty))
      by_slot (Some begin) some in_slot = let tags = tags_of d number begin some in record { item = tags.item; there = tags.there; has = has }
