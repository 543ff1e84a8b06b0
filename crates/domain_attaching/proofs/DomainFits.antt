-- The rules read nothing of a domain that stands for filesets for which it is not attached.
use Rattle.std.proofs.Common.{◌≡◌, ◌∙◌, ℕ, false, List, [], ◌∷◌, Option, Some, None, IsSomeAnd, refl, sym, ap, subst}
use Rattle.std.specs.Option.{option_and_then}
use Rattle.attached_domain.specs.domain_base.Limits.{file_pages}
use Rattle.attached_domain.specs.domain_base.declared.place.CellAt.{CellAt}
use Rattle.attached_domain.specs.domain_base.declared.place.Home.{Home}
use Rattle.attached_domain.specs.domain_base.declared.place.Kind.TheVariants.{Directory}
use Rattle.attached_domain.specs.domain_base.declared.place.Tag.{Tag}
use Rattle.attached_domain.specs.metadata_cells.Cell.{Cell, IsFileset, kind_number}
use Rattle.attached_domain.specs.metadata_cells.Chain.{LinksFrom, PlacedCell}
use Rattle.attached_domain.proofs.OfMetadataCells.Unique.{one_stands}
use Rattle.attached_domain.specs.fileset_model.Filesets.{FilesetMap}
use Rattle.attached_domain.specs.fileset_table.declared.slot.FilesetEntry.{FilesetEntry}
use Rattle.attached_domain.specs.fileset_table.declared.slot.SlotItem.TheVariants as slot
use Rattle.attached_domain.specs.domain_layout.CellRules.{IsUsed, say_removed}
use Rattle.attached_domain.specs.domain_layout.DirectoryRules.{Has}
use Rattle.attached_domain.specs.domain_layout.Owners.{IsOnTable}
use Rattle.attached_domain.specs.domain_layout.Seen.{SeenFile, seen_in}
use Rattle.attached_domain.specs.domain_layout.TagRules.{HasEntry, quota_of}
use Rattle.attached_domain.specs.domain_standing.Chains.{AreQuotasOf}
use Rattle.attached_domain.specs.domain_standing.Domain.{DomainNow, item_in, layout_of}
use Rattle.attached_domain.specs.standing_laws.Sound.{StandsSound}
use Rattle.attached_domain.specs.domain_standing.Sources.{StandAlone}
use Rattle.attached_domain.specs.domain_standing.Standing.{StandsDomain}
use Rattle.attached_domain.proofs.OfNoFaults.InChains.{IsChainOf, chain_is}
use Rattle.attached_domain.proofs.OfNoFaults.FaultNamed.{NamesChain, names_chain}
use Rattle.attached_domain.proofs.OfNoFaults.NoCells.{no_lead_to}
use Rattle.attached_domain.proofs.OfNoFaults.FaultOnTables.{on_table_of, place_there}
use Rattle.attached_domain.proofs.OfNoFaults.Shown.{HasShown, has_shown, state, whole}
use Rattle.attached_domain.proofs.OfNoFaults.Tags.{entry_is}
use Rattle.attached_domain.specs.no_faults.Attached.{IsFirstQuota}
use Rattle.attached_domain.specs.tag_dirs.Directory.{cell_of}
use Rattle.attached_domain.specs.cell_records.Fields.{number_at}
use Rattle.attached_domain.specs.fileset_files.Files.{keep_of}
use Rattle.attached_domain.specs.Signs.{say_cut}
use Rattle.attached_domain.proofs.Kept.{uncut}
use Rattle.attached_domain.proofs.NoCause.{ReadsFit}

module _ (d : DomainNow) (all : FilesetMap) (stands : StandsDomain d all) (sound : StandsSound d stands.files stands.indexes) where
  -- the first cell of a chain
  first_on : (start : CellAt) (first : PlacedCell) (rest : List PlacedCell) → stands.files start ≡ Some (first ∷ rest) → IsOnTable d.pages (layout_of d) start first.cell
  first_on start first rest there =
      let chain : IsChainOf d start first rest = chain_is d all stands start first rest there in
      subst (λ a. IsOnTable d.pages (layout_of d) a first.cell) chain.begins (chain.tables 0 first refl)

  -- ---- quota cells

  first_quota : (number : ℕ) (at : CellAt) → option_and_then quota_of (item_in d number) ≡ Some at → IsFirstQuota d.pages d.frame number at
  first_quota number at named = by_chain (stands.files at) refl (stands.chains.quotas number at named)
    where
      of_cells : (first : PlacedCell) (rest : List PlacedCell) → stands.files at ≡ Some (first ∷ rest) → AreQuotasOf d number at (first ∷ rest) → IsFirstQuota d.pages d.frame number at
      of_cells first rest has quotas =
          let on = first_on at first rest has in
          record {
            is = record {
              place = place_there d all stands sound at first.cell on;
              bytes = on.stands.bytes;
              there = on.stands.there;
              kind = on.stands.is.head.kind ∙ ap kind_number quotas.quotas.1.cells.0.kind;
              fileset = subst (IsFileset (number_at 1 14 on.stands.bytes)) quotas.of on.stands.is.head.fileset;
            };
            first = λ other leads. no_lead_to d all stands sound at first rest has other leads;
          }

      by_cells : (chain : List PlacedCell) → stands.files at ≡ Some chain → AreQuotasOf d number at chain → IsFirstQuota d.pages d.frame number at
      by_cells [] has quotas = absurd quotas.quotas
      by_cells (first ∷ rest) has quotas = of_cells first rest has quotas

      by_chain : (o : Option (List PlacedCell)) → stands.files at ≡ o → IsSomeAnd o (AreQuotasOf d number at) → IsFirstQuota d.pages d.frame number at
      by_chain None has quotas = absurd quotas
      by_chain (Some chain) has quotas = by_cells chain has quotas

  -- ---- what tags lead to

  cell_is : (number : ℕ) (tag : Tag) (at : CellAt) (n : NamesChain d all stands number tag at) (cell : Cell) → IsUsed d.pages d.frame at cell → n.first.cell ≡ cell
  cell_is number tag at n cell used = one_stands d.pages at n.first.cell cell (first_on at n.first n.rest n.there).stands used.stands

  -- a directory of an original keeps all pages
  uncut_there : (number : ℕ) (entry : FilesetEntry) → item_in d number ≡ Some (slot.Original entry) → (tag : Tag) (at : CellAt) → cell_of d.pages (d.tags number) tag ≡ Some at
      → (n : NamesChain d all stands number tag at) → say_cut n.first.cell.records ≡ false
  uncut_there number entry there tag at leads n = uncut n.first n.rest n.live keeps
    where
      keeps : (seen : SeenFile) → seen_in (n.first ∷ n.rest) ≡ Some seen → seen.is.kind ≡ Directory → keep_of (n.first ∷ n.rest) ≡ Some file_pages
      keeps seen sees directory =
          let has : Has d.pages d.table number tag (n.first ∷ n.rest) seen = record {
            item = slot.Original entry;
            there = there;
            is = record {
              there = record {
                places = d.tags number;
                directory = stands.tables.laid.tags number (slot.Original entry) there;
                leads = subst (λ o. IsSomeAnd o (λ a. LinksFrom d.pages a (n.first ∷ n.rest))) (sym leads) (n.file.0, n.file.1.links);
              };
              is = sees;
            };
          } in
          let h : HasShown d all stands number tag (n.first ∷ n.rest) seen = has_shown d all stands number tag (n.first ∷ n.rest) seen has in
          (state d all stands number h.entry h.original tag (n.first ∷ n.rest) seen h.is directory).keep ∙ ap Some (whole d all stands number h.entry h.original tag (n.first ∷ n.rest) seen h.is directory).keeps

  chain_at : (number : ℕ) (tag : Tag) (at : CellAt) (home : Home) → HasEntry d.pages d.frame d.table number tag at home → NamesChain d all stands number tag at
  chain_at number tag at home has = names_chain d all stands number tag at (entry_is d all stands sound number tag at home has)

  -- ---- all of it

  pub domain_fits : StandAlone d → ReadsFit d.pages d.frame d.table
  domain_fits alone = record {
    no_clone = stands.slots.no_clone;
    sources = λ at cell used primary says. alone at (record { cell = cell; on = on_table_of d all stands sound at cell used; kind = primary; says = says });
    quotas = λ number at removed named. first_quota number at named;
    stay = λ number tag at home has cell used. let n = chain_at number tag at home has in ap (λ (c : Cell). say_removed c.records) (sym (cell_is number tag at n cell used)) ∙ n.live;
    keep = λ number entry there tag at home has cell used.
        let n = chain_at number tag at home has in
        ap (λ (c : Cell). say_cut c.records) (sym (cell_is number tag at n cell used)) ∙ uncut_there number entry there tag at (entry_is d all stands sound number tag at home has) n;
  }
