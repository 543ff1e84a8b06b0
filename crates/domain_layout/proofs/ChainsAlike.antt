-- Where no rule is broken: pages that agree on pages of cells and tags have the same chains.
use Rattle.std.proofs.Common.{◌≡◌, ◌∙◌, ◌⊎◌, inl, inr, ℕ, ◌/◌, ◌%◌, cond, nat_lt, ◌&&◌, List, [], ◌∷◌, Option, Some, None, IfSome, IsSomeAnd, slice_get, refl, sym, ap, subst, ⊎_elim}
use Rattle.std.specs.Option.{option_and_then, option_map}
use Rattle.file_release.specs.domain_base.declared.place.CellAt.{CellAt}
use Rattle.file_release.specs.domain_base.declared.place.Home.{Home}
use Rattle.file_release.specs.domain_base.declared.place.Tag.{Tag}
use Rattle.file_release.specs.page_store.Pages.{Pages}
use Rattle.file_release.specs.cell_records.Fields.{number_at}
use Rattle.file_release.specs.metadata_cells.Cell.{Cell}
use Rattle.file_release.specs.metadata_cells.CellPage.{cell_of as bytes_of, home_of, is_cell_page}
use Rattle.file_release.specs.metadata_cells.Chain.{AreLinked, Follow, LinksFrom, PlacedCell, StandsAt}
use Rattle.file_release.specs.metadata_cells.declared.head.CellKind.TheVariants.{Primary, Quota}
use Rattle.file_release.proofs.OfMetadataCells.Walk.{one_kind}
use Rattle.file_release.specs.tag_dirs.declared.dir.TagPlace.{TagPlace}
use Rattle.file_release.specs.tag_dirs.Directory.{IsDirectoryAt, IsPageOf, cell_for, cell_of, home_behind, home_with}
use Rattle.file_release.specs.tag_dirs.TagPage.{entry_of}
use Rattle.file_release.proofs.OfTagDirs.Slots.{found}
use Rattle.file_release.specs.file_chains.Files.{IsFile}
use Rattle.file_release.specs.fileset_files.Files.{Chains, LeadsToFile}
use Rattle.name_space.specs.fileset_values.declared.command.Owner.{Owner}
use Rattle.name_space.specs.fileset_model.declared.fileset.Limits.{Limits}
use Rattle.fileset_table.specs.Table.{entry_of as fileset_of}
use Rattle.fileset_table.specs.declared.slot.FilesetEntry.{FilesetEntry}
use Rattle.fileset_table.specs.declared.slot.SlotItem.{SlotItem}
use Rattle.fileset_table.specs.declared.slot.SlotItem.TheVariants as slots
use Rattle.domain_layout.specs.CellRules.{IsPlace}
use Rattle.domain_layout.specs.Faults.{HasNoTablesFault}
use Rattle.domain_layout.specs.Layout.{IsLayout, Layout}
use Rattle.domain_layout.specs.Owners.{frame_of}
use Rattle.domain_layout.specs.Shape.{AreLimits, AreQuotas, HasChains}
use Rattle.domain_layout.specs.Reached.{tags_way}
use Rattle.domain_layout.specs.TagRules.{HasTags, IsFirstOf, IsQuotaOf}
use Rattle.domain_layout.specs.Alike.{AgreeOnCells, AgreeOnTags}
use Rattle.domain_layout.proofs.Named.{InChain, begins_file, first_there, goes_along, holds_quotas, place_in}
use Rattle.domain_layout.proofs.OnePage.{some_same}
use Rattle.domain_layout.proofs.OwnedOnce.{no_tags, table_at, tags_come, tags_read}
use Rattle.domain_layout.proofs.Reached.{read_after, same_number}

-- ---- pages that cannot differ are the same

head_same : (x y : ℕ) (xs ys : List ℕ) → x ∷ xs ≡ y ∷ ys → x ≡ y
head_same x y xs ys same = cc

rest_same : (x y : ℕ) (xs ys : List ℕ) → x ∷ xs ≡ y ∷ ys → xs ≡ ys
rest_same x y xs ys same = cc

pub same_bytes : (xs ys : List ℕ) → (xs ≡ ys) ⊎ ¬ xs ≡ ys
same_bytes [] [] = inl refl
same_bytes [] (y ∷ ys) = inr (λ (same : [] ≡ y ∷ ys). absurd (cc))
same_bytes (x ∷ xs) [] = inr (λ (same : x ∷ xs ≡ []). absurd (cc))
same_bytes (x ∷ xs) (y ∷ ys) =
    ⊎_elim (λ first. ⊎_elim (λ rest. inl (λ i. first i ∷ rest i)) (λ other. inr (λ same. other (rest_same x y xs ys same))) (same_bytes xs ys))
    (λ other. inr (λ same. other (head_same x y xs ys same))) (same_number x y)

pub same_page : (a b : Option (List ℕ)) → ¬ ¬ a ≡ b → a ≡ b
same_page None None not = refl
same_page None (Some y) not = absurd (not (λ (same : None ≡ Some y). absurd (cc)))
same_page (Some x) None not = absurd (not (λ (same : Some x ≡ None). absurd (cc)))
same_page (Some x) (Some y) not = ⊎_elim (λ same. ap Some same) (λ other. absurd (not (λ same. other (some_same x y same)))) (same_bytes x y)

module _ (one other : Pages) (layout : Layout) (laid : IsLayout one layout) (none : HasNoTablesFault one (frame_of layout)) (cells : AgreeOnCells one other (frame_of layout)) where
  -- ---- cells

  page_alike : (at : CellAt) → ¬ ¬ IsPlace one (frame_of layout) at → one (home_of at) ≡ other (home_of at)
  page_alike at there = same_page (one (home_of at)) (other (home_of at)) (λ differ. there (λ place. differ (cells at.vol place.is.member place.is.read.passed (home_of at) place.is.read.reached place.is.read.may)))

  stands_alike : (at : CellAt) (cell : Cell) → ¬ ¬ IsPlace one (frame_of layout) at → StandsAt one at cell → StandsAt other at cell
  stands_alike at cell there stands =
      let same = page_alike at there in
      record {
        bytes = stands.bytes;
        there = sym (ap (λ o. option_and_then (λ page. cond (is_cell_page page && nat_lt at.cell 28) (Some (bytes_of page at.cell)) None) o) same) ∙ stands.there;
        is = stands.is;
      }

  follow_alike : (at : CellAt) (cell : Cell) → ¬ ¬ InChain one layout at cell → (rest : List PlacedCell) → Follow one cell.head rest → Follow other cell.head rest
  follow_alike at cell in_chain [] ends = ends
  follow_alike at cell in_chain (c ∷ cs) (leads, may, stands, follow) =
      let on : ¬ ¬ InChain one layout c.at c.cell = (λ alone. in_chain (λ is. goes_along one layout laid none at c.at cell c.cell is leads stands alone)) in
      (leads, may, stands_alike c.at c.cell (λ nowhere. on (λ is. nowhere (place_in one layout laid none c.at c.cell is))) stands, follow_alike c.at c.cell on cs follow)

  links_alike : (first : PlacedCell) (rest : List PlacedCell) → ¬ ¬ InChain one layout first.at first.cell → AreLinked one first rest → AreLinked other first rest
  links_alike first rest in_chain links = record {
    stands = stands_alike first.at first.cell (λ nowhere. in_chain (λ is. nowhere (place_in one layout laid none first.at first.cell is))) links.stands;
    follow = follow_alike first.at first.cell in_chain rest links.follow;
    distinct = links.distinct;
  }

  pub file_alike : (at : CellAt) (cells : List PlacedCell) → ¬ ¬ IsPlace one (frame_of layout) at → IsFile one at cells → IsFile other at cells
  file_alike at [] there is = absurd is
  file_alike at (first ∷ rest) there (same, is) =
      let here : ¬ ¬ IsPlace one (frame_of layout) first.at = subst (λ a. ¬ ¬ IsPlace one (frame_of layout) a) (sym same) there in
      let in_chain : ¬ ¬ InChain one layout first.at first.cell = (λ alone. here (λ place. alone (begins_file one layout laid none first.at first.cell place is.links.stands is.primary))) in (
        same,
        record {
          links = links_alike first rest in_chain is.links;
          primary = is.primary;
          attributes = is.attributes;
          value = is.value;
          map = is.map;
          others = is.others;
          one_map = is.one_map;
        },
      )

  -- the cells that are linked from a first cell on
  pub linked_alike : (number : ℕ) (tag : Tag) (at : CellAt) → ¬ ¬ IsFirstOf one (frame_of layout) number tag at → (cells : List PlacedCell) → LinksFrom one at cells → LinksFrom other at cells
  linked_alike number tag at named [] links = absurd links
  linked_alike number tag at named (first ∷ rest) (same, links) = (same, links_alike first rest in_chain links)
    where
      kind : (is : IsFirstOf one (frame_of layout) number tag first.at) → first.cell.head.kind ≡ Primary
      kind is =
          let bytes : is.bytes ≡ links.stands.bytes = some_same is.bytes links.stands.bytes (sym is.there ∙ links.stands.there) in
          one_kind first.cell.head.kind Primary (sym links.stands.is.head.kind ∙ ap (number_at 1 15) (sym bytes) ∙ is.kind)

      in_chain : ¬ ¬ InChain one layout first.at first.cell
      in_chain alone = named (λ at_is.
          let is : IsFirstOf one (frame_of layout) number tag first.at = subst (IsFirstOf one (frame_of layout) number tag) (sym same) at_is in
          alone (begins_file one layout laid none first.at first.cell is.place links.stands (kind is)))

  -- ---- limits

  quotas_alike : (number : ℕ) (at : CellAt) → ¬ ¬ IsQuotaOf one (frame_of layout) number at → (first : PlacedCell) (rest : List PlacedCell) → first.at ≡ at → AreLinked one first rest → AreLinked other first rest
  quotas_alike number at there first rest same links = links_alike first rest in_chain links
    where
      kind : (is : IsQuotaOf one (frame_of layout) number first.at) → first.cell.head.kind ≡ Quota
      kind is =
          let bytes : is.bytes ≡ links.stands.bytes = some_same is.bytes links.stands.bytes (sym is.there ∙ links.stands.there) in
          one_kind first.cell.head.kind Quota (sym links.stands.is.head.kind ∙ ap (number_at 1 15) (sym bytes) ∙ is.kind)

      in_chain : ¬ ¬ InChain one layout first.at first.cell
      in_chain alone = there (λ at_is.
          let is : IsQuotaOf one (frame_of layout) number first.at = subst (IsQuotaOf one (frame_of layout) number) (sym same) at_is in
          holds_quotas one layout laid none first.at first.cell is.place links.stands (kind is) alone)

  pub limits_alike : (number : ℕ) (item : SlotItem) → slice_get layout.table.slots number ≡ Some item → (entry : FilesetEntry) → fileset_of item ≡ Some entry → (limits : Owner → Limits) → AreLimits one entry limits → AreLimits other entry limits
  limits_alike number item slot entry is limits are = record { records = are.records; quotas = by_quota entry.quota refl are.quotas; each = are.each }
    where
      right : (at : CellAt) → entry.quota ≡ Some at → ¬ ¬ IsQuotaOf one (frame_of layout) number at
      right at quota wrong =
          let home = table_at one layout laid none in
          no_tags one layout laid none home.0
          (inr (inr (inr (inr (inr (inr (home.1, record { number = number; item = item; there = slot; wrong = inr (record { entry = entry; is = is; at = at; named = quota; wrong = inl wrong }) })))))))

      by_cells : (at : CellAt) → entry.quota ≡ Some at → AreQuotas one (Some at) are.records → AreQuotas other (Some at) are.records
      by_cells at quota ([], links, same) = absurd links
      by_cells at quota (first ∷ rest, links, same) = (first ∷ rest, (links.0, quotas_alike number at (right at quota) first rest links.0 links.1), same)

      by_quota : (o : Option CellAt) → entry.quota ≡ o → AreQuotas one o are.records → AreQuotas other o are.records
      by_quota None quota is = is
      by_quota (Some at) quota is = by_cells at quota is

  module _ (tags : AgreeOnTags one other (frame_of layout) layout.table) (number : ℕ) (first : Home) (has : HasTags layout.table number first) (dir : List TagPlace) (stands : IsDirectoryAt one first dir) where
    -- ---- tags

    tag_page_alike : (k : ℕ) (p : TagPlace) → slice_get dir k ≡ Some p → one p.home ≡ other p.home
    tag_page_alike k p there =
        let come = tags_come one layout laid none number first has dir stands k p there in
        let read = read_after one (frame_of layout) (tags_way first) (tags_read one layout laid none number first has) come.passed p.home come.reached in
        tags number first has come.passed p.home come.reached read.may

    pub directory_alike : IsDirectoryAt other first dir
    directory_alike = record {
      directory = record { run = λ k. run_alike k (slice_get dir k) refl (stands.directory.run k); apart = stands.directory.apart; first = stands.directory.first };
      begins = stands.begins;
    }
      where
        run_alike : (k : ℕ) (o : Option TagPlace) → slice_get dir k ≡ o → IfSome o (λ place. IsSomeAnd (one place.home) (IsPageOf place (home_behind dir k)))
            → IfSome o (λ place. IsSomeAnd (other place.home) (IsPageOf place (home_behind dir k)))
        run_alike k None there is = tt
        run_alike k (Some p) there is = subst (λ q. IsSomeAnd q (IsPageOf p (home_behind dir k))) (tag_page_alike k p there) is

    pub cell_alike : (tag : Tag) → cell_of one dir tag ≡ cell_of other dir tag
    cell_alike tag = by_home (home_with dir (tag.slot / 1022)) refl
      where
        by_home : (o : Option Home) → home_with dir (tag.slot / 1022) ≡ o
            → option_and_then (cell_for tag.seq) (option_map (λ page. entry_of page (tag.slot % 1022)) (option_and_then one o))
            ≡ option_and_then (cell_for tag.seq) (option_map (λ page. entry_of page (tag.slot % 1022)) (option_and_then other o))
        by_home None at = refl
        by_home (Some home) at =
            let f = found dir (tag.slot / 1022) home at in
            let same : one home ≡ other home = subst (λ h. one h ≡ other h) f.stands (tag_page_alike f.k f.p f.there) in
            ap (λ o. option_and_then (cell_for tag.seq) (option_map (λ page. entry_of page (tag.slot % 1022)) o)) same

    leads_alike : (tag : Tag) (cells : List PlacedCell) → LeadsToFile number dir one tag cells → LeadsToFile number dir other tag cells
    leads_alike tag cells is = record {
      leads = subst (λ o. IsSomeAnd o (λ at. IsFile other at cells)) (cell_alike tag) (by_cell (cell_of one dir tag) refl is.leads);
      is_of = is.is_of;
      kinds = is.kinds;
    }
      where
        by_cell : (o : Option CellAt) → cell_of one dir tag ≡ o → IsSomeAnd o (λ at. IsFile one at cells) → IsSomeAnd o (λ at. IsFile other at cells)
        by_cell None at is = absurd is
        by_cell (Some at) leads is =
            file_alike at cells (λ nowhere. first_there one layout laid none number first has dir stands tag at leads (λ first. nowhere first.place)) is

  pub chains_alike : AgreeOnTags one other (frame_of layout) layout.table → (number : ℕ) (entry : FilesetEntry) → HasTags layout.table number entry.first_tag → (chains : Chains) → HasChains one number entry chains → HasChains other number entry chains
  chains_alike tags number entry has chains are = record {
    places = are.places;
    directory = there;
    files = record {
      directory = there.directory;
      none = λ tag is. sym (cell_alike tags number entry.first_tag has are.places are.directory tag) ∙ are.files.none tag is;
      some = λ tag. by_chain tag (chains tag) (are.files.some tag);
      apart = are.files.apart;
    };
  }
    where
      there : IsDirectoryAt other entry.first_tag are.places
      there = directory_alike tags number entry.first_tag has are.places are.directory

      by_chain : (tag : Tag) (o : Option (List PlacedCell)) → IfSome o (LeadsToFile number are.places one tag) → IfSome o (LeadsToFile number are.places other tag)
      by_chain tag None is = tt
      by_chain tag (Some cells) is = leads_alike tags number entry.first_tag has are.places are.directory tag cells is
