-- Where no rule of tables and extents is broken, and the chains of its tags were read, a fileset has its files.
use Rattle.std.proofs.Common.{◌≡◌, ℕ, false, List, [], ◌∷◌, Option, Some, None, IfSome, IsSomeAnd, refl, sym, subst}
use Rattle.domain_layout.specs.domain_base.declared.place.CellAt.{CellAt}
use Rattle.domain_layout.specs.domain_base.declared.place.Tag.{Tag}
use Rattle.domain_layout.specs.page_store.Bitfiles.{same_tag}
use Rattle.domain_layout.specs.page_store.Pages.{Pages}
use Rattle.domain_layout.specs.metadata_cells.Chain.{LinksFrom, PlacedCell}
use Rattle.domain_layout.specs.tag_dirs.declared.dir.TagPlace.{TagPlace}
use Rattle.domain_layout.specs.tag_dirs.Directory.{cell_of}
use Rattle.domain_layout.specs.file_chains.Files.{IsFile}
use Rattle.domain_layout.specs.fileset_files.Files.{AreApart, Chains, HasFiles, LeadsToFile}
use Rattle.domain_layout.specs.Owners.{frame_of}
use Rattle.domain_layout.specs.TagRules.{IsFirstOf}
use Rattle.domain_layout.proofs.Named.{first_there}
use Rattle.filesets_reading.specs.Chains.{HaveLinks, IsUnbroken, MayHaveFiles}
use Rattle.filesets_reading.proofs.ChainsApart.{files_apart}
use Rattle.filesets_reading.proofs.ChainsThere.{FileThere, file_there}
use Rattle.filesets_reading.proofs.Unbroken.{unbroken}

-- a chain of cells is not empty
record Parted (pages : Pages) (at : CellAt) (cells : List PlacedCell) : Type 0 where
  first : PlacedCell
  rest : List PlacedCell
  all : cells ≡ first ∷ rest
  links : LinksFrom pages at (first ∷ rest)

parted : (pages : Pages) (at : CellAt) (cells : List PlacedCell) → LinksFrom pages at cells → Parted pages at cells
parted pages at [] links = absurd links
parted pages at (first ∷ rest) links = record { first = first; rest = rest; all = refl; links = links }

module _ (pages : Pages) (number : ℕ) (places : List TagPlace) (may : MayHaveFiles pages number places) where
  named : (tag : Tag) (at : CellAt) → cell_of pages places tag ≡ Some at → ¬ ¬ IsFirstOf pages (frame_of may.layout) number tag at
  named tag at leads = first_there pages may.layout may.laid may.no_fault.tables number may.first may.has places may.directory tag at leads

  pub are_unbroken : IsUnbroken pages places
  are_unbroken tag at x leads = unbroken pages may.layout may.laid may.no_fault.tables number tag at (named tag at leads) x

  module _ (links : HaveLinks pages places) where
    chain_by : (tag : Tag) (o : Option CellAt) → cell_of pages places tag ≡ o → Option (List PlacedCell)
    chain_by tag None leads = None
    chain_by tag (Some at) leads = Some (links tag at leads).0

    abbrev chains : Chains
    chains tag = chain_by tag (cell_of pages places tag) refl

    -- the cells of a tag
    record Cells (tag : Tag) (at : CellAt) (cells : List PlacedCell) : Type 0 where
      first : PlacedCell
      rest : List PlacedCell
      all : cells ≡ first ∷ rest
      at_first : first.at ≡ at
      of : ¬ ¬ IsFirstOf pages (frame_of may.layout) number tag first.at
      there : FileThere pages may.layout may.laid may.no_fault may.small number tag first rest

    cells_of : (tag : Tag) (at : CellAt) (leads : cell_of pages places tag ≡ Some at) → Cells tag at (links tag at leads).0
    cells_of tag at leads =
        let parts = parted pages at (links tag at leads).0 (links tag at leads).1 in
        let of : ¬ ¬ IsFirstOf pages (frame_of may.layout) number tag parts.first.at = subst (λ a. ¬ ¬ IsFirstOf pages (frame_of may.layout) number tag a) (sym parts.links.0) (named tag at leads) in
        record {
          first = parts.first;
          rest = parts.rest;
          all = parts.all;
          at_first = parts.links.0;
          of = of;
          there = file_there pages may.layout may.laid may.no_fault may.small number tag parts.first parts.rest of parts.links.1;
        }

    none_by : (tag : Tag) (o : Option CellAt) (leads : cell_of pages places tag ≡ o) → chain_by tag o leads ≡ None → o ≡ None
    unfolding chain_by
    none_by tag None leads is = refl
    none_by tag (Some at) leads is = absurd (let e : Some (links tag at leads).0 ≡ None = is in absurd (cc))

    leads_to : (tag : Tag) (at : CellAt) (leads : cell_of pages places tag ≡ Some at) → LeadsToFile number places pages tag (links tag at leads).0
    leads_to tag at leads =
        let cells = cells_of tag at leads in
        subst (LeadsToFile number places pages tag) (sym cells.all)
        (record {
          leads = subst (λ o. IsSomeAnd o (λ a. IsFile pages a (cells.first ∷ cells.rest))) (sym leads) (cells.at_first, cells.there.is);
          is_of = cells.there.of;
          kinds = cells.there.kinds;
        })

    some_by : (tag : Tag) (o : Option CellAt) (leads : cell_of pages places tag ≡ o) → IfSome (chain_by tag o leads) (LeadsToFile number places pages tag)
    unfolding chain_by
    some_by tag None leads = tt
    some_by tag (Some at) leads = leads_to tag at leads

    apart_by : (s t : Tag) → same_tag s t ≡ false → (o : Option CellAt) (one : cell_of pages places s ≡ o) (p : Option CellAt) (other : cell_of pages places t ≡ p)
        → IfSome (chain_by s o one) (λ xs. IfSome (chain_by t p other) (AreApart xs))
    unfolding chain_by
    apart_by s t differ None one p other = tt
    apart_by s t differ (Some at) one None other = tt
    apart_by s t differ (Some at) one (Some onto) other =
        let xs = cells_of s at one in
        let ys = cells_of t onto other in
        subst (λ cs. AreApart cs (links t onto other).0) (sym xs.all)
        (subst (AreApart (xs.first ∷ xs.rest)) (sym ys.all)
        (files_apart pages may.layout may.laid may.no_fault.tables number s t xs.first xs.rest ys.first ys.rest xs.of xs.there.is ys.of ys.there.is differ))

    pub have_files : HasFiles number places pages
    have_files = (
      chains,
      record {
        directory = may.directory.directory;
        none = λ tag is. none_by tag (cell_of pages places tag) refl is;
        some = λ tag. some_by tag (cell_of pages places tag) refl;
        apart = λ s t differ. apart_by s t differ (cell_of pages places s) refl (cell_of pages places t) refl;
      },
    )
