-- Two files whose names were taken.
use Rattle.std.proofs.Common.{◌≡◌, ◌∙◌, ℕ, Bool, false, cond, List, [], ◌∷◌, Option, Some, None, IfSome, IsSomeAnd, refl, sym, ap, subst, arith}
use Rattle.release_steps.specs.domain_base.declared.place.CellAt.{CellAt}
use Rattle.release_steps.specs.domain_base.declared.place.Home.{Home}
use Rattle.release_steps.specs.domain_base.declared.place.Tag.{Tag}
use Rattle.release_steps.specs.page_store.Bitfiles.{same_tag}
use Rattle.release_steps.specs.page_store.Pages.{Pages}
use Rattle.release_steps.specs.cell_records.declared.record.Record.TheVariants as written
use Rattle.release_steps.specs.cell_records.declared.record.Leftover.TheVariants.{Remove}
use Rattle.release_steps.specs.metadata_cells.CellPage.{cell_at}
use Rattle.release_steps.specs.metadata_cells.Chain.{LeavesOthers, PlacedCell, is_at}
use Rattle.release_steps.specs.tag_dirs.declared.dir.TagPlace.{TagPlace}
use Rattle.release_steps.specs.tag_dirs.Directory.{cell_of}
use Rattle.release_steps.specs.extent_maps.declared.run.PagePlace.TheVariants.{At}
use Rattle.release_steps.specs.extent_maps.Runs.{place_of}
use Rattle.release_steps.specs.free_cells.Cells.{Cells}
use Rattle.release_steps.specs.free_space.Spaces.{Spaces}
use Rattle.release_steps.specs.file_chains.Allocated.{AreAllocated}
use Rattle.release_steps.specs.file_chains.Files.{AreFile, IsFile, places_of}
use Rattle.release_steps.specs.fileset_files.Changes.{ChangesBeside, is_first, says_removed, with_first, without_chain}
use Rattle.release_steps.specs.fileset_files.Files.{AreApart, Chains, HasFirstKinds}
use Rattle.release_steps.specs.fileset_files.Together.{AreTogether}
use Rattle.release_steps.proofs.OfFilesetFiles.FirstRoom.{kinds_replaced}
use Rattle.release_steps.proofs.OfFilesetFiles.FirstTogether.{runs_kept}
use Rattle.release_steps.proofs.OfFilesetFiles.RemovedTogether.{removed_keeps}
use Rattle.std.proofs.lemmas.Bool.{true≢false}
use Rattle.release_steps.proofs.OfFilesetFiles.OneChain.{same_tag_itself}
use Rattle.release_steps.proofs.OfReleaseList.Standings.{file_beside}
use Rattle.release_tables.specs.Going.{IsGoing}
use Rattle.release_tables.specs.Pairs.{AreTwo}
use Rattle.release_tables.proofs.Goings.{file_in, led, on_tables, once, placed}

module _ (first between last : Pages) (fileset : ℕ) (places : List TagPlace) (space : Spaces) (cells : Cells) (file clone : Tag) (differ : same_tag file clone ≡ false) (chains : Chains) (are : AreTogether fileset places space cells first chains)
    (allocated : AreAllocated space cells last) (at clone_at : CellAt) (clone_is : IsSomeAnd (chains clone) (λ cs. IsFile between clone_at (with_first says_removed cs))) (file_is : IsSomeAnd (without_chain clone chains file) (λ cs. IsFile last at (with_first says_removed cs)))
    (places_now : List TagPlace) (beside : ChangesBeside places_now (without_chain clone chains file) between last) where
  still : without_chain clone chains file ≡ chains file
  still = ap (λ (b : Bool). cond b None (chains file)) differ

  -- one of the two
  module _ (tag : Tag) (f : PlacedCell) (r : List PlacedCell) (is : chains tag ≡ Some (f ∷ r)) (a : CellAt) (stands : IsFile last a (with_first says_removed (f ∷ r))) where
    was : AreFile first f r
    was = file_in first f r (cell_of first places tag) (led first fileset places space cells tag chains are (f ∷ r) is).leads

    same : (p : ℕ) → places_of (with_first says_removed (f ∷ r)) p ≡ places_of (f ∷ r) p
    same p = ap (λ rs. place_of rs p) (runs_kept says_removed f r (removed_keeps first f r was))

    going : IsGoing space cells last a (with_first says_removed (f ∷ r))
    going = record {
      allocated = allocated;
      file = stands;
      on_tables = on_tables first fileset places space cells tag chains are (f ∷ r) is;
      held = λ p home there. (are.file_pages tag p home (placed chains tag (f ∷ r) p is ∙ sym (same p) ∙ there)).apart;
      once = λ p q home at_p at_q. once first fileset places space cells tag chains are (f ∷ r) is p q home (sym (same p) ∙ at_p) (sym (same q) ∙ at_q);
    }

    removed_kinds : HasFirstKinds (with_first says_removed (f ∷ r))
    removed_kinds = kinds_replaced 6 (Some (written.Pending Remove)) f.cell.records (led first fileset places space cells tag chains are (f ∷ r) is).kinds refl

  module _ (f : PlacedCell) (r : List PlacedCell) (is : chains file ≡ Some (f ∷ r)) (g : PlacedCell) (s : List PlacedCell) (is_g : chains clone ≡ Some (g ∷ s)) (stands : IsFile last at (with_first says_removed (f ∷ r)))
      (stood : IsFile between clone_at (with_first says_removed (g ∷ s))) where
    apart : AreApart (f ∷ r) (g ∷ s)
    apart = subst (λ o. IfSome o (AreApart (f ∷ r))) is_g (subst (λ o. IfSome o (λ xs. IfSome (chains clone) (AreApart xs))) is (are.files.apart file clone differ))

    leaves : LeavesOthers (is_at f.at) between last
    leaves = subst (λ o. IfSome o (λ cells. (q : CellAt) → is_first q cells ≡ false → cell_at last q ≡ cell_at between q)) (still ∙ is) beside.cells

    stands_g : IsFile last clone_at (with_first says_removed (g ∷ s))
    stands_g = file_beside between last f.at clone_at (with_first says_removed (g ∷ s)) leaves (λ inside. apart f.at (0, omega arith, refl) inside) stood

    not_both : (p q : ℕ) (home : Home) → places_of (with_first says_removed (f ∷ r)) p ≡ At home → ¬ places_of (with_first says_removed (g ∷ s)) q ≡ At home
    not_both p q home there there_q =
        let same_tags = (are.once file clone p q home
        (placed chains file (f ∷ r) p is ∙ sym (same file f r is at stands p) ∙ there)
        (placed chains clone (g ∷ s) q is_g ∙ sym (same clone g s is_g clone_at stands_g q) ∙ there_q)).0 in
        true≢false (sym (same_tag_itself clone) ∙ ap (λ (t : Tag). same_tag t clone) (sym same_tags) ∙ differ)

    two : AreTwo space cells last at clone_at (with_first says_removed (f ∷ r)) (with_first says_removed (g ∷ s))
    two = record {
      file = going file f r is at stands;
      reader = going clone g s is_g clone_at stands_g;
      apart = apart;
      not_own = not_both;
      kinds = removed_kinds clone g s is_g clone_at stands_g;
    }

  pub two_removed : (chain : List PlacedCell) × (own : List PlacedCell) × AreTwo space cells last at clone_at chain own
  two_removed = by_file (chains file) refl (subst (λ o. IsSomeAnd o (λ cs. IsFile last at (with_first says_removed cs))) still file_is) (chains clone) refl clone_is
    where
      by_file : (o : Option (List PlacedCell)) → chains file ≡ o → IsSomeAnd o (λ cs. IsFile last at (with_first says_removed cs)) → (p : Option (List PlacedCell)) → chains clone ≡ p → IsSomeAnd p (λ cs. IsFile between clone_at (with_first says_removed cs))
          → (chain : List PlacedCell) × (own : List PlacedCell) × AreTwo space cells last at clone_at chain own
      by_file None is stands p is_p stood = absurd stands
      by_file (Some []) is stands p is_p stood = absurd stands
      by_file (Some (f ∷ r)) is stands None is_p stood = absurd stood
      by_file (Some (f ∷ r)) is stands (Some []) is_p stood = absurd stood
      by_file (Some (f ∷ r)) is stands (Some (g ∷ s)) is_p stood = (_, _, two f r is g s is_p stands stood)
