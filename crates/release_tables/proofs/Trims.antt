-- Two files: the name of one was taken, and the other was cut.
use Rattle.std.proofs.Common.{◌≡◌, ◌∙◌, ℕ, Bool, false, cond, List, [], ◌∷◌, Option, Some, None, IfSome, IsSomeAnd, refl, sym, ap, subst, arith}
use Rattle.std.specs.Option.{option_map}
use Rattle.std.proofs.lemmas.Bool.{true≢false}
use Rattle.release_steps.specs.domain_base.declared.place.CellAt.{CellAt}
use Rattle.release_steps.specs.domain_base.declared.place.Home.{Home}
use Rattle.release_steps.specs.domain_base.declared.place.Tag.{Tag}
use Rattle.release_steps.specs.page_store.Bitfiles.{same_tag}
use Rattle.release_steps.specs.page_store.Pages.{Pages}
use Rattle.release_steps.specs.cell_records.declared.record.Record.TheVariants as written
use Rattle.release_steps.specs.cell_records.declared.record.Leftover.TheVariants.{Remove}
use Rattle.release_steps.specs.metadata_cells.Chain.{LeavesOthers, PlacedCell, is_at}
use Rattle.release_steps.specs.tag_dirs.declared.dir.TagPlace.{TagPlace}
use Rattle.release_steps.specs.tag_dirs.Directory.{cell_of}
use Rattle.release_steps.specs.extent_maps.declared.run.PagePlace.TheVariants.{At}
use Rattle.release_steps.specs.extent_maps.Runs.{place_of}
use Rattle.release_steps.specs.free_cells.Cells.{Cells}
use Rattle.release_steps.specs.free_space.Spaces.{Spaces}
use Rattle.release_steps.specs.file_chains.Files.{AreFile, IsFile, places_of}
use Rattle.release_steps.specs.fileset_files.Changes.{ChangesFirst, says_removed, with_chain, with_first, without_chain}
use Rattle.release_steps.specs.fileset_files.Files.{AreApart, Chains}
use Rattle.release_steps.specs.fileset_files.Together.{AreTogether}
use Rattle.release_steps.specs.fileset_files.Truncation.{Truncates, TruncatesTogether, pending_cell, says_truncated}
use Rattle.release_steps.proofs.OfFilesetFiles.Created.{one_chains}
use Rattle.release_steps.proofs.OfFilesetFiles.FirstRoom.{kinds_replaced}
use Rattle.release_steps.proofs.OfFilesetFiles.FirstTogether.{runs_kept, truncated_keeps}
use Rattle.release_steps.proofs.OfFilesetFiles.OneChain.{chain_same, same_tag_itself}
use Rattle.release_steps.proofs.OfFilesetFiles.RemovedTogether.{removed_keeps}
use Rattle.release_steps.proofs.OfReleaseList.Standings.{file_beside}
use Rattle.release_tables.specs.Going.{IsGoing}
use Rattle.release_tables.specs.Pairs.{AreTwo}
use Rattle.release_tables.proofs.Goings.{file_in, led, live_going, on_tables, once, placed}

module _ (first between last : Pages) (fileset : ℕ) (places : List TagPlace) (space : Spaces) (cells : Cells) (file clone : Tag) (differ : same_tag file clone ≡ false) (chains : Chains) (are : AreTogether fileset places space cells first chains)
    (at clone_at : CellAt) (clone_is : IsSomeAnd (chains clone) (λ cs. IsFile between clone_at (with_first says_removed cs))) (size fileset_now : ℕ) (places_now : List TagPlace) (cuts : Truncates fileset_now places_now file size (Some at) (without_chain clone chains) last)
    (together : TruncatesTogether fileset_now places_now file size space cells (without_chain clone chains) last) (beside : ChangesFirst (without_chain clone chains file) between last) where
  still : without_chain clone chains file ≡ chains file
  still = ap (λ (b : Bool). cond b None (chains file)) differ

  abbrev says : List PlacedCell → List PlacedCell
  says cs = with_first (says_truncated size cuts.lowered) cs

  abbrev now : Chains
  now = with_chain file (with_first (says_truncated size together.lowered)) (without_chain clone chains)

  was : (tag : Tag) (f : PlacedCell) (r : List PlacedCell) → chains tag ≡ Some (f ∷ r) → AreFile first f r
  was tag f r is = file_in first f r (cell_of first places tag) (led first fileset places space cells tag chains are (f ∷ r) is).leads

  module _ (f : PlacedCell) (r : List PlacedCell) (is : chains file ≡ Some (f ∷ r)) (g : PlacedCell) (s : List PlacedCell) (is_g : chains clone ≡ Some (g ∷ s)) (stood : IsFile between clone_at (with_first says_removed (g ∷ s))) where
    pending : Some at ≡ pending_cell (says (f ∷ r))
    pending = subst (λ o. IsSomeAnd o (λ chain. Some at ≡ pending_cell (with_first (says_truncated size cuts.lowered) chain))) (still ∙ is) cuts.pending

    cut_going : IsGoing space cells last at (says (f ∷ r))
    cut_going = live_going last fileset_now places_now space cells file now together.together at (says (f ∷ r))
        (one_chains last fileset_now places_now now (with_chain file (with_first (says_truncated size cuts.lowered)) (without_chain clone chains)) together.together.files cuts.files file
        ∙ chain_same file (with_first (says_truncated size cuts.lowered)) (without_chain clone chains) file (same_tag_itself file) ∙ ap (option_map (with_first (says_truncated size cuts.lowered))) (still ∙ is))
        pending

    apart : AreApart (f ∷ r) (g ∷ s)
    apart = subst (λ o. IfSome o (AreApart (f ∷ r))) is_g (subst (λ o. IfSome o (λ xs. IfSome (chains clone) (AreApart xs))) is (are.files.apart file clone differ))

    leaves : LeavesOthers (is_at f.at) between last
    leaves = (subst (λ o. ChangesFirst o between last) (still ∙ is) beside).0

    same_f : (p : ℕ) → places_of (says (f ∷ r)) p ≡ places_of (f ∷ r) p
    same_f p = ap (λ rs. place_of rs p) (runs_kept (says_truncated size cuts.lowered) f r (truncated_keeps first f r (was file f r is) size cuts.lowered))

    same_g : (p : ℕ) → places_of (with_first says_removed (g ∷ s)) p ≡ places_of (g ∷ s) p
    same_g p = ap (λ rs. place_of rs p) (runs_kept says_removed g s (removed_keeps first g s (was clone g s is_g)))

    clone_going : IsGoing space cells last clone_at (with_first says_removed (g ∷ s))
    clone_going = record {
      allocated = together.together.allocated;
      file = file_beside between last f.at clone_at (with_first says_removed (g ∷ s)) leaves (λ inside. apart f.at (0, omega arith, refl) inside) stood;
      on_tables = on_tables first fileset places space cells clone chains are (g ∷ s) is_g;
      held = λ p home there. (are.file_pages clone p home (placed chains clone (g ∷ s) p is_g ∙ sym (same_g p) ∙ there)).apart;
      once = λ p q home at_p at_q. once first fileset places space cells clone chains are (g ∷ s) is_g p q home (sym (same_g p) ∙ at_p) (sym (same_g q) ∙ at_q);
    }

    not_both : (p q : ℕ) (home : Home) → places_of (says (f ∷ r)) p ≡ At home → ¬ places_of (with_first says_removed (g ∷ s)) q ≡ At home
    not_both p q home there there_q =
        let same_tags = (are.once file clone p q home (placed chains file (f ∷ r) p is ∙ sym (same_f p) ∙ there) (placed chains clone (g ∷ s) q is_g ∙ sym (same_g q) ∙ there_q)).0 in
        true≢false (sym (same_tag_itself clone) ∙ ap (λ (t : Tag). same_tag t clone) (sym same_tags) ∙ differ)

    two : AreTwo space cells last at clone_at (says (f ∷ r)) (with_first says_removed (g ∷ s))
    two = record {
      file = cut_going;
      reader = clone_going;
      apart = apart;
      not_own = not_both;
      kinds = kinds_replaced 6 (Some (written.Pending Remove)) g.cell.records (led first fileset places space cells clone chains are (g ∷ s) is_g).kinds refl;
    }

  pub two_cut : (chain : List PlacedCell) × (own : List PlacedCell) × AreTwo space cells last at clone_at chain own
  two_cut = by_file (chains file) refl (subst (λ o. IsSomeAnd o (λ chain. Some at ≡ pending_cell (with_first (says_truncated size cuts.lowered) chain))) still cuts.pending) (chains clone) refl clone_is
    where
      by_file : (o : Option (List PlacedCell)) → chains file ≡ o → IsSomeAnd o (λ chain. Some at ≡ pending_cell (with_first (says_truncated size cuts.lowered) chain)) → (p : Option (List PlacedCell)) → chains clone ≡ p → IsSomeAnd p (λ cs. IsFile between clone_at (with_first says_removed cs))
          → (chain : List PlacedCell) × (own : List PlacedCell) × AreTwo space cells last at clone_at chain own
      by_file None is said p is_p stood = absurd said
      by_file (Some []) is said p is_p stood = absurd (let e : Some at ≡ None = said in cc)
      by_file (Some (f ∷ r)) is said None is_p stood = absurd stood
      by_file (Some (f ∷ r)) is said (Some []) is_p stood = absurd stood
      by_file (Some (f ∷ r)) is said (Some (g ∷ s)) is_p stood = (_, _, two f r is g s is_p stood)
