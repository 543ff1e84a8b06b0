-- What a tag's file has, by the cell that its tag leads to.
use Rattle.std.proofs.Common.{◌≡◌, ◌∙◌, ℕ, Bool, true, false, cond, is_some, List, Option, Some, None, IfNone, IfSome, IsSome, IsSomeAnd, refl, sym, ap, subst}
use Rattle.std.proofs.lemmas.Bool.{true≢false}
use Rattle.std.specs.Option.{option_and_then}
use Rattle.file_chains.specs.domain_base.declared.place.CellAt.{CellAt}
use Rattle.file_chains.specs.domain_base.declared.place.Tag.{Tag}
use Rattle.file_chains.specs.page_store.Pages.{Pages}
use Rattle.file_chains.specs.metadata_cells.Chain.{PlacedCell}
use Rattle.file_chains.specs.Files.{IsFile}
use Rattle.tag_dirs.specs.declared.dir.TagPlace.{TagPlace}
use Rattle.tag_dirs.specs.Directory.{IsOnPage, cell_of}
use Rattle.fileset_files.specs.Files.{AreFiles, Chains, IsFirstUnless, IsLiveCell, LeadsToFile, is_removed, of_live}

-- a file that is not to be removed, whose chain begins at that cell
pub record LiveAt {X : Type 0} (what : List PlacedCell → Option X) (pages : Pages) (at : CellAt) (chain : Option (List PlacedCell)) : Type 0 where
  pub cells : List PlacedCell
  pub is : chain ≡ Some cells
  pub is_file : IsFile pages at cells
  pub has : option_and_then (of_live what) chain ≡ what cells

some_is_none : (at : CellAt) → Some at ≡ None → ⊥
some_is_none at e = cc

module _ {X : Type 0} (what : List PlacedCell → Option X) (pages : Pages) where
  pub live_none : (chain : Option (List PlacedCell)) → IsLiveCell pages chain None → None ≡ option_and_then (of_live what) chain
  live_none None live = refl
  live_none (Some cells) live = by_removed (is_removed cells) live
    where
      by_removed : (b : Bool) → IsFirstUnless b pages cells None → None ≡ cond b None (what cells)
      by_removed true live = refl
      by_removed false live = absurd live

  pub live_some : (chain : Option (List PlacedCell)) (at : CellAt) → IsLiveCell pages chain (Some at) → LiveAt what pages at chain
  live_some None at live = absurd (some_is_none at live)
  live_some (Some cells) at live = by_removed (is_removed cells) refl live
    where
      by_removed : (b : Bool) → is_removed cells ≡ b → IsFirstUnless b pages cells (Some at) → LiveAt what pages at (Some cells)
      by_removed true is live = absurd (some_is_none at live)
      by_removed false is live = record { cells = cells; is = refl; is_file = live; has = ap (λ (b : Bool). cond b None (what cells)) is }

-- ---- tags in use

module _ (fileset : ℕ) (places : List TagPlace) (pages : Pages) (chains : Chains) (are : AreFiles fileset places pages chains) where
  -- one names a file
  named : (t : Tag) → IsSome (cell_of pages places t) → IsSome (chains t)
  named t used = by_chain (chains t) refl
    where
      by_chain : (o : Option (List PlacedCell)) → chains t ≡ o → IsSome o
      by_chain None none = absurd (true≢false (sym used ∙ ap is_some (are.none t none)))
      by_chain (Some cells) is = refl

  -- and one that is not names none
  unnamed : (t : Tag) → cell_of pages places t ≡ None → chains t ≡ None
  unnamed t free = by_chain (chains t) refl (are.some t)
    where
      by_chain : (o : Option (List PlacedCell)) → chains t ≡ o → IfSome o (LeadsToFile fileset places pages t) → o ≡ None
      by_chain None is leads = refl
      by_chain (Some cells) is leads = absurd (subst (λ o. IsSomeAnd o (λ at. IsFile pages at cells)) free leads.leads)

  pub each_named : (o : Option Tag) → IfSome o (λ t. IsSome (cell_of pages places t)) → IfSome o (λ t. IsSome (chains t))
  each_named None used = tt
  each_named (Some t) used = named t used

pub none_named : (fileset : ℕ) (places : List TagPlace) (number : ℕ) (pages : Pages) (chains : Chains) → AreFiles fileset places pages chains → (o : Option Tag) → IfNone o ((t : Tag) → IsOnPage places number t → cell_of pages places t ≡ None)
    → IfNone o ((t : Tag) → IsOnPage places number t → chains t ≡ None)
none_named fileset places number pages chains are None free = λ t on. unnamed fileset places pages chains are t (free t on)
none_named fileset places number pages chains are (Some t) free = tt
