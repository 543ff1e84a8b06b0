-- What becomes of the cells of a chain of which something is let go of.
use Rattle.std.proofs.Common.{◌≡◌, ◌∙◌, ◌⊎◌, inl, inr, zero, suc, List, [], ◌∷◌, Option, Some, None, Contains, refl, sym, ap, subst, arith}
use Rattle.std.specs.Option.{option_and_then}
use Rattle.standing_laws.specs.domain_base.declared.place.CellAt.{CellAt}
use Rattle.standing_laws.specs.page_store.Pages.{Pages}
use Rattle.standing_laws.specs.cell_records.declared.record.Leftover.TheVariants.{Trim}
use Rattle.standing_laws.specs.metadata_cells.declared.head.CellKind.{CellKind}
use Rattle.standing_laws.specs.metadata_cells.declared.head.CellKind.TheVariants.{Chain, Primary, Quota}
use Rattle.standing_laws.specs.metadata_cells.Cell.{record_of}
use Rattle.standing_laws.specs.metadata_cells.Chain.{PlacedCell, places}
use Rattle.standing_laws.specs.file_chains.FileChanges.{KeepKinds, SameFirst, map_kinds}
use Rattle.standing_laws.specs.file_chains.Files.{AreFile, IsFile, IsMapCell}
use Rattle.standing_laws.proofs.OfFileChains.ChainChanges.{inside_places}
use Rattle.standing_laws.specs.fileset_files.Changes.{with_first}
use Rattle.standing_laws.specs.release_list.Listed.{left_of, leftover_in}
use Rattle.standing_laws.specs.release_list.Standing.{IsFileOrQuotas, IsQuotas}
use Rattle.standing_laws.specs.release_list.Steps.{leads_to, says_trimmed}
use Rattle.standing_laws.proofs.OfReleaseList.Standings.{trim_file}
use Rattle.standing_laws.proofs.CellsNow.{all_in, later_chain, placed}

-- ---- what becomes of a cell

-- a first cell says where other pages stand, in a record of the same kind, or leads to another cell
pub record IsLess (b c : PlacedCell) : Type 0 where
  pub first : ¬ c.cell.head.kind ≡ Chain
  pub same : SameFirst (b ∷ []) (c ∷ [])

-- it says that nothing is left to be done, where pages were to go
pub record IsTrimmed (b c : PlacedCell) : Type 0 where
  pub first : ¬ c.cell.head.kind ≡ Chain
  pub at : c.at ≡ b.at
  pub is : c.cell ≡ says_trimmed b.cell
  pub left : option_and_then leftover_in (record_of 6 b.cell.records) ≡ Some Trim

-- a later cell of a file says where other pages stand, in a record of the same kind
pub record IsLater (b c : PlacedCell) : Type 0 where
  pub at : c.at ≡ b.at
  pub was_chain : b.cell.head.kind ≡ Chain
  pub chain : c.cell.head.kind ≡ Chain
  pub was_map : IsMapCell b.cell
  pub map : IsMapCell c.cell
  pub kinds : map_kinds c.cell.records ≡ map_kinds b.cell.records

pub data FirstGoes (b c : PlacedCell) : Type 0 where
  stays : c ≡ b → FirstGoes b c
  shorter : IsLess b c → FirstGoes b c
  trims : IsTrimmed b c → FirstGoes b c

abbrev pub CellGoes : PlacedCell → PlacedCell → Type 0
CellGoes b c = FirstGoes b c ⊎ IsLater b c

-- of chains
abbrev pub FirstsGo : List PlacedCell → List PlacedCell → Type 0
FirstsGo chain [] = Unit {0}
FirstsGo [] (c ∷ cs) = ⊥
FirstsGo (b ∷ bs) (c ∷ cs) = FirstGoes b c

pub record CellsGo (chain after : List PlacedCell) : Type 0 where
  pub each : (c : PlacedCell) → Contains after c → (b : PlacedCell) × Contains chain b × (c.at ≡ b.at) × CellGoes b c
  pub firsts : FirstsGo chain after

-- ---- pages go

not_chain : (k : CellKind) → k ≡ Primary → ¬ k ≡ Chain
not_chain k primary chain = let e : Primary ≡ Chain = sym primary ∙ chain in absurd (cc)

module _ (old new : Pages) (a : PlacedCell) (xs : List PlacedCell) (f : PlacedCell) (r : List PlacedCell) (file : AreFile old a xs) (file_now : AreFile new f r) (same : SameFirst (a ∷ xs) (f ∷ r)) (kinds : KeepKinds (a ∷ xs) (f ∷ r)) (within : (c : PlacedCell) → Contains (f ∷ r) c → Contains (places (a ∷ xs)) c.at) where
  first_goes : FirstGoes a f
  first_goes = shorter (record { first = not_chain f.cell.head.kind file_now.primary; same = same })

  later_goes : (c : PlacedCell) → Contains r c → (b : PlacedCell) × Contains (a ∷ xs) b × (c.at ≡ b.at) × CellGoes b c
  later_goes c inside = by_place b.0 b.1 b.2
    where
      in_after : Contains (f ∷ r) c
      in_after = (suc inside.0, omega (arith, inside.1), inside.2)

      b : (b : PlacedCell) × Contains (a ∷ xs) b × (b.at ≡ c.at)
      b = placed (a ∷ xs) c.at (within c in_after)

      by_place : (b : PlacedCell) → Contains (a ∷ xs) b → b.at ≡ c.at → (b : PlacedCell) × Contains (a ∷ xs) b × (c.at ≡ b.at) × CellGoes b c
      by_place b (zero, less, is) at =
          let first : f.at ≡ c.at = same.0 ∙ ap (λ (x : PlacedCell). x.at) is ∙ at in
          absurd (file_now.links.distinct.0 (subst (Contains (places r)) (sym first) (inside_places r c inside)))
      by_place b (suc k, less, is) at =
          let among : Contains xs b = (k, omega (arith, less), is) in (
            b,
            (suc k, less, is),
            sym at,
            inr (record {
              at = sym at;
              was_chain = all_in (λ (x : PlacedCell). x.cell.head.kind ≡ Chain) xs (later_chain old a.cell.head xs (inl file.primary) file.links.follow) b among;
              chain = all_in (λ (x : PlacedCell). x.cell.head.kind ≡ Chain) r (later_chain new f.cell.head r (inl file_now.primary) file_now.links.follow) c inside;
              was_map = all_in (λ (x : PlacedCell). IsMapCell x.cell) xs file.others b among;
              map = all_in (λ (x : PlacedCell). IsMapCell x.cell) r file_now.others c inside;
              kinds = kinds b c (suc k, less, is) in_after (sym at);
            }),
          )

  lets_each : (c : PlacedCell) → Contains (f ∷ r) c → (b : PlacedCell) × Contains (a ∷ xs) b × (c.at ≡ b.at) × CellGoes b c
  lets_each c (zero, less, is) = subst (λ (c : PlacedCell). (b : PlacedCell) × Contains (a ∷ xs) b × (c.at ≡ b.at) × CellGoes b c) is (a, (0, omega arith, refl), same.0, inl first_goes)
  lets_each c (suc k, less, is) = later_goes c (k, omega (arith, less), is)

pub lets_cells : (old new : Pages) (start : CellAt) (chain after : List PlacedCell) → IsFile old start chain → IsFile new start after → SameFirst chain after → KeepKinds chain after → ((q : CellAt) → Contains (places after) q → Contains (places chain) q) → CellsGo chain after
lets_cells old new start [] after file file_now same kinds within = absurd file
lets_cells old new start (a ∷ xs) [] file file_now same kinds within = absurd file_now
lets_cells old new start (a ∷ xs) (f ∷ r) file file_now same kinds within = record {
  each = lets_each old new a xs f r file.1 file_now.1 same kinds (λ c inside. within c.at (inside_places (f ∷ r) c inside));
  firsts = first_goes old new a xs f r file.1 file_now.1 same kinds (λ c inside. within c.at (inside_places (f ∷ r) c inside));
}

-- ---- a quota cell goes

quota_not_chain : (k : CellKind) → k ≡ Quota → ¬ k ≡ Chain
quota_not_chain k quota chain = let e : Quota ≡ Chain = sym quota ∙ chain in absurd (cc)

pub quota_cells : (old : Pages) (at : CellAt) (first second : PlacedCell) (rest : List PlacedCell) → IsQuotas old at (first ∷ second ∷ rest) → (next : Option CellAt) → CellsGo (first ∷ second ∷ rest) (leads_to next first ∷ rest)
quota_cells old at first second rest quotas next = record { each = each; firsts = goes }
  where
    goes : FirstGoes first (leads_to next first)
    goes = shorter (record { first = quota_not_chain first.cell.head.kind quotas.1.cells.0.kind; same = (refl, refl, refl, refl) })

    each : (c : PlacedCell) → Contains (leads_to next first ∷ rest) c → (b : PlacedCell) × Contains (first ∷ second ∷ rest) b × (c.at ≡ b.at) × CellGoes b c
    each c (zero, less, is) = subst (λ (c : PlacedCell). (b : PlacedCell) × Contains (first ∷ second ∷ rest) b × (c.at ≡ b.at) × CellGoes b c) is (first, (0, omega arith, refl), refl, inl goes)
    each c (suc k, less, is) = (c, (suc (suc k), omega (arith, less), is), refl, inl (stays refl))

-- ---- nothing is stale any more

pub trim_cells : (old : Pages) (at : CellAt) (chain : List PlacedCell) → IsFileOrQuotas old at chain → left_of chain ≡ Some Trim → CellsGo chain (with_first says_trimmed chain)
trim_cells old at [] is left = absurd (let e : None ≡ Some Trim = left in cc)
trim_cells old at (first ∷ rest) is left = record { each = each; firsts = goes }
  where
    file : IsFile old at (first ∷ rest)
    file = trim_file old at (first ∷ rest) is left

    goes : FirstGoes first (record { at = first.at; cell = says_trimmed first.cell })
    goes = trims (record { first = not_chain first.cell.head.kind file.1.primary; at = refl; is = refl; left = left })

    each : (c : PlacedCell) → Contains (record { at = first.at; cell = says_trimmed first.cell } ∷ rest) c → (b : PlacedCell) × Contains (first ∷ rest) b × (c.at ≡ b.at) × CellGoes b c
    each c (zero, less, is) = subst (λ (c : PlacedCell). (b : PlacedCell) × Contains (first ∷ rest) b × (c.at ≡ b.at) × CellGoes b c) is (first, (0, omega arith, refl), refl, inl goes)
    each c (suc k, less, is) = (c, (suc k, omega (arith, less), is), refl, inl (stays refl))

-- ---- nothing is left

pub no_cells : (chain : List PlacedCell) → CellsGo chain []
no_cells chain = record { each = λ c inside. absurd (omega (arith, inside.1)); firsts = tt }
