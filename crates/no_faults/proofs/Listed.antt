-- What first cells say to be left to do is on the list of a domain that was read, and nothing else.
use Rattle.std.proofs.Common.{◌≡◌, ◌∙◌, inl, ℕ, zero, suc, ◌<◌, List, [], ◌∷◌, length, Option, Some, None, IsSome, Contains, get_or, refl, sym, ap, subst, arith, ⊎_elim}
use Rattle.std.proofs.lemmas.Bool.{true≢false}
use Rattle.std.specs.Option.{option_and_then}
use Rattle.domain_memory.specs.domain_base.declared.place.CellAt.{CellAt}
use Rattle.domain_memory.specs.cell_records.declared.record.Record.{Record}
use Rattle.domain_memory.specs.metadata_cells.Cell.{Cell, record_of}
use Rattle.domain_memory.specs.metadata_cells.Chain.{PlacedCell}
use Rattle.domain_memory.proofs.OfMetadataCells.Unique.{one_stands}
use Rattle.domain_memory.specs.file_chains.Files.{IsFile}
use Rattle.domain_memory.specs.fileset_files.Files.{first_record}
use Rattle.domain_memory.specs.file_release.Releases.{AreAllOnce}
use Rattle.domain_memory.specs.release_list.Listed.{IsEntry, IsListed, leftover_in, left_of}
use Rattle.domain_memory.specs.release_list.declared.list.Entry.{Entry}
use Rattle.domain_memory.proofs.OfReleaseList.Standings.{quota_first}
use Rattle.domain_memory.specs.domain_layout.Owners.{IsOnTable}
use Rattle.domain_memory.specs.domain_standing.Chains.{IsOnList, IsToDo}
use Rattle.domain_memory.specs.domain_standing.Domain.{DomainNow, layout_of}
use Rattle.no_faults.specs.Attached.{IsReadFrom}
use Rattle.no_faults.specs.ToDo.{IsLeftToDo}
use Rattle.no_faults.proofs.Begun.{nowhere}
use Rattle.no_faults.proofs.Domain.{Chain, chain_at, chain_there, fault, files, quotas, small}
use Rattle.no_faults.proofs.ListPages.{reads_none}
use Rattle.no_faults.proofs.Searched.{in_front}
use Rattle.no_faults.proofs.Standing.{is_as}

pub at_place : {X : Type 0} (xs : List X) (k : ℕ) (x : X) → k < length xs → Contains xs (get_or xs k x)
at_place [] k x within = absurd (omega (arith, within))
at_place (y ∷ ys) zero x within = (0, omega arith, refl)
at_place (y ∷ ys) (suc k) x within = in_front y (get_or ys k x) ys (at_place ys k x (omega (arith, within)))

pub not_in : {P X : Type 0} (xs : List X) (x : X) → xs ≡ [] → Contains xs x → P
not_in xs x none (k, within, is) = let e : length xs ≡ 0 = ap length none in absurd (omega (arith, e, within))

some_by : {X : Type 0} (o : Option X) (x : X) → o ≡ Some x → IsSome o
some_by o x is = subst IsSome (sym is) refl

module _ (d : DomainNow) (is : IsReadFrom d) where
  -- the first cell of a chain is the one that stands where it begins
  pub first_is : (at : CellAt) (chain : List PlacedCell) → files d is at ≡ Some chain → (cell : Cell) → IsOnTable d.pages (layout_of d) at cell → (k : ℕ) → first_record k chain ≡ record_of k cell.records
  first_is at chain there cell on k =
      let c = chain_at d is at chain there in
      let same : c.first.cell ≡ cell = one_stands d.pages at c.first.cell cell (subst (λ a. IsOnTable d.pages (layout_of d) a c.first.cell) c.at_is c.on_way.0.on).stands on.stands in
      ap (first_record k) c.all ∙ ap (λ (x : Cell). record_of k x.records) same

  -- ---- a first cell that says something has a chain

  pub record HasChain (at : CellAt) (left : IsLeftToDo d.pages (layout_of d) at) : Type 0 where
    pub chain : List PlacedCell
    pub there : files d is at ≡ Some chain
    pub record_is : first_record 6 chain ≡ record_of 6 left.cell.records

  pub has_chain : (at : CellAt) (left : IsLeftToDo d.pages (layout_of d) at) → HasChain at left
  has_chain at left =
      let found = chain_there d is at (record { cell = left.cell; on = left.on; kind = inl left.kind }) in
      record { chain = found.0; there = found.1; record_is = first_is at found.0 found.1 left.cell left.on 6 }

  -- ---- the list

  entry_is : (entry : Entry) → Contains d.list.entries entry → IsEntry (files d is) entry
  entry_is entry among =
      let only = is.list.only entry among in
      let has = has_chain entry.at only.0 in
      record {
        there = some_by (files d is entry.at) has.chain has.there;
        says = inl (subst IsSome (sym (ap (option_and_then (first_record 6)) has.there ∙ has.record_is)) (some_record (record_of 6 only.0.cell.records) only.0.says));
        given = λ clone given. nowhere clone (sym only.1 ∙ given);
        all = λ clone reads. absurd (reads_none d is clone entry.at reads);
      }
    where
      some_record : (o : Option Record) → IsSome (option_and_then leftover_in o) → IsSome o
      some_record None some = absurd (true≢false (sym some))
      some_record (Some r) some = refl

  pub listed : IsListed d.space d.cells (files d is) d.list
  listed = record {
    each = entry_is;
    once = is.list.once;
    order = λ i j e below_i below_j given.
        nowhere (get_or d.list.entries j e).at (sym (is.list.only (get_or d.list.entries i e) (at_place d.list.entries i e below_i)).1 ∙ given);
    pages_once = subst AreAllOnce (sym is.list.no_tags) tt;
    pages_low = λ home among. not_in d.list.tag_pages home is.list.no_tags among;
    pages_held = λ home among. not_in d.list.tag_pages home is.list.no_tags among;
    pages_apart = λ home among at page. not_in d.list.tag_pages home is.list.no_tags among;
  }

  pub on_list : (at : CellAt) → IsToDo (files d is) at → IsOnList d at
  on_list at to_do = by_chain (files d is at) refl to_do
    where
      of_chain : (chain : List PlacedCell) → files d is at ≡ Some chain → IsSome (left_of chain) → IsOnList d at
      of_chain chain there some =
          ⊎_elim (λ file. of_file (subst (IsFile d.pages at) c.all file.0))
          (λ quota. absurd (none_some (first_record 6 chain) (quota_first d.pages at chain quota.0 6 (λ e. omega (arith, e)) (λ e. omega (arith, e))) some))
          (is_as d.pages (layout_of d) is.tables.laid (fault d is) (small d is) (quotas d is) at chain there).is
        where
          c : Chain d is at chain
          c = chain_at d is at chain there

          none_some : (o : Option Record) → o ≡ None → IsSome (option_and_then leftover_in o) → ⊥
          none_some None none some = true≢false (sym some)
          none_some (Some r) none some = nowhere r (sym none)

          of_file : IsFile d.pages at (c.first ∷ c.rest) → IsOnList d at
          of_file file = is.list.all at (record {
            cell = c.first.cell;
            on = subst (λ a. IsOnTable d.pages (layout_of d) a c.first.cell) c.at_is c.on_way.0.on;
            kind = file.1.primary;
            says = subst (λ cs. IsSome (left_of cs)) c.all some;
          })

      by_chain : (o : Option (List PlacedCell)) → files d is at ≡ o → IsSome (option_and_then left_of o) → IsOnList d at
      by_chain None there some = absurd (true≢false (sym some))
      by_chain (Some chain) there some = of_chain chain there some

  pub to_do : (at : CellAt) → IsOnList d at → IsToDo (files d is) at
  to_do at (entry, among, same) =
      let only = is.list.only entry among in
      let has = has_chain entry.at only.0 in
      subst (IsToDo (files d is)) same
      (subst (λ o. IsSome (option_and_then left_of o)) (sym has.there) (subst (λ o. IsSome (option_and_then leftover_in o)) (sym has.record_is) only.0.says))
