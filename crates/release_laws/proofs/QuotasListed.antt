-- A domain stands on where the quota cells of what is being removed come on its list.
use Rattle.std.proofs.Common.{◌≡◌, ◌∙◌, ◌⊎◌, inl, inr, ℕ, zero, suc, List, [], ◌∷◌, ◌++◌, length, Option, Some, None, IfSome, IsSome, IsSomeAnd, Contains, refl, sym, ap, subst, arith, ⊎_elim, true≢false}
use Rattle.std.proofs.lemmas.List.{length-append}
use Rattle.std.proofs.Math.ListN.{get_or-append}
use Rattle.std.proofs.lemmas.List.Elements.{Contains-append_cases}
use Rattle.std.specs.Option.{is_some, option_and_then}
use Rattle.standing_laws.specs.domain_base.declared.place.CellAt.{CellAt}
use Rattle.standing_laws.specs.domain_base.declared.place.Home.{Home}
use Rattle.standing_laws.specs.domain_base.declared.place.Tag.{Tag}
use Rattle.standing_laws.specs.metadata_cells.Chain.{PlacedCell}
use Rattle.standing_laws.specs.file_chains.Files.{IsFile}
use Rattle.standing_laws.specs.fileset_files.Files.{LeadsToFile, first_record}
use Rattle.standing_laws.specs.tag_dirs.Directory.{cell_of}
use Rattle.standing_laws.specs.release_list.Listed.{IsEntry, left_of, leftover_in}
use Rattle.standing_laws.specs.release_list.Listing.{Adds}
use Rattle.standing_laws.specs.release_list.Standing.{Files}
use Rattle.standing_laws.specs.release_list.Steps.{IsWell}
use Rattle.standing_laws.specs.release_list.declared.list.Entry.{Entry}
use Rattle.standing_laws.proofs.OfReleaseList.Spread.{none_not, some_same}
use Rattle.standing_laws.proofs.OfReleaseList.Standings.{quota_first}
use Rattle.standing_laws.specs.release_steps.Kept.{HasNoEntry}
use Rattle.standing_laws.specs.release_steps.Tags.{start_of}
use Rattle.standing_laws.proofs.OfReleaseSteps.Listing.{entry_among, entry_listed, which_entry}
use Rattle.standing_laws.proofs.OfReleaseSteps.Tags.{has_attributes, named}
use Rattle.standing_laws.specs.domain_layout.Layout.{first_tag_of}
use Rattle.standing_laws.specs.domain_standing.Chains.{AreQuotasOf, HasFilesAmong, IndexesAt, IsOfFileset, IsOnList, IsQuotaOf, IsQuotaToGo, IsRemoved, IsToDo, StandsInSlot}
use Rattle.standing_laws.specs.domain_standing.Domain.{DomainNow, all_of, item_in, named_by}
use Rattle.standing_laws.specs.domain_standing.Sources.{StandAlone}
use Rattle.standing_laws.specs.Leads.{StandsBelow}
use Rattle.standing_laws.proofs.BelowStands.{owned_listed, rest_listed, tables_listed}
use Rattle.standing_laws.proofs.SourcesSaid.{files_alone}

front_among : (xs : List Entry) (y e : Entry) → Contains xs e → Contains (xs ++ y ∷ []) e
front_among [] y e inside = absurd (omega (arith, inside.1))
front_among (x ∷ xs) y e (zero, within, is) = (0, omega arith, is)
front_among (x ∷ xs) y e (suc k, within, is) = let later = front_among xs y e (k, omega (arith, within), is) in (suc later.0, omega (arith, later.1), later.2)

-- the domain with quota cells on its list, as the last thing to be let go of
abbrev pub with_quotas : CellAt → DomainNow → DomainNow
with_quotas at d = record d {
  list = record { entries = d.list.entries ++ record { at = at; clone = None } ∷ []; tag_pages = d.list.tag_pages };
}

module _ (d : DomainNow) (files : Files) (indexes : IndexesAt) (below : StandsBelow d files indexes) (alone : StandAlone d) (number : ℕ) (at : CellAt) (quota : IsQuotaOf d number at) (removed : IsRemoved (item_in d number)) (unlisted : HasNoEntry d.list at) where
  abbrev it : DomainNow
  it = with_quotas at d

  abbrev entry : Entry
  entry = record { at = at; clone = None }

  -- its chain, in which nothing else is said
  record HasQuotas : Type 0 where
    chain : List PlacedCell
    there : files at ≡ Some chain
    are : AreQuotasOf d number at chain

  its : HasQuotas
  its = by_chain (files at) refl (below.chains.quotas number at quota)
    where
      by_chain : (o : Option (List PlacedCell)) → files at ≡ o → IsSomeAnd o (AreQuotasOf d number at) → HasQuotas
      by_chain None there held = absurd held
      by_chain (Some chain) there held = record { chain = chain; there = there; are = held }

  no_attributes : first_record 1 its.chain ≡ None
  no_attributes = quota_first d.pages at its.chain its.are.quotas 1 (λ e. omega (arith, e)) (λ e. omega (arith, e))

  pub adds : Adds at None d.list.entries it.list.entries
  adds = record { place = length d.list.entries; between = it.list.entries; puts = inr (record { none = unlisted; behind = refl; is = refl }); orders = refl }

  may : IsEntry files entry
  may = record {
    there = ap is_some its.there;
    says = inr (ap (option_and_then (first_record 1)) its.there ∙ no_attributes);
    given = λ clone is. absurd (none_not clone is);
    all = λ clone reads. absurd (subst (λ o. IsSomeAnd o (λ source. source.at ≡ at)) (files_alone d files indexes below alone clone) reads);
  }

  -- ---- slots

  -- no tag names it
  pub no_tag : (n : ℕ) (has : HasFilesAmong d files n) (t : Tag) → ¬ option_and_then start_of (has.chains t) ≡ Some at
  no_tag n has t = by_chain (has.chains t) refl (has.are.some t)
    where
      by_cell : (cs : List PlacedCell) (o : Option CellAt) → IsSomeAnd o (λ a. IsFile d.pages a cs) → ¬ first_record 1 cs ≡ None
      by_cell cs None leads = absurd leads
      by_cell cs (Some a) file = has_attributes d.pages a cs file

      by_chain : (o : Option (List PlacedCell)) → has.chains t ≡ o → IfSome o (LeadsToFile n (d.tags n) d.pages t) → ¬ option_and_then start_of o ≡ Some at
      by_chain None none leads starts = none_not at starts
      by_chain (Some cs) some leads starts =
          let m = named files has.chains t cs some (has.among.same t) in
          let here : m.at ≡ at = some_same m.at at (sym m.start ∙ starts) in
          let same : cs ≡ its.chain = some_same cs its.chain (sym m.is ∙ ap files here ∙ its.there) in
          by_cell cs (cell_of d.pages (d.tags n) t) leads.leads (ap (first_record 1) same ∙ no_attributes)

  abbrev pub has_listed : (n : ℕ) → HasFilesAmong d files n → HasFilesAmong it files n
  has_listed n has = record { chains = has.chains; are = has.are; among = entry_among (all_of d files) it.list (d.tags n) has.chains has.among at None adds refl (λ t starts. absurd (no_tag n has t starts)) }

  slot_listed : (n : ℕ) (o : Option Home) → StandsInSlot d files n o → StandsInSlot it files n o
  slot_listed n None none = none
  slot_listed n (Some first) stood = ⊎_elim
      (λ has. inl (has_listed n has))
      (λ empty. inr (record { removed = empty.removed; none = empty.none; listed = empty.listed }))
      stood

  -- ---- the list

  all_listed : (a : CellAt) → IsToDo files a → IsOnList it a
  all_listed a left = let on = below.chains.to_do a left in (on.0, front_among d.list.entries entry on.0 on.1, on.2)

  none_else : (a : CellAt) → IsOnList it a → IsToDo files a ⊎ IsQuotaToGo it a
  none_else a on = ⊎_elim
      (λ had. ⊎_elim (λ left. inl left) (λ quotas. inr quotas) (below.chains.listed a (on.0, had, on.2)))
      (λ this. inr (number, removed, quota ∙ ap Some (sym (sym on.2 ∙ ap (λ (e : Entry). e.at) this))))
      (which_entry d.list.entries it.list.entries at None adds on.0 on.1)

  quotas_kept : (n : ℕ) (a : CellAt) (o : Option (List PlacedCell)) → IsSomeAnd o (AreQuotasOf d n a) → IsSomeAnd o (AreQuotasOf it n a)
  quotas_kept n a None are = are
  quotas_kept n a (Some chain) are = record { quotas = are.quotas; of = are.of; once = are.once }

  pub quotas_listed : StandsBelow it files indexes
  quotas_listed = record {
    tables = tables_listed d it.list below.tables;
    chains = record {
      well = entry_listed (all_of d files) at None it.list below.chains.well may adds refl;
      slots = λ n. slot_listed n (named_by first_tag_of d n) (below.chains.slots n);
      quotas = λ n a is. quotas_kept n a (files a) (below.chains.quotas n a is);
      indexed = below.chains.indexed;
      used = below.chains.used;
      named = below.chains.named;
      to_do = all_listed;
      listed = none_else;
      tag_pages = λ home inside. let empty = below.chains.tag_pages home inside in (empty.0, record { removed = empty.1.removed; none = empty.1.none; listed = empty.1.listed });
    };
    owned = owned_listed d it.list files indexes below.owned;
    rest = rest_listed d it.list files indexes below.rest;
  }

-- ---- and where they are taken off it

-- quota cells say nothing of what is left to be done
pub nothing_left : (d : DomainNow) (files : Files) (number : ℕ) (at : CellAt) → IsSomeAnd (files at) (AreQuotasOf d number at) → ¬ IsToDo files at
nothing_left d files number at = by_chain (files at)
  where
    by_chain : (o : Option (List PlacedCell)) → IsSomeAnd o (AreQuotasOf d number at) → ¬ IsSome (option_and_then left_of o)
    by_chain None are left = are
    by_chain (Some chain) are left =
        let none : first_record 6 chain ≡ None = quota_first d.pages at chain are.quotas 6 (λ e. omega (arith, e)) (λ e. omega (arith, e)) in
        true≢false (sym left ∙ ap (λ o. is_some (option_and_then leftover_in o)) none)

-- ---- whose they are

-- what is of one fileset is of no other
one_fileset : (n m : ℕ) (chain : List PlacedCell) → IsOfFileset n chain → IsOfFileset m chain → n ≡ m
one_fileset n m [] of also = absurd of
one_fileset n m (first ∷ rest) of also = some_same n m (sym of ∙ also)

module _ (d : DomainNow) (files : Files) (indexes : IndexesAt) (below : StandsBelow d files indexes) where
  -- a chain is that of one slot's quota cells
  pub one_slot : (n m : ℕ) (a : CellAt) → IsQuotaOf d n a → IsQuotaOf d m a → n ≡ m
  one_slot n m a quota also = by_chain (files a) (below.chains.quotas n a quota) (below.chains.quotas m a also)
    where
      by_chain : (o : Option (List PlacedCell)) → IsSomeAnd o (AreQuotasOf d n a) → IsSomeAnd o (AreQuotasOf d m a) → n ≡ m
      by_chain None are also = absurd are
      by_chain (Some chain) are also = one_fileset n m chain are.of also.of

  module _ (alone : StandAlone d) (number : ℕ) (at : CellAt) (quota : IsQuotaOf d number at) (removed : IsRemoved (item_in d number)) (unlisted : HasNoEntry d.list at) where
    -- with these on the list none are of a slot of which nothing is being removed
    pub not_on : (n : ℕ) (a : CellAt) → IsQuotaOf d n a → ¬ IsRemoved (item_in d n) → (e : Entry) → Contains (with_quotas at d).list.entries e → ¬ e.at ≡ a
    not_on n a is stays e inside here = ⊎_elim
        (λ to_do. nothing_left d files n a (below.chains.quotas n a is) to_do)
        (λ to_go. stays (subst (λ m. IsRemoved (item_in d m)) (sym (one_slot n to_go.0 a is to_go.2)) to_go.1))
        ((quotas_listed d files indexes below alone number at quota removed unlisted).chains.listed a (e, inside, here))

module _ (d : DomainNow) (files : Files) (indexes : IndexesAt) (number : ℕ) (at : CellAt) (quota : IsQuotaOf d number at) (below : StandsBelow (with_quotas at d) files indexes) where
  abbrev with_it : DomainNow
  with_it = with_quotas at d

  abbrev last_one : Entry
  last_one = record { at = at; clone = None }

  none_left : ¬ IsToDo files at
  none_left = nothing_left with_it files number at (below.chains.quotas number at quota)

  back : (e : Entry) → Contains (d.list.entries ++ last_one ∷ []) e → Contains d.list.entries e ⊎ (e ≡ last_one)
  back e inside = ⊎_elim (λ front. inl front) (λ last. inr (only e last)) (Contains-append_cases d.list.entries (last_one ∷ []) e inside)
    where
      only : (e : Entry) → Contains (last_one ∷ []) e → e ≡ last_one
      only e (zero, within, is) = sym is
      only e (suc k, within, is) = absurd (omega (arith, within))

  well_back : IsWell (all_of d files)
  well_back =
      let was = below.chains.well.listed in
      let long = length-append d.list.entries (last_one ∷ []) in
      record {
        together = below.chains.well.together;
        listed = record {
          each = λ e inside. was.each e (front_among d.list.entries last_one e inside);
          once = λ i j e low less same. was.once i j e (omega (arith, low, long)) (omega (arith, less, long))
              (ap (λ (x : Entry). x.at) (get_or-append d.list.entries (last_one ∷ []) e i low) ∙ same ∙ sym (ap (λ (x : Entry). x.at) (get_or-append d.list.entries (last_one ∷ []) e j less)));
          order = λ i j e low less gives. was.order i j e (omega (arith, low, long)) (omega (arith, less, long))
              (ap (λ (x : Entry). x.clone) (get_or-append d.list.entries (last_one ∷ []) e i low) ∙ gives ∙ sym (ap (λ (x : Entry). Some x.at) (get_or-append d.list.entries (last_one ∷ []) e j less)));
          pages_once = was.pages_once;
          pages_low = was.pages_low;
          pages_held = was.pages_held;
          pages_apart = was.pages_apart;
        };
      }

  slot_back : (n : ℕ) (o : Option Home) → StandsInSlot with_it files n o → StandsInSlot d files n o
  slot_back n None none = none
  slot_back n (Some first) stood = ⊎_elim
      (λ has. inl (record {
        chains = has.chains;
        are = has.are;
        among = record {
          same = has.among.same;
          live = has.among.live;
          trimmed = λ e inside. has.among.trimmed e (front_among d.list.entries last_one e inside);
          low = has.among.low;
          no_tags = has.among.no_tags;
          not_listed = has.among.not_listed;
        };
      }))
      (λ empty. inr (record { removed = empty.removed; none = empty.none; listed = empty.listed }))
      stood

  on_back : (a : CellAt) → IsToDo files a → IsOnList d a
  on_back a left =
      let on = below.chains.to_do a left in
      ⊎_elim (λ front. (on.0, front, on.2)) (λ this. absurd (none_left (subst (IsToDo files) (sym on.2 ∙ ap (λ (e : Entry). e.at) this) left))) (back on.0 on.1)

  quotas_back : (n : ℕ) (a : CellAt) (o : Option (List PlacedCell)) → IsSomeAnd o (AreQuotasOf with_it n a) → IsSomeAnd o (AreQuotasOf d n a)
  quotas_back n a None are = are
  quotas_back n a (Some chain) are = record { quotas = are.quotas; of = are.of; once = are.once }

  pub unlisted : StandsBelow d files indexes
  unlisted = record {
    tables = tables_listed with_it d.list below.tables;
    chains = record {
      well = well_back;
      slots = λ n. slot_back n (named_by first_tag_of d n) (below.chains.slots n);
      quotas = λ n a is. quotas_back n a (files a) (below.chains.quotas n a is);
      indexed = below.chains.indexed;
      used = below.chains.used;
      named = below.chains.named;
      to_do = on_back;
      listed = λ a on. below.chains.listed a (on.0, front_among d.list.entries last_one on.0 on.1, on.2);
      tag_pages = λ home inside. let empty = below.chains.tag_pages home inside in (empty.0, record { removed = empty.1.removed; none = empty.1.none; listed = empty.1.listed });
    };
    owned = owned_listed with_it d.list files indexes below.owned;
    rest = rest_listed with_it d.list files indexes below.rest;
  }
