-- Where what a call leaves of its file to be done is listed, the chains of the domain stand on.
use Rattle.std.proofs.Common.{◌≡◌, ◌∙◌, ◌⊎◌, ◌++◌, ℕ, zero, suc, ◌<◌, false, true, List, [], ◌∷◌, length, Option, Some, None, IfSome, IsSomeAnd, Contains, get_or, is_some, slice_get, slice_set, inl, inr, refl, sym, ap, subst, arith, ⊎_elim, true≢false}
use Rattle.std.proofs.lemmas.Bool.{cases_eq}
use Rattle.std.proofs.lemmas.List.{length-set}
use Rattle.std.proofs.lemmas.List.Edits.{length-swap, swapped_from_swap}
use Rattle.std.specs.List.{swap}
use Rattle.std.specs.Option.{option_and_then, option_map_or}
use Rattle.domain_standing.specs.domain_base.declared.place.CellAt.{CellAt}
use Rattle.domain_standing.specs.domain_base.declared.place.Home.{Home}
use Rattle.domain_standing.specs.domain_base.declared.place.Tag.{Tag}
use Rattle.domain_standing.specs.cell_records.declared.record.Leftover.TheVariants.{Remove, Trim}
use Rattle.domain_standing.specs.cell_records.declared.record.Record.{Record}
use Rattle.domain_standing.specs.cell_records.declared.record.Record.TheVariants as written
use Rattle.domain_standing.specs.metadata_cells.Chain.{PlacedCell}
use Rattle.domain_standing.specs.fileset_files.Files.{Chains, first_record, is_removed, says_remove}
use Rattle.domain_standing.proofs.OfReleaseList.Lists.{last_in}
use Rattle.domain_standing.proofs.OfReleaseList.Spread.{none_not, some_same}
use Rattle.domain_standing.proofs.OfReleaseList.Standings.{same_or_not}
use Rattle.domain_standing.specs.release_list.declared.list.Entry.{Entry}
use Rattle.domain_standing.specs.release_list.Listed.{IsEntry, left_of, leftover_in}
use Rattle.domain_standing.specs.release_list.Listing.{Adds, Listing, Orders}
use Rattle.domain_standing.specs.release_list.Standing.{Files}
use Rattle.domain_standing.specs.release_steps.Calls.{FilesetNow, Refuses}
use Rattle.domain_standing.specs.release_steps.Tags.{start_of}
use Rattle.domain_standing.proofs.OfReleaseSteps.Listing.{entry_among, entry_listed, which_entry}
use Rattle.domain_standing.proofs.OfReleaseSteps.StillAmong.{file_of_tag}
use Rattle.domain_standing.specs.domain_layout.Layout.{first_tag_of}
use Rattle.domain_standing.specs.Chains.{AreQuotasOf, HasEmptyTags, HasFilesAmong, IndexesAt, IsOnList, IsQuotaOf, IsQuotaToGo, IsSomebodys, IsToDo, StandChains, StandsInSlot}
use Rattle.domain_standing.specs.Domain.{DomainNow, all_of}
use Rattle.standing_laws.specs.Leads.{LeadsOn, StandsBelow, fileset_now}
use Rattle.standing_laws.proofs.ChainsGoOn.{ChainGoesOn}
use Rattle.standing_laws.proofs.ChainsNamed.{indexed_now, list_same, listed_now, named_now, tag_pages_now}
use Rattle.standing_laws.proofs.ChainsStand.{chain_goes, other_now, used_now}
use Rattle.standing_laws.proofs.SlotsStand.{quotas_now, slots_now, well_now}

-- ---- entries of a list to which one is added

-- an entry has the file
abbrev HasOne : List Entry → CellAt → Type 0
HasOne entries at = (e : Entry) × Contains entries e × (e.at ≡ at)

kept_set : (xs : List Entry) (i : ℕ) (y : Entry) → ((d : Entry) → (get_or xs i d).at ≡ y.at) → (e : Entry) → Contains xs e → HasOne (slice_set xs i y) e.at
kept_set [] i y was e inside = absurd (omega (arith, inside.1))
kept_set (x ∷ xs) zero y was e (zero, within, is) = (y, (0, omega arith, refl), sym (was x) ∙ ap (λ (d : Entry). d.at) is)
kept_set (x ∷ xs) zero y was e (suc k, within, is) = (e, (suc k, within, is), refl)
kept_set (x ∷ xs) (suc i) y was e (zero, within, is) = (e, (0, omega arith, is), refl)
kept_set (x ∷ xs) (suc i) y was e (suc k, within, is) =
    let later = kept_set xs i y was e (k, omega (arith, within), is) in
    (later.0, (suc later.1.0, omega (arith, later.1.1), later.1.2), later.2)

new_set : (xs : List Entry) (i : ℕ) (y : Entry) → i < length xs → Contains (slice_set xs i y) y
new_set [] i y within = absurd (omega (arith, within))
new_set (x ∷ xs) zero y within = (0, omega arith, refl)
new_set (x ∷ xs) (suc i) y within = let later = new_set xs i y (omega (arith, within)) in (suc later.0, omega (arith, later.1), later.2)

in_front : (xs : List Entry) (y e : Entry) → Contains xs e → Contains (xs ++ y ∷ []) e
in_front [] y e inside = absurd (omega (arith, inside.1))
in_front (x ∷ xs) y e (zero, within, is) = (0, omega arith, is)
in_front (x ∷ xs) y e (suc k, within, is) = let later = in_front xs y e (k, omega (arith, within), is) in (suc later.0, omega (arith, later.1), later.2)

in_swap : (xs ys : List Entry) (i j : ℕ) → i < j → j < length xs → ys ≡ swap xs i j → (e : Entry) → Contains xs e → Contains ys e
in_swap xs ys i j ahead within is e (k, less, at) = ⊎_elim
    (λ first. (j, omega (arith, within, long), (swapped_from_swap xs ys i j e (omega (arith, ahead, within)) within is).1 ∙ ap (λ n. get_or xs n e) (sym first) ∙ at))
    (λ not_first. ⊎_elim
    (λ second. (i, omega (arith, ahead, within, long), (swapped_from_swap xs ys i j e (omega (arith, ahead, within)) within is).0 ∙ ap (λ n. get_or xs n e) (sym second) ∙ at))
    (λ not_second. (k, omega (arith, less, long), (swapped_from_swap xs ys i j e (omega (arith, ahead, within)) within is).2 k not_first not_second ∙ at))
    (cases_eq k j))
    (cases_eq k i)
  where
    long : length ys ≡ length xs
    long = ap length is ∙ length-swap xs i j

module _ (old new : List Entry) (at : CellAt) (clone : Option CellAt) (adds : Adds at clone old new) where
  abbrev one : Entry
  one = record { at = at; clone = clone }

  put_kept : (e : Entry) → Contains old e → HasOne adds.between e.at
  put_kept e inside = ⊎_elim
      (λ s. subst (λ (es : List Entry). HasOne es e.at) (sym s.is) (kept_set old adds.place one s.was e inside))
      (λ s. (e, subst (λ (es : List Entry). Contains es e) (sym s.is) (in_front old one e inside), refl))
      adds.puts

  put_new : Contains adds.between one
  put_new = ⊎_elim
      (λ s. subst (λ (es : List Entry). Contains es one) (sym s.is) (new_set old adds.place one s.within))
      (λ s. subst (λ (es : List Entry). Contains es one) (sym s.is) (last_in old one))
      adds.puts

  length_more : (xs : List Entry) (y : Entry) → length (xs ++ y ∷ []) ≡ suc (length xs)
  length_more [] y = refl
  length_more (x ∷ xs) y = ap suc (length_more xs y)

  within : adds.place < length adds.between
  within = ⊎_elim
      (λ s. let n = ap length s.is ∙ length-set old adds.place one in omega (arith, n, s.within))
      (λ s. let n = ap length s.is ∙ length_more old one in omega (arith, n, s.behind))
      adds.puts

  ordered : (e : Entry) → Contains adds.between e → Contains new e
  ordered e inside = by_clone clone adds.orders
    where
      by_clone : (o : Option CellAt) → Orders o adds.place adds.between new → Contains new e
      by_clone None same = subst (λ (es : List Entry). Contains es e) (sym same) inside
      by_clone (Some c) orders = ⊎_elim
          (λ s. in_swap adds.between new s.front adds.place s.in_front within s.is e inside)
          (λ s. subst (λ (es : List Entry). Contains es e) (sym s.is) inside)
          orders

  pub kept : (e : Entry) → Contains old e → HasOne new e.at
  kept e inside = let put = put_kept e inside in (put.0, ordered put.0 put.1, put.2)

  pub listed_one : Contains new one
  listed_one = ordered one put_new

-- ---- what is left of a file that stays

trim_left : (o : Option Record) → option_map_or says_remove o false ≡ false → is_some (option_and_then leftover_in o) ≡ true → option_and_then leftover_in o ≡ Some Trim
trim_left None live left = absurd (true≢false (sym left))
trim_left (Some (written.Pending Trim)) live left = refl
trim_left (Some (written.Pending Remove)) live left = absurd (true≢false live)
trim_left (Some (written.Attributes kind uid gid flags size keep links birth unsynced)) live left = absurd (true≢false (sym left))
trim_left (Some (written.CloneFile vol cell page frozen)) live left = absurd (true≢false (sym left))
trim_left (Some (written.Extents rows)) live left = absurd (true≢false (sym left))
trim_left (Some (written.ShortExtents rows)) live left = absurd (true≢false (sym left))
trim_left (Some (written.Holes rows)) live left = absurd (true≢false (sym left))
trim_left (Some (written.UserQuota id files blocks)) live left = absurd (true≢false (sym left))
trim_left (Some (written.GroupQuota id files blocks)) live left = absurd (true≢false (sym left))
trim_left (Some (written.DirIndex vol page entries)) live left = absurd (true≢false (sym left))
trim_left (Some (written.Parent slot seq)) live left = absurd (true≢false (sym left))
trim_left (Some (written.Stripe width mark vols)) live left = absurd (true≢false (sym left))
trim_left (Some (written.Volume vol pages bitmap_pages)) live left = absurd (true≢false (sym left))
trim_left (Some (written.DenseExtents rows)) live left = absurd (true≢false (sym left))
trim_left (Some (written.ShortDense rows)) live left = absurd (true≢false (sym left))

pub trim_there : (cs : List PlacedCell) → is_removed cs ≡ false → is_some (left_of cs) ≡ true → left_of cs ≡ Some Trim
trim_there cs live left = trim_left (first_record 6 cs) live left

module _ (number : ℕ) (tag : Tag) (d now : DomainNow) (chains chains_now : Chains) (files files_now : Files) (indexes : IndexesAt) (below : StandsBelow d files indexes) (s : LeadsOn number tag d now chains chains_now files files_now)
    (start : CellAt) (clone : Option CellAt) (listed : Listing) (begins : option_and_then start_of (chains tag) ≡ Some start) (to_do : IsToDo files_now start) (may : IsEntry files_now (record { at = start; clone = clone })) (adds : Adds start clone now.list.entries listed.entries)
    (same : listed.tag_pages ≡ now.list.tag_pages)
  where
    abbrev was : FilesetNow
    was = fileset_now d number chains files

    abbrev is : FilesetNow
    is = fileset_now now number chains_now files_now

    abbrev with_entry : DomainNow
    with_entry = record now { list = listed }

    -- ---- slots

    tags_trimmed : (n : ℕ) (has : HasFilesAmong now files_now n) (t : Tag) → option_and_then start_of (has.chains t) ≡ Some start → option_and_then left_of (has.chains t) ≡ Some Trim
    tags_trimmed n has t = by_chain (has.chains t) refl
      where
        by_chain : (o : Option (List PlacedCell)) → has.chains t ≡ o → option_and_then start_of o ≡ Some start → option_and_then left_of o ≡ Some Trim
        by_chain None none starts = absurd (none_not start starts)
        by_chain (Some cs) some starts =
            let there = file_of_tag files_now has.chains t cs start (has.among.same t) some starts in
            trim_there cs (subst (λ o. IfSome o (λ cells. is_removed cells ≡ false)) some (has.among.live t)) (sym (ap (λ o. is_some (option_and_then left_of o)) there) ∙ to_do)

    empty_listed : (n : ℕ) → HasEmptyTags now n → HasEmptyTags with_entry n
    empty_listed n empty = record { removed = empty.removed; none = empty.none; listed = empty.listed ∙ sym same }

    slot_listed : (n : ℕ) (o : Option Home) → StandsInSlot now files_now n o → StandsInSlot with_entry files_now n o
    slot_listed n None none = none
    slot_listed n (Some first) stood = ⊎_elim
        (λ has. inl (record { chains = has.chains; are = has.are; among = entry_among (all_of now files_now) listed (now.tags n) has.chains has.among start clone adds same (tags_trimmed n has) }))
        (λ empty. inr (empty_listed n empty))
        stood

    -- ---- the list

    files_at : (at : CellAt) → ¬ at ≡ start → files_now at ≡ files at
    files_at at apart = ⊎_elim
        (λ (r : Refuses was is). ap (λ (f : Files). f at) r.files)
        (λ g. other_now number tag d now chains chains_now files files_now indexes below s g at (λ here. apart (here ∙ its_start g)))
        (chain_goes number tag d now chains chains_now files files_now indexes below s)
      where
        its_start : (g : ChainGoesOn tag was is) → g.start ≡ start
        its_start g = ⊎_elim
            (λ fresh. absurd (none_not start (sym (ap (option_and_then start_of) fresh.fresh) ∙ begins)))
            (λ f. some_same g.start start (sym (ap (option_and_then start_of) f.1.is ∙ f.1.began) ∙ begins))
            g.from

    all_listed : (at : CellAt) → IsToDo files_now at → IsOnList with_entry at
    all_listed at left = ⊎_elim
        (λ here. (record { at = start; clone = clone }, listed_one now.list.entries listed.entries start clone adds, sym here))
        (λ apart.
        let on = below.chains.to_do at (sym (ap (λ o. is_some (option_and_then left_of o)) (files_at at apart)) ∙ left) in
        let inside = subst (λ (l : Listing). Contains l.entries on.0) (sym (list_same number tag d now chains chains_now files files_now indexes below s)) on.1 in
        let it = kept now.list.entries listed.entries start clone adds on.0 inside in
        (it.0, it.1, it.2 ∙ on.2))
        (same_or_not at start)

    none_else : (at : CellAt) → IsOnList with_entry at → IsToDo files_now at ⊎ IsQuotaToGo with_entry at
    none_else at on = ⊎_elim
        (λ had. ⊎_elim
        (λ left. inl left)
        (λ quota. inr (quota.0, quota.1, quota.2))
        (listed_now number tag d now chains chains_now files files_now indexes below s at (on.0, had, on.2)))
        (λ new_one. inl (subst (IsToDo files_now) (sym (ap (λ (e : Entry). e.at) new_one) ∙ on.2) to_do))
        (which_entry now.list.entries listed.entries start clone adds on.0 on.1)

    pages_listed : (home : Home) → Contains listed.tag_pages home → (n : ℕ) × HasEmptyTags with_entry n
    pages_listed home inside =
        let empty = tag_pages_now number tag d now chains chains_now files files_now indexes below s home (subst (λ (hs : List Home). Contains hs home) same inside) in
        (empty.0, empty_listed empty.0 empty.1)

    quotas_listed : (n : ℕ) (at : CellAt) → IsQuotaOf with_entry n at → IsSomeAnd (files_now at) (AreQuotasOf with_entry n at)
    quotas_listed n at quota = by_chain (files_now at) (quotas_now number tag d now chains chains_now files files_now indexes below s n at quota)
      where
        by_chain : (o : Option (List PlacedCell)) → IsSomeAnd o (AreQuotasOf now n at) → IsSomeAnd o (AreQuotasOf with_entry n at)
        by_chain None are = absurd are
        by_chain (Some cs) are = record { quotas = are.quotas; of = are.of; once = are.once }

    named_listed : (at : CellAt) (chain : List PlacedCell) → files_now at ≡ Some chain → IsSomebodys with_entry at chain
    named_listed at chain there = ⊎_elim
        (λ tagged. inl (tagged.0, tagged.1, tagged.2))
        (λ rest. inr (⊎_elim (λ left. inl left) (λ quota. inr (quota.0, quota.1)) rest))
        (named_now number tag d now chains chains_now files files_now indexes below s at chain there)

    pub chains_listed : StandChains with_entry files_now indexes
    chains_listed = record {
      well = entry_listed (all_of now files_now) start clone listed (well_now number tag d now chains chains_now files files_now indexes below s) may adds same;
      slots = λ n. slot_listed n (option_and_then first_tag_of (slice_get now.table.slots n)) (slots_now number tag d now chains chains_now files files_now indexes below s n);
      quotas = λ n at quota. quotas_listed n at quota;
      indexed = indexed_now number tag d now chains chains_now files files_now indexes below s;
      used = used_now number tag d now chains chains_now files files_now indexes below s;
      named = named_listed;
      to_do = all_listed;
      listed = none_else;
      tag_pages = pages_listed;
    }
