-- Which pages of the free space are held after calls on a tag.
use Rattle.std.proofs.Common.{◌≡◌, ◌∙◌, ◌||◌, ◌⊎◌, ⊎_elim, inl, inr, ℕ, zero, suc, ◌≤◌, Bool, true, false, cond, nat_eq, List, [], ◌∷◌, ◌++◌, Option, Some, None, IsSomeAnd, Contains, refl, sym, ap, subst, arith}
use Rattle.std.proofs.lemmas.Bool.{both_ways, eq-eqb, eqb-true, or_cases, or_right}
use Rattle.std.proofs.lemmas.List.Folds.{list_any-append}
use Rattle.std.specs.FinSet.{contains}
use Rattle.std.specs.Option.{option_map}
use Rattle.release_list.specs.domain_base.declared.place.Home.{Home}
use Rattle.release_list.specs.domain_base.declared.place.Tag.{Tag}
use Rattle.release_list.specs.domain_base.declared.version.Version.{Version}
use Rattle.release_list.specs.page_store.Pages.{Pages, same_home}
use Rattle.release_list.proofs.OfFreeSpace.Used.{contains-inserted}
use Rattle.release_list.proofs.OfMetadataCells.Changed.{same_itself}
use Rattle.release_list.specs.tag_dirs.declared.dir.TagPlace.{TagPlace}
use Rattle.release_list.specs.tag_dirs.Directory.{has_home}
use Rattle.release_list.specs.free_cells.Cells.{Cells, JoinsEmptyPage, table_of, with_page_last}
use Rattle.release_list.specs.free_space.VolumeSpace.{VolumeSpace, is_waiting, with_page}
use Rattle.release_list.specs.free_space.Spaces.{IsHeld, Spaces, change_volume, missed, volume_of}
use Rattle.release_list.proofs.OfFreeSpace.Places.{volume_of-change_other, volume_of-change_same}
use Rattle.release_list.specs.file_chains.MapChanges.{TakesOne}
use Rattle.release_list.proofs.OfFileChains.Allocated.{there_is}
use Rattle.release_list.proofs.OfFileChains.Spaces.{held_still, not_held}
use Rattle.release_steps.specs.Calls.{Call, Calls, FilesetNow, Gives, Makes, Moves, cut, described, dropped, given, indexed, made, moved, no_call, one_more, put_in, refused}
use Rattle.release_steps.specs.Taken.{IsGiven, IsHeldAt, IsTaken}
use Rattle.release_steps.proofs.CallTables.{call_places, call_tables, low_put, page_put}
use Rattle.release_steps.proofs.TagCalls.{StandsTogether, together_still}

-- what is held stays so, and what is so then was, or is one of these
pub record Grows (space space_now : Spaces) (taken : Home → Type 0) : Type 0 where
  pub stays : (h : Home) → IsHeld space h.vol h.page → IsHeld space_now h.vol h.page
  pub only : (h : Home) → 1 ≤ h.vol → IsHeld space_now h.vol h.page → IsHeld space h.vol h.page ⊎ taken h

grows_same : (space space_now : Spaces) (taken : Home → Type 0) → space_now ≡ space → Grows space space_now taken
grows_same space space_now taken same = record {
  stays = λ h is. subst (λ (s : Spaces). IsHeld s h.vol h.page) (sym same) is;
  only = λ h low is. inl (subst (λ (s : Spaces). IsHeld s h.vol h.page) same is);
}

grows_missed : (space space_now : Spaces) (taken : Home → Type 0) → space_now ≡ missed space → Grows space space_now taken
grows_missed space space_now taken same = record {
  stays = λ h is. subst (λ (s : Spaces). IsHeld s h.vol h.page) (sym same) is;
  only = λ h low is. inl (subst (λ (s : Spaces). IsHeld s h.vol h.page) same is);
}

grows_then : (a b c : Spaces) (P Q R : Home → Type 0) → ((h : Home) → P h → R h) → ((h : Home) → Q h → R h) → Grows a b P → Grows b c Q → Grows a c R
grows_then a b c P Q R p q one two = record {
  stays = λ h is. two.stays h (one.stays h is);
  only = λ h low is. ⊎_elim
      (λ was. ⊎_elim (λ first. inl first) (λ taken. inr (p h taken)) (one.only h low was))
      (λ taken. inr (q h taken))
      (two.only h low is);
}

-- ---- a page is taken

module _ (space : Spaces) (home : Home) (low : 1 ≤ home.vol) where
  abbrev taken : Spaces
  taken = change_volume (with_page home.page) space home.vol

  taken_page : (q : ℕ) (o : Option VolumeSpace) → IsSomeAnd (option_map (with_page home.page) o) (λ v. (contains v.used q ≡ true) × (is_waiting v q ≡ false)) → IsSomeAnd o (λ v. (contains v.used q ≡ true) × (is_waiting v q ≡ false)) ⊎ (q ≡ home.page)
  taken_page q None is = absurd is
  taken_page q (Some v) is = ⊎_elim
      (λ same. inr (eqb-true q home.page same))
      (λ used. inl (used, is.1))
      (or_cases (nat_eq q home.page) (contains v.used q) (sym (contains-inserted v.used home.page q) ∙ is.0))

  grows_page : Grows space taken (λ h. h ≡ home)
  grows_page = record { stays = λ h is. held_still space home.vol home.page h.vol h.page is; only = only }
    where
      by_volume : (h : Home) → 1 ≤ h.vol → IsHeld taken h.vol h.page → (b : Bool) → nat_eq h.vol home.vol ≡ b → IsHeld space h.vol h.page ⊎ (h ≡ home)
      by_volume h from is true same =
          let vol = eqb-true h.vol home.vol same in
          let at = subst (λ o. IsSomeAnd o (λ v. (contains v.used h.page ≡ true) × (is_waiting v h.page ≡ false))) (volume_of-change_same (with_page home.page) space home.vol) (subst (λ (v : ℕ). IsHeld taken v h.page) vol is) in
          ⊎_elim
          (λ was. inl (subst (λ (v : ℕ). IsHeld space v h.page) (sym vol) was))
          (λ page. inr (λ i. record { vol = vol i; page = page i }))
          (taken_page h.page (volume_of space home.vol) at)
      by_volume h from is false other =
          inl (subst (λ o. IsSomeAnd o (λ v. (contains v.used h.page ≡ true) × (is_waiting v h.page ≡ false)))
          (volume_of-change_other (with_page home.page) space home.vol h.vol (λ same. both_ways (nat_eq h.vol home.vol) other (eq-eqb h.vol home.vol (omega (arith, same, low, from))))) is)

      only : (h : Home) → 1 ≤ h.vol → IsHeld taken h.vol h.page → IsHeld space h.vol h.page ⊎ (h ≡ home)
      only h from is = by_volume h from is (nat_eq h.vol home.vol) refl

-- ---- a cell is handed out

in_end : (xs : List ℕ) (p : ℕ) → Contains (xs ++ p ∷ []) p
in_end [] p = (zero, omega arith, refl)
in_end (x ∷ xs) p = let later = in_end xs p in (suc later.0, omega (arith, later.1), later.2)

-- a page that joins a table stands on a volume, for no other has a table
joins_low : (home : Home) (old new : Cells) → JoinsEmptyPage home old new → 1 ≤ home.vol
joins_low home old new joins = by_volume home.vol refl
  where
    by_volume : (n : ℕ) → home.vol ≡ n → 1 ≤ n
    by_volume zero is =
        let none : [] ≡ home.page ∷ [] = joins.tables 0 ∙ ap (λ (v : ℕ). with_page_last (record home { vol = v }) old 0) is in
        absurd (let e = none in absurd (cc))
    by_volume (suc n) is = omega arith

module _ (prefer : ℕ) (space space_now : Spaces) (cells cells_now : Cells) (old : Pages) (one : TakesOne prefer space space_now cells cells_now old) where
  abbrev OnTable : Home → Type 0
  OnTable h = Contains (table_of cells_now h.vol) h.page

  joined_table : (between : Cells) (home : Home) → JoinsEmptyPage home cells between → ((vol : ℕ) → table_of cells_now vol ≡ table_of between vol) → OnTable home
  joined_table between home joins same =
      subst (λ (t : List ℕ). Contains t home.page) (sym (same home.vol ∙ joins.tables home.vol ∙ ap (λ (b : Bool). cond b (table_of cells home.vol ++ home.page ∷ []) (table_of cells home.vol)) (eq-eqb home.vol home.vol refl)))
      (in_end (table_of cells home.vol) home.page)

  pub one_grows : Grows space space_now OnTable
  one_grows = ⊎_elim
      (λ had. grows_same space space_now OnTable had.same_space)
      (λ none.
      let low = joins_low none.home cells one.takes.between none.adds.joins in
      let page = grows_page space none.home low in
      let on = joined_table one.takes.between none.home none.adds.joins one.takes.taken.tables in
      grows_then space (change_volume (with_page none.home.page) space none.home.vol) space_now (λ h. h ≡ none.home) OnTable OnTable
      (λ h same. subst OnTable (sym same) on)
      (λ h is. is)
      page
      (grows_same (change_volume (with_page none.home.page) space none.home.vol) space_now OnTable none.adds.used))
      one.takes.before

-- ---- a call

module _ (fileset : ℕ) (version : Version) (tag : Tag) (old new : FilesetNow) where
  -- in this call, or a page of a table or of the tag directory
  abbrev New : Home → Type 0
  New h = ((s : Gives fileset version tag old new) × (s.home ≡ h)) ⊎ (Contains (table_of new.domain.cells h.vol) h.page ⊎ (has_home new.places h ≡ true))

  call_same : new.domain.space ≡ old.domain.space → Grows old.domain.space new.domain.space New
  call_same same = grows_same old.domain.space new.domain.space New same

  given_grows : Gives fileset version tag old new → Grows old.domain.space new.domain.space New
  given_grows s =
      let page = grows_page old.domain.space s.home (low_put fileset version tag old new s.home s.chain s.puts) in
      let middle = change_volume (with_page s.home.page) old.domain.space s.home.vol in
      ⊎_elim
      (λ same. grows_then old.domain.space middle new.domain.space (λ h. h ≡ s.home) New New (λ h is. inl (s, sym is)) (λ h is. is) page (grows_same middle new.domain.space New same.0))
      (λ one. grows_then old.domain.space middle new.domain.space (λ h. h ≡ s.home) _ New (λ h is. inl (s, sym is)) (λ h is. inr (inl is)) page (one_grows s.prefer middle new.domain.space old.domain.cells new.domain.cells old.domain.pages one.1))
      s.taken.taken

  moved_grows : Moves fileset version tag old new → Grows old.domain.space new.domain.space New
  moved_grows s = ⊎_elim
      (λ same. call_same same.0)
      (λ one. let it = one_grows s.home.vol old.domain.space new.domain.space old.domain.cells new.domain.cells old.domain.pages one.1 in
      record { stays = it.stays; only = λ h low is. ⊎_elim (λ was. inl was) (λ on. inr (inr (inl on))) (it.only h low is) })
      s.taken

  made_grows : Makes fileset version tag old new → Grows old.domain.space new.domain.space New
  made_grows s = ⊎_elim
      (λ cell. let it = one_grows s.prefer old.domain.space new.domain.space old.domain.cells new.domain.cells old.domain.pages cell.cell in
      record { stays = it.stays; only = λ h low is. ⊎_elim (λ was. inl was) (λ on. inr (inr (inl on))) (it.only h low is) })
      (λ page.
      let p : TagPlace = record { index = page.index; home = page.home } in
      let has : has_home new.places page.home ≡ true =
      ap (λ (ps : List TagPlace). has_home ps page.home) page.joins ∙ list_any-append (λ (q : TagPlace). same_home page.home q.home) old.places (p ∷ [])
      ∙ or_right (has_home old.places page.home) (same_home page.home page.home || false) (ap (λ (b : Bool). b || false) (same_itself page.home)) in
      let middle = change_volume (with_page page.home.page) old.domain.space page.home.vol in
      grows_then old.domain.space middle new.domain.space (λ h. h ≡ page.home) _ New
      (λ h is. inr (inr (ap (has_home new.places) is ∙ has)))
      (λ h is. inr (inl is))
      (grows_page old.domain.space page.home page.low)
      (one_grows s.prefer middle new.domain.space old.domain.cells new.domain.cells old.domain.pages page.cell))
      s.taken

  call_grows : Call fileset version tag old new → Grows old.domain.space new.domain.space New
  call_grows (refused s) = ⊎_elim call_same (λ miss. grows_missed old.domain.space new.domain.space New miss) s.space
  call_grows (given s) = given_grows s
  call_grows (moved s) = moved_grows s
  call_grows (described value s) = call_same s.space
  call_grows (put_in parent s) = call_same s.space
  call_grows (indexed index s) = call_same s.space
  call_grows (cut size lowered s) = call_same s.space
  call_grows (dropped s) = call_same s.space
  call_grows (made s) = made_grows s

-- ---- any number of calls

module _ (fileset : ℕ) (version : Version) (tag : Tag) (first : FilesetNow) where
  pub held_on : (last : FilesetNow) → Calls fileset version tag first last → (h : Home) → IsHeldAt first h → IsHeldAt last h
  held_on last calls h is =
      elim calls as (λ last calls. IsHeldAt last h) [
        | no_call ↦ is
        | one_more between last (calls → was) call ↦ (call_grows fileset version tag between last call).stays h was
      ]

  -- what was taken so far stays taken
  taken_on : (between last : FilesetNow) (call : Call fileset version tag between last) (h : Home) → IsTaken fileset version tag first between h → IsTaken fileset version tag first last h
  taken_on between last call h is = ⊎_elim
      (λ g. inl (record { before = g.before; after = g.after; earlier = g.earlier; gives = g.gives; is = g.is; later = one_more between last g.later call }))
      (λ other. ⊎_elim
      (λ on. inr (inl (call_tables fileset version tag between last call h.vol h.page on)))
      (λ has. inr (inr (call_places fileset version tag between last call h has)))
      other)
      is

  new_taken : (between last : FilesetNow) → Calls fileset version tag first between → Call fileset version tag between last → (h : Home) → New fileset version tag between last h → IsTaken fileset version tag first last h
  new_taken between last calls call h is = ⊎_elim
      (λ g. inl (record { before = between; after = last; earlier = calls; gives = g.0; is = g.1; later = no_call }))
      (λ other. inr other)
      is

  held_so : (last : FilesetNow) → Calls fileset version tag first last → (h : Home) → 1 ≤ h.vol → IsHeldAt last h → IsHeldAt first h ⊎ IsTaken fileset version tag first last h
  held_so last calls h low =
      elim calls as (λ last calls. IsHeldAt last h → IsHeldAt first h ⊎ IsTaken fileset version tag first last h) [
        | no_call ↦ λ is. inl is
        | one_more between last (calls → was) call ↦ λ is. ⊎_elim
            (λ held. ⊎_elim (λ at_first. inl at_first) (λ taken. inr (taken_on between last call h taken)) (was held))
            (λ new. inr (new_taken between last calls call h new))
            ((call_grows fileset version tag between last call).only h low is)
      ]

given_held : (fileset : ℕ) (version : Version) (tag : Tag) (first last : FilesetNow) (h : Home) → IsGiven fileset version tag first last h → IsHeldAt last h
given_held fileset version tag first last h g =
    held_on fileset version tag g.after last g.later h
    (subst (IsHeldAt g.after) g.is (page_put fileset version tag g.before g.after g.gives.home g.gives.chain g.gives.puts).apart.held)

pub held_exactly : (fileset : ℕ) (version : Version) (tag : Tag) (first last : FilesetNow) → Calls fileset version tag first last → StandsTogether fileset first → (h : Home) → 1 ≤ h.vol
    → (IsHeldAt last h → IsHeldAt first h ⊎ IsTaken fileset version tag first last h) × (IsHeldAt first h ⊎ IsTaken fileset version tag first last h → IsHeldAt last h)
held_exactly fileset version tag first last calls together h low =
    let now = together_still fileset version tag first last calls together in (
      held_so fileset version tag first last calls h low,
      ⊎_elim
          (λ was. held_on fileset version tag first last calls h was)
          (λ taken. ⊎_elim
          (λ g. given_held fileset version tag first last h g)
          (λ other. ⊎_elim
          (λ on. subst (IsHeld last.domain.space h.vol) (there_is (table_of last.domain.cells h.vol) on.0 0 h.page on.1 ∙ on.2) (now.allocated.held h.vol on.0 low on.1))
          (λ has. (now.tag_pages h has).held)
          other)
          taken),
    )

-- what was given was free before the calls
pub given_free : (fileset : ℕ) (version : Version) (tag : Tag) (first last : FilesetNow) (h : Home) → IsGiven fileset version tag first last h → ¬ IsHeldAt first h
given_free fileset version tag first last h g is =
    not_held g.before.domain.space g.gives.home.vol g.gives.home.page g.gives.taken.free
    (subst (IsHeldAt g.before) (sym g.is) (held_on fileset version tag first g.before g.earlier h is))
