-- Where no rule of tables is broken, a chain is walked from its first cell to its end.
use Rattle.std.proofs.Common.{◌≡◌, ◌∙◌, inl, inr, ℕ, zero, suc, ◌+◌, ◌*◌, ◌<◌, ◌≤◌, true, false, eqb, ◌||◌, List, [], ◌∷◌, ◌++◌, length, map, Option, Some, None, Contains, refl, sym, ap, subst, arith, ⊎_elim}
use Rattle.std.proofs.lemmas.Bool.{cases_Bool, eqb-true}
use Rattle.std.proofs.lemmas.Map.Steps.{length-le_from_distinct_below}
use Rattle.std.specs.List.{AllByRecursion, IsDistinct, list_any}
use Rattle.domain_memory.specs.domain_base.declared.place.CellAt.{CellAt}
use Rattle.domain_memory.specs.page_store.Pages.{Pages}
use Rattle.domain_memory.specs.log_ring.Homes.{IsMember, member_of}
use Rattle.domain_memory.specs.metadata_cells.Cell.{Cell}
use Rattle.domain_memory.specs.metadata_cells.Chain.{IsChain, Path, PlacedCell, StandsAt, may_follow, places}
use Rattle.domain_memory.specs.metadata_cells.Chain as ways
use Rattle.domain_memory.proofs.OfMetadataCells.Unique.{one_stands}
use Rattle.domain_memory.specs.domain_layout.CellRules.{Follows, IsChainHead, IsInChain, IsLink, IsPlace, Link, begins, goes_on}
use Rattle.domain_memory.specs.domain_layout.Faults.{HasNoTablesFault}
use Rattle.domain_memory.specs.domain_layout.Layout.{IsLayout, Layout}
use Rattle.domain_memory.specs.domain_layout.Owners.{IsOnTable, frame_of}
use Rattle.domain_memory.proofs.OfDomainLayout.Named.{follows_on, link_to, no_cell}
use Rattle.domain_memory.proofs.OfFilesetsReading.TagPlaces.{most_by}
use Rattle.domain_memory.proofs.OfFilesetsReading.Ways.{map_pushed, pushed}
use Rattle.no_faults.proofs.OnTables.{Used, link_used, used_or_not}

-- ---- cells as numbers

abbrev pub key : CellAt → ℕ
key at = at.vol * 29360128 + at.page * 28 + at.cell

abbrev pub Small : CellAt → Type 0
Small at = (at.vol ≤ 8) × (at.page < 1048576) × (at.cell < 28)

one_place : (a b : CellAt) → Small a → Small b → key a ≡ key b → a ≡ b
one_place a b small also same =
    let vol : a.vol ≡ b.vol = omega (arith, same, small.1, small.2, also.1, also.2) in
    let page : a.page ≡ b.page = omega (arith, same, vol, small.2, also.2) in
    let cell : a.cell ≡ b.cell = omega (arith, same, vol, page) in
    (λ i. record { vol = vol i; page = page i; cell = cell i })

-- ---- cells that were passed are not so many

keys_pushed : (P : ℕ → Type 0) (xs : List CellAt) (x : CellAt) → AllByRecursion P (map key xs) → P (key x) → AllByRecursion P (map key (xs ++ x ∷ []))
keys_pushed P [] x all is = (is, tt)
keys_pushed P (y ∷ ys) x all is = (all.0, keys_pushed P ys x all.1 is)

pub all_pushed : {X : Type 0} (P : X → Type 0) (xs : List X) (x : X) → AllByRecursion P xs → P x → AllByRecursion P (xs ++ x ∷ [])
all_pushed P [] x all is = (is, tt)
all_pushed P (y ∷ ys) x all is = (all.0, all_pushed P ys x all.1 is)

distinct_pushed : (xs : List CellAt) (x : CellAt) → AllByRecursion Small xs → Small x → IsDistinct eqb (map key xs) → ¬ Contains xs x → IsDistinct eqb (map key (xs ++ x ∷ []))
unfolding IsDistinct
distinct_pushed [] x all small once fresh = (tt, tt)
distinct_pushed (y ∷ ys) x all small once fresh = (
  keys_pushed (λ z. eqb (key y) z ≡ false) ys x once.0
      (⊎_elim (λ same. absurd (fresh (0, omega arith, one_place y x all.0 small (eqb-true (key y) (key x) same)))) (λ other. other) (cases_Bool (eqb (key y) (key x)))),
  distinct_pushed ys x all.1 small once.1 (λ among. fresh (suc among.0, omega (arith, among.1), among.2)),
)

below_all : (xs : List CellAt) → AllByRecursion Small xs → (q : ℕ) → list_any (eqb q) (map key xs) ≡ true → q < 264241152
below_all [] all q is = absurd (cc)
below_all (x ∷ xs) all q is =
    ⊎_elim (λ same. let here : q ≡ key x = eqb-true q (key x) same in omega (arith, here, all.0.0, all.0.1, all.0.2))
    (λ other. below_all xs all.1 q (later other)) (cases_Bool (eqb q (key x)))
  where
    later : eqb q (key x) ≡ false → list_any (eqb q) (map key xs) ≡ true
    later other = sym (ap (λ b. b || list_any (eqb q) (map key xs)) other) ∙ is

pub length_map : {X Y : Type 0} (f : X → Y) (xs : List X) → length (map f xs) ≡ length xs
length_map f [] = refl
length_map f (x ∷ xs) = ap suc (length_map f xs)

-- ---- chains

-- a cell in use on a page of its volume's table, to which the chain comes that begins at one
pub record IsOnWay (pages : Pages) (layout : Layout) (start : CellAt) (c : PlacedCell) : Type 0 where
  pub on : IsOnTable pages layout c.at c.cell
  pub behind : ¬ ¬ ((passed : List CellAt) × Follows pages (frame_of layout) start passed c.at (link_to c.cell))

-- a whole chain of such cells
pub record Walked (pages : Pages) (layout : Layout) (start : CellAt) : Type 0 where
  pub cells : List PlacedCell
  pub chain : IsChain pages start cells
  pub all : AllByRecursion (IsOnWay pages layout start) cells

module _ (pages : Pages) (layout : Layout) (laid : IsLayout pages layout) (none : HasNoTablesFault pages (frame_of layout))
    (small : (vol : ℕ) → IsMember layout.anchor vol → (member_of layout.anchor vol).pages ≤ 1048576) where
  small_place : (at : CellAt) → IsPlace pages (frame_of layout) at → Small at
  small_place at place =
      let within = place.is.read.may.0 in
      (within.0.last, omega (arith, within.1, small at.vol within.0), place.within)

  record Passed (passed : List CellAt) (at : CellAt) : Type 0 where
    all : AllByRecursion Small (passed ++ at ∷ [])
    once : IsDistinct eqb (map key (passed ++ at ∷ []))

  passed_so : (start : CellAt) (passed : List CellAt) (at : CellAt) (link : Link) → Follows pages (frame_of layout) start passed at link → Passed passed at
  unfolding IsDistinct
  passed_so start passed at link follows = elim follows as (λ passed at link follows. Passed passed at) [
    | begins link is ↦ record { all = (small_place start is.place, tt); once = (tt, tt) }
    | goes_on passed at onto link next (before → earlier) leads fresh is may ↦ record {
      all = all_pushed Small (passed ++ at ∷ []) onto earlier.all (small_place onto is.place);
      once = distinct_pushed (passed ++ at ∷ []) onto earlier.all (small_place onto is.place) earlier.once fresh;
    }
  ]

  few : (start : CellAt) (passed : List CellAt) (at : CellAt) (link : Link) → ¬ ¬ Follows pages (frame_of layout) start passed at link → length passed ≤ 264241152
  few start passed at link on =
      most_by (length passed) 264241152 (λ many. on (λ follows.
      let so = passed_so start passed at link follows in
      let short = length-le_from_distinct_below (map key (passed ++ at ∷ [])) 264241152 so.once (below_all (passed ++ at ∷ []) so.all) in
      many (omega (arith, short, length_map key (passed ++ at ∷ []), pushed passed at))))

  -- ---- the walk

  module _ (start : CellAt) (first : Cell) (stands : IsOnTable pages layout start first) (head : ¬ ¬ IsChainHead pages (frame_of layout) start (link_to first)) where
    -- the cells that were passed, and one that was come to
    record ComesTo (passed : List PlacedCell) (last : PlacedCell) : Type 0 where
      path : Path pages start passed last
      follows : ¬ ¬ Follows pages (frame_of layout) start (places passed) last.at (link_to last.cell)
      on : IsOnTable pages layout last.at last.cell
      all : AllByRecursion (IsOnWay pages layout start) (passed ++ last ∷ [])

    follows_first : ¬ ¬ Follows pages (frame_of layout) start [] start (link_to first)
    follows_first away = head (λ h. away (begins (link_to first) h.0))

    first_come : ComesTo [] (record { at = start; cell = first })
    first_come = record {
      path = ways.begins first stands.stands;
      follows = follows_first;
      on = stands;
      all = (record { on = stands; behind = λ away. follows_first (λ follows. away ([], follows)) }, tt);
    }

    in_chain : (passed : List CellAt) (at : CellAt) (link : Link) → ¬ ¬ Follows pages (frame_of layout) start passed at link
        → ((is : IsInChain pages (frame_of layout) start at link) → is.passed ≡ passed → ⊥) → ⊥
    in_chain passed at link on away = head (λ h. on (λ follows. away (record { first = link_to first; begins = h; passed = passed; follows = follows }) refl))

    module _ (passed : List PlacedCell) (last : PlacedCell) (is : ComesTo passed last) (onto : CellAt) (leads : last.cell.head.next ≡ Some onto) where
      -- it leads to no cell that may not follow
      not_wrong : ¬ ((next : Link) → IsLink pages (frame_of layout) onto next → may_follow last.cell.head.kind next.kind ≡ false)
      not_wrong wrong = in_chain (places passed) last.at (link_to last.cell) is.follows (λ chain same.
          no_cell pages layout laid none last.at (inr (inr (inr (inl (record { start = start; link = link_to last.cell; is = chain; onto = onto; leads = leads; wrong = inl wrong }))))))

      -- nor back
      not_back : ¬ Contains (places (passed ++ last ∷ [])) onto
      not_back twice = in_chain (places passed) last.at (link_to last.cell) is.follows (λ chain same.
          no_cell pages layout laid none last.at (inr (inr (inr (inl (record {
            start = start;
            link = link_to last.cell;
            is = chain;
            onto = onto;
            leads = leads;
            wrong = inr (inl (subst (λ ps. Contains (ps ++ last.at ∷ []) onto) (sym same) (subst (λ ps. Contains ps onto) (map_pushed (λ (c : PlacedCell). c.at) passed last) twice)));
          }))))))

      used : Used pages layout laid onto
      used =
          ⊎_elim (λ there. there)
          (λ nothing. absurd (not_wrong (λ next link. let of = link_used pages layout laid none onto next link in absurd (nothing (of.cell, of.on)))))
          (used_or_not pages layout laid onto)

      may : may_follow last.cell.head.kind used.0.head.kind ≡ true
      may =
          ⊎_elim (λ so. so)
          (λ wrong. absurd (not_wrong (λ next link.
          let of = link_used pages layout laid none onto next link in
          let same : of.cell ≡ used.0 = one_stands pages onto of.cell used.0 of.on.stands used.1.stands in
          subst (λ kind. may_follow last.cell.head.kind kind ≡ false) (ap (λ (c : Cell). c.head.kind) (sym same) ∙ ap (λ (l : Link). l.kind) of.same) wrong)))
          (cases_Bool (may_follow last.cell.head.kind used.0.head.kind))

      next_follows : ¬ ¬ Follows pages (frame_of layout) start (places (passed ++ last ∷ [])) onto (link_to used.0)
      next_follows = subst (λ ps. ¬ ¬ Follows pages (frame_of layout) start ps onto (link_to used.0)) (sym (map_pushed (λ (c : PlacedCell). c.at) passed last))
          (λ away. head (λ h. is.follows (λ follows.
          follows_on pages layout laid none start (link_to first) h (places passed) last.at onto last.cell used.0 follows leads used.1.stands away)))

      next_comes : ComesTo (passed ++ last ∷ []) (record { at = onto; cell = used.0 })
      next_comes = record {
        path = ways.goes_on passed last onto used.0 is.path leads not_back used.1.stands may;
        follows = next_follows;
        on = used.1;
        all = all_pushed (IsOnWay pages layout start) (passed ++ last ∷ []) (record { at = onto; cell = used.0 }) is.all (record {
          on = used.1;
          behind = λ away. next_follows (λ follows. away (places (passed ++ last ∷ []), follows));
        });
      }

    walk : (n : ℕ) (passed : List PlacedCell) (last : PlacedCell) → ComesTo passed last → 264241152 < n + length passed → Walked pages layout start
    walk zero passed last is enough =
        let short = few start (places passed) last.at (link_to last.cell) is.follows in
        absurd (omega (arith, short, enough, length_map (λ (c : PlacedCell). c.at) passed))
    walk (suc n) passed last is enough =
        by_next (λ onto leads. walk n (passed ++ last ∷ []) (record { at = onto; cell = (used passed last is onto leads).0 }) (next_comes passed last is onto leads) (omega (arith, enough, pushed passed last)))
        (last.cell.head.next) refl
      where
        by_next : ((onto : CellAt) → last.cell.head.next ≡ Some onto → Walked pages layout start) → (o : Option CellAt) → last.cell.head.next ≡ o → Walked pages layout start
        by_next more None ends = record { cells = passed ++ last ∷ []; chain = record { passed = passed; last = last; path = is.path; ends = ends; all = refl }; all = is.all }
        by_next more (Some onto) leads = more onto leads

    pub walked : Walked pages layout start
    walked = walk 264241153 [] (record { at = start; cell = first }) first_come (omega arith)
