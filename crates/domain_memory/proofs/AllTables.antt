-- The tables of cells of all members, one volume more at a time.
use Rattle.std.proofs.Common.{◌≡◌, ◌∙◌, ℕ, ◌+◌, ◌<◌, ◌≤◌, ◌↔◌, Bool, true, false, cond, nat_eq, List, [], length, Contains, take_all, refl, sym, ap, subst, arith, ⊎_elim}
use Rattle.std.proofs.lemmas.Bool.{cases_lt, eq-eqb, ne_eqb}
use Rattle.standing_laws.specs.domain_base.declared.place.CellAt.{CellAt}
use Rattle.standing_laws.specs.page_store.Pages.{Pages}
use Rattle.standing_laws.specs.log_ring.Homes.{IsMember, member_of}
use Rattle.standing_laws.specs.free_cells.Belong.{Belong}
use Rattle.standing_laws.specs.free_cells.Cells.{Cells, Holds, is_closed, is_free, kept_of, table_of}
use Rattle.standing_laws.specs.free_cells.VolumeTable.{nothing_kept}
use Rattle.standing_laws.specs.domain_layout.Layout.{IsCellTable, IsLayout, Layout}
use Rattle.standing_laws.specs.domain_layout.Owners.{frame_of}
use Rattle.standing_laws.specs.domain_layout.Reached.{Frame, first_cells}
use Rattle.standing_laws.proofs.OfDomainLayout.Reached.{member_or_none}
use Rattle.standing_laws.specs.domain_standing.Space.{AreCellsOf, IsFreeAt}
use Rattle.domain_memory.specs.Tables.{AreReadBelow, IsFreeOn, IsTableRead, ReadsTable}
use Rattle.domain_memory.proofs.OneTable.{one_table}

none_in : (xs : List ℕ) (x : ℕ) → xs ≡ [] → Contains xs x → ⊥
none_in xs x none (k, within, is) = let e : length xs ≡ 0 = ap (length {A = ℕ}) none in omega (arith, e, within)

pub no_table : (pages : Pages) (frame : Frame) (cells : Cells) → Holds (λ _. []) (λ _. false) (λ _. false) (λ _. nothing_kept) cells → Belong cells pages → AreReadBelow pages frame 1 cells
no_table pages frame cells holds belong = record {
  read = record {
    belong = belong;
    free = λ at. (
      (λ free. let e : false ≡ true = sym (holds.cells at) ∙ free in absurd (cc)),
      (λ on. absurd (none_in (table_of cells at.vol) at.page (holds.tables at.vol) on.table)),
    );
  };
  members = λ vol low member. let first = member.first in absurd (omega (arith, low, first));
  others = λ vol none. holds.tables vol;
  later = λ vol past. (holds.tables vol, holds.marks vol);
}

module _ (pages : Pages) (frame : Frame) (vol : ℕ) (old : Cells) (below : AreReadBelow pages frame vol old) (member : IsMember frame.anchor vol) (table : List ℕ)
    (is : IsCellTable pages vol (first_cells frame vol) table) (mid : Cells) (reads : ReadsTable pages vol (length table) table old mid) where
  mid_table : table_of mid vol ≡ table
  mid_table = reads.here ∙ take_all (length table) table (omega arith)

  with_marks : (new : Cells) → ((other : ℕ) → table_of new other ≡ table_of mid other) → ((at : CellAt) → is_free new at ≡ is_free mid at) → Belong new pages
      → ((is_closed new vol ≡ true) ↔ ¬ (member_of frame.anchor vol).state ≡ 1) → ((other : ℕ) → ¬ other ≡ vol → is_closed new other ≡ is_closed mid other)
      → AreReadBelow pages frame (vol + 1) new
  with_marks new tables free belong closed marks = record {
    read = record { belong = belong; free = λ at. ((λ is. to_new at ((reads.read.free at).0 (sym (free at) ∙ is))), (λ on. free at ∙ (reads.read.free at).1 (to_mid at on))) };
    members = λ other low is. ⊎_elim (λ less. earlier other less is)
        (λ high. let same : vol ≡ other = omega (arith, low, high) in subst (λ (v : ℕ). IsTableRead pages frame v new) same this) (cases_lt other vol);
    others = λ other none. tables other ∙ reads.others other (λ same. none (subst (IsMember frame.anchor) (sym same) member)) ∙ below.others other none;
    later = λ other past.
        let apart : ¬ other ≡ vol = (λ same. omega (arith, past, same)) in
        let was = below.later other (omega (arith, past)) in
        (tables other ∙ reads.others other apart ∙ was.0, marks other apart ∙ reads.marks other ∙ was.1);
  }
    where
      to_new : (at : CellAt) → IsFreeOn mid pages at → IsFreeOn new pages at
      to_new at on = record { table = subst (λ (t : List ℕ). Contains t at.page) (sym (tables at.vol)) on.table; within = on.within; free = on.free }

      to_mid : (at : CellAt) → IsFreeOn new pages at → IsFreeOn mid pages at
      to_mid at on = record { table = subst (λ (t : List ℕ). Contains t at.page) (tables at.vol) on.table; within = on.within; free = on.free }

      this : IsTableRead pages frame vol new
      this = record { table = subst (IsCellTable pages vol (first_cells frame vol)) (sym (tables vol ∙ mid_table)) is; closed = closed }

      earlier : (other : ℕ) → other < vol → IsMember frame.anchor other → IsTableRead pages frame other new
      earlier other less of_other =
          let apart : ¬ other ≡ vol = (λ same. omega (arith, less, same)) in
          let was = below.members other less of_other in
          record {
            table = subst (IsCellTable pages other (first_cells frame other)) (sym (tables other ∙ reads.others other apart)) was.table;
            closed = subst (λ (b : Bool). (b ≡ true) ↔ ¬ (member_of frame.anchor other).state ≡ 1) (sym (marks other apart ∙ reads.marks other)) was.closed;
          }

  pub read_closed : (new : Cells) → (member_of frame.anchor vol).state ≡ 2
      → Holds (table_of mid) (λ v. cond (nat_eq v vol) true (is_closed mid v)) (is_free mid) (kept_of mid) new → Belong new pages → AreReadBelow pages frame (vol + 1) new
  read_closed new state holds belong =
      with_marks new holds.tables holds.cells belong
      ((λ _ opened. omega (arith, state, opened)), (λ _. holds.marks vol ∙ ap (λ b. cond b true (is_closed mid vol)) (eq-eqb vol vol refl)))
      (λ other apart. holds.marks other ∙ ap (λ b. cond b true (is_closed mid other)) (ne_eqb other vol apart))

  pub read_open : ¬ (member_of frame.anchor vol).state ≡ 2 → AreReadBelow pages frame (vol + 1) mid
  read_open state =
      with_marks mid (λ _. refl) (λ _. refl) reads.read.belong (
        (λ closed. let e : false ≡ true = sym (reads.marks vol ∙ (below.later vol (omega arith)).1) ∙ closed in absurd (cc)),
        (λ closed. absurd (both closed)),
      )
      (λ _ _. refl)
    where
      both : ¬ (member_of frame.anchor vol).state ≡ 1 → ⊥
      both closed =
          ⊎_elim (λ low. closed (let first = member.there in omega (arith, low, first)))
          (λ high. state (let last = member.whole in omega (arith, high, last))) (cases_lt (member_of frame.anchor vol).state 2)

module _ (pages : Pages) (layout : Layout) (laid : IsLayout pages layout) (number : ℕ) (far : 9 ≤ number) (cells : Cells) (read : AreReadBelow pages (frame_of layout) number cells) where
  read_at : (vol : ℕ) → IsMember layout.anchor vol → IsTableRead pages (frame_of layout) vol cells
  read_at vol member = let last = member.last in read.members vol (omega (arith, last, far)) member

  tables : (vol : ℕ) → IsMember layout.anchor vol → table_of cells vol ≡ layout.cells vol
  tables vol member = one_table pages vol (first_cells (frame_of layout) vol) (table_of cells vol) (layout.cells vol) (read_at vol member).table (laid.cells vol member)

  to_layout : (at : CellAt) → IsFreeOn cells pages at → IsFreeAt pages layout at
  to_layout at on =
      let member = ⊎_elim (λ is. is) (λ none. absurd (none_in (table_of cells at.vol) at.page (read.others at.vol none) on.table)) (member_or_none layout.anchor at.vol) in
      record { member = member; table = subst (λ (t : List ℕ). Contains t at.page) (tables at.vol member) on.table; within = on.within; free = on.free }

  of_layout : (at : CellAt) → IsFreeAt pages layout at → IsFreeOn cells pages at
  of_layout at is = record { table = subst (λ (t : List ℕ). Contains t at.page) (sym (tables at.vol is.member)) is.table; within = is.within; free = is.free }

  cells_of : AreCellsOf pages layout cells
  cells_of = record {
    tables = tables;
    others = read.others;
    closed = λ vol member. (read_at vol member).closed;
    free = λ at. ((λ free. to_layout at ((read.read.free at).0 free)), (λ is. (read.read.free at).1 (of_layout at is)));
  }

pub all_cells : (pages : Pages) (frame : Frame) (number : ℕ) (cells : Cells) → 9 ≤ number → AreReadBelow pages frame number cells → (layout : Layout) → IsLayout pages layout → frame_of layout ≡ frame → AreCellsOf pages layout cells
all_cells pages frame number cells far read layout laid same =
    cells_of pages layout laid number far cells (subst (λ (f : Frame). AreReadBelow pages f number cells) (sym same) read)
