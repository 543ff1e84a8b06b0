use Rattle.std.proofs.Common.{◌≡◌, ◌∙◌, ◌⊎◌, ◌↔◌, ℕ, List, None, Contains, IsTrue, length, map, nat_eq, sym, ap, subst, arith}
use Rattle.std.proofs.lemmas.Bool.{both_ways, eqb-true, false_from_ne_true, not_from_false}
use Rattle.page_faults.specs.domain_base.declared.place.Home.{Home}
use Rattle.page_faults.specs.sorted_sets.Members.{IsIn}
use Rattle.page_faults.specs.sorted_sets.declared.home_set.HomeSet.{HomeSet}
use Rattle.page_faults.specs.page_ways.Frame.{frame_in}
use Rattle.index_row_faults.specs.Counts.{AreCounts}
use Rattle.index_row_faults.specs.Entries.{IsLateBefore, entries_on}
use Rattle.index_row_faults.specs.Totals.{IsShort, IsSurplusAt, IsWrongBy, key_of}
use Rattle.index_row_faults.specs.declared.entries.EntryAt.{EntryAt}
use Rattle.index_row_faults.proofs.OneIndex.{first_put, is_lacking, none_put, other_total, surplus_put}
use Rattle.index_row_faults.proofs.wrong.insert_of_index.Goals as goal
use Rattle.index_row_faults.proofs.wrong.insert_of_index.Goals.{then-index-len, else-index-len, then-is_wrong+then-is_whole+in_ok-insert, else-is_wrong, else-is_wrong-via-then-is_wrong+else-is_whole, else-is_wrong-via-else-is_wrong}

pub returns-clause-read : goal.returns-clause-read
returns-clause-read g c = record { homes = c.in_ok-read.read.homes.items; unread = c.in_ok-read.read.unread; read = c.in_ok-read.ensures }

pub returns-clause-told : goal.returns-clause-told
returns-clause-told g c =
    let keys = c.args.keys.now in
    let index = c.args.index.now in
    let pages = g.M.MetaPages.pages c.args.pages.now in
    let frame = frame_in c.args.frame.now in
    let homes : List Home = c.in_ok-read.read.homes.items in
    let unread = c.in_ok-read.read.unread in
    let entries : List EntryAt = entries_on pages homes in
    let in_rows = c.in_ok-in_rows.in_rows in
    let in_entries = c.in_ok-in_entries.in_entries in
    let old = IsIn c.args.found.now in
    let mid = IsIn c.insert_surplus.new.found in
    let found = c.if-is_wrong.found in
    let entries_are : c.in_ok-entries.entries.items ≡ entries = c.in_ok-entries.ensures ∙ ap (entries_on pages) c.deref.ensures.value in
    let keys_are = c.deref-3.ensures.value ∙ c.in_ok-keys_in.ensures ∙ ap (map key_of) (c.deref-2.ensures.value ∙ entries_are) in
    let of_entries = subst (λ (l : List (ℕ × ℕ)). AreCounts l in_entries) keys_are c.in_ok-in_entries.ensures in
    let of_rows = c.in_ok-in_rows.ensures in
    let late = subst (λ (l : List EntryAt). (home : Home) → IsIn c.insert_late.new.found home ↔ (old home ⊎ IsLateBefore l (length l) home)) (c.deref-4.ensures.value ∙ entries_are) c.in_ok-insert_late.ensures in
    let surplus = subst (λ (l : List EntryAt). (home : Home) → mid home ↔ (IsIn c.insert_late.new.found home ⊎ ((at : EntryAt) × Contains l at × IsSurplusAt in_rows in_entries at home))) (c.deref-5.ensures.value ∙ entries_are)
    c.in_ok-insert_surplus.ensures in
    let put = surplus_put keys entries in_rows in_entries of_rows of_entries old (IsIn c.insert_late.new.found) mid late surplus in
    let counted : length c.in_ok-entries.entries.items ≡ length entries = ap (λ (l : List EntryAt). length l) entries_are in
    let long : c.len.result ≡ length entries = omega (arith, c.len.ensures, c.in_ok-entries.entries.ok.0, counted) in
    let short : IsTrue c.if-index-len.is_wrong ↔ IsShort keys entries index.total = elim c.if-index-len.branch [
      | then-index-len w ↦ (
        (λ is. other_total keys entries in_rows in_entries of_rows of_entries index.total (λ same. w.if-index-len.true (same ∙ sym long))),
        (λ short. w.is_wrong-is ∙ not_from_false (nat_eq index.total c.len.result) (false_from_ne_true (nat_eq index.total c.len.result) (λ same. w.if-index-len.true (eqb-true index.total c.len.result same)))),
      )
      | else-index-len w ↦ subst (λ b. IsTrue b ↔ IsShort keys entries index.total) (sym w.is_wrong-is)
          (is_lacking keys entries in_rows in_entries of_rows of_entries index.total w.lacks_entries-is_wrong.result (w.if-index-len.false ∙ long) w.lacks_entries-is_wrong.ensures)
    ] in
    elim c.if-is_wrong.branch [
      | then-is_wrong+then-is_whole+in_ok-insert w ↦
          let whole = w.is_whole.ensures.0 w.if-is_whole.true in
          subst (λ (s : HomeSet). (home : Home) → IsIn s home ↔ (old home ⊎ IsWrongBy pages frame keys index home)) (sym w.found-is)
          (first_put pages frame keys index homes unread c.in_ok-read.ensures old mid (IsIn w.insert.new.self) put (whole.0, whole.1, short.0 w.if-is_wrong.true) w.in_ok-insert.ensures.ok)
      | else-is_wrong w ↦
          subst (λ (s : HomeSet). (home : Home) → IsIn s home ↔ (old home ⊎ IsWrongBy pages frame keys index home)) (sym w.found-is)
          (none_put pages frame keys index homes unread c.in_ok-read.ensures old mid mid put
          (λ bad. elim w.else-is_wrong.branch [
            | else-is_wrong-via-then-is_wrong+else-is_whole v ↦ both_ways v.is_whole.result v.if-is_whole.false (v.is_whole.ensures.1 (bad.0, bad.1))
            | else-is_wrong-via-else-is_wrong v ↦ both_ways c.if-index-len.is_wrong v.if-is_wrong.false (short.1 bad.2)
          ])
          (λ home. ((λ is. is), (λ is. is))))
    ]
