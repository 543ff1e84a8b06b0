use borrow.Rule.Slice.PartMut.{mid_of, put_mid, put_same, same_len_mid, mid_len}
use Rattle.std.proofs.Common.{◌≡◌, ◌∙◌, ℕ, ◌+◌, ◌-◌, ◌*◌, ◌≤◌, List, Some, length, sym, ap, subst, arith, ⊎_elim}
use Rattle.std.proofs.lemmas.Bool.{cases_lt}
use Rattle.std.specs.Cmp.Lexicographic.{same_text}
use Rattle.std.specs.Prelude.{option_copied}
use Rattle.attached_domain.specs.staged_pages.Store.{pages_of}
use Rattle.domain_attaching.specs.Closing.{page_in}
use Rattle.domain_attaching.proofs.Rows.{laid_behind, laid_front, laid_here}
use Rattle.domain_attaching.proofs.row.lay_changed.Goals as goal

pub loop-k-preserved : goal.loop-k-preserved
loop-k-preserved c =
    let k = c.loop-k.k in
    let found = c.loop-k.found in
    let so = c.loop-k.invariant in
    let bytes : List ℕ = c.copy_from_slice.new.self in
    let page : bytes ≡ c.in-Some.page.now = c.copy_from_slice.ensures.after ∙ c.bytes-in-loop-k.ensures.value in
    let whole : length bytes ≡ 8192 = ap (length {A = ℕ}) c.copy_from_slice.ensures.after ∙ c.bytes-in-loop-k.ensures.len in
    let n : ℕ = k * 8192 + 8192 - k * 8192 in
    let size : n ≡ 8192 = omega arith in
    let fits : 8192 * k + 8192 ≤ length found = omega (arith, so.size, c.loop-k-test.true) in
    record {
      low = omega (arith, so.low);
      high = omega (arith, c.loop-k-test.true);
      size = same_len_mid (k * 8192) n found bytes (whole ∙ sym size ∙ sym (mid_len (k * 8192) (k * 8192 + 8192) found (omega (arith, fits)))) ∙ so.size;
      laid = λ j low below.
          ⊎_elim (λ less. so.laid j low less ∙ ap (λ (l : List ℕ). Some l) (sym (laid_front found bytes k n size fits whole j less)))
          (λ last.
          let same : j ≡ k = omega (arith, last, below) in
          subst (λ (i : ℕ). pages_of c.args.pages.now (record { vol = c.args.vol; page = c.args.first + i }) ≡ Some (page_in (put_mid (k * 8192) n found bytes) i)) (sym same)
          (sym c.get.ensures ∙ ap option_copied c.in-Some.is ∙ ap (λ (l : List ℕ). Some l) (sym page ∙ sym (laid_here found bytes k n size fits whole))))
          (cases_lt j k);
      rest = λ j behind. laid_behind found bytes k n size fits whole j (omega (arith, behind)) ∙ so.rest j (omega (arith, behind));
    }

pub returns-then-eq-clause-laid : goal.returns-then-eq-clause-laid
returns-then-eq-clause-laid c = λ j low high inside.
    let k = c.loop-k.k in
    let found = c.loop-k.found in
    let so = c.loop-k.invariant in
    let n : ℕ = k * 8192 + 8192 - k * 8192 in
    let still : put_mid (k * 8192) n found (mid_of (k * 8192) n found) ≡ found = put_same (k * 8192) n found in
    let at : k * 8192 ≡ 8192 * k = omega arith in
    let read : c.in-Some.page.now ≡ mid_of (k * 8192) n found = sym (same_text (mid_of (k * 8192) n found) c.bytes.result.now (sym c.if-eq.true ∙ c.eq.ensures) ∙ c.bytes.ensures.value) in
    let here : mid_of (k * 8192) n found ≡ page_in found k = ap (λ (a : ℕ). mid_of a (a + 8192 - a) found) at in
    ⊎_elim (λ less. so.laid j low less ∙ ap (λ (l : List ℕ). Some (page_in l j)) (sym still))
    (λ last.
    let same : j ≡ k = omega (arith, last, high) in
    subst (λ (i : ℕ). pages_of c.args.pages.now (record { vol = c.args.vol; page = c.args.first + i }) ≡ Some (page_in (put_mid (k * 8192) n found (mid_of (k * 8192) n found)) i)) (sym same)
    (sym c.get.ensures ∙ ap option_copied c.in-Some.is ∙ ap (λ (l : List ℕ). Some l) (read ∙ here ∙ ap (λ (l : List ℕ). page_in l k) (sym still))))
    (cases_lt j k)
