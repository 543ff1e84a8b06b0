use borrow.Rule.Slice.PartMut.{put_mid, same_len_mid, mid_len}
use Rattle.std.proofs.Common.{◌≡◌, ◌∙◌, ℕ, ◌+◌, ◌-◌, ◌*◌, ◌≤◌, List, Some, length, sym, ap, subst, arith, ⊎_elim}
use Rattle.std.proofs.lemmas.Bool.{cases_lt}
use Rattle.std.specs.Prelude.{option_copied}
use Rattle.attached_domain.specs.staged_pages.Store.{pages_of}
use Rattle.domain_attaching.specs.Closing.{page_in}
use Rattle.domain_attaching.proofs.Rows.{laid_front, laid_here}
use Rattle.domain_attaching.proofs.row.lay_all.Goals as goal

pub loop-k-preserved : goal.loop-k-preserved
loop-k-preserved c =
    let k = c.loop-k.k in
    let found = c.loop-k.found in
    let so = c.loop-k.invariant in
    let bytes : List ℕ = c.copy_from_slice.new.self in
    let page : bytes ≡ c.in-Some.page.now = c.copy_from_slice.ensures.after ∙ c.bytes.ensures.value in
    let whole : length bytes ≡ 8192 = ap (length {A = ℕ}) c.copy_from_slice.ensures.after ∙ c.bytes.ensures.len in
    let n : ℕ = k * 8192 + 8192 - k * 8192 in
    let size : n ≡ 8192 = omega arith in
    let fits : 8192 * k + 8192 ≤ length found = omega (arith, so.size, c.loop-k-test.true) in
    record {
      high = omega (arith, c.loop-k-test.true);
      size = same_len_mid (k * 8192) n found bytes (whole ∙ sym size ∙ sym (mid_len (k * 8192) (k * 8192 + 8192) found (omega (arith, fits)))) ∙ so.size;
      laid = λ j below.
          ⊎_elim (λ less. so.laid j less ∙ ap (λ (l : List ℕ). Some l) (sym (laid_front found bytes k n size fits whole j less)))
          (λ last.
          let same : j ≡ k = omega (arith, last, below) in
          subst (λ (i : ℕ). pages_of c.args.pages.now (record { vol = c.args.vol; page = c.args.first + i }) ≡ Some (page_in (put_mid (k * 8192) n found bytes) i)) (sym same)
          (sym c.get.ensures ∙ ap option_copied c.in-Some.is ∙ ap (λ (l : List ℕ). Some l) (sym page ∙ sym (laid_here found bytes k n size fits whole))))
          (cases_lt j k);
    }

pub returns-clause-laid : goal.returns-clause-laid
returns-clause-laid c = λ k inside. c.loop-k.invariant.laid k (omega (arith, inside, c.loop-k-test.false))
