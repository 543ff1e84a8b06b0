use Rattle.std.proofs.Common.{◌≡◌, ℕ, List, [], ◌∷◌, ◌++◌, ◌+◌, ◌-◌, ◌/◌, map, ap, sym, ◌∙◌, arith}
use Rattle.std.specs.List.{range_with_len}
use Rattle.std.specs.Ordering.{nat_cmp}
use Rattle.std.specs.FinMap.{from_sorted}
use Rattle.std.proofs.lemmas.List.FromFn.{map-range_with_len_more}
use Rattle.fileset_model.specs.Pages.{page_after}
use Rattle.fileset_model.proofs.page_map.pages_after.Goals as goal

-- one page more is one number more in the range
pub loop-q-preserved : goal.loop-q-preserved
loop-q-preserved c =
    let first = c.args.offset / 8192 in
    let q = c.loop-q.q in
    let after : ℕ → ℕ × List ℕ = λ n. (n, page_after (from_sorted {R = nat_cmp} c.args.pages.now) c.args.offset c.args.bytes.now n) in
    let one_more : (q - first) + 1 ≡ q + 1 - first = omega arith in
    let next : first + (q - first) ≡ q = omega arith in
    c.in_ok-push.ensures.items
    ∙ ap (λ (l : List (ℕ × List ℕ)). l ++ (q, c.in_ok-page.page) ∷ []) c.loop-q.invariant
    ∙ ap (λ (page : List ℕ). map after (range_with_len first (q - first)) ++ (q, page) ∷ []) c.in_ok-page.ensures
    ∙ sym (map-range_with_len_more after first (q - first) q next)
    ∙ ap (λ n. map after (range_with_len first n)) one_more
