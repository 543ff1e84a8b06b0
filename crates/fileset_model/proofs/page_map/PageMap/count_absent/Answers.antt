use mir.Val.{bool_byte}
use Rattle.std.proofs.Common.{refl, ◌≡◌, ℕ, List, ◌+◌, ◌-◌, ◌/◌, ◌≤◌, Bool, true, false, not, cond, count_by, ap, sym, ◌∙◌, arith}
use Rattle.std.specs.List.{range_with_len}
use Rattle.std.specs.Ordering.{nat_cmp}
use Rattle.std.specs.FinMap.{contains_key, from_sorted}
use Rattle.fileset_model.proofs.PageLemmas.{count_by-range_with_len_more}
use Rattle.fileset_model.proofs.page_map.PageMap.count_absent.Goals as goal

at_most_one : (b : Bool) → cond b 1 0 ≤ 1
at_most_one true = omega arith
at_most_one false = omega arith

as_number : (b : Bool) → bool_byte b ≡ cond b 1 0
as_number true = refl
as_number false = refl

pub loop-q-preserved : goal.loop-q-preserved
loop-q-preserved c =
    let first = c.args.offset / 8192 in
    let q = c.loop-q.q in
    let is_absent : ℕ → Bool = λ n. not (contains_key c.args.self.now n) in
    let one_more : (q - first) + 1 ≡ q + 1 - first = omega arith in
    let next : first + (q - first) ≡ q = omega arith in
    let tested : c.is_absent.result ≡ is_absent q =
    c.is_absent.ensures
    ∙ ap (λ (es : List (ℕ × List ℕ)). not (contains_key (from_sorted {R = nat_cmp} es) q)) c.deref.ensures.value
    ∙ ap (λ pages. not (contains_key pages q)) c.self.view_is in
    let added : c.from-absent.result ≡ cond (is_absent q) 1 0 = c.from-absent.ensures ∙ as_number c.is_absent.result ∙ ap (λ b. cond b 1 0) tested in
    let few : c.from-absent.result ≤ 1 = rw added (at_most_one (is_absent q)) in
    record {
      counted = ap (λ n. n + c.from-absent.result) c.loop-q.invariant.counted
          ∙ ap (λ k. count_by is_absent (range_with_len first (q - first)) + k) added
          ∙ sym (count_by-range_with_len_more is_absent first (q - first) q next)
          ∙ ap (λ n. count_by is_absent (range_with_len first n)) one_more;
      few = omega arith;
    }
