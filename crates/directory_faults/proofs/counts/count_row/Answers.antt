use Rattle.std.proofs.Common.{◌≡◌, ◌∙◌, ◌+◌, ℕ, Bool, true, false, cond, Option, Some, refl, ap, arith}
use Rattle.std.specs.Prelude.{unwrap_or}
use Rattle.std.specs.BTreeMap.{BTreeMap, get, is_at}
use Rattle.fileset_shapes.specs.domain_base.declared.place.Kind.{Kind}
use Rattle.fileset_shapes.specs.domain_base.declared.place.Tag.{Tag}
use Rattle.directory_faults.specs.Counts.{count_in}
use Rattle.directory_faults.specs.Wrong.{kind_order}
use Rattle.directory_faults.proofs.LedWrong.{same_at}
use Rattle.directory_faults.proofs.counts.count_row.Goals as goal

-- a key with one more is counted, and all others are as before
one_more : (old new : BTreeMap (Tag × Kind) ℕ) (key : Tag × Kind) (count : ℕ) → count ≡ count_in old key.0 key.1
    → ((q : Tag × Kind) → get kind_order new q ≡ cond (is_at (kind_order key) q) (Some (count + 1)) (get kind_order old q))
    → (tag : Tag) (of : Kind) → count_in new tag of ≡ count_in old tag of + cond (is_at (kind_order key) (tag, of)) 1 0
one_more old new key count was updates tag of = by_test (is_at (kind_order key) (tag, of)) refl (updates (tag, of))
  where
    by_test : (b : Bool) → is_at (kind_order key) (tag, of) ≡ b → get kind_order new (tag, of) ≡ cond b (Some (count + 1)) (get kind_order old (tag, of)) → count_in new tag of ≡ count_in old tag of + cond b 1 0
    by_test true right put =
        let same = (same_at key tag of).0 right in
        let counted : count_in new tag of ≡ count + 1 = ap (λ (o : Option ℕ). unwrap_or o 0) put in
        let before : count ≡ count_in old tag of = was ∙ (λ i. count_in old (same.0 i) (same.1 i)) in
        omega (arith, counted, before)
    by_test false wrong put =
        let counted : count_in new tag of ≡ count_in old tag of = ap (λ (o : Option ℕ). unwrap_or o 0) put in
        omega (arith, counted)

pub returns : goal.returns
returns c tag of =
    let row = c.args.row.now in
    one_more c.args.counts.now c.insert.new.self (row.row.tag, row.row.kind) c.count_of-count.result c.count_of-count.ensures c.in_ok-insert.ensures.updates.0 tag of
