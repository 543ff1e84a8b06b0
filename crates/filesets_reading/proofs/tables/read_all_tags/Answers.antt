use Rattle.std.proofs.Common.{◌≡◌, ◌∙◌, ℕ, ◌++◌, ◌∷◌, [], length, List, IsSomeAnd, slice_get, sym, ap, subst, arith, ⊎_elim}
use Rattle.std.proofs.lemmas.Bool.{cases_lt}
use Rattle.domain_layout.specs.tag_dirs.declared.dir.TagPlace.{TagPlace}
use Rattle.filesets_reading.specs.Tables.{HasTagsOf}
use Rattle.filesets_reading.proofs.Ways.{get_front, get_seam, pushed}
use Rattle.filesets_reading.proofs.tables.read_all_tags.Goals as goal

pub loop-number-preserved : goal.loop-number-preserved
loop-number-preserved g c =
    let pages = g.M.MetaPages.pages c.args.pages.now in
    let old = c.loop-number.tags.items in
    let dir = c.in_ok-read_slot_tags.field-0 in
    let has : HasTagsOf pages c.args.filesets.now c.loop-number.number dir =
    subst (λ (n : ℕ). HasTagsOf pages c.args.filesets.now n dir) c.in-Some.ensures.value c.in_ok-read_slot_tags.ensures in
    let at_end : IsSomeAnd (slice_get (old ++ dir ∷ []) c.loop-number.number) (HasTagsOf pages c.args.filesets.now c.loop-number.number) =
    subst (λ (n : ℕ). IsSomeAnd (slice_get (old ++ dir ∷ []) n) (HasTagsOf pages c.args.filesets.now c.loop-number.number)) c.loop-number.invariant.count
    (subst (λ o. IsSomeAnd o (HasTagsOf pages c.args.filesets.now c.loop-number.number)) (sym (get_seam old dir)) has) in
    record {
      count = ap (length {A = List TagPlace}) c.in_ok-push.ensures.items ∙ pushed old dir ∙ omega (arith, c.loop-number.invariant.count);
      each = λ k below.
          subst (λ (ts : List (List TagPlace)). IsSomeAnd (slice_get ts k) (HasTagsOf pages c.args.filesets.now k)) (sym c.in_ok-push.ensures.items)
          (⊎_elim (λ less.
          subst (λ o. IsSomeAnd o (HasTagsOf pages c.args.filesets.now k)) (sym (get_front old (dir ∷ []) k (omega (arith, less, c.loop-number.invariant.count)))) (c.loop-number.invariant.each k less))
          (λ high.
          let last : c.loop-number.number ≡ k = omega (arith, below, high) in
          subst (λ (n : ℕ). IsSomeAnd (slice_get (old ++ dir ∷ []) n) (HasTagsOf pages c.args.filesets.now n)) last at_end)
          (cases_lt k c.loop-number.number));
    }
