use Rattle.std.proofs.Common.{◌≡◌, ◌∙◌, ℕ, ◌+◌, true, false, not, length, Option, Some, None, IsSome, slice_get, refl, sym, ap, subst, arith, rules, Vec, Global, vec_len}
use Rattle.std.proofs.lemmas.Option.{slice_get_read}
use Rattle.std.specs.Prelude.{is_some}
use Rattle.filesets_reading.specs.domain_base.declared.place.CellAt.{CellAt}
use Rattle.filesets_reading.specs.domain_base.declared.place.Tag.{Tag}
use Rattle.fileset_shapes.specs.Tags.{ListsOnce}
use Rattle.fileset_shapes.proofs.UsedTags.{IsUsedIn, both_end, both_more, both_used}
use Rattle.fileset_shapes.proofs.fileset_sources.tags_of_both.Goals as goal
use Rattle.fileset_shapes.proofs.fileset_sources.tags_of_both.Goals.{then-is_none+in_ok-push, else-is_none}

none_by : (o : Option CellAt) → is_some o ≡ false → o ≡ None
none_by None is = refl
none_by (Some at) is = absurd (let e : true ≡ false = is in absurd (cc))

pub loop-i-preserved : goal.loop-i-preserved
loop-i-preserved g c =
    let pages = g.M.MetaPages.pages c.args.pages.now in
    let more = c.in_ok-more.more in
    let tag = c.index-tag.result.now in
    let size : vec_len more ≡ length more.items = search rules in
    let there : slice_get more.items c.loop-i.i ≡ Some tag =
    slice_get_read more.items (vec_len more) c.loop-i.i tag size (omega (arith, c.loop-i-test.true, c.len-i-end.ensures)) c.index-tag.ensures in
    elim c.if-is_none.branch [
      | then-is_none+in_ok-push w ↦ subst (λ (v : Vec Tag Global). ListsOnce (IsUsedIn pages c.args.own.now more.items (c.loop-i.i + 1)) v.items) (sym w.tags-is)
          (subst (ListsOnce (IsUsedIn pages c.args.own.now more.items (c.loop-i.i + 1))) (sym w.in_ok-push.ensures.items)
          (both_more pages c.args.own.now c.args.behind.now more.items c.in_ok-more.ensures c.loop-i.i tag there
          (sym c.look.ensures ∙ none_by c.look.result (c.is_none.ensures ∙ ap not w.if-is_none.true)) c.loop-i.tags.items c.loop-i.invariant))
      | else-is_none w ↦ subst (λ (v : Vec Tag Global). ListsOnce (IsUsedIn pages c.args.own.now more.items (c.loop-i.i + 1)) v.items) (sym w.tags-is)
          (both_used pages c.args.own.now c.args.behind.now more.items c.in_ok-more.ensures c.loop-i.i tag there
          (subst IsSome c.look.ensures (c.is_none.ensures ∙ ap not w.if-is_none.false)) c.loop-i.tags.items c.loop-i.invariant)
    ]

pub returns : goal.returns
returns g c =
    let pages = g.M.MetaPages.pages c.args.pages.now in
    let more = c.in_ok-more.more in
    let size : vec_len more ≡ length more.items = search rules in
    let all : c.loop-i.i ≡ length more.items = omega (arith, c.loop-i-test.false, c.loop-i.auto.i-end, c.len-i-end.ensures, size) in
    both_end pages c.args.own.now c.args.behind.now more.items c.in_ok-more.ensures c.loop-i.tags.items
    (subst (λ (n : ℕ). ListsOnce (IsUsedIn pages c.args.own.now more.items n) c.loop-i.tags.items) all c.loop-i.invariant)
